-- The answers about fragments: what the definition reads, counted in the answer and stored in what was lent.
-- Assumes nothing.
use Rattle.std.specs.Prelude.{ℕ, ◌≡◌, Bool, List, map, length, Result}
use Rattle.std.proofs.lemmas.List.Edits.{sets}
use Rattle.format.specs.Got.{Got, many}
use Rattle.lists.specs.Many.{Ran}
use Rattle.lists.specs.declared.Run.{Run}
use Rattle.format.specs.Pairs as the
use Rattle.numbers.specs.Told.{told_as}
use Rattle.numbers.specs.declared.Halt.{Halt}
use Rattle.numbers.specs.declared.Read.{Read}
use Rattle.usual_fragment.specs.Usual.{seen}
use Rattle.usual_fragment.specs.declared.Fragment.{Fragment}

-- what the code answers about a fragment
abbrev pub told_fragment : Result (Read Fragment) Halt → Got the.Fragment
told_fragment r = told_as seen r

-- the columns of fragments
abbrev pub modes : List the.Fragment → List ℕ
modes fs = map (λ (f : the.Fragment). f.mode) fs

abbrev pub entries : List the.Fragment → List ℕ
entries fs = map (λ (f : the.Fragment). f.entry) fs

abbrev pub indexes : List the.Fragment → List ℕ
indexes fs = map (λ (f : the.Fragment). f.index) fs

-- the fragments in three columns
pub record Rows (fs : List the.Fragment) (ms es xs ms' es' xs' : List ℕ) : Type 0 where
  pub of-modes : ms' ≡ sets ms 0 (modes fs)
  pub of-entries : es' ≡ sets es 0 (entries fs)
  pub of-indexes : xs' ≡ sets xs 0 (indexes fs)

-- as many fragments as can be read: all are counted, and as many are written as there is room for
pub record FragmentsRead (radix : ℕ) (big : Bool) (s : List ℕ) (at : ℕ) (r : Run) (ms es xs ms' es' xs' : List ℕ) : Type 0 where
  pub ran : Ran (the.fragment radix big) s at r.count r.end
  pub stored : Rows (many (length s) (the.fragment radix big) s at).items ms es xs ms' es' xs'
