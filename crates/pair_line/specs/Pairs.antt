-- The answers about T and R lines: what the definition reads, its lists counted in the answer and stored in what was lent.
-- Assumes nothing.
use Rattle.std.specs.Prelude.{ℕ, ◌≡◌, List, [], length, Result, Ok, Err}
use Rattle.std.proofs.lemmas.List.Edits.{sets}
use Rattle.format.specs.Got.{Got, is, isnt}
use Rattle.format.specs.Pairs as the
use Rattle.fragments.specs.Fragments.{Rows}
use Rattle.numbers.specs.Told.{code}
use Rattle.numbers.specs.declared.Halt.{Halt}
use Rattle.pair_line.specs.declared.content.Content.{Content}
use Rattle.pair_line.specs.declared.relocations.Relocation.{Relocation}

-- a number, and how many things stand in a list
pub data Sized : Type 0 where
  sized : (number count : ℕ) → Sized

-- the content's bytes; none where it was not read
abbrev pub bytes_in : Got the.Content → List ℕ
bytes_in (is c u) = c.bytes
bytes_in (isnt r p) = []

-- a T line with its bytes counted
abbrev pub counted : Got the.Content → Got Sized
counted (is c u) = is (sized c.address (length c.bytes)) u
counted (isnt r p) = isnt r p

-- what the code answers about a T line
abbrev pub told_content : Result Content Halt → Got Sized
told_content (Ok c) = is (sized c.address c.count) c.used
told_content (Err h) = isnt (code h.reason) h.at

-- the answer tells m, and as many bytes of what was read are written as there is room for
pub record Contents (m read : Got the.Content) (room : List ℕ) (r : Result Content Halt) (left : List ℕ) : Type 0 where
  pub answered : told_content r ≡ counted m
  pub stored : left ≡ sets room 0 (bytes_in read)

-- the fragments; none where the line was not read
abbrev pub fragments_in : Got the.Relocation → List the.Fragment
fragments_in (is c u) = c.fragments
fragments_in (isnt r p) = []

-- an R line with its fragments counted
abbrev pub numbered : Got the.Relocation → Got Sized
numbered (is c u) = is (sized c.area (length c.fragments)) u
numbered (isnt r p) = isnt r p

-- what the code answers about an R line
abbrev pub told_relocation : Result Relocation Halt → Got Sized
told_relocation (Ok c) = is (sized c.area c.count) c.used
told_relocation (Err h) = isnt (code h.reason) h.at

-- the answer tells m, and as many of its fragments are written as there is room for
pub record Relocations (m : Got the.Relocation) (r : Result Relocation Halt) (ms es xs ms' es' xs' : List ℕ) : Type 0 where
  pub answered : told_relocation r ≡ numbered m
  pub stored : Rows (fragments_in m) ms es xs ms' es' xs'
