-- A line of group one.
-- Assumes nothing.
use Prim.Native.Nat.{ℕ}
use mathlib.Core.Path.{◌≡◌, refl, sym, ◌∙◌}
use mathlib.Core.Bool.{Bool, true, false, ◌||◌}
use mathlib.Core.List.{List, [], ◌∷◌}
use lib.ListN.{get_or}
use lib.Dec.{eqb}
use borrow.Author.Rules.{rules}
use borrow.Author.Tests.{eq-eqb, ne_eqb}
use Rattle.format.specs.Got.{Got, is, isnt, then}
use Rattle.format.specs.Header.{Form}
use Rattle.format.specs.Entries.{Entry, ignored, area_line, symbol_line, letter_and_more, is_ignored, ignored_line, entry_line}
use Rattle.entry_sort.specs.Sorts.{letter_of}
use Rattle.entry_sort.specs.declared.Letter.{Letter}
use Rattle.entry_sort.specs.declared.Letter.TheVariants.{Area, Symbol, Other}
use Rattle.entry_sort.proofs.Laws.{is-area, is-symbol, is-other}
use Rattle.fields.specs.Told.{went, one_of}
use Rattle.std.specs.Prelude.{Result, Ok, Err}
use Rattle.numbers.specs.Told.{code}
use Rattle.numbers.specs.declared.Halt.{Halt}
use Rattle.fields.proofs.Laws.Ignored.{letter-as}

-- an O, H or M line
o-h-m : (b : ℕ) → one_of (79 ∷ 72 ∷ 77 ∷ []) b ≡ is_ignored b
unfolding one_of is_ignored
o-h-m b = go (eqb b 79) (eqb b 72) (eqb b 77)
  where
    go : (x y z : Bool) → x || (y || (z || false)) ≡ x || y || z
    go true y z = refl
    go false true z = refl
    go false false true = refl
    go false false false = refl

ignored-from : (s : List ℕ) (l : Result ℕ Halt) → went l ≡ letter_and_more (one_of (79 ∷ 72 ∷ 77 ∷ [])) (tt {0}) s 0 → ignored_line s 0 ≡ then (went l) (λ x next. is ignored next)
unfolding ignored_line
ignored-from s l e = letter-as (one_of (79 ∷ 72 ∷ 77 ∷ [])) is_ignored (tt {0}) ignored s (o-h-m (get_or s 0 0)) ∙ rw (← e)

module _ (s : List ℕ) {l : Result ℕ Halt} (e : went l ≡ letter_and_more (one_of (79 ∷ 72 ∷ 77 ∷ [])) (tt {0}) s 0) where
  pub ignored-1 : {h : Halt} → l ≡ Err h → isnt (code h.reason) h.at ≡ ignored_line s 0
  ignored-1 g = sym (ignored-from s l e ∙ rw g)

  pub ignored-2 : {n : ℕ} → l ≡ Ok n → is ignored n ≡ ignored_line s 0
  ignored-2 g = sym (ignored-from s l e ∙ rw g)

-- which reader a line goes to
module _ (s : List ℕ) {b : ℕ} (e : b ≡ get_or s 0 0) {k : Letter} (l : k ≡ letter_of b) (f : Form) {x : Got Entry} where
  pub entry-1 : k ≡ Area → x ≡ area_line f s 0 → x ≡ entry_line f s 0
  unfolding entry_line
  entry-1 h g = rw (← e, eq-eqb b 65 (is-area b (sym l ∙ h))) g

  pub entry-2 : k ≡ Symbol → x ≡ symbol_line f s 0 → x ≡ entry_line f s 0
  unfolding entry_line
  entry-2 h g = let w = is-symbol b (sym l ∙ h) in rw (← e, ne_eqb b 65 w.0, eq-eqb b 83 w.1) g

  pub entry-3 : k ≡ Other → x ≡ ignored_line s 0 → x ≡ entry_line f s 0
  unfolding entry_line
  entry-3 h g = let w = is-other b (sym l ∙ h) in rw (← e, ne_eqb b 65 w.0, ne_eqb b 83 w.1) g

pub ruleset entries = (rules, ignored-1, ignored-2, entry-1, entry-2, entry-3)
