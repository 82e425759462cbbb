-- Lines that are ignored.
-- Assumes nothing.
use Prim.Native.Nat.{ℕ, ◌<◌, ◌≤◌}
use mathlib.Core.Path.{◌≡◌, refl}
use mathlib.Core.Bool.{Bool, true, false, not}
use mathlib.Core.List.{List, [], ◌∷◌}
use lib.ListN.{length, get_or}
use lib.Dec.{leb, eqb}
use borrow.Author.Rules.{rules}
use borrow.Author.Tests.{le-leb, lt-leb}
use Rattle.format.specs.Lists.{pick}
use Rattle.format.specs.Got.{is, isnt, then}
use Rattle.format.specs.Entries.{letter_and_more}
use Rattle.scan.proofs.Laws.Tests.{was-no, was-yes}
use Rattle.std.specs.List.{list_any}
use Rattle.std.proofs.lemmas.Bool.Decides.{nat_tests}
use native.Mathlib.Omega.{arith}
use Rattle.fields.specs.Told.{one_of}

-- `one_of`
pub any-one : (cs : List ℕ) (b : ℕ) → list_any (λ c. eqb c b) cs ≡ one_of cs b
unfolding one_of
any-one [] b = refl
any-one (c ∷ cs) b =
    let turned : eqb c b ≡ eqb b c = grind (arith, nat_tests) in
    rw (turned, any-one cs b)

-- `ignore_line`
module _ (cs s : List ℕ) {b : ℕ} (e : b ≡ get_or s 0 0) {x : Bool} (h : x ≡ one_of cs b) where
  pub ignore-1 : not x ≡ true → isnt 4 0 ≡ letter_and_more (one_of cs) (tt {0}) s 0
  unfolding letter_and_more
  ignore-1 g = rw (← e, ← h, was-no x g)

  module _ (g : not x ≡ false) where
    pub ignore-2 : length s < 2 → isnt 4 1 ≡ letter_and_more (one_of cs) (tt {0}) s 0
    unfolding letter_and_more
    ignore-2 l = rw (← e, ← h, was-yes x g, lt-leb 2 (length s) l)

    pub ignore-3 : 2 ≤ length s → is (tt {0}) (length s) ≡ letter_and_more (one_of cs) (tt {0}) s 0
    unfolding letter_and_more
    ignore-3 l = rw (← e, ← h, was-yes x g, le-leb 2 (length s) l)

pub ruleset ignoring = (rules, ignore-1, ignore-2, ignore-3)

-- the same test gives the same line, whatever it is taken for
pub letter-as : {A B : Type 0} (p q : ℕ → Bool) (a : A) (b : B) (s : List ℕ) → p (get_or s 0 0) ≡ q (get_or s 0 0) → letter_and_more q b s 0 ≡ then (letter_and_more p a s 0) (λ x next. is b next)
unfolding letter_and_more
letter-as p q a b s e = rw e (go (q (get_or s 0 0)) (leb 2 (length s)))
  where
    go : (t u : Bool) → pick t (pick u (is b (length s)) (isnt 4 1)) (isnt 4 0) ≡ then (pick t (pick u (is a (length s)) (isnt 4 1)) (isnt 4 0)) (λ x next. is b next)
    go true true = refl
    go true false = refl
    go false u = refl
