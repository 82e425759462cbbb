-- Line ends.
-- Assumes nothing.
use Prim.Native.Nat.{ℕ, suc, ◌+◌, ◌<◌, ◌≤◌}
use mathlib.Core.Path.{◌≡◌, refl, ◌∙◌}
use mathlib.Core.Bool.{Bool, true, false, ◌&&◌}
use mathlib.Core.List.{List, [], ◌∷◌}
use native.Mathlib.Numerals.{add-one}
use native.Mathlib.Nat.{add-zero}
use lib.ListN.{length, get_or, drop, drop_of_length-le}
use lib.Seq.{drop-cons, get_or-drop}
use lib.Dec.{eqb}
use borrow.Author.Rules.{rules}
use borrow.Author.Tests.{eq-eqb, ne_eqb}
use Rattle.format.specs.Lists.{pick}
use Rattle.format.specs.Lines.{end_length}

-- `line_ending`
end_of : (a : ℕ) (rest : List ℕ) → end_length (a ∷ rest) ≡ pick (eqb a 10) 1 (pick (eqb a 13) (pick (eqb (get_or rest 0 0) 10) 2 0) 0)
unfolding end_length
end_of a [] = go (eqb a 13)
  where
    go : (t : Bool) → pick {A = ℕ} (eqb a 10) 1 0 ≡ pick (eqb a 10) 1 (pick t 0 0)
    go true = refl
    go false = refl
end_of a (b ∷ r) = go (eqb a 13)
  where
    go : (t : Bool) → pick {A = ℕ} (eqb a 10) 1 (pick (t && eqb b 10) 2 0) ≡ pick (eqb a 10) 1 (pick t (pick (eqb b 10) 2 0) 0)
    go true = refl
    go false = refl

module _ (s : List ℕ) (at : ℕ) where
  pub end_none : length s ≤ at → 0 ≡ end_length (drop at s)
  unfolding end_length
  end_none h = rw (drop_of_length-le s h)

  module _ (h : at < length s) where
    end-here : end_length (drop at s) ≡ pick (eqb (get_or s at 0) 10) 1 (pick (eqb (get_or s at 0) 13) (pick (eqb (get_or s (at + 1) 0) 10) 2 0) 0)
    end-here =
        let e : get_or (drop (suc at) s) 0 0 ≡ get_or s (at + 1) 0 = get_or-drop (suc at) s 0 0 ∙ rw (add-zero, add-one) in
        rw (drop-cons s at 0 h) (end_of (get_or s at 0) (drop (suc at) s) ∙ rw e)

    pub end-lf : get_or s at 0 ≡ 10 → 1 ≡ end_length (drop at s)
    end-lf e = rw (end-here, eq-eqb _ _ e)

    module _ (n : get_or s at 0 ≡ 10 → ⊥) where
      pub end-other : (get_or s at 0 ≡ 13 → ⊥) → 0 ≡ end_length (drop at s)
      end-other e = rw (end-here, ne_eqb _ _ n, ne_eqb _ _ e)

      module _ (e : get_or s at 0 ≡ 13) {b : ℕ} (f : b ≡ get_or s (at + 1) 0) where
        pub end-crlf : b ≡ 10 → 2 ≡ end_length (drop at s)
        end-crlf g = rw (end-here, ne_eqb _ _ n, eq-eqb _ _ e, ← f, eq-eqb _ _ g)

        pub end-cr : (b ≡ 10 → ⊥) → 0 ≡ end_length (drop at s)
        end-cr g = rw (end-here, ne_eqb _ _ n, eq-eqb _ _ e, ← f, ne_eqb _ _ g)

pub ruleset ending = (rules, end_none, end-lf, end-other, end-crlf, end-cr)
