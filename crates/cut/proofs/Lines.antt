-- A cut text has exactly the lines of the whole that end inside the cut.
use Prim.Native.Nat.{ℕ, zero, suc, ◌+◌, ◌-◌}
use mathlib.Core.Path.{◌≡◌, refl, sym, ap, ◌∙◌}
use mathlib.Core.List.{List, [], ◌∷◌}
use mathlib.Core.Bool.{Bool, true, false}
use native.Mathlib.Nat.{suc-add, suc-sub-suc, sub-zero}
use lib.ListN.{length, take}
use lib.Seq.{take-nil}
use lib.Dec.{eqb, leb, leb-suc-suc, leb-suc-zero, leb-zero}
use Rattle.format.specs.Lists.{pick}
use Rattle.format.specs.Lines.{Line, width, grow, blank_line, lines}

-- the first lines that have room in n bytes
unfoldable pub within : ℕ → List Line → List Line
within n [] = []
within n (l ∷ ls) = pick (leb (width l) n) (l ∷ within (n - width l) ls) []

-- the same on both sides of a choice
pick-grow : (t : Bool) (b : ℕ) (l : Line) (ls : List Line) → pick t (record { bytes = b ∷ l.bytes; ends = l.ends } ∷ ls) [] ≡ grow b (pick t (l ∷ ls) [])
unfolding grow
pick-grow true b l ls = refl
pick-grow false b l ls = refl

within-grow : (b m : ℕ) (ls : List Line) → within (suc m) (grow b ls) ≡ grow b (within m ls)
unfolding within grow width
within-grow b m [] = refl
within-grow b m (l ∷ ls) = rw (suc-add, leb-suc-suc, suc-sub-suc) (pick-grow (leb (length l.bytes + l.ends) m) b l (within (m - (length l.bytes + l.ends)) ls))

grow-none : (b : ℕ) (ls : List Line) → within 0 (grow b ls) ≡ []
unfolding within grow width
grow-none b [] = refl
grow-none b (l ∷ ls) = rw (suc-add, leb-suc-zero)

none-one : (t : Bool) → within 0 (pick t (blank_line 1 []) []) ≡ []
unfolding within blank_line width
none-one true = refl
none-one false = refl

none_more : (t u v : Bool) (b : ℕ) (r q : List Line) → within 0 (pick t (blank_line 1 r) (pick u (pick v (blank_line 2 q) []) (grow b r))) ≡ []
unfolding within blank_line width
none_more true u v b r q = refl
none_more false true true b r q = refl
none_more false true false b r q = refl
none_more false false v b r q = grow-none b r

-- no line has room in no bytes
within_none : (xs : List ℕ) → within 0 (lines xs) ≡ []
unfolding lines within
within_none [] = refl
within_none (b ∷ []) = none-one (eqb b 10)
within_none (b ∷ c ∷ bs) = none_more (eqb b 10) (eqb b 13) (eqb c 10) b (lines (c ∷ bs)) (lines bs)

one_byte : (t : Bool) (n : ℕ) → pick t (blank_line 1 []) [] ≡ within (suc n) (pick t (blank_line 1 []) [])
unfolding within blank_line width
one_byte true n = rw (leb-suc-suc, leb-zero)
one_byte false n = refl

one-of-more : (t u v : Bool) (b : ℕ) (r q : List Line) → within 0 r ≡ [] → pick t (blank_line 1 []) [] ≡ within 1 (pick t (blank_line 1 r) (pick u (pick v (blank_line 2 q) []) (grow b r)))
unfolding within blank_line width grow
one-of-more true u v b r q h = ap (λ (x : List Line). record { bytes = []; ends = 1 } ∷ x) (sym h)
one-of-more false true true b r q h = refl
one-of-more false true false b r q h = refl
one-of-more false false v b r q h = rw (within-grow b 0 r, h)

more : (t u v : Bool) (b n : ℕ) (r q r' q' : List Line) → r' ≡ within (suc n) r → q' ≡ within n q
    → pick t (blank_line 1 r') (pick u (pick v (blank_line 2 q') []) (grow b r')) ≡ within (suc (suc n)) (pick t (blank_line 1 r) (pick u (pick v (blank_line 2 q) []) (grow b r)))
unfolding within blank_line width
more true u v b n r q r' q' h g = rw (leb-suc-suc, leb-zero, h, suc-sub-suc, sub-zero)
more false true true b n r q r' q' h g = rw (leb-suc-suc, leb-suc-suc, leb-zero, g, suc-sub-suc, suc-sub-suc, sub-zero)
more false true false b n r q r' q' h g = refl
more false false v b n r q r' q' h g = rw (within-grow b (suc n) r, h)

pub lines-take : (xs : List ℕ) (n : ℕ) → lines (take n xs) ≡ within n (lines xs)
unfolding lines within
lines-take xs zero = sym (within_none xs)
lines-take [] (suc n) = refl
lines-take (b ∷ []) (suc n) = ap (λ (z : List ℕ). lines (b ∷ z)) (take-nil n) ∙ one_byte (eqb b 10) n
lines-take (b ∷ c ∷ bs) (suc zero) = one-of-more (eqb b 10) (eqb b 13) (eqb c 10) b (lines (c ∷ bs)) (lines bs) (within_none (c ∷ bs))
lines-take (b ∷ c ∷ bs) (suc (suc n)) = more (eqb b 10) (eqb b 13) (eqb c 10) b n (lines (c ∷ bs)) (lines bs) (lines (c ∷ take n bs)) (lines (take n bs)) (lines-take (c ∷ bs) (suc n)) (lines-take bs n)
