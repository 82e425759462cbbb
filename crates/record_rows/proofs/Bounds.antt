-- No text of 65,536 bytes has more than 4,096 T and R pairs, 32,768 content bytes or 8,192 fragments: a pair takes 16 bytes, a content byte two, a fragment eight.
-- Assumes nothing.
use Prim.Native.Nat.{suc, zero, ℕ, ◌*◌, ◌+◌, ◌≤◌}
use mathlib.Core.Path.{◌≡◌, refl, sym}
use mathlib.Core.Bool.{Bool, false, true, ◌&&◌}
use mathlib.Core.List.{List, [], ◌∷◌}
use native.Mathlib.Omega.{arith}
use lib.ListN.{get_or, length, length-append}
use lib.Dec.{eqb, leb}
use borrow.Author.Tests.{eqb-true, leb-true}
use Rattle.format.specs.Lists.{pick}
use Rattle.format.specs.Got.{Got, is, isnt, or_else, shifted}
use Rattle.format.specs.Header.{Form}
use Rattle.format.specs.Lines.{Line, blank_line, grow, lines, taken, width}
use Rattle.format.specs.Pairs.{Content, Pair, Relocation, pair_lines, pair_of, placed, placed_of, relocation_line, skipped, skipped_of, whole_content}
use Rattle.format.specs.Entries.{letter_and_more}
use Rattle.format.specs.Records.{Step, Taken, consed, goes, last, pair_step, pairs, step_of, stops}
use Rattle.laws.proofs.Within.{Holds, then-holds}
use Rattle.record_rows.specs.RecordRows.{all_fragments, content_bytes, content_in, count_in, fragments_of, pair_count}
use Rattle.record_rows.proofs.Uses.{holds-so, relocation-uses, whole-uses}

-- the bytes that pairs take at least
abbrev pub cost : List (Taken Pair) → ℕ
cost ps = pair_count ps * 16 + length (content_bytes ps) * 2 + length (all_fragments ps) * 8

abbrev body_cost : Pair → ℕ
body_cost p = count_in p * 16 + length (content_in p) * 2 + length (fragments_of p) * 8

-- ------------------------------------------------------------------ lines

-- every line has its line end, and no line lies outside the text
abbrev pub Ended : Line → Type 0
Ended l = 1 ≤ l.ends

abbrev pub AllEnded : List Line → Type 0
AllEnded [] = Unit {0}
AllEnded (l ∷ ls) = Ended l × AllEnded ls

grow-ended : (b : ℕ) (ls : List Line) → AllEnded ls → AllEnded (grow b ls)
unfolding grow
grow-ended b [] h = tt
grow-ended b (l ∷ ls) h = h

pub all-ended : (xs : List ℕ) → AllEnded (lines xs)
unfolding lines blank_line
all-ended [] = tt
all-ended (b ∷ []) = go (eqb b 10)
  where
    go : (t : Bool) → AllEnded (pick t (record { bytes = []; ends = 1 } ∷ []) [])
    go true = (omega arith, tt)
    go false = tt
all-ended (b ∷ c ∷ bs) = go (eqb b 10) (eqb b 13) (eqb c 10) (all-ended (c ∷ bs)) (all-ended bs)
  where
    go : (t u v : Bool) → AllEnded (lines (c ∷ bs)) → AllEnded (lines bs)
        → AllEnded (pick t (record { bytes = []; ends = 1 } ∷ lines (c ∷ bs)) (pick u (pick v (record { bytes = []; ends = 2 } ∷ lines bs) []) (grow b (lines (c ∷ bs)))))
    go true u v x y = (omega arith, x)
    go false true true x y = (omega arith, y)
    go false true false x y = tt
    go false false v x y = grow-ended b (lines (c ∷ bs)) x

grow-taken : (b : ℕ) (ls : List Line) → taken (grow b ls) ≤ suc (taken ls)
unfolding grow taken width
grow-taken b [] = omega arith
grow-taken b (l ∷ ls) = omega arith

pub lines-inside : (xs : List ℕ) → taken (lines xs) ≤ length xs
unfolding lines blank_line taken width
lines-inside [] = omega arith
lines-inside (b ∷ []) = go (eqb b 10)
  where
    go : (t : Bool) → taken (pick t (record { bytes = []; ends = 1 } ∷ []) []) ≤ 1
    go true = omega arith
    go false = omega arith
lines-inside (b ∷ c ∷ bs) = go (eqb b 10) (eqb b 13) (eqb c 10) (lines-inside (c ∷ bs)) (lines-inside bs)
  where
    go : (t u v : Bool) → taken (lines (c ∷ bs)) ≤ suc (length bs) → taken (lines bs) ≤ length bs
        → taken (pick t (record { bytes = []; ends = 1 } ∷ lines (c ∷ bs)) (pick u (pick v (record { bytes = []; ends = 2 } ∷ lines bs) []) (grow b (lines (c ∷ bs))))) ≤ suc (suc (length bs))
    go true u v x y = omega arith
    go false true true x y = omega arith
    go false true false x y = omega arith
    go false false v x y = omega (arith, grow-taken b (lines (c ∷ bs)))

-- ------------------------------------------------------------------ pairs

-- a step of the ended reading is never the last
pub no_last : {A : Type 0} (at n e next : ℕ) (g : Got A) (x : Taken A) → step_of true at n e next g ≡ last x → ⊥
no_last at n e next (isnt r p) x h = let z : ◌≡◌ {A = ℕ} 0 1 = cc in omega arith
no_last {A} at n e next (is a u) x h = go (eqb u n && leb 1 e) h
  where
    go : (b : Bool) → pick b (goes (record { place = at; end = next; body = a })) stops ≡ last x → ⊥
    go true h = let z : ◌≡◌ {A = ℕ} 0 1 = cc in omega arith
    go false h = let z : ◌≡◌ {A = ℕ} 0 1 = cc in omega arith

letter-gives : {A : Type 0} (p : ℕ → Bool) (a : A) (s : List ℕ) (at : ℕ) → Holds (λ x q. x ≡ a) (letter_and_more p a s at)
unfolding letter_and_more
letter-gives {A} p a s at = go (p (get_or s at 0)) (leb (at + 2) (length s))
  where
    go : (t u : Bool) → Holds (λ (x : A) (q : ℕ). x ≡ a) (pick t (pick u (is a (length s)) (isnt 4 (at + 1))) (isnt 4 at))
    go true true = refl
    go true false = tt
    go false u = tt

module _ (f : Form) (low : 2 ≤ f.address_length) where
  module _ (t r : Line) (i : Ended t) where
    -- a pair, and where it ends: one byte more is its second line end
    abbrev Costs : Pair → ℕ → Type 0
    Costs p q = body_cost p ≤ q + 1

    shifted-costs : (c : Content) → 5 + length c.bytes * 2 ≤ length t.bytes → (g : Got Relocation) → Holds (λ r q. 0 + 9 + length r.fragments * 8 ≤ q) g → Holds Costs (shifted (width t) (placed c) g)
    unfolding width
    shifted-costs c h (is a q) k = omega (arith, i)
    shifted-costs c h (isnt x p) k = tt

    placed-costs : Holds Costs (placed_of f (width t) t.bytes r.bytes)
    unfolding placed_of
    placed-costs =
        then-holds (λ c q. 5 + length c.bytes * 2 ≤ length t.bytes) Costs (whole_content f t.bytes) _ (whole-uses f low t.bytes) (λ c q w.
        shifted-costs c w (relocation_line f r.bytes 0) (relocation-uses f r.bytes 0))

    skip-costs : (g : Got Pair) → Holds (λ p q. p ≡ skipped) g → Holds Costs (shifted (width t) (λ b. b) g)
    skip-costs (is p q) k = rw k (omega arith)
    skip-costs (isnt x p) k = tt

    skipped-costs : Holds Costs (skipped_of (width t) t.bytes r.bytes)
    unfolding skipped_of
    skipped-costs =
        then-holds (λ p q. p ≡ skipped) Costs (letter_and_more (λ b. eqb b 84) skipped t.bytes 0) _ (letter-gives (λ b. eqb b 84) skipped t.bytes 0) (λ p q w.
        skip-costs (letter_and_more (λ b. eqb b 80) skipped r.bytes 0) (letter-gives (λ b. eqb b 80) skipped r.bytes 0))

    pair-costs : Holds Costs (pair_lines f t r)
    unfolding pair_lines pair_of
    pair-costs = go (placed_of f (width t) t.bytes r.bytes) (skipped_of (width t) t.bytes r.bytes) placed-costs skipped-costs
      where
        go : (m n : Got Pair) → Holds Costs m → Holds Costs n → Holds Costs (or_else m n)
        go (is a u) n x y = x
        go (isnt r p) (is a u) x y = y
        go (isnt r p) (isnt r' p') x y = tt

  -- a step that goes on
  step-costs : (t r : Line) → Ended t → (at : ℕ) (x : Taken Pair) → pair_step true f at t r ≡ goes x → body_cost x.body ≤ width t + width r
  unfolding pair_step width
  step-costs t r i at x e = go (pair_lines f t r) (pair-costs t r i) e
    where
      go : (g : Got Pair) → Holds (Costs t r i) g → step_of true at (width t + length r.bytes) r.ends (at + (width t + width r)) g ≡ goes x → body_cost x.body ≤ width t + width r
      go (isnt y p) k e = absurd (let z : ◌≡◌ {A = ℕ} 0 1 = cc in omega arith)
      go (is a u) k e = on (eqb u (width t + length r.bytes)) (leb 1 r.ends) refl refl e
        where
          on : (b c : Bool) → eqb u (width t + length r.bytes) ≡ b → leb 1 r.ends ≡ c
              → pick (b && c) (goes (record { place = at; end = at + (width t + width r); body = a })) stops ≡ goes x → body_cost x.body ≤ width t + width r
          on true true y z e = let same : record { place = at; end = at + (width t + width r); body = a } ≡ x = cc in rw (← same) (omega (arith, k, eqb-true u (width t + length r.bytes) y, leb-true 1 r.ends z))
          on true false y z e = absurd (let z : ◌≡◌ {A = ℕ} 0 1 = cc in omega arith)
          on false c y z e = absurd (let z : ◌≡◌ {A = ℕ} 0 1 = cc in omega arith)

  -- pairs of lines
  pub pairs-cost : (at : ℕ) (ls : List Line) → AllEnded ls → cost (pairs true f at ls) ≤ taken ls
  unfolding pairs pair_step taken pair_count content_bytes all_fragments
  pairs-cost at [] h = omega arith
  pairs-cost at (t ∷ []) h = omega arith
  pairs-cost at (t ∷ r ∷ ls) h =
      go (pair_step true f at t r) refl (pairs-cost (at + (width t + width r)) ls h.1.1)
    where
      rest : List (Taken Pair)
      rest = pairs true f (at + (width t + width r)) ls

      go : (x : Step Pair) → pair_step true f at t r ≡ x → cost rest ≤ taken ls → cost (consed x rest) ≤ width t + (width r + taken ls)
      go stops e k = omega arith
      go (last y) e k = absurd (no_last at (width t + length r.bytes) r.ends (at + (width t + width r)) (pair_lines f t r) y e)
      go (goes y) e k = simp length-append (omega (arith, step-costs t r h.0 at y e))
