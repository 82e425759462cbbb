-- What the proofs of a line's content share.
-- Assumes nothing.
use Prim.Native.Nat.{ℕ, zero, suc, ◌+◌, ◌-◌, ◌≤◌}
use mathlib.Core.Path.{◌≡◌, refl, sym, ap, ◌∙◌}
use mathlib.Core.Bool.{Bool, true, false, not}
use mathlib.Core.List.{List, ◌∷◌, ◌++◌, append-nil}
use native.Mathlib.Omega.{arith}
use lib.ListN.{length, take, drop, replicate, length-replicate}
use lib.Seq.{sets, sets-eq, drop-length, length-take-le}
use borrow.Author.Rules.{rules}
use borrow.Author.Tests.{not-true, not-false}
use Rattle.format.specs.Lists.{pick}
use Rattle.format.specs.WorkLine.{padded}
use Rattle.sites.specs.declared.Line.{Line}
use Rattle.sites.specs.Site.{line_fits, Short}
use Rattle.sites.proofs.Fitting.{Lined, lined}
use Rattle.fresh_line.specs.Fresh.{LaidLine}

zeros-take : (a n : ℕ) → a ≤ n → take {A = ℕ} a (replicate n 0) ≡ replicate a 0
zeros-take zero n h = refl
zeros-take (suc a) zero h = absurd (omega arith)
zeros-take (suc a) (suc n) h = ap (◌∷◌ 0) (zeros-take a n (omega arith))

zeros-drop : (a n : ℕ) → drop {A = ℕ} a (replicate n 0) ≡ replicate (n - a) 0
zeros-drop zero n = let e : n - 0 ≡ n = omega arith in rw e
zeros-drop (suc a) zero = let e : 0 - suc a ≡ 0 = omega arith in rw e
zeros-drop (suc a) (suc n) = let e : suc n - suc a ≡ n - a = omega arith in rw e (zeros-drop a n)

stored : (a n : ℕ) → a + n ≤ 260 → (d vs : List ℕ) → d ≡ replicate 260 0 → length vs ≡ n → sets d a vs ≡ padded a n vs
unfolding padded
stored a n h d vs z l =
    sets-eq vs d a (rw (z, length-replicate, l) h) ∙ rw (l, z, zeros-take a 260 (omega arith), zeros-drop (a + n) 260)

pub all-zeros : (d : List ℕ) → length d ≡ 260 → {e : List ℕ} → e ≡ sets d 0 (replicate 260 0) → e ≡ replicate 260 0
all-zeros d h e =
    let whole : 0 + length (replicate {A = ℕ} 260 0) ≡ length d = omega (arith, h, length-replicate {A = ℕ} 260 0) in
    e ∙ (sets-eq (replicate 260 0) d 0 (omega (arith, whole)) ∙ (ap (λ (k : ℕ). replicate 260 0 ++ drop k d) whole ∙ (ap (λ (r : List ℕ). replicate 260 0 ++ r) (drop-length d) ∙ append-nil (replicate 260 0))))

module _ {l : Line} (s : Short l) {d d' : List ℕ} (z : d ≡ replicate 260 0) where
  pub laid : (bs : List ℕ) → l.bytes ≤ length bs → d' ≡ sets d l.width (take l.bytes bs) → d' ≡ padded l.width l.bytes (take l.bytes bs)
  laid bs h e = e ∙ stored l.width l.bytes (omega (arith, s.address, s.content)) d (take l.bytes bs) z (length-take-le l.bytes bs h)

  pub full : (v : ℕ) → d' ≡ sets d l.width (replicate l.bytes v) → d' ≡ padded l.width l.bytes (replicate l.bytes v)
  full v e = e ∙ stored l.width l.bytes (omega (arith, s.address, s.content)) d (replicate l.bytes v) z (length-replicate l.bytes v)

pub ruleset content = (rules, laid, full)

-- `lay_line`: c is the test of the bounds
module _ (l : Line) (bs wv wm wk : List ℕ) {c : Bool} (ec : c ≡ line_fits l (length bs)) where
  module _ (k : not c ≡ true) where
    is_false : line_fits l (length bs) ≡ false
    is_false = sym ec ∙ not-true c k

    pub answer-unfit : false ≡ line_fits l (length bs)
    answer-unfit = sym is_false

    pub line-unfit : LaidLine l bs wv wm wk wv wm wk
    line-unfit = record { values = rw is_false; masks = rw is_false; keeps = rw is_false }

  module _ (k : not c ≡ false) where
    is_true : line_fits l (length bs) ≡ true
    is_true = sym ec ∙ not-false c k

    facts : Lined l (length bs)
    facts = lined l (length bs) is_true

    pub line-short : Short l
    line-short = facts.line

    pub line-lent : l.bytes ≤ length bs
    line-lent = facts.bytes

    pub answer-laid : true ≡ line_fits l (length bs)
    answer-laid = sym is_true

    pub line-laid : {wv' wm' wk' : List ℕ} → wv' ≡ padded l.width l.bytes (take l.bytes bs) → wm' ≡ padded l.width l.bytes (replicate l.bytes 255) → wk' ≡ padded l.width l.bytes (replicate l.bytes 1)
        → LaidLine l bs wv wm wk wv' wm' wk'
    line-laid ev em ek = record { values = rw is_true ev; masks = rw is_true em; keeps = rw is_true ek }

pub ruleset lining = (rules, answer-unfit, line-unfit, line-short, line-lent, answer-laid, line-laid)
