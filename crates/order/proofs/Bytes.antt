-- The bytes of two neighbouring parts of a text exchanged: the same length, and no byte that was not there.
-- Assumes nothing.
use Prim.Native.Nat.{ℕ, suc, ◌+◌, ◌-◌}
use mathlib.Core.Path.{◌≡◌, refl, sym, ap, ◌∙◌}
use mathlib.Core.Bool.{Bool, true, false}
use mathlib.Core.List.{List, [], ◌∷◌, ◌++◌, append_assoc}
use mathlib.Core.Option.{Option, none, some}
use native.Mathlib.Omega.{arith}
use lib.ListN.{length, take, drop, length-append}
use lib.Seq.{take_at, drop_at}
use lib.Dec.{leb}
use Rattle.format.specs.Lists.{pick}
use Rattle.format.specs.Outcome.{fine}
use Rattle.format.specs.Reading.{Lent, lent_room, first_high, no_high, allowed}
use Rattle.laws.proofs.Outcomes.{passed, unlike}
use Rattle.order.specs.Texts.{exchanged}

-- ------------------------------------------------------------------ the parts

four : {a b c d a' b' c' d' : List ℕ} → a ≡ a' → b ≡ b' → c ≡ c' → d ≡ d' → a ++ (b ++ (c ++ d)) ≡ a' ++ (b' ++ (c' ++ d'))
four p q r s = cc

module _ (front one other rest : List ℕ) (p q r : ℕ) (ep : length front ≡ p) (eq : p + length one ≡ q) (er : q + length other ≡ r) where
  pub exchanged-parts : exchanged p q r (front ++ (one ++ (other ++ rest))) ≡ front ++ (other ++ (one ++ rest))
  unfolding exchanged
  exchanged-parts =
      let text : List ℕ = front ++ (one ++ (other ++ rest)) in
      let a : take p text ≡ front = take_at front (one ++ (other ++ rest)) p ep in
      let b : drop p text ≡ one ++ (other ++ rest) = drop_at front (one ++ (other ++ rest)) p ep in
      let c : drop q text ≡ other ++ rest = ap (drop q) (sym (append_assoc front one (other ++ rest))) ∙ drop_at (front ++ one) (other ++ rest) q (length-append front one ∙ omega arith) in
      let d : drop r text ≡ rest =
      ap (drop r) (sym (append_assoc front one (other ++ rest)) ∙ sym (append_assoc (front ++ one) other rest))
      ∙ drop_at (front ++ one ++ other) rest r (length-append (front ++ one) other ∙ omega (arith, length-append front one)) in
      let e : take (r - q) (drop q text) ≡ other = ap (take (r - q)) c ∙ take_at other rest (r - q) (omega arith) in
      let f : take (q - p) (drop p text) ≡ one = ap (take (q - p)) b ∙ take_at one (other ++ rest) (q - p) (omega arith) in
      four a e f d

-- as long as before
pub exchanged-length : (front one other rest : List ℕ) → length (front ++ (other ++ (one ++ rest))) ≡ length (front ++ (one ++ (other ++ rest)))
exchanged-length front one other rest = simp length-append (omega arith)

-- ------------------------------------------------------------------ refusals 1 to 3

-- no byte above 127
Low : List ℕ → Type 0
Low [] = Unit {0}
Low (b ∷ bs) = (leb 128 b ≡ false) × Low bs

low_of : (at : ℕ) (xs : List ℕ) → first_high at xs ≡ none → Low xs
unfolding first_high Low
low_of at [] h = tt
low_of at (b ∷ bs) h = go (leb 128 b) (low_of (suc at) bs) h
  where
    go : (t : Bool) → (first_high (suc at) bs ≡ none → Low bs) → pick t (some at) (first_high (suc at) bs) ≡ none → (t ≡ false) × Low bs
    go true f k = let z : ◌≡◌ {A = ℕ} 0 1 = cc in let y : ⊥ = omega arith in absurd y
    go false f k = (refl, f k)

of_low : (at : ℕ) (xs : List ℕ) → Low xs → first_high at xs ≡ none
unfolding first_high Low
of_low at [] h = refl
of_low at (b ∷ bs) h = rw h.0 (of_low (suc at) bs h.1)

low-append : (xs ys : List ℕ) → Low xs → Low ys → Low (xs ++ ys)
unfolding Low
low-append [] ys p q = q
low-append (x ∷ xs) ys p q = (p.0, low-append xs ys p.1 q)

low-left : (xs ys : List ℕ) → Low (xs ++ ys) → Low xs
unfolding Low
low-left [] ys p = tt
low-left (x ∷ xs) ys p = (p.0, low-left xs ys p.1)

low-right : (xs ys : List ℕ) → Low (xs ++ ys) → Low ys
unfolding Low
low-right [] ys p = p
low-right (x ∷ xs) ys p = low-right xs ys p.1

no-high : (o : Option ℕ) (k : ℕ) → no_high o ≡ fine k → o ≡ none
no-high none k h = refl
no-high (some at) k h = unlike 3 at k h

pub exchanged-allowed : (l : Lent) (front one other rest : List ℕ) (k : ℕ) → allowed l (front ++ (one ++ (other ++ rest))) ≡ fine k → allowed l (front ++ (other ++ (one ++ rest))) ≡ fine 0
unfolding allowed
exchanged-allowed l front one other rest k h =
    let text : List ℕ = front ++ (one ++ (other ++ rest)) in
    let a = passed (lent_room l) _ 1 0 k h in
    let b = passed (leb (length text) 65536) _ 2 0 k a.1 in
    let low = low_of 0 text (no-high (first_high 0 text) k b.1) in
    let behind = low-right front (one ++ (other ++ rest)) low in
    let last = low-right one (other ++ rest) behind in
    let all : Low (front ++ (other ++ (one ++ rest))) =
    low-append front (other ++ (one ++ rest)) (low-left front (one ++ (other ++ rest)) low)
    (low-append other (one ++ rest) (low-left other rest last) (low-append one rest (low-left one (other ++ rest) behind) (low-right other rest last))) in
    let short : leb (length (front ++ (other ++ (one ++ rest)))) 65536 ≡ true = ap (λ (n : ℕ). leb n 65536) (exchanged-length front one other rest) ∙ b.0 in
    rw (a.0, short, of_low 0 (front ++ (other ++ (one ++ rest))) all)
