-- The laws of bytes written one behind the other.
-- Assumes nothing.
use Prim.Native.Nat.{ℕ, suc, zero, ◌+◌, ◌-◌, ◌^◌, ◌<◌, ◌≤◌}
use mathlib.Core.Path.{◌≡◌, ap, refl, subst, sym, ◌∙◌}
use mathlib.Core.Bool.{Bool, false, true}
use mathlib.Core.List.{List, [], ◌++◌, ◌∷◌}
use native.Mathlib.Omega.{arith}
use native.Mathlib.Nat.{add-zero, suc-add, zero-add}
use lib.ListN.{drop, get_or, length, length-append, length-set, set, take}
use lib.Seq.{length-sets, set_out, sets, take-suc, take_all}
use lib.Dec.{leb}
use borrow.Author.Rules.{rules}
use borrow.Author.Tests.{le-leb, leb-false, leb-true, lt-leb}
use Rattle.format.specs.Lists.{pick}
use Rattle.cells.proofs.Laws.{sets-append}
use Rattle.hexadecimal.specs.Hex.{hex_digits}
use Rattle.manual.specs.Digits.{digits_of}
use Rattle.written.specs.Shapes.{Wide}
use Rattle.written.proofs.Shapes.{number-shape}
use Rattle.digits_out.specs.Wrote.{HasDigits, Wrote, capped, farthest}

-- places
pub place_in : (n : ℕ) → n ≤ farthest → capped n ≡ n
unfolding capped
place_in n h = rw (le-leb n farthest h)

pub place_out : (n : ℕ) → farthest < n → capped n ≡ farthest
unfolding capped
place_out n h = rw (lt-leb n farthest h)

pub next-in : (at : ℕ) → at < farthest → at + 1 ≡ capped (at + 1)
next-in at h = sym (place_in (at + 1) (omega arith))

pub next-out : (at : ℕ) → at < 2 ^ 64 → farthest ≤ at → at ≡ capped (at + 1)
next-out at h i = let e : at ≡ farthest = omega arith in e ∙ sym (place_out (at + 1) (omega arith))

pub ruleset nexts = (rules, next-in, next-out)

-- by the size of a number
either : {A : Type 0} (n : ℕ) → (n ≤ farthest → A) → (farthest < n → A) → A
either {A} n f g = go (leb n farthest) refl
  where
    go : (t : Bool) → leb n farthest ≡ t → A
    go true e = f (leb-true n farthest e)
    go false e = g (leb-false n farthest e)

cap-cap : (a b : ℕ) → capped (capped a + b) ≡ capped (a + b)
cap-cap a b = either a
    (λ h. ap (λ (x : ℕ). capped (x + b)) (place_in a h))
    (λ h. ap (λ (x : ℕ). capped (x + b)) (place_out a h) ∙ (past b ∙ sym (place_out (a + b) (omega arith))))
  where
    past : (b : ℕ) → capped (farthest + b) ≡ farthest
    past b = either (farthest + b) (λ h. place_in (farthest + b) h ∙ omega arith) (λ h. place_out (farthest + b) h)

-- past the end nothing is stored
sets-past : (l : List ℕ) (i : ℕ) (vs : List ℕ) → length l ≤ i → sets l i vs ≡ l
sets-past l i [] h = refl
sets-past l i (v ∷ vs) h = rw (set_out l i v h) (sets-past l (suc i) vs (omega arith))

sets-capped : (l : List ℕ) (i : ℕ) (vs : List ℕ) → length l < 2 ^ 64 → sets l (capped i) vs ≡ sets l i vs
sets-capped l i vs h = either i
    (λ k. ap (λ (x : ℕ). sets l x vs) (place_in i k))
    (λ k. ap (λ (x : ℕ). sets l x vs) (place_out i k) ∙ (sets-past l farthest vs (omega arith) ∙ sym (sets-past l i vs (omega arith))))

-- one behind the other
pub then-wrote : {v w out out₁ out₂ : List ℕ} {at p r : ℕ} → length out < 2 ^ 64 → Wrote v out at p out₁ → Wrote w out₁ p r out₂ → Wrote (v ++ w) out at r out₂
then-wrote {v} {w} {out} {out₁} {out₂} {at} {p} {r} k x y =
    let h : length out₁ < 2 ^ 64 = rw (x.stored, length-sets out at v) k in
    record {
      place = y.place ∙ (ap (λ (q : ℕ). capped (q + length w)) x.place ∙ (cap-cap (at + length v) (length w) ∙ ap capped (simp length-append (omega arith))));
      stored = y.stored ∙ (ap (λ (q : ℕ). sets out₁ q w) x.place ∙ (sets-capped out₁ (at + length v) w h ∙ (ap (λ (l : List ℕ). sets l (at + length v) w) x.stored ∙ sym (sets-append out at v w))));
    }

-- `put`
pub put_one : {b at r : ℕ} {out out₁ : List ℕ} → out₁ ≡ set out at b → r ≡ capped (at + 1) → Wrote (b ∷ []) out at r out₁
put_one e f = record { place = f; stored = e }

pub ruleset putting = (rules, put_one)

-- `put_word`
pub record Words (w out₀ : List ℕ) (at i p : ℕ) (out : List ℕ) : Type 0 where
  pub inside : i ≤ length w
  pub wrote : Wrote (take i w) out₀ at p out
  pub long : length out ≡ length out₀
  pub room : length out₀ < 2 ^ 64

pub word-start : (w out : List ℕ) (at : ℕ) → at < 2 ^ 64 → length out < 2 ^ 64 → Words w out at 0 at out
word-start w out at h k = record { inside = omega arith; wrote = record { place = sym (place_in (at + 0) (omega arith) ∙ add-zero at); stored = refl }; long = refl; room = k }

module _ {w out₀ out : List ℕ} {at i p : ℕ} (x : Words w out₀ at i p out) where
  pub word_more : i < length w → {out₁ : List ℕ} {q : ℕ} → Wrote (get_or w i 0 ∷ []) out p q out₁ → Words w out₀ at (i + 1) q out₁
  word_more h {out₁} {q} y =
      let s : i + 1 ≡ suc i = omega arith in
      let t : take (suc i) w ≡ take i w ++ get_or w i 0 ∷ [] = take-suc w i 0 h in
      record {
        inside = omega arith;
        wrote = subst (λ (l : List ℕ). Wrote l out₀ at q out₁) (sym (ap (λ (n : ℕ). take n w) s ∙ t)) (then-wrote x.room x.wrote y);
        long = ap length y.stored ∙ (length-set out p (get_or w i 0) ∙ x.long);
        room = x.room;
      }

  pub word_end : length w ≤ i → Wrote w out₀ at p out
  word_end h = subst (λ (l : List ℕ). Wrote l out₀ at p out) (take_all i w h) x.wrote

pub ruleset wording = (rules, word-start, word_more, word_end)

-- `width`
module _ (n : ℕ) where
  pub one-digit : n < 16 → HasDigits n 1
  one-digit h = record { few = omega arith; shown = number-shape 0 n (omega arith) h }

  pub two_digits : 16 ≤ n → n < 256 → HasDigits n 2
  two_digits h i = record { few = omega arith; shown = number-shape 1 n (omega arith) (h, i) }

  pub three-digits : 256 ≤ n → n < 4096 → HasDigits n 3
  three-digits h i = record { few = omega arith; shown = number-shape 2 n (omega arith) (h, i) }

  pub four-digits : 4096 ≤ n → n < 65536 → HasDigits n 4
  four-digits h i = record { few = omega arith; shown = number-shape 3 n (omega arith) (h, i) }

  pub five-digits : 65536 ≤ n → n < 1048576 → HasDigits n 5
  five-digits h i = record { few = omega arith; shown = number-shape 4 n (omega arith) (h, i) }

  pub six-digits : 1048576 ≤ n → n < 16777216 → HasDigits n 6
  six-digits h i = record { few = omega arith; shown = number-shape 5 n (omega arith) (h, i) }

  pub seven-digits : 16777216 ≤ n → n < 268435456 → HasDigits n 7
  seven-digits h i = record { few = omega arith; shown = number-shape 6 n (omega arith) (h, i) }

  pub eight-digits : 268435456 ≤ n → n < 2 ^ 32 → HasDigits n 8
  eight-digits h i = record { few = omega arith; shown = number-shape 7 n (omega arith) (h, i) }

pub ruleset widths = (rules, one-digit, two_digits, three-digits, four-digits, five-digits, six-digits, seven-digits, eight-digits)

-- `put_byte`
pub byte-wrote : (b : ℕ) {out out₁ out₂ d : List ℕ} {at p r : ℕ} → length out < 2 ^ 64 → Wrote (32 ∷ []) out at p out₁ → d ≡ hex_digits 3 b → Wrote (take 2 (drop 1 d)) out₁ p r out₂
    → Wrote (32 ∷ hex_digits 2 b) out at r out₂
byte-wrote b {out} {out₁} {out₂} {d} h x e y = then-wrote h x (rw e at y)

pub ruleset byting = (rules, byte-wrote)

-- `put_number`
last_digits : (k w n : ℕ) → drop k (hex_digits (k + w) n) ≡ hex_digits w n
last_digits zero w n = rw zero-add
last_digits (suc k) w n = rw suc-add (last_digits k w n)

so-many : (w n : ℕ) → length (hex_digits w n) ≡ w
so-many zero n = refl
so-many (suc w) n = ap suc (so-many w n)

pub number-wrote : (n : ℕ) {out out₁ d : List ℕ} {at w r : ℕ} → HasDigits n w → d ≡ hex_digits 8 n → Wrote (take (8 - (8 - w)) (drop (8 - w) d)) out at r out₁ → Wrote (digits_of 16 1 n) out at r out₁
number-wrote n {out} {out₁} {d} {at} {w} {r} x e y =
    let k : 8 - w + w ≡ 8 = omega (arith, x.few) in
    let l : drop (8 - w) d ≡ hex_digits w n = ap (drop (8 - w)) (e ∙ ap (λ (m : ℕ). hex_digits m n) (sym k)) ∙ last_digits (8 - w) w n in
    let s : take (8 - (8 - w)) (drop (8 - w) d) ≡ hex_digits w n = ap (take (8 - (8 - w))) l ∙ take_all (8 - (8 - w)) (hex_digits w n) (omega (arith, so-many w n, x.few)) in
    subst (λ (l : List ℕ). Wrote l out at r out₁) (s ∙ sym x.shown) y

pub number-low : {n w : ℕ} → HasDigits n w → w ≤ 8
number-low x = x.few

pub ruleset numbering = (rules, number-wrote, number-low)
