-- The laws of bytes, numbers of several bytes and T lines written part by part.
-- Assumes nothing.
use Prim.Native.Nat.{ℕ, suc, ◌%◌, ◌+◌, ◌/◌, ◌^◌, ◌<◌, ◌≤◌}
use mathlib.Core.Path.{◌≡◌, ap, refl, subst, sym, ◌∙◌}
use mathlib.Core.Bool.{Bool, false, true}
use mathlib.Core.List.{List, [], append_assoc, ◌++◌, ◌∷◌}
use native.Mathlib.Omega.{arith}
use native.Mathlib.Nat.{add-zero}
use lib.ListN.{get_or, length, take}
use lib.Seq.{length-sets, take_all, take-suc}
use borrow.Author.Rules.{rules}
use Rattle.hexadecimal.specs.Hex.{hex_digits}
use Rattle.manual.specs.Digits.{bytes_of}
use Rattle.manual.specs.Each.{Each, IsByte}
use Rattle.written.specs.Named.{NamedPair}
use Rattle.written.specs.Writing.{content_text, hex_of, line_ended}
use Rattle.written.specs.Shapes.{content_bytes, hex_bytes}
use Rattle.written.proofs.Shapes.{content-shape}
use Rattle.header.specs.Told.{form_of, more_of}
use Rattle.header.specs.declared.Form.{Form}
use Rattle.header.specs.declared.Width.{Width}
use Rattle.header.specs.declared.Width.TheVariants.{Four, Three, Two}
use Rattle.digits_out.specs.Wrote.{Wrote}
use Rattle.digits_out.proofs.Laws.{place_in, then-wrote}
use Rattle.content_out.specs.ContentOut.{content_out, low_bytes}

pub hex-append : (v w : List ℕ) → hex_bytes (v ++ w) ≡ hex_bytes v ++ hex_bytes w
unfolding hex_bytes
hex-append [] w = refl
hex-append (b ∷ v) w = ap (λ (l : List ℕ). 32 ∷ l) (ap (λ (l : List ℕ). hex_digits 2 b ++ l) (hex-append v w) ∙ sym (append_assoc (hex_digits 2 b) (hex_bytes v) (hex_bytes w)))

hex-one : (b : ℕ) → hex_bytes (b ∷ []) ≡ 32 ∷ hex_digits 2 b
unfolding hex_bytes
hex-one b = refl

-- `put_bytes`
pub record Listed (w out₀ : List ℕ) (at i p : ℕ) (out : List ℕ) : Type 0 where
  pub inside : i ≤ length w
  pub wrote : Wrote (hex_bytes (take i w)) out₀ at p out
  pub long : length out ≡ length out₀
  pub room : length out₀ < 2 ^ 64

pub list-start : (w out : List ℕ) (at : ℕ) → at < 2 ^ 64 → length out < 2 ^ 64 → Listed w out at 0 at out
unfolding hex_bytes
list-start w out at h k = record { inside = omega arith; wrote = record { place = sym (place_in (at + 0) (omega arith) ∙ add-zero at); stored = refl }; long = refl; room = k }

module _ {w out₀ out : List ℕ} {at i p : ℕ} (x : Listed w out₀ at i p out) where
  pub list-more : i < length w → {out₁ : List ℕ} {q : ℕ} → Wrote (32 ∷ hex_digits 2 (get_or w i 0)) out p q out₁ → Listed w out₀ at (i + 1) q out₁
  list-more h {out₁} {q} y =
      let b = get_or w i 0 in
      let s : i + 1 ≡ suc i = omega arith in
      let t : take (suc i) w ≡ take i w ++ b ∷ [] = take-suc w i 0 h in
      let e : hex_bytes (take (i + 1) w) ≡ hex_bytes (take i w) ++ 32 ∷ hex_digits 2 b = ap (λ (n : ℕ). hex_bytes (take n w)) s ∙ (ap hex_bytes t ∙ (hex-append (take i w) (b ∷ []) ∙ ap (λ (l : List ℕ). hex_bytes (take i w) ++ l) (hex-one b))) in
      record {
        inside = omega arith;
        wrote = subst (λ (l : List ℕ). Wrote l out₀ at q out₁) (sym e) (then-wrote x.room x.wrote y);
        long = ap length y.stored ∙ (length-sets out p (32 ∷ hex_digits 2 b) ∙ x.long);
        room = x.room;
      }

  pub list-end : length w ≤ i → Wrote (hex_bytes w) out₀ at p out
  list-end h = subst (λ (l : List ℕ). Wrote (hex_bytes l) out₀ at p out) (take_all i w h) x.wrote

pub ruleset listing = (rules, list-start, list-more, list-end)

-- numbers of several bytes
module _ (n : ℕ) where
  two-big : (n / 256 % 256) ∷ n % 256 ∷ [] ≡ low_bytes true 2 n
  unfolding low_bytes bytes_of
  two-big = refl

  two-little : n % 256 ∷ (n / 256 % 256) ∷ [] ≡ low_bytes false 2 n
  unfolding low_bytes bytes_of
  two-little = refl

  third : n / 65536 ≡ n / 256 / 256
  third = omega arith

  fourth : n / 16777216 ≡ n / 256 / 256 / 256
  fourth = omega arith

  three-big : (n / 65536 % 256) ∷ (n / 256 % 256) ∷ n % 256 ∷ [] ≡ low_bytes true 3 n
  unfolding low_bytes bytes_of
  three-big = rw third

  three-little : n % 256 ∷ (n / 256 % 256) ∷ (n / 65536 % 256) ∷ [] ≡ low_bytes false 3 n
  unfolding low_bytes bytes_of
  three-little = rw third

  four-big : (n / 16777216 % 256) ∷ (n / 65536 % 256) ∷ (n / 256 % 256) ∷ n % 256 ∷ [] ≡ low_bytes true 4 n
  unfolding low_bytes bytes_of
  four-big = rw (third, fourth)

  four-little : n % 256 ∷ (n / 256 % 256) ∷ (n / 65536 % 256) ∷ (n / 16777216 % 256) ∷ [] ≡ low_bytes false 4 n
  unfolding low_bytes bytes_of
  four-little = rw (third, fourth)

  module _ {b : Bool} {x y : ℕ} {out out₁ : List ℕ} {at r : ℕ} where
    pub wrote-two-big : b ≡ true → x ≡ n / 256 % 256 → y ≡ n % 256 → Wrote (hex_bytes (x ∷ y ∷ [])) out at r out₁ → Wrote (hex_bytes (low_bytes b 2 n)) out at r out₁
    wrote-two-big e f g w = rw (e, ← two-big, ← f, ← g) w

    pub wrote-two-little : b ≡ false → x ≡ n % 256 → y ≡ n / 256 % 256 → Wrote (hex_bytes (x ∷ y ∷ [])) out at r out₁ → Wrote (hex_bytes (low_bytes b 2 n)) out at r out₁
    wrote-two-little e f g w = rw (e, ← two-little, ← f, ← g) w

  module _ {b : Bool} {x y z : ℕ} {out out₁ : List ℕ} {at r : ℕ} where
    pub wrote-three-big : b ≡ true → x ≡ n / 65536 % 256 → y ≡ n / 256 % 256 → z ≡ n % 256 → Wrote (hex_bytes (x ∷ y ∷ z ∷ [])) out at r out₁ → Wrote (hex_bytes (low_bytes b 3 n)) out at r out₁
    wrote-three-big e f g h w = rw (e, ← three-big, ← f, ← g, ← h) w

    pub wrote-three-little : b ≡ false → x ≡ n % 256 → y ≡ n / 256 % 256 → z ≡ n / 65536 % 256 → Wrote (hex_bytes (x ∷ y ∷ z ∷ [])) out at r out₁ → Wrote (hex_bytes (low_bytes b 3 n)) out at r out₁
    wrote-three-little e f g h w = rw (e, ← three-little, ← f, ← g, ← h) w

  module _ {b : Bool} {x y z v : ℕ} {out out₁ : List ℕ} {at r : ℕ} where
    pub wrote-four-big : b ≡ true → x ≡ n / 16777216 % 256 → y ≡ n / 65536 % 256 → z ≡ n / 256 % 256 → v ≡ n % 256 → Wrote (hex_bytes (x ∷ y ∷ z ∷ v ∷ [])) out at r out₁ → Wrote (hex_bytes (low_bytes b 4 n)) out at r out₁
    wrote-four-big e f g h i w = rw (e, ← four-big, ← f, ← g, ← h, ← i) w

    pub wrote-four-little : b ≡ false → x ≡ n % 256 → y ≡ n / 256 % 256 → z ≡ n / 65536 % 256 → v ≡ n / 16777216 % 256 → Wrote (hex_bytes (x ∷ y ∷ z ∷ v ∷ [])) out at r out₁ → Wrote (hex_bytes (low_bytes b 4 n)) out at r out₁
    wrote-four-little e f g h i w = rw (e, ← four-little, ← f, ← g, ← h, ← i) w

pub ruleset twos = (rules, wrote-two-big, wrote-two-little)

pub ruleset threes = (rules, wrote-three-big, wrote-three-little)

pub ruleset fours = (rules, wrote-four-big, wrote-four-little)

-- `put_address`
module _ (b : Bool) (n : ℕ) {w : Width} {out out₁ : List ℕ} {at r : ℕ} where
  pub address-two : w ≡ Two → Wrote (hex_bytes (low_bytes b 2 n)) out at r out₁ → Wrote (hex_bytes (low_bytes b (suc (more_of w)) n)) out at r out₁
  address-two e x = rw e x

  pub address-three : w ≡ Three → Wrote (hex_bytes (low_bytes b 3 n)) out at r out₁ → Wrote (hex_bytes (low_bytes b (suc (more_of w)) n)) out at r out₁
  address-three e x = rw e x

  pub address-four : w ≡ Four → Wrote (hex_bytes (low_bytes b 4 n)) out at r out₁ → Wrote (hex_bytes (low_bytes b (suc (more_of w)) n)) out at r out₁
  address-four e x = rw e x

pub ruleset addresses = (rules, address-two, address-three, address-four)

-- `put_content`
pub content-wrote : (b : Bool) (k a : ℕ) (c : List ℕ) {out o₁ o₂ o₃ o₄ : List ℕ} {at p q r e : ℕ} → length out < 2 ^ 64 → Wrote (84 ∷ []) out at p o₁ → Wrote (hex_bytes (low_bytes b k a)) o₁ p q o₂
    → Wrote (hex_bytes c) o₂ q r o₃ → Wrote (10 ∷ []) o₃ r e o₄ → Wrote (content_out b k a c) out at e o₄
unfolding content_out
content-wrote b k a c {out} {o₁} {o₂} {o₃} {o₄} {at} {p} {q} {r} {e} h x y z v =
    subst (λ (l : List ℕ). Wrote l out at e o₄) (ap (λ (l : List ℕ). (84 ∷ l) ++ 10 ∷ []) (sym (hex-append (low_bytes b k a) c))) (then-wrote h (then-wrote h (then-wrote h x y) z) v)

pub ruleset contents = (rules, content-wrote)

-- the line is that of `written`
pub content-of-form : (radix : ℕ) (big : Bool) (w : Width) (p : NamedPair) → Each IsByte p.content.bytes
    → content_out big (suc (more_of w)) p.content.address p.content.bytes ≡ line_ended (content_text (hex_of (record { radix = radix; big = big; address_length = suc (more_of w) })) p)
unfolding content_out low_bytes content_bytes hex_of
content-of-form radix big w p h = shape w ∙ ap line_ended (sym (content-shape (record { radix = radix; big = big; address_length = suc (more_of w) }) p h))
  where
    shape : (w : Width) → content_out big (suc (more_of w)) p.content.address p.content.bytes
        ≡ line_ended (84 ∷ hex_bytes (content_bytes (hex_of (record { radix = radix; big = big; address_length = suc (more_of w) })) p))
    shape Two = refl
    shape Three = refl
    shape Four = refl
