-- The parts of a target: the start and its sign, the block and the closing bits, a law for each return.
-- Assumes nothing.
use Prim.Native.Nat.{ℕ, min, suc, ◌%◌, ◌*◌, ◌+◌, ◌-◌, ◌/◌, ◌<◌, ◌^◌, ◌≤◌}
use mathlib.Core.Path.{◌≡◌, refl, sym, ap, ◌∙◌}
use mathlib.Core.Bool.{Bool, false, true}
use mathlib.Core.Logic.{◌⊎◌, inl, inr}
use mathlib.Core.List.{List, [], ◌∷◌}
use native.Mathlib.Nat.{eq-or-lt_of_le, mod-eq_of_lt, pow-le-pow_right, div-mul-le_self, mod-lt, lt_of_mul-lt-mul_right, mul-le-mul_right, suc-mul}
use native.Mathlib.Omega.{arith}
use denote.Enum.Declared.{tag_of}
use types.Run.{OneOf, miss}
use mir.Syntax.{w64}
use mir.Val.{Fits}
use lib.Dec.{lit<, lit≤}
use lib.ListN.{drop, get_or, length, take}
use lib.Pow.{pow-add, pow_pos}
use borrow.Author.Rules.{rules}
use borrow.Author.Tests.{eq-eqb, ne_eqb}
use Rattle.format.specs.Number.{horner, join, little}
use Rattle.format.specs.Mode as the
use Rattle.format.specs.Mode.{Class, bit}
use Rattle.format.specs.Target.{block, closing, in_block, near, number_bit, signed_start, wrap_add, wrap_sub}
use Rattle.joining.proofs.Shift.{moved_up}
use Rattle.laws.proofs.Parts.{part_end}
use Rattle.mode.specs.declared.class.JumpType.{JumpType}
use Rattle.mode.specs.declared.class.JumpType.TheVariants.{Addr11, Addr16, Addr19, Addr24, Byte, Other}
use Rattle.class_rows.specs.declared.row.Row.{Row}
use Rattle.mode.specs.Class.{told_class}
use Rattle.class_rows.specs.Row.{row_of}
use Rattle.mode.specs.contracts.class.JumpType.{the_type}
use Rattle.target_words.specs.Shifted.{shifted_left, shifted_right}
use Rattle.target_words.proofs.Laws.{no-bit}
use Rattle.target_parts.specs.Parts.{start_by}

-- what the bytes after the first hold
pub none_after : (big : Bool) (bs : List ℕ) → length bs ≡ 0 → 0 ≡ join big (take 2 (drop 1 bs))
unfolding join horner little
none_after true [] e = refl
none_after false [] e = refl
none_after big (x ∷ bs) e = absurd (let z : suc (length bs) ≡ 0 = e in omega arith)

pub some_after : (big : Bool) (bs : List ℕ) {w j : ℕ} → w ≡ j → j ≡ join big (take (min 2 4) (take (length bs - 1) (drop 1 bs))) → w ≡ join big (take 2 (drop 1 bs))
some_after big bs ew ej = rw (ew, ej, part_end 1 bs)

-- the start, class by class
module _ {c : JumpType} (op : ℕ) (big : Bool) (bs : List ℕ) where
  pub start-addr19 : {o w : ℕ} → c ≡ Addr19 → o ≡ op → o < 256 → w ≡ join big (take 2 (drop 1 bs)) → o * 65536 % 2 ^ 64 + w ≡ start_by op (told_class c) big bs
  start-addr19 {o} e eo l ew = rw (moved_up 64 16 {x = o} (lit≤ tt) (omega arith), e, eo, ew)

  pub start-addr11 : {o w b : ℕ} → c ≡ Addr11 → o ≡ op → o < 256 → w ≡ b → b ≡ get_or bs 1 0 → o * 256 % 2 ^ 64 + w ≡ start_by op (told_class c) big bs
  start-addr11 {o} e eo l ew eb = rw (moved_up 64 8 {x = o} (lit≤ tt) (omega arith), e, eo, ew, eb)

  pub start-addr24 : {w j : ℕ} → c ≡ Addr24 → w ≡ j → j ≡ join big (take (min 3 4) bs) → w ≡ start_by op (told_class c) big bs
  start-addr24 e ew ej = rw (e, ew, ej)

  pub start-addr16 : {w j : ℕ} → c ≡ Addr16 → w ≡ j → j ≡ join big (take (min 2 4) bs) → w ≡ start_by op (told_class c) big bs
  start-addr16 e ew ej = rw (e, ew, ej)

  pub start-byte : {w a : ℕ} → c ≡ Byte → w ≡ a → a ≡ get_or bs 0 0 → w ≡ start_by op (told_class c) big bs
  start-byte e ew ea = rw (e, ew, ea)

  pub start-other : c ≡ Other → 0 ≡ start_by op (told_class c) big bs
  start-other e = rw e

-- shifts by a small count
right_by : (x h : ℕ) → h < 64 → shifted_right x h ≡ x / 2 ^ h
unfolding shifted_right
right_by x h l = let e : h % 64 ≡ h = omega arith in rw e

one-by : (h : ℕ) → h ≤ 24 → shifted_left 1 h ≡ 2 ^ h
unfolding shifted_left
one-by h l = let e : h % 64 ≡ h = omega arith in rw e (omega (arith, pow-le-pow_right {n = 2} (lit< tt) l))

-- what is lost of 2 shifted by 63 is lost of the difference too
wrapped : (x p : ℕ) → (p ≡ 2 ^ 64) ⊎ (p < 2 ^ 64) → (x + (2 ^ 64 - p % 2 ^ 64)) % 2 ^ 64 ≡ (x + (2 ^ 64 - p)) % 2 ^ 64
wrapped x p (inl e) = rw e (omega arith)
wrapped x p (inr l) = rw (mod-eq_of_lt l) refl

less-two-by : (x h : ℕ) → h < 64 → wrap_sub x (shifted_left 2 h) ≡ wrap_sub x (2 * 2 ^ h)
unfolding shifted_left wrap_sub
less-two-by x h l =
    let e : h % 64 ≡ h = omega arith in
    let m : h ≤ 63 = omega arith in
    rw e (wrapped x (2 * 2 ^ h) (eq-or-lt_of_le (omega (arith, pow-le-pow_right {n = 2} (lit< tt) m))))

-- the bit behind a shift
pub bit_is : (x h b : ℕ) → h < 64 → b ≡ shifted_right x h → b % 2 ≡ 1 → bit h x ≡ true
unfolding bit
bit_is x h b l e t = eq-eqb (x / 2 ^ h % 2) 1 (rw (e, right_by x h l) at t)

pub bit-isnt : (x h b : ℕ) → h < 64 → b ≡ shifted_right x h → (b % 2 ≡ 1 → ⊥) → bit h x ≡ false
unfolding bit
bit-isnt x h b l e t = ne_eqb (x / 2 ^ h % 2) 1 (rw (e, right_by x h l) at t)

-- the sign of a start
pub start-over : (signed : Bool) (h x : ℕ) → x < 2 ^ 64 → 64 ≤ h → x ≡ signed_start signed h x
unfolding signed_start
start-over true h x b l = rw (no-bit x 64 h b l)
start-over false h x b l = refl

module _ {signed : Bool} (h x : ℕ) where
  pub start-unsigned : signed ≡ false → x ≡ signed_start signed h x
  unfolding signed_start
  start-unsigned e = rw e

  module _ {b : ℕ} (e : signed ≡ true) (l : h < 64) (eb : b ≡ shifted_right x h) where
    pub start-clear : (b % 2 ≡ 1 → ⊥) → x ≡ signed_start signed h x
    unfolding signed_start
    start-clear t = rw (e, bit-isnt x h b l eb t)

    pub start-set : {p r : ℕ} → b % 2 ≡ 1 → p ≡ shifted_left 2 h → r ≡ wrap_sub x p → r ≡ signed_start signed h x
    unfolding signed_start
    start-set t ep er = rw (e, bit_is x h b l eb t) ((rw ep at er) ∙ less-two-by x h l)

-- the tested bit of the number
plain : (c : JumpType) (three : Bool) → OneOf (0 ∷ 1 ∷ 2 ∷ 3 ∷ 4 ∷ []) (tag_of the_type c) → (row_of (told_class c)).tested ≡ number_bit (told_class c) three
plain Addr24 three h = refl
plain Addr19 three h = refl
plain Addr16 three h = refl
plain Addr11 three h = refl
plain Byte three h = refl
plain Other three h = absurd (miss (0 ∷ 1 ∷ 2 ∷ 3 ∷ 4 ∷ []) 5 tt h)

pub tested-plain : (c : JumpType) (three : Bool) {r : Row} → OneOf (0 ∷ 1 ∷ 2 ∷ 3 ∷ 4 ∷ []) (tag_of the_type c) → r ≡ row_of (told_class c) → r.tested ≡ number_bit (told_class c) three
tested-plain c three h e = ap (λ (r : Row). r.tested) e ∙ plain c three h

pub tested-three : {c : JumpType} {three : Bool} → c ≡ Other → three ≡ true → 23 ≡ number_bit (told_class c) three
tested-three e f = rw (e, f)

pub tested-two : {c : JumpType} {three : Bool} {r : Row} → c ≡ Other → three ≡ false → r ≡ row_of (told_class c) → r.tested ≡ number_bit (told_class c) three
tested-two e f g = rw (g, e, f)

-- the block
pub block-addr19 : {c : JumpType} (t a : ℕ) {w : ℕ} → c ≡ Addr19 → w ≡ wrap_add a 3 → t % 524288 + w / 524288 % 32 * 524288 % 2 ^ 64 ≡ in_block (told_class c) t a
unfolding block
block-addr19 t a {w} e ew = rw (moved_up 64 19 {x = w / 524288 % 32} (lit≤ tt) (omega arith), e, ew)

pub block-addr11 : {c : JumpType} (t a : ℕ) {w : ℕ} → c ≡ Addr11 → w ≡ wrap_add a 2 → t % 2048 + w / 2048 % 32 * 2048 % 2 ^ 64 ≡ in_block (told_class c) t a
unfolding block
block-addr11 t a {w} e ew = rw (moved_up 64 11 {x = w / 2048 % 32} (lit≤ tt) (omega arith), e, ew)

pub block_none : (c : JumpType) (t a : ℕ) → OneOf (0 ∷ 2 ∷ 4 ∷ 5 ∷ []) (tag_of the_type c) → t ≡ in_block (told_class c) t a
block_none Addr24 t a h = refl
block_none Addr19 t a h = absurd (miss (0 ∷ 2 ∷ 4 ∷ 5 ∷ []) 1 tt h)
block_none Addr16 t a h = refl
block_none Addr11 t a h = absurd (miss (0 ∷ 2 ∷ 4 ∷ 5 ∷ []) 3 tt h)
block_none Byte t a h = refl
block_none Other t a h = refl

-- the closing bits
closing-at-most : (c : Class) → closing c ≤ 24
closing-at-most the.Addr19 = lit≤ tt
closing-at-most the.Addr11 = lit≤ tt
closing-at-most the.Addr24 = lit≤ tt
closing-at-most the.Addr16 = lit≤ tt
closing-at-most the.Byte = lit≤ tt
closing-at-most the.Other = lit≤ tt

-- an address above its closing bits
module _ (c : Class) (a : ℕ) (h : a < 2 ^ 64) where
  whole : 2 ^ (64 - closing c) * 2 ^ closing c ≡ 2 ^ 64
  whole = let sum : 64 - closing c + closing c ≡ 64 = omega (arith, closing-at-most c) in sym (pow-add 2 (64 - closing c) (closing c)) ∙ ap (λ (n : ℕ). 2 ^ n) sum

  blocks : a / 2 ^ closing c < 2 ^ (64 - closing c)
  blocks = lt_of_mul-lt-mul_right (2 ^ closing c) (omega (arith, div-mul-le_self a (2 ^ closing c), whole))

  last_block : a / 2 ^ closing c * 2 ^ closing c + 2 ^ closing c ≤ 2 ^ 64
  last_block = omega (arith, mul-le-mul_right (2 ^ closing c) blocks, suc-mul (a / 2 ^ closing c) (2 ^ closing c), whole)

module _ (c : Class) {row : Row} (er : row ≡ row_of c) where
  module _ {p : ℕ} (e : p ≡ shifted_left 1 row.closing) where
    power : p ≡ 2 ^ closing c
    power = (rw er at e) ∙ one-by (closing c) (closing-at-most c)

    pub low-some : 0 < p
    low-some = rw power (pow_pos (closing c))

  module _ (t a : ℕ) (h : a < 2 ^ 64) {q r : ℕ} (eq : q ≡ shifted_right a row.closing) (es : r ≡ shifted_left q row.closing) where
    above_low : r ≡ a / 2 ^ closing c * 2 ^ closing c
    unfolding shifted_left
    above_low =
        let l : closing c < 64 = omega (arith, closing-at-most c) in
        let m : closing c % 64 ≡ closing c = omega arith in
        let f : q ≡ a / 2 ^ closing c = (rw er at eq) ∙ right_by a (closing c) l in
        (rw (er, f, m) at es) ∙ moved_up 64 (closing c) (omega arith) (blocks c a h)

    module _ {p : ℕ} (e : p ≡ shifted_left 1 row.closing) where
      pub near-is : t % p + r ≡ near (closing c) t a
      unfolding near
      near-is = rw (power e, above_low)

      pub near_fits : Fits w64 (t % p + r)
      near_fits = record { fits = omega (arith, last_block c a h, above_low, power e, mod-lt t (low-some e)) }

pub ruleset starting = (rules, none_after, some_after, start-addr19, start-addr11, start-addr24, start-addr16, start-byte, start-other)

pub ruleset signing = (rules, start-over, start-unsigned, start-clear, start-set, tested-plain, tested-three, tested-two)

pub ruleset closings = (rules, block-addr19, block-addr11, block_none, low-some, near_fits, near-is)
