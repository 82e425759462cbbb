-- The arithmetic of a laid address: the corrected target of an address plus a number, modulo 2^16 or 2^24, is the address again, whatever the
-- signs are; for twice the sign bit is 2^16 or 2^24 itself, and the bits above come from the fixup's own address.
-- Assumes nothing.
use Prim.Native.Nat.{ℕ, zero, suc, ◌+◌, ◌-◌, ◌*◌, ◌%◌, ◌/◌, ◌^◌, ◌<◌}
use mathlib.Core.Path.{◌≡◌, refl, ap, ◌∙◌}
use mathlib.Core.Bool.{Bool, true, false, not, ◌&&◌, false≢true}
use mathlib.Core.List.{[], ◌∷◌}
use native.Mathlib.Omega.{arith}
use lib.ListN.{length, take, length-append}
use lib.Dec.{leb}
use borrow.Author.Tests.{lt-ltb, le-leb}
use Rattle.format.specs.Lists.{pick}
use Rattle.format.specs.Number.{horner, little, join}
use Rattle.format.specs.Mode.{Class, Addr19, Addr11, Addr24, Addr16, Byte, Other, bit, class_of, on_site, size_of}
use Rattle.format.specs.Outcome.{Outcome, fine}
use Rattle.format.specs.Target.{wrap_add, wrap_sub, near, closing, signed_start}
use Rattle.format.specs.Corrected.{corrected_of, corrected}
use Rattle.laid.specs.Laid.{low_first, low_last, in_bytes}
use Rattle.laid.specs.Fit.{whole}

-- ------------------------------------------------------------------ bytes and back

join-2 : (big : Bool) (v : ℕ) → join big (in_bytes big 2 v) ≡ v % 65536
unfolding join horner little in_bytes low_first low_last
join-2 true v = omega arith
join-2 false v = omega arith

join-3 : (big : Bool) (v : ℕ) → join big (in_bytes big 3 v) ≡ v % 16777216
unfolding join horner little in_bytes low_first low_last
join-3 true v = omega arith
join-3 false v = omega arith

-- ------------------------------------------------------------------ signs

-- modulo 2^16 a sign at bit 15 changes nothing
signed-16 : (s : Bool) (n : ℕ) → n < 2 ^ 64 → (signed_start s 15 n % 65536 ≡ n % 65536) × (signed_start s 15 n < 2 ^ 64)
unfolding signed_start wrap_sub
signed-16 s n h = go (s && bit 15 n)
  where
    go : (t : Bool) → (pick t ((n + (2 ^ 64 - 2 * 2 ^ 15)) % 2 ^ 64) n % 65536 ≡ n % 65536) × (pick t ((n + (2 ^ 64 - 2 * 2 ^ 15)) % 2 ^ 64) n < 2 ^ 64)
    go true = (omega arith, omega arith)
    go false = (refl, h)

signed-24 : (s : Bool) (n : ℕ) → n < 2 ^ 64 → (signed_start s 23 n % 16777216 ≡ n % 16777216) × (signed_start s 23 n < 2 ^ 64)
unfolding signed_start wrap_sub
signed-24 s n h = go (s && bit 23 n)
  where
    go : (t : Bool) → (pick t ((n + (2 ^ 64 - 2 * 2 ^ 23)) % 2 ^ 64) n % 16777216 ≡ n % 16777216) × (pick t ((n + (2 ^ 64 - 2 * 2 ^ 23)) % 2 ^ 64) n < 2 ^ 64)
    go true = (omega arith, omega arith)
    go false = (refl, h)

-- ------------------------------------------------------------------ back to the address, modulo 2^16

wrap-16 : (x : ℕ) → x % 2 ^ 64 % 65536 ≡ x % 65536
wrap-16 x = omega arith

sub-16 : (a b : ℕ) → b < 2 ^ 64 → wrap_sub a b % 65536 ≡ (a % 65536 + (65536 - b % 65536)) % 65536
unfolding wrap_sub
sub-16 a b h = wrap-16 (a + (2 ^ 64 - b)) ∙ omega arith

off-16 : (r n : ℕ) → ((r + n) % 65536 + (65536 - n % 65536)) % 65536 ≡ r % 65536
off-16 r n = omega arith

low-16 : (s : Bool) (r n : ℕ) → n < 2 ^ 64 → wrap_sub (signed_start s 15 (wrap_add r n % 65536)) (signed_start s 15 n) % 65536 ≡ r % 65536
unfolding wrap_add
low-16 s r n hn =
    let a = signed-16 s ((r + n) % 2 ^ 64 % 65536) (omega arith) in
    let b = signed-16 s n hn in
    let e : signed_start s 15 ((r + n) % 2 ^ 64 % 65536) % 65536 ≡ (r + n) % 65536 = a.0 ∙ (omega arith ∙ wrap-16 (r + n)) in
    sub-16 (signed_start s 15 ((r + n) % 2 ^ 64 % 65536)) (signed_start s 15 n) b.1
    ∙ (ap (λ (x : ℕ). (x + (65536 - signed_start s 15 n % 65536)) % 65536) e ∙ (ap (λ (x : ℕ). ((r + n) % 65536 + (65536 - x)) % 65536) b.0 ∙ off-16 r n))

pub back-16 : (s : Bool) (r n own : ℕ) → n < 2 ^ 64 → r / 65536 ≡ own / 65536
    → near 16 (wrap_sub (signed_start s 15 (wrap_add r n % 65536)) (signed_start s 15 n)) own ≡ r
unfolding near
back-16 s r n own hn e = ap (λ (x : ℕ). x + own / 65536 * 65536) (low-16 s r n hn) ∙ omega arith

-- ------------------------------------------------------------------ back to the address, modulo 2^24

wrap-24 : (x : ℕ) → x % 2 ^ 64 % 16777216 ≡ x % 16777216
wrap-24 x = omega arith

sub-24 : (a b : ℕ) → b < 2 ^ 64 → wrap_sub a b % 16777216 ≡ (a % 16777216 + (16777216 - b % 16777216)) % 16777216
unfolding wrap_sub
sub-24 a b h = wrap-24 (a + (2 ^ 64 - b)) ∙ omega arith

off-24 : (r n : ℕ) → ((r + n) % 16777216 + (16777216 - n % 16777216)) % 16777216 ≡ r % 16777216
off-24 r n = omega arith

low-24 : (s : Bool) (r n : ℕ) → n < 2 ^ 64 → wrap_sub (signed_start s 23 (wrap_add r n % 16777216)) (signed_start s 23 n) % 16777216 ≡ r % 16777216
unfolding wrap_add
low-24 s r n hn =
    let a = signed-24 s ((r + n) % 2 ^ 64 % 16777216) (omega arith) in
    let b = signed-24 s n hn in
    let e : signed_start s 23 ((r + n) % 2 ^ 64 % 16777216) % 16777216 ≡ (r + n) % 16777216 = a.0 ∙ (omega arith ∙ wrap-24 (r + n)) in
    sub-24 (signed_start s 23 ((r + n) % 2 ^ 64 % 16777216)) (signed_start s 23 n) b.1
    ∙ (ap (λ (x : ℕ). (x + (16777216 - signed_start s 23 n % 16777216)) % 16777216) e ∙ (ap (λ (x : ℕ). ((r + n) % 16777216 + (16777216 - x)) % 16777216) b.0 ∙ off-24 r n))

pub back-24 : (s : Bool) (r n own : ℕ) → n < 2 ^ 64 → r / 16777216 ≡ own / 16777216
    → near 24 (wrap_sub (signed_start s 23 (wrap_add r n % 16777216)) (signed_start s 23 n)) own ≡ r
unfolding near
back-24 s r n own hn e = ap (λ (x : ℕ). x + own / 16777216 * 16777216) (low-24 s r n hn) ∙ omega arith

-- ------------------------------------------------------------------ the corrected target

start-2 : (big : Bool) (v : ℕ) → join big (take 2 (in_bytes big 2 v)) ≡ v % 65536
unfolding in_bytes low_first low_last
start-2 true v = join-2 true v
start-2 false v = join-2 false v

start-3 : (big : Bool) (v : ℕ) → join big (take 3 (in_bytes big 3 v)) ≡ v % 16777216
unfolding in_bytes low_first low_last
start-3 true v = join-3 true v
start-3 false v = join-3 false v

length_last : (n v : ℕ) → length (low_last n v) ≡ n
unfolding low_last
length_last zero v = refl
length_last (suc n) v = length-append (low_last n (v / 256)) (v % 256 ∷ []) ∙ omega (arith, length_last n (v / 256))

length-first : (n v : ℕ) → length (low_first n v) ≡ n
unfolding low_first
length-first zero v = refl
length-first (suc n) v = ap suc (length-first n (v / 256))

pub length-bytes : (big : Bool) (n v : ℕ) → length (in_bytes big n v) ≡ n
unfolding in_bytes
length-bytes true n v = length_last n v
length-bytes false n v = length-first n v

module _ (big : Bool) (m n r own : ℕ) (plain : bit 2 m ≡ false) (hn : n < 2 ^ 64) where
  back_by : (c : Class) → class_of m ≡ c → whole c ≡ true → r / 2 ^ closing c ≡ own / 2 ^ closing c
      → corrected_of big m n (in_bytes big (size_of c) (wrap_add r n)) own ≡ r
  unfolding corrected_of
  back_by Addr19 e w h = absurd (false≢true w)
  back_by Addr11 e w h = absurd (false≢true w)
  back_by Addr24 e w h = rw (e, plain, start-3 big (wrap_add r n)) (back-24 (not (bit 4 m)) r n own hn h)
  back_by Addr16 e w h = rw (e, plain, start-2 big (wrap_add r n)) (back-16 (not (bit 4 m)) r n own hn h)
  back_by Byte e w h = absurd (false≢true w)
  back_by Other e w h = absurd (false≢true w)

-- the corrected target of the bytes of an address plus a number, taken with that number in the block of the address
pub back : (big : Bool) (m n r own : ℕ) → m < 2048 → n < 2 ^ 24 → whole (class_of m) ≡ true → bit 2 m ≡ false
    → r / 2 ^ closing (class_of m) ≡ own / 2 ^ closing (class_of m) → corrected big m n (in_bytes big (on_site m) (wrap_add r n)) own ≡ fine r
unfolding corrected on_site
back big m n r own hm hn w plain h =
    let k = size_of (class_of m) in
    let bs = in_bytes big k (wrap_add r n) in
    let l : leb k (length bs) ≡ true = le-leb k (length bs) (omega (arith, length-bytes big k (wrap_add r n))) in
    rw (lt-ltb m 2048 hm, lt-ltb n (2 ^ 24) hn, l)
    (ap {B = Outcome ℕ} fine (back_by big m n r own plain (omega arith) (class_of m) refl w h))
