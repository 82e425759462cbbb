-- A number's bytes are bytes, as many as were asked for, and joined they are the number, in both orders.
-- Assumes nothing.
use Prim.Native.Nat.{suc, zero, ℕ, ◌%◌, ◌/◌, ◌<◌, ◌^◌}
use mathlib.Core.Path.{◌≡◌, ap, refl}
use mathlib.Core.List.{[], ◌∷◌}
use native.Mathlib.Omega.{arith}
use lib.ListN.{length, length-append}
use Rattle.format.specs.Number.{horner, join, little}
use Rattle.manual.specs.Each.{Each, IsByte}
use Rattle.manual.specs.Specifier.{H, L, Order, is_big}
use Rattle.manual.specs.Digits.{bytes_of}
use Rattle.manual.proofs.Digits.{each_append, horner-snoc}

pub bytes_count : (o : Order) (k n : ℕ) → length (bytes_of o k n) ≡ k
unfolding bytes_of
bytes_count o zero n = refl
bytes_count H (suc k) n = simp length-append (omega (arith, bytes_count H k (n / 256)))
bytes_count L (suc k) n = ap suc (bytes_count L k (n / 256))

pub bytes-are-bytes : (o : Order) (k n : ℕ) → Each IsByte (bytes_of o k n)
unfolding bytes_of
bytes-are-bytes o zero n = tt
bytes-are-bytes H (suc k) n = each_append IsByte (bytes_of H k (n / 256)) (n % 256 ∷ []) (bytes-are-bytes H k (n / 256)) (omega arith, tt)
bytes-are-bytes L (suc k) n = (omega arith, bytes-are-bytes L k (n / 256))

-- joined in their order they are the number
pub bytes-join : (o : Order) (k n : ℕ) → n < 256 ^ k → join (is_big o) (bytes_of o k n) ≡ n
unfolding bytes_of join horner little
bytes-join H zero n h = omega arith
bytes-join L zero n h = omega arith
bytes-join H (suc k) n h =
    let i : n / 256 < 256 ^ k = omega arith in
    rw (horner-snoc 256 0 (n % 256) (bytes_of H k (n / 256)), bytes-join H k (n / 256) i) (omega arith)
bytes-join L (suc k) n h =
    let i : n / 256 < 256 ^ k = omega arith in
    rw (bytes-join L k (n / 256) i) (omega arith)
