-- A number moved up in a word of any width: where its own bits end below those that are lost, it is multiplied.
-- Assumes nothing.
use Prim.Native.Nat.{ℕ, ◌%◌, ◌*◌, ◌+◌, ◌-◌, ◌<◌, ◌≤◌, ◌^◌}
use mathlib.Core.Path.{◌≡◌, subst, ap, sym, ◌∙◌}
use native.Mathlib.Nat.{mod-eq_of_lt, mul-lt-mul_of_pos_right}
use native.Mathlib.Omega.{arith}
use lib.Pow.{pow-add, pow_pos}

-- moved up by k of w bits
pub moved_up : (w k : ℕ) {x : ℕ} → k ≤ w → x < 2 ^ (w - k) → x * 2 ^ k % 2 ^ w ≡ x * 2 ^ k
moved_up w k {x} h l =
    let e : w - k + k ≡ w = omega arith in
    let p : 2 ^ (w - k) * 2 ^ k ≡ 2 ^ w = sym (pow-add 2 (w - k) k) ∙ ap (λ (n : ℕ). 2 ^ n) e in
    mod-eq_of_lt (subst (λ (n : ℕ). x * 2 ^ k < n) p (mul-lt-mul_of_pos_right l (pow_pos k)))
