-- No second answer fits a contract: what an answer tells is told by no other.
-- Assumes nothing.
use Prim.Native.Nat.{ℕ}
use mathlib.Core.Path.{◌≡◌, refl, ap, sym, ◌∙◌}
use native.Mathlib.Omega.{arith}
use Rattle.std.specs.Prelude.{Option as Answer, Some, None}
use Rattle.format.specs.Mode.{Addr11, Addr16, Addr19, Addr24, Byte, Class, Other}
use Rattle.mode.specs.Class.{told_class, told_jump}
use Rattle.mode.specs.declared.class.JumpType.{JumpType}
use Rattle.mode.specs.declared.class.JumpType.TheVariants as jump

-- the case that a class is told by
named : Class → JumpType
named Addr24 = jump.Addr24
named Addr19 = jump.Addr19
named Addr16 = jump.Addr16
named Addr11 = jump.Addr11
named Byte = jump.Byte
named Other = jump.Other

named-told : (a : JumpType) → named (told_class a) ≡ a
unfolding named
named-told jump.Addr24 = refl
named-told jump.Addr19 = refl
named-told jump.Addr16 = refl
named-told jump.Addr11 = refl
named-told jump.Byte = refl
named-told jump.Other = refl

-- `class_in`
pub one_class : (a b : JumpType) → told_class a ≡ told_class b → a ≡ b
one_class a b e = sym (named-told a) ∙ (ap named e ∙ named-told b)

-- `get_jump_type`
pub one-jump : (a b : Answer JumpType) → told_jump a ≡ told_jump b → a ≡ b
one-jump (Some x) (Some y) e =
    let q : told_class x ≡ told_class y = cc in
    ap Some (one_class x y q)
one-jump (Some x) None e = absurd (let z : ◌≡◌ {A = ℕ} 0 1 = cc in omega arith)
one-jump None (Some y) e = absurd (let z : ◌≡◌ {A = ℕ} 0 1 = cc in omega arith)
one-jump None None e = refl
