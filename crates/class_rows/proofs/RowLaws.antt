-- One row a class: what the code takes out of it, class by class.
-- Assumes nothing.
use Prim.Native.Nat.{ℕ, zero, suc, ◌%◌, ◌/◌, ◌<◌}
use mathlib.Core.Path.{◌≡◌, refl, ap, ◌∙◌}
use mathlib.Core.Bool.{Bool, false, not, true}
use mathlib.Core.List.{[], ◌∷◌}
use native.Mathlib.Omega.{arith}
use denote.Enum.Declared.{tag_of}
use types.Run.{OneOf, miss}
use lib.Dec.{eqb}
use borrow.Author.Rules.{rules}
use Rattle.format.specs.Mode.{bit, gives_of, touched_of}
use Rattle.mode.specs.declared.class.JumpType.{JumpType}
use Rattle.mode.specs.declared.class.JumpType.TheVariants.{Addr11, Addr16, Addr19, Addr24, Byte, Other}
use Rattle.class_rows.specs.declared.row.Row.{Row}
use Rattle.mode.specs.Class.{told_class}
use Rattle.class_rows.specs.Row.{row_of}
use Rattle.mode.specs.contracts.class.JumpType.{the_type}

-- every class but Other touches as many entries with bit 8 as without it
plain : (c : JumpType) (three : Bool) → OneOf (0 ∷ 1 ∷ 2 ∷ 3 ∷ 4 ∷ []) (tag_of the_type c) → (row_of (told_class c)).touched ≡ touched_of (told_class c) three
plain Addr24 three h = refl
plain Addr19 three h = refl
plain Addr16 three h = refl
plain Addr11 three h = refl
plain Byte three h = refl
plain Other three h = absurd (miss (0 ∷ 1 ∷ 2 ∷ 3 ∷ 4 ∷ []) 5 tt h)

pub touched-plain : (c : JumpType) (three : Bool) {r : Row} → OneOf (0 ∷ 1 ∷ 2 ∷ 3 ∷ 4 ∷ []) (tag_of the_type c) → r ≡ row_of (told_class c) → r.touched ≡ touched_of (told_class c) three
touched-plain c three h e = ap (λ (r : Row). r.touched) e ∙ plain c three h

pub touched-three : {c : JumpType} {three : Bool} → c ≡ Other → three ≡ true → 3 ≡ touched_of (told_class c) three
touched-three e f = rw (e, f)

pub touched-two : {c : JumpType} {three : Bool} {r : Row} → c ≡ Other → three ≡ false → r ≡ row_of (told_class c) → r.touched ≡ touched_of (told_class c) three
touched-two e f g = rw (g, e, f)

-- every class but Other and Byte gives a fixup without bit 10
is_one : (x : ℕ) → x < 2 → eqb x 0 ≡ not (eqb x 1)
is_one zero h = refl
is_one (suc zero) h = refl
is_one (suc (suc x)) h = absurd (omega arith)

pub gives-plain : (c : JumpType) (m : ℕ) → OneOf (0 ∷ 1 ∷ 2 ∷ 3 ∷ []) (tag_of the_type c) → eqb (m / 1024 % 2) 0 ≡ gives_of (told_class c) m
unfolding bit
gives-plain Addr24 m h = is_one (m / 1024 % 2) (omega arith)
gives-plain Addr19 m h = is_one (m / 1024 % 2) (omega arith)
gives-plain Addr16 m h = is_one (m / 1024 % 2) (omega arith)
gives-plain Addr11 m h = is_one (m / 1024 % 2) (omega arith)
gives-plain Byte m h = absurd (miss (0 ∷ 1 ∷ 2 ∷ 3 ∷ []) 4 tt h)
gives-plain Other m h = absurd (miss (0 ∷ 1 ∷ 2 ∷ 3 ∷ []) 5 tt h)

pub gives-byte : {c : JumpType} (m : ℕ) → c ≡ Byte → eqb (m / 4 % 2) 1 ≡ gives_of (told_class c) m
unfolding bit
gives-byte m e = rw e

pub ruleset rows = (rules, touched-plain, touched-three, touched-two, gives-plain, gives-byte)
