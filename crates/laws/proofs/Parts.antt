-- What a callee that was lent `&mut s[a..]` says of the part, said of the whole.
-- Assumes nothing.
use mathlib.Core.Path.{◌≡◌, ◌∙◌, ap}
use mathlib.Core.List.{List, ◌++◌, append-nil}
use Prim.Native.Nat.{ℕ, ◌-◌, ◌≤◌}
use native.Mathlib.Omega.{arith}
use lib.ListN.{length, take, drop, length-drop}
use lib.Seq.{take_all, drop-length}
use borrow.Rule.Slice.PartMut.{put_mid, Post-is}
use Rattle.laws.specs.Part.{on_part}

-- the part that `&s[a..]` and `&mut s[a..]` lend
pub part_end : (a : ℕ) (xs : List ℕ) → take (length xs - a) (drop a xs) ≡ drop a xs
part_end a xs = take_all (length xs - a) (drop a xs) (simp length-drop (omega arith))

-- the whole when the part is back
pub put-end : (f : List ℕ → List ℕ) (a : ℕ) (xs ys : List ℕ) → a ≤ length xs → ys ≡ f (take (length xs - a) (drop a xs)) → put_mid a (length xs - a) xs ys ≡ on_part f a xs
put-end f a xs ys h e =
    ap (λ (l : List ℕ). take a xs ++ l)
    (ap (λ (l : List ℕ). ys ++ l) (Post-is a (length xs) xs h ∙ drop-length xs) ∙ append-nil ys ∙ e ∙ ap f (part_end a xs))
