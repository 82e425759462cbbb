-- The rule at one fixup, by rows.
-- Assumes nothing.
use Rattle.std.specs.Prelude.{ℕ, Bool, List, [], ◌∷◌, eqb}
use Rattle.format.specs.Lists.{pick}
use Rattle.format.specs.Fixups.{Fixup}
use Rattle.difference.specs.Module.{At, numbered, passing, says}
use Rattle.difference.specs.Changes.{Change, Side, each, fixup, newer, older, said_in}

abbrev pub side_if : Bool → Side
side_if new = pick new newer older

-- fixup i of one side's area, if the other side lacks it
unfoldable pub lack_here : Bool → (id : ℕ) (s : List ℕ) → Fixup → ℕ → (t : List ℕ) → List Fixup → List Change
lack_here new id s x i t ys = pick (eqb x.home id) (pick (said_in (says s x) t ys) [] (fixup (side_if new) id i ∷ [])) []

-- the fixups of one side's area that the other side lacks
unfoldable pub lacking_in : Bool → (id : ℕ) (s : List ℕ) → List Fixup → (t : List ℕ) → List Fixup → List Change
lacking_in new id s xs t ys =
    each (λ (x : At Fixup). pick (said_in (says s x.it) t ys) [] (fixup (side_if new) id x.index ∷ [])) (passing (λ (x : At Fixup). eqb x.it.home id) (numbered 0 xs))
