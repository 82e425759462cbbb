-- Six positions: two known, one of which five bits, two relocated, and one that no line writes; its mask is 0 as that of a relocated one is.
-- Assumes nothing.
use Rattle.std.specs.Prelude.{◌≡◌, refl, [], ◌∷◌}
use Rattle.kinds.specs.Kinds.{kind_count, kind_of, kinds_in}

pub six : kinds_in (255 ∷ 0 ∷ 0 ∷ 31 ∷ 0 ∷ 255 ∷ []) (1 ∷ 1 ∷ 1 ∷ 1 ∷ 0 ∷ 1 ∷ []) 6 ≡ record { unwritten = 1; known = 2; partly = 1; relocated = 2 }
unfolding kind_count kind_of kinds_in
six = refl
