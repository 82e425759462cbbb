-- The numbers of a fixup row.
-- Assumes nothing.
use Rattle.std.specs.Prelude.{ℕ, List, [], ◌∷◌, get_or}
use Rattle.format.specs.Mode.{on_site}
use Rattle.sites.specs.declared.Site.{Site}
use Rattle.references.specs.declared.Reference.{Reference}

-- its area, position, bytes on site and mode, what the i-th fragment refers to, and the number that the fragment made
unfoldable pub row_of : Site → (ms ns : List ℕ) → Reference → (i position : ℕ) → List ℕ
row_of s ms ns t i position =
    s.id ∷ position ∷ on_site (get_or ms i 0) ∷ get_or ms i 0 ∷ t.outside ∷ t.what ∷ t.length ∷ t.value ∷ get_or ns i 0 ∷ []
