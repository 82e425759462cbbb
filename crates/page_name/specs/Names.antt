-- Names as they stand in a page.
-- Assumes nothing.
use Rattle.std.specs.Prelude.{ℕ, List, [], ◌∷◌, ◌++◌, eqb}
use Rattle.format.specs.Lists.{pick}
use Rattle.texts.specs.Names.{shown}

-- &lt; and &gt; and &amp; and &quot; and &#39;
abbrev pub less : List ℕ
less = 38 ∷ 108 ∷ 116 ∷ 59 ∷ []

abbrev pub greater : List ℕ
greater = 38 ∷ 103 ∷ 116 ∷ 59 ∷ []

abbrev pub ampersand : List ℕ
ampersand = 38 ∷ 97 ∷ 109 ∷ 112 ∷ 59 ∷ []

abbrev pub quote : List ℕ
quote = 38 ∷ 113 ∷ 117 ∷ 111 ∷ 116 ∷ 59 ∷ []

abbrev pub apostrophe : List ℕ
apostrophe = 38 ∷ 35 ∷ 51 ∷ 57 ∷ 59 ∷ []

-- both quotes by their entities, any other byte as in a listing
unfoldable pub quoted_byte : ℕ → List ℕ
quoted_byte b = pick (eqb b 34) quote (pick (eqb b 39) apostrophe (shown (b ∷ [])))

-- < > and & too
unfoldable pub page_byte : ℕ → List ℕ
page_byte b = pick (eqb b 60) less (pick (eqb b 62) greater (pick (eqb b 38) ampersand (quoted_byte b)))

unfoldable pub in_page : List ℕ → List ℕ
in_page [] = []
in_page (b ∷ bytes) = page_byte b ++ in_page bytes
