-- A name with each byte that a page must not take for its own, and a control byte.
-- Assumes nothing.
use Rattle.std.specs.Prelude.{◌≡◌, refl, [], ◌∷◌, ◌++◌}
use Rattle.format.specs.Text.{bytes_of}
use Rattle.texts.specs.Names.{shown, shown_byte}
use Rattle.page_name.specs.Names.{in_page, page_byte, quoted_byte}

pub marked : in_page (bytes_of "a<b>&\"c'" ++ 27 ∷ bytes_of "[2J") ≡ bytes_of "a&lt;b&gt;&amp;&quot;c&#39;\\x1B[2J"
unfolding bytes_of in_page page_byte quoted_byte shown shown_byte
marked = refl
