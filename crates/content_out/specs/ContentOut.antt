-- T lines as they are written, each with its LF.
-- Assumes nothing.
use Rattle.std.specs.Prelude.{ℕ, Bool, List, [], ◌++◌, ◌∷◌}
use Rattle.manual.specs.Digits.{bytes_of}
use Rattle.written.specs.Shapes.{hex_bytes}
use Rattle.written.specs.Writing.{order_of}

-- the k low bytes of a number, in the header's order
unfoldable pub low_bytes : (big : Bool) (k n : ℕ) → List ℕ
low_bytes big k n = bytes_of (order_of big) k n

-- T, the address, the content, LF
unfoldable pub content_out : (big : Bool) (k address : ℕ) (content : List ℕ) → List ℕ
content_out big k address content = (84 ∷ hex_bytes (low_bytes big k address ++ content)) ++ 10 ∷ []
