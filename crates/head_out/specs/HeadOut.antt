-- The header's line as it is written, with its LF.
-- Assumes nothing.
use Rattle.std.specs.Prelude.{ℕ, List}
use Rattle.format.specs.Header.{Form}
use Rattle.manual.specs.Specifier.{write_specifier}
use Rattle.written.specs.Writing.{hex_of, line_ended}

-- the header's line
unfoldable pub head_out : Form → List ℕ
head_out f = line_ended (write_specifier (hex_of f))
