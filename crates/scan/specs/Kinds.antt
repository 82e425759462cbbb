-- The kinds of bytes that runs are made of.
-- Assumes nothing.
use Rattle.std.specs.Prelude.{ℕ, Bool, not}
use Rattle.format.specs.Bytes.{is_blank, is_cr_or_lf, is_white, is_name_byte}
use Rattle.scan.specs.declared.Kind.{Kind}
use Rattle.scan.specs.declared.Kind.TheVariants.{Blank, White, InName, InLine}

-- the test of a kind
abbrev pub kind_of : Kind → ℕ → Bool
kind_of Blank = is_blank
kind_of White = is_white
kind_of InName = is_name_byte
kind_of InLine = λ b. not (is_cr_or_lf b)
