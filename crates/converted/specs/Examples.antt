-- Modules of each radix, and what is made of them.
-- Assumes nothing.
use Rattle.std.specs.Prelude.{ℕ, ◌≡◌, refl, List, [], map, ◌∷◌}
use Rattle.format.specs.Lists.{flat}
use Rattle.format.specs.Text.{bytes_of as text}
use Rattle.format.specs.Evaluate.{evaluate}
use Rattle.halt.specs.Evaluate.{evaluate_halt}
use Rattle.any_radix.specs.ReadAny.{read_any}
use Rattle.manual.specs.Specifier.{write_specifier}
use Rattle.manual.specs.Digits.{bytes_of, digit, digits_of, fewest}
use Rattle.manual.specs.WrittenPairs.{write_content, write_relocation}
use Rattle.written.specs.Alike.{rewritten}
use Rattle.written.specs.Named.{bytes_at, collected, named_of}
use Rattle.written.specs.Writing.{area_text, hex_of, line_texts, pair_texts, symbol_text, written, written_by}
use Rattle.converted.specs.Convert.{Converted, convert, refusal, rewrite, stopped_at, written_as}

pub record Example : Type 0 where
  pub before : List ℕ
  pub after : Converted

abbrev pub examples : List Example
examples =
    -- octal, big; decimal, little; X goes over too, without what a reading ignores
    record {
      before = text "QH3\nA CSEG size 3 flags 40\nT 000 000 000 220 022 064\nR 000 000 000 000 000 004 000 000\n";
      after = written_as (text "XH3\nA CSEG size 3 flags 20\nT 00 00 00 90 12 34\nR 00 00 00 00 00 04 00 00\n");
    }
    ∷ record {
      before = text " DL2\r\nM x\r\nS a Ref0\r\nA C size 10 flags 32 addr 100\r\nT 001 000 016 255\r\nR 0 0 0 0 2 2 0 0\r\n";
      after = written_as (text "XL2\nS a Ref0\nA C size A flags 20 addr 64\nT 01 00 10 FF\nR 00 00 00 00 02 02 00 00\n");
    }
    ∷ record { before = text "XH2\nM x\nA C size 0010 flags 0\n"; after = written_as (text "XH2\nA C size 10 flags 0\n") }
    -- a line without its end; a byte that cannot stand there, of a number in this radix
    ∷ record { before = text "DH3\nA C size 10 flags 32"; after = stopped_at 4 (record { reason = 4; place = 24 }) }
    ∷ record { before = text "QH3\nA C size 18 flags 40\n"; after = stopped_at 4 (record { reason = 4; place = 14 }) }
    -- refused: no header, a header without its line end, a byte above 127, a fragment that runs past its line
    ∷ record { before = text "M x\n"; after = refusal 4 0 }
    ∷ record { before = text "QH3"; after = refusal 4 0 }
    ∷ record { before = 81 ∷ 72 ∷ 51 ∷ 10 ∷ 200 ∷ []; after = refusal 3 4 }
    ∷ record { before = text "DH2\nA C size 9 flags 32\nT 0 0 5\nR 0 0 0 0 0 2 0 0\n"; after = refusal 10 24 }
    ∷ []

pub as-shown : map (λ e. convert e.before) examples ≡ map (λ e. e.after) examples
unfolding evaluate evaluate_halt text convert read_any rewrite rewritten written written_by hex_of area_text symbol_text pair_texts line_texts bytes_at collected named_of write_specifier write_content write_relocation digits_of fewest digit bytes_of flat
as-shown = refl
