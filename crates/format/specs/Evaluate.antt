-- One name to unfold where a statement is to be computed: it opens every definition.
-- Assumes nothing.
use Rattle.std.specs.Prelude.{ℕ, Bool, List}
use Rattle.format.specs.Lists.{run, starts, over, flat}
use Rattle.format.specs.Bytes.{is_blank, is_cr_or_lf, is_white, is_name_byte, worth, is_digit}
use Rattle.format.specs.Got.{optional, many}
use Rattle.format.specs.Number.{past, blanks, space, behind, word, name, horner, digits, number, byte, next_byte, more_bytes, bytes, little, join, joined}
use Rattle.format.specs.Lines.{width, grow, blank_line, lines, taken, last_line_of, lines_of, end_length}
use Rattle.format.specs.Header.{radix_of, is_order, is_length, is_form, form_of, letters, later, header}
use Rattle.format.specs.Entries.{letter_and_more, is_ignored, ignored_line, lead, titled, field, area_of, area_line, ref_or_def, value_of, symbol_of, symbol_line, entry_line}
use Rattle.format.specs.Pairs.{address_part, content_line, index, next_index, long_mode, any_mode, mode_of, fragment, zero_index, area_part, relocation_line, whole_content, placed_of, skipped_of, pair_of, pair_lines}
use Rattle.format.specs.Mode.{bit, class_of, class_number_of, touched, on_site, gives}
use Rattle.format.specs.ModeStep.{fronted, values_by, masks_by, keeps_by, number_by_of, step_values, step_masks, step_keeps_of, step_number}
use Rattle.format.specs.Outcome.{fold}
use Rattle.format.specs.Records.{entry_step, pair_step, pairs, records, parsed_at, parsed_from, parsed, ends, stop, verdict}
use Rattle.format.specs.Tables.{named, code, absolute, base, area_row, add_area, add_symbol, add_entry, tables, fits, counted, kept, kept_size, total, kept_count, rank, offset, room}
use Rattle.format.specs.WorkLine.{padded, work_line, beyond, in_line, partly, step_at, step_all, fresh}
use Rattle.format.specs.Fixups.{reference, fixup_of, fixup_at, fixups_at, of_area, by_area}
use Rattle.format.specs.Placing.{passed_over, write, walk, walk_by, place_at, extent, place_line, place_pair, placing}
use Rattle.format.specs.Target.{wrap_add, wrap_sub, two_shifted, signed_start, signed_number, block, near, target_of, target}
use Rattle.std.specs.Int.Count.{ones_in, ones}
use Rattle.format.specs.Known.{ones_of}
use Rattle.format.specs.Rows.{area_numbers, area_table, symbol_numbers, fixup_numbers}
use Rattle.format.specs.Reading.{Lent, Reading, build, lent_room, first_high, allowed, read_of, takes, only_x, headed, read, counts_of, fixups_of, reading}

unfoldable pub evaluate : Bool → Lent → List ℕ → Reading
unfolding run starts over flat is_blank is_cr_or_lf is_white is_name_byte worth is_digit optional many past blanks space behind word name horner digits number byte next_byte more_bytes bytes little join joined width grow blank_line lines taken last_line_of lines_of end_length radix_of is_order is_length is_form form_of letters later header letter_and_more is_ignored ignored_line lead titled field area_of area_line ref_or_def value_of symbol_of symbol_line entry_line address_part content_line index next_index long_mode any_mode mode_of fragment zero_index area_part relocation_line whole_content placed_of skipped_of pair_of pair_lines bit class_of class_number_of touched on_site gives fronted values_by masks_by keeps_by number_by_of step_values step_masks step_keeps_of step_number fold entry_step pair_step pairs records parsed_at parsed_from parsed ends stop verdict named code absolute base area_row add_area add_symbol add_entry tables fits counted kept kept_size total kept_count rank offset room padded work_line beyond in_line partly step_at step_all fresh reference fixup_of fixup_at fixups_at of_area by_area passed_over write walk walk_by place_at extent place_line place_pair placing wrap_add wrap_sub two_shifted signed_start signed_number block near target_of target ones_in ones ones_of area_numbers area_table symbol_numbers fixup_numbers build lent_room first_high allowed read_of takes only_x headed read counts_of fixups_of reading
evaluate ended b text = reading ended b text
