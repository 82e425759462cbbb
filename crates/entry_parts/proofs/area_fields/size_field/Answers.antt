use Rattle.entry_parts.proofs.Laws.Usual.{usual}
use Rattle.entry_parts.proofs.area_fields.size_field.Goals as goal

pub usual_four-requires : goal.usual_four-requires
usual_four-requires c = search usual

pub overflow_add-at : goal.overflow_add-at
overflow_add-at c = search usual

pub parse_number-requires : goal.parse_number-requires
parse_number-requires c = search usual

pub returns-then-usual_four : goal.returns-then-usual_four
returns-then-usual_four c = search usual

pub field_at-requires : goal.field_at-requires
field_at-requires c = search usual

pub returns : goal.returns
returns c = search usual
