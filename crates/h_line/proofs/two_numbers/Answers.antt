use Rattle.h_line.proofs.Laws.{two-1, two-2, two-3, two-4, two-5}
use Rattle.h_line.proofs.two_numbers.Goals as goal

pub returns-in_default : goal.returns-in_default
returns-in_default c = two-1 _ _ _ c.parse_number.ensures c.in_default.is

pub returns-in_default-field_at : goal.returns-in_default-field_at
returns-in_default-field_at c = two-2 _ _ _ c.parse_number.ensures c.in-Ok.is c.field_at.ensures c.in_default-field_at.is

pub returns-in_default-symbol_words : goal.returns-in_default-symbol_words
returns-in_default-symbol_words c = two-3 _ _ _ c.parse_number.ensures c.in-Ok.is c.field_at.ensures c.in-Ok-field_at.is c.symbol_words.ensures c.in_default-symbol_words.is

pub returns-then-end-t : goal.returns-then-end-t
returns-then-end-t c = two-4 _ _ _ c.parse_number.ensures c.in-Ok.is c.field_at.ensures c.in-Ok-field_at.is c.symbol_words.ensures c.in-Ok-symbol_words.is c.if-end-t.true

pub returns : goal.returns
returns c = two-5 _ _ _ c.parse_number.ensures c.in-Ok.is c.field_at.ensures c.in-Ok-field_at.is c.symbol_words.ensures c.in-Ok-symbol_words.is c.if-end-t.false
