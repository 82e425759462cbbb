-- The code's answers as the definition's ones.
-- Assumes nothing.
use Rattle.book.specs.Names as the
use Rattle.book.specs.Contents as contents
use Rattle.std.specs.declared.cmp.Ordering.{Ordering}
use Rattle.std.specs.declared.cmp.Ordering.TheVariants.{Less, Equal, Greater}
use Rattle.book_rows.specs.declared.row.Row.{Row}

-- the order that an answer tells
abbrev pub order_by : Ordering → the.Order
order_by Less = the.less
order_by Equal = the.same
order_by Greater = the.more

-- the row that an answer tells
abbrev pub row_by : Row → contents.Row
row_by r = record { name_at = r.name; name_length = r.long; at = r.at; size = r.size }
