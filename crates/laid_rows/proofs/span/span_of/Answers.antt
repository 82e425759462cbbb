use Rattle.laid_rows.proofs.Laws.Span.{span-rows}
use Rattle.laid_rows.proofs.span.span_of.Goals as goal

pub row_at-row-requires : goal.row_at-row-requires
row_at-row-requires c = search span-rows

pub wide-requires : goal.wide-requires
wide-requires c = search span-rows

pub home_at-home-requires : goal.home_at-home-requires
home_at-home-requires c = search span-rows

pub span_by-requires : goal.span_by-requires
span_by-requires c = search span-rows

pub returns : goal.returns
returns c = search span-rows
