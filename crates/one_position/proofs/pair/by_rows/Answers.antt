use mathlib.Core.Path.{refl}
use Rattle.one_position.proofs.PairLaws.{by_rows, rows_left}
use Rattle.one_position.proofs.pair.by_rows.Goals as goal

pub columns_at-requires : goal.columns_at-requires
columns_at-requires c = search by_rows

pub by_columns-requires : goal.by_columns-requires
by_columns-requires c = search by_rows

pub returns : goal.returns
returns c = rows_left c.args.line c.args.home c.args.bs.now c.args.fragments.now c.args.row c.args.want refl refl refl c.columns_at.ensures c.by_columns.ensures
