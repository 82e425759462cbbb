use Rattle.fresh_line.proofs.Laws.{content, all-zeros}
use borrow.Author.Rules.{rules}
use Rattle.fresh_line.proofs.blank.Goals as goal

pub fill_bytes-requires : goal.fill_bytes-requires
fill_bytes-requires c = search content

pub returns : goal.returns
returns c = all-zeros c.args.w.now (search rules) c.fill_bytes.ensures
