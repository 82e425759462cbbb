use borrow.Author.Rules.{rules}
use Rattle.line_halt.proofs.Laws.GroupOne.{fields, fields-2, fields-3, fields-4}
use Rattle.line_halt.proofs.group_one.fields_due.Goals as goal

pub returns-in_err-size : goal.returns-in_err-size
returns-in_err-size c = search fields

pub returns-in_err-flags : goal.returns-in_err-flags
returns-in_err-flags c =
    let e = fields-2 c.args.radix c.args.t.now c.args.at c.field_at.ensures c.in_ok-size.was c.field_at-2.ensures c.in_err-flags.was in
    search (rules, e)

pub returns-in_err-addr : goal.returns-in_err-addr
returns-in_err-addr c =
    let e = fields-3 c.args.radix c.args.t.now c.args.at c.field_at.ensures c.in_ok-size.was c.field_at-2.ensures c.in_ok-flags.was c.field_at-3.ensures c.in_err-addr.was in
    search (rules, e)

pub returns : goal.returns
returns c = fields-4 c.args.radix c.args.t.now c.args.at c.field_at.ensures c.in_ok-size.was c.field_at-2.ensures c.in_ok-flags.was c.field_at-3.ensures c.in_ok-addr.was c.past_kind.ensures
