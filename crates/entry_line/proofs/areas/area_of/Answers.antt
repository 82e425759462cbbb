use borrow.Author.Rules.{rules}
use Rattle.header.specs.Told.{form_of}
use Rattle.entry_line.specs.Told.{name_of}
use Rattle.entry_line.proofs.Laws.Areas.{areas, area-2, area-3}
use Rattle.entry_line.proofs.areas.area_of.Goals as goal

pub returns-in_err-size : goal.returns-in_err-size
returns-in_err-size c = search areas

pub returns-in_err-flags : goal.returns-in_err-flags
returns-in_err-flags c =
    let e = area-2 (form_of c.args.form) (name_of c.args.name.at c.args.name.len) c.args.t.now c.args.at c.size_field.ensures c.in_ok-size.was c.flags_field.ensures c.in_err-flags.was in
    search (rules, e)

pub returns : goal.returns
returns c = area-3 _ _ _ _ c.size_field.ensures c.in_ok-size.was c.flags_field.ensures c.in_ok-flags.was c.addr_at-addr.ensures c.past_kind.ensures
