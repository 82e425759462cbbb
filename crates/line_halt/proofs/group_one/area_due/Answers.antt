use Rattle.header.specs.Told.{form_of}
use Rattle.line_halt.proofs.Laws.GroupOne.{areas, area-2}
use Rattle.line_halt.proofs.group_one.area_due.Goals as goal

pub returns-in_err-name : goal.returns-in_err-name
returns-in_err-name c = search areas

pub returns : goal.returns
returns c = area-2 (form_of c.args.form) c.args.t.now c.title.ensures c.in_ok-name.was c.fields_due.ensures
