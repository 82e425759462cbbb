use Rattle.header.specs.Told.{form_of}
use Rattle.relocation_halt.proofs.Laws.{relocations, due-1, due-2}
use Rattle.relocation_halt.proofs.fragment_due.Goals as goal

pub returns-in_err-area : goal.returns-in_err-area
returns-in_err-area c =
    let e = due-1 (form_of c.args.form) _ c.area_part.ensures c.in_err-area.was in
    search relocations

pub returns : goal.returns
returns c = due-2 (form_of c.args.form) _ c.area_part.ensures c.in_ok-area.was c.next_due.ensures
