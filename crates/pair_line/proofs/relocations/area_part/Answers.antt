use Rattle.header.specs.Told.{form_of}
use Rattle.pair_line.proofs.Laws.Relocations.{relocating, part-2, part-3}
use Rattle.pair_line.proofs.relocations.area_part.Goals as goal

pub returns-then-usual_zero : goal.returns-then-usual_zero
returns-then-usual_zero c = search relocating

pub returns-in_err-next : goal.returns-in_err-next
returns-in_err-next c = search relocating

pub returns-in_err-zero : goal.returns-in_err-zero
returns-in_err-zero c =
    let e = part-2 (form_of c.args.form) _ c.lead_at.ensures c.in_ok-next.was c.zero_index.ensures c.in_err-zero.was in
    search relocating

pub returns : goal.returns
returns c = part-3 (form_of c.args.form) _ c.lead_at.ensures c.in_ok-next.was c.zero_index.ensures c.in_ok-zero.was c.next_index.ensures
