use Rattle.header.specs.Told.{form_of}
use Rattle.pair_line.proofs.Laws.Content.{wholes, whole-1, whole-2, whole-3}
use Rattle.pair_line.proofs.content.whole_content.Goals as goal

pub returns-in_err-content : goal.returns-in_err-content
returns-in_err-content c =
    let e = whole-1 (form_of c.args.form) _ c.parse_content.ensures c.in_err-content.was in
    search wholes

pub returns-then-content-t : goal.returns-then-content-t
returns-then-content-t c = whole-2 (form_of c.args.form) _ c.parse_content.ensures c.in_ok-content.was c.if-content-t.true

pub returns : goal.returns
returns c = whole-3 (form_of c.args.form) _ c.parse_content.ensures c.in_ok-content.was c.if-content-t.false c.not_whole.ensures
