use Rattle.header.specs.Told.{form_of}
use Rattle.pair_line.proofs.Laws.Content.{contents, content-1, content-2}
use Rattle.pair_line.proofs.content.parse_content.Goals as goal

pub returns-in_err-address : goal.returns-in_err-address
returns-in_err-address c =
    let e = content-1 (form_of c.args.form) _ c.args.out.now c.address_part.ensures c.in_err-address.was in
    search contents

pub returns : goal.returns
returns c = content-2 (form_of c.args.form) _ c.args.out.now c.address_part.ensures c.in_ok-address.was c.parse_byte_many-run.ensures
