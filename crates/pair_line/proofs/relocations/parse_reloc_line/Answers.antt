use Rattle.header.specs.Told.{form_of}
use Rattle.pair_line.proofs.Laws.Relocations.{relocating, relocation-1, relocation-2}
use Rattle.pair_line.proofs.relocations.parse_reloc_line.Goals as goal

pub returns-in_err-area : goal.returns-in_err-area
returns-in_err-area c =
    let e = relocation-1 (form_of c.args.form) _ c.area_part.ensures c.in_err-area.was c.args.modes.now c.args.entries.now c.args.indexes.now in
    search relocating

pub returns : goal.returns
returns c = relocation-2 (form_of c.args.form) _ c.area_part.ensures c.in_ok-area.was c.parse_reloc_frag-run.ensures c.past_kind.ensures
