use Rattle.sink.proofs.Laws.{adds-room}
use Rattle.sink.proofs.output.add.Goals as goal

pub returns : goal.returns
returns c = adds-room c.args.s c.args.out.now c.args.bytes.now c.copy_bytes.ensures
