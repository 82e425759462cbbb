use Rattle.cells.proofs.Laws.{copying}
use Rattle.cells.proofs.copy_bytes.Goals as goal

pub loop-i-init : goal.loop-i-init
loop-i-init c = search copying

pub bounds-src-i : goal.bounds-src-i
bounds-src-i c = search copying

pub overflow_add-dst : goal.overflow_add-dst
overflow_add-dst c = search copying

pub bounds-dst-at : goal.bounds-dst-at
bounds-dst-at c = search copying

pub loop-i-preserved : goal.loop-i-preserved
loop-i-preserved c = search copying

pub returns : goal.returns
returns c = search copying
