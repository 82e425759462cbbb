use Rattle.fragments.proofs.Laws.Fragments.{fragments}
use Rattle.fragments.proofs.fragments.parse_reloc_frag.Goals as goal

pub loop-n-init : goal.loop-n-init
loop-n-init c = search fragments

pub returns-in_default : goal.returns-in_default
returns-in_default c = search fragments

pub loop-n-preserved : goal.loop-n-preserved
loop-n-preserved c = search fragments

pub returns : goal.returns
returns c = search fragments
