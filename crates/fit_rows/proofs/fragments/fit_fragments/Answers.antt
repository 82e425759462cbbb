use Rattle.fit_rows.proofs.Laws.Fragments.{fitting}
use Rattle.fit_rows.proofs.fragments.fit_fragments.Goals as goal

pub loop-i-init : goal.loop-i-init
loop-i-init c = search fitting

pub overflow_add-p : goal.overflow_add-p
overflow_add-p c = search fitting

pub overflow_mul-p : goal.overflow_mul-p
overflow_mul-p c = search fitting

pub at-mode-requires : goal.at-mode-requires
at-mode-requires c = search fitting

pub overflow_add-p-in-loop-i : goal.overflow_add-p-in-loop-i
overflow_add-p-in-loop-i c = search fitting

pub at-entry-requires : goal.at-entry-requires
at-entry-requires c = search fitting

pub fits_fragment-requires : goal.fits_fragment-requires
fits_fragment-requires c = search fitting

pub returns-then-not-fits_fragment : goal.returns-then-not-fits_fragment
returns-then-not-fits_fragment c = search fitting

pub overflow_add-k : goal.overflow_add-k
overflow_add-k c = search fitting

pub overflow_add-k-in-loop-i : goal.overflow_add-k-in-loop-i
overflow_add-k-in-loop-i c = search fitting

pub overflow_sub-n : goal.overflow_sub-n
overflow_sub-n c = search fitting

pub overflow_sub-n-in-loop-i : goal.overflow_sub-n-in-loop-i
overflow_sub-n-in-loop-i c = search fitting

pub beside_all-requires : goal.beside_all-requires
beside_all-requires c = search fitting

pub returns-then-not-beside_all : goal.returns-then-not-beside_all
returns-then-not-beside_all c = search fitting

pub loop-i-preserved : goal.loop-i-preserved
loop-i-preserved c = search fitting

pub returns : goal.returns
returns c = search fitting
