use native.Mathlib.Omega.{arith}
use Rattle.steps.proofs.PairSteps.{lefts-at, psteps, used-in}
use Rattle.steps.proofs.pair.any_pair.Goals as goal

pub pair_places-requires : goal.pair_places-requires
pair_places-requires c = search psteps

pub returns-in_default : goal.returns-in_default
returns-in_default c = record { pair_step_is = search psteps; left_at = search lefts-at }

pub slice_bounds-read_pair-count : goal.slice_bounds-read_pair-count
slice_bounds-read_pair-count c = search psteps

pub slice_bounds-read_pair-start : goal.slice_bounds-read_pair-start
slice_bounds-read_pair-start c = search psteps

pub slice_bounds-read_pair-end : goal.slice_bounds-read_pair-end
slice_bounds-read_pair-end c = search psteps

pub slice_bounds-read_pair-count-2 : goal.slice_bounds-read_pair-count-2
slice_bounds-read_pair-count-2 c = search psteps

pub slice_bounds-read_pair-start-2 : goal.slice_bounds-read_pair-start-2
slice_bounds-read_pair-start-2 c = search psteps

pub slice_bounds-read_pair-end-2 : goal.slice_bounds-read_pair-end-2
slice_bounds-read_pair-end-2 c = search psteps

pub overflow_sub-r : goal.overflow_sub-r
overflow_sub-r c = search psteps

pub read_pair-line-requires : goal.read_pair-line-requires
read_pair-line-requires c = search psteps

pub step_from-requires : goal.step_from-requires
step_from-requires c = (search psteps, used-in _ _ _ _ _ _ c.read_pair-line.ensures.pair_is (search psteps) (search psteps) (search psteps) (search psteps) (omega arith))

pub returns : goal.returns
returns c = record { pair_step_is = search psteps; left_at = search lefts-at }
