use Rattle.reading_lines.proofs.Laid.{second-some}
use lib.Seq.{length-take-le}
use mathlib.Core.Path.{sym}
use Rattle.reading_lines.proofs.Laid.{seconds}
use Rattle.reading_lines.proofs.second.second.Goals as goal

pub ending-requires : goal.ending-requires
ending-requires c = search seconds

pub returns-then-not-g : goal.returns-then-not-g
returns-then-not-g c = search seconds

pub slice_bounds-group_two-end : goal.slice_bounds-group_two-end
slice_bounds-group_two-end c = search seconds

pub slice_bounds-group_two-end-2 : goal.slice_bounds-group_two-end-2
slice_bounds-group_two-end-2 c =
    let a = c in
    sym (length-take-le _ _ a.requires.3)

pub slice_bounds-group_two-end-3 : goal.slice_bounds-group_two-end-3
slice_bounds-group_two-end-3 c = search seconds

pub slice_bounds-group_two-end-4 : goal.slice_bounds-group_two-end-4
slice_bounds-group_two-end-4 c = sym (length-take-le _ _ c.requires.4)

pub group_two-requires : goal.group_two-requires
group_two-requires c = search seconds

pub shape_of-areas : goal.shape_of-areas
shape_of-areas c = search seconds

pub shape_of-values : goal.shape_of-values
shape_of-values c = search seconds

pub shape_of-masks : goal.shape_of-masks
shape_of-masks c = search seconds

pub shape_of-rows : goal.shape_of-rows
shape_of-rows c = search seconds

pub returns : goal.returns
returns c =
    second-some _ _ _ c.requires.0 c.if-not-g.false _ _ c.requires.3 c.requires.4 c.group_two.ensures.0 c.group_two.ensures.1 c.group_two.auto.values c.group_two.auto.masks
