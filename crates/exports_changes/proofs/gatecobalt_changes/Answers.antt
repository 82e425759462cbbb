use Rattle.exports_changes.proofs.Laws.{answers}
use Rattle.exports_changes.proofs.gatecobalt_changes.Goals as goal

pub changes_of-requires : goal.changes_of-requires
changes_of-requires c = search answers

pub changed_numbers-requires : goal.changed_numbers-requires
changed_numbers-requires c = search answers

pub shape_of-list : goal.shape_of-list
shape_of-list c = search answers

pub returns : goal.returns
returns c = search answers
