use Rattle.empty_marks.proofs.Laws.{leading}
use Rattle.empty_marks.proofs.zero_lead.Goals as goal

pub same_so_far-a-requires : goal.same_so_far-a-requires
same_so_far-a-requires c = search leading

pub same_so_far-b-requires : goal.same_so_far-b-requires
same_so_far-b-requires c = search leading

pub same_so_far-c-requires : goal.same_so_far-c-requires
same_so_far-c-requires c = search leading

pub same_so_far-d-requires : goal.same_so_far-d-requires
same_so_far-d-requires c = search leading

pub same_so_far-e-requires : goal.same_so_far-e-requires
same_so_far-e-requires c = search leading

pub same_so_far-f-requires : goal.same_so_far-f-requires
same_so_far-f-requires c = search leading

pub same_so_far-g-requires : goal.same_so_far-g-requires
same_so_far-g-requires c = search leading

pub same_so_far-requires : goal.same_so_far-requires
same_so_far-requires c = search leading

pub returns : goal.returns
returns c = search leading
