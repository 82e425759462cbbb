use Rattle.steps.proofs.Entries.{steps}
use Rattle.steps.proofs.entry.entry_step.Goals as goal

pub returns-then-t-p : goal.returns-then-t-p
returns-then-t-p c = search steps

pub returns-in_default : goal.returns-in_default
returns-in_default c = search steps

pub overflow_sub-q : goal.overflow_sub-q
overflow_sub-q c = search steps

pub overflow_add-p : goal.overflow_add-p
overflow_add-p c = search steps

pub slice_bounds-parse_entry-end : goal.slice_bounds-parse_entry-end
slice_bounds-parse_entry-end c = search steps

pub returns-in-Stops : goal.returns-in-Stops
returns-in-Stops c = search steps

pub returns-in-Goes : goal.returns-in-Goes
returns-in-Goes c = search steps

pub returns-in-Last : goal.returns-in-Last
returns-in-Last c = search steps
