use Rattle.reading_lines.proofs.GroupTwo.{small}
use Rattle.reading_lines.proofs.turn.standing_of.Goals as goal

pub enum_known-r : goal.enum_known-r
enum_known-r c = search small

pub enum_known-r-in-Stopped-1 : goal.enum_known-r-in-Stopped-1
enum_known-r-in-Stopped-1 c = search small

pub enum_told-1 : goal.enum_told-1
enum_told-1 c = search small

pub returns-in-Done : goal.returns-in-Done
returns-in-Done c = search small

pub returns-in-Stopped : goal.returns-in-Stopped
returns-in-Stopped c = search small

pub returns-in-Misfit : goal.returns-in-Misfit
returns-in-Misfit c = search small
