use Rattle.one_position.proofs.BackLaws.{finding}
use Rattle.one_position.proofs.back.found.Goals as goal

pub enum_known-c : goal.enum_known-c
enum_known-c c = search finding

pub enum_told-1 : goal.enum_told-1
enum_told-1 c = search finding

pub enum_told-in-Beyond : goal.enum_told-in-Beyond
enum_told-in-Beyond c = search finding

pub enum_told-in-Misfit : goal.enum_told-in-Misfit
enum_told-in-Misfit c = search finding

pub returns-in-Byte : goal.returns-in-Byte
returns-in-Byte c = search finding

pub returns-in-Nothing : goal.returns-in-Nothing
returns-in-Nothing c = search finding

pub returns-in-Beyond : goal.returns-in-Beyond
returns-in-Beyond c = search finding

pub returns-in-Misfit : goal.returns-in-Misfit
returns-in-Misfit c = search finding
