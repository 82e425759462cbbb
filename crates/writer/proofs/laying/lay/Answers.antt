use Rattle.writer.proofs.Laws.{laying}
use Rattle.writer.proofs.laying.lay.Goals as goal

pub returns-then-own-n : goal.returns-then-own-n
returns-then-own-n c = search laying

pub part-requires : goal.part-requires
part-requires c = search laying

pub admit-requires : goal.admit-requires
admit-requires c = search laying

pub enum_told-1 : goal.enum_told-1
enum_told-1 c = search laying

pub enum_told-in_default : goal.enum_told-in_default
enum_told-in_default c = search laying

pub returns-in_default : goal.returns-in_default
returns-in_default c = search laying

pub returns-then-out-n : goal.returns-then-out-n
returns-then-out-n c = search laying

pub copy_bytes-requires : goal.copy_bytes-requires
copy_bytes-requires c = search laying

pub shape_of-out : goal.shape_of-out
shape_of-out c = search laying

pub returns : goal.returns
returns c = search laying
