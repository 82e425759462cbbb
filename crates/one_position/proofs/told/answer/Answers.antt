use Rattle.one_position.proofs.AnswerLaws.{answering}
use Rattle.one_position.proofs.told.answer.Goals as goal

pub home_for-home-requires : goal.home_for-home-requires
home_for-home-requires c = search answering

pub returns-then-home-eq0 : goal.returns-then-home-eq0
returns-then-home-eq0 c = search answering

pub last_of-requires : goal.last_of-requires
last_of-requires c = search answering

pub returns : goal.returns
returns c = search answering
