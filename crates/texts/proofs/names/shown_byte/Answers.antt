use Rattle.texts.proofs.Showing.{shows}
use Rattle.texts.proofs.names.shown_byte.Goals as goal

pub returns-then-is_control : goal.returns-then-is_control
returns-then-is_control c = search shows

pub returns : goal.returns
returns c = search shows
