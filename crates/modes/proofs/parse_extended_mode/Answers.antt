use Rattle.modes.proofs.Laws.{moding, mode-6, mode-7}
use Rattle.modes.proofs.parse_extended_mode.Goals as goal

pub returns-in_err-mode : goal.returns-in_err-mode
returns-in_err-mode c = search moding

pub returns-then-mode-lt2048 : goal.returns-then-mode-lt2048
returns-then-mode-lt2048 c = mode-6 _ _ _ c.any_mode.ensures c.in_ok-mode.was c.if-mode-lt2048.true

pub returns : goal.returns
returns c = mode-7 _ _ _ c.any_mode.ensures c.in_ok-mode.was c.if-mode-lt2048.false
