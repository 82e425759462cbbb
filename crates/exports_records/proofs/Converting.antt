-- The laws of the exported converter.
-- Assumes nothing.
use Prim.Native.Nat.{ℕ}
use mathlib.Core.Path.{◌≡◌}
use mathlib.Core.List.{List}
use borrow.Author.Rules.{rules}
use Rattle.convert_answer.specs.Converts.{Answer, Converts}
use Rattle.convert_answer.specs.Numbers.{convert_numbers}
use Rattle.convert_answer.specs.declared.ConvertNumbers.{ConvertNumbers}
use Rattle.exports_records.specs.Converts.{ConvertsNumbers}

-- `gatecobalt_convert`
pub converts-so : (text : List ℕ) {out out' : List ℕ} {t : Answer} {r : ConvertNumbers} → Converts text out t out' → r ≡ convert_numbers t → ConvertsNumbers text out r out'
converts-so text {out} {out'} {t} w e = record { answer = t; converts = w; says = e }

pub ruleset converts = (rules, converts-so)
