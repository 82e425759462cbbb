-- The code's answers about the H line as the definition's ones, and where group one ends.
-- Assumes nothing.
use Rattle.std.specs.Prelude.{ℕ, true, List, map, Some, None}
use Rattle.std.specs.Prelude as std
use Rattle.std.proofs.Math.Option.{Option, none, some}
use Rattle.format.specs.Header.{Form}
use Rattle.format.specs.Entries.{Entry}
use Rattle.format.specs.Records.{Step, Taken, goes, last, last_of, stops}
use Rattle.laws.specs.Places.{records_at}
use Rattle.counts.specs.Counts as the
use Rattle.counts_of.specs.declared.Counted.{Counted}
use Rattle.counts_of.specs.declared.Counted.TheVariants.{Equal, NotEqual, NotTold}

abbrev pub told_counted : Counted → the.Counted
told_counted Equal = the.equal
told_counted NotEqual = the.not_equal
told_counted NotTold = the.not_told

-- where group one goes on behind a line, or that it stops there
abbrev pub told_end : std.Option ℕ → Option ℕ
told_end (Some n) = some n
told_end None = none

-- where a step goes on
abbrev pub end_after : Step Entry → Option ℕ
end_after stops = none
end_after (last t) = none
end_after (goes t) = some t.end

-- where the records of group one end that begin at a place
unfoldable pub group_one_end : Form → List ℕ → ℕ → ℕ
group_one_end f text p = last_of p (map (λ (t : Taken Entry). t.end) (records_at true f text p).entries)
