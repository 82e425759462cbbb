-- The code's answer about a text's T and R records, as the definition's one, and what is answered before any is laid.
-- Assumes nothing.
use Rattle.record_rows.specs.ReadPairs as paper
use Rattle.std.specs.Prelude.{Result, Ok, Err}
use Rattle.answer.specs.declared.Refusal.{Refusal}
use Rattle.admission.specs.Admits.{Gate}
use Rattle.pair_rows.specs.declared.PairCounts.{PairCounts}
pub use Rattle.pair_rows.specs.Rows.{held}

-- the counts, or the text's refusal
abbrev pub PairsAnswer : Type 0
PairsAnswer = Result PairCounts Refusal

abbrev pub told_counts : PairCounts → paper.PairCounts
told_counts n = record { pairs = n.pairs; content = n.content; fragments = n.fragments }

abbrev pub told : PairsAnswer → paper.PairsAnswer
told (Err r) = paper.refusal r.number r.place
told (Ok n) = paper.accepted (told_counts n)

-- a text's refusal, or that there are no records so far
unfoldable pub unlaid : Gate → PairsAnswer
unlaid (Err r) = Err r
unlaid (Ok u) = Ok (record { pairs = 0; content = 0; fragments = 0 })
