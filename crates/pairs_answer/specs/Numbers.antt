-- The answer about T and R records as numbers.
-- Assumes nothing.
use Rattle.record_rows.specs.ReadPairs.{PairsAnswer, accepted, refusal}
use Rattle.pairs_answer.specs.declared.PairsNumbers.{PairsNumbers}

abbrev pub pairs_numbers : PairsAnswer → PairsNumbers
pairs_numbers (refusal n p) = record { refusal = n; place = p; pairs = 0; content = 0; fragments = 0 }
pairs_numbers (accepted c) = record { refusal = 0; place = 0; pairs = c.pairs; content = c.content; fragments = c.fragments }
