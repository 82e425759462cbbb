-- The answer to a comparison as numbers.
-- Assumes nothing.
use Rattle.difference.specs.Changes.{newer, older}
use Rattle.difference.specs.Told.{Told, refusal, refused_in, told}
use Rattle.change_answer.specs.declared.ChangedNumbers.{ChangedNumbers}

-- 1 for the older's refusal, 2 for the newer's, 0 for one of both
abbrev pub changed_numbers : Told → ChangedNumbers
changed_numbers (refused_in older n p) = record { refusal = n; side = 1; place = p; rows = 0 }
changed_numbers (refused_in newer n p) = record { refusal = n; side = 2; place = p; rows = 0 }
changed_numbers (refusal n p) = record { refusal = n; side = 0; place = p; rows = 0 }
changed_numbers (told k) = record { refusal = 0; side = 0; place = 0; rows = k }
