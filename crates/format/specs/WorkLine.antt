-- The work line of a pair: the dropped address entries, the content, and what the fragments do to it in order; refusal 10.
-- Assumes nothing.
use Rattle.std.specs.Prelude.{suc, ℕ, ◌+◌, ◌-◌, Bool, ◌&&◌, List, [], ◌++◌, ◌∷◌, drop, length, replicate, take, leb, ltb}
use Rattle.format.specs.Lists.{pick}
use Rattle.format.specs.Header.{Form}
use Rattle.format.specs.Pairs.{Fragment}
use Rattle.format.specs.Mode.{touched}
use Rattle.format.specs.ModeStep.{Work, step_keeps_of, step_masks, step_number, step_values}
use Rattle.format.specs.Outcome.{Outcome, fine, refused}

-- 260 entries: A dropped ones for the address, the content with mask FF, dropped ones behind it
unfoldable pub padded : ℕ → ℕ → List ℕ → List ℕ
padded a n xs = replicate a 0 ++ xs ++ replicate (260 - (a + n)) 0

-- values, masks and kept flags
unfoldable pub work_line : ℕ → List ℕ → Work
work_line a bs =
    let n = length bs in
    record { values = padded a n bs; masks = padded a n (replicate n 255); keeps = padded a n (replicate n 1) }

-- 10: an entry of at least A whose touched entries run past the line
unfoldable pub beyond : ℕ → ℕ → Fragment → Bool
beyond a n f = leb a f.entry && ltb (a + n) (f.entry + touched f.mode)

-- the same as an outcome, over the fragments of a pair
unfoldable pub in_line : ℕ → ℕ → ℕ → ℕ → Fragment → Outcome ℕ
in_line a n place k f = pick (beyond a n f) (refused 10 place) (fine (suc k))

-- the work line, and the numbers made so far
pub record Worked : Type 0 where
  pub work : Work
  pub numbers : List ℕ

-- a list whose part from n on is changed
unfoldable pub partly : ℕ → (List ℕ → List ℕ) → List ℕ → List ℕ
partly n g xs = take n xs ++ g (drop n xs)

-- a fragment's part of the work line goes through the mode step, which makes one number
unfoldable pub step_at : Bool → Fragment → Worked → Worked
step_at big f w = record {
  work = record {
    values = partly f.entry (step_values f.mode) w.work.values;
    masks = partly f.entry (step_masks f.mode) w.work.masks;
    keeps = partly f.entry (step_keeps_of f.mode) w.work.keeps;
  };
  numbers = w.numbers ++ step_number big f.mode (drop f.entry w.work.values) ∷ [];
}

-- in fragment order, each fragment whose entry is at least A
unfoldable pub step_all : Form → List Fragment → Worked → Worked
step_all fm [] w = w
step_all fm (f ∷ fs) w = step_all fm fs (pick (leb fm.address_length f.entry) (step_at fm.big f w) w)

-- the work line before any fragment
unfoldable pub fresh : ℕ → List ℕ → Worked
fresh a bs = record { work = work_line a bs; numbers = [] }
