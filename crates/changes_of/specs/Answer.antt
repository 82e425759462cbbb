-- The answer by both readings, and the contract of the whole.
-- Assumes nothing.
use Rattle.std.specs.Prelude.{ℕ, ◌*◌, true, ◌&&◌, List}
use Rattle.format.specs.Lists.{pick}
use Rattle.format.specs.Records.{Verdict}
use Rattle.format.specs.Rows.{area_columns, fixup_columns, symbol_columns}
use Rattle.format.specs.Reading.{Answer, Counts, Lent, accepted, reading, refusal}
use Rattle.format.specs.Held.{Held, Meets, lengths}
use Rattle.difference.specs.Changes.{changes, newer, older}
use Rattle.difference.specs.Told as the
use Rattle.difference.specs.Told.{Listed, compare, is_finished, listed}
use Rattle.read_rows.specs.Rows.{Fit, module_held}
use Rattle.change_answer.specs.Answer.{Lists, Told}

-- counts that fit their buffers, if there are any
unfoldable pub FitIf : Answer → Held → Type 0
FitIf (refusal n p) h = Unit {0}
FitIf (accepted c v) h = Fit c h

-- what holds if the counts of both texts fit their buffers
pub record IfFit (c : Counts) (h : Held) (d : Counts) (k : Held) (P : Type 0) : Type 0 where
  pub holds : Fit c h → Fit d k → P

-- what holds if those of both answers do
pub record IfBoth (a : Answer) (h : Held) (b : Answer) (k : Held) (P : Type 0) : Type 0 where
  pub holds : FitIf a h → FitIf b k → P

-- 19, then 16
unfoldable pub finished_of : List ℕ → Counts → Verdict → Held → List ℕ → Counts → Verdict → Held → List ℕ → Listed
finished_of s c v h t d u k list =
    pick (is_finished v && is_finished u) (listed list (changes (module_held s c h) (module_held t d k))) (record { answer = the.refusal 19 0; list = list })

-- by both answers and what the buffers hold
abbrev pub both_of : List ℕ → Answer → Held → List ℕ → Answer → Held → List ℕ → Listed
both_of s (refusal n p) h t b k list = record { answer = the.refused_in older n p; list = list }
both_of s (accepted c v) h t (refusal n p) k list = record { answer = the.refused_in newer n p; list = list }
both_of s (accepted c v) h t (accepted d u) k list = finished_of s c v h t d u k list

-- the newer read into its buffers, and the list, if what the older's answer counts fits
pub record NewerRead (s : List ℕ) (a : Answer) (h : Held) (t : List ℕ) (old : Held) (list : List ℕ) (r : Told) (new : Held) (after : List ℕ) : Type 0 where
  pub newer-read : Meets true t old (reading true (lengths old) t).answer new
  pub lists : FitIf a h → Lists (both_of s a h t (reading true (lengths old) t).answer new list) r after

-- the contract: each text read into its buffers, the answer, and every number of the list
pub record Compares (s t : List ℕ) (old₁ old₂ : Held) (list : List ℕ) (r : Told) (new₁ new₂ : Held) (after : List ℕ) : Type 0 where
  pub older-read : Meets true s old₁ (reading true (lengths old₁) s).answer new₁
  pub newer-read : Meets true t old₂ (reading true (lengths old₂) t).answer new₂
  pub lists : Lists (compare (lengths old₁) (lengths old₂) s t list) r after

-- buffers for a reading that have just the room for their bounds
abbrev pub bounds : Lent
bounds = record { areas = 64 * area_columns; symbols = 1024 * symbol_columns; values = 65536; masks = 65536; fixups = 1024 * fixup_columns }

-- the answer and the list, for two texts
pub record Changed (s t list : List ℕ) (r : Told) (after : List ℕ) : Type 0 where
  pub lists : Lists (compare bounds bounds s t list) r after
