-- Demand 3 down to the lent buffers. One call read a whole text and accepted it. A second call, with buffers of the same lengths that may
-- hold anything, read that text cut after n bytes. Then the second call's answer, and what each of its five buffers holds afterwards,
-- are told by the whole's records alone: nothing here is read from the cut text.
-- Assumes nothing.
use Rattle.std.specs.Prelude.{ℕ, ◌≤◌, ◌<◌, ◌≡◌, true, ◌↔◌}
use mathlib.Core.List.{List, ◌∷◌, Memᴰ}
use Rattle.format.specs.Lists.{flat, over}
use Rattle.format.specs.Outcome.{fine}
use Rattle.format.specs.Rows.{area_table, fixup_numbers, symbol_numbers}
use Rattle.format.specs.Records.{Parsed, Verdict, ends, finished, last_of, parsed, stopped}
use Rattle.format.specs.Reading.{Answer, Built, accepted, build, counts_of, fixups_of, refusal}
use Rattle.format.specs.Held.{Held}
use Rattle.cut.specs.Cut.{cut_records}

-- the places directly behind the header line and behind the whole's records that end inside the cut
unfoldable pub edges : ℕ → Parsed → List ℕ
edges n whole = whole.head ∷ ends (cut_records n whole.records)

-- the last of them
unfoldable pub last_edge : ℕ → Parsed → ℕ
last_edge n whole = last_of whole.head (ends (cut_records n whole.records))

-- what the second call did, the header line being inside the cut
pub record CutHeld (whole : Parsed) (n : ℕ) (old : Held) (answer : Answer) (new : Held) : Type 0 where
  -- what the whole's records that end inside the cut give, alone
  pub built : Built
  pub of-those-records : build whole.form (cut_records n whole.records) ≡ fine built
  -- it accepted, with the counts of those records and a verdict
  pub told : Verdict
  pub accepts : answer ≡ accepted (counts_of built) told
  -- finished, exactly if the cut lies directly behind the header line or one of those records
  pub finished-at-an-edge : (told ≡ finished) ↔ Memᴰ n (edges n whole)
  -- and else stopped, at the last such place
  pub else-stopped : (Memᴰ n (edges n whole) → ⊥) → told ≡ stopped (last_edge n whole)
  -- each buffer has the rows of those records first, the area rows with the known bits that those records alone give, and behind them what it held
  pub areas : new.areas ≡ over (area_table built.tables.areas built.state.masks) old.areas
  pub symbols : new.symbols ≡ over (flat symbol_numbers built.tables.symbols) old.symbols
  pub values : new.values ≡ over built.state.values old.values
  pub masks : new.masks ≡ over built.state.masks old.masks
  pub fixups : new.fixups ≡ over (flat fixup_numbers (fixups_of built)) old.fixups

-- what the second call did: it refused with 4 and changed no buffer, or the above
pub record CutMeets (text : List ℕ) (n : ℕ) (old : Held) (answer : Answer) (new : Held) : Type 0 where
  -- the whole text's form, the end of its header line, and its records
  pub whole : Parsed
  pub of-the-text : parsed true text ≡ fine whole
  pub before : n < whole.head → (answer ≡ refusal 4 0) × (new ≡ old)
  pub from-there : whole.head ≤ n → CutHeld whole n old answer new
