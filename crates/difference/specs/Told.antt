-- What is answered: a text's refusal, 19, 16, or how many rows there are; and what the lent list holds afterwards.
-- Assumes nothing.
use Rattle.std.specs.Prelude.{ℕ, ◌*◌, Bool, false, true, ◌&&◌, List, length, leb}
use Rattle.format.specs.Lists.{flat, over, pick}
use Rattle.format.specs.Outcome.{Outcome, fine, refused}
use Rattle.format.specs.Records.{Verdict, finished, stopped, verdict}
use Rattle.format.specs.Reading.{Lent, Read, fixups_of, read}
use Rattle.difference.specs.Module.{Module}
use Rattle.difference.specs.Changes.{Change, Side, changes, newer, older}
use Rattle.difference.specs.Rows.{change_columns, change_numbers}

-- a text's own refusal, a refusal of both, or the count of the rows
pub data Told : Type 0 where
  refused_in : Side → (number place : ℕ) → Told
  refusal : (number place : ℕ) → Told
  told : (rows : ℕ) → Told

-- the answer, and what the list holds afterwards
pub record Listed : Type 0 where
  pub answer : Told
  pub list : List ℕ

abbrev pub is_finished : Verdict → Bool
is_finished finished = true
is_finished (stopped at) = false

-- 16: the list unchanged; else the rows, and behind them the list keeps its numbers
unfoldable pub listed : List ℕ → List Change → Listed
listed list cs =
    pick (leb (change_columns * length cs) (length list))
    (record { answer = told (length cs); list = over (flat change_numbers cs) list })
    (record { answer = refusal 16 0; list = list })

-- a text with what was read of it
abbrev pub module_of : List ℕ → Read → Module
module_of text r = record {
  text = text;
  areas = r.built.tables.areas;
  symbols = r.built.tables.symbols;
  values = r.built.state.values;
  masks = r.built.state.masks;
  fixups = fixups_of r.built;
}

-- 19, then 16
unfoldable pub compared : (older newer : List ℕ) → Read → Read → List ℕ → Listed
compared s t a b list =
    pick (is_finished (verdict s a.parsed) && is_finished (verdict t b.parsed))
    (listed list (changes (module_of s a) (module_of t b)))
    (record { answer = refusal 19 0; list = list })

-- the older's refusal, then the newer's
abbrev pub compared_with : (s t : List ℕ) → Outcome Read → Outcome Read → List ℕ → Listed
compared_with s t (refused n p) b list = record { answer = refused_in older n p; list = list }
compared_with s t (fine a) (refused n p) list = record { answer = refused_in newer n p; list = list }
compared_with s t (fine a) (fine b) list = compared s t a b list

-- an older and a newer text, the buffers lent for each reading, and the lent list
unfoldable pub compare : Lent → Lent → (older newer : List ℕ) → List ℕ → Listed
compare l m s t list = compared_with s t (read true l s) (read true m t) list
