-- The whole reading: refusals 1 to 13 and 18, or the answer and the rows that the lent buffers hold afterwards.
-- Assumes nothing.
use Rattle.std.specs.Prelude.{suc, ℕ, ◌*◌, Bool, true, ◌&&◌, List, [], ◌∷◌, length, eqb, leb}
use Rattle.std.proofs.Math.Option.{Option, none, some}
use Rattle.format.specs.Lists.{flat, pick}
use Rattle.format.specs.Header.{Form}
use Rattle.format.specs.Outcome.{Outcome, and_then, fine, refused}
use Rattle.format.specs.Records.{Parsed, Records, Verdict, parsed, verdict}
use Rattle.format.specs.Tables.{Tables, counted, kept_count, room, tables}
use Rattle.format.specs.Fixups.{Fixup, by_area}
use Rattle.format.specs.Placing.{State, placing}
use Rattle.format.specs.Rows.{area_columns, area_table, fixup_columns, fixup_numbers, symbol_columns, symbol_numbers}

-- what the records alone give
pub record Built : Type 0 where
  pub tables : Tables
  pub lines : ℕ
  pub size : ℕ
  pub state : State

-- 5 to 8 by text, then 9, then 10 to 13
unfoldable pub build : Form → Records → Outcome Built
build f r =
    and_then (tables r.entries) (λ t.
    and_then (counted r.pairs) (λ n.
    and_then (room t) (λ z.
    and_then (placing f t r.pairs) (λ s.
    fine (record { tables = t; lines = n; size = z; state = s })))))

-- how long the lent buffers are
pub record Lent : Type 0 where
  pub areas : ℕ
  pub symbols : ℕ
  pub values : ℕ
  pub masks : ℕ
  pub fixups : ℕ

-- 1: whether each lent buffer has room for its bound
unfoldable pub lent_room : Lent → Bool
lent_room b =
    leb (64 * area_columns) b.areas
    && leb (1024 * symbol_columns) b.symbols
    && leb 65536 b.values
    && leb 65536 b.masks
    && leb (1024 * fixup_columns) b.fixups

-- 3: the first byte above 127, if there is one
unfoldable pub first_high : ℕ → List ℕ → Option ℕ
first_high at [] = none
first_high at (b ∷ bs) = let r = first_high (suc at) bs in pick (leb 128 b) (some at) r

abbrev pub no_high : Option ℕ → Outcome ℕ
no_high none = fine 0
no_high (some at) = refused 3 at

-- 1 to 3
unfoldable pub allowed : Lent → List ℕ → Outcome ℕ
allowed b text = pick (lent_room b) (pick (leb (length text) 65536) (no_high (first_high 0 text)) (refused 2 0)) (refused 1 0)

-- a text that is read: its records, and what they give
pub record Read : Type 0 where
  pub parsed : Parsed
  pub built : Built

unfoldable pub read_of : Parsed → Outcome Read
read_of p = and_then (build p.form p.records) (λ b. fine (record { parsed = p; built = b }))

-- 18: the plain reading takes headers of all three radices, the ended reading those of X only
unfoldable pub takes : Bool → (radix : ℕ) → Bool
takes ended radix = pick ended (eqb radix 16) true

unfoldable pub only_x : Bool → Parsed → Outcome Parsed
only_x ended p = pick (takes ended p.form.radix) (fine p) (refused 18 0)

-- 4, then 18, or what the text holds; `parsed` is the same for a header of any radix
unfoldable pub headed : Bool → List ℕ → Outcome Parsed
headed ended text = and_then (parsed ended text) (only_x ended)

-- 1 to 3, 4 or 18, 5 to 13, or what was read
unfoldable pub read : Bool → Lent → List ℕ → Outcome Read
read ended b text = and_then (allowed b text) (λ k. and_then (headed ended text) read_of)

-- how much there is: areas, symbols, T and R pairs, kept areas, positions of their images, fixups
pub record Counts : Type 0 where
  pub areas : ℕ
  pub symbols : ℕ
  pub lines : ℕ
  pub kept : ℕ
  pub positions : ℕ
  pub fixups : ℕ

-- what is answered: a refusal with its number and place, or the counts and the verdict
pub data Answer : Type 0 where
  refusal : (number place : ℕ) → Answer
  accepted : Counts → Verdict → Answer

-- the answer, and the rows that stand first in each lent buffer afterwards
pub record Reading : Type 0 where
  pub answer : Answer
  pub areas : List ℕ
  pub symbols : List ℕ
  pub values : List ℕ
  pub masks : List ℕ
  pub fixups : List ℕ

unfoldable pub counts_of : Built → Counts
counts_of b = record {
  areas = length b.tables.areas;
  symbols = length b.tables.symbols;
  lines = b.lines;
  kept = kept_count b.tables.areas;
  positions = b.size;
  fixups = length b.state.fixups;
}

-- fixups stand area by area
unfoldable pub fixups_of : Built → List Fixup
fixups_of b = by_area (kept_count b.tables.areas) 0 b.state.fixups

-- a refusal has no rows
abbrev pub reading_of : List ℕ → Outcome Read → Reading
reading_of text (refused n p) = record { answer = refusal n p; areas = []; symbols = []; values = []; masks = []; fixups = [] }
reading_of text (fine r) = record {
  answer = accepted (counts_of r.built) (verdict text r.parsed);
  areas = area_table r.built.tables.areas r.built.state.masks;
  symbols = flat symbol_numbers r.built.tables.symbols;
  values = r.built.state.values;
  masks = r.built.state.masks;
  fixups = flat fixup_numbers (fixups_of r.built);
}

-- The whole reading of a text, the ended one if the flag says so. What a lent buffer holds afterwards is its rows over what it held before.
unfoldable pub reading : Bool → Lent → List ℕ → Reading
reading ended b text = reading_of text (read ended b text)
