-- A module's code placed at chosen addresses: the answer, and what the lent buffer holds afterwards.
-- Assumes nothing.
use Rattle.std.specs.Prelude.{ℕ, ◌≤◌, ◌≡◌, Bool, true, ◌&&◌, List, length, leb}
use Rattle.format.specs.Header.{Form}
use Rattle.format.specs.Lists.{over, pick}
use Rattle.format.specs.Outcome.{Outcome, fine, refused, and_then}
use Rattle.format.specs.Reading.{Read, read}
use Rattle.format.specs.Tables.{kept_count, tables}
use Rattle.laws.specs.Places.{records_at}
use Rattle.laws.specs.Rows.{tables_in}
use Rattle.record_rows.specs.ReadPairs.{roomy}
use Rattle.laid.specs.Fit.{fit_read, laid_read}
use Rattle.laid.specs.Outside.{by_index}
use Rattle.placed_rows.specs.declared.Placed.{Placed}
use Rattle.placed_rows.specs.Placed.{told}
use Rattle.placed_code.specs.declared.found.Tabled.{Tabled}

-- an address for each kept area by its id, and one for each symbol by its index; those of Defs are not looked at
unfoldable pub addressed : Read → (areas outside : List ℕ) → Bool
addressed w areas outside = leb (kept_count w.built.tables.areas) (length areas) && leb (length w.built.tables.symbols) (length outside)

-- of a module that is read: 1 for too few addresses, then 25, or its code
unfoldable pub code_in : (areas outside : List ℕ) → Read → Outcome (List ℕ)
code_in areas outside w = pick (addressed w areas outside) (pick (fit_read w) (fine (laid_read (by_index w.built.tables areas outside) w)) (refused 25 0)) (refused 1 0)

-- 1 for a short buffer; the refusals of the ended reading; then the others
unfoldable pub code_of : (text areas outside : List ℕ) (room : ℕ) → Outcome (List ℕ)
code_of text areas outside room = pick (leb 65536 room) (and_then (read true roomy text) (code_in areas outside)) (refused 1 0)

-- how many bytes there are
abbrev pub count_of : Outcome (List ℕ) → Outcome ℕ
count_of (fine bytes) = fine (length bytes)
count_of (refused n p) = refused n p

-- the bytes at the start of the buffer; a refusal changes none
abbrev pub held_after : Outcome (List ℕ) → List ℕ → List ℕ
held_after (fine bytes) old = over bytes old
held_after (refused n p) old = old

-- the contract
pub record CodeIs (text areas outside old : List ℕ) (r : Placed) (new : List ℕ) : Type 0 where
  pub says : told r ≡ count_of (code_of text areas outside (length old))
  pub held : new ≡ held_after (code_of text areas outside (length old)) old

-- the same of a text that is read, with a buffer that is long enough
pub record ReadPlaced (text areas outside old : List ℕ) (r : Placed) (new : List ℕ) : Type 0 where
  pub says : (w : Read) → read true roomy text ≡ fine w → told r ≡ count_of (code_in areas outside w)
  pub held : (w : Read) → read true roomy text ≡ fine w → new ≡ held_after (code_in areas outside w) old

-- rows that hold the tables of a module, and what its header says
pub record HeldBy (w : Read) (t : Tabled) (xs ys : List ℕ) : Type 0 where
  pub tables-are : tables_in xs t.areas ys t.symbols ≡ w.built.tables
  pub few : t.areas ≤ 64
  pub order : t.big ≡ w.parsed.form.big
  pub address : t.width ≡ w.parsed.form.address_length

pub record TablesHeld (text : List ℕ) (t : Tabled) (xs ys : List ℕ) : Type 0 where
  pub holds : (w : Read) → read true roomy text ≡ fine w → HeldBy w t xs ys

-- the same with the tables of group one from a place on, under a header
pub record TablesAt (text : List ℕ) (at : ℕ) (f : Form) (t : Tabled) (xs ys : List ℕ) : Type 0 where
  pub holds : (w : Read) → read true roomy text ≡ fine w → f ≡ w.parsed.form → tables (records_at true f text at).entries ≡ fine w.built.tables → HeldBy w t xs ys
