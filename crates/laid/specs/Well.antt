-- What is shown of the bytes that are laid: they agree with the pattern, and their fixups reach what they refer to.
-- Assumes nothing.
use Rattle.std.specs.Prelude.{ℕ, ◌+◌, ◌≤◌, ◌<◌, ◌/◌, ◌^◌, ◌≡◌, Bool, true, length, get_or, take, drop}
use mathlib.Core.List.{List, Memᴰ}
use Rattle.std.proofs.Math.Option.{some}
use Rattle.format.specs.Mode.{bit, class_of}
use Rattle.format.specs.Outcome.{fine}
use Rattle.format.specs.Tables.{total, rank, offset}
use Rattle.format.specs.Fixups.{Fixup}
use Rattle.format.specs.Placing.{extent}
use Rattle.format.specs.Target.{closing}
use Rattle.format.specs.Corrected.{corrected}
use Rattle.format.specs.Reading.{Lent, Read, read, fixups_of}
use Rattle.laid.specs.Laid.{Chosen, referred, own_address}
use Rattle.laid.specs.Words.{Fits}
use Rattle.laid.specs.Fit.{Agrees}

-- a fixup that lies wholly in its area, the a-th, and refers to an address in the block above 16 (or 24) bits of its own
pub record Near (w : Read) (ch : Chosen) (x : Fixup) (a : ℕ) : Type 0 where
  pub in_area : rank 0 w.built.tables.areas a ≡ some x.home
  pub wholly : x.position + x.size ≤ extent w.built.tables.areas a
  pub one_block : referred ch x.refers / 2 ^ closing (class_of x.mode) ≡ own_address ch x / 2 ^ closing (class_of x.mode)

-- the area that a fixup lies in; no two areas have one id
pub record Housed (w : Read) (x : Fixup) : Type 0 where
  pub area : ℕ
  pub in_area : rank 0 w.built.tables.areas area ≡ some x.home
  pub only : (a : ℕ) → rank 0 w.built.tables.areas a ≡ some x.home → area ≡ a

-- bytes laid for a module
pub record Well (ended : Bool) (b : Lent) (ch : Chosen) (text bytes : List ℕ) : Type 0 where
  pub it : Read
  pub accepted : read ended b text ≡ fine it
  pub fits : Fits it.parsed.form it.built.tables it.parsed.records.pairs
  pub as_many : length bytes ≡ total it.built.tables.areas
  -- at every position, written or not, nothing is known, or all and the byte is the pattern's
  pub agrees : (i : ℕ) → i < total it.built.tables.areas → Agrees (get_or it.built.state.values i 0) (get_or it.built.state.masks i 0) (get_or bytes i 0)
  -- so wherever the mask has a one, byte and pattern have the same bit
  pub bits : (i : ℕ) → i < total it.built.tables.areas → (k : ℕ) → bit k (get_or it.built.state.masks i 0) ≡ true
      → bit k (get_or bytes i 0) ≡ bit k (get_or it.built.state.values i 0)
  -- every fixup lies in one area
  pub housed : (x : Fixup) → Memᴰ x (fixups_of it.built) → Housed it x
  -- the corrected target of a fixup's bytes is the address that it refers to
  pub reaches : (x : Fixup) → Memᴰ x (fixups_of it.built) → (a : ℕ) → Near it ch x a
      → corrected it.parsed.form.big x.mode x.number (take x.size (drop (offset it.built.tables.areas a + x.position) bytes)) (own_address ch x)
      ≡ fine (referred ch x.refers)
