-- Whether the ended reading accepts a text, as it is or with a header of every radix taken.
-- Assumes nothing.
use Rattle.std.specs.Prelude.{ℕ, ◌≡◌, true, List, Result, Ok, Err}
use Rattle.format.specs.Outcome.{fine, refused}
use Rattle.format.specs.Reading as paper
use Rattle.format.specs.Reading.{Read, read}
use Rattle.any_radix.specs.ReadAny.{read_any}
use Rattle.record_rows.specs.ReadPairs.{roomy}
use Rattle.answer.specs.declared.Refusal.{Refusal}

-- a text that is read, or its refusal
abbrev pub Gate : Type 0
Gate = Result (Unit {0}) Refusal

abbrev pub shut : (number place : ℕ) → Gate
shut n p = Err (record { number = n; place = p })

-- a text that the ended reading accepts
pub record IsRead (text : List ℕ) : Type 0 where
  pub as_read : Read
  pub is : read true roomy text ≡ fine as_read

abbrev pub Passes : List ℕ → Gate → Type 0
Passes text (Ok u) = IsRead text
Passes text (Err r) = read true roomy text ≡ refused r.number r.place

pub record GateIs (text : List ℕ) (r : Gate) : Type 0 where
  pub passes : Passes text r

-- a text that the ended reading accepts where it takes a header of every radix
pub record IsReadAny (text : List ℕ) : Type 0 where
  pub as_read : Read
  pub is : read_any roomy text ≡ fine as_read

abbrev pub PassesAny : List ℕ → Gate → Type 0
PassesAny text (Ok u) = IsReadAny text
PassesAny text (Err r) = read_any roomy text ≡ refused r.number r.place

pub record GateIsAny (text : List ℕ) (r : Gate) : Type 0 where
  pub passes : PassesAny text r

-- what an answer of a reading says of it
unfoldable pub gate_of : paper.Answer → Gate
gate_of (paper.refusal n p) = shut n p
gate_of (paper.accepted c v) = Ok tt
