-- The line at a place, and what it does to group one, as the definition has it.
-- Assumes nothing.
use Rattle.std.specs.Prelude.{ℕ, ◌+◌, ◌≤◌, ◌<◌, ◌≡◌, true, false, List, length}
use Rattle.format.specs.Records.{Step, stops, last, goes}
use Rattle.format.specs.Entries as entries
use Rattle.laws.specs.Places.{line_end, end_at, next_line}
use Rattle.text_lines.specs.declared.LineAt.{LineAt}
use Rattle.entry_line.specs.Told.{entry_of}
use Rattle.entry_line.specs.declared.Entry.{Entry}
use Rattle.entry_line.specs.declared.Entry.TheVariants.{Area, Symbol, Ignored}
use Rattle.steps.specs.declared.entry.EntryStep.{EntryStep}
use Rattle.steps.specs.declared.entry.EntryStep.TheVariants.{Stops, Takes}

pub record LineIs (text : List ℕ) (p : ℕ) (l : LineAt) : Type 0 where
  pub ends_at : l.end ≡ line_end text p
  pub line-end : l.ends ≡ end_at text p
  pub behind : l.next ≡ next_line text p
  pub from : p ≤ l.end
  pub width : l.next ≡ l.end + l.ends
  pub inside : l.next ≤ length text

abbrev pub told_step : ℕ → EntryStep → Step entries.Entry
told_step p Stops = stops
told_step p (Takes e end next true) = goes (record { place = p; end = end; body = entry_of e })
told_step p (Takes e end next false) = last (record { place = p; end = end; body = entry_of e })

-- an entry's name, of a line at p, stands before n
abbrev pub EntryFits : ℕ → ℕ → Entry → Type 0
EntryFits n p (Area a k z g x) = p + (a + k) ≤ n
EntryFits n p (Symbol a k r v) = p + (a + k) ≤ n
EntryFits n p Ignored = p ≤ n

pub record Placed (n p : ℕ) (e : Entry) : Type 0 where
  pub fits : EntryFits n p e

abbrev pub StepBounds : List ℕ → ℕ → EntryStep → Type 0
StepBounds text p Stops = Unit {0}
StepBounds text p (Takes e end next on) = (Placed (length text) p e) × (next ≡ next_line text p) × (next ≤ length text) × (on ≡ true → p < next)

pub record StepIn (text : List ℕ) (p : ℕ) (st : EntryStep) : Type 0 where
  pub bounds : StepBounds text p st
