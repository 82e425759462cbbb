-- What a pair out of rows of records marks.
-- Assumes nothing.
use Rattle.std.specs.Prelude.{ℕ, ◌+◌, ◌*◌, ◌≡◌, Bool, List, take}
use Rattle.std.proofs.Math.Option.{none}
use Rattle.format.specs.Header.{Form}
use Rattle.format.specs.Outcome.{Outcome, fine, and_then, fold}
use Rattle.format.specs.Pairs.{Content, Fragment, Relocation, placed}
use Rattle.format.specs.Tables.{Tables, last_index}
use Rattle.format.specs.WorkLine.{fresh, in_line, step_all}
use Rattle.laws.specs.Rows.{from}
use Rattle.order.specs.Writes.{Cell, lay, writes}
use Rattle.homes.specs.declared.Home.{Home}
use Rattle.sites.specs.declared.Line.{Line}
use Rattle.work.specs.Work.{form_of}
use Rattle.record_rows.specs.RecordRows.{fragment_columns}
use Rattle.record_parts.specs.Parts.{fragment_from}
use Rattle.mark_pair.specs.Marks.{mark_walk, or_before}
use Rattle.one_position.specs.Pair.{Fair, Sound, Stands}
use Rattle.one_position.specs.Answer.{Held}

-- 10, or the map once fragments marked what they write
unfoldable pub marks_from : Line → Home → (bs : List ℕ) (fs : List Fragment) (radix : ℕ) → List ℕ → Outcome (List ℕ)
marks_from l h bs fs radix map =
    and_then (fold (in_line l.width l.bytes l.place) 0 fs) (λ k.
    fine (mark_walk h.start h.size (step_all (form_of radix l) fs (fresh l.width (take l.bytes bs))).work.keeps (l.width + l.bytes) 0 l.address map))

-- a pair's bytes, and the rows of its fragments from a place on
pub record MarksBy (l : Line) (h : Home) (bs fragments : List ℕ) (row : ℕ) (old new : List ℕ) : Type 0 where
  pub kept : Fair l h bs → (k radix : ℕ) → row ≡ fragment_columns * k → new ≡ or_before old (marks_from l h bs (from (fragment_from fragments) k l.fragments) radix old)
  pub unkept : last_index h.id ≡ none → new ≡ old

-- what the pair at a row writes
pub record RowMarks (areas : List ℕ) (n : ℕ) (pairs content fragments : List ℕ) (p : ℕ) (big : Bool) (width : ℕ) (old new : List ℕ) : Type 0 where
  pub marks : (fm : Form) (t : Tables) (place : ℕ) (c : Content) (r : Relocation) → Held fm t areas n big width → Stands pairs content fragments p place c r → Sound fm t place c r
      → new ≡ lay (λ (x : Cell). 1) (writes fm t (record { place = place; end = 0; body = placed c r })) old
