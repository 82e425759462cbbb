-- The modules whose code is laid, refusal 25 for any other, and what is shown of them.
-- Assumes nothing.
use Rattle.std.specs.Prelude.{ℕ, ◌+◌, ◌≡◌, Bool, true, false, not, ◌&&◌, ◌||◌, List, [], ◌∷◌, length, leb}
use Rattle.format.specs.Header.{Form}
use Rattle.format.specs.Lists.{pick}
use Rattle.format.specs.Pairs.{Fragment, Pair, skipped, placed}
use Rattle.format.specs.Mode.{Class, Addr19, Addr11, Addr24, Addr16, Byte, Other, bit, class_of, touched}
use Rattle.format.specs.Outcome.{Outcome, fine, refused, and_then}
use Rattle.format.specs.Records.{Taken}
use Rattle.format.specs.Tables.{Tables}
use Rattle.format.specs.Reading.{Lent, Read, read}
use Rattle.order.specs.Writes.{Cell, cell_at, writes, written}
use Rattle.laid.specs.Laid.{Chosen, laid_bytes}

-- Addr16 or Addr24
abbrev pub whole : Class → Bool
whole Addr19 = false
whole Addr11 = false
whole Addr24 = true
whole Addr16 = true
whole Byte = false
whole Other = false

-- bits 2, 5, 6, 9 and 10 clear
unfoldable pub clear : ℕ → Bool
clear m = not (bit 2 m) && (not (bit 5 m) && (not (bit 6 m) && (not (bit 9 m) && not (bit 10 m))))

-- a fragment of such a mode at or behind the address length
unfoldable pub fit_fragment : Form → Fragment → Bool
fit_fragment fm f = whole (class_of f.mode) && (clear f.mode && leb fm.address_length f.entry)

-- two fragments that touch no entry in common
unfoldable pub beside : Fragment → Fragment → Bool
beside f g = leb (f.entry + touched f.mode) g.entry || leb (g.entry + touched g.mode) f.entry

unfoldable pub beside_all : Fragment → List Fragment → Bool
beside_all f [] = true
beside_all f (g ∷ gs) = beside f g && beside_all f gs

-- the fragments of a pair
unfoldable pub fit_fragments : Form → List Fragment → Bool
fit_fragments fm [] = true
fit_fragments fm (f ∷ fs) = fit_fragment fm f && (beside_all f fs && fit_fragments fm fs)

abbrev pub fit_by : Form → Pair → Bool
fit_by fm skipped = true
fit_by fm (placed c r) = fit_fragments fm r.fragments

-- no position of the first cells is one of the second
unfoldable pub misses : List Cell → List Cell → Bool
misses [] ds = true
misses (c ∷ cs) ds = not (written (cell_at ds c.at)) && misses cs ds

-- a pair that writes no position in common with any of the others
unfoldable pub misses_all : Form → Tables → Taken Pair → List (Taken Pair) → Bool
misses_all fm t p [] = true
misses_all fm t p (q ∷ qs) = misses (writes fm t p) (writes fm t q) && misses_all fm t p qs

-- pairs whose code is laid
unfoldable pub fit : Form → Tables → List (Taken Pair) → Bool
fit fm t [] = true
fit fm t (p ∷ ps) = fit_by fm p.body && (misses_all fm t p ps && fit fm t ps)

-- the same of a module
unfoldable pub fit_read : Read → Bool
fit_read w = fit w.parsed.form w.built.tables w.parsed.records.pairs

-- the laid bytes of a module
unfoldable pub laid_read : Chosen → Read → List ℕ
laid_read ch w = laid_bytes w.parsed.form w.built.tables ch w.parsed.records.pairs

-- the module's refusals; then 25; or the laid bytes
unfoldable pub laid_of : Bool → Lent → Chosen → List ℕ → Outcome (List ℕ)
laid_of ended b ch text = and_then (read ended b text) (λ w. pick (fit_read w) (fine (laid_read ch w)) (refused 25 0))

-- a laid byte l agrees with a pattern's value and mask: nothing is known there, or all, and then they are equal
pub data Agrees (value mask l : ℕ) : Type 0 where
  unknown : mask ≡ 0 → Agrees value mask l
  known : mask ≡ 255 → l ≡ value → Agrees value mask l
