-- Nothing behind group one, and no positions: the rows of areas and symbols are all that is laid out. And the sizes of images.
-- Assumes nothing.
use Prim.Native.Nat.{ℕ, zero, suc, ◌≤◌}
use mathlib.Core.Path.{◌≡◌, refl, sym}
use mathlib.Core.Bool.{Bool, true, false}
use mathlib.Core.List.{List, []}
use native.Mathlib.Omega.{arith}
use lib.ListN.{length, drop, replicate, drop_of_length-le}
use borrow.Author.Rules.{rules}
use Rattle.format.specs.Lists.{pick, over, flat}
use Rattle.format.specs.Header.{Form}
use Rattle.format.specs.Number.{past}
use Rattle.format.specs.Lines.{end_length}
use Rattle.format.specs.Records.{stops}
use Rattle.format.specs.Fixups.{of_area, by_area}
use Rattle.laws.specs.Places.{pair_at, line_end, end_at}
use Rattle.laws.specs.Rows.{from, fixups_in}
use Rattle.grouped.specs.Group.{areas_for, room_for}
use Rattle.layout.specs.Out.{most, FixupsOut, TablesOut, ImagesOut}
use Rattle.way_in.specs.WayIn.{Rooms}
use Rattle.turns.specs.Turns.{ending_of}
use Rattle.group_start.specs.Start.{starting_of}
use Rattle.answer.specs.Answer.{AcceptedIs, held}
use Rattle.reading_lines.specs.Laid.{Begun, Blank, pairs_from, counts_from, RestIs}
use Rattle.answer.specs.Answer as code
use Rattle.answer.specs.declared.Counts.{Counts}
use Rattle.kept_sizes.specs.declared.Sizes.{Sizes}
use Rattle.tables.specs.declared.group.Found.{Found}
use Rattle.turns.specs.declared.Paired.TheVariants.{All}
use Rattle.reading_lines.proofs.GroupTwo.{at-ends}
use Rattle.reading_lines.proofs.Laid.{blank-small, blank-large, begun, start-ready, second-idle, rest-done, zeros-9216}

end-there : (s : List ℕ) (p : ℕ) → length s ≤ p → end_at s p ≡ 0
unfolding end_at line_end past end_length
end-there s p h = rw (drop_of_length-le s {i = line_end s p} (omega arith))

pair-there : (ended : Bool) (f : Form) (s : List ℕ) (p : ℕ) → length s ≤ p → stops ≡ pair_at ended f s p
unfolding pair_at
pair-there ended f s p h = rw (end-there s p h)

pairs-there : (ended : Bool) (f : Form) (text : List ℕ) (p : ℕ) (more : Bool) → length text ≤ p → pairs_from ended f text p more ≡ []
pairs-there ended f text p true h = at-ends ended f text p (pair-there ended f text p h)
pairs-there ended f text p false h = refl

no-areas : (n i : ℕ) → areas_for n i [] ≡ []
unfolding areas_for by_area of_area flat
no-areas zero i = refl
no-areas (suc n) i = no-areas n (suc i)

laid_none : (kept : ℕ) (fixups : List ℕ) → fixups ≡ over (areas_for (most 64 kept) 0 []) fixups
unfolding over
laid_none kept fixups = rw (no-areas (most 64 kept) 0)

no-fixups : (kept : ℕ) (rows fixups : List ℕ) → FixupsOut 0 kept rows fixups fixups
unfolding fixups_in from
no-fixups kept rows fixups = record { stored = go (room_for 0 rows fixups) }
  where
    go : (b : Bool) → fixups ≡ pick b (over (areas_for (most 64 kept) 0 []) fixups) fixups
    go true = laid_none kept fixups
    go false = refl

no-images : {z : ℕ} (kept : ℕ) (rows values masks fixups : List ℕ) → z ≡ 0 → ImagesOut z 0 kept [] [] rows values masks fixups values masks fixups
no-images kept rows values masks fixups e = rw e (record { of_values = refl; of-masks = refl; of-fixups = no-fixups kept rows fixups })

pub rest-none : {ended : Bool} {f : Form} {text : List ℕ} {d : Found} {xs ys : List ℕ} {s : Sizes} → Begun text xs d s → s.total ≡ 0 → length text ≤ d.next
    → {areas symbols values masks fixups areas' symbols' : List ℕ} → Rooms (length areas) (length symbols) (length values) (length masks) (length fixups)
    → {c : Counts} → c ≡ counts_from d s 0 0 → TablesOut d.areas d.symbols xs ys areas symbols areas' symbols' → {r : code.Answer} → AcceptedIs c (length text) d.stop r
    → RestIs ended f text d xs ys (held areas symbols values masks fixups) r (held areas' symbols' values masks fixups)
rest-none {ended} {f} {text} {d} {xs} {ys} {s} u z h {areas} {symbols} {values} {masks} {fixups} rooms i t {r} k =
    let blank : Blank (starting_of d s.total).positions [] = rw z (record { zeros = refl; long = omega arith }) in
    let two : ending_of (starting_of d s.total) ≡ All 0 d.stop 0 = rw z in
    let v = second-idle ended f ys (start-ready d u refl) (rw z (pairs-there ended f text d.next d.more h)) (sym two) [] [] (replicate 9216 0) in
    rest-done d u refl blank blank v refl i rooms refl zeros-9216 t (no-images s.kept (replicate 9216 0) values masks fixups z) k

pub ruleset nothing = (rules, rest-none)

pub ruleset sizing = (rules, blank-small, blank-large, begun)
