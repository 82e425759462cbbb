-- What the proofs of a pair at its site and at any home share: a law for each return.
-- Assumes nothing.
use Prim.Native.Nat.{ℕ, ◌+◌, ◌≤◌}
use mathlib.Core.Path.{◌≡◌, refl, sym, ap, ◌∙◌}
use mathlib.Core.Bool.{Bool, true, false, not, ◌&&◌}
use mathlib.Core.List.{List}
use mathlib.Core.Option.{Option, none, some}
use native.Mathlib.Omega.{arith}
use lib.Dec.{eqb, leb}
use lib.ListN.{length, take}
use borrow.Author.Rules.{rules}
use borrow.Author.Tests.{leb-true, not-true, not-false}
use Rattle.format.specs.Lists.{pick}
use Rattle.format.specs.Outcome.{Outcome, fine, refused, and_then}
use Rattle.format.specs.Tables.{last_index}
use Rattle.format.specs.WorkLine.{fresh}
use Rattle.format.specs.WorkLine as defs
use Rattle.cells.proofs.Both.{both_true}
use Rattle.homes.specs.declared.Home.{Home}
use Rattle.sites.specs.declared.Line.{Line}
use Rattle.sites.specs.declared.Filled.{Filled}
use Rattle.sites.specs.declared.Site.{Site}
use Rattle.sites.specs.Columns.{fragments_in}
use Rattle.sites.specs.Site.{line_fits, filled_fits, Ready}
use Rattle.sites.proofs.Fitting.{Counted, counted, line-true}
use Rattle.located.specs.declared.Found.{Found}
use Rattle.located.specs.declared.Found.TheVariants as at
use Rattle.located.specs.Site.{image_fits, site_at, found_by, found, kept_fits}
use Rattle.located.proofs.Sites.{Sited, sited, unkept-by, misfit-by}
use Rattle.std.specs.Prelude.{Option as Answer, Some, None}
use Rattle.work.specs.Work.{form_of, line_of, all_turns, Whole, WorkIs}
use Rattle.work.proofs.Use.{merged, whole_by}
use Rattle.one_cell.specs.Cell.{cell_fits, site_work}
use Rattle.mark_pair.specs.Marks.{mark_walk, marked_by, marked_in, or_before, EntriesMark, SiteMarks, PairMarks}

-- `mark_at_site`: q is what the work line answered
module _ (s : Site) (bs ms es old : List ℕ) (ready : Ready s) (lent : s.line.bytes ≤ length bs) {wv₀ wm₀ wk₀ ns₀ : List ℕ} {q : Answer ℕ} {wv wm wk ns : List ℕ}
    (work : WorkIs s.line bs ms es wv₀ wm₀ wk₀ ns₀ q wv wm wk ns) where
  t : Whole (all_turns s.line ms es (fresh s.line.width (take s.line.bytes bs))) s.line.fragments q wv wm wk ns
  t = whole_by work (line-true ready.line lent)

  by-work : (xs : List ℕ) (radix : ℕ) (o : Outcome defs.Worked) → o ≡ all_turns s.line ms es (fresh s.line.width (take s.line.bytes bs)) xs s.line.place
      → marked_by s.line s.start s.size bs ms es xs radix old ≡ and_then o (λ d. fine (mark_walk s.start s.size d.work.keeps (s.line.width + s.line.bytes) 0 s.line.address old))
  unfolding marked_by site_work all_turns
  by-work xs radix o e =
      merged (form_of radix s.line) s.line.bytes s.line.place 0 (fragments_in ms es xs s.line.fragments) (fresh s.line.width (take s.line.bytes bs))
      (λ d. fine (mark_walk s.start s.size d.work.keeps (s.line.width + s.line.bytes) 0 s.line.address old))
      ∙ ap (λ (p : Outcome defs.Worked). and_then p (λ d. fine (mark_walk s.start s.size d.work.keeps (s.line.width + s.line.bytes) 0 s.line.address old))) (sym e)

  pub site-beyond : q ≡ None → SiteMarks s bs ms es old old
  site-beyond g = record { says = λ xs radix. ap (or_before old) (sym (by-work xs radix _ (rw g at (t.says xs s.line.place)))) }

  pub site-marked : {n : ℕ} → q ≡ Some n → {new : List ℕ} → EntriesMark s wk old new → SiteMarks s bs ms es old new
  unfolding line_of
  site-marked g a = record { says = λ xs radix. a.says ∙ ap (or_before old) (sym (by-work xs radix _ (rw g at (t.says xs s.line.place)))) }

pub ruleset at-site = (rules, site-beyond, site-marked)

-- no row is in use
abbrev pub none_filled : Filled
none_filled = record { areas = 0; symbols = 0; fixups = 0; known = 0 }

-- `mark_pair`: c is the test of the home and the counts
module _ (l : Line) (h : Home) (bs ms es old : List ℕ) {c : Bool} (ec : c ≡ (eqb h.area l.area && (line_fits l (length bs) && filled_fits none_filled 9216))) where
  fits-is : (b : Bool) → kept_fits h.start h.size (last_index h.id) ≡ b → cell_fits l h bs ≡ (c && b)
  unfolding cell_fits filled_fits
  fits-is b e = rw (e, ec) (and-out (eqb h.area l.area) (line_fits l (length bs)) b)
    where
      and-out : (x y z : Bool) → (x && (y && z)) ≡ ((x && (y && true)) && z)
      and-out true true z = refl
      and-out true false z = refl
      and-out false y z = refl

  pub pair-misfit : not c ≡ true → PairMarks l h bs ms es old old
  pair-misfit k = record { says = λ xs radix. rw (fits-is _ refl, not-true c k) }

  module _ (k : not c ≡ false) where
    facts : Counted l none_filled (length bs) 9216
    facts = counted l none_filled (length bs) 9216 (both_true (eqb h.area l.area) _ (sym ec ∙ not-false c k)).1

    module _ {f : Found} (ef : f ≡ found h l none_filled) where
      found-is : {g : Found} → f ≡ g → found_by h.start h.size l none_filled (last_index h.id) ≡ g
      unfolding found
      found-is e = sym ef ∙ e

      pub pair-unkept : f ≡ at.Unkept → PairMarks l h bs ms es old old
      pair-unkept e =
          let o : last_index h.id ≡ none = unkept-by h.start h.size l none_filled (last_index h.id) _ refl (found-is e) in
          record { says = λ xs radix. rw (fits-is true (rw o), not-false c k, o) }

      pub pair-nowhere : f ≡ at.Misfit → PairMarks l h bs ms es old old
      pair-nowhere e =
          let u : kept_fits h.start h.size (last_index h.id) ≡ false = misfit-by h.start h.size l none_filled (last_index h.id) _ refl (found-is e) in
          record { says = λ xs radix. rw (fits-is false u, not-false c k) }

      module _ {s : Site} (g : f ≡ at.At s) where
        here : Sited h.start h.size l none_filled (last_index h.id) s
        here = sited h.start h.size l none_filled (last_index h.id) s (found-is g)

        inside : leb (h.start + h.size) 65536 ≡ true
        unfolding image_fits
        inside = here.fitting

        pub pair-ready : Ready s
        pair-ready = rw here.is (record {
          line = facts.line;
          areas = facts.areas;
          symbols = facts.symbols;
          fixups = facts.fixups;
          inside = leb-true (h.start + h.size) 65536 inside;
          numbers = omega arith;
        })

        pub pair-lent : s.line.bytes ≤ length bs
        pair-lent = rw here.is facts.bytes

        pub pair-marked : {new : List ℕ} → SiteMarks s bs ms es old new → PairMarks l h bs ms es old new
        pair-marked {new} a =
            let b : SiteMarks (site_at l none_filled here.id h.start h.size) bs ms es old new = rw here.is at a in
            record { says = λ xs radix. rw (fits-is true (rw here.ranks here.fitting), not-false c k, here.ranks) (b.says xs radix) }

pub ruleset pairing = (rules, pair-misfit, pair-unkept, pair-nowhere, pair-ready, pair-lent, pair-marked)
