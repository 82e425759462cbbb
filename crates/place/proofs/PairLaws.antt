-- What the proof of the pair cites: where it goes, and a law for each return.
-- Assumes nothing.
use Prim.Native.Nat.{ℕ, ◌+◌}
use mathlib.Core.Path.{◌≡◌, refl, sym, ap, ◌∙◌}
use mathlib.Core.Bool.{Bool, true, false, not, ◌&&◌, and_assoc}
use mathlib.Core.List.{List}
use mathlib.Core.Option.{none}
use native.Mathlib.Omega.{arith}
use lib.Dec.{eqb, leb}
use lib.ListN.{length}
use borrow.Author.Rules.{rules}
use borrow.Author.Tests.{leb-true, not-true, not-false}
use Rattle.format.specs.Tables.{last_index}
use Rattle.laws.specs.Rows.{state_of}
use Rattle.cells.proofs.Both.{both_true}
use Rattle.homes.specs.declared.Home.{Home}
use Rattle.sites.specs.declared.Line.{Line}
use Rattle.sites.specs.declared.Filled.{Filled}
use Rattle.sites.specs.declared.Site.{Site}
use Rattle.sites.specs.Site.{line_fits, filled_fits}
use Rattle.sites.proofs.Fitting.{Counted, counted}
use Rattle.images.proofs.CountLaws.{known-still}
use Rattle.place.specs.declared.pair.Placed.{Placed}
use Rattle.place.specs.declared.pair.Placed.TheVariants.{Done, Misfit}
use Rattle.located.specs.declared.Found.{Found}
use Rattle.located.specs.declared.Found.TheVariants as at
use Rattle.located.specs.Site.{image_fits, found_by, found, kept_fits}
use Rattle.located.proofs.Sites.{Sited, sited, unkept-by, misfit-by}
use Rattle.place.specs.Pair.{site_pair, pair_in, fits, Placeable, PairPlaced}

module _ (l : Line) (h : Home) (bs ms es xs areas symbols : List ℕ) (n : Filled) (vs masks rs : List ℕ)
    {c : Bool} (ec : c ≡ (eqb h.area l.area && (line_fits l (length bs) && filled_fits n (length rs)))) where
  fits-is : (b : Bool) → kept_fits h.start h.size (last_index h.id) ≡ b → fits l h bs n rs ≡ (c && b)
  unfolding fits
  fits-is b e = rw (e, ec) (sym (and_assoc (eqb h.area l.area) (line_fits l (length bs) && filled_fits n (length rs)) b))

  pub pair-misfit : not c ≡ true → PairPlaced (fits l h bs n rs) (pair_in l h bs ms es xs areas symbols n (state_of vs masks rs n.fixups)) n.known vs masks rs Misfit vs masks rs
  pair-misfit k = record {
    says = λ radix end. rw (fits-is _ refl, not-true c k);
    few = omega arith;
    rest = refl;
    same = λ e. (refl, (refl, refl));
    bits = known-still n.known masks refl;
  }

  module _ (k : not c ≡ false) where
    facts : Counted l n (length bs) (length rs)
    facts = counted l n (length bs) (length rs) (both_true (eqb h.area l.area) _ (sym ec ∙ not-false c k)).1

    module _ {f : Found} (ef : f ≡ found h l n) where
      found-is : {g : Found} → f ≡ g → found_by h.start h.size l n (last_index h.id) ≡ g
      unfolding found
      found-is e = sym ef ∙ e

      pub pair-unkept : f ≡ at.Unkept → {known : ℕ} → known ≡ n.known → PairPlaced (fits l h bs n rs) (pair_in l h bs ms es xs areas symbols n (state_of vs masks rs n.fixups)) n.known vs masks rs (Done n.fixups known) vs masks rs
      unfolding pair_in
      pair-unkept e d =
          let o : last_index h.id ≡ none = unkept-by h.start h.size l n (last_index h.id) _ refl (found-is e) in
          record {
            says = λ radix end. rw (fits-is true (rw o), not-false c k, o);
            few = facts.fixups;
            rest = refl;
            same = λ g. (refl, (refl, refl));
            bits = known-still n.known masks d;
          }

      pub pair-nowhere : f ≡ at.Misfit → PairPlaced (fits l h bs n rs) (pair_in l h bs ms es xs areas symbols n (state_of vs masks rs n.fixups)) n.known vs masks rs Misfit vs masks rs
      pair-nowhere e =
          let u : kept_fits h.start h.size (last_index h.id) ≡ false = misfit-by h.start h.size l n (last_index h.id) _ refl (found-is e) in
          record {
            says = λ radix end. rw (fits-is false u, not-false c k);
            few = omega arith;
            rest = refl;
            same = λ g. (refl, (refl, refl));
            bits = known-still n.known masks refl;
          }

      module _ {s : Site} (g : f ≡ at.At s) where
        here : Sited h.start h.size l n (last_index h.id) s
        here = sited h.start h.size l n (last_index h.id) s (found-is g)

        inside : leb (h.start + h.size) 65536 ≡ true
        unfolding image_fits
        inside = here.fitting

        pub pair-placeable : Placeable s bs rs
        pair-placeable = rw here.is (record {
          ready = record {
            line = facts.line;
            areas = facts.areas;
            symbols = facts.symbols;
            fixups = facts.fixups;
            inside = leb-true (h.start + h.size) 65536 inside;
            numbers = omega arith;
          };
          lent = facts.bytes;
          room = facts.space;
        })

        site-pair : (radix end : ℕ) → site_pair s bs ms es xs areas symbols (state_of vs masks rs s.filled.fixups) radix end ≡ pair_in l h bs ms es xs areas symbols n (state_of vs masks rs n.fixups) radix end
        unfolding pair_in site_pair
        site-pair radix end = rw (here.is, here.ranks)

        pub pair-done : {r : Placed} {vs' masks' rs' : List ℕ} → PairPlaced true (site_pair s bs ms es xs areas symbols (state_of vs masks rs s.filled.fixups)) s.filled.known vs masks rs r vs' masks' rs'
            → PairPlaced (fits l h bs n rs) (pair_in l h bs ms es xs areas symbols n (state_of vs masks rs n.fixups)) n.known vs masks rs r vs' masks' rs'
        pair-done a = record {
          says = λ radix end. rw (fits-is true (rw here.ranks here.fitting), not-false c k, ← site-pair radix end) (a.says radix end);
          few = a.few;
          rest = a.rest;
          same = a.same;
          bits = rw (ap (λ (x : Site). x.filled.known) here.is) at a.bits;
        }

pub ruleset placing = (rules, pair-misfit, pair-unkept, pair-nowhere, pair-placeable, pair-done)
