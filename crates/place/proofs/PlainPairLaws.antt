-- What the proof of `process_relocs` cites of a pair without fragments: it has no fixup, and its content lies in the images as it is.
-- Assumes nothing.
use Prim.Native.Nat.{ℕ, ◌+◌}
use mathlib.Core.Path.{◌≡◌, refl, sym, ap, ◌∙◌}
use mathlib.Core.Bool.{true, ◌&&◌}
use mathlib.Core.List.{List, []}
use native.Mathlib.Omega.{arith}
use lib.Dec.{leb}
use lib.ListN.{length, take, replicate}
use lib.Seq.{length-take-le}
use borrow.Author.Rules.{rules}
use Rattle.format.specs.Outcome.{fine}
use Rattle.format.specs.WorkLine.{padded, work_line, fresh}
use Rattle.laws.specs.Rows.{from, fixups_in, state_of}
use Rattle.sites.specs.declared.Site.{Site}
use Rattle.sites.specs.Columns.{fragment_at, fragments_in}
use Rattle.sites.specs.Site.{is_ready, made_at}
use Rattle.images.specs.Image.{plain_values, plain_masks, moved, Written}
use Rattle.images.proofs.Use.{Laid, plain-when}
use Rattle.fixups.specs.Walk.{site_of, line_at}
use Rattle.fixups.proofs.NextLaws.{none_left}
use Rattle.place.specs.declared.pair.Placed.TheVariants.{Done}
use Rattle.std.specs.Prelude.{Some}
use Rattle.work.specs.Work.{line_of, turns, all_turns, Whole}
use Rattle.place.specs.Pair.{site_pair, Prepared, Placeable, PairPlaced}
use Rattle.place.proofs.WorkedLaws.{prepared-by, walked, pair-processed}

module _ (s : Site) (bs ms es xs areas symbols vs masks rs : List ℕ) (p : Placeable s bs rs) (h : s.line.fragments ≡ 0) where
  -- values, masks and kept flags before any fragment
  wv : List ℕ
  wv = padded s.line.width s.line.bytes (take s.line.bytes bs)

  wm : List ℕ
  wm = padded s.line.width s.line.bytes (replicate s.line.bytes 255)

  wk : List ℕ
  wk = padded s.line.width s.line.bytes (replicate s.line.bytes 1)

  plain-line : line_of wv wm wk [] 0 ≡ fresh s.line.width (take s.line.bytes bs)
  unfolding wv wm wk line_of fresh work_line
  plain-line = rw (length-take-le s.line.bytes bs p.lent)

  no-turn : Whole (all_turns s.line ms es (fresh s.line.width (take s.line.bytes bs))) s.line.fragments (Some 0) wv wm wk []
  unfolding all_turns turns fragments_in from
  no-turn = record {
    says = λ ys place. ap fine plain-line ∙ ap (λ (c : ℕ). turns s.line.width s.line.big s.line.bytes place (from (fragment_at ms es ys) 0 c) (fresh s.line.width (take s.line.bytes bs))) (sym h);
    few = omega arith;
  }

  fresh-line : Prepared s bs ms es (Some 0) [] wv wm wk
  fresh-line = prepared-by s bs ms es rs p no-turn

  no_rows : (place : ℕ) → fine (fixups_in rs s.filled.fixups) ≡ line_at ms es xs areas symbols [] (made_at s 0) wk (fixups_in rs s.filled.fixups) place
  unfolding line_at
  no_rows place = sym
      (none_left (site_of areas symbols [] (made_at s 0) place) s.size ms es xs s.line.fragments wk (s.line.width + s.line.bytes) 0 s.line.address (fixups_in rs s.filled.fixups)
      {r = s.line.width + s.line.bytes} (record { above = omega arith; none = λ i g q v. absurd (omega arith) }) (omega arith))

  laid : {vs' masks' : List ℕ} → Laid s bs vs masks vs' masks' → {known : ℕ} → known ≡ moved s.filled.known masks masks' → PairPlaced true (site_pair s bs ms es xs areas symbols (state_of vs masks rs s.filled.fixups)) s.filled.known vs masks rs (Done s.filled.fixups known) vs' masks' rs
  unfolding wv wm wk plain_values plain_masks
  laid i k =
      pair-processed s bs ms es xs areas symbols vs masks rs fresh-line
      (walked s ms es xs areas symbols [] wv wm wk vs masks rs p.ready refl no_rows p.ready.fixups refl (record { values = i.values; masks = i.masks }) k)

  pub pair-plain : {vs' masks' : List ℕ} {t : ℕ} → Written (is_ready s && leb s.line.bytes (length bs)) (plain_values s bs vs) (plain_masks s masks) s.filled.known vs masks t vs' masks'
      → PairPlaced true (site_pair s bs ms es xs areas symbols (state_of vs masks rs s.filled.fixups)) s.filled.known vs masks rs (Done s.filled.fixups t) vs' masks' rs
  pair-plain w = laid (plain-when p.ready bs p.lent w) w.answer

pub ruleset plainly = (rules, pair-plain)
