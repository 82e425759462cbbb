-- The laws of the lines from any place on, into any buffers.
-- Assumes nothing.
use Prim.Native.Nat.{ℕ, ◌≤◌}
use mathlib.Core.Path.{◌≡◌, refl, sym, subst, ◌∙◌}
use mathlib.Core.Bool.{Bool, true, false, not}
use mathlib.Core.List.{List}
use lib.ListN.{length}
use borrow.Author.Rules.{rules}
use Rattle.format.specs.Lists.{over}
use Rattle.format.specs.Header.{Form}
use Rattle.format.specs.Held.{Held}
use Rattle.scan.proofs.Laws.Tests.{was-no, was-yes}
use Rattle.way_in.specs.WayIn.{Rooms, fits_from}
use Rattle.way_in.proofs.Laws.{fits-from-says}
use Rattle.answer.specs.Answer.{Answer, held, refusal}
use Rattle.reading_lines.specs.Laid.{Laid, lent_in, lines_from, whole_lines}

module _ (ended : Bool) (f : Form) (s : List ℕ) (at head : ℕ) (xs ys vs ms fs : List ℕ) {r : Bool} (e : r ≡ fits_from at (length s) (lent_in (held xs ys vs ms fs))) where
  pub from-misfit : not r ≡ true → Laid (length s) (lines_from ended f s at head (held xs ys vs ms fs)) (held xs ys vs ms fs) (refusal 0 0) (held xs ys vs ms fs)
  unfolding lines_from over
  from-misfit h = rw (sym e ∙ was-no r h) (record { says = refl; areas = refl; symbols = refl; values = refl; masks = refl; fixups = refl })

  module _ (h : not r ≡ false) where
    said : (at ≤ length s) × (length s ≤ 65536) × (Rooms (length xs) (length ys) (length vs) (length ms) (length fs))
    said = fits-from-says at (length s) (lent_in (held xs ys vs ms fs)) (sym e ∙ was-yes r h)

    pub from-inside : at ≤ length s
    from-inside = said.0

    pub from-short : length s ≤ 65536
    from-short = said.1

    pub from-rooms : {a b c d x : ℕ} → a ≡ length xs → b ≡ length ys → c ≡ length vs → d ≡ length ms → x ≡ length fs → Rooms a b c d x
    from-rooms i j k l m = rw (i, j, k, l, m) said.2

    pub from-lines : {a : Answer} {new : Held} → Laid (length s) (whole_lines ended f s at head) (held xs ys vs ms fs) a new → Laid (length s) (lines_from ended f s at head (held xs ys vs ms fs)) (held xs ys vs ms fs) a new
    unfolding lines_from
    from-lines w = rw (sym e ∙ was-yes r h) w

pub ruleset froms = (rules, from-misfit, from-inside, from-short, from-rooms, from-lines)
