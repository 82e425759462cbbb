-- The line at a place: where group one goes on behind it, and what it tells.
-- Assumes nothing.
use Prim.Native.Nat.{ℕ, ◌-◌, ◌<◌, ◌≤◌}
use mathlib.Core.Path.{◌≡◌, refl, sym, ap, ◌∙◌}
use mathlib.Core.Bool.{Bool, true, false, ◌&&◌}
use mathlib.Core.List.{List, []}
use mathlib.Core.Option.{Option, none, some}
use native.Mathlib.Omega.{arith}
use native.Mathlib.Nat.{le_of_lt}
use lib.ListN.{length, take, drop, drop_of_length-le}
use lib.Seq.{take-nil}
use lib.Dec.{eqb, leb}
use borrow.Author.Rules.{rules}
use Rattle.format.specs.Got.{isnt}
use Rattle.format.specs.Header.{Form}
use Rattle.format.specs.Entries.{entry_line, ignored_line, is_ignored, letter_and_more}
use Rattle.format.specs.Records.{step_of}
use Rattle.laws.specs.Places.{entry_at, line_at, line_end}
use Rattle.entry_line.specs.Told.{told_entry}
use Rattle.entry_line.specs.declared.Entry as code
use Rattle.std.specs.Prelude.{Result, Ok, Err}
use Rattle.numbers.specs.declared.Halt.{Halt}
use Rattle.numbers.specs.declared.Read.{Read}
use Rattle.text_lines.specs.Lines.{LineIs}
use Rattle.text_lines.specs.declared.LineAt.{LineAt}
use Rattle.counts.specs.Counts.{Two, tells, tells_at}
use Rattle.counts.proofs.Counts.{only-H-lines-tell}
use Rattle.counts_of.specs.Told.{end_after}

no_bytes : (text : List ℕ) (p n : ℕ) → length text < p → take n (drop p text) ≡ []
no_bytes text p n h = rw (drop_of_length-le text (le_of_lt h), take-nil)

no-entry : (f : Form) → entry_line f [] 0 ≡ isnt 4 0
unfolding entry_line ignored_line letter_and_more is_ignored
no-entry f = refl

-- `entry_end`
pub end-past : (f : Form) (text : List ℕ) (p : ℕ) → length text < p → none ≡ end_after (entry_at true f text p)
unfolding entry_at
end-past f text p h = rw (no_bytes text p (line_end text p - p) h, no-entry f)

pub end-in : (text : List ℕ) {p : ℕ} {l : LineAt} → LineIs text p l → p ≤ length text → l.end ≤ length text
end-in text w h = omega (arith, w.width, w.inside h)

entry-is : (f : Form) (text : List ℕ) (p : ℕ) {l : LineAt} → LineIs text p l → (y : Result (Read code.Entry) Halt) → told_entry y ≡ entry_line f (take (l.end - p) (drop p text)) 0
    → entry_at true f text p ≡ step_of true p (l.end - p) l.ends l.next (told_entry y)
unfolding entry_at
entry-is f text p w y d = rw (← w.ends_at, ← w.line-end, ← w.behind, d)

module _ (f : Form) (text : List ℕ) (p : ℕ) {l : LineAt} (w : LineIs text p l) {y : Result (Read code.Entry) Halt} (d : told_entry y ≡ entry_line f (take (l.end - p) (drop p text)) 0) where
  pub end-1 : {h : Halt} → y ≡ Err h → none ≡ end_after (entry_at true f text p)
  end-1 g = sym (ap end_after (entry-is f text p w y d) ∙ rw g)

  module _ {en : Read code.Entry} (g : y ≡ Ok en) {t : Bool} (h : t ≡ (eqb en.next (l.end - p) && leb 1 l.ends)) where
    pub end-2 : t ≡ false → none ≡ end_after (entry_at true f text p)
    end-2 i = sym (ap end_after (entry-is f text p w y d) ∙ rw (g, ← h, i))

    pub end-3 : t ≡ true → some l.next ≡ end_after (entry_at true f text p)
    end-3 i = sym (ap end_after (entry-is f text p w y d) ∙ rw (g, ← h, i))

-- `tells_at`
module _ (radix : ℕ) (text : List ℕ) (p : ℕ) where
  pub told-past : length text < p → none ≡ tells_at radix text p
  unfolding tells_at line_at
  told-past h = rw (no_bytes text p (line_end text p - p) h) (sym (only-H-lines-tell radix [] refl))

  pub told_line : {l : LineAt} → LineIs text p l → {x : Option Two} → x ≡ tells radix (take (l.end - p) (drop p text)) → x ≡ tells_at radix text p
  unfolding tells_at line_at
  told_line w e = rw (← w.ends_at) e

pub ruleset ends = (rules, end-past, end-in, end-1, end-2, end-3)

pub ruleset lines = (rules, told-past, end-in, told_line)
