-- The halt of a line, and of two, has a reason from 1 to 4 and a place in those lines.
-- Assumes nothing.
use Prim.Native.Nat.{ℕ, ◌+◌, ◌≤◌}
use mathlib.Core.Bool.{Bool, true, false, ◌||◌}
use mathlib.Core.List.{List}
use native.Mathlib.Omega.{arith}
use lib.ListN.{length, get_or}
use lib.Dec.{eqb}
use Rattle.format.specs.Lists.{pick}
use Rattle.format.specs.Got.{Got, is, isnt, shifted, then}
use Rattle.format.specs.Header.{Form}
use Rattle.format.specs.Entries.{entry_line}
use Rattle.format.specs.Pairs.{Content, Fragment, whole_content}
use Rattle.format.specs.Lines.{Line, width}
use Rattle.halt.specs.Halt.{Halt, why, area_due, fragment_due, entry_halt, pair_halt, lines_halt}
use Rattle.halt.proofs.Spans.{Span}
use Rattle.halt.proofs.LineSpans.{area-due-sound, entry-span, fragment-due-sound, whole-span}

-- a reason from 1 to 4 at a place up to n
pub record HaltIn (n : ℕ) (h : Halt) : Type 0 where
  pub least : 1 ≤ h.reason
  pub most : h.reason ≤ 4
  pub inside : h.place ≤ n

why-in : {B : Type 0} (s : List ℕ) (g : Got B) → Span s 0 g → HaltIn (length s) (why g)
why-in s (is a q) w = record { least = omega arith; most = omega arith; inside = w.1 }
why-in s (isnt r p) w = record { least = w.least; most = w.most; inside = w.inside }

pick-halt : (n : ℕ) (t : Bool) (g h : Halt) → HaltIn n g → HaltIn n h → HaltIn n (pick t g h)
pick-halt n true g h x y = x
pick-halt n false g h x y = y

further : (n m : ℕ) (h : Halt) → n ≤ m → HaltIn n h → HaltIn m h
further n m h l x = record { least = x.least; most = x.most; inside = omega (arith, x.inside) }

pub entry-halt-in : (f : Form) (s : List ℕ) → HaltIn (length s) (entry_halt f s)
unfolding entry_halt
entry-halt-in f s =
    pick-halt (length s) (eqb (get_or s 0 0) 65) (why (area_due f s 0)) (why (entry_line f s 0))
    (why-in s (area_due f s 0) (area-due-sound f s 0 (omega arith))) (why-in s (entry_line f s 0) (entry-span f s))

pub pair-halt-in : (f : Form) (t r : Line) → HaltIn (width t + length r.bytes) (pair_halt f t r)
unfolding pair_halt width
pair-halt-in f t r = go (whole_content f t.bytes) (whole-span f t.bytes)
  where
    shift : (g : Got Fragment) → Span r.bytes 0 g → HaltIn (width t + length r.bytes) (why (shifted (width t) (λ (x : Fragment). x) g))
    shift (is a q) w = record { least = omega arith; most = omega arith; inside = omega (arith, w.1) }
    shift (isnt x p) w = record { least = w.least; most = w.most; inside = omega (arith, w.inside) }

    ends : (b : Bool) (used : ℕ) → used ≤ length t.bytes
        → HaltIn (width t + length r.bytes) (why (pick b (isnt 4 used) (shifted (width t) (λ (x : Fragment). x) (fragment_due f r.bytes 0))))
    ends true used l = record { least = omega arith; most = omega arith; inside = omega arith }
    ends false used l = shift (fragment_due f r.bytes 0) (fragment-due-sound f r.bytes 0 (omega arith))

    go : (g : Got Content) → Span t.bytes 0 g
        → HaltIn (width t + length r.bytes) (why (then g (λ c used. pick (eqb t.ends 0) (isnt 4 used) (shifted (width t) (λ (x : Fragment). x) (fragment_due f r.bytes 0)))))
    go (is c used) w = ends (eqb t.ends 0) used w.1
    go (isnt x p) w = record { least = w.least; most = w.most; inside = omega (arith, w.inside) }

pub lines-halt-in : (f : Form) (paired : Bool) (t r : Line) → HaltIn (width t + length r.bytes) (lines_halt f paired t r)
unfolding lines_halt width
lines-halt-in f paired t r =
    pick-halt (width t + length r.bytes) (paired || eqb (get_or t.bytes 0 0) 84) (pair_halt f t r) (entry_halt f t.bytes) (pair-halt-in f t r)
    (further (length t.bytes) _ (entry_halt f t.bytes) (omega arith) (entry-halt-in f t.bytes))
