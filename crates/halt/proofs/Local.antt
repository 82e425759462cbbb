-- The halt depends on the line at the stop and the line behind it only: on no byte before the stop, and on no byte behind those lines.
-- Assumes nothing.
use Prim.Native.Nat.{ℕ, ◌+◌, ◌-◌, ◌≤◌}
use mathlib.Core.Path.{◌≡◌}
use mathlib.Core.Bool.{Bool, false}
use mathlib.Core.List.{List}
use native.Mathlib.Omega.{arith}
use native.Mathlib.Nat.{add-zero, zero-add}
use lib.ListN.{drop, take, get_or}
use lib.Seq.{drop-drop}
use lib.Dec.{eqb}
use Rattle.format.specs.Number.{past}
use Rattle.format.specs.Header.{Form}
use Rattle.laws.specs.Places.{end_at, line_at, line_end, next_line}
use Rattle.cut.proofs.LineCut.{from-ends, line-cut, next-cut}
use Rattle.halt.specs.Halt.{Halt, halt_at, lines_halt}

-- no byte behind the two lines matters
pub nothing-behind-the-lines : (f : Form) (paired : Bool) (text : List ℕ) (p n : ℕ) → next_line text (next_line text p) ≤ n → halt_at f paired (take n text) p ≡ halt_at f paired text p
unfolding halt_at
nothing-behind-the-lines f paired text p n h =
    let q : ℕ = next_line text p in
    let l : q ≤ next_line text q = let k = from-ends text q (next_line text q) (omega arith) in omega arith in
    rw (line-cut text p n (omega arith), next-cut text p n (omega arith), line-cut text q n h)

-- a line of group one: not even the line behind it
pub nothing-behind-a-line-of-group-one : (f : Form) (text : List ℕ) (p n : ℕ) → eqb (get_or (line_at text p).bytes 0 0) 84 ≡ false → next_line text p ≤ n
    → halt_at f false (take n text) p ≡ halt_at f false text p
unfolding halt_at lines_halt
nothing-behind-a-line-of-group-one f text p n e h = rw (line-cut text p n h, e)

-- no byte before the stop matters, and a place behind the stop counts from it
module _ (text : List ℕ) (p q : ℕ) where
  pub end_on : line_end text (p + q) ≡ p + line_end (drop p text) q
  unfolding line_end past
  end_on = rw (drop-drop q p text) (omega arith)

  pub ends_on : end_at text (p + q) ≡ end_at (drop p text) q
  unfolding end_at
  ends_on = rw (end_on, drop-drop (line_end (drop p text) q) p text)

  pub next-on : next_line text (p + q) ≡ p + next_line (drop p text) q
  unfolding next_line
  next-on = rw (end_on, ends_on) (omega arith)

  pub line_on : line_at text (p + q) ≡ line_at (drop p text) q
  unfolding line_at
  line_on =
      let e : p + line_end (drop p text) q - (p + q) ≡ line_end (drop p text) q - q = omega arith in
      rw (end_on, ends_on, e, drop-drop q p text)

-- a halt that lies n bytes further on
abbrev pub on : ℕ → Halt → Halt
on n h = record { reason = h.reason; place = n + h.place }

pub nothing-before-the-stop : (f : Form) (paired : Bool) (text : List ℕ) (p : ℕ) → halt_at f paired text p ≡ on p (halt_at f paired (drop p text) 0)
unfolding halt_at
nothing-before-the-stop f paired text p =
    let a : next_line text p ≡ p + next_line (drop p text) 0 = rw add-zero at (next-on text p 0) in
    let b : line_at text p ≡ line_at (drop p text) 0 = rw add-zero at (line_on text p 0) in
    let c : line_at text (p + next_line (drop p text) 0) ≡ line_at (drop p text) (next_line (drop p text) 0) = line_on text p (next_line (drop p text) 0) in
    rw (a, b, c, zero-add)
