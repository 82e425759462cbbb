-- The reason is 1 to 4, and the halt's place lies at or behind the stop, in the line there or the line behind it.
-- Assumes nothing.
use Prim.Native.Nat.{ℕ, ◌+◌, ◌-◌, ◌≤◌, ◌<◌}
use mathlib.Core.Path.{◌≡◌, refl, subst}
use mathlib.Core.Bool.{Bool, true}
use mathlib.Core.List.{List}
use mathlib.Core.Option.{some}
use native.Mathlib.Omega.{arith}
use lib.ListN.{length, drop, length-drop}
use lib.Seq.{length-take-le}
use Rattle.format.specs.Lines.{width}
use Rattle.format.specs.Number.{past}
use Rattle.format.specs.Header.{Form}
use Rattle.format.specs.Outcome.{fine}
use Rattle.format.specs.Records.{Parsed, parsed, stop}
use Rattle.laws.specs.Places.{end_at, inner, line_at, line_end, next_line}
use Rattle.laws.proofs.Within.{past-within}
use Rattle.halt.specs.Halt.{Halt, any, halt_at, halt_of}
use Rattle.halt.proofs.HaltSpans.{lines-halt-in}
use Rattle.halt.proofs.Stop.{end-in, stop-in-text, bytes_left}
use Rattle.halt.proofs.Told.{what-is-told}

module _ (text : List ℕ) (p : ℕ) (h : p ≤ length text) where
  pub line-from : p ≤ line_end text p
  unfolding line_end past
  line-from = omega arith

  pub line-in : line_end text p ≤ length text
  unfolding line_end
  line-in = past-within inner text p h

  pub next-in : next_line text p ≤ length text
  unfolding next_line end_at
  next-in = omega (arith, line-in, end-in (drop (line_end text p) text), length-drop (line_end text p) text)

  pub bytes-length : length (line_at text p).bytes ≡ line_end text p - p
  unfolding line_at
  bytes-length = length-take-le (line_end text p - p) (drop p text) (omega (arith, length-drop p text, line-in))

  line-ends : (line_at text p).ends ≡ end_at text p
  unfolding line_at
  line-ends = refl

  pub line-width : p + width (line_at text p) ≡ next_line text p
  unfolding width next_line
  line-width = let k = bytes-length in let e = line-ends in omega (arith, line-from)

-- a reason from 1 to 4, and a place in the two lines
pub record Within (text : List ℕ) (p : ℕ) (h : Halt) : Type 0 where
  pub least : 1 ≤ h.reason
  pub most : h.reason ≤ 4
  pub from : p ≤ h.place
  pub in-the-lines : h.place ≤ line_end text (next_line text p)
  pub in-the-text : h.place ≤ length text

pub halt-at-within : (f : Form) (paired : Bool) (text : List ℕ) (p : ℕ) → p ≤ length text → Within text p (halt_at f paired text p)
unfolding halt_at
halt-at-within f paired text p l =
    let q : ℕ = next_line text p in
    let h = lines-halt-in f paired (line_at text p) (line_at text q) in
    let a = line-width text p l in
    let b = bytes-length text q (next-in text p l) in
    let c = line-from text q (next-in text p l) in
    let d = line-in text q (next-in text p l) in
    record { least = h.least; most = h.most; from = omega arith; in-the-lines = omega (arith, h.inside); in-the-text = omega (arith, h.inside) }

-- what is told
pub the-halt-is-within : (text : List ℕ) (p : Parsed) (h : Halt) → parsed true text ≡ fine p → halt_of text ≡ some h → (stop p < length text) × Within text (stop p) h
the-halt-is-within text p h e q =
    let k = what-is-told text p e h q in
    (bytes_left text p e k.0, subst (λ (x : Halt). Within text (stop p) x) k.1 (halt-at-within p.form (any p.records.pairs) text (stop p) (stop-in-text text p e)))
