-- What the loops keep: the place stays inside the sample, and no count passes it.
-- Assumes nothing.
use Rattle.std.proofs.Common.{ℕ, ◌+◌, ◌^◌, ◌<◌, ◌≤◌, List, length, le_of_lt, arith, w64, Fits, rules}
use Rattle.text_lines.specs.Lines.{LineIs}
use Rattle.text_lines.specs.declared.LineAt.{LineAt}

-- a loop that only counts
pub ruleset counting = (rules, le_of_lt)

pub record Going (s : List ℕ) (p cases differ : ℕ) : Type 0 where
  pub at : p ≤ length s
  pub many : cases ≤ p
  pub few : differ ≤ cases

pub going_start : (s : List ℕ) → Going s 0 0 0
going_start s = record { at = omega arith; many = omega arith; few = omega arith }

module _ {s : List ℕ} {p : ℕ} {l : LineAt} (w : LineIs s p l) (h : p < length s) where
  next-inside : l.next ≤ length s
  next-inside = w.inside (le_of_lt h)

  pub end-inside : l.end ≤ length s
  end-inside = omega (arith, w.inside (le_of_lt h), w.width)

  pub going_more : {c d : ℕ} → Going s p c d → p < l.next → {u : ℕ} → u ≤ 1 → Going s l.next (c + 1) (d + u)
  going_more g k e = record { at = next-inside; many = omega (arith, g.many); few = omega (arith, g.few) }

module _ {s : List ℕ} {p c d : ℕ} (g : Going s p c d) (h : p < length s) (k : length s < 2 ^ 64) where
  pub cases_fit : Fits w64 (c + 1)
  cases_fit = record { fits = omega (arith, g.many) }

  pub differ-fits : {u : ℕ} → u ≤ 1 → Fits w64 (d + u)
  differ-fits e = record { fits = omega (arith, g.many, g.few) }

pub ruleset replaying = (rules, going_start, end-inside, going_more, cases_fit, differ-fits)
