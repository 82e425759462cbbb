-- How a scan finds the lines: the bytes before the first CR or LF, and the full line end behind them.
use Prim.Native.Nat.{ℕ, zero, suc, ◌+◌, ◌-◌}
use mathlib.Core.Path.{◌≡◌, refl, ap, ◌∙◌}
use mathlib.Core.List.{List, [], ◌∷◌}
use mathlib.Core.Bool.{Bool, true, false, not}
use native.Mathlib.Nat.{suc-add}
use native.Mathlib.Omega.{arith}
use lib.ListN.{length, take, drop}
use lib.Dec.{eqb}
use borrow.Author.Tests.{eqb-true}
use Rattle.format.specs.Lists.{run}
use Rattle.format.specs.Bytes.{is_cr_or_lf}
use Rattle.format.specs.Lines.{Line, grow, blank_line, lines, end_length}

-- how many bytes stand before the first CR or LF
unfoldable pub line_length : List ℕ → ℕ
line_length xs = length (run (λ b. not (is_cr_or_lf b)) xs)

-- k bytes, with a line end of e behind them
abbrev pub first_line : List ℕ → ℕ → ℕ → List Line
first_line xs k zero = []
first_line xs k (suc e) = record { bytes = take k xs; ends = suc e } ∷ lines (drop (k + suc e) xs)

grow_first : (b : ℕ) (xs : List ℕ) (k e : ℕ) → grow b (first_line xs k e) ≡ first_line (b ∷ xs) (suc k) e
unfolding grow
grow_first b xs k zero = refl
grow_first b xs k (suc e) = rw suc-add

-- a text's first line, found by a scan
First : List ℕ → Type 0
First xs = lines xs ≡ first_line xs (line_length xs) (end_length (drop (line_length xs) xs))

one : (b : ℕ) (t u : Bool) → eqb b 10 ≡ t → eqb b 13 ≡ u → First (b ∷ [])
unfolding First lines line_length run is_cr_or_lf end_length blank_line
one b true true p q = let z : ⊥ = omega (arith, eqb-true b 10 p, eqb-true b 13 q) in absurd z
one b true false p q = simp (p, q)
one b false true p q = simp (p, q)
one b false false p q = simp (p, q)

more : (b c : ℕ) (bs : List ℕ) (t u v : Bool) → eqb b 10 ≡ t → eqb b 13 ≡ u → eqb c 10 ≡ v → First (c ∷ bs) → First (b ∷ c ∷ bs)
unfolding First lines line_length run is_cr_or_lf end_length blank_line
more b c bs true true v p q r ih = let z : ⊥ = omega (arith, eqb-true b 10 p, eqb-true b 13 q) in absurd z
more b c bs true false v p q r ih = simp (p, q)
more b c bs false true true p q r ih = simp (p, q, r)
more b c bs false true false p q r ih = simp (p, q, r)
more b c bs false false v p q r ih = simp (p, q) (ap (grow b) ih ∙ grow_first b (c ∷ bs) (line_length (c ∷ bs)) (end_length (drop (line_length (c ∷ bs)) (c ∷ bs))))

pub lines-first : (xs : List ℕ) → lines xs ≡ first_line xs (line_length xs) (end_length (drop (line_length xs) xs))
unfolding First lines line_length run end_length
lines-first [] = refl
lines-first (b ∷ []) = one b (eqb b 10) (eqb b 13) refl refl
lines-first (b ∷ c ∷ bs) = more b c bs (eqb b 10) (eqb b 13) (eqb c 10) refl refl refl (lines-first (c ∷ bs))
