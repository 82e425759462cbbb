-- How a scan by places meets the structural lines: the records from a place on are what the line there does, and the records behind it.
-- Assumes nothing.
use Prim.Native.Nat.{ℕ, zero, suc, ◌+◌, ◌-◌, ◌≤◌}
use mathlib.Core.Path.{◌≡◌, refl, sym, ap, ◌∙◌}
use mathlib.Core.Bool.{Bool, true, false, not, ◌&&◌}
use mathlib.Core.List.{List, [], ◌∷◌}
use native.Mathlib.Omega.{arith}
use lib.ListN.{length, take, drop}
use lib.Seq.{drop-drop, length-take-le}
use lib.Dec.{eqb, leb}
use borrow.Author.Tests.{ne_eqb}
use Rattle.format.specs.Lists.{pick, run}
use Rattle.format.specs.Bytes.{is_cr_or_lf}
use Rattle.format.specs.Got.{Got, is, isnt}
use Rattle.format.specs.Number.{past}
use Rattle.format.specs.Lines.{Line, width, lines, end_length, taken, last_line_of, lines_of}
use Rattle.format.specs.Header.{Form}
use Rattle.format.specs.Entries.{Entry, entry_line}
use Rattle.format.specs.Pairs.{Pair, pair_lines}
use Rattle.laws.proofs.Lines.{line_length, first_line, lines-first}
use Rattle.format.specs.Records.{Step, stops, last, goes, step_of, Taken, Records, both, consed, records, pairs, entry_step, pair_step}
use Rattle.laws.specs.Places.{inner, line_end, end_at, next_line, line_at, entry_at, pair_at, records_at, pairs_at}
use Rattle.laws.proofs.Within.{run-within}

run_take : (p : ℕ → Bool) (xs : List ℕ) → take (length (run p xs)) xs ≡ run p xs
unfolding run
run_take p [] = refl
run_take p (x ∷ xs) = go (p x) (run_take p xs)
  where
    go : (t : Bool) → take (length (run p xs)) xs ≡ run p xs → take (length (pick t (x ∷ run p xs) [])) (x ∷ xs) ≡ pick t (x ∷ run p xs) []
    go true e = ap (λ (l : List ℕ). x ∷ l) e
    go false e = refl

-- the lines that a reading goes through, by the first of them: k bytes and a line end of e
abbrev pub lines_from : Bool → List ℕ → ℕ → ℕ → List Line
lines_from ended xs k zero = pick ended [] (record { bytes = take k xs; ends = 0 } ∷ [])
lines_from ended xs k (suc e) = record { bytes = take k xs; ends = suc e } ∷ lines_of ended (drop (k + suc e) xs)

lines-zero : (ended : Bool) (xs : List ℕ) → lines xs ≡ [] → lines_of ended xs ≡ lines_from ended xs (line_length xs) 0
unfolding lines_of last_line_of taken line_length
lines-zero true xs e = e
lines-zero false xs e = rw e (ap (λ (l : List ℕ). record { bytes = l; ends = 0 } ∷ []) (sym (run_take (λ b. not (is_cr_or_lf b)) xs)))

last_line : (xs : List ℕ) (l : Line) (n : ℕ) → width l ≡ n → lines xs ≡ l ∷ lines (drop n xs) → last_line_of xs ≡ last_line_of (drop n xs)
unfolding last_line_of taken
last_line xs l n w e =
    let d : drop (taken (lines (drop n xs))) (drop n xs) ≡ drop (n + taken (lines (drop n xs))) xs = drop-drop (taken (lines (drop n xs))) n xs in
    rw (e, w, d)

lines-suc : (ended : Bool) (xs : List ℕ) (k e : ℕ) → k ≤ length xs → lines xs ≡ first_line xs k (suc e) → lines_of ended xs ≡ lines_from ended xs k (suc e)
unfolding lines_of width
lines-suc true xs k e h f = f
lines-suc false xs k e h f =
    let w : length (take k xs) + suc e ≡ k + suc e = rw (length-take-le k xs h) in
    rw (last_line xs (record { bytes = take k xs; ends = suc e }) (k + suc e) w f, f)

pub lines-from : (ended : Bool) (xs : List ℕ) → lines_of ended xs ≡ lines_from ended xs (line_length xs) (end_length (drop (line_length xs) xs))
unfolding line_length
lines-from ended xs = go (end_length (drop (line_length xs) xs)) (lines-first xs)
  where
    go : (e : ℕ) → lines xs ≡ first_line xs (line_length xs) e → lines_of ended xs ≡ lines_from ended xs (line_length xs) e
    go zero f = lines-zero ended xs f
    go (suc e) f = lines-suc ended xs (line_length xs) e (run-within (λ b. not (is_cr_or_lf b)) xs) f

-- the same from a place of the text on
module _ (ended : Bool) (text : List ℕ) (p : ℕ) where
  length-of : line_length (drop p text) ≡ line_end text p - p
  unfolding line_length line_end past
  length-of = omega arith

  pub end_of : line_end text p ≡ p + line_length (drop p text)
  unfolding line_length line_end past
  end_of = refl

  ends_of : end_length (drop (line_length (drop p text)) (drop p text)) ≡ end_at text p
  unfolding end_at
  ends_of = rw (drop-drop, ← end_of)

  pub lines_at : lines_of ended (drop p text) ≡ lines_from ended (drop p text) (line_end text p - p) (end_at text p)
  lines_at = lines-from ended (drop p text) ∙ rw (ends_of, length-of)

-- where no full line end stands, nothing goes on
no_end : {B : Type 0} (at n next : ℕ) (g : Got B) → step_of true at n 0 next g ≡ stops
no_end at n next (isnt r p) = refl
no_end at n next (is a u) = go (eqb u n)
  where
    go : (t : Bool) → pick (t && leb 1 0) (goes (record { place = at; end = next; body = a })) stops ≡ stops
    go true = refl
    go false = refl

-- so the rest is not asked for
both-last : (at n next next' : ℕ) (g : Got Entry) (x y : Records) (two : List (Taken Pair)) → both (step_of false at n 0 next g) x two ≡ both (step_of false at n 0 next' g) y two
both-last at n next next' (isnt r p) x y two = refl
both-last at n next next' (is a u) x y two = go (eqb u n)
  where
    go : (t : Bool) → both (pick (t && leb 1 0) (goes (record { place = at; end = at + u; body = a })) (last (record { place = at; end = at + u; body = a }))) x two
        ≡ both (pick (t && leb 1 0) (goes (record { place = at; end = at + u; body = a })) (last (record { place = at; end = at + u; body = a }))) y two
    go true = refl
    go false = refl

cons-last : (at n next next' : ℕ) (g : Got Pair) (x y : List (Taken Pair)) → consed (step_of false at n 0 next g) x ≡ consed (step_of false at n 0 next' g) y
cons-last at n next next' (isnt r p) x y = refl
cons-last at n next next' (is a u) x y = go (eqb u n)
  where
    go : (t : Bool) → consed (pick (t && leb 1 0) (goes (record { place = at; end = at + u; body = a })) (last (record { place = at; end = at + u; body = a }))) x
        ≡ consed (pick (t && leb 1 0) (goes (record { place = at; end = at + u; body = a })) (last (record { place = at; end = at + u; body = a }))) y
    go true = refl
    go false = refl

-- a line of k bytes and a line end of e, at p
module _ (f : Form) (p : ℕ) (xs : List ℕ) (k : ℕ) (h : k ≤ length xs) where
  one_line : (ended : Bool) (e : ℕ) (N : ℕ) → N ≡ p + (k + e)
      → records ended f p (lines_from ended xs k e)
      ≡ both (step_of ended p k e N (entry_line f (take k xs) 0)) (records ended f N (lines_of ended (drop (k + e) xs))) (pairs ended f p (lines_from ended xs k e))
  unfolding records entry_step pairs width
  one_line true zero N n = rw (no_end p k N (entry_line f (take k xs) 0))
  one_line false zero N n = rw (length-take-le k xs h) (both-last p k (p + (k + 0)) N (entry_line f (take k xs) 0) _ _ [])
  one_line ended (suc e) N n = rw (n, length-take-le k xs h)

module _ (ended : Bool) (f : Form) (text : List ℕ) (p : ℕ) where
  within : line_end text p - p ≤ length (drop p text)
  unfolding line_end past
  within = omega (arith, run-within inner (drop p text))

  next-is : next_line text p ≡ p + (line_end text p - p + end_at text p)
  unfolding next_line line_end past
  next-is = omega arith

  -- group one at a place
  pub records-at : records_at ended f text p ≡ both (entry_at ended f text p) (records_at ended f text (next_line text p)) (pairs_at ended f text p)
  unfolding records_at pairs_at entry_at
  records-at =
      let d : drop (line_end text p - p + end_at text p) (drop p text) ≡ drop (next_line text p) text = drop-drop (line_end text p - p + end_at text p) p text ∙ rw (← next-is) in
      rw (lines_at ended text p, ← d) (one_line f p (drop p text) (line_end text p - p) within ended (end_at text p) (next_line text p) next-is)

-- two lines
first-line : (ended : Bool) (f : Form) (p : ℕ) (xs : List ℕ) (k e : ℕ)
    → pairs ended f p (lines_from ended xs k e) ≡ pick (eqb e 0) [] (pairs ended f p (record { bytes = take k xs; ends = e } ∷ lines_of ended (drop (k + e) xs)))
unfolding pairs
first-line true f p xs k zero = refl
first-line false f p xs k zero = refl
first-line ended f p xs k (suc e) = let z : suc e ≡ 0 → ⊥ = λ x. omega arith in rw (ne_eqb (suc e) 0 z)

two-lines : (ended : Bool) (f : Form) (p : ℕ) (t : Line) (ys : List ℕ) (k e n N : ℕ) → k ≤ length ys → n ≡ width t + k → N ≡ p + (width t + (k + e))
    → pairs ended f p (t ∷ lines_from ended ys k e)
    ≡ consed (step_of ended p n e N (pair_lines f t (record { bytes = take k ys; ends = e }))) (pairs ended f N (lines_of ended (drop (k + e) ys)))
unfolding pairs pair_step width
two-lines true f p t ys k zero n N h i j = rw (no_end p n N (pair_lines f t (record { bytes = take k ys; ends = 0 })))
two-lines false f p t ys k zero n N h i j = rw (i, length-take-le k ys h) (cons-last p _ N N (pair_lines f t (record { bytes = take k ys; ends = 0 })) _ _)
two-lines ended f p t ys k (suc e) n N h i j = rw (i, j, length-take-le k ys h)

consed-pick : (t : Bool) (x : Step Pair) (rest : List (Taken Pair)) → pick t [] (consed x rest) ≡ consed (pick t stops x) rest
consed-pick true x rest = refl
consed-pick false x rest = refl

module _ (ended : Bool) (f : Form) (text : List ℕ) (p : ℕ) where
  line-width : p + width (line_at text p) ≡ next_line text p
  unfolding line_at width
  line-width = rw (length-take-le (line_end text p - p) (drop p text) (within ended f text p)) (sym (next-is ended f text p))

  -- group two at a place
  pub pairs-at : pairs_at ended f text p ≡ consed (pair_at ended f text p) (pairs_at ended f text (next_line text (next_line text p)))
  unfolding pairs_at pair_at line_at
  pairs-at =
      let q = line_end text p - p in
      let r = next_line text p in
      let d : drop (q + end_at text p) (drop p text) ≡ drop r text = drop-drop (q + end_at text p) p text ∙ rw (← next-is ended f text p) in
      let d₂ : drop (line_end text r - r + end_at text r) (drop r text) ≡ drop (next_line text r) text = drop-drop (line_end text r - r + end_at text r) r text ∙ rw (← next-is ended f text r) in
      let n : line_end text r - p ≡ width (line_at text p) + (line_end text r - r) = omega (arith, line-width, end_of ended text r) in
      let N : next_line text r ≡ p + (width (line_at text p) + (line_end text r - r + end_at text r)) = omega (arith, line-width, next-is ended f text r) in
      let x = step_of ended p (line_end text r - p) (end_at text r) (next_line text r) (pair_lines f (line_at text p) (line_at text r)) in
      rw (lines_at ended text p) (first-line ended f p (drop p text) q (end_at text p)
      ∙ (ap (λ (l : List ℕ). pick (eqb (end_at text p) 0) [] (pairs ended f p (line_at text p ∷ lines_of ended l))) d
      ∙ (ap (λ (ls : List Line). pick (eqb (end_at text p) 0) [] (pairs ended f p (line_at text p ∷ ls))) (lines_at ended text r)
      ∙ (ap (λ (x : List (Taken Pair)). pick (eqb (end_at text p) 0) [] x) (two-lines ended f p (line_at text p) (drop r text) (line_end text r - r) (end_at text r) (line_end text r - p) (next_line text r) (within ended f text r) n N)
      ∙ (ap (λ (l : List ℕ). pick (eqb (end_at text p) 0) [] (consed x (pairs ended f (next_line text r) (lines_of ended l)))) d₂
      ∙ consed-pick (eqb (end_at text p) 0) x (pairs ended f (next_line text r) (lines_of ended (drop (next_line text r) text))))))))
