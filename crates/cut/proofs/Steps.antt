-- What a step of the ended reading says of its record: it begins at its place, it ends where the reading goes on, and a full line end stands behind it.
-- Assumes nothing.
use Prim.Native.Nat.{ℕ, ◌-◌, ◌≤◌}
use mathlib.Core.Path.{◌≡◌, refl, sym, ap}
use mathlib.Core.Bool.{Bool, true, false, ◌&&◌}
use mathlib.Core.List.{List}
use native.Mathlib.Omega.{arith}
use lib.Dec.{eqb, leb}
use borrow.Author.Tests.{leb-true}
use Rattle.format.specs.Lists.{pick}
use Rattle.format.specs.Got.{Got, is, isnt}
use Rattle.format.specs.Header.{Form}
use Rattle.format.specs.Entries.{Entry, entry_line}
use Rattle.format.specs.Pairs.{Pair, pair_lines}
use Rattle.format.specs.Records.{Step, Taken, goes, last, step_of, stops}
use Rattle.laws.specs.Places.{end_at, entry_at, line_at, line_end, next_line, pair_at, part_of}

-- a line that is read and has no line end is no record of the ended reading
no_last : {A : Type 0} (at n e next : ℕ) (g : Got A) (t : Taken A) → step_of true at n e next g ≡ last t → ⊥
no_last at n e next (isnt r p) t h = let z : ◌≡◌ {A = ℕ} 0 1 = cc in omega arith
no_last at n e next (is a used) t h = go (eqb used n && leb 1 e) h
  where
    go : (b : Bool) → pick b (goes (record { place = at; end = next; body = a })) stops ≡ last t → ⊥
    go true q = let z : ◌≡◌ {A = ℕ} 0 1 = cc in omega arith
    go false q = let z : ◌≡◌ {A = ℕ} 0 1 = cc in omega arith

-- where a record begins and ends
step-goes : {A : Type 0} (at n e next : ℕ) (g : Got A) (t : Taken A) → step_of true at n e next g ≡ goes t → (t.place ≡ at) × (t.end ≡ next) × (1 ≤ e)
step-goes at n e next (isnt r p) t h = let z : ◌≡◌ {A = ℕ} 0 1 = cc in let y : ⊥ = omega arith in absurd y
step-goes {A} at n e next (is a used) t h = go (eqb used n) (leb 1 e) refl h
  where
    no : (x : Taken A) → ◌≡◌ {A = Step A} stops (goes x) → ⊥
    no x q = let z : ◌≡◌ {A = ℕ} 0 1 = cc in omega arith

    go : (b c : Bool) → leb 1 e ≡ c → pick (b && c) (goes (record { place = at; end = next; body = a })) stops ≡ goes t → (t.place ≡ at) × (t.end ≡ next) × (1 ≤ e)
    go true true l q = let s : record { place = at; end = next; body = a } ≡ t = cc in (ap (λ (x : Taken A). x.place) (sym s), ap (λ (x : Taken A). x.end) (sym s), leb-true 1 e l)
    go true false l q = absurd (no t q)
    go false c l q = absurd (no t q)

-- a pair whose first line has its line end
pub pair-went : (z : Bool) (x : Step Pair) (t : Taken Pair) → pick z stops x ≡ goes t → x ≡ goes t
pair-went true x t h = let z : ◌≡◌ {A = ℕ} 0 1 = cc in let y : ⊥ = omega arith in absurd y
pair-went false x t h = h

module _ (f : Form) (text : List ℕ) (p : ℕ) where
  pub entry-goes : (t : Taken Entry) → entry_at true f text p ≡ goes t → (t.place ≡ p) × (t.end ≡ next_line text p) × (1 ≤ end_at text p)
  unfolding entry_at
  entry-goes t h = step-goes p (line_end text p - p) (end_at text p) (next_line text p) (entry_line f (part_of text p (line_end text p)) 0) t h

  pub entry-no-last : (t : Taken Entry) → entry_at true f text p ≡ last t → ⊥
  unfolding entry_at
  entry-no-last t h = no_last p (line_end text p - p) (end_at text p) (next_line text p) (entry_line f (part_of text p (line_end text p)) 0) t h

  pub pair_end : (t : Taken Pair) → pair_at true f text p ≡ goes t → t.end ≡ next_line text (next_line text p)
  unfolding pair_at
  pair_end t e =
      let r : ℕ = next_line text p in
      let x : Step Pair = step_of true p (line_end text r - p) (end_at text r) (next_line text r) (pair_lines f (line_at text p) (line_at text r)) in
      (step-goes p (line_end text r - p) (end_at text r) (next_line text r) (pair_lines f (line_at text p) (line_at text r)) t (pair-went (eqb (end_at text p) 0) x t e)).1

  pub pair-no-last : (t : Taken Pair) → pair_at true f text p ≡ last t → ⊥
  unfolding pair_at
  pair-no-last t e = go (eqb (end_at text p) 0) e
    where
      r : ℕ
      r = next_line text p

      go : (b : Bool) → pick b stops (step_of true p (line_end text r - p) (end_at text r) (next_line text r) (pair_lines f (line_at text p) (line_at text r))) ≡ last t → ⊥
      go true x = let z : ◌≡◌ {A = ℕ} 0 1 = cc in omega arith
      go false x = no_last p (line_end text r - p) (end_at text r) (next_line text r) (pair_lines f (line_at text p) (line_at text r)) t x
