-- The laws of the fixups that a side lacks.
-- Assumes nothing.
use Prim.Native.Nat.{ℕ, zero, suc, ◌+◌, ◌-◌, ◌<◌, ◌≤◌}
use native.Mathlib.Nat.{add-suc, suc-add}
use mathlib.Core.Path.{◌≡◌, refl, ap, subst, sym, ◌∙◌}
use mathlib.Core.Bool.{Bool, true, false, not}
use mathlib.Core.List.{List, [], ◌∷◌, ◌++◌}
use native.Mathlib.Omega.{arith}
use native.Mathlib.Numerals.{add-one}
use lib.Dec.{eqb, ltb}
use borrow.Author.Rules.{rules}
use borrow.Author.Tests.{lt-ltb, le-ltb, eqb-true, eqb-false, ltb-true}
use Rattle.format.specs.Lists.{pick}
use Rattle.format.specs.Fixups as the
use Rattle.laws.specs.Rows.{fixup_row, fixups_in, from}
use Rattle.row_parts.specs.Ranges as rows
use Rattle.fixup_rows.specs.Fixups.{told_fixup}
use Rattle.fixup_rows.specs.declared.fixup.Fixup.{Fixup}
use Rattle.alike.specs.Parts.{same_at}
use Rattle.alike.specs.Looked.{first_of, like_from}
use Rattle.difference.specs.Module.{At, numbered, passing, says}
use Rattle.difference.specs.Changes.{Change, each, fixup, said_in}
use Rattle.difference.specs.Rows.{change_numbers}
use Rattle.change_rows.specs.Room.{few_of}
use Rattle.change_rows.proofs.Room.{few-all, few-is, walk-left, walk-taken}
use Rattle.change_rows.specs.Walk.{Put, Walked, WalkedIf}
use Rattle.fixup_changes.specs.Here.{lack_here, lacking_in, side_if}
use Rattle.change_rows.proofs.Going.{Going, going_end, going_start, going_step, no_row, one-row, put-added}

-- `kind`, `lies_in`
pub kind-new : (b : Bool) → b ≡ true → ◌≡◌ {A = ℕ} 4 (pick b 4 3)
kind-new b e = rw e

pub kind-old : (b : Bool) → b ≡ false → ◌≡◌ {A = ℕ} 3 (pick b 4 3)
kind-old b e = rw e

pub lies-is : (xs : List ℕ) (i id : ℕ) (x : Fixup) → told_fixup x ≡ fixup_row xs i → eqb x.home id ≡ eqb (fixup_row xs i).home id
lies-is xs i id x e = ap (λ (f : the.Fixup). eqb f.home id) e

pub ruleset kinds = (rules, kind-new, kind-old, lies-is)

-- an index that was found, or not, and whether the list says it
module _ (s xs : List ℕ) (i : ℕ) (t ys : List ℕ) where
  abbrev said : List the.Fixup → Bool
  said fs = said_in (says s (fixup_row xs i)) t fs

  abbrev test : ℕ → Bool
  test j = same_at s xs i t ys j

  first_said : (j m : ℕ) → said (from (fixup_row ys) j m) ≡ ltb (rows.passing (λ (k : ℕ). not (test k)) j m) (j + m)
  unfolding said_in from rows.passing same_at
  first_said j zero = sym (le-ltb j (j + 0) (omega arith))
  first_said j (suc m) = step (test j) refl (first_said (suc j) m)
    where
      step : (b : Bool) → test j ≡ b → said (from (fixup_row ys) (suc j) m) ≡ ltb (rows.passing (λ (k : ℕ). not (test k)) (suc j) m) (suc j + m)
          → pick b true (said (from (fixup_row ys) (suc j) m)) ≡ ltb (pick (not b) (rows.passing (λ (k : ℕ). not (test k)) (suc j) m) j) (j + suc m)
      step true e h = sym (lt-ltb j (j + suc m) (omega arith))
      step false e h = h ∙ ap (ltb (rows.passing (λ (k : ℕ). not (test k)) (suc j) m)) (suc-add j m ∙ sym (add-suc j m))

  there-said : (j m k : ℕ) → j ≤ k → k < j + m → test k ≡ true → said (from (fixup_row ys) j m) ≡ true
  unfolding said_in from same_at
  there-said j zero k h l e = absurd (omega arith)
  there-said j (suc m) k h l e = step (eqb j k) refl (λ g. there-said (suc j) m k g (omega arith) e)
    where
      either : (b c : Bool) → c ≡ true → pick b true c ≡ true
      either true c h = refl
      either false c h = h

      step : (b : Bool) → eqb j k ≡ b → (suc j ≤ k → said (from (fixup_row ys) (suc j) m) ≡ true) → pick (test j) true (said (from (fixup_row ys) (suc j) m)) ≡ true
      step true f r = ap (λ (b : Bool). pick b true (said (from (fixup_row ys) (suc j) m))) (ap test (eqb-true j k f) ∙ e)
      step false f r = either (test j) (said (from (fixup_row ys) (suc j) m)) (r (omega (arith, eqb-false j k f)))

  like-said : (n x : ℕ) → said (fixups_in ys n) ≡ ltb (like_from test n x) n
  unfolding like_from first_of fixups_in
  like-said n x = step (ltb x n) refl (test x) refl
    where
      all : said (from (fixup_row ys) 0 n) ≡ ltb (rows.passing (λ (k : ℕ). not (test k)) 0 n) n
      all = first_said 0 n ∙ ap (ltb (rows.passing (λ (k : ℕ). not (test k)) 0 n)) (omega arith)

      step : (b : Bool) → ltb x n ≡ b → (c : Bool) → test x ≡ c
          → said (from (fixup_row ys) 0 n) ≡ ltb (pick b (pick c x (rows.passing (λ (k : ℕ). not (test k)) 0 n)) (rows.passing (λ (k : ℕ). not (test k)) 0 n)) n
      step true f true e = there-said 0 n x (omega arith) (omega (arith, ltb-true x n f)) e ∙ sym f
      step true f false e = all
      step false f c e = all

-- `fixup`
numbers-are : (b : Bool) (id i : ℕ) → change_numbers (fixup (side_if b) id i) ≡ pick b 4 3 ∷ id ∷ i ∷ 0 ∷ 0 ∷ 0 ∷ 0 ∷ 0 ∷ []
unfolding change_numbers
numbers-are true id i = refl
numbers-are false id i = refl

module _ (b : Bool) (id : ℕ) (s xs : List ℕ) (i : ℕ) (t ys : List ℕ) (n : ℕ) (w : Bool) (list : List ℕ) (count : ℕ) {l : Bool} (e : l ≡ eqb (fixup_row xs i).home id) where
  abbrev here : List Change
  here = lack_here b id s (fixup_row xs i) i t (fixups_in ys n)

  pub fixup-elsewhere : l ≡ false → Walked w list count here 1 count list
  unfolding lack_here
  fixup-elsewhere f = no_row w list count here 1 (rw (← e, f))

  module _ (f : l ≡ true) (x : ℕ) {j : ℕ} (g : j ≡ like_from (same_at s xs i t ys) n x) where
    pub fixup-there : j < n → Walked w list count here 1 count list
    unfolding lack_here
    fixup-there h =
        let y : said_in (says s (fixup_row xs i)) t (fixups_in ys n) ≡ true = like-said s xs i t ys n x ∙ (ap (λ (k : ℕ). ltb k n) (sym g) ∙ lt-ltb j n h) in
        no_row w list count here 1 (rw (← e, f, y))

    pub fixup-lacks : n ≤ j → count < 4294967296 → {k y u v o z : ℕ} → {r : ℕ} {after : List ℕ} → Put w list count (k ∷ id ∷ y ∷ u ∷ v ∷ o ∷ z ∷ 0 ∷ []) r after
        → k ≡ pick b 4 3 → y ≡ i → u ≡ 0 → v ≡ 0 → o ≡ 0 → z ≡ 0 → Walked w list count here 1 r after
    unfolding lack_here
    fixup-lacks h low {k} {y} a p q d1 d2 d3 d4 =
        let z : said_in (says s (fixup_row xs i)) t (fixups_in ys n) ≡ false = like-said s xs i t ys n x ∙ (ap (λ (m : ℕ). ltb m n) (sym g) ∙ le-ltb j n h) in
        one-row (put-added low a) (fixup (side_if b) id i) (numbers-are b id i ∙ rw (p, q, d1, d2, d3, d4)) here (rw (← e, f, z))

pub ruleset lacks = (rules, fixup-elsewhere, fixup-there, fixup-lacks)

-- the loop
module _ (b : Bool) (id : ℕ) (s xs : List ℕ) (m : ℕ) (t ys : List ℕ) (n : ℕ) where
  abbrev row : At the.Fixup → List Change
  row x = pick (said_in (says s x.it) t (fixups_in ys n)) [] (fixup (side_if b) id x.index ∷ [])

  abbrev home : At the.Fixup → Bool
  home x = eqb x.it.home id

  unfoldable pub lacks_from : ℕ → List Change
  lacks_from i = each row (passing home (numbered i (from (fixup_row xs) i (m - i))))

  each-with : (c : Bool) (x : At the.Fixup) (rest : List (At the.Fixup)) → each row (pick c (x ∷ rest) rest) ≡ pick c (row x) [] ++ each row rest
  unfolding each
  each-with true x rest = refl
  each-with false x rest = refl

  lacks-next : (i : ℕ) → i < m → lacks_from i ≡ lack_here b id s (fixup_row xs i) i t (fixups_in ys n) ++ lacks_from (suc i)
  unfolding lacks_from lack_here from numbered passing
  lacks-next i h =
      let z : m - i ≡ suc (m - suc i) = omega arith in
      ap (λ (k : ℕ). each row (passing home (numbered i (from (fixup_row xs) i k)))) z
      ∙ each-with (eqb (fixup_row xs i).home id) (record { index = i; it = fixup_row xs i }) (passing home (numbered (suc i) (from (fixup_row xs) (suc i) (m - suc i))))

  lacks-past : (i : ℕ) → m ≤ i → lacks_from i ≡ []
  unfolding lacks_from from numbered passing each
  lacks-past i h = let z : m - i ≡ 0 = omega arith in rw z

  lacks-all : lacking_in b id s (fixups_in xs m) t (fixups_in ys n) ≡ lacks_from 0
  unfolding lacking_in lacks_from fixups_in
  lacks-all = ap (λ (k : ℕ). each row (passing home (numbered 0 (from (fixup_row xs) 0 k)))) (omega arith)

pub record FixupsGo (b : Bool) (id : ℕ) (s xs : List ℕ) (m : ℕ) (t ys : List ℕ) (n : ℕ) (w : Bool) (first : List ℕ) (n₀ : ℕ) (list : List ℕ) (k i : ℕ) : Type 0 where
  pub going : Going w first n₀ (lacking_in b id s (fixups_in xs m) t (fixups_in ys n)) i list k (lacks_from b id s xs m t ys n i)
  pub inside : i ≤ m
  pub low : m ≤ 1024

module _ (b : Bool) (id : ℕ) (s xs : List ℕ) (m : ℕ) (t ys : List ℕ) (n : ℕ) (w : Bool) (first : List ℕ) (n₀ : ℕ) where
  pub fixups-start : m ≤ 1024 → FixupsGo b id s xs m t ys n w first n₀ first n₀ 0
  fixups-start h = record {
    going = subst (λ (x : List Change). Going w first n₀ (lacking_in b id s (fixups_in xs m) t (fixups_in ys n)) 0 first n₀ x) (lacks-all b id s xs m t ys n) (going_start w first n₀ (lacking_in b id s (fixups_in xs m) t (fixups_in ys n)));
    inside = omega arith;
    low = h;
  }

  module _ {list : List ℕ} {k i : ℕ} (g : FixupsGo b id s xs m t ys n w first n₀ list k i) where
    pub fixups-end : m ≤ i → Walked w first n₀ (lacking_in b id s (fixups_in xs m) t (fixups_in ys n)) 1024 k list
    fixups-end h = going_end g.going (lacks-past b id s xs m t ys n i h) (omega (arith, g.inside, g.low))

    pub fixups-more : i < m → {r : ℕ} {after : List ℕ} → Walked w list k (lack_here b id s (fixup_row xs i) i t (fixups_in ys n)) 1 r after → FixupsGo b id s xs m t ys n w first n₀ after r (i + 1)
    fixups-more h {r} {after} a = record {
      going = subst (λ (x : ℕ). Going w first n₀ (lacking_in b id s (fixups_in xs m) t (fixups_in ys n)) (i + 1) after r (lacks_from b id s xs m t ys n x)) (sym (add-one i))
          (going_step g.going (lack_here b id s (fixup_row xs i) i t (fixups_in ys n)) (lacks_from b id s xs m t ys n (suc i)) (lacks-next b id s xs m t ys n i h) a);
      inside = omega arith;
      low = g.low;
    }

pub ruleset walks = (rules, fixups-start, fixups-end, fixups-more)

-- `fixups`
module _ (count m n : ℕ) (w : Bool) (list : List ℕ) (cs : List Change) {x : Bool} (e : x ≡ few_of count m n) where
  pub too_many : x ≡ false → WalkedIf (few_of count m n) w list count cs 1024 count list
  too_many f = walk-left w list count cs 1024 (few_of count m n) (sym e ∙ f)

  pub few-taken : x ≡ true → {r : ℕ} {after : List ℕ} → Walked w list count cs 1024 r after → WalkedIf (few_of count m n) w list count cs 1024 r after
  few-taken f a = walk-taken (few_of count m n) (sym e ∙ f) a

pub ruleset wholes = (rules, too_many, few-taken, few-all)

-- for a caller with few of both
pub the-fixups : {count m n : ℕ} {w : Bool} {list : List ℕ} {cs : List Change} {r : ℕ} {after : List ℕ} → count ≤ 536870912 → m ≤ 1024 → n ≤ 1024
    → WalkedIf (few_of count m n) w list count cs 1024 r after → Walked w list count cs 1024 r after
the-fixups {count} {m} {n} h k l a = a.taken (few-is count m n h k l)
