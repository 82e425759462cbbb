-- What the proofs over all pairs share: the loops' invariants, and a law for each return.
-- Assumes nothing.
use Prim.Native.Nat.{ℕ, suc, ◌+◌, ◌-◌, ◌*◌, ◌≤◌, ◌<◌}
use mathlib.Core.Path.{◌≡◌, refl, ap, sym, ◌∙◌}
use mathlib.Core.Bool.{Bool, cond, true, false}
use mathlib.Core.List.{List, ◌∷◌, ◌++◌}
use native.Mathlib.Numerals.{add-one}
use native.Mathlib.Omega.{arith}
use lib.Dec.{eqb}
use lib.ListN.{length, take, drop, replicate, length-replicate, drop_of_length-le}
use lib.Seq.{drop-cons, sets, sets-eq, take_at}
use borrow.Author.Rules.{rules}
use Rattle.std.specs.List.{count_by}
use Rattle.std.proofs.lemmas.List.Recursion.{is_count_by}
use Rattle.format.specs.Lists.{over, pick}
use Rattle.format.specs.Header.{Form}
use Rattle.format.specs.Pairs.{Pair, placed}
use Rattle.format.specs.Records.{Taken}
use Rattle.format.specs.Tables.{Tables, total}
use Rattle.covered.specs.Covered.{map_of, marked_by, unwritten_in}
use Rattle.covered.proofs.Maps.{map-length, marked_append}
use Rattle.one_position.specs.Answer.{Held}
use Rattle.one_position.specs.Back.{no_pair, RowsAre}
use Rattle.coverage.specs.Pair.{RowMarks}
use Rattle.coverage.specs.Rows.{RowsMark, RowsCover}

-- `mark_rows`: the pairs before the k-th have marked what they write
pub record Rowing (areas : List ℕ) (n : ℕ) (pairs content fragments : List ℕ) (many : ℕ) (big : Bool) (width : ℕ) (old map : List ℕ) (k : ℕ) : Type 0 where
  pub inside : k ≤ many
  pub rest : (fm : Form) (t : Tables) (qs : List (Taken Pair)) → Held fm t areas n big width → RowsAre fm t pairs content fragments many qs → marked_by fm t qs old ≡ marked_by fm t (drop k qs) map
  pub long : length map ≡ length old

pub rowing_start : (areas : List ℕ) (n : ℕ) (pairs content fragments : List ℕ) (many : ℕ) (big : Bool) (width : ℕ) (old : List ℕ) → Rowing areas n pairs content fragments many big width old old 0
rowing_start areas n pairs content fragments many big width old = record { inside = omega arith; rest = λ fm t qs h r. refl; long = refl }

module _ {areas : List ℕ} {n : ℕ} {pairs content fragments : List ℕ} {many : ℕ} {big : Bool} {width : ℕ} {old map : List ℕ} {k : ℕ} (w : Rowing areas n pairs content fragments many big width old map k) where
  pub rowing-end : many ≤ k → RowsMark areas n pairs content fragments many big width old map
  unfolding marked_by
  rowing-end l = record {
    marks = λ fm t qs h r. sym (w.rest fm t qs h r ∙ ap (λ (ps : List (Taken Pair)). marked_by fm t ps map) (drop_of_length-le qs {i = k} (omega (arith, r.many))));
  }

  pub rowing-low : k < many → many ≤ 4096 → 7 * k ≤ 28672
  rowing-low l m = omega arith

  pub rowing_more : k < many → {new : List ℕ} → RowMarks areas n pairs content fragments (7 * k) big width map new → length new ≡ length map → Rowing areas n pairs content fragments many big width old new (k + 1)
  unfolding marked_by
  rowing_more l {new} a g = record {
    inside = omega arith;
    rest = λ fm t qs h r.
        let x = r.each k l in
        let e : drop k qs ≡ record { place = x.place; end = 0; body = placed x.content-is x.relocation } ∷ drop (suc k) qs = drop-cons qs k no_pair (omega (arith, r.many)) ∙ ap (λ (q : Taken Pair). q ∷ drop (suc k) qs) x.is in
        let m = a.marks fm t x.place x.content-is x.relocation h x.stands x.sound in
        rw add-one (w.rest fm t qs h r ∙ (ap (λ (ps : List (Taken Pair)). marked_by fm t ps map) e ∙ ap (λ (zs : List ℕ). marked_by fm t (drop (suc k) qs) zs) (sym m)));
    long = g ∙ w.long;
  }

pub ruleset rows = (rules, rowing_start, rowing-end, rowing-low, rowing_more)

-- `unwritten`: one position more
one_more : (b : Bool) (k : ℕ) → pick b 1 0 + k ≡ cond b (1 + k) k
one_more true k = refl
one_more false k = omega arith

pub counts_zeros : (xs : List ℕ) → count_by (λ x. eqb x 0) xs ≡ unwritten_in xs
unfolding unwritten_in
counts_zeros xs = sym (is_count_by unwritten_in (λ x. eqb x 0) refl (λ x ys. one_more (eqb x 0) (unwritten_in ys)) xs)

-- `cover_rows`
module _ {areas : List ℕ} {n : ℕ} (positions : ℕ) {pairs content fragments : List ℕ} {many : ℕ} {big : Bool} {width : ℕ} (old : List ℕ) {blank new : List ℕ} (l : positions ≤ length old)
    (e : blank ≡ sets old 0 (replicate positions 0)) (m : RowsMark areas n pairs content fragments many big width blank new) where
  cleared : blank ≡ replicate positions 0 ++ drop positions old
  cleared =
      let z : 0 + length {A = ℕ} (replicate positions 0) ≡ positions = omega (arith, length-replicate {A = ℕ} positions 0) in
      e ∙ (sets-eq (replicate positions 0) old 0 (omega (arith, z)) ∙ rw z)

  laid : (fm : Form) (t : Tables) (qs : List (Taken Pair)) → Held fm t areas n big width → RowsAre fm t pairs content fragments many qs → positions ≡ total t.areas → new ≡ map_of fm t qs ++ drop positions old
  unfolding map_of
  laid fm t qs h r p =
      m.marks fm t qs h r
      ∙ (ap (λ (zs : List ℕ). marked_by fm t qs zs) cleared
      ∙ (marked_append fm t qs (replicate positions 0) (drop positions old) (omega (arith, length-replicate {A = ℕ} positions 0))
      ∙ ap (λ (k : ℕ). marked_by fm t qs (replicate k 0) ++ drop positions old) p))

  pub rows-covered : {r : ℕ} → r ≡ unwritten_in (take positions new) → RowsCover areas n positions pairs content fragments many big width old r new
  unfolding over
  rows-covered {r} er = record {
    counts = λ fm t qs h w p. er ∙ ap unwritten_in (ap (take positions) (laid fm t qs h w p) ∙ take_at (map_of fm t qs) (drop positions old) positions (map-length fm t qs ∙ sym p));
    map = λ fm t qs h w p. laid fm t qs h w p ∙ ap (λ (k : ℕ). map_of fm t qs ++ drop k old) (p ∙ sym (map-length fm t qs));
  }

pub ruleset covering = (rules, rows-covered)
