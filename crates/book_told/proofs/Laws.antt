-- Laws for the whole writing: what is planned is written, and a refusal changes nothing.
-- Assumes nothing.
use Prim.Native.Nat.{ℕ, ◌*◌, ◌<◌, ◌≤◌, min}
use mathlib.Core.Path.{◌≡◌, sym, ap, ◌∙◌}
use mathlib.Core.List.{List, map}
use mathlib.Core.Bool.{true, ◌&&◌}
use native.Mathlib.Omega.{arith}
use lib.Dec.{leb}
use lib.ListN.{length, length-map}
use lib.Seq.{sets}
use borrow.Author.Rules.{rules}
use borrow.Author.Tests.{le-leb, leb-true, lt-leb}
use Rattle.std.specs.Prelude.{Result, Ok, Err}
use Rattle.format.specs.Outcome.{Outcome, fine, refused, and_then}
use Rattle.laws.proofs.Outcomes.{chain, passed, unlike}
use Rattle.book.specs.Entries.{Entry}
use Rattle.book.specs.Contents.{rows_for, is_small, small_rows, start}
use Rattle.book.specs.Given.{entry_at, arranged, packed, numbers_of, most_bytes}
use Rattle.book.specs.Written.{book_of, numbers_fit_of, fitted}
use Rattle.book.proofs.Given.{arranged-all}
use Rattle.book.proofs.Numbering.{numbers-tell, numbers-long}
use Rattle.book.proofs.Numbers.{both}
use Rattle.book.proofs.Sorting.{inside}
use Rattle.book_plan.specs.Told.{planned, wrote_of}
use Rattle.book_plan.specs.declared.plan.Refusal.{Refusal}
use Rattle.book_told.specs.Told.{Written, answer_to}

-- what is planned
record Planned (p r : List ℕ) (n room long : ℕ) : Type 0 where
  entries : List Entry
  whole : and_then (arranged p r n) (fitted (min room most_bytes)) ≡ fine (book_of entries)
  as_long : length (book_of entries) ≡ long
  told : map (entry_at p r) (numbers_of p r n) ≡ entries
  small : small_rows (rows_for (start n) entries) ≡ true

plan-of : (p r : List ℕ) (n room long : ℕ) → planned p r n room ≡ fine long → Planned p r n room long
unfolding planned fitted numbers_fit_of
plan-of p r n room long h =
    let c = chain (and_then (arranged p r n) (fitted (min room most_bytes))) (λ b. fine (length b)) long h in
    let d = chain (arranged p r n) (fitted (min room most_bytes)) c.value c.first in
    let fs = d.value in
    let t = passed (numbers_fit_of fs && leb (length (book_of fs)) (min room most_bytes)) (fine (book_of fs)) 24 0 c.value d.second in
    let u = both (numbers_fit_of fs) (leb (length (book_of fs)) (min room most_bytes)) t.0 in
    let e : book_of fs ≡ c.value = inside (book_of fs) c.value t.1 in
    let k = numbers-tell p r n fs (arranged-all p r n fs d.first).in_order in
    let l : length fs ≡ n = sym (ap length k) ∙ (length-map (numbers_of p r n) (entry_at p r) ∙ numbers-long p r n) in
    record {
      entries = fs;
      whole = c.first ∙ ap {B = Outcome (List ℕ)} fine (sym e);
      as_long = ap length e ∙ inside (length c.value) long c.second;
      told = k;
      small = rw l at (both (is_small (length fs)) (small_rows (rows_for (start (length fs)) fs)) u.0).1;
    }

-- `plan_lent`
module _ (p r : List ℕ) (n numbers room : ℕ) where
  pub few-rows : {u : ℕ} → u ≡ n → length r < 5 * u → answer_to p r n numbers room ≡ wrote_of (Err (record { number = 1; place = 0 }))
  unfolding answer_to packed
  few-rows e h = let z = lt-leb (5 * n) (length r) (omega arith) in rw z

  module _ {u : ℕ} (a : u ≡ n) (b : 5 * u ≤ length r) where
    pub few-numbers : {v : ℕ} → v ≡ n → numbers < v → answer_to p r n numbers room ≡ wrote_of (Err (record { number = 1; place = 0 }))
    unfolding answer_to packed
    few-numbers e h =
        let y = le-leb (5 * n) (length r) (omega arith) in
        let z = lt-leb n numbers (omega arith) in
        rw (y, z)

    pub as-planned : {v : ℕ} → v ≡ n → v ≤ numbers → (w : Result ℕ Refusal) → planned p r n room ≡ wrote_of w → answer_to p r n numbers room ≡ wrote_of w
    unfolding answer_to packed planned
    as-planned e h w g =
        let y = le-leb (5 * n) (length r) (omega arith) in
        let z = le-leb n numbers (omega arith) in
        rw (y, z) g

pub ruleset plans = (rules, few-rows, few-numbers, as-planned)

-- a book that is answered is planned, has small numbers, and room for the numbers
module _ (p r : List ℕ) (n numbers room long : ℕ) (h : answer_to p r n numbers room ≡ fine long) where
  abbrev inner : Outcome (List ℕ)
  inner = and_then (arranged p r n) (fitted (min room most_bytes))

  answered : (packed p r n numbers room ≡ inner) × (planned p r n room ≡ fine long) × (n ≤ numbers)
  unfolding answer_to packed planned
  answered =
      let c = chain (packed p r n numbers room) (λ b. fine (length b)) long h in
      let t = passed (leb (5 * n) (length r) && leb n numbers) inner 1 0 c.value c.first in
      (rw t.0, rw t.1 c.second, leb-true n numbers (both (leb (5 * n) (length r)) (leb n numbers) t.0).1)

pub plan-small : (p r : List ℕ) (n numbers room : ℕ) {long : ℕ} {w : Result ℕ Refusal} → answer_to p r n numbers room ≡ wrote_of w → w ≡ Ok long → small_rows (rows_for (start n) (map (entry_at p r) (numbers_of p r n))) ≡ true
plan-small p r n numbers room {long} e g = let plan = plan-of p r n room long (answered p r n numbers room long (e ∙ rw g)).1 in rw plan.told plan.small

pub plan-room : (p r : List ℕ) (n numbers room : ℕ) {long : ℕ} {w : Result ℕ Refusal} → answer_to p r n numbers room ≡ wrote_of w → w ≡ Ok long → n ≤ numbers
plan-room p r n numbers room {long} e g = (answered p r n numbers room long (e ∙ rw g)).2

module _ (p r : List ℕ) (n : ℕ) (out order : List ℕ) {w : Result ℕ Refusal} (e : answer_to p r n (length order) (length out) ≡ wrote_of w) where
  pub write-refused : {s : Refusal} → w ≡ Err s → Written p r n out order (Err s) out order
  unfolding answer_to
  write-refused {s} g =
      let h = refused-whole (packed p r n (length order) (length out)) (e ∙ rw g) in
      record { answer = rw h; bytes-hold = rw h; numbers-hold = rw h }
    where
      refused-whole : (o : Outcome (List ℕ)) → and_then o (λ b. fine (length b)) ≡ refused s.number s.place → o ≡ refused s.number s.place
      refused-whole (fine x) h = unlike s.number s.place (length x) (sym h)
      refused-whole (refused x y) h = cc

  pub write_done : {long : ℕ} {new_out new_order : List ℕ} → w ≡ Ok long → new_order ≡ sets order 0 (numbers_of p r n) → new_out ≡ sets out 0 (book_of (map (entry_at p r) (numbers_of p r n)))
      → Written p r n out order (Ok long) new_out new_order
  unfolding answer_to
  write_done {long} g s f =
      let a = answered p r n (length order) (length out) long (e ∙ rw g) in
      let plan = plan-of p r n (length out) long a.1 in
      let whole = a.0 ∙ plan.whole in
      record {
        answer = e ∙ rw g;
        bytes-hold = rw whole (f ∙ rw plan.told);
        numbers-hold = rw whole s;
      }

pub ruleset writes = (rules, write-refused, write_done)
