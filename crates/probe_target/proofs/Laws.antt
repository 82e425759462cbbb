-- The exported functions: a law for each return.
-- Assumes nothing.
use Prim.Native.Nat.{ℕ, ◌%◌, ◌*◌, ◌+◌, ◌-◌, ◌/◌, ◌<◌, ◌≤◌}
use mathlib.Core.Path.{◌≡◌, refl, sym, ap, ◌∙◌}
use mathlib.Core.Bool.{Bool}
use mathlib.Core.List.{List}
use native.Mathlib.Omega.{arith}
use lib.ListN.{drop, get_or, length, length-set, set, take}
use lib.Seq.{set_out}
use borrow.Author.Rules.{rules}
use Rattle.format.specs.Outcome.{Outcome}
use Rattle.laws.specs.Tab.{over}
use Rattle.laws.proofs.Fill.{over-step}
use Rattle.mode.specs.Class.{class_named, class_table}
use Rattle.std.specs.Prelude.{Result, Ok, Err}
use Rattle.target_asked.specs.declared.Refusal.{Refusal}
use Rattle.target_asked.specs.Asked.{told}
use Rattle.target.specs.Target.{target_by}
use Rattle.target.proofs.AnswerLaws.{by-the-table}
use Rattle.probe_target.specs.declared.TargetAnswer.{TargetAnswer}
use Rattle.probe_target.specs.Probe.{RowThere, Rows, row_target, rows_in, target_answer, value_of}

-- a target
pub target_at : {a : Result ℕ Refusal} {t : ℕ} → a ≡ Ok t → record { refused = 0; place = 0; address = t } ≡ target_answer (told a)
target_at e = rw e

pub target-refused : {a : Result ℕ Refusal} {r : Refusal} → a ≡ Err r → record { refused = r.number; place = r.place; address = 0 } ≡ target_answer (told a)
target-refused e = rw e

pub answered : (a : Result ℕ Refusal) {o : Outcome ℕ} {r : TargetAnswer} → r ≡ target_answer (told a) → told a ≡ o → r ≡ target_answer o
answered a e f = e ∙ ap target_answer f

-- targets in rows
module _ (big : Bool) (modes numbers addresses bytes : List ℕ) (i : ℕ) {t : List ℕ} (a : Result ℕ Refusal) (e : t ≡ class_table)
    (f : told a ≡ target_by (class_named (get_or t (get_or modes i 0 % 2048) 0)) big (get_or modes i 0) (get_or numbers i 0) (take (4 * i + 4 - 4 * i) (drop (4 * i) bytes)) (get_or addresses i 0)) where
  row_is : value_of (told a) ≡ row_target big modes numbers addresses bytes i
  unfolding row_target
  row_is =
      let four : 4 * i + 4 - 4 * i ≡ 4 = omega arith in
      ap value_of (rw four at (by-the-table big (get_or modes i 0) (get_or numbers i 0) (take (4 * i + 4 - 4 * i) (drop (4 * i) bytes)) (get_or addresses i 0) e f))

  pub row_at : {v : ℕ} → a ≡ Ok v → v ≡ row_target big modes numbers addresses bytes i
  row_at g = rw g at row_is

  pub row-refused : {r : Refusal} {n : ℕ} → a ≡ Err r → n ≡ r.number → n ≡ row_target big modes numbers addresses bytes i
  row-refused g en = en ∙ (rw g at row_is)

pub put-past : (l : List ℕ) (i v : ℕ) → length l ≤ i → l ≡ set l i v
put-past l i v h = sym (set_out l i v h)

-- the first i rows are answered
pub record Filling (big : Bool) (modes numbers addresses bytes old : List ℕ) (n : ℕ) (out : List ℕ) (i : ℕ) : Type 0 where
  pub count : n ≡ rows_in (length modes) (length numbers) (length addresses) (length bytes) (length old)
  pub within : i ≤ n
  pub targets : out ≡ over (row_target big modes numbers addresses bytes) i old
  pub same : length out ≡ length old

module _ (big : Bool) (modes numbers addresses bytes old : List ℕ) where
  pub fills-none : {n : ℕ} → n ≡ rows_in (length modes) (length numbers) (length addresses) (length bytes) (length old) → Filling big modes numbers addresses bytes old n old 0
  fills-none e = record { count = e; within = omega arith; targets = refl; same = refl }

module _ {big : Bool} {modes numbers addresses bytes old : List ℕ} {n : ℕ} {out : List ℕ} {i : ℕ} (f : Filling big modes numbers addresses bytes old n out i) where
  pub row-there : {t : List ℕ} → t ≡ class_table → i < n → RowThere t modes numbers addresses bytes i
  unfolding rows_in
  row-there e h = let c = f.count in record { classes = e; mode = omega arith; number = omega arith; address = omega arith; four = omega arith }

  room-there : i < n → i < length out
  unfolding rows_in
  room-there h = let c = f.count in omega (arith, f.same)

  pub fills-one-more : {w : ℕ} {out' : List ℕ} → i < n → w ≡ row_target big modes numbers addresses bytes i → out' ≡ set out i w
      → Filling big modes numbers addresses bytes old n out' (i + 1)
  fills-one-more {w} h e g = record {
    count = f.count;
    within = omega arith;
    targets = g ∙ over-step (row_target big modes numbers addresses bytes) i old out w f.targets e (omega (arith, f.same, room-there h));
    same = ap length g ∙ simp length-set f.same;
  }

  pub fills-all : n ≤ i → Rows big modes numbers addresses bytes old n out
  fills-all h = let all : i ≡ n = omega (arith, f.within) in record { count = f.count; targets = rw all at f.targets }

pub ruleset probes = (rules, target_at, target-refused, answered)

pub ruleset rows = (rules, row_at, row-refused, fills-none, row-there, fills-one-more, put-past, fills-all)
