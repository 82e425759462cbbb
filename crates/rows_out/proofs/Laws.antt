-- The law of all lines.
-- Assumes nothing.
use Prim.Native.Nat.{ℕ, ◌<◌, ◌^◌}
use mathlib.Core.Path.{subst}
use mathlib.Core.List.{List, append_assoc}
use lib.ListN.{length}
use borrow.Author.Rules.{rules}
use Rattle.format.specs.Header.{Form}
use Rattle.digits_out.specs.Wrote.{Wrote}
use Rattle.digits_out.proofs.Laws.{then-wrote}
use Rattle.row_texts.specs.RowRecords.{entries_from, lent, records_of}
use Rattle.head_out.specs.HeadOut.{head_out}
use Rattle.entries_out.specs.EntriesOut.{entries_out}
use Rattle.pairs_out.specs.PairsOut.{pairs_out}
use Rattle.rows_out.specs.RowsOut.{all_out}

-- `put_all`
pub all-wrote : (f : Form) (t a : List ℕ) (na : ℕ) (s : List ℕ) (ns : ℕ) (ps : List ℕ) (np : ℕ) (bs fs : List ℕ) {out o₁ o₂ o₃ : List ℕ} {p q r : ℕ} → length out < 2 ^ 64 → Wrote (head_out f) out 0 p o₁
    → Wrote (entries_out (entries_from t a na s 0 0 ns)) o₁ p q o₂ → Wrote (pairs_out f.big f.address_length ps bs fs 0 np) o₂ q r o₃ → Wrote (all_out f (lent t a na s ns ps np bs fs)) out 0 r o₃
unfolding all_out records_of
all-wrote f t a na s ns ps np bs fs {out} {o₁} {o₂} {o₃} {p} {q} {r} h x y z =
    subst (λ (l : List ℕ). Wrote l out 0 r o₃) (append_assoc (head_out f) (entries_out (entries_from t a na s 0 0 ns)) (pairs_out f.big f.address_length ps bs fs 0 np)) (then-wrote h (then-wrote h x y) z)

pub ruleset alls = (rules, all-wrote)
