-- The laws of the exported records and of the exported writer.
-- Assumes nothing.
use Prim.Native.Nat.{ℕ}
use mathlib.Core.Path.{◌≡◌, ap, refl, subst, sym, ◌∙◌}
use mathlib.Core.Bool.{Bool, false, true}
use mathlib.Core.List.{List}
use mathlib.Core.Option.{none, some}
use native.Mathlib.Omega.{arith}
use borrow.Author.Rules.{rules}
use Rattle.std.specs.Prelude.{Option, None, Some}
use Rattle.format.specs.Lists.{pick}
use Rattle.format.specs.Header as the
use Rattle.header.specs.Told.{form_of}
use Rattle.header.specs.declared.Form.{Form}
use Rattle.record_rows.specs.ReadPairs as paper
use Rattle.record_rows.specs.ReadPairs.{HeldPairs, PairsMeet}
use Rattle.row_texts.specs.RowRecords.{Rows}
use Rattle.writer.specs.Writes.{Writes}
use Rattle.pairs_answer.specs.Numbers.{pairs_numbers}
use Rattle.pairs_answer.specs.declared.PairsNumbers.{PairsNumbers}
use Rattle.written_answer.specs.Answer.{Answer, refusal}
use Rattle.written_answer.specs.Numbers.{FormIs, form_for, formed, is_width, written_numbers}
use Rattle.written_answer.specs.declared.WrittenNumbers.{WrittenNumbers}
use Rattle.exports_write.specs.Linked.{Reads, WritesOut}

-- `gatecobalt_read_pairs`
pub reads_so : (text : List ℕ) {old new : HeldPairs} {t : paper.PairsAnswer} {r : PairsNumbers} → PairsMeet text old t new → r ≡ pairs_numbers t → Reads text old r new
reads_so text {old} {new} {t} w e = record { answer = t; meets = w; says = e }

pub ruleset reads = (rules, reads_so)

-- `gatecobalt_write`
module _ {b : Bool} {n : ℕ} {d : Option Form} (e : FormIs b n d) where
  made : (t : Bool) → is_width n ≡ t → formed d ≡ pick t (some (form_for b n)) none
  made t i = e.is ∙ ap (λ (t : Bool). pick t (some (form_for b n)) none) i

  pub no-width : (rows : Rows) (out : List ℕ) → d ≡ None → {r : WrittenNumbers} → r ≡ record { refusal = 15; bytes = 0 } → WritesOut b n rows out r out
  no-width rows out g {r} k = go (is_width n) refl
    where
      go : (t : Bool) → is_width n ≡ t → WritesOut b n rows out r out
      go true i = let z : none ≡ some (form_for b n) = ap formed (sym g) ∙ made true i in let y : ◌≡◌ {A = ℕ} 0 1 = cc in absurd (omega arith)
      go false i = record { answer = refusal 15 0; writes = rw i (refl, refl); says = k }

  pub writes-so : {f : Form} → d ≡ Some f → {rows : Rows} {out out' : List ℕ} {t : Answer} {r : WrittenNumbers} → Writes (form_of f) rows out t out' → r ≡ written_numbers t → WritesOut b n rows out r out'
  writes-so {f} g {rows} {out} {out'} {t} {r} w k = go (is_width n) refl
    where
      go : (u : Bool) → is_width n ≡ u → WritesOut b n rows out r out'
      go true i =
          let z : some (form_of f) ≡ some (form_for b n) = ap formed (sym g) ∙ made true i in
          let y : form_of f ≡ form_for b n = cc in
          record { answer = t; writes = rw i (subst (λ (x : the.Form). Writes x rows out t out') y w); says = k }
      go false i = let z : some (form_of f) ≡ none = ap formed (sym g) ∙ made false i in let y : ◌≡◌ {A = ℕ} 0 1 = cc in absurd (omega arith)

pub ruleset writes = (rules, no-width, writes-so)
