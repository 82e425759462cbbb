-- What the ended reading of a text opens with: the header, its line end, and the records of the lines behind it.
-- Assumes nothing.
use Prim.Native.Nat.{ℕ, zero, suc, ◌+◌}
use mathlib.Core.Path.{◌≡◌, refl, sym, ◌∙◌}
use mathlib.Core.List.{List}
use mathlib.Core.Option.{Option, none, some}
use mathlib.Core.Bool.{true}
use lib.ListN.{drop}
use Rattle.format.specs.Header.{Head, header}
use Rattle.format.specs.Lines.{end_length, lines, lines_of}
use Rattle.format.specs.Outcome.{fine}
use Rattle.format.specs.Records.{records, Parsed, parsed_at, parsed_from, parsed}
use Rattle.laws.proofs.Outcomes.{unlike}

-- the records behind a header whose line end has suc e bytes
unfoldable pub opened : Head → ℕ → List ℕ → Parsed
opened h e text = record {
  form = h.form;
  head = h.next + suc e;
  records = records true h.form (h.next + suc e) (lines (drop (h.next + suc e) text));
}

pub parsed-at : (h : Head) (e : ℕ) (text : List ℕ) → header text ≡ some h → end_length (drop h.next text) ≡ suc e → parsed true text ≡ fine (opened h e text)
unfolding parsed parsed_from parsed_at opened lines_of
parsed-at h e text p q = rw (p, q)

-- what a parsed text has
pub record Opened (text : List ℕ) (p : Parsed) : Type 0 where
  pub h : Head
  pub e : ℕ
  pub is-head : header text ≡ some h
  pub is-end : end_length (drop h.next text) ≡ suc e
  pub same : opened h e text ≡ p

pub opens : (text : List ℕ) (p : Parsed) → parsed true text ≡ fine p → Opened text p
unfolding parsed parsed_from parsed_at
opens text p q = go (header text) refl q
  where
    ends_at : (h : Head) → header text ≡ some h → (e : ℕ) → end_length (drop h.next text) ≡ e → parsed_at true h.form h.next e text ≡ fine p → Opened text p
    ends_at h r zero s u = unlike 4 0 p u
    ends_at h r (suc e) s u =
        let both : fine (opened h e text) ≡ fine p = sym (parsed-at h e text r s) ∙ q in
        record { h = h; e = e; is-head = r; is-end = s; same = cc }

    go : (o : Option Head) → header text ≡ o → parsed_from true o text ≡ fine p → Opened text p
    go none r u = unlike 4 0 p u
    go (some h) r u = ends_at h r (end_length (drop h.next text)) refl u
