-- All lines of rows that can be written are the text of `written`.
-- Assumes nothing.
use Prim.Native.Nat.{suc, zero, ℕ}
use mathlib.Core.Path.{◌≡◌, ap, refl, sym, ◌∙◌}
use mathlib.Core.Bool.{Bool}
use mathlib.Core.List.{List, [], append_assoc, ◌++◌, ◌∷◌}
use Rattle.format.specs.Lists.{flat}
use Rattle.format.specs.Header.{Form}
use Rattle.laws.specs.Rows.{from}
use Rattle.manual.specs.Each.{Each}
use Rattle.manual.specs.Specifier.{write_specifier}
use Rattle.written.specs.Named.{NamedEntry, NamedPair, named_area, named_symbol}
use Rattle.written.specs.Writing.{Good, GoodPair, content_text, entry_text, hex_of, line_ended, line_texts, pair_texts, relocation_text, written, written_by}
use Rattle.header.specs.Told.{more_of}
use Rattle.header.specs.declared.Width.{Width}
use Rattle.entry_out.proofs.Laws.{area-of-any-form, symbol-of-any-form}
use Rattle.content_out.proofs.Laws.{content-of-form}
use Rattle.relocation_out.proofs.Laws.{relocation-of-form}
use Rattle.row_texts.specs.RowRecords.{Rows, pair_at, records_of, text_of}
use Rattle.head_out.specs.HeadOut.{head_out}
use Rattle.entries_out.specs.EntriesOut.{entries_out, entry_line}
use Rattle.pairs_out.specs.PairsOut.{pair_out, pairs_out}
use Rattle.rows_out.specs.RowsOut.{all_out}

entry-same : (f : Form) (e : NamedEntry) → entry_line e ≡ line_ended (entry_text (hex_of f) e)
entry-same f (named_area name z g a) = area-of-any-form f name z g a
entry-same f (named_symbol name r v) = symbol-of-any-form f name r v

entries-same : (f : Form) (es : List NamedEntry) (ps : List NamedPair) (x : List ℕ) → x ≡ flat line_ended (pair_texts (hex_of f) ps) → entries_out es ++ x ≡ flat line_ended (line_texts (hex_of f) es ps)
unfolding entries_out flat line_texts
entries-same f [] ps x h = h
entries-same f (e ∷ es) ps x h =
    append_assoc (entry_line e) (entries_out es) x
    ∙ (ap (λ (l : List ℕ). l ++ (entries_out es ++ x)) (entry-same f e) ∙ ap (λ (l : List ℕ). line_ended (entry_text (hex_of f) e) ++ l) (entries-same f es ps x h))

module _ (x : ℕ) (b : Bool) (w : Width) (ps bs fs : List ℕ) where
  abbrev F : Form
  F = record { radix = x; big = b; address_length = suc (more_of w) }

  abbrev P : ℕ → NamedPair
  P i = pair_at ps bs fs i

  pair_same : (i : ℕ) → GoodPair (suc (more_of w)) (P i) → pair_out b (suc (more_of w)) ps bs fs i ≡ line_ended (content_text (hex_of F) (P i)) ++ line_ended (relocation_text (hex_of F) (P i))
  unfolding pair_out pair_at
  pair_same i h =
      let one = content-of-form x b w (P i) h.bytes in
      let two = relocation-of-form F fs _ _ (P i) refl h.fragments in
      rw (← one, ← two)

  pairs-same : (i n : ℕ) → Each (GoodPair (suc (more_of w))) (from P i n) → pairs_out b (suc (more_of w)) ps bs fs i n ≡ flat line_ended (pair_texts (hex_of F) (from P i n))
  unfolding pairs_out from flat pair_texts
  pairs-same i zero h = refl
  pairs-same i (suc n) h =
      ap (λ (l : List ℕ). l ++ pairs_out b (suc (more_of w)) ps bs fs (suc i) n) (pair_same i h.0)
      ∙ (append_assoc (line_ended (content_text (hex_of F) (P i))) (line_ended (relocation_text (hex_of F) (P i))) (pairs_out b (suc (more_of w)) ps bs fs (suc i) n)
      ∙ ap (λ (l : List ℕ). line_ended (content_text (hex_of F) (P i)) ++ (line_ended (relocation_text (hex_of F) (P i)) ++ l)) (pairs-same (suc i) n h.1))

pub all-is-text : (x : ℕ) (b : Bool) (w : Width) (r : Rows) → Good (record { radix = x; big = b; address_length = suc (more_of w) }) (records_of r)
    → all_out (record { radix = x; big = b; address_length = suc (more_of w) }) r ≡ text_of (record { radix = x; big = b; address_length = suc (more_of w) }) r
unfolding all_out text_of written written_by head_out flat records_of
all-is-text x b w r g =
    let f : Form = record { radix = x; big = b; address_length = suc (more_of w) } in
    ap (λ (l : List ℕ). line_ended (write_specifier (hex_of f)) ++ l)
    (entries-same f (records_of r).entries (records_of r).pairs _ (pairs-same x b w r.pairs r.content r.fragments 0 r.pair_count g.pairs))
