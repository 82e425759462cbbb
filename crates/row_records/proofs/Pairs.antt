-- The rows of T and R records, as the writer takes them, stand for those records.
-- Assumes nothing.
use Prim.Native.Nat.{suc, ℕ, ◌*◌, ◌+◌, ◌-◌, ◌<◌, ◌≤◌}
use mathlib.Core.Path.{◌≡◌, ap, refl, ◌∙◌}
use mathlib.Core.Bool.{Bool, false, true}
use mathlib.Core.List.{List, [], append_assoc, ◌++◌, ◌∷◌}
use native.Mathlib.Nat.{add-zero, zero-add}
use native.Mathlib.Numerals.{add-one}
use native.Mathlib.Omega.{arith}
use lib.ListN.{drop, get_or, length, length-append, take}
use lib.Dec.{eqb}
use borrow.Author.Tests.{eqb-false, eqb-true}
use Rattle.format.specs.Lists.{flat}
use Rattle.format.specs.Pairs.{Content, Fragment, Pair, Relocation, placed, skipped}
use Rattle.format.specs.Records.{Taken}
use Rattle.laws.specs.Rows.{from}
use Rattle.laws.proofs.Decoded.{column}
use Rattle.laws.proofs.Room.{flat-length}
use Rattle.record_rows.specs.RecordRows.{all_fragments, content_bytes, count_in, fragment_numbers, pair_count, pair_numbers, pair_rows}
use Rattle.record_parts.specs.Parts.{fragment_from, pair_from}
use Rattle.record_parts.proofs.Decoded.{Standing, first-stands, standing_on}
use Rattle.relocation_out.specs.RelocationOut.{row_at}
use Rattle.written.specs.Named.{NamedPair, collected, cons_option, pair_named, taken_pair}
use Rattle.row_parts.specs.Parts.{part_of}
use Rattle.row_texts.specs.RowRecords.{pair_at}
use Rattle.row_records.proofs.Entries.{part-is}

three : (f : Fragment) → length (fragment_numbers f) ≡ 3
unfolding fragment_numbers
three f = refl

module _ (place end : ℕ) (c : Content) (r : Relocation) (ps : List (Taken Pair)) (b k i : ℕ) {P B F : List ℕ} (s : Standing (record { place = place; end = end; body = placed c r } ∷ ps) b k i P B F) where
  abbrev behind : List ℕ
  behind = pair_rows (b + length c.bytes) (k + length r.fragments) ps ++ s.pairs-behind

  rows : P ≡ s.pairs-before ++ (pair_numbers place b k c r ++ behind)
  unfolding pair_rows
  rows = s.pairs ∙ ap (λ (l : List ℕ). s.pairs-before ++ l) (append_assoc (pair_numbers place b k c r) _ s.pairs-behind)

  start : get_or P (7 * i + 3) 0 ≡ b
  unfolding pair_numbers
  start = ap (λ (x : List ℕ). get_or x (7 * i + 3) 0) rows ∙ column s.pairs-before (pair_numbers place b k c r ++ behind) (7 * i) s.pairs-at 3

  many : get_or P (7 * i + 4) 0 ≡ length c.bytes
  unfolding pair_numbers
  many = ap (λ (x : List ℕ). get_or x (7 * i + 4) 0) rows ∙ column s.pairs-before (pair_numbers place b k c r ++ behind) (7 * i) s.pairs-at 4

  long : b + length c.bytes ≤ length B
  unfolding content_bytes
  long =
      let e : length B ≡ length s.content-before + ((length c.bytes + length (content_bytes ps)) + length s.content-behind) =
      ap length s.content ∙ (length-append s.content-before ((c.bytes ++ content_bytes ps) ++ s.content-behind)
      ∙ ap (λ (m : ℕ). length s.content-before + m) (length-append (c.bytes ++ content_bytes ps) s.content-behind ∙ ap (λ (m : ℕ). m + length s.content-behind) (length-append c.bytes (content_bytes ps)))) in
      omega (arith, e, s.content-at)

  first : get_or P (7 * i + 5) 0 ≡ k
  unfolding pair_numbers
  first = ap (λ (x : List ℕ). get_or x (7 * i + 5) 0) rows ∙ column s.pairs-before (pair_numbers place b k c r ++ behind) (7 * i) s.pairs-at 5

  few : get_or P (7 * i + 6) 0 ≡ length r.fragments
  unfolding pair_numbers
  few = ap (λ (x : List ℕ). get_or x (7 * i + 6) 0) rows ∙ column s.pairs-before (pair_numbers place b k c r ++ behind) (7 * i) s.pairs-at 6

  wide : 3 * (k + length r.fragments) ≤ length F
  unfolding all_fragments
  wide =
      let e : length F ≡ length s.fragments-before + (length (flat fragment_numbers (r.fragments ++ all_fragments ps)) + length s.fragments-behind) =
      ap length s.fragments ∙ (length-append s.fragments-before (flat fragment_numbers (r.fragments ++ all_fragments ps) ++ s.fragments-behind)
      ∙ ap (λ (m : ℕ). length s.fragments-before + m) (length-append (flat fragment_numbers (r.fragments ++ all_fragments ps)) s.fragments-behind)) in
      let n = flat-length fragment_numbers 3 three (r.fragments ++ all_fragments ps) in
      omega (arith, e, n, length-append r.fragments (all_fragments ps), s.fragments-at)

  -- what the first row points to lies in the buffers
  pub pair_inside : (get_or P (7 * i + 3) 0 + get_or P (7 * i + 4) 0 ≤ length B) × (3 * (get_or P (7 * i + 5) 0 + get_or P (7 * i + 6) 0) ≤ length F)
  pair_inside = (omega (arith, start, many, long), omega (arith, first, few, wide))

  bytes : part_of B (get_or P (7 * i + 3) 0) (get_or P (7 * i + 4) 0) ≡ take (get_or P (7 * i + 4) 0) (drop (get_or P (7 * i + 3) 0) B)
  bytes = part-is B (get_or P (7 * i + 3) 0) (get_or P (7 * i + 4) 0) (omega (arith, start, many, long))

  -- a record's two parts
  parts : Pair → NamedPair
  parts skipped = record { content = c; relocation = r }
  parts (placed d q) = record { content = d; relocation = q }

  pub pair-stands : pair_at P B F i ≡ record { content = c; relocation = r }
  unfolding pair_at pair_from row_at fragment_from parts
  pair-stands =
      ap (λ (x : List ℕ). record { content = record { address = get_or P (7 * i + 1) 0; bytes = x }; relocation = record { area = get_or P (7 * i + 2) 0; fragments = from (row_at F) (get_or P (7 * i + 5) 0) (get_or P (7 * i + 6) 0) } }) bytes
      ∙ ap (λ (t : Taken Pair). parts t.body) (first-stands place end c r ps b k i s)

pub pairs-stand : (ps : List (Taken Pair)) (b k i : ℕ) (P B F : List ℕ) → Standing ps b k i P B F → from (pair_at P B F) i (pair_count ps) ≡ collected taken_pair ps
unfolding from pair_count collected
pairs-stand [] b k i P B F s = refl
pairs-stand (p ∷ ps) b k i P B F s = go p.place p.end p.body s (pairs-stand ps _ _ _ P B F (standing_on p ps b k i s))
  where
    go : (place end : ℕ) (x : Pair) → Standing (record { place = place; end = end; body = x } ∷ ps) b k i P B F → from (pair_at P B F) (i + count_in x) (pair_count ps) ≡ collected taken_pair ps
        → from (pair_at P B F) i (count_in x + pair_count ps) ≡ cons_option (pair_named x) (collected taken_pair ps)
    go place end skipped t h = rw (zero-add, ← add-zero i) h
    go place end (placed c r) t h =
        let z : 1 + pair_count ps ≡ suc (pair_count ps) = omega arith in
        let y : from (pair_at P B F) (suc i) (pair_count ps) ≡ collected taken_pair ps = rw (← add-one) h in
        ap (λ (m : ℕ). from (pair_at P B F) i m) z ∙ (λ j. pair-stands place end c r ps b k i t j ∷ y j)

-- all that the rows point to lies in the buffers
pub pairs-inside : (ps : List (Taken Pair)) (b k i : ℕ) (P B F : List ℕ) → Standing ps b k i P B F → (j : ℕ) → i ≤ j → j < i + pair_count ps
    → (get_or P (7 * j + 3) 0 + get_or P (7 * j + 4) 0 ≤ length B) × (3 * (get_or P (7 * j + 5) 0 + get_or P (7 * j + 6) 0) ≤ length F)
unfolding pair_count
pairs-inside [] b k i P B F s j l u = let y : ⊥ = omega arith in absurd y
pairs-inside (p ∷ ps) b k i P B F s j l u = go p.place p.end p.body s u (λ v w. pairs-inside ps _ _ _ P B F (standing_on p ps b k i s) j v w)
  where
    go : (place end : ℕ) (x : Pair) → Standing (record { place = place; end = end; body = x } ∷ ps) b k i P B F → j < i + (count_in x + pair_count ps)
        → (i + count_in x ≤ j → j < i + count_in x + pair_count ps → (get_or P (7 * j + 3) 0 + get_or P (7 * j + 4) 0 ≤ length B) × (3 * (get_or P (7 * j + 5) 0 + get_or P (7 * j + 6) 0) ≤ length F))
        → (get_or P (7 * j + 3) 0 + get_or P (7 * j + 4) 0 ≤ length B) × (3 * (get_or P (7 * j + 5) 0 + get_or P (7 * j + 6) 0) ≤ length F)
    go place end skipped t v more = more (omega arith) (omega arith)
    go place end (placed c r) t v more = here (eqb j i) refl
      where
        here : (q : Bool) → eqb j i ≡ q → (get_or P (7 * j + 3) 0 + get_or P (7 * j + 4) 0 ≤ length B) × (3 * (get_or P (7 * j + 5) 0 + get_or P (7 * j + 6) 0) ≤ length F)
        here true e = rw (eqb-true j i e) (pair_inside place end c r ps b k i t)
        here false e = let d = eqb-false j i e in more (apart d) (omega arith)
          where
            apart : (j ≡ i → ⊥) → i + 1 ≤ j
            apart d = omega (arith, d)
