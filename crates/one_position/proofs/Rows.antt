-- The rows of an accepted text's records: each stands for its pair, which is not refused; and the T and P pairs, which have no row, write nothing.
-- Assumes nothing.
use Prim.Native.Nat.{ℕ, zero, suc, min, ◌+◌, ◌*◌, ◌≤◌, ◌<◌}
use mathlib.Core.Path.{◌≡◌, refl, ap, sym, subst, ◌∙◌}
use mathlib.Core.Bool.{Bool, true, false}
use mathlib.Core.List.{List, [], ◌∷◌, ◌++◌}
use mathlib.Core.Option.{Option, none, some}
use native.Mathlib.Omega.{arith}
use lib.Dec.{eqb, leb}
use lib.ListN.{length, get_or, take, drop, length-append}
use lib.Seq.{append_snoc, get_or-append_seam}
use borrow.Author.Tests.{eqb-true, eqb-false, leb-true}
use Rattle.format.specs.Header.{Form}
use Rattle.format.specs.Outcome.{Outcome, fine, and_then, fold}
use Rattle.format.specs.Pairs.{Content, Pair, Relocation, placed, skipped}
use Rattle.format.specs.Placing.{State, place_at, place_line, place_pair}
use Rattle.format.specs.Records.{Taken}
use Rattle.format.specs.Tables.{Tables, fits, fits_body, rank}
use Rattle.format.specs.WorkLine.{in_line}
use Rattle.laws.specs.Rows.{from}
use Rattle.laws.proofs.Decoded.{column}
use Rattle.laws.proofs.Outcomes.{chain, passed}
use Rattle.order.specs.Writes.{cell_at, writes}
use Rattle.last_writer.specs.LastWriter.{Found, first_of, first_writer, found_by, last_writer}
use Rattle.last_writer.proofs.Image.{last_cons}
use Rattle.record_rows.specs.RecordRows.{content_bytes, content_in, count_in, fragments_of, pair_columns, pair_count, pair_numbers, pair_rows}
use Rattle.record_parts.specs.Parts.{pair_from, placed_in, placed_of}
use Rattle.record_parts.proofs.Decoded.{Standing, standing_on, first-stands}
use Rattle.one_position.specs.Pair.{InLine, Sound, Stands}
use Rattle.one_position.specs.Back.{RowIs, RowsAre, no_pair}

-- ------------------------------------------------------------------ what has no row

first-none : (o : Option Found) → first_of o none ≡ o
first-none none = refl
first-none (some a) = refl

skipped-none : (fm : Form) (t : Tables) (place end i : ℕ) → found_by fm t (record { place = place; end = end; body = skipped }) i ≡ none
unfolding found_by writes cell_at
skipped-none fm t place end i = refl

same-found : (fm : Form) (t : Tables) (place end i : ℕ) (x : Pair) → found_by fm t (record { place = place; end = 0; body = x }) i ≡ found_by fm t (record { place = place; end = end; body = x }) i
unfolding found_by writes
same-found fm t place end i x = refl

-- it writes nothing, and where a record ends does not matter
pub placed-last : (fm : Form) (t : Tables) (ps : List (Taken Pair)) (i : ℕ) → last_writer fm t (placed_of ps) i ≡ last_writer fm t ps i
unfolding placed_of
placed-last fm t [] i = refl
placed-last fm t (p ∷ ps) i = go p.place p.end p.body (placed-last fm t ps i)
  where
    go : (place end : ℕ) (x : Pair) → last_writer fm t (placed_of ps) i ≡ last_writer fm t ps i
        → last_writer fm t (placed_in place x (placed_of ps)) i ≡ last_writer fm t (record { place = place; end = end; body = x } ∷ ps) i
    go place end skipped ih =
        ih ∙ sym (last_cons fm t (record { place = place; end = end; body = skipped }) ps i ∙ (ap (first_of (last_writer fm t ps i)) (skipped-none fm t place end i) ∙ first-none (last_writer fm t ps i)))
    go place end (placed c r) ih =
        last_cons fm t (record { place = place; end = 0; body = placed c r }) (placed_of ps) i
        ∙ (ap (λ (o : Option Found). first_of o (found_by fm t (record { place = place; end = 0; body = placed c r }) i)) ih
        ∙ (ap (first_of (last_writer fm t ps i)) (same-found fm t place end i (placed c r))
        ∙ sym (last_cons fm t (record { place = place; end = end; body = placed c r }) ps i)))

-- ------------------------------------------------------------------ no pair is refused

abbrev pub SoundBody : Form → Tables → ℕ → Pair → Type 0
SoundBody fm t place skipped = Unit {0}
SoundBody fm t place (placed c r) = Sound fm t place c r

abbrev pub AllSound : Form → Tables → List (Taken Pair) → Type 0
AllSound fm t [] = Unit {0}
AllSound fm t (p ∷ ps) = SoundBody fm t p.place p.body × AllSound fm t ps

-- ------------------------------------------------------------------ each row

module _ (fm : Form) (t : Tables) (P B F : List ℕ) where
  -- the first pair's row
  here : (place end : ℕ) (c : Content) (r : Relocation) (ps : List (Taken Pair)) (b k i : ℕ) → Standing (record { place = place; end = end; body = placed c r } ∷ ps) b k i P B F
      → Stands P B F (pair_columns * i) place c r
  unfolding pair_rows pair_numbers content_bytes
  here place end c r ps b k i s =
      let ys = (pair_numbers place b k c r ++ pair_rows (b + length c.bytes) (k + length r.fragments) ps) ++ s.pairs-behind in
      let col : (n : ℕ) → get_or P (pair_columns * i + n) 0 ≡ get_or ys n 0 = λ n. ap (λ (x : List ℕ). get_or x (pair_columns * i + n) 0) s.pairs ∙ column s.pairs-before ys (pair_columns * i) s.pairs-at n in
      let long : length B ≡ length s.content-before + ((length c.bytes + length (content_bytes ps)) + length s.content-behind) =
      ap length s.content ∙ (length-append s.content-before ((c.bytes ++ content_bytes ps) ++ s.content-behind)
      ∙ ap (λ (n : ℕ). length s.content-before + n) (length-append (c.bytes ++ content_bytes ps) s.content-behind ∙ ap (λ (n : ℕ). n + length s.content-behind) (length-append c.bytes (content_bytes ps)))) in
      record {
        index = i;
        row = refl;
        pair = first-stands place end c r ps b k i s;
        inside = omega (arith, col 3, col 4, long, s.content-at);
        counted = col 4;
      }

  row_here : (place end : ℕ) (c : Content) (r : Relocation) (ps : List (Taken Pair)) (b k i n : ℕ) → Standing (record { place = place; end = end; body = placed c r } ∷ ps) b k i P B F → Sound fm t place c r
      → (before rest : List (Taken Pair)) → length before ≡ i → n ≡ i → RowIs fm t P B F (before ++ record { place = place; end = 0; body = placed c r } ∷ rest) n
  row_here place end c r ps b k i n s a before rest l e = record {
    place = place;
    content-is = c;
    relocation = r;
    is = ap (λ (m : ℕ). get_or (before ++ record { place = place; end = 0; body = placed c r } ∷ rest) m no_pair) (e ∙ sym l) ∙ get_or-append_seam before (record { place = place; end = 0; body = placed c r }) rest no_pair;
    stands = rw e (here place end c r ps b k i s);
    sound = a;
  }

  -- the n-th row, where i rows stand before those of the pairs
  pub each_row : (ps : List (Taken Pair)) (b k i : ℕ) → Standing ps b k i P B F → AllSound fm t ps → (before : List (Taken Pair)) → length before ≡ i → (n : ℕ) → i ≤ n → n < i + pair_count ps
      → RowIs fm t P B F (before ++ placed_of ps) n
  unfolding pair_count placed_of
  each_row [] b k i s a before l n low high = let z : ⊥ = omega arith in absurd z
  each_row (p ∷ ps) b k i s a before l n low high =
      go p.place p.end p.body s a.0 high (λ bs m e x y z. each_row ps (b + length (content_in p.body)) (k + length (fragments_of p.body)) m (subst (λ (u : ℕ). Standing ps (b + length (content_in p.body)) (k + length (fragments_of p.body)) u P B F) e (standing_on p ps b k i s)) a.1 bs x n y z)
    where
      go : (place end : ℕ) (x : Pair) → Standing (record { place = place; end = end; body = x } ∷ ps) b k i P B F → SoundBody fm t place x → n < i + (count_in x + pair_count ps)
          → ((bs : List (Taken Pair)) (m : ℕ) → i + count_in x ≡ m → length bs ≡ m → m ≤ n → n < m + pair_count ps → RowIs fm t P B F (bs ++ placed_of ps) n)
          → RowIs fm t P B F (before ++ placed_in place x (placed_of ps)) n
      go place end skipped s' a' h ih = ih before (i + 0) refl (omega arith) (omega arith) (omega arith)
      go place end (placed c r) s' a' h ih = at (eqb n i) refl
        where
          q : Taken Pair
          q = record { place = place; end = 0; body = placed c r }

          at : (u : Bool) → eqb n i ≡ u → RowIs fm t P B F (before ++ q ∷ placed_of ps) n
          at true e = row_here place end c r ps b k i n s' a' before (placed_of ps) l (eqb-true n i e)
          at false e =
              let later : i < n = omega (arith, eqb-false n i e) in
              subst (λ (qs : List (Taken Pair)). RowIs fm t P B F qs n) (append_snoc before q (placed_of ps))
              (ih (before ++ q ∷ []) (i + 1) refl (length-append before (q ∷ []) ∙ omega arith) (omega arith) (omega arith))

-- ------------------------------------------------------------------ all rows of a text's records

as_many : (qs : List (Taken Pair)) → length (placed_of qs) ≡ pair_count qs
unfolding placed_of pair_count
as_many [] = refl
as_many (q ∷ qs) = go q.place q.body (as_many qs)
  where
    go : (place : ℕ) (x : Pair) → length (placed_of qs) ≡ pair_count qs → length (placed_in place x (placed_of qs)) ≡ count_in x + pair_count qs
    go place skipped e = omega arith
    go place (placed c r) e = omega arith

pub rows_are : (fm : Form) (t : Tables) (ps : List (Taken Pair)) (P B F : List ℕ) → Standing ps 0 0 0 P B F → AllSound fm t ps → RowsAre fm t P B F (pair_count ps) (placed_of ps)
rows_are fm t ps P B F s a = record {
  many = as_many ps;
  each = λ n h. each_row fm t P B F ps 0 0 0 s a [] refl n (omega arith) (omega arith);
}

-- ------------------------------------------------------------------ a text that is accepted has only sound pairs

in-line : (fm : Form) (t : Tables) (place end : ℕ) (c : Content) (r : Relocation) (s u : State) → place_pair fm t s (record { place = place; end = end; body = placed c r }) ≡ fine u
    → (id : ℕ) → rank 0 t.areas r.area ≡ some id → InLine fm place c r
unfolding place_pair place_line place_at
in-line fm t place end c r s u h id k =
    let g : place_line fm t place id c r s ≡ fine u = rw k at h in
    let x = chain (fold (in_line fm.address_length (length c.bytes) place) 0 r.fragments) _ u g in
    record { many = x.value; is = x.first }

pub all_sound : (fm : Form) (t : Tables) (ps : List (Taken Pair)) (m n : ℕ) (s u : State) → fold fits m ps ≡ fine n → fold (place_pair fm t) s ps ≡ fine u → AllSound fm t ps
unfolding fold fits
all_sound fm t [] m n s u f g = tt
all_sound fm t (p ∷ ps) m n s u f g =
    let k = chain (fits m p) (λ k. fold fits k ps) n f in
    let l = chain (place_pair fm t s p) (λ v. fold (place_pair fm t) v ps) u g in
    (one p.place p.end p.body k.value k.first l.value l.first, all_sound fm t ps k.value n l.value u k.second l.second)
  where
    one : (place end : ℕ) (x : Pair) (a : ℕ) → fits_body m place x ≡ fine a → (v : State) → place_pair fm t s (record { place = place; end = end; body = x }) ≡ fine v → SoundBody fm t place x
    one place end skipped a e v h = tt
    one place end (placed c r) a e v h =
        let few = passed (leb (length c.bytes) 256) _ 7 place a e in
        let fewer = passed (leb (length r.fragments) 64) _ 8 place a few.1 in
        record {
          few_bytes = leb-true (length c.bytes) 256 few.0;
          few-fragments = leb-true (length r.fragments) 64 fewer.0;
          in-line = in-line fm t place end c r s v h;
        }
