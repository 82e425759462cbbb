-- The rows of a text's T and R records stand for those records.
-- Assumes nothing.
use Prim.Native.Nat.{ℕ, suc, ◌+◌, ◌*◌}
use mathlib.Core.Path.{◌≡◌, refl, ap, sym, ◌∙◌}
use mathlib.Core.List.{List, [], ◌∷◌, ◌++◌, append_assoc}
use native.Mathlib.Nat.{add-zero, zero-add}
use native.Mathlib.Numerals.{add-one}
use native.Mathlib.Omega.{arith}
use lib.ListN.{length, get_or, take, drop, length-append}
use lib.Seq.{take-append_seam, drop_at}
use Rattle.format.specs.Lists.{flat}
use Rattle.format.specs.Pairs.{Content, Fragment, Pair, Relocation, placed, skipped}
use Rattle.format.specs.Records.{Taken}
use Rattle.laws.specs.Rows.{from}
use Rattle.laws.proofs.Decoded.{column, first-column, decoded}
use Rattle.record_rows.specs.RecordRows.{all_fragments, content_bytes, content_in, count_in, fragment_columns, fragment_numbers, fragments_of, pair_columns, pair_count, pair_numbers, pair_rows, row_in}
use Rattle.record_parts.specs.Parts.{fragment_from, pair_from, placed_in, placed_of}

three-numbers : (f : Fragment) → length (fragment_numbers f) ≡ fragment_columns
unfolding fragment_numbers
three-numbers f = refl

fragment-back : (pre : List ℕ) (f : Fragment) (post : List ℕ) (i : ℕ) → length pre ≡ fragment_columns * i → fragment_from (pre ++ (fragment_numbers f ++ post)) i ≡ f
unfolding fragment_from fragment_numbers
fragment-back pre f post i e =
    let ys = fragment_numbers f ++ post in
    let c = column pre ys (fragment_columns * i) e in
    λ j. record { mode = first-column pre ys (fragment_columns * i) e j; entry = c 1 j; index = c 2 j }

-- the fragments whose rows stand behind so many others
pub fragments-back : (pre : List ℕ) (fs : List Fragment) (post : List ℕ) (k : ℕ) → length pre ≡ fragment_columns * k → from (fragment_from (pre ++ (flat fragment_numbers fs ++ post))) k (length fs) ≡ fs
fragments-back pre fs post k e = decoded fragment_numbers fragment_columns three-numbers fragment_from fragment-back pre fs post k e

-- the pair whose row, bytes and fragments stand behind those of others
module _ (place b k i : ℕ) (c : Content) (r : Relocation) (P₀ P₁ B₀ B₁ F₀ F₁ : List ℕ) (hp : length P₀ ≡ pair_columns * i) (hb : length B₀ ≡ b) (hf : length F₀ ≡ fragment_columns * k) where
  pub pair-back : pair_from (P₀ ++ (pair_numbers place b k c r ++ P₁)) (B₀ ++ (c.bytes ++ B₁)) (F₀ ++ (flat fragment_numbers r.fragments ++ F₁)) i
      ≡ record { place = place; end = 0; body = placed c r }
  unfolding pair_from pair_numbers
  pair-back =
      let ys = pair_numbers place b k c r ++ P₁ in
      let col = column P₀ ys (pair_columns * i) hp in
      let bytes : take (get_or (P₀ ++ ys) (pair_columns * i + 4) 0) (drop (get_or (P₀ ++ ys) (pair_columns * i + 3) 0) (B₀ ++ (c.bytes ++ B₁))) ≡ c.bytes =
      rw (col 4, col 3, drop_at B₀ (c.bytes ++ B₁) b hb) (take-append_seam c.bytes B₁) in
      let frags : from (fragment_from (F₀ ++ (flat fragment_numbers r.fragments ++ F₁))) (get_or (P₀ ++ ys) (pair_columns * i + 5) 0) (get_or (P₀ ++ ys) (pair_columns * i + 6) 0) ≡ r.fragments =
      rw (col 5, col 6) (fragments-back F₀ r.fragments F₁ k hf) in
      λ j. record {
        place = first-column P₀ ys (pair_columns * i) hp j;
        end = 0;
        body = placed (record { address = col 1 j; bytes = bytes j }) (record { area = col 2 j; fragments = frags j });
      }

-- the rows of pairs, with what stands before and behind
pub record Standing (ps : List (Taken Pair)) (b k i : ℕ) (P B F : List ℕ) : Type 0 where
  pub pairs-before : List ℕ
  pub pairs-behind : List ℕ
  pub content-before : List ℕ
  pub content-behind : List ℕ
  pub fragments-before : List ℕ
  pub fragments-behind : List ℕ
  pub pairs : P ≡ pairs-before ++ (pair_rows b k ps ++ pairs-behind)
  pub content : B ≡ content-before ++ (content_bytes ps ++ content-behind)
  pub fragments : F ≡ fragments-before ++ (flat fragment_numbers (all_fragments ps) ++ fragments-behind)
  pub pairs-at : length pairs-before ≡ pair_columns * i
  pub content-at : length content-before ≡ b
  pub fragments-at : length fragments-before ≡ fragment_columns * k

flat_append : (xs ys : List Fragment) → flat fragment_numbers (xs ++ ys) ≡ flat fragment_numbers xs ++ flat fragment_numbers ys
unfolding flat
flat_append [] ys = refl
flat_append (x ∷ xs) ys = ap (λ (l : List ℕ). fragment_numbers x ++ l) (flat_append xs ys) ∙ sym (append_assoc (fragment_numbers x) (flat fragment_numbers xs) (flat fragment_numbers ys))

flat-length : (xs : List Fragment) → length (flat fragment_numbers xs) ≡ fragment_columns * length xs
unfolding flat fragment_numbers
flat-length [] = refl
flat-length (x ∷ xs) = omega (arith, flat-length xs)

-- one seam moved on
along : (a b c d : List ℕ) → a ++ ((b ++ c) ++ d) ≡ (a ++ b) ++ (c ++ d)
along a b c d = ap (λ (l : List ℕ). a ++ l) (append_assoc b c d) ∙ sym (append_assoc a b (c ++ d))

module _ (p : Taken Pair) (ps : List (Taken Pair)) (b k i : ℕ) {P B F : List ℕ} (s : Standing (p ∷ ps) b k i P B F) where
  -- the rest stands behind the first
  pub standing_on : Standing ps (b + length (content_in p.body)) (k + length (fragments_of p.body)) (i + count_in p.body) P B F
  unfolding pair_rows content_bytes all_fragments pair_numbers
  standing_on = record {
    pairs-before = s.pairs-before ++ row_in p.place b k p.body;
    pairs-behind = s.pairs-behind;
    content-before = s.content-before ++ content_in p.body;
    content-behind = s.content-behind;
    fragments-before = s.fragments-before ++ flat fragment_numbers (fragments_of p.body);
    fragments-behind = s.fragments-behind;
    pairs = s.pairs ∙ along s.pairs-before (row_in p.place b k p.body) _ s.pairs-behind;
    content = s.content ∙ along s.content-before (content_in p.body) (content_bytes ps) s.content-behind;
    fragments = s.fragments
        ∙ (ap (λ (l : List ℕ). s.fragments-before ++ (l ++ s.fragments-behind)) (flat_append (fragments_of p.body) (all_fragments ps))
        ∙ along s.fragments-before (flat fragment_numbers (fragments_of p.body)) (flat fragment_numbers (all_fragments ps)) s.fragments-behind);
    pairs-at = length-append s.pairs-before (row_in p.place b k p.body) ∙ omega (arith, s.pairs-at, row-length p.body);
    content-at = length-append s.content-before (content_in p.body) ∙ omega (arith, s.content-at);
    fragments-at = length-append s.fragments-before (flat fragment_numbers (fragments_of p.body)) ∙ omega (arith, s.fragments-at, flat-length (fragments_of p.body));
  }
    where
      row-length : (x : Pair) → length (row_in p.place b k x) ≡ pair_columns * count_in x
      row-length skipped = refl
      row-length (placed c r) = refl

module _ (place end : ℕ) (c : Content) (r : Relocation) (ps : List (Taken Pair)) (b k i : ℕ) {P B F : List ℕ} (s : Standing (record { place = place; end = end; body = placed c r } ∷ ps) b k i P B F) where
  -- the first of them
  pub first-stands : pair_from P B F i ≡ record { place = place; end = 0; body = placed c r }
  unfolding pair_rows content_bytes all_fragments
  first-stands =
      let rows : P ≡ s.pairs-before ++ (pair_numbers place b k c r ++ (pair_rows (b + length c.bytes) (k + length r.fragments) ps ++ s.pairs-behind)) =
      s.pairs ∙ ap (λ (l : List ℕ). s.pairs-before ++ l) (append_assoc (pair_numbers place b k c r) _ s.pairs-behind) in
      let bytes : B ≡ s.content-before ++ (c.bytes ++ (content_bytes ps ++ s.content-behind)) =
      s.content ∙ ap (λ (l : List ℕ). s.content-before ++ l) (append_assoc c.bytes (content_bytes ps) s.content-behind) in
      let frags : F ≡ s.fragments-before ++ (flat fragment_numbers r.fragments ++ (flat fragment_numbers (all_fragments ps) ++ s.fragments-behind)) =
      s.fragments ∙ ap (λ (l : List ℕ). s.fragments-before ++ l)
      (ap (λ (l : List ℕ). l ++ s.fragments-behind) (flat_append r.fragments (all_fragments ps)) ∙ append_assoc (flat fragment_numbers r.fragments) (flat fragment_numbers (all_fragments ps)) s.fragments-behind) in
      rw (rows, bytes, frags) (pair-back place b k i c r s.pairs-before _ s.content-before _ s.fragments-before _ s.pairs-at s.content-at s.fragments-at)

-- rows that stand for records decode to them
pub rows-stand-for : (ps : List (Taken Pair)) (b k i : ℕ) (P B F : List ℕ) → Standing ps b k i P B F → from (pair_from P B F) i (pair_count ps) ≡ placed_of ps
unfolding from pair_count placed_of
rows-stand-for [] b k i P B F s = refl
rows-stand-for (p ∷ ps) b k i P B F s = go p.place p.end p.body s (rows-stand-for ps _ _ _ P B F (standing_on p ps b k i s))
  where
    go : (place end : ℕ) (x : Pair) → Standing (record { place = place; end = end; body = x } ∷ ps) b k i P B F → from (pair_from P B F) (i + count_in x) (pair_count ps) ≡ placed_of ps
        → from (pair_from P B F) i (count_in x + pair_count ps) ≡ placed_in place x (placed_of ps)
    go place end skipped t h = rw (zero-add, ← add-zero i) h
    go place end (placed c r) t h =
        let z : 1 + pair_count ps ≡ suc (pair_count ps) = omega arith in
        let more : from (pair_from P B F) (suc i) (pair_count ps) ≡ placed_of ps = rw (← add-one) h in
        ap (λ (n : ℕ). from (pair_from P B F) i n) z ∙ (λ j. first-stands place end c r ps b k i t j ∷ more j)
