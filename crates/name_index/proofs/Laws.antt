-- The laws of the loops over names, and of what is noted.
-- Assumes nothing.
use Prim.Native.Nat.{ℕ, suc, ◌+◌, ◌*◌, ◌%◌, ◌-◌, ◌<◌, ◌≤◌}
use mathlib.Core.Path.{◌≡◌, refl, ap, sym, ◌∙◌}
use mathlib.Core.Bool.{Bool, true, false}
use mathlib.Core.List.{List, [], ◌∷◌}
use mathlib.Core.Logic.{◌⊎◌, inl, inr}
use native.Mathlib.Omega.{arith}
use native.Mathlib.Numerals.{add-one}
use lib.ListN.{length, take, drop, get_or, set, drop_of_length-le, length-drop, length-set}
use lib.Dec.{eqb, leb}
use lib.Seq.{drop-cons, length-take-le}
use borrow.Author.Rules.{rules}
use borrow.Author.Tests.{eq-eqb, ne_eqb, le-leb, leb-true, lt-leb}
use Rattle.std.specs.Prelude.{slice_range}
use Rattle.format.specs.Lists.{pick}
use Rattle.laws.specs.Rows.{symbol_at}
use Rattle.row_parts.specs.Parts.{name_in, part_of}
use Rattle.symbol_rows.proofs.Symbols.{symbol-name}
use Rattle.difference.specs.Module.{same_numbers}
use Rattle.alike.specs.Looked.{first_of}
use Rattle.alike.proofs.Names.{name-length}
use Rattle.alike.proofs.Looked.{look-start, look-end, look-found, look-more}
use Rattle.name_index.specs.Index.{found_in, hash_from, hash_of, index_from, indexed, name_at, named_at, noted}

-- `hash`
pub record Hashing (name : List ℕ) (h i : ℕ) : Type 0 where
  pub within : i ≤ length name
  pub low : h < 4096
  pub rest : hash_of name ≡ hash_from h (drop i name)

pub hash-start : (name : List ℕ) → Hashing name 0 0
unfolding hash_of
hash-start name = record { within = omega arith; low = omega arith; rest = refl }

module _ {name : List ℕ} {h i : ℕ} (w : Hashing name h i) where
  pub hash-end : length name ≤ i → h ≡ hash_of name
  unfolding hash_from
  hash-end l = let p : drop i name ≡ [] = drop_of_length-le name l in sym (w.rest ∙ rw p)

  pub hash-more : i < length name → {b : ℕ} → (b ≡ get_or name i 0) × (b < 256) → Hashing name ((h * 31 + b) % 4096) (i + 1)
  unfolding hash_from
  hash-more l {b} f =
      let p : drop i name ≡ get_or name i 0 ∷ drop (suc i) name = drop-cons name i 0 l in
      record { within = omega arith; low = omega arith; rest = w.rest ∙ (ap (hash_from h) p ∙ rw (f.0, add-one)) }

pub ruleset hashes = (rules, hash-start, hash-end, hash-more)

-- `note`, `note_symbol`
module _ (index : List ℕ) (place v : ℕ) {x : ℕ} (e : x ≡ get_or index place 0) where
  pub note-free : x ≡ 0 → {after : List ℕ} → after ≡ set index place v → after ≡ noted index place v
  unfolding noted
  note-free f g = rw (eq-eqb (get_or index place 0) 0 (sym e ∙ f)) g

  pub note-taken : (x ≡ 0 → ⊥) → index ≡ noted index place v
  unfolding noted
  note-taken f = rw (ne_eqb (get_or index place 0) 0 (λ g. f (e ∙ g)))

module _ (text symbols index : List ℕ) (j : ℕ) {name : List ℕ} (e : name ≡ name_in text (symbol_at symbols j).name) {h : ℕ} (f : h ≡ hash_of name) where
  pub note-at : {after : List ℕ} → after ≡ noted index h (j + 1) → after ≡ noted index (hash_of (name_at text symbols j)) (suc j)
  unfolding name_at
  note-at g = g ∙ (ap (λ (x : ℕ). noted index x (j + 1)) (f ∙ ap hash_of e) ∙ rw add-one)

long-with : (b : Bool) (index : List ℕ) (place v : ℕ) → length (pick b (set index place v) index) ≡ length index
long-with true index place v = length-set index place v
long-with false index place v = refl

noted-long : (index : List ℕ) (place v : ℕ) → length (noted index place v) ≡ length index
unfolding noted
noted-long index place v = long-with (eqb (get_or index place 0) 0) index place v

-- `note_all`, `index_names`
pub record Noting (text symbols first index : List ℕ) (n j : ℕ) : Type 0 where
  pub within : j ≤ n
  pub long : length index ≡ length first
  pub rest : index_from text symbols first 0 n ≡ index_from text symbols index j (n - j)

pub noting-start : (text symbols index : List ℕ) (n : ℕ) → Noting text symbols index index n 0
noting-start text symbols index n = record { within = omega arith; long = refl; rest = ap (index_from text symbols index 0) (omega arith) }

module _ {text symbols first index : List ℕ} {n j : ℕ} (w : Noting text symbols first index n j) where
  pub noting-end : n ≤ j → index ≡ index_from text symbols first 0 n
  unfolding index_from
  noting-end h = let z : n - j ≡ 0 = omega arith in sym (w.rest ∙ rw z)

  pub noting-more : j < n → {after : List ℕ} → after ≡ noted index (hash_of (name_at text symbols j)) (suc j) → Noting text symbols first after n (j + 1)
  unfolding index_from
  noting-more h {after} e =
      let z : n - j ≡ suc (n - suc j) = omega arith in
      record {
        within = omega arith;
        long = ap length e ∙ (noted-long index (hash_of (name_at text symbols j)) (suc j) ∙ w.long);
        rest = w.rest ∙ (ap (λ (m : ℕ). index_from text symbols index j m) z ∙ rw (e, add-one));
      }

module _ (text symbols index : List ℕ) (n : ℕ) where
  pub index-many : 65536 < n → index ≡ indexed text symbols n index
  unfolding indexed
  index-many h = rw (lt-leb n 65536 h)

  pub index-few : n ≤ 65536 → {after : List ℕ} → after ≡ index_from text symbols index 0 n → after ≡ indexed text symbols n index
  unfolding indexed
  index-few h e = rw (le-leb n 65536 h) e

pub ruleset notes = (rules, note-free, note-taken, note-at, noting-start, noting-end, noting-more, index-many, index-few)

-- `named`, `searched`
pub named-is : (name text symbols : List ℕ) (j : ℕ) {other : List ℕ} → other ≡ name_in text (symbol_at symbols j).name → {r : Bool} → r ≡ same_numbers name other → r ≡ named_at name text symbols j
unfolding named_at name_at
named-is name text symbols j e f = f ∙ rw e

part-long : (s : List ℕ) (start n : ℕ) → (length (part_of s start n) ≡ 0 → ⊥) → length (part_of s start n) ≡ n
unfolding part_of
part-long s start n h = by-start (leb start (length s)) h
  where
    by-length : (b : Bool) → leb n (length s - start) ≡ b → (length (pick b (take n (drop start s)) []) ≡ 0 → ⊥) → length (pick b (take n (drop start s)) []) ≡ n
    by-length true e g = length-take-le n (drop start s) (omega (arith, length-drop start s, leb-true n (length s - start) e))
    by-length false e g = absurd (g refl)

    by-start : (b : Bool) → (length (pick b (pick (leb n (length s - start)) (take n (drop start s)) []) []) ≡ 0 → ⊥) → length (pick b (pick (leb n (length s - start)) (take n (drop start s)) []) []) ≡ n
    by-start true g = by-length (leb n (length s - start)) refl g
    by-start false g = absurd (g refl)

-- a name of another length
pub lengths-apart : (name text symbols : List ℕ) (j : ℕ) {x n : ℕ} → x ≡ get_or symbols (5 * j + 1) 0 → n ≡ x → (length name ≡ n → ⊥) → (length name ≡ 0 → ⊥) → false ≡ named_at name text symbols j
unfolding named_at name_at symbol_at
lengths-apart name text symbols j {x} {n} e f g h =
    let start = get_or symbols (5 * j) 0 in
    let len = get_or symbols (5 * j + 1) 0 in
    name-length name (part_of text start len) (λ k. g (k ∙ (part-long text start len (λ z. h (k ∙ z)) ∙ sym (f ∙ e))))

-- a name by its bytes in the text, where they fit
fits-part : (t : List ℕ) (start n : ℕ) → start + n ≤ length t → slice_range t start (start + n) ≡ part_of t start n
unfolding part_of
fits-part t start n h =
    let z : start + n - start ≡ n = omega arith in
    ap (λ (m : ℕ). take m (drop start t)) z ∙ sym (rw (le-leb start (length t) (omega arith), le-leb n (length t - start) (omega arith)))

over-part : (t : List ℕ) (start n : ℕ) → length t < start + n → [] ≡ part_of t start n
unfolding part_of
over-part t start n h = by-start (leb start (length t)) refl
  where
    by-start : (b : Bool) → leb start (length t) ≡ b → [] ≡ pick b (pick (leb n (length t - start)) (take n (drop start t)) []) []
    by-start true e = sym (ap (λ (c : Bool). pick c (take n (drop start t)) []) (lt-leb n (length t - start) (omega (arith, leb-true start (length t) e))))
    by-start false e = refl

module _ (name text symbols : List ℕ) (j : ℕ) {x start y n : ℕ} (a : x ≡ get_or symbols (5 * j + 0) 0) (b : start ≡ x) (c : y ≡ get_or symbols (5 * j + 1) 0) (d : n ≡ y) where
  pub named-fits : start + n ≤ length text → {there : List ℕ} → there ≡ slice_range text start (start + n) → {r : Bool} → r ≡ same_numbers name there → r ≡ named_at name text symbols j
  named-fits h e f = named-is name text symbols j (symbol-name symbols j text a b c d (e ∙ fits-part text start n h)) f

  pub named-over : (start + n < start) ⊎ (length text < start + n) → {r : Bool} → r ≡ eqb (length name) 0 → r ≡ named_at name text symbols j
  unfolding same_numbers
  named-over (inl h) e = absurd (omega arith)
  named-over (inr h) e = named-is name text symbols j (symbol-name symbols j text a b c d (over-part text start n h)) (e ∙ none name)
    where
      none : (l : List ℕ) → eqb (length l) 0 ≡ same_numbers l []
      none [] = refl
      none (x ∷ xs) = ne_eqb (length (x ∷ xs)) 0 (λ z. omega (arith, z))

pub ruleset searches = (rules, lengths-apart, named-fits, named-over, named-is, look-start, look-end, look-found, look-more)

-- `first_named`
module _ (name text symbols : List ℕ) (n : ℕ) (index : List ℕ) {h x y : ℕ} (e : h ≡ hash_of name) (f : x ≡ get_or index h 0) (g : y ≡ x) where
  noted-is : y ≡ get_or index (hash_of name) 0
  noted-is = g ∙ (f ∙ ap (λ (k : ℕ). get_or index k 0) e)

  pub found_none : y ≡ 0 → {r : ℕ} → r ≡ first_of (named_at name text symbols) n → r ≡ found_in name text symbols n index
  unfolding found_in
  found_none z k = rw (← noted-is, eq-eqb y 0 z) k

  module _ (z : y ≡ 0 → ⊥) {b : Bool} (k : b ≡ named_at name text symbols (y - 1)) where
    pub found-there : b ≡ true → y - 1 ≡ found_in name text symbols n index
    unfolding found_in
    found-there t = rw (← noted-is, ne_eqb y 0 z, ← k, t)

    pub found-other : b ≡ false → {r : ℕ} → r ≡ first_of (named_at name text symbols) n → r ≡ found_in name text symbols n index
    unfolding found_in
    found-other t m = rw (← noted-is, ne_eqb y 0 z, ← k, t) m

pub ruleset finds = (rules, found_none, found-there, found-other)
