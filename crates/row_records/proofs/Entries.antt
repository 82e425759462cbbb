-- Areas and symbols in their tables, each symbol with how many areas stand before it, tell the order of the lines.
-- Assumes nothing.
use Prim.Native.Nat.{suc, zero, ℕ, ◌+◌, ◌-◌, ◌≤◌}
use mathlib.Core.Path.{◌≡◌, ap, refl, sym, ◌∙◌}
use mathlib.Core.Bool.{Bool, false, true}
use mathlib.Core.List.{List, [], append_assoc, append-nil, ◌++◌, ◌∷◌}
use native.Mathlib.Omega.{arith}
use lib.ListN.{drop, length, length-append, take}
use lib.Dec.{leb, ltb}
use borrow.Author.Tests.{leb-false}
use Rattle.format.specs.Lists.{pick}
use Rattle.format.specs.Number.{Name}
use Rattle.format.specs.Entries.{Entry, area, ignored, symbol}
use Rattle.format.specs.Outcome.{and_then, fine, fold}
use Rattle.format.specs.Records.{Taken}
use Rattle.format.specs.Tables.{Area, Symbol, Tables, add_area, add_body_of, add_entry, add_symbol, area_row, last_index, named}
use Rattle.laws.specs.Rows.{area_at, from, symbol_at}
use Rattle.laws.proofs.Outcomes.{chain, passed}
use Rattle.row_parts.specs.Parts.{name_in, part_of}
use Rattle.written.specs.Named.{NamedEntry, bytes_at, collected, cons_option, entry_named, named_area, named_symbol, taken_entry}
use Rattle.row_texts.specs.RowRecords.{area_entry, column, entries_from, symbol_entry}
use Rattle.row_texts.proofs.Lines.{Ordered}

-- ------------------------------------------------------------------ what lines add to the tables

abbrev pub area_cons : ℕ → Entry → List Area → List Area
area_cons place ignored rest = rest
area_cons place (area n z g a) rest = area_row place n z g a ∷ rest
area_cons place (symbol n r v) rest = rest

unfoldable pub areas_added : List (Taken Entry) → List Area
areas_added [] = []
areas_added (e ∷ es) = area_cons e.place e.body (areas_added es)

abbrev pub onward : ℕ → Entry → ℕ
onward k ignored = k
onward k (area n z g a) = suc k
onward k (symbol n r v) = k

abbrev pub symbol_cons : ℕ → ℕ → Entry → List Symbol → List Symbol
symbol_cons k place ignored rest = rest
symbol_cons k place (area n z g a) rest = rest
symbol_cons k place (symbol n r v) rest = record { name = named place n; ref = r; value = v; area = last_index k } ∷ rest

unfoldable pub symbols_added : ℕ → List (Taken Entry) → List Symbol
symbols_added k [] = []
symbols_added k (e ∷ es) = symbol_cons k e.place e.body (symbols_added (onward k e.body) es)

pub record Added (t t' : Tables) (es : List (Taken Entry)) : Type 0 where
  pub areas : t'.areas ≡ t.areas ++ areas_added es
  pub symbols : t'.symbols ≡ t.symbols ++ symbols_added (length t.areas) es

one_more : {A : Type 0} (xs : List A) (x : A) → length (xs ++ x ∷ []) ≡ suc (length xs)
one_more xs x = length-append xs (x ∷ []) ∙ omega arith

pub adds : (es : List (Taken Entry)) (t t' : Tables) → fold add_entry t es ≡ fine t' → Added t t' es
unfolding fold areas_added symbols_added add_entry add_area add_symbol
adds [] t t' h =
    let same : t ≡ t' = cc in
    record { areas = ap (λ (x : Tables). x.areas) (sym same) ∙ sym (append-nil t.areas); symbols = ap (λ (x : Tables). x.symbols) (sym same) ∙ sym (append-nil t.symbols) }
adds (e ∷ es) t t' h = go e.place e.body h (λ u k. adds es u t' k)
  where
    go : (place : ℕ) (x : Entry) → and_then (add_body_of t place x) (λ u. fold add_entry u es) ≡ fine t' → ((u : Tables) → fold add_entry u es ≡ fine t' → Added u t' es)
        → Added t t' (record { place = place; end = e.end; body = x } ∷ es)
    go place ignored q more = let k = more t q in record { areas = k.areas; symbols = k.symbols }
    go place (area n z g a) q more =
        let c = chain (add_area t place (area_row place n z g a)) (λ u. fold add_entry u es) t' q in
        let p = passed (ltb (length t.areas) 64) (fine (record { areas = t.areas ++ area_row place n z g a ∷ []; symbols = t.symbols })) 5 place c.value c.first in
        let u : Tables = record { areas = t.areas ++ area_row place n z g a ∷ []; symbols = t.symbols } in
        let same : u ≡ c.value = cc p.1 in
        let k = more u (rw same c.second) in
        record {
          areas = k.areas ∙ append_assoc t.areas (area_row place n z g a ∷ []) (areas_added es);
          symbols = k.symbols ∙ ap (λ (m : ℕ). t.symbols ++ symbols_added m es) (one_more t.areas (area_row place n z g a));
        }
    go place (symbol n r v) q more =
        let s : Symbol = record { name = named place n; ref = r; value = v; area = last_index (length t.areas) } in
        let c = chain (add_symbol t place s) (λ u. fold add_entry u es) t' q in
        let p = passed (ltb (length t.symbols) 1024) (fine (record { areas = t.areas; symbols = t.symbols ++ s ∷ [] })) 6 place c.value c.first in
        let u : Tables = record { areas = t.areas; symbols = t.symbols ++ s ∷ [] } in
        let same : u ≡ c.value = cc p.1 in
        let k = more u (rw same c.second) in
        record {
          areas = k.areas;
          symbols = k.symbols ∙ append_assoc t.symbols (s ∷ []) (symbols_added (length t.areas) es);
        }

-- ------------------------------------------------------------------ names

-- a name that lies in a text
abbrev pub NameLies : List ℕ → ℕ → Name → Type 0
NameLies text place n = n.length ≤ length text - (place + n.at)

abbrev pub EntryLies : List ℕ → ℕ → Entry → Type 0
EntryLies text place ignored = Unit {0}
EntryLies text place (area n z g a) = NameLies text place n
EntryLies text place (symbol n r v) = NameLies text place n

abbrev pub AllLie : List ℕ → List (Taken Entry) → Type 0
AllLie text [] = Unit {0}
AllLie text (e ∷ es) = EntryLies text e.place e.body × AllLie text es

-- a part that lies in a list
pub part-is : (xs : List ℕ) (start n : ℕ) → n ≤ length xs - start → part_of xs start n ≡ take n (drop start xs)
unfolding part_of
part-is xs start n h = go (leb start (length xs)) refl
  where
    none : (m : ℕ) → m ≡ 0 → [] ≡ take m (drop start xs)
    none m z = rw z

    inner : (t : Bool) → leb n (length xs - start) ≡ t → pick t (take n (drop start xs)) [] ≡ take n (drop start xs)
    inner true q = refl
    inner false q = let y : ⊥ = omega (arith, h, leb-false n (length xs - start) q) in absurd y

    go : (t : Bool) → leb start (length xs) ≡ t → pick t (pick (leb n (length xs - start)) (take n (drop start xs)) []) [] ≡ take n (drop start xs)
    go false e = none n (omega (arith, h, leb-false start (length xs) e))
    go true e = inner (leb n (length xs - start)) refl

same_name : (text : List ℕ) (place : ℕ) (n : Name) → NameLies text place n → name_in text (named place n) ≡ bytes_at text (named place n)
unfolding bytes_at named
same_name text place n h = part-is text (place + n.at) n.length h

-- ------------------------------------------------------------------ the lines

last-index : (c k : ℕ) → last_index c ≡ last_index k → c ≡ k
last-index zero zero e = refl
last-index zero (suc k) e = let z : ◌≡◌ {A = ℕ} 0 1 = cc in let y : ⊥ = omega arith in absurd y
last-index (suc c) zero e = let z : ◌≡◌ {A = ℕ} 0 1 = cc in let y : ⊥ = omega arith in absurd y
last-index (suc c) (suc k) e = let s : c ≡ k = cc in ap suc s

module _ (text A S : List ℕ) (count : ℕ) where
  -- n symbols from the j-th on, before which k areas stand, are told as these lines
  pub record Stands (k j n : ℕ) (xs : List NamedEntry) : Type 0 where
    pub ordered : Ordered text A count S k j n
    pub is : entries_from text A count S k j n ≡ xs

  from_suc : (g : ℕ → NamedEntry) (k m : ℕ) → suc k ≤ m → from g k (m - k) ≡ g k ∷ from g (suc k) (m - suc k)
  unfolding from
  from_suc g k m h = let e : m - k ≡ suc (m - suc k) = omega arith in rw e

  stands-area : (k j n : ℕ) (xs : List NamedEntry) → Stands (suc k) j n xs → Stands k j n (area_entry text A k ∷ xs)
  unfolding entries_from
  stands-area k j zero xs w = record {
    ordered = omega (arith, w.ordered);
    is = from_suc (area_entry text A) k count w.ordered ∙ ap (λ (l : List NamedEntry). area_entry text A k ∷ l) w.is;
  }
  stands-area k j (suc n) xs w =
      let h : suc k ≤ column S j = w.ordered.0 in
      record {
        ordered = (omega (arith, h), w.ordered.1);
        is = ap (λ (l : List NamedEntry). l ++ symbol_entry text S j ∷ entries_from text A count S (column S j) (suc j) n) (from_suc (area_entry text A) k (column S j) h)
            ∙ ap (λ (l : List NamedEntry). area_entry text A k ∷ l) w.is;
      }

  stands-symbol : (k j n : ℕ) (xs : List NamedEntry) → column S j ≡ k → Stands k (suc j) n xs → Stands k j (suc n) (symbol_entry text S j ∷ xs)
  unfolding entries_from from
  stands-symbol k j n xs e w = record {
    ordered = (omega (arith, e), rw e w.ordered);
    is = let z : k - k ≡ 0 = omega arith in
        ap (λ (c : ℕ). from (area_entry text A) k (c - k) ++ symbol_entry text S j ∷ entries_from text A count S c (suc j) n) e
        ∙ (ap (λ (m : ℕ). from (area_entry text A) k m ++ symbol_entry text S j ∷ entries_from text A count S k (suc j) n) z
        ∙ ap (λ (l : List NamedEntry). symbol_entry text S j ∷ l) w.is);
  }

  pub stand : (es : List (Taken Entry)) (k j : ℕ) → count ≡ k + length (areas_added es) → from (area_at A) k (length (areas_added es)) ≡ areas_added es
      → from (symbol_at S) j (length (symbols_added k es)) ≡ symbols_added k es → AllLie text es → Stands k j (length (symbols_added k es)) (collected (taken_entry text) es)
  unfolding areas_added symbols_added collected entries_from from area_entry symbol_entry area_row symbol_at column
  stand [] k j c a s l = record {
    ordered = omega (arith, c);
    is = none;
  }
    where
      none : entries_from text A count S k j 0 ≡ []
      none = let z : count - k ≡ 0 = omega (arith, c) in rw z
  stand (e ∷ es) k j c a s l = go e.place e.body c a s l.0 (λ k₁ j₁ c₁ a₁ s₁. stand es k₁ j₁ c₁ a₁ s₁ l.1)
    where
      go : (place : ℕ) (x : Entry) → count ≡ k + length (area_cons place x (areas_added es))
          → from (area_at A) k (length (area_cons place x (areas_added es))) ≡ area_cons place x (areas_added es)
          → from (symbol_at S) j (length (symbol_cons k place x (symbols_added (onward k x) es))) ≡ symbol_cons k place x (symbols_added (onward k x) es)
          → EntryLies text place x
          → ((k₁ j₁ : ℕ) → count ≡ k₁ + length (areas_added es) → from (area_at A) k₁ (length (areas_added es)) ≡ areas_added es
          → from (symbol_at S) j₁ (length (symbols_added k₁ es)) ≡ symbols_added k₁ es → Stands k₁ j₁ (length (symbols_added k₁ es)) (collected (taken_entry text) es))
          → Stands k j (length (symbol_cons k place x (symbols_added (onward k x) es))) (cons_option (entry_named text place x) (collected (taken_entry text) es))
      go place ignored c a s l₀ next = next k j c a s
      go place (area n z g o) c a s l₀ next =
          let row : area_at A k ≡ area_row place n z g o = cc in
          let more : from (area_at A) (suc k) (length (areas_added es)) ≡ areas_added es = cc in
          let w = next (suc k) j (omega (arith, c)) more s in
          let said : area_entry text A k ≡ named_area (bytes_at text (named place n)) z g o =
          ap (λ (r : Area). named_area (name_in text r.name) r.size r.flags r.addr) row ∙ ap (λ (b : List ℕ). named_area b z g o) (same_name text place n l₀) in
          rw (← said) (stands-area k j (length (symbols_added (suc k) es)) (collected (taken_entry text) es) w)
      go place (symbol n r v) c a s l₀ next =
          let y : Symbol = record { name = named place n; ref = r; value = v; area = last_index k } in
          let row : symbol_at S j ≡ y = cc in
          let more : from (symbol_at S) (suc j) (length (symbols_added k es)) ≡ symbols_added k es = cc in
          let w = next k (suc j) c a more in
          let col : column S j ≡ k = last-index (column S j) k (ap (λ (q : Symbol). q.area) row) in
          let said : symbol_entry text S j ≡ named_symbol (bytes_at text (named place n)) r v =
          ap (λ (q : Symbol). named_symbol (name_in text q.name) q.ref q.value) row ∙ ap (λ (b : List ℕ). named_symbol b r v) (same_name text place n l₀) in
          rw (← said) (stands-symbol k j (length (symbols_added k es)) (collected (taken_entry text) es) col w)
