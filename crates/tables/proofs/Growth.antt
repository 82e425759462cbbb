-- Rows at the end of rows, and one entry more in the rows and in the tables.
-- Assumes nothing.
use Prim.Native.Nat.{ℕ, suc, ◌+◌, ◌*◌, ◌-◌, ◌≤◌}
use mathlib.Core.Path.{◌≡◌, refl, ap, sym, ◌∙◌}
use mathlib.Core.Bool.{Bool, true, false}
use mathlib.Core.Option.{Option}
use mathlib.Core.List.{List, [], ◌∷◌, ◌++◌, append-nil, append_assoc}
use native.Mathlib.Omega.{arith}
use native.Mathlib.Nat.{add-zero, suc-add, add-suc}
use lib.ListN.{length, length-append}
use lib.Seq.{sets}
use lib.Dec.{ltb}
use borrow.Author.Tests.{ltb-true}
use Rattle.format.specs.Lists.{pick, flat}
use Rattle.format.specs.Outcome.{fine, refused}
use Rattle.format.specs.Tables.{Area, Symbol as Sym, Tables, area_row, named, last_index, add_area, add_symbol, add_body_of, tables}
use Rattle.format.specs.Rows.{area_numbers, symbol_numbers}
use Rattle.format.specs.Entries as entries
use Rattle.format.specs.Pairs as pairs
use Rattle.entry_line.specs.Told.{entry_of, name_of, addr_of}
use Rattle.entry_line.specs.declared.Entry.{Entry}
use Rattle.std.specs.Prelude as std
use Rattle.entry_line.specs.declared.Entry.TheVariants as of
use Rattle.steps.specs.Entries.{Placed}
use Rattle.put_rows.specs.Put.{area_put, symbol_put}
use Rattle.put_rows.proofs.RowLaws.{short-is}
use Rattle.one_entry.specs.Adds.{Adds, room, full}
use Rattle.std.specs.Prelude.{Result}
use Rattle.tables.specs.GroupOne.{Hold}
use Rattle.one_entry.specs.declared.Rows.{Rows}
use Rattle.one_entry.specs.declared.Full.{Full}

-- ------------------------------------------------------------------ rows at the end of rows

sets-append : (l : List ℕ) (i : ℕ) (vs ws : List ℕ) → sets l i (vs ++ ws) ≡ sets (sets l i vs) (i + length vs) ws
sets-append l i [] ws = rw add-zero
sets-append l i (v ∷ vs) ws = rw (add-suc, ← suc-add i (length vs)) (sets-append _ (suc i) vs ws)

pub flat-length : {A : Type 0} (g : A → List ℕ) (k : ℕ) → ((a : A) → length (g a) ≡ k) → (xs : List A) → length (flat g xs) ≡ k * length xs
unfolding flat
flat-length g k e [] = omega arith
flat-length g k e (x ∷ xs) = simp length-append (omega (arith, e x, flat-length g k e xs))

flat-snoc : {A : Type 0} (g : A → List ℕ) (xs : List A) (x : A) → flat g (xs ++ x ∷ []) ≡ flat g xs ++ g x
unfolding flat
flat-snoc g [] x = append-nil (g x)
flat-snoc g (y ∷ ys) x = rw (flat-snoc g ys x) (sym (append_assoc (g y) (flat g ys) (g x)))

snoc : {A : Type 0} (g : A → List ℕ) (k : ℕ) → ((a : A) → length (g a) ≡ k) → (room : List ℕ) (xs : List A) (x : A) (n : ℕ) → n ≡ length xs
    → sets (sets room 0 (flat g xs)) (k * n) (g x) ≡ sets room 0 (flat g (xs ++ x ∷ []))
snoc g k e room xs x n h =
    let l : k * n ≡ 0 + length (flat g xs) = rw h (omega (arith, flat-length g k e xs)) in
    rw (flat-snoc g xs x, l) (sym (sets-append room 0 (flat g xs) (g x)))

pub seven-numbers : (y : Area) → length (area_numbers 0 y) ≡ 7
unfolding area_numbers
seven-numbers y = refl

pub five-numbers : (y : Sym) → length (symbol_numbers y) ≡ 5
unfolding symbol_numbers
five-numbers y = refl

-- ------------------------------------------------------------------ what is written of a name that lies in a text of 65,536 bytes

module _ (rows : List ℕ) (row p a k : ℕ) (h : p + (a + k) ≤ 65536) where
  area-whole : (z g : ℕ) (x : Option ℕ) → area_put rows row p a k z g x ≡ pick (ltb row 64) (sets rows (7 * row) (area_numbers 0 (area_row p (name_of a k) z g x))) rows
  unfolding area_put
  area-whole z g x = rw (short-is p (omega arith), short-is a (omega arith), short-is k (omega arith))

  symbol-whole : (r : Bool) (v n : ℕ) → n ≤ 64
      → symbol_put rows row p a k r v n ≡ pick (ltb row 1024) (sets rows (5 * row) (symbol_numbers (record { name = named p (name_of a k); ref = r; value = v; area = last_index n }))) rows
  unfolding symbol_put
  symbol-whole r v n i = rw (short-is p (omega arith), short-is a (omega arith), short-is k (omega arith), short-is n (omega arith))

-- ------------------------------------------------------------------ one entry more, in the rows and in the tables

-- the same rows, the same refusal
same-room : {a b m n : ℕ} → room a b ≡ room m n → (a ≡ m) × (b ≡ n)
same-room {a} {b} {m} {n} e = let f : ◌≡◌ {A = Rows} (record { areas = a; symbols = b }) (record { areas = m; symbols = n }) = cc in (ap (λ (r : Rows). r.areas) f, ap (λ (r : Rows). r.symbols) f)

same-full : {m n : ℕ} → full m ≡ full n → m ≡ n
same-full {m} {n} e = let f : ◌≡◌ {A = Full} (record { number = m }) (record { number = n }) = cc in ap (λ (r : Full). r.number) f

module _ (t : Tables) (p : ℕ) {xs₀ ys₀ xs ys : List ℕ} {na ns : ℕ} (w : Hold t xs₀ ys₀ xs ys na ns) where
  pub record Grown (en : Entry) (xs' ys' : List ℕ) (a s : ℕ) : Type 0 where
    pub after : Tables
    pub adds : add_body_of t p (entry_of en) ≡ fine after
    pub holds : Hold after xs₀ ys₀ xs' ys' a s
    pub areas-low : na ≤ 64 → a ≤ 64
    pub symbols-low : ns ≤ 1024 → s ≤ 1024

  -- by the entry and its test
  area-room : (a k z g : ℕ) (x : std.Option ℕ) (b : Bool) → ltb na 64 ≡ b → {r : Result Rows Full} {xs' ys' : List ℕ} {m n : ℕ}
      → r ≡ pick b (room (na + 1) ns) (full 5) → xs' ≡ pick b (sets xs (7 * na) (area_numbers 0 (area_row p (name_of a k) z g (addr_of x)))) xs → ys' ≡ ys
      → r ≡ room m n → Grown (of.Area a k z g x) xs' ys' m n
  unfolding add_area
  area-room a k z g x false q e f h i = absurd (let y : ◌≡◌ {A = ℕ} 0 1 = cc in omega arith)
  area-room a k z g x true q {r} {xs'} {ys'} {m} {n} e f h i =
      let row = area_row p (name_of a k) z g (addr_of x) in
      let c : na + 1 ≡ m = (same-room (sym e ∙ i)).0 in
      let d : ns ≡ n = (same-room (sym e ∙ i)).1 in
      record {
        after = record { areas = t.areas ++ row ∷ []; symbols = t.symbols };
        adds = rw (← w.area-count, q);
        holds = record {
          areas = f ∙ (ap (λ (l : List ℕ). sets l (7 * na) (area_numbers 0 row)) w.areas ∙ snoc (area_numbers 0) 7 seven-numbers xs₀ t.areas row na w.area-count);
          symbols = h ∙ w.symbols;
          area-count = simp length-append (omega (arith, w.area-count));
          symbol-count = sym d ∙ w.symbol-count;
        };
        areas-low = λ l. omega (arith, ltb-true na 64 q);
        symbols-low = λ l. omega arith;
      }

  symbol-room : (a k : ℕ) (b : Bool) (v : ℕ) (u : Bool) → ltb ns 1024 ≡ u → {r : Result Rows Full} {xs' ys' : List ℕ} {m n : ℕ}
      → r ≡ pick u (room na (ns + 1)) (full 6) → xs' ≡ xs
      → ys' ≡ pick u (sets ys (5 * ns) (symbol_numbers (record { name = named p (name_of a k); ref = b; value = v; area = last_index na }))) ys
      → r ≡ room m n → Grown (of.Symbol a k b v) xs' ys' m n
  unfolding add_symbol
  symbol-room a k b v false q e f h i = absurd (let y : ◌≡◌ {A = ℕ} 0 1 = cc in omega arith)
  symbol-room a k b v true q {r} {xs'} {ys'} {m} {n} e f h i =
      let c : na ≡ m = (same-room (sym e ∙ i)).0 in
      let d : ns + 1 ≡ n = (same-room (sym e ∙ i)).1 in
      record {
        after = record { areas = t.areas; symbols = t.symbols ++ row (length t.areas) ∷ [] };
        adds = rw (← w.symbol-count, q);
        holds = record {
          areas = f ∙ w.areas;
          symbols = h ∙ (ap (λ (o : ℕ). sets ys (5 * ns) (symbol_numbers (row o))) w.area-count ∙ (ap (λ (l : List ℕ). sets l (5 * ns) (symbol_numbers (row (length t.areas)))) w.symbols ∙ snoc symbol_numbers 5 five-numbers ys₀ t.symbols (row (length t.areas)) ns w.symbol-count));
          area-count = sym c ∙ w.area-count;
          symbol-count = simp length-append (omega (arith, w.symbol-count));
        };
        areas-low = λ l. omega arith;
        symbols-low = λ l. omega (arith, ltb-true ns 1024 q);
      }
    where
      row : ℕ → Sym
      row o = record { name = named p (name_of a k); ref = b; value = v; area = last_index o }

  pub grown : (en : Entry) → Placed 65536 p en → na ≤ 64 → {r : Result Rows Full} {xs' ys' : List ℕ} {m n : ℕ} → Adds en p na ns xs ys r xs' ys' → r ≡ room m n → Grown en xs' ys' m n
  grown (of.Area a k z g x) l h d i = area-room a k z g x (ltb na 64) refl d.answered (d.areas ∙ area-whole xs na p a k l.fits z g (addr_of x)) d.symbols i
  grown (of.Symbol a k b v) l h d i = symbol-room a k b v (ltb ns 1024) refl d.answered d.areas (d.symbols ∙ symbol-whole ys ns p a k l.fits b v na h) i
  grown of.Ignored l h {r} {xs'} {ys'} {m} {n} d i =
      let e : r ≡ room na ns = d.answered in
      let c : na ≡ m = (same-room (sym e ∙ i)).0 in
      let o : ns ≡ n = (same-room (sym e ∙ i)).1 in
      record {
        after = t;
        adds = refl;
        holds = record { areas = d.areas ∙ w.areas; symbols = d.symbols ∙ w.symbols; area-count = sym c ∙ w.area-count; symbol-count = sym o ∙ w.symbol-count };
        areas-low = λ l. omega arith;
        symbols-low = λ l. omega arith;
      }

  area-full : (a k z g : ℕ) (x : std.Option ℕ) (b : Bool) → ltb na 64 ≡ b → {r : Result Rows Full} {n : ℕ} → r ≡ pick b (room (na + 1) ns) (full 5) → r ≡ full n → add_body_of t p (entry_of (of.Area a k z g x)) ≡ refused n p
  unfolding add_area
  area-full a k z g x true q e i = absurd (let y : ◌≡◌ {A = ℕ} 0 1 = cc in omega arith)
  area-full a k z g x false q {r} {n} e i = let c : 5 ≡ n = same-full (sym e ∙ i) in rw (← w.area-count, q, c)

  symbol-full : (a k : ℕ) (b : Bool) (v : ℕ) (u : Bool) → ltb ns 1024 ≡ u → {r : Result Rows Full} {n : ℕ} → r ≡ pick u (room na (ns + 1)) (full 6) → r ≡ full n → add_body_of t p (entry_of (of.Symbol a k b v)) ≡ refused n p
  unfolding add_symbol
  symbol-full a k b v true q e i = absurd (let y : ◌≡◌ {A = ℕ} 0 1 = cc in omega arith)
  symbol-full a k b v false q {r} {n} e i = let c : 6 ≡ n = same-full (sym e ∙ i) in rw (← w.symbol-count, q, c)

  -- where there is no room, nothing is stored
  area-kept : (b : Bool) (m n c : ℕ) (ls : List ℕ) {r : Result Rows Full} {d : ℕ} {ks xs' : List ℕ} → r ≡ pick b (room m n) (full c) → r ≡ full d → xs' ≡ pick b ls ks → xs' ≡ ks
  area-kept true m n c ls e i h = absurd (let y : ◌≡◌ {A = ℕ} 0 1 = cc in omega arith)
  area-kept false m n c ls e i h = h

  pub kept-areas : (en : Entry) {r : Result Rows Full} {xs' ys' : List ℕ} {n : ℕ} → Adds en p na ns xs ys r xs' ys' → r ≡ full n → xs' ≡ xs
  unfolding area_put
  kept-areas (of.Area a k z g x) d i = area-kept (ltb na 64) _ _ _ _ d.answered i d.areas
  kept-areas (of.Symbol a k b v) d i = d.areas
  kept-areas of.Ignored d i = d.areas

  pub kept-symbols : (en : Entry) {r : Result Rows Full} {xs' ys' : List ℕ} {n : ℕ} → Adds en p na ns xs ys r xs' ys' → r ≡ full n → ys' ≡ ys
  unfolding symbol_put
  kept-symbols (of.Area a k z g x) d i = d.symbols
  kept-symbols (of.Symbol a k b v) d i = area-kept (ltb ns 1024) _ _ _ _ d.answered i d.symbols
  kept-symbols of.Ignored d i = d.symbols

  pub filled : (en : Entry) {r : Result Rows Full} {xs' ys' : List ℕ} {n : ℕ} → Adds en p na ns xs ys r xs' ys' → r ≡ full n → add_body_of t p (entry_of en) ≡ refused n p
  filled (of.Area a k z g x) d i = area-full a k z g x (ltb na 64) refl d.answered i
  filled (of.Symbol a k b v) d i = symbol-full a k b v (ltb ns 1024) refl d.answered i
  filled of.Ignored {r} {xs'} {ys'} {n} d i = absurd (let e : r ≡ room na ns = d.answered in let y : ◌≡◌ {A = ℕ} 0 1 = cc in omega arith)
