-- Row i of an array is entry i of the table that it holds.
-- Assumes nothing.
use Prim.Native.Nat.{ℕ, suc, ◌+◌, ◌*◌, ◌≤◌}
use mathlib.Core.Path.{◌≡◌, refl, ap, sym, ◌∙◌}
use mathlib.Core.Bool.{Bool, true, false}
use mathlib.Core.List.{List, [], ◌∷◌, ◌++◌, append_assoc}
use mathlib.Core.Option.{Option, none, some}
use native.Mathlib.Omega.{arith}
use native.Mathlib.Nat.{add-zero}
use lib.ListN.{length, drop, get_or, length-append}
use lib.Seq.{sets, get_or-append-add}
use lib.Dec.{eqb}
use Rattle.format.specs.Lists.{flat}
use Rattle.format.specs.Tables.{Area, Symbol, Tables, base, or_zero, last_index}
use Rattle.format.specs.Rows.{area_numbers, symbol_numbers, given, flag, plus_one_or_zero}
use Rattle.laws.specs.Rows.{from, given_by, area_at, areas_in, symbol_at, symbols_in, tables_in}
use Rattle.tables.specs.GroupOne.{Hold}
use Rattle.tables.proofs.Growth.{flat-length, seven-numbers, five-numbers}
use Rattle.steps.proofs.Stored.{laid}

-- rows that stand one after another decode to what they were made of
module _ {A : Type 0} (enc : A → List ℕ) (k : ℕ) (len : (a : A) → length (enc a) ≡ k) (dec : List ℕ → ℕ → A)
    (right : (pre : List ℕ) (a : A) (post : List ℕ) (i : ℕ) → length pre ≡ k * i → dec (pre ++ (enc a ++ post)) i ≡ a) where
  decoded : (pre : List ℕ) (xs : List A) (post : List ℕ) (i : ℕ) → length pre ≡ k * i → from (dec (pre ++ (flat enc xs ++ post))) i (length xs) ≡ xs
  unfolding from flat
  decoded pre [] post i e = refl
  decoded pre (x ∷ xs) post i e =
      let a : (enc x ++ flat enc xs) ++ post ≡ enc x ++ (flat enc xs ++ post) = append_assoc (enc x) (flat enc xs) post in
      let one : dec (pre ++ ((enc x ++ flat enc xs) ++ post)) i ≡ x = ap (λ (l : List ℕ). dec (pre ++ l) i) a ∙ right pre x (flat enc xs ++ post) i e in
      let b : pre ++ ((enc x ++ flat enc xs) ++ post) ≡ (pre ++ enc x) ++ (flat enc xs ++ post) = ap (λ (l : List ℕ). pre ++ l) a ∙ sym (append_assoc pre (enc x) (flat enc xs ++ post)) in
      let n : length (pre ++ enc x) ≡ k * suc i = simp length-append (omega (arith, len x)) in
      let more : from (dec (pre ++ ((enc x ++ flat enc xs) ++ post))) (suc i) (length xs) ≡ xs = ap (λ (l : List ℕ). from (dec l) (suc i) (length xs)) b ∙ decoded (pre ++ enc x) xs post (suc i) n in
      λ j. one j ∷ more j

  held_rows : (xs : List A) (room rows : List ℕ) (n : ℕ) → n ≡ length xs → k * n ≤ length room → rows ≡ sets room 0 (flat enc xs) → from (dec rows) 0 n ≡ xs
  held_rows xs room rows n e h r =
      let l : length (flat enc xs) ≤ length room = rw (flat-length enc k len xs, ← e) h in
      rw (r, laid (flat enc xs) room l, e) (decoded [] xs (drop (length (flat enc xs)) room) 0 (omega arith))

module _ (pre ys : List ℕ) (m : ℕ) (e : length pre ≡ m) where
  pub column : (n : ℕ) → get_or (pre ++ ys) (m + n) 0 ≡ get_or ys n 0
  column n = rw (← e) (get_or-append-add pre ys n 0)

  pub first-column : get_or (pre ++ ys) m 0 ≡ get_or ys 0 0
  first-column = ap (λ (x : ℕ). get_or (pre ++ ys) x 0) (sym (add-zero m)) ∙ column 0

given_back : (o : Option ℕ) → given_by (given o) (or_zero o) ≡ o
given_back none = refl
given_back (some n) = refl

flag-back : (b : Bool) → eqb (flag b) 1 ≡ b
flag-back true = refl
flag-back false = refl

index_back : (o : Option ℕ) → last_index (plus_one_or_zero o) ≡ o
index_back none = refl
index_back (some n) = refl

area-back : (pre : List ℕ) (a : Area) (post : List ℕ) (i : ℕ) → length pre ≡ 7 * i → area_at (pre ++ (area_numbers 0 a ++ post)) i ≡ a
unfolding area_at area_numbers base
area-back pre a post i e =
    let ys = area_numbers 0 a ++ post in
    let c = column pre ys (7 * i) e in
    let x : given_by (get_or (pre ++ ys) (7 * i + 4) 0) (get_or (pre ++ ys) (7 * i + 5) 0) ≡ a.addr = rw (c 4, c 5) (given_back a.addr) in
    λ j. record { name = record { at = first-column pre ys (7 * i) e j; length = c 1 j }; size = c 2 j; flags = c 3 j; addr = x j }

symbol-back : (pre : List ℕ) (s : Symbol) (post : List ℕ) (i : ℕ) → length pre ≡ 5 * i → symbol_at (pre ++ (symbol_numbers s ++ post)) i ≡ s
unfolding symbol_at symbol_numbers
symbol-back pre s post i e =
    let ys = symbol_numbers s ++ post in
    let c = column pre ys (5 * i) e in
    let r : eqb (get_or (pre ++ ys) (5 * i + 2) 0) 1 ≡ s.ref = ap (λ (n : ℕ). eqb n 1) (c 2) ∙ flag-back s.ref in
    let a : last_index (get_or (pre ++ ys) (5 * i + 4) 0) ≡ s.area = ap last_index (c 4) ∙ index_back s.area in
    λ j. record { name = record { at = first-column pre ys (5 * i) e j; length = c 1 j }; ref = r j; value = c 3 j; area = a j }

-- the tables that the rows of group one hold
module _ {t : Tables} {xs₀ ys₀ xs ys : List ℕ} {na ns : ℕ} (w : Hold t xs₀ ys₀ xs ys na ns) (h : 7 * na ≤ length xs₀) (i : 5 * ns ≤ length ys₀) where
  pub areas-held : areas_in xs na ≡ t.areas
  unfolding areas_in
  areas-held = held_rows (area_numbers 0) 7 seven-numbers area_at area-back t.areas xs₀ xs na w.area-count h w.areas

  pub symbols-held : symbols_in ys ns ≡ t.symbols
  unfolding symbols_in
  symbols-held = held_rows symbol_numbers 5 five-numbers symbol_at symbol-back t.symbols ys₀ ys ns w.symbol-count i w.symbols

  pub tables-held : tables_in xs na ys ns ≡ t
  unfolding tables_in
  tables-held = λ j. record { areas = areas-held j; symbols = symbols-held j }
