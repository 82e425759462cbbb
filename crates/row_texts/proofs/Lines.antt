-- The lines of areas and symbols give back both tables, exactly if symbols stand in the order of their areas.
-- Assumes nothing.
use Prim.Native.Nat.{suc, zero, ℕ, ◌+◌, ◌-◌, ◌<◌, ◌≤◌}
use mathlib.Core.Path.{◌≡◌, ap, refl, sym, ◌∙◌}
use mathlib.Core.Bool.{Bool, false, false≢true, true}
use mathlib.Core.List.{List, [], append-nil, ◌++◌, ◌∷◌}
use native.Mathlib.Omega.{arith}
use native.Mathlib.Nat.{add-zero, suc-add, zero-add}
use Rattle.laws.specs.Rows.{from}
use Rattle.manual.specs.Each.{Each}
use Rattle.written.specs.Named.{NamedEntry, named_area, named_symbol}
use Rattle.row_texts.specs.RowRecords.{area_entry, column, entries_from, symbol_entry}
use Rattle.row_texts.specs.GivesBack.{Standing, areas_of, standing_at, symbols_of}

-- one run of indexes behind another
pub from-append : {A : Type 0} (g : ℕ → A) (i m n : ℕ) → from g i (m + n) ≡ from g i m ++ from g (i + m) n
unfolding from
from-append g i zero n = ap (λ (x : ℕ). from g i x) (zero-add n) ∙ ap (λ (x : ℕ). from g x n) (sym (add-zero i))
from-append g i (suc m) n =
    let e : suc i + m ≡ i + suc m = omega arith in
    ap (λ (x : ℕ). from g i x) (suc-add m n) ∙ ap (λ (l : List _). g i ∷ l) (from-append g (suc i) m n ∙ ap (λ (x : ℕ). from g (suc i) m ++ from g x n) e)

areas-append : (xs ys : List NamedEntry) → areas_of (xs ++ ys) ≡ areas_of xs ++ areas_of ys
unfolding areas_of
areas-append [] ys = refl
areas-append (named_area n z g a ∷ xs) ys = ap (λ (l : List NamedEntry). named_area n z g a ∷ l) (areas-append xs ys)
areas-append (named_symbol n r v ∷ xs) ys = areas-append xs ys

-- what holds of both tables holds of all lines, and the other way
pub each_line : (P : NamedEntry → Type 0) (k : ℕ) (es : List NamedEntry) → Each P (areas_of es) → Each (λ s. P s.entry) (symbols_of k es) → Each P es
unfolding areas_of symbols_of
each_line P k [] h i = tt
each_line P k (named_area n z g a ∷ es) h i = (h.0, each_line P (suc k) es h.1 i)
each_line P k (named_symbol n r v ∷ es) h i = (i.0, each_line P k es h i.1)

pub each-area : (P : NamedEntry → Type 0) (es : List NamedEntry) → Each P es → Each P (areas_of es)
unfolding areas_of
each-area P [] h = tt
each-area P (named_area n z g a ∷ es) h = (h.0, each-area P es h.1)
each-area P (named_symbol n r v ∷ es) h = each-area P es h.1

pub each-symbol : (P : NamedEntry → Type 0) (k : ℕ) (es : List NamedEntry) → Each P es → Each (λ s. P s.entry) (symbols_of k es)
unfolding symbols_of
each-symbol P k [] h = tt
each-symbol P k (named_area n z g a ∷ es) h = each-symbol P (suc k) es h.1
each-symbol P k (named_symbol n r v ∷ es) h = (h.0, each-symbol P k es h.1)

module _ (text areas : List ℕ) where
  abbrev An : ℕ → NamedEntry
  An i = area_entry text areas i

  areas-areas : (k n : ℕ) → areas_of (from An k n) ≡ from An k n
  unfolding areas_of from area_entry
  areas-areas k zero = refl
  areas-areas k (suc n) = ap (λ (l : List NamedEntry). An k ∷ l) (areas-areas (suc k) n)

  symbols-none : (k i n : ℕ) → symbols_of k (from An i n) ≡ []
  unfolding symbols_of from area_entry
  symbols-none k i zero = refl
  symbols-none k i (suc n) = symbols-none (suc k) (suc i) n

  symbols-past : (k i n : ℕ) (es : List NamedEntry) → symbols_of k (from An i n ++ es) ≡ symbols_of (k + n) es
  unfolding symbols_of from area_entry
  symbols-past k i zero es = ap (λ (x : ℕ). symbols_of x es) (sym (add-zero k))
  symbols-past k i (suc n) es = let e : suc k + n ≡ k + suc n = omega arith in symbols-past (suc k) (suc i) n es ∙ ap (λ (x : ℕ). symbols_of x es) e

  module _ (count : ℕ) (symbols : List ℕ) where
    abbrev Es : ℕ → ℕ → ℕ → List NamedEntry
    Es k j n = entries_from text areas count symbols k j n

    abbrev C : ℕ → ℕ
    C j = column symbols j

    -- symbols in the order of their areas, of which k stand before them
    abbrev pub Ordered : ℕ → ℕ → ℕ → Type 0
    Ordered k j zero = k ≤ count
    Ordered k j (suc n) = (k ≤ C j) × Ordered (C j) (suc j) n

    pub ordered-within : (k j n : ℕ) → Ordered k j n → k ≤ count
    ordered-within k j zero h = h
    ordered-within k j (suc n) h = omega (arith, h.0, ordered-within (C j) (suc j) n h.1)

    no-area : (j : ℕ) (es : List NamedEntry) → areas_of (symbol_entry text symbols j ∷ es) ≡ areas_of es
    unfolding areas_of symbol_entry
    no-area j es = refl

    pub areas-given : (k j n : ℕ) → Ordered k j n → areas_of (Es k j n) ≡ from An k (count - k)
    unfolding entries_from
    areas-given k j zero h = areas-areas k (count - k)
    areas-given k j (suc n) h =
        let i = ordered-within (C j) (suc j) n h.1 in
        let e : C j - k + (count - C j) ≡ count - k = omega (arith, h.0, i) in
        let d : k + (C j - k) ≡ C j = omega (arith, h.0) in
        areas-append (from An k (C j - k)) (symbol_entry text symbols j ∷ Es (C j) (suc j) n)
        ∙ (ap (λ (l : List NamedEntry). l ++ areas_of (symbol_entry text symbols j ∷ Es (C j) (suc j) n)) (areas-areas k (C j - k))
        ∙ (ap (λ (l : List NamedEntry). from An k (C j - k) ++ l) (no-area j (Es (C j) (suc j) n) ∙ areas-given (C j) (suc j) n h.1)
        ∙ (ap (λ (x : ℕ). from An k (C j - k) ++ from An x (count - C j)) (sym d)
        ∙ (sym (from-append An k (C j - k) (count - C j)) ∙ ap (λ (x : ℕ). from An k x) e))))

    one : (j : ℕ) (es : List NamedEntry) → symbols_of (C j) (symbol_entry text symbols j ∷ es) ≡ standing_at text symbols j ∷ symbols_of (C j) es
    unfolding symbols_of symbol_entry standing_at
    one j es = refl

    pub symbols-given : (k j n : ℕ) → Ordered k j n → symbols_of k (Es k j n) ≡ from (standing_at text symbols) j n
    unfolding entries_from from
    symbols-given k j zero h = symbols-none k k (count - k)
    symbols-given k j (suc n) h =
        let d : k + (C j - k) ≡ C j = omega (arith, h.0) in
        symbols-past k k (C j - k) (symbol_entry text symbols j ∷ Es (C j) (suc j) n)
        ∙ (ap (λ (x : ℕ). symbols_of x (symbol_entry text symbols j ∷ Es (C j) (suc j) n)) d
        ∙ (one j (Es (C j) (suc j) n) ∙ ap (λ (l : List Standing). standing_at text symbols j ∷ l) (symbols-given (C j) (suc j) n h.1)))

    -- an area before the others
    lead : (k j n : ℕ) → Ordered (suc k) j n → An k ∷ Es (suc k) j n ≡ Es k j n
    unfolding entries_from from
    lead k j zero h =
        let e : count - k ≡ suc (count - suc k) = omega arith in
        sym (ap (λ (x : ℕ). from An k x) e)
    lead k j (suc n) h =
        let e : C j - k ≡ suc (C j - suc k) = omega (arith, h.0) in
        sym (ap (λ (x : ℕ). from An k x ++ symbol_entry text symbols j ∷ Es (C j) (suc j) n) e)

    looser : (k j n : ℕ) → Ordered (suc k) j n → Ordered k j n
    looser k j zero h = omega arith
    looser k j (suc n) h = (omega (arith, h.0), h.1)

    nil : (k j : ℕ) → from An k (count - k) ≡ Es k j zero
    unfolding entries_from
    nil k j = refl

    nothing : (k j n : ℕ) → C j - k ≡ 0 → Es k j (suc n) ≡ symbol_entry text symbols j ∷ Es (C j) (suc j) n
    unfolding entries_from from
    nothing k j n z = ap (λ (x : ℕ). from An k x ++ symbol_entry text symbols j ∷ Es (C j) (suc j) n) z

    -- the lines that give both tables back
    pub lines-back : (es : List NamedEntry) (k j n : ℕ) → k ≤ count → areas_of es ≡ from An k (count - k) → symbols_of k es ≡ from (standing_at text symbols) j n → (es ≡ Es k j n) × Ordered k j n
    unfolding areas_of symbols_of from standing_at
    lines-back [] k j zero h a s = (a ∙ nil k j, h)
    lines-back [] k j (suc n) h a s = let z : ◌≡◌ {A = ℕ} 0 1 = cc in absurd (omega arith)
    lines-back (named_area m z g x ∷ es) k j n h a s = go (count - k) refl a (λ i q. lines-back es (suc k) j n i q s)
      where
        go : (c : ℕ) → count - k ≡ c → named_area m z g x ∷ areas_of es ≡ from An k c → (suc k ≤ count → areas_of es ≡ from An (suc k) (count - suc k) → (es ≡ Es (suc k) j n) × Ordered (suc k) j n) → (named_area m z g x ∷ es ≡ Es k j n) × Ordered k j n
        go zero e a ih = let z : ◌≡◌ {A = ℕ} 0 1 = cc in absurd (omega arith)
        go (suc c) e a ih =
            let one : named_area m z g x ≡ An k = cc in
            let rest : areas_of es ≡ from An (suc k) c = cc in
            let d : c ≡ count - suc k = omega arith in
            let w = ih (omega arith) (rest ∙ ap (λ (y : ℕ). from An (suc k) y) d) in
            (ap (λ (y : NamedEntry). y ∷ es) one ∙ (ap (λ (l : List NamedEntry). An k ∷ l) w.0 ∙ lead k j n w.1), looser k j n w.1)
    lines-back (named_symbol m r v ∷ es) k j zero h a s = let z : ◌≡◌ {A = ℕ} 0 1 = cc in absurd (omega arith)
    lines-back (named_symbol m r v ∷ es) k j (suc n) h a s =
        let one : record { entry = named_symbol m r v; before = k } ≡ standing_at text symbols j = cc in
        let rest : symbols_of k es ≡ from (standing_at text symbols) (suc j) n = cc in
        let e : named_symbol m r v ≡ symbol_entry text symbols j = ap (λ (x : Standing). x.entry) one in
        let d : k ≡ C j = ap (λ (x : Standing). x.before) one in
        let w = lines-back es k (suc j) n h a rest in
        let z : C j - k ≡ 0 = omega arith in
        (ap (λ (x : NamedEntry). x ∷ es) e ∙ (ap (λ (l : List NamedEntry). symbol_entry text symbols j ∷ l) (w.0 ∙ ap (λ (x : ℕ). Es x (suc j) n) d) ∙ sym (nothing k j n z)), (omega arith, rw (← d) w.1))
