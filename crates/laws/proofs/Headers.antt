-- The header and its line end are told by the bytes up to there: a text that begins with the same bytes has the same header.
-- Assumes nothing.
use Prim.Native.Nat.{ℕ, zero, suc, ◌+◌, ◌≤◌}
use mathlib.Core.Path.{◌≡◌, refl, ap}
use mathlib.Core.List.{List, [], ◌∷◌}
use mathlib.Core.Option.{Option, none, some}
use mathlib.Core.Bool.{Bool, true, false, ◌&&◌}
use native.Mathlib.Omega.{arith}
use native.Mathlib.Nat.{zero-add}
use lib.ListN.{length, take, drop}
use lib.Dec.{eqb}
use Rattle.format.specs.Lists.{pick, run}
use Rattle.format.specs.Bytes.{is_blank, is_white}
use Rattle.format.specs.Header.{Head, letters, is_form, form_of, later, header}
use Rattle.format.specs.Lines.{end_length}

-- no header is not one
pub differ : {A : Type 0} {h : Head} → none ≡ some h → A
differ q = let z : ◌≡◌ {A = ℕ} 0 1 = cc in let y : ⊥ = omega arith in absurd y

-- an empty list is no other
never : {A : Type 0} {b : ℕ} {bs : List ℕ} → b ∷ bs ≡ [] → A
never q = let z : ◌≡◌ {A = ℕ} 0 1 = cc in let y : ⊥ = omega arith in absurd y

-- ------------------------------------------------------------------ a line end

one_more : (t u : Bool) (e : ℕ) → pick t 1 0 ≡ suc e → pick t 1 (pick u 2 0) ≡ suc e
one_more true u e h = h
one_more false u e h = let z : ⊥ = omega (arith, h) in absurd z

one_less : (t u : Bool) (e : ℕ) → suc e ≤ 1 → pick t 1 (pick u 2 0) ≡ suc e → pick t 1 0 ≡ suc e
one_less true u e l h = h
one_less false true e l h = let z : ⊥ = omega (arith, h) in absurd z
one_less false false e l h = h

pub same_end : (m e : ℕ) (xs zs : List ℕ) → take m xs ≡ take m zs → end_length xs ≡ suc e → suc e ≤ m → end_length zs ≡ suc e
unfolding end_length
same_end zero e xs zs p h l = absurd (omega arith)
same_end (suc m) e [] zs p h l = absurd (omega (arith, h))
same_end (suc m) e (a ∷ xs) [] p h l = never p
same_end (suc m) e (a ∷ []) (c ∷ []) p h l = let q : a ≡ c = cc in rw q at h
same_end (suc m) e (a ∷ []) (c ∷ d ∷ zs) p h l = let q : a ≡ c = cc in one_more (eqb c 10) (eqb c 13 && eqb d 10) e (rw q at h)
same_end (suc zero) e (a ∷ b ∷ xs) (c ∷ []) p h l = let q : a ≡ c = cc in one_less (eqb c 10) (eqb c 13 && eqb b 10) e l (rw q at h)
same_end (suc zero) e (a ∷ b ∷ xs) (c ∷ d ∷ zs) p h l =
    let q : a ≡ c = cc in
    one_more (eqb c 10) (eqb c 13 && eqb d 10) e (one_less (eqb c 10) (eqb c 13 && eqb b 10) e l (rw q at h))
same_end (suc (suc m)) e (a ∷ b ∷ xs) (c ∷ []) p h l = let z : b ∷ take m xs ≡ [] = cc in never z
same_end (suc (suc m)) e (a ∷ b ∷ xs) (c ∷ d ∷ zs) p h l = let q : a ≡ c = cc in let r : b ≡ d = cc in rw (q, r) at h

-- ------------------------------------------------------------------ blanks, and a line end behind them

blanks_of : List ℕ → ℕ
blanks_of xs = length (run is_blank xs)

same-blanks : (m e : ℕ) (xs zs : List ℕ) → take m xs ≡ take m zs → end_length (drop (blanks_of xs) xs) ≡ suc e → blanks_of xs + suc e ≤ m
    → (blanks_of zs ≡ blanks_of xs) × (end_length (drop (blanks_of xs) zs) ≡ suc e)
unfolding blanks_of run end_length
same-blanks zero e xs zs p h l = absurd (omega arith)
same-blanks (suc m) e [] zs p h l = absurd (omega (arith, h))
same-blanks (suc m) e (b ∷ xs) [] p h l = never p
same-blanks (suc m) e (b ∷ xs) (c ∷ zs) p h l =
    let q : b ≡ c = cc in
    let r : take m xs ≡ take m zs = cc in
    rw (← q) (go (is_blank b) (same-blanks m e xs zs r) h l)
  where
    go : (t : Bool) → (end_length (drop (blanks_of xs) xs) ≡ suc e → blanks_of xs + suc e ≤ m → (blanks_of zs ≡ blanks_of xs) × (end_length (drop (blanks_of xs) zs) ≡ suc e))
        → end_length (drop (length (pick t (b ∷ run is_blank xs) [])) (b ∷ xs)) ≡ suc e → length (pick t (b ∷ run is_blank xs) []) + suc e ≤ suc m
        → (length (pick t (b ∷ run is_blank zs) []) ≡ length (pick t (b ∷ run is_blank xs) [])) × (end_length (drop (length (pick t (b ∷ run is_blank xs) [])) (b ∷ zs)) ≡ suc e)
    go true f g k = let i = f g (omega arith) in (ap suc i.0, i.1)
    go false f g k = let r : take m xs ≡ take m zs = cc in (refl, same_end (suc m) e (b ∷ xs) (b ∷ zs) (ap (λ (ys : List ℕ). b ∷ ys) r) g (rw zero-add at k))

-- ------------------------------------------------------------------ the letters, and the header

-- a header, and a line end behind it
pub record Begins (text : List ℕ) (h : Head) (e : ℕ) : Type 0 where
  pub head : header text ≡ some h
  pub end : end_length (drop h.next text) ≡ suc e

record BeginsAt (text : List ℕ) (h : Head) (e : ℕ) : Type 0 where
  head : letters text ≡ some h
  end : end_length (drop h.next text) ≡ suc e

same-letters : (n e : ℕ) (xs zs : List ℕ) → take n xs ≡ take n zs → (h : Head) → BeginsAt xs h e → h.next + suc e ≤ n → BeginsAt zs h e
unfolding letters blanks_of
same-letters n e [] zs p h b l = differ b.head
same-letters n e (x ∷ []) zs p h b l = differ b.head
same-letters n e (x ∷ y ∷ []) zs p h b l = differ b.head
same-letters n e (x ∷ y ∷ z ∷ rest) zs p h b l = go (is_form x y z) refl b.head
  where
    here : Head
    here = record { form = form_of x y z; next = suc (suc (suc (blanks_of rest))) }

    behind : (m : ℕ) (ys : List ℕ) → take m (x ∷ y ∷ z ∷ rest) ≡ take m ys → is_form x y z ≡ true → end_length (drop (blanks_of rest) rest) ≡ suc e
        → suc (suc (suc (blanks_of rest))) + suc e ≤ m → BeginsAt ys here e
    behind zero ys q f g k = absurd (omega arith)
    behind (suc zero) ys q f g k = absurd (omega arith)
    behind (suc (suc zero)) ys q f g k = absurd (omega arith)
    behind (suc (suc (suc m))) [] q f g k = never q
    behind (suc (suc (suc m))) (x' ∷ []) q f g k = let w : y ∷ z ∷ take m rest ≡ [] = cc in never w
    behind (suc (suc (suc m))) (x' ∷ y' ∷ []) q f g k = let w : z ∷ take m rest ≡ [] = cc in never w
    behind (suc (suc (suc m))) (x' ∷ y' ∷ z' ∷ rest') q f g k =
        let qx : x ≡ x' = cc in
        let qy : y ≡ y' = cc in
        let qz : z ≡ z' = cc in
        let r : take m rest ≡ take m rest' = cc in
        let i = same-blanks m e rest rest' r g (omega arith) in
        record { head = rw (← qx, ← qy, ← qz, f, i.0); end = i.1 }

    go : (t : Bool) → is_form x y z ≡ t → pick t (some here) none ≡ some h → BeginsAt zs h e
    go true f q = let same : here ≡ h = cc in rw same at (behind n zs p f (rw (← same) at b.end) (rw (← same) at l))
    go false f q = differ q

-- behind one more byte
header-step : (x : ℕ) (xs zs : List ℕ) (n e : ℕ) (h : Head) → take n xs ≡ take n zs → ((g : Head) → Begins xs g e → g.next + suc e ≤ n → Begins zs g e)
    → Begins (x ∷ xs) h e → h.next + suc e ≤ suc n → Begins (x ∷ zs) h e
unfolding header later
header-step x xs zs n e h r f b l = go (is_white x) refl b.head (header xs) refl
  where
    white : (g : Head) → is_white x ≡ true → header xs ≡ some g → record { form = g.form; next = suc g.next } ≡ h → Begins (x ∷ zs) h e
    white g w q same =
        let next : suc g.next ≡ h.next = ap (λ (k : Head). k.next) same in
        let k = f g (record { head = q; end = rw (← next) at b.end }) (omega arith) in
        record { head = rw (w, k.head) (ap (λ (k : Head). some k) same); end = rw (← next) k.end }

    go : (t : Bool) → is_white x ≡ t → pick t (later (header xs)) (letters (x ∷ xs)) ≡ some h → (o : Option Head) → header xs ≡ o → Begins (x ∷ zs) h e
    go true w q none c = differ (rw c at q)
    go true w q (some g) c = let same : record { form = g.form; next = suc g.next } ≡ h = cc (rw c at q) in white g w c same
    go false w q o c =
        let k = same-letters (suc n) e (x ∷ xs) (x ∷ zs) (ap (λ (ys : List ℕ). x ∷ ys) r) h (record { head = q; end = b.end }) l in
        record { head = rw w k.head; end = k.end }

-- the same header, with the same line end behind it
pub same-header : (n e : ℕ) (xs zs : List ℕ) → take n xs ≡ take n zs → (h : Head) → Begins xs h e → h.next + suc e ≤ n → Begins zs h e
unfolding header
same-header zero e xs zs p h b l = absurd (omega arith)
same-header (suc n) e [] zs p h b l = differ b.head
same-header (suc n) e (x ∷ xs) [] p h b l = never p
same-header (suc n) e (x ∷ xs) (z ∷ zs) p h b l =
    let q : x ≡ z = cc in
    let r : take n xs ≡ take n zs = cc in
    rw (← q) (header-step x xs zs n e h r (same-header n e xs zs r) b l)
