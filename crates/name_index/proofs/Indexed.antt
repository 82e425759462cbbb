-- What is found through an index that was made from nothing is the first of all.
-- Assumes nothing.
use Prim.Native.Nat.{ℕ, zero, suc, ◌+◌, ◌-◌, ◌<◌, ◌≤◌}
use mathlib.Core.Path.{◌≡◌, refl, ap, sym, ◌∙◌, subst}
use mathlib.Core.Bool.{Bool, true, false, not}
use mathlib.Core.List.{List, [], ◌∷◌}
use native.Mathlib.Omega.{arith}
use lib.ListN.{length, get_or, set, replicate, length-set, get_or-eq_default}
use lib.Seq.{get_or-set_same, get_or-set_other}
use lib.Dec.{eqb, leb, ltb}
use borrow.Author.Tests.{eq-eqb, ne_eqb, eqb-true, eqb-false, le-leb, ltb-true, ltb-false}
use Rattle.format.specs.Lists.{pick}
use Rattle.row_parts.specs.Ranges.{passing}
use Rattle.difference.specs.Module.{same_numbers}
use Rattle.difference.proofs.Lists.{same-eq}
use Rattle.alike.specs.Looked.{first_of}
use Rattle.name_index.specs.Index.{found_in, hash_of, index_from, indexed, name_at, named_at, noted}

-- the first that passes, by what is known of it
module _ (p : ℕ → Bool) (e : ℕ) (here : p e ≡ true) (none : (k : ℕ) → k < e → p k ≡ false) where
  first-from : (i m : ℕ) → i ≤ e → e < i + m → passing (λ (k : ℕ). not (p k)) i m ≡ e
  unfolding passing
  first-from i zero h l = absurd (omega arith)
  first-from i (suc m) h l = step (eqb i e) refl (λ g. first-from (suc i) m g (omega arith))
    where
      step : (b : Bool) → eqb i e ≡ b → (suc i ≤ e → passing (λ (k : ℕ). not (p k)) (suc i) m ≡ e)
          → pick (not (p i)) (passing (λ (k : ℕ). not (p k)) (suc i) m) i ≡ e
      step true f r = let z : i ≡ e = eqb-true i e f in let t : p i ≡ true = ap p z ∙ here in rw t z
      step false f r = let u : i < e = omega (arith, eqb-false i e f) in let t : p i ≡ false = none i u in rw t (r u)

  pub first-is-at : (n : ℕ) → e < n → first_of p n ≡ e
  unfolding first_of
  first-is-at n h = first-from 0 n (omega arith) (omega arith)

-- an index of j symbols
module _ (text symbols : List ℕ) where
  abbrev place : ℕ → ℕ
  place k = hash_of (name_at text symbols k)

  pub record Holds (index : List ℕ) (j h e : ℕ) : Type 0 where
    pub low : e < j
    pub there : place e ≡ h
    pub first : (k : ℕ) → k < e → place k ≡ h → ⊥

  pub record Placed (index : List ℕ) (j : ℕ) : Type 0 where
    pub holds : (h e : ℕ) → get_or index h 0 ≡ suc e → Holds index j h e
    pub all : (k : ℕ) → k < j → place k < length index → get_or index (place k) 0 ≡ 0 → ⊥

  -- the next symbol's place is free
  module _ (index : List ℕ) (j : ℕ) (w : Placed index j) (free : get_or index (place j) 0 ≡ 0) where
    set_holds : (h e : ℕ) → get_or (set index (place j) (suc j)) h 0 ≡ suc e → Holds (set index (place j) (suc j)) (suc j) h e
    set_holds h e g = step (eqb h (place j)) refl (ltb (place j) (length index)) refl
      where
        step : (b : Bool) → eqb h (place j) ≡ b → (c : Bool) → ltb (place j) (length index) ≡ c → Holds (set index (place j) (suc j)) (suc j) h e
        step true f true l =
            let z : h ≡ place j = eqb-true h (place j) f in
            let v : suc j ≡ suc e = sym (ap (λ (x : ℕ). get_or (set index (place j) (suc j)) x 0) z ∙ get_or-set_same index (place j) (suc j) 0 (ltb-true (place j) (length index) l)) ∙ g in
            let x : e ≡ j = omega (arith, v) in
            record {
              low = omega arith;
              there = ap place x ∙ sym z;
              first = λ k u y. w.all k (omega arith) (subst (λ (n : ℕ). n < length index) (sym (y ∙ z)) (ltb-true (place j) (length index) l)) (ap (λ (n : ℕ). get_or index n 0) (y ∙ z) ∙ free);
            }
        step true f false l =
            let z : h ≡ place j = eqb-true h (place j) f in
            let o : length (set index (place j) (suc j)) ≤ place j = omega (arith, length-set index (place j) (suc j), ltb-false (place j) (length index) l) in
            let n : get_or (set index (place j) (suc j)) h 0 ≡ 0 = ap (λ (x : ℕ). get_or (set index (place j) (suc j)) x 0) z ∙ get_or-eq_default (set index (place j) (suc j)) 0 o in
            absurd (omega (arith, n, g))
        step false f c l =
            let old = w.holds h e (sym (get_or-set_other index (place j) h (suc j) 0 (eqb-false h (place j) f)) ∙ g) in
            record { low = omega (arith, old.low); there = old.there; first = old.first }

    set_all : (k : ℕ) → k < suc j → place k < length (set index (place j) (suc j)) → get_or (set index (place j) (suc j)) (place k) 0 ≡ 0 → ⊥
    set_all k u l g = step (eqb (place k) (place j)) refl
      where
        step : (b : Bool) → eqb (place k) (place j) ≡ b → ⊥
        step true f =
            let z : place k ≡ place j = eqb-true (place k) (place j) f in
            let inside : place j < length index = omega (arith, z, l, length-set index (place j) (suc j)) in
            let v : get_or (set index (place j) (suc j)) (place k) 0 ≡ suc j = ap (λ (x : ℕ). get_or (set index (place j) (suc j)) x 0) z ∙ get_or-set_same index (place j) (suc j) 0 inside in
            omega (arith, v, g)
        step false f =
            let less : k < j = below (eqb k j) refl in
            w.all k less (omega (arith, l, length-set index (place j) (suc j))) (sym (get_or-set_other index (place j) (place k) (suc j) 0 (eqb-false (place k) (place j) f)) ∙ g)
          where
            below : (b : Bool) → eqb k j ≡ b → k < j
            below true m = absurd (eqb-false (place k) (place j) f (ap place (eqb-true k j m)))
            below false m = omega (arith, u, eqb-false k j m)

  placed-next : (index : List ℕ) (j : ℕ) → Placed index j → Placed (noted index (place j) (suc j)) (suc j)
  unfolding noted
  placed-next index j w = step (eqb (get_or index (place j) 0) 0) refl
    where
      step : (b : Bool) → eqb (get_or index (place j) 0) 0 ≡ b → Placed (pick b (set index (place j) (suc j)) index) (suc j)
      step true f = let z = eqb-true (get_or index (place j) 0) 0 f in record { holds = set_holds index j w z; all = set_all index j w z }
      step false f = record {
        holds = λ h e g. let old = w.holds h e g in record { low = omega (arith, old.low); there = old.there; first = old.first };
        all = λ k u l g. taken k u l g (eqb k j) refl;
      }
        where
          taken : (k : ℕ) → k < suc j → place k < length index → get_or index (place k) 0 ≡ 0 → (b : Bool) → eqb k j ≡ b → ⊥
          taken k u l g true m = eqb-false (get_or index (place j) 0) 0 f (ap (λ (x : ℕ). get_or index (place x) 0) (sym (eqb-true k j m)) ∙ g)
          taken k u l g false m = w.all k (omega (arith, u, eqb-false k j m)) l g

  placed-from : (index : List ℕ) (j n : ℕ) → Placed index j → Placed (index_from text symbols index j n) (j + n)
  unfolding index_from
  placed-from index j zero w = subst (λ (x : ℕ). Placed index x) (omega arith) w
  placed-from index j (suc n) w =
      subst (λ (x : ℕ). Placed (index_from text symbols (noted index (place j) (suc j)) (suc j) n) x) (omega arith)
      (placed-from (noted index (place j) (suc j)) (suc j) n (placed-next index j w))

  zeros : (k h : ℕ) → ◌≡◌ {A = ℕ} (get_or (replicate k 0) h 0) 0
  zeros zero h = refl
  zeros (suc k) zero = refl
  zeros (suc k) (suc h) = zeros k h

  placed-none : (k : ℕ) → Placed (replicate k 0) 0
  placed-none k = record { holds = λ h e g. absurd (omega (arith, zeros k h, g)); all = λ i u l g. omega arith }

  -- by what the index has
  found-with : (name index : List ℕ) (n x : ℕ) → Placed index n → get_or index (hash_of name) 0 ≡ x → (b : Bool) → eqb x 0 ≡ b → (c : Bool) → named_at name text symbols (x - 1) ≡ c
      → pick b (first_of (named_at name text symbols) n) (pick c (x - 1) (first_of (named_at name text symbols) n)) ≡ first_of (named_at name text symbols) n
  unfolding named_at
  found-with name index n x w g true f c t = refl
  found-with name index n x w g false f false t = refl
  found-with name index n x w g false f true t =
      let z : x ≡ suc (x - 1) = omega (arith, eqb-false x 0 f) in
      let h = w.holds (hash_of name) (x - 1) (g ∙ z) in
      sym (first-is-at (named_at name text symbols) (x - 1) t (λ k u. other k u (named_at name text symbols k) refl) n h.low)
    where
      other : (k : ℕ) → k < x - 1 → (d : Bool) → named_at name text symbols k ≡ d → named_at name text symbols k ≡ false
      other k u false m = m
      other k u true m =
          let z : x ≡ suc (x - 1) = omega (arith, eqb-false x 0 f) in
          absurd ((w.holds (hash_of name) (x - 1) (g ∙ z)).first k u (ap hash_of (sym (same-eq name (name_at text symbols k) m))))

  -- of at most 65,536 symbols, through an index that was empty
  pub the-index-finds-the-first : (name : List ℕ) (n k : ℕ) → n ≤ 65536 → found_in name text symbols n (indexed text symbols n (replicate k 0)) ≡ first_of (named_at name text symbols) n
  unfolding found_in indexed
  the-index-finds-the-first name n k h =
      let made = index_from text symbols (replicate k 0) 0 n in
      let w : Placed made n = subst (λ (x : ℕ). Placed made x) (omega arith) (placed-from (replicate k 0) 0 n (placed-none k)) in
      let x = get_or made (hash_of name) 0 in
      ap (λ (b : Bool). found_in name text symbols n (pick b made (replicate k 0))) (le-leb n 65536 h)
      ∙ found-with name made n x w refl (eqb x 0) refl (named_at name text symbols (x - 1)) refl
