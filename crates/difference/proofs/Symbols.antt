-- Symbols: no row is told of them exactly if every name has the same first value on both sides.
-- Assumes nothing.
use Prim.Native.Nat.{suc, ℕ}
use mathlib.Core.Path.{◌≡◌, refl, ap, sym, ◌∙◌}
use mathlib.Core.Bool.{Bool, true, false, not}
use mathlib.Core.List.{List, [], ◌∷◌, Memᴰ}
use mathlib.Core.Option.{Option, none, some}
use lib.Dec.{eqb}
use native.Mathlib.Omega.{arith}
use Rattle.format.specs.Lists.{pick}
use Rattle.format.specs.Tables.{Symbol}
use Rattle.row_parts.specs.Parts.{part_of}
use Rattle.difference.specs.Module.{At, Named, first, firsts, named, numbered, same_numbers}
use Rattle.difference.specs.Changes.{each, only_new, symbol_changes, value, value_change}
use Rattle.difference.specs.Same.{value_of}
use Rattle.difference.proofs.Lists.{append-none, begun, each_none, eqb_same, eqb-true, none_each, passed-passing, passing-passed, pick-none, same-eq, same_refl}

-- the value of a symbol that was found
abbrev pub told : Option (At Named) → Option ℕ
told none = none
told (some s) = some s.it.value

told-pick : (b : Bool) (s : At Named) (o : Option (At Named)) (v : Option ℕ) → told o ≡ v → told (pick b (some s) o) ≡ pick b (some s.it.value) v
told-pick true s o v h = refl
told-pick false s o v h = h

pub first-value : (text n : List ℕ) (i : ℕ) (ss : List Symbol) → told (first n (numbered i (named text ss))) ≡ value_of text n ss
unfolding first numbered named value_of
first-value text n i [] = refl
first-value text n i (s ∷ ss) =
    told-pick (same_numbers n (part_of text s.name.at s.name.length))
    (record { index = i; it = record { name = part_of text s.name.at s.name.length; value = s.value } })
    (first n (numbered (suc i) (named text ss))) (value_of text n ss) (first-value text n (suc i) ss)

clash : {C : Type 0} {b : Bool} → b ≡ true → b ≡ false → C
clash p q = let z : ◌≡◌ {A = ℕ} 0 1 = cc in let y : ⊥ = omega arith in absurd y

not-true : (b : Bool) → not b ≡ true → b ≡ false
not-true true h = let z : ◌≡◌ {A = ℕ} 0 1 = cc in let y : ⊥ = omega arith in absurd y
not-true false h = refl

-- each of the firsts is what is found by its name
pub firsts-first : (ss : List (At Named)) (s : At Named) → Memᴰ s (firsts ss) → first s.it.name ss ≡ some s
unfolding firsts first
firsts-first [] s m = elim m [ ]
firsts-first (h ∷ ss) s (Memᴰ.head e) =
    let t : same_numbers s.it.name h.it.name ≡ true = ap (λ (z : At Named). same_numbers s.it.name z.it.name) (sym e) ∙ same_refl s.it.name in
    ap (λ (b : Bool). pick b (some h) (first s.it.name ss)) t ∙ ap (λ (z : At Named). some z) (sym e)
firsts-first (h ∷ ss) s (Memᴰ.tail m) =
    let p = passing-passed (λ (t : At Named). not (same_numbers t.it.name h.it.name)) (firsts ss) s m in
    ap (λ (b : Bool). pick b (some h) (first s.it.name ss)) (not-true (same_numbers s.it.name h.it.name) p.passes) ∙ firsts-first ss s p.there

-- what is found by a name has it, and is one of the firsts
pub record Is (n : List ℕ) (ss : List (At Named)) (s : At Named) : Type 0 where
  pub name : n ≡ s.it.name
  pub there : Memᴰ s (firsts ss)

some-eq : {s t : At Named} → ◌≡◌ {A = Option (At Named)} (some s) (some t) → s ≡ t
some-eq h = cc

unlike : {C : Type 0} {s : At Named} → ◌≡◌ {A = Option (At Named)} none (some s) → C
unlike h = let z : ◌≡◌ {A = ℕ} 0 1 = cc in let y : ⊥ = omega arith in absurd y

is-with : (n : List ℕ) (h : At Named) (ss : List (At Named)) (s : At Named) (b : Bool) → same_numbers n h.it.name ≡ b → pick b (some h) (first n ss) ≡ some s
    → (first n ss ≡ some s → Is n ss s) → Is n (h ∷ ss) s
unfolding firsts
is-with n h ss s true e k r =
    let q : h ≡ s = some-eq k in
    record { name = same-eq n h.it.name e ∙ ap (λ (z : At Named). z.it.name) q; there = Memᴰ.head (sym q) }
is-with n h ss s false e k r =
    let g = r k in
    record {
      name = g.name;
      there = Memᴰ.tail (passed-passing (λ (t : At Named). not (same_numbers t.it.name h.it.name)) (firsts ss) s g.there
          (ap (λ (x : List ℕ). not (same_numbers x h.it.name)) (sym g.name) ∙ ap not e));
    }

pub first-is : (n : List ℕ) (ss : List (At Named)) (s : At Named) → first n ss ≡ some s → Is n ss s
unfolding first
first-is n [] s h = unlike h
first-is n (t ∷ ss) s h = is-with n t ss s (same_numbers n t.it.name) refl h (λ k. first-is n ss s k)

-- by what is found on each side
none-value : (s : At Named) (o : Option (At Named)) → value_change s o ≡ [] → some s.it.value ≡ told o
none-value s none h = begun h
none-value s (some t) h = ap (λ (v : ℕ). some v) (eqb-true s.it.value t.it.value (pick-none (eqb s.it.value t.it.value) (value s.index t.index) h))

value_none : (s : At Named) (o : Option (At Named)) → some s.it.value ≡ told o → value_change s o ≡ []
value_none s none h = let z : ◌≡◌ {A = ℕ} 0 1 = cc in let y : ⊥ = omega arith in absurd y
value_none s (some t) h =
    let e : s.it.value ≡ t.it.value = cc in
    ap (λ (b : Bool). pick b [] (value s.index t.index ∷ [])) (ap (eqb s.it.value) (sym e) ∙ eqb_same s.it.value)

new_none : (t : At Named) (o : Option (At Named)) → told o ≡ some t.it.value → only_new t o ≡ []
new_none t none h = let z : ◌≡◌ {A = ℕ} 0 1 = cc in let y : ⊥ = omega arith in absurd y
new_none t (some s) h = refl

module _ (ss ts : List (At Named)) where
  same_at : (n : List ℕ) (o p : Option (At Named)) → first n ss ≡ o → first n ts ≡ p
      → ((s : At Named) → Memᴰ s (firsts ss) → value_change s (first s.it.name ts) ≡ [])
      → ((t : At Named) → Memᴰ t (firsts ts) → only_new t (first t.it.name ss) ≡ [])
      → told o ≡ told p
  same_at n none none e f h k = refl
  same_at n none (some t) e f h k =
      let i = first-is n ts t f in
      begun (ap (only_new t) (sym (ap (λ (x : List ℕ). first x ss) (sym i.name) ∙ e)) ∙ k t i.there)
  same_at n (some s) p e f h k =
      let i = first-is n ss s e in
      none-value s p (ap (value_change s) (sym (ap (λ (x : List ℕ). first x ts) (sym i.name) ∙ f)) ∙ h s i.there)

  pub no_symbol : symbol_changes ss ts ≡ [] → (n : List ℕ) → told (first n ss) ≡ told (first n ts)
  unfolding symbol_changes
  no_symbol h n =
      let k = append-none (each (λ (s : At Named). value_change s (first s.it.name ts)) (firsts ss)) (each (λ (t : At Named). only_new t (first t.it.name ss)) (firsts ts)) h in
      same_at n (first n ss) (first n ts) refl refl
      (λ s m. each_none (λ (s : At Named). value_change s (first s.it.name ts)) (firsts ss) k.0 m)
      (λ t m. each_none (λ (t : At Named). only_new t (first t.it.name ss)) (firsts ts) k.1 m)

  pub symbol-none : ((n : List ℕ) → told (first n ss) ≡ told (first n ts)) → symbol_changes ss ts ≡ []
  unfolding symbol_changes
  symbol-none h =
      let p : each (λ (s : At Named). value_change s (first s.it.name ts)) (firsts ss) ≡ [] =
      none_each (λ (s : At Named). value_change s (first s.it.name ts)) (firsts ss)
      (λ s m. value_none s (first s.it.name ts) (sym (ap told (firsts-first ss s m)) ∙ h s.it.name)) in
      let q : each (λ (t : At Named). only_new t (first t.it.name ss)) (firsts ts) ≡ [] =
      none_each (λ (t : At Named). only_new t (first t.it.name ss)) (firsts ts)
      (λ t m. new_none t (first t.it.name ss) (h t.it.name ∙ ap told (firsts-first ts t m))) in
      rw (p, q)
