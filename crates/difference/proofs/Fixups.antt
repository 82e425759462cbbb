-- Fixups: no side lacks one exactly if each is among the other's.
-- Assumes nothing.
use Prim.Native.Nat.{suc, zero, ℕ, ◌+◌, ◌<◌}
use mathlib.Core.Path.{◌≡◌, refl, ap, sym, ◌∙◌}
use mathlib.Core.Bool.{Bool, true, false}
use mathlib.Core.Logic.{◌⊎◌, inl, inr}
use mathlib.Core.List.Memᴰ
use mathlib.Core.List.{List, [], ◌∷◌, Memᴰ}
use lib.Dec.{eqb}
use native.Mathlib.Omega.{arith}
use Rattle.format.specs.Lists.{pick}
use Rattle.format.specs.Tables.{kept_count}
use Rattle.format.specs.Fixups.{Fixup, Reference, by_area, of_area}
use Rattle.row_parts.specs.Parts.{part_of}
use Rattle.difference.specs.Module.{At, Module, fixups_in, numbered, says, same_numbers}
use Rattle.difference.specs.Changes.{Side, each, fixup, lacking, said_in}
use Rattle.difference.specs.Same.{Covers, SameFixup, SameReference}
use Rattle.difference.proofs.Lists.{each_none, eqb_same, eqb-true, indexed, none_each, passed-passing, passing-passed, pick-none, same-eq, same_refl, unnumbered}

-- what is said of what a fixup refers to
pub refers_says : List ℕ → (outside what length : ℕ) → List ℕ
refers_says text o w n = pick (eqb o 0) (w ∷ []) (part_of text w n)

zero-says : (text : List ℕ) (o w n : ℕ) → o ≡ 0 → refers_says text o w n ≡ w ∷ []
unfolding refers_says
zero-says text o w n e = rw e

other-with : (t : Bool) (o : ℕ) (xs ys : List ℕ) → eqb o 0 ≡ t → (o ≡ 0 → ⊥) → pick t xs ys ≡ ys
other-with true o xs ys e h = absurd (h (eqb-true o 0 e))
other-with false o xs ys e h = refl

other-says : (text : List ℕ) (o w n : ℕ) → (o ≡ 0 → ⊥) → refers_says text o w n ≡ part_of text w n
unfolding refers_says
other-says text o w n h = other-with (eqb o 0) o (w ∷ []) (part_of text w n) refl h

-- what fixups say is equal exactly if they are
pub record SaysSame (x y : Fixup) (s t : List ℕ) : Type 0 where
  pub home : x.home ≡ y.home
  pub position : x.position ≡ y.position
  pub size : x.size ≡ y.size
  pub mode : x.mode ≡ y.mode
  pub value : x.refers.value ≡ y.refers.value
  pub number : x.number ≡ y.number
  pub outside : x.refers.outside ≡ y.refers.outside
  pub rest : refers_says s x.refers.outside x.refers.what x.refers.length ≡ refers_says t y.refers.outside y.refers.what y.refers.length

heads : {A : Type 0} {x y : A} {xs ys : List A} → x ∷ xs ≡ y ∷ ys → (x ≡ y) × (xs ≡ ys)
heads h = (cc, cc)

says_same : (s t : List ℕ) (x y : Fixup) → says s x ≡ says t y → SaysSame x y s t
unfolding says refers_says
says_same s t x y h =
    let o = heads h in
    let a = heads o.1 in
    let b = heads a.1 in
    let c = heads b.1 in
    let d = heads c.1 in
    let e = heads d.1 in
    let f = heads e.1 in
    record { home = o.0; position = a.0; size = b.0; mode = c.0; value = d.0; number = e.0; outside = f.0; rest = f.1 }

pub says-equal : (s t : List ℕ) (x y : Fixup) → says s x ≡ says t y → SameFixup s t x y
says-equal s t x y h =
    let k = says_same s t x y h in
    record {
      home = k.home;
      position = k.position;
      size = k.size;
      mode = k.mode;
      number = k.number;
      refers = record {
        outside = k.outside;
        value = k.value;
        id = λ z. (heads (sym (zero-says s x.refers.outside x.refers.what x.refers.length z) ∙ (k.rest ∙ zero-says t y.refers.outside y.refers.what y.refers.length (sym k.outside ∙ z)))).0;
        name = λ z. sym (other-says s x.refers.outside x.refers.what x.refers.length z) ∙ (k.rest ∙ other-says t y.refers.outside y.refers.what y.refers.length (λ o. z (k.outside ∙ o)));
      };
    }

rest-with : (s t : List ℕ) (r q : Reference) (b : Bool) → eqb r.outside 0 ≡ b → SameReference s t r q
    → refers_says s r.outside r.what r.length ≡ refers_says t q.outside q.what q.length
rest-with s t r q true e k =
    let z : r.outside ≡ 0 = eqb-true r.outside 0 e in
    zero-says s r.outside r.what r.length z ∙ (ap (λ (w : ℕ). w ∷ []) (k.id z) ∙ sym (zero-says t q.outside q.what q.length (sym k.outside ∙ z)))
rest-with s t r q false e k =
    let z : r.outside ≡ 0 → ⊥ = λ o. clash o in
    other-says s r.outside r.what r.length z ∙ (k.name z ∙ sym (other-says t q.outside q.what q.length (λ o. z (k.outside ∙ o))))
  where
    clash : r.outside ≡ 0 → ⊥
    clash o = let g : eqb r.outside 0 ≡ true = ap (λ (n : ℕ). eqb n 0) o ∙ eqb_same 0 in let y : ◌≡◌ {A = ℕ} 0 1 = cc in omega arith

seven : {o a b c d e f o' a' b' c' d' e' f' : ℕ} {xs ys : List ℕ} → o ≡ o' → a ≡ a' → b ≡ b' → c ≡ c' → d ≡ d' → e ≡ e' → f ≡ f' → xs ≡ ys
    → o ∷ a ∷ b ∷ c ∷ d ∷ e ∷ f ∷ xs ≡ o' ∷ a' ∷ b' ∷ c' ∷ d' ∷ e' ∷ f' ∷ ys
seven n p q r s t u v = cc

pub equal-says : (s t : List ℕ) (x y : Fixup) → SameFixup s t x y → says s x ≡ says t y
unfolding says refers_says
equal-says s t x y k =
    seven k.home k.position k.size k.mode k.refers.value k.number k.refers.outside
    (rest-with s t x.refers y.refers (eqb x.refers.outside 0) refl k.refers)

-- a row that says the same
pub record Says (k : List ℕ) (text : List ℕ) (ys : List Fixup) : Type 0 where
  pub row : Fixup
  pub there : Memᴰ row ys
  pub same : k ≡ says text row

said-with : (k text : List ℕ) (y : Fixup) (ys : List Fixup) (b : Bool) → same_numbers k (says text y) ≡ b → pick b true (said_in k text ys) ≡ true
    → (said_in k text ys ≡ true → Says k text ys) → Says k text (y ∷ ys)
said-with k text y ys true e h r = record { row = y; there = Memᴰ.head refl; same = same-eq k (says text y) e }
said-with k text y ys false e h r = let g = r h in record { row = g.row; there = Memᴰ.tail g.there; same = g.same }

pub said-says : (k text : List ℕ) (ys : List Fixup) → said_in k text ys ≡ true → Says k text ys
unfolding said_in
said-says k text [] h = let z : ◌≡◌ {A = ℕ} 0 1 = cc in let y : ⊥ = omega arith in absurd y
said-says k text (y ∷ ys) h = said-with k text y ys (same_numbers k (says text y)) refl h (λ g. said-says k text ys g)

pick-either : (b c : Bool) → c ≡ true → pick b true c ≡ true
pick-either true c h = refl
pick-either false c h = h

pub says-said : (k text : List ℕ) (ys : List Fixup) (y : Fixup) → Memᴰ y ys → k ≡ says text y → said_in k text ys ≡ true
unfolding said_in
says-said k text [] y x'' h = elim x'' [ ]
says-said k text (z ∷ zs) y (Memᴰ.head e) h =
    let f : same_numbers k (says text z) ≡ true = ap (same_numbers k) (sym (h ∙ ap (says text) e)) ∙ same_refl k in
    rw f
says-said k text (z ∷ zs) y (Memᴰ.tail m) h = pick-either (same_numbers k (says text z)) (said_in k text zs) (says-said k text zs y m h)

-- grouped rows lie in kept areas
of-with : (id : ℕ) (y x : Fixup) (ys : List Fixup) (b : Bool) → eqb y.home id ≡ b → Memᴰ x (pick b (y ∷ of_area id ys) (of_area id ys))
    → (Memᴰ x (of_area id ys) → x.home ≡ id) → x.home ≡ id
of-with id y x ys true e (Memᴰ.head h) r = ap (λ (z : Fixup). z.home) h ∙ eqb-true y.home id e
of-with id y x ys true e (Memᴰ.tail m) r = r m
of-with id y x ys false e m r = r m

of-home : (id : ℕ) (xs : List Fixup) (x : Fixup) → Memᴰ x (of_area id xs) → x.home ≡ id
unfolding of_area
of-home id [] x m = elim m [ ]
of-home id (y ∷ ys) x m = of-with id y x ys (eqb y.home id) refl m (λ k. of-home id ys x k)

pub by_home : (n id : ℕ) (xs : List Fixup) (x : Fixup) → Memᴰ x (by_area n id xs) → x.home < id + n
unfolding by_area
by_home zero id xs x m = elim m [ ]
by_home (suc n) id xs x m = step (Memᴰ.append_cases (of_area id xs) m) (λ k. by_home n (suc id) xs x k)
  where
    step : Memᴰ x (of_area id xs) ⊎ Memᴰ x (by_area n (suc id) xs) → (Memᴰ x (by_area n (suc id) xs) → x.home < suc id + n) → x.home < id + suc n
    step (inl k) r = omega (arith, of-home id xs x k)
    step (inr k) r = omega (arith, r k)

-- no side lacks one
pub lacks-none : (side : Side) (a b : Module) (n : ℕ) → ((x : Fixup) → Memᴰ x a.fixups → x.home < n) → ((id : ℕ) → id < n → lacking side id a b ≡ []) → Covers a b
unfolding lacking fixups_in
lacks-none side a b n low h x m =
    let i = indexed 0 a.fixups x m in
    let there = passed-passing (λ (z : At Fixup). eqb z.it.home x.home) (numbered 0 a.fixups) (record { index = i.index; it = x }) i.there (eqb_same x.home) in
    let none = each_none (λ (z : At Fixup). pick (said_in (says a.text z.it) b.text b.fixups) [] (fixup side x.home z.index ∷ [])) (fixups_in a x.home) (h x.home (low x m)) there in
    let g = said-says (says a.text x) b.text b.fixups (pick-none (said_in (says a.text x) b.text b.fixups) (fixup side x.home i.index) none) in
    record { fixup = g.row; among = g.there; same = says-equal a.text b.text x g.row g.same }

pub none-lacks : (side : Side) (a b : Module) → Covers a b → (id : ℕ) → lacking side id a b ≡ []
unfolding lacking fixups_in
none-lacks side a b h id =
    none_each (λ (z : At Fixup). pick (said_in (says a.text z.it) b.text b.fixups) [] (fixup side id z.index ∷ [])) (fixups_in a id) one
  where
    one : (x : At Fixup) → Memᴰ x (fixups_in a id) → pick (said_in (says a.text x.it) b.text b.fixups) [] (fixup side id x.index ∷ []) ≡ []
    one x m =
        let p = passing-passed (λ (z : At Fixup). eqb z.it.home id) (numbered 0 a.fixups) x m in
        let f = h x.it (unnumbered 0 a.fixups x p.there) in
        let said : said_in (says a.text x.it) b.text b.fixups ≡ true =
        says-said (says a.text x.it) b.text b.fixups f.fixup f.among (equal-says a.text b.text x.it f.fixup f.same) in
        ap (λ (t : Bool). pick t [] (fixup side id x.index ∷ [])) said
