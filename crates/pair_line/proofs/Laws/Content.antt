-- The T line.
-- Assumes nothing.
use Prim.Native.Nat.{ℕ, suc, ◌-◌}
use mathlib.Core.Path.{◌≡◌, refl, ap, sym, ◌∙◌}
use mathlib.Core.Bool.{Bool, true, false}
use mathlib.Core.List.{List}
use native.Mathlib.Omega.{arith}
use lib.ListN.{length}
use lib.Dec.{eqb}
use borrow.Author.Rules.{rules}
use borrow.Author.Tests.{eq-eqb, ne_eqb}
use Rattle.std.specs.Prelude.{Result, Ok, Err}
use Rattle.format.specs.Lists.{pick}
use Rattle.format.specs.Got.{Got, is, isnt, then}
use Rattle.format.specs.Number.{next_byte, joined}
use Rattle.format.specs.Header.{Form}
use Rattle.format.specs.Entries.{spelled, T, lead}
use Rattle.format.specs.Pairs.{address_part, content_line, whole_content}
use Rattle.format.specs.Pairs as the
use Rattle.numbers.specs.Told.{told, code}
use Rattle.numbers.specs.declared.Halt.{Halt}
use Rattle.numbers.specs.declared.Read.{Read}
use Rattle.fields.specs.Told.{went}
use Rattle.lists.specs.Many.{BytesRead}
use Rattle.pair_line.specs.Usual.{Led}
use Rattle.pair_line.specs.Pairs.{Sized, sized, bytes_in, counted, told_content, Contents}
use Rattle.pair_line.specs.declared.content.Content.{Content}

-- `address_part`
module _ (radix : ℕ) (big : Bool) (n : ℕ) (s : List ℕ) where
  pub address-usual : {r : Bool} → Led (spelled T) s 0 2 r → r ≡ true → {x : Got ℕ} → x ≡ joined radix big n s 2 → x ≡ address_part (record { radix = radix; big = big; address_length = suc n }) s 0
  unfolding address_part
  address-usual u g i = let z : suc n - 1 ≡ n = omega arith in rw (z, u.read g) i

  module _ {l : Result ℕ Halt} (e : went l ≡ lead (spelled T) s 0) where
    pub address-1 : {h : Halt} → l ≡ Err h → told (Err h) ≡ address_part (record { radix = radix; big = big; address_length = suc n }) s 0
    unfolding address_part
    address-1 g = rw (← e, g)

    pub address-2 : {p : ℕ} → l ≡ Ok p → {x : Got ℕ} → x ≡ joined radix big n s p → x ≡ address_part (record { radix = radix; big = big; address_length = suc n }) s 0
    unfolding address_part
    address-2 g i = let z : suc n - 1 ≡ n = omega arith in rw (z, ← e, g) i

-- `parse_content`
module _ (f : Form) (s room : List ℕ) {a : Result (Read ℕ) Halt} (e : told a ≡ address_part f s 0) where
  pub content-1 : {h : Halt} → a ≡ Err h → Contents (content_line f s 0) (content_line f s 0) room (Err h) room
  unfolding content_line
  content-1 g = record { answered = rw (← e, g); stored = rw (← e, g) }

  pub content-2 : {r : Read ℕ} → a ≡ Ok r → {n q : ℕ} {left : List ℕ} → BytesRead f.radix s r.next (record { count = n; end = q }) room left
      → Contents (content_line f s 0) (content_line f s 0) room (Ok (record { address = r.value; count = n; used = q })) left
  unfolding content_line
  content-2 g i = record { answered = rw (← e, g, i.ran.counted, i.ran.reached); stored = rw (← e, g, i.stored) }

pub ruleset contents = (rules, address-usual, address-1, address-2, content-1, content-2)

-- the answer and its case say what the definition read
pub content-is : (m : Got the.Content) {a n u : ℕ} → is (sized a n) u ≡ counted m → m ≡ is (record { address = a; bytes = bytes_in m }) u
content-is (is c v) {a} {n} {u} e =
    let p : a ≡ c.address = cc in
    let q : u ≡ v = cc in
    rw (p, q)
content-is (isnt r p) e = absurd (let z : ◌≡◌ {A = ℕ} 0 1 = cc in omega arith)

pub content-count : (m : Got the.Content) {a n u : ℕ} → is (sized a n) u ≡ counted m → n ≡ length (bytes_in m)
content-count (is c v) e = cc
content-count (isnt r p) e = absurd (let z : ◌≡◌ {A = ℕ} 0 1 = cc in omega arith)

pub content-isnt : (m : Got the.Content) (r p : ℕ) → isnt r p ≡ counted m → m ≡ isnt r p
content-isnt (is c v) r p e = absurd (let z : ◌≡◌ {A = ℕ} 0 1 = cc in omega arith)
content-isnt (isnt r p) r' p' e =
    let a : r' ≡ r = cc in
    let b : p' ≡ p = cc in
    rw (a, b)

-- `not_whole`
module _ (radix : ℕ) (s : List ℕ) (u : ℕ) {b : Result (Read ℕ) Halt} (e : told b ≡ next_byte radix s u) where
  pub due-1 : {h : Halt} → b ≡ Err h → told_content (Err h) ≡ then (next_byte radix s u) (λ b next. isnt 4 u)
  due-1 g = rw (← e, g)

  pub due-2 : {r : Read ℕ} → b ≡ Ok r → ◌≡◌ {A = Got Sized} (isnt 4 u) (then (next_byte radix s u) (λ b next. isnt 4 u))
  due-2 g = rw (← e, g)

-- a halt has nothing to count
halt-counted : (u : ℕ) (g : Got ℕ) → then g (λ b next. isnt 4 u) ≡ counted (then g (λ b next. isnt 4 u))
halt-counted u (is v q) = refl
halt-counted u (isnt r p) = refl

-- `whole_content`
module _ (f : Form) (s : List ℕ) {room left : List ℕ} {c : Result Content Halt} (w : Contents (content_line f s 0) (content_line f s 0) room c left) where
  pub whole-1 : {h : Halt} → c ≡ Err h → Contents (whole_content f s) (content_line f s 0) room (Err h) left
  unfolding whole_content
  whole-1 {h} g = record { answered = rw (content-isnt (content_line f s 0) (code h.reason) h.at (ap told_content (sym g) ∙ w.answered)); stored = w.stored }

  module _ {d : Content} (g : c ≡ Ok d) where
    read : content_line f s 0 ≡ is (record { address = d.address; bytes = bytes_in (content_line f s 0) }) d.used
    read = content-is (content_line f s 0) (ap told_content (sym g) ∙ w.answered)

    whole : whole_content f s ≡ pick (eqb d.used (length s)) (content_line f s 0) (then (next_byte f.radix s d.used) (λ b next. isnt 4 d.used))
    unfolding whole_content
    whole = ap (λ (x : Got the.Content). then x (λ c used. pick (eqb used (length s)) (is c used) (then (next_byte f.radix s used) (λ b next. isnt 4 used)))) read ∙ ap (λ (x : Got the.Content). pick (eqb d.used (length s)) x (then (next_byte f.radix s d.used) (λ b next. isnt 4 d.used))) (sym read)

    pub whole-2 : d.used ≡ length s → Contents (whole_content f s) (content_line f s 0) room (Ok d) left
    whole-2 h =
        let i : whole_content f s ≡ content_line f s 0 = whole ∙ rw (eq-eqb d.used (length s) h) in
        record { answered = ap told_content (sym g) ∙ (w.answered ∙ ap counted (sym i)); stored = w.stored }

    pub whole-3 : (d.used ≡ length s → ⊥) → {x : Result Content Halt} → told_content x ≡ then (next_byte f.radix s d.used) (λ b next. isnt 4 d.used) → Contents (whole_content f s) (content_line f s 0) room x left
    whole-3 h i =
        let k : whole_content f s ≡ then (next_byte f.radix s d.used) (λ b next. isnt 4 d.used) = whole ∙ rw (ne_eqb d.used (length s) h) in
        record { answered = i ∙ (halt-counted d.used (next_byte f.radix s d.used) ∙ ap counted (sym k)); stored = w.stored }

pub ruleset wholes = (rules, due-1, due-2, whole-1, whole-2, whole-3)

-- a T line that is used whole is read as it is
pub whole_is : (f : Form) (s : List ℕ) {c : the.Content} {u : ℕ} → whole_content f s ≡ is c u → content_line f s 0 ≡ is c u
unfolding whole_content
whole_is f s {c} {u} h = go (content_line f s 0) h
  where
    none : (x : ℕ) (g : Got ℕ) → then g (λ b next. isnt 4 x) ≡ is c u → ⊥
    none x (is a q) e = let z : ◌≡◌ {A = ℕ} 0 1 = cc in omega arith
    none x (isnt r q) e = let z : ◌≡◌ {A = ℕ} 0 1 = cc in omega arith

    test : (b : Bool) (d : the.Content) (x : ℕ) → pick b (is d x) (then (next_byte f.radix s x) (λ b next. isnt 4 x)) ≡ is c u → is d x ≡ is c u
    test true d x e = e
    test false d x e = absurd (none x (next_byte f.radix s x) e)

    go : (m : Got the.Content) → then m (λ c used. pick (eqb used (length s)) (is c used) (then (next_byte f.radix s used) (λ b next. isnt 4 used))) ≡ is c u → m ≡ is c u
    go (is d x) e = test (eqb x (length s)) d x e
    go (isnt r q) e = absurd (let z : ◌≡◌ {A = ℕ} 0 1 = cc in omega arith)
