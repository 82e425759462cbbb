-- The address length that a header gives is 2, 3 or 4.
-- Assumes nothing.
use Prim.Native.Nat.{ℕ, ◌-◌, ◌≤◌}
use mathlib.Core.Path.{◌≡◌, refl}
use mathlib.Core.Bool.{Bool, false, false≢true, true}
use mathlib.Core.List.{List, [], ◌∷◌}
use mathlib.Core.Option.{Option, none, some}
use native.Mathlib.Omega.{arith}
use lib.Dec.{eqb, leb, ltb}
use borrow.Author.Tests.{leb-true, ltb-false}
use Rattle.format.specs.Lists.{pick}
use Rattle.format.specs.Bytes.{is_white}
use Rattle.format.specs.Header.{Form, Head, form_of, header, is_form, is_length, is_order, later, letters, radix_of}
use Rattle.laws.proofs.Headers.{differ}

-- a header's address length is 2, 3 or 4
abbrev pub GoodForm : Form → Type 0
GoodForm f = (2 ≤ f.address_length) × (f.address_length ≤ 4)

length-good : (c : ℕ) → is_length c ≡ true → (2 ≤ c - 48) × (c - 48 ≤ 4)
unfolding is_length
length-good c h = go (ltb c 50) refl h
  where
    go : (t : Bool) → ltb c 50 ≡ t → pick t false (leb c 52) ≡ true → (2 ≤ c - 48) × (c - 48 ≤ 4)
    go true e h = absurd (false≢true h)
    go false e h = (omega (arith, ltb-false c 50 e, leb-true c 52 h), omega (arith, ltb-false c 50 e, leb-true c 52 h))

form-good : (a b c : ℕ) → is_form a b c ≡ true → GoodForm (form_of a b c)
unfolding is_form form_of
form-good a b c h = go (eqb (radix_of a) 0) (is_order b) h
  where
    go : (t u : Bool) → pick t false (pick u (is_length c) false) ≡ true → (2 ≤ c - 48) × (c - 48 ≤ 4)
    go true u h = absurd (false≢true h)
    go false true h = length-good c h
    go false false h = absurd (false≢true h)

letters-good : (xs : List ℕ) (h : Head) → letters xs ≡ some h → GoodForm h.form
unfolding letters
letters-good [] h q = differ q
letters-good (a ∷ []) h q = differ q
letters-good (a ∷ b ∷ []) h q = differ q
letters-good (a ∷ b ∷ c ∷ rest) h q = go (is_form a b c) refl _ q
  where
    go : (t : Bool) → is_form a b c ≡ t → (k : ℕ) → pick t (some (record { form = form_of a b c; next = k })) none ≡ some h → GoodForm h.form
    go true e k q = let same : form_of a b c ≡ h.form = cc in rw same at (form-good a b c e)
    go false e k q = differ q

later-good : (o : Option Head) (h : Head) → later o ≡ some h → ((g : Head) → o ≡ some g → GoodForm g.form) → GoodForm h.form
unfolding later
later-good none h q f = differ q
later-good (some g) h q f = let same : g.form ≡ h.form = cc in rw same at (f g refl)

pub header-good : (xs : List ℕ) (h : Head) → header xs ≡ some h → GoodForm h.form
unfolding header
header-good [] h q = differ q
header-good (b ∷ bs) h q = go (is_white b) q (header-good bs)
  where
    go : (t : Bool) → pick t (later (header bs)) (letters (b ∷ bs)) ≡ some h → ((g : Head) → header bs ≡ some g → GoodForm g.form) → GoodForm h.form
    go true q f = later-good (header bs) h q f
    go false q f = letters-good (b ∷ bs) h q
