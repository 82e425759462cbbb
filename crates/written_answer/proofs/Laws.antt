-- The laws of the answer to rows that are to be written, of its numbers and of the form that is asked for.
-- Assumes nothing.
use Prim.Native.Nat.{ℕ, ◌<◌, ◌≤◌}
use mathlib.Core.Path.{◌≡◌, ap, refl, sym, ◌∙◌}
use mathlib.Core.Bool.{Bool, false, true, ◌&&◌}
use mathlib.Core.List.{List}
use mathlib.Core.Option.{none, some}
use native.Mathlib.Omega.{arith}
use lib.ListN.{length}
use lib.Dec.{eqb, leb}
use borrow.Author.Rules.{rules}
use borrow.Author.Tests.{eqb-false, eqb-true, le-leb, leb-true, lt-leb}
use Rattle.std.specs.Prelude.{Option, None, Some, Result, Ok, Err}
use Rattle.format.specs.Lists.{over, pick}
use Rattle.format.specs.Header as the
use Rattle.header.specs.Told.{form_of, more_of}
use Rattle.header.specs.declared.Form.{Form}
use Rattle.header.specs.declared.Width.{Width}
use Rattle.header.specs.declared.Width.TheVariants.{Four, Three, Two}
use Rattle.written_answer.specs.Answer.{answer_of, bytes, held_of, refusal, told}
use Rattle.written_answer.specs.Numbers.{FormIs, form_for, formed, is_width, written_numbers, x_form}
use Rattle.written_answer.specs.declared.Refusal.{Refusal}
use Rattle.written_answer.specs.declared.WrittenNumbers.{WrittenNumbers}

-- rows that are not given back are answered 15 whatever room there is, and the buffer stays
pub answered-15 : (n : ℕ) (out : List ℕ) → answer_of false n out ≡ refusal 15 0
unfolding answer_of
answered-15 n out = refl

pub kept-by-15 : (n : ℕ) (w out : List ℕ) → held_of false n w out ≡ out
unfolding held_of
kept-by-15 n w out = refl

-- others are answered 16 where the buffer is too short, and it stays
module _ (n : ℕ) (out : List ℕ) (h : length out < n) where
  pub answered-16 : answer_of true n out ≡ refusal 16 0
  unfolding answer_of
  answered-16 = rw (lt-leb n (length out) h)

  pub kept-by-16 : (w : List ℕ) → held_of true n w out ≡ out
  unfolding held_of
  kept-by-16 w = rw (lt-leb n (length out) h)

-- and else with their bytes, which stand in front
module _ (n : ℕ) (out : List ℕ) (h : n ≤ length out) where
  pub answered-bytes : answer_of true n out ≡ bytes n
  unfolding answer_of
  answered-bytes = rw (le-leb n (length out) h)

  pub held_bytes : (w : List ℕ) → held_of true n w out ≡ over w out
  unfolding held_of
  held_bytes w = rw (le-leb n (length out) h)

-- `written_numbers`
module _ {a : Result ℕ Refusal} {r : WrittenNumbers} where
  pub written-refused : {s : Refusal} → a ≡ Err s → r ≡ record { refusal = s.number; bytes = 0 } → r ≡ written_numbers (told a)
  written-refused e f = rw e f

  pub written-bytes : {n : ℕ} → a ≡ Ok n → r ≡ record { refusal = 0; bytes = n } → r ≡ written_numbers (told a)
  written-bytes e f = rw e f

pub ruleset numbers = (rules, written-refused, written-bytes)

-- `form_for`
between : (n : ℕ) → 2 ≤ n → n ≤ 4 → (n ≡ 2 → ⊥) → (n ≡ 3 → ⊥) → (n ≡ 4 → ⊥) → ⊥
between n l u h i j = go (eqb n 2) (eqb n 3) refl refl
  where
    go : (t u : Bool) → eqb n 2 ≡ t → eqb n 3 ≡ u → ⊥
    go true u e f = h (eqb-true n 2 e)
    go false true e f = i (eqb-true n 3 f)
    go false false e f = j (omega (arith, eqb-false n 2 e, eqb-false n 3 f))

other : (n : ℕ) → (n ≡ 2 → ⊥) → (n ≡ 3 → ⊥) → (n ≡ 4 → ⊥) → is_width n ≡ false
unfolding is_width
other n h i j = go (leb 2 n) (leb n 4) refl refl
  where
    go : (t u : Bool) → leb 2 n ≡ t → leb n 4 ≡ u → leb 2 n && leb n 4 ≡ false
    go true true e f = absurd (between n (leb-true 2 n e) (leb-true n 4 f) h i j)
    go true false e f = rw (e, f)
    go false u e f = rw e

module _ (b : Bool) {n : ℕ} {f : Form} where
  pub form-2 : n ≡ 2 → f ≡ x_form b Two → FormIs b n (Some f)
  unfolding is_width
  form-2 e g = record { is = rw (e, g) }

  pub form-3 : n ≡ 3 → f ≡ x_form b Three → FormIs b n (Some f)
  unfolding is_width
  form-3 e g = record { is = rw (e, g) }

  pub form-4 : n ≡ 4 → f ≡ x_form b Four → FormIs b n (Some f)
  unfolding is_width
  form-4 e g = record { is = rw (e, g) }

pub form-no : (b : Bool) {n : ℕ} → (n ≡ 2 → ⊥) → (n ≡ 3 → ⊥) → (n ≡ 4 → ⊥) → FormIs b n None
form-no b {n} h i j = record { is = sym (ap (λ (t : Bool). pick t (some (form_for b n)) none) (other n h i j)) }

pub ruleset forming = (rules, form-2, form-3, form-4, form-no)

-- no second form fits
same_width : (v w : Width) → more_of v ≡ more_of w → v ≡ w
same_width Two Two e = refl
same_width Two Three e = absurd (omega (arith, e))
same_width Two Four e = absurd (omega (arith, e))
same_width Three Two e = absurd (omega (arith, e))
same_width Three Three e = refl
same_width Three Four e = absurd (omega (arith, e))
same_width Four Two e = absurd (omega (arith, e))
same_width Four Three e = absurd (omega (arith, e))
same_width Four Four e = refl

same-form : (f g : Form) → form_of f ≡ form_of g → f ≡ g
same-form f g e =
    let w : f.width ≡ g.width = same_width f.width g.width (omega (arith, ap (λ (x : the.Form). x.address_length) e)) in
    λ i. record { radix = ap (λ (x : the.Form). x.radix) e i; big = ap (λ (x : the.Form). x.big) e i; width = w i }

told-once : (r s : Option Form) → formed r ≡ formed s → r ≡ s
told-once (Some f) (Some g) e = let k : form_of f ≡ form_of g = cc in ap Some (same-form f g k)
told-once (Some f) None e = absurd (let z : ◌≡◌ {A = ℕ} 0 1 = cc in omega arith)
told-once None (Some g) e = absurd (let z : ◌≡◌ {A = ℕ} 0 1 = cc in omega arith)
told-once None None e = refl

pub one_form : (b : Bool) (n : ℕ) (r s : Option Form) → FormIs b n r → FormIs b n s → r ≡ s
one_form b n r s v w = told-once r s (v.is ∙ sym w.is)
