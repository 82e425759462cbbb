-- No second answer fits the contract of `format_spec`: what an answer tells is told by no other.
-- Assumes nothing.
use Prim.Native.Nat.{ℕ, suc}
use mathlib.Core.Path.{◌≡◌, refl, ap, ◌∙◌}
use native.Mathlib.Omega.{arith}
use Rattle.format.specs.Header as the
use Rattle.header.specs.Told.{more_of, form_of, told_head}
use Rattle.header.specs.declared.Width.{Width}
use Rattle.header.specs.declared.Width.TheVariants.{Two, Three, Four}
use Rattle.header.specs.declared.Form.{Form}
use Rattle.header.specs.declared.Head.{Head}
use Rattle.header.specs.declared.Head.TheVariants.{Found, Missing}

one_width : (v w : Width) → suc (more_of v) ≡ suc (more_of w) → v ≡ w
one_width Two Two e = refl
one_width Two Three e = absurd (omega arith)
one_width Two Four e = absurd (omega arith)
one_width Three Two e = absurd (omega arith)
one_width Three Three e = refl
one_width Three Four e = absurd (omega arith)
one_width Four Two e = absurd (omega arith)
one_width Four Three e = absurd (omega arith)
one_width Four Four e = refl

one_form : (f g : Form) → form_of f ≡ form_of g → f ≡ g
one_form f g e =
    ap (λ (x : ℕ). record { radix = x; big = f.big; width = f.width }) (ap (λ (x : the.Form). x.radix) e)
    ∙ (ap (λ x. record { radix = g.radix; big = x; width = f.width }) (ap (λ (x : the.Form). x.big) e)
    ∙ ap (λ (x : Width). record { radix = g.radix; big = g.big; width = x }) (one_width f.width g.width (ap (λ (x : the.Form). x.address_length) e)))

-- `format_spec`
pub one-head : (a b : Head) → told_head a ≡ told_head b → a ≡ b
one-head (Found f n) (Found g m) e = found (one_form f g (ap (λ (h : the.Head). h.form) inner)) (ap (λ (h : the.Head). h.next) inner)
  where
    inner : ◌≡◌ {A = the.Head} (record { form = form_of f; next = n }) (record { form = form_of g; next = m })
    inner = cc

    found : f ≡ g → n ≡ m → Found f n ≡ Found g m
    found p q = rw (p, q)
one-head (Found f n) Missing e = absurd (let z : ◌≡◌ {A = ℕ} 0 1 = cc in omega arith)
one-head Missing (Found f n) e = absurd (let z : ◌≡◌ {A = ℕ} 0 1 = cc in omega arith)
one-head Missing Missing e = refl
