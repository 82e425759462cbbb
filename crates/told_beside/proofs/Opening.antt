-- A text that was read has a header, and the code's look at it finds the reading's form and the place behind its line end.
-- Assumes nothing.
use Prim.Native.Nat.{ℕ, suc, ◌+◌, ◌<◌, ◌^◌}
use mathlib.Core.Path.{◌≡◌, ap, ◌∙◌}
use mathlib.Core.Bool.{true}
use mathlib.Core.List.{List}
use mathlib.Core.Option.{none, some}
use native.Mathlib.Omega.{arith}
use lib.ListN.{length, drop, length-drop}
use mir.Val.{Fits}
use mir.Syntax.{w64}
use Rattle.format.specs.Header as the
use Rattle.format.specs.Lines.{end_length}
use Rattle.format.specs.Outcome.{fine}
use Rattle.format.specs.Records.{Parsed, parsed}
use Rattle.laws.proofs.Opened.{opened, opens}
use Rattle.header.specs.Told.{form_of, told_head}
use Rattle.header.specs.declared.Form.{Form}
use Rattle.header.specs.declared.Head.{Head}
use Rattle.header.specs.declared.Head.TheVariants.{Found, Missing}
use Rattle.halt.proofs.Stop.{end-in}

module _ (text : List ℕ) {p : Parsed} (was : parsed true text ≡ fine p) {h : Head} (e : told_head h ≡ the.header text) where
  pub header-there : h ≡ Missing → {A : Type 0} → A
  header-there g =
      let none-there : none ≡ the.header text = rw g at e in
      let z : ◌≡◌ {A = ℕ} 0 1 = cc (none-there ∙ (opens text p was).is-head) in
      let y : ⊥ = omega arith in
      absurd y

  module _ {f : Form} {n : ℕ} (g : h ≡ Found f n) where
    head-is : record { form = form_of f; next = n } ≡ (opens text p was).h
    head-is =
        let found : some (record { form = form_of f; next = n }) ≡ the.header text = rw g at e in
        cc (found ∙ (opens text p was).is-head)

    pub form-read : form_of f ≡ p.form
    unfolding opened
    form-read = ap (λ (x : the.Head). x.form) head-is ∙ ap (λ (x : Parsed). x.form) (opens text p was).same

    module _ {k : ℕ} (i : k ≡ end_length (drop n text)) where
      long : k ≡ suc (opens text p was).e
      long = i ∙ ap (λ (x : the.Head). end_length (drop x.next text)) head-is ∙ (opens text p was).is-end

      pub head-fits : length text < 2 ^ 64 → Fits w64 (n + k)
      head-fits z = record { fits = omega (arith, long, i, end-in (drop n text), length-drop n text) }

      pub head_read : n + k ≡ p.head
      unfolding opened
      head_read =
          ap (λ (x : ℕ). n + x) long
          ∙ ap (λ (x : the.Head). x.next + suc (opens text p was).e) head-is
          ∙ ap (λ (x : Parsed). x.head) (opens text p was).same
