-- One law for each return.
-- Assumes nothing.
use Prim.Native.Nat.{ℕ, suc, ◌+◌, ◌-◌, ◌<◌, ◌^◌}
use mathlib.Core.Path.{◌≡◌, ap, sym, ◌∙◌}
use mathlib.Core.Bool.{Bool, false, not, true}
use mathlib.Core.List.{List}
use native.Mathlib.Omega.{arith}
use lib.ListN.{drop, length, length-drop}
use mir.Val.{Fits}
use mir.Syntax.{w64}
use borrow.Author.Rules.{rules}
use Rattle.format.specs.Header.{header}
use Rattle.format.specs.Lines.{end_length}
use Rattle.format.specs.Lists.{pick}
use Rattle.format.specs.Reading as paper
use Rattle.scan.proofs.Laws.Tests.{was-no, was-yes}
use Rattle.halt.proofs.Stop.{end-in}
use Rattle.header.specs.Told.{form_of, told_head}
use Rattle.header.specs.declared.Form.{Form}
use Rattle.header.specs.declared.Head.{Head}
use Rattle.header.specs.declared.Head.TheVariants.{Found, Missing}
use Rattle.way_in.specs.WayIn.{takes_by}
use Rattle.answer.specs.Answer.{AcceptedIs, Answer, refusal, told}
use Rattle.opening.specs.Opening.{Opens, answered, behind_header, header_alone, lines, opening, opening_from}

-- `header_only`
pub header_refused : {ended : Bool} (n e : ℕ) → ended ≡ true → told (refusal 4 0) ≡ header_alone ended n e
header_refused n e h = rw h

pub header-accepted : {ended : Bool} (n e : ℕ) → ended ≡ false → {r : Answer} → AcceptedIs (record { areas = 0; symbols = 0; lines = 0; kept = 0; positions = 0; fixups = 0 }) n e r → told r ≡ header_alone ended n e
header-accepted n e h w = rw h w.accepts

pub ruleset header-alone = (rules, header_refused, header-accepted)

-- `open`
module _ (every ended : Bool) (s : List ℕ) {h : Head} (e : told_head h ≡ header s) where
  pub open_none : h ≡ Missing → {x : Opens} → x ≡ answered (paper.refusal 4 0) → x ≡ opening every ended s
  unfolding opening opening_from
  open_none g q = rw (← e, g) q

  module _ {f : Form} {n : ℕ} (g : h ≡ Found f n) {k : ℕ} (i : k ≡ end_length (drop n s)) where
    here : opening every ended s ≡ behind_header every ended (length s) (form_of f) n k
    unfolding opening opening_from
    here = rw (← e, g, ← i)

    pub open-only : k ≡ 0 → {a : paper.Answer} → a ≡ header_alone ended (length s) n → answered a ≡ opening every ended s
    unfolding behind_header
    open-only z q = ap answered q ∙ sym (here ∙ ap (behind_header every ended (length s) (form_of f) n) z)

    module _ (z : k ≡ 0 → ⊥) where
      pub open-fits : length s < 2 ^ 64 → Fits w64 (n + k)
      open-fits l = record { fits = omega (arith, i, end-in (drop n s), length-drop n s) }

      behind : opening every ended s ≡ pick (takes_by every ended f.radix) (lines (form_of f) (n + k) (pick ended (n + k) n)) (answered (paper.refusal 18 0))
      unfolding behind_header
      behind = let y : k ≡ suc (k - 1) = omega arith in here ∙ (ap (behind_header every ended (length s) (form_of f) n) y ∙ rw (← y))

      -- a header that is not taken
      pub open-18 : {t : Bool} → t ≡ takes_by every ended f.radix → not t ≡ true → {x : Opens} → x ≡ answered (paper.refusal 18 0) → x ≡ opening every ended s
      open-18 {t} j c q =
          q ∙ sym (behind ∙ ap (λ (b : Bool). pick b (lines (form_of f) (n + k) (pick ended (n + k) n)) (answered (paper.refusal 18 0))) (sym j ∙ was-no t c))

      module _ {t : Bool} (j : t ≡ takes_by every ended f.radix) (c : not t ≡ false) where
        taken : opening every ended s ≡ lines (form_of f) (n + k) (pick ended (n + k) n)
        taken = behind ∙ ap (λ (b : Bool). pick b (lines (form_of f) (n + k) (pick ended (n + k) n)) (answered (paper.refusal 18 0))) (sym j ∙ was-yes t c)

        pub open-ended : ended ≡ true → lines (form_of f) (n + k) (n + k) ≡ opening every ended s
        open-ended b = sym (taken ∙ ap (λ (x : Bool). lines (form_of f) (n + k) (pick x (n + k) n)) b)

        pub open_plain : ended ≡ false → lines (form_of f) (n + k) n ≡ opening every ended s
        open_plain b = sym (taken ∙ ap (λ (x : Bool). lines (form_of f) (n + k) (pick x (n + k) n)) b)

pub ruleset opens = (rules, open_none, open-only, open-fits, open-18, open-ended, open_plain)
