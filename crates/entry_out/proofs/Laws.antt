-- The laws of A and S lines written part by part.
-- Assumes nothing.
use Prim.Native.Nat.{ℕ, ◌+◌, ◌^◌, ◌<◌}
use mathlib.Core.Path.{◌≡◌, ap, refl, subst, sym, ◌∙◌}
use mathlib.Core.Bool.{Bool, false, true}
use mathlib.Core.List.{List, [], append_assoc, append-nil, ◌++◌, ◌∷◌}
use mathlib.Core.Option as the
use Rattle.std.specs.Prelude.{Option, None, Some}
use native.Mathlib.Omega.{arith}
use native.Mathlib.Nat.{add-zero}
use lib.ListN.{length}
use borrow.Author.Rules.{rules}
use Rattle.format.specs.Header.{Form}
use Rattle.format.specs.Entries.{spelled}
use Rattle.manual.specs.Digits.{digits_of}
use Rattle.manual.specs.Words.{spaced}
use Rattle.manual.specs.WrittenEntries.{kind}
use Rattle.written.specs.Writing.{addr_words, area_text, hex_of, line_ended, symbol_text}
use Rattle.digits_out.specs.Wrote.{Wrote}
use Rattle.digits_out.proofs.Laws.{place_in, then-wrote}
use Rattle.entry_out.specs.EntryOut.{addr_part, area_out, given_addr, hex_specifier, kind_part, symbol_out}

-- the lines are those of every form
pub area-of-any-form : (f : Form) (name : List ℕ) (z g : ℕ) (a : the.Option ℕ) → area_out name z g a ≡ line_ended (area_text (hex_of f) name z g a)
unfolding area_out area_text hex_of
area-of-any-form f name z g the.none = refl
area-of-any-form f name z g (the.some n) = refl

pub symbol-of-any-form : (f : Form) (name : List ℕ) (r : Bool) (v : ℕ) → symbol_out name r v ≡ line_ended (symbol_text (hex_of f) name r v)
unfolding symbol_out symbol_text hex_of
symbol-of-any-form f name r v = refl

pub ruleset parts = (rules, then-wrote)

-- `put_addr`
pub addr-given : (n : ℕ) {t : Option ℕ} {out out₁ : List ℕ} {at r : ℕ} → t ≡ Some n → Wrote ((32 ∷ 97 ∷ 100 ∷ 100 ∷ 114 ∷ 32 ∷ []) ++ digits_of 16 1 n) out at r out₁ → Wrote (addr_part t) out at r out₁
addr-given n e w = rw e w

pub addr-absent : (t : Option ℕ) (out : List ℕ) (at : ℕ) → t ≡ None → at < 2 ^ 64 → Wrote (addr_part t) out at at out
addr-absent t out at e h = rw e (record { place = sym (place_in (at + 0) (omega arith) ∙ add-zero at); stored = refl })

pub ruleset addrs = (rules, addr-given, addr-absent)

-- `put_value`
pub value-ref : (n : ℕ) {t : Bool} {out out₁ : List ℕ} {at r : ℕ} → t ≡ true → Wrote ((32 ∷ 82 ∷ 101 ∷ 102 ∷ []) ++ digits_of 16 1 n) out at r out₁ → Wrote (kind_part t ++ digits_of 16 1 n) out at r out₁
value-ref n e w = rw e w

pub value-def : (n : ℕ) {t : Bool} {out out₁ : List ℕ} {at r : ℕ} → t ≡ false → Wrote ((32 ∷ 68 ∷ 101 ∷ 102 ∷ []) ++ digits_of 16 1 n) out at r out₁ → Wrote (kind_part t ++ digits_of 16 1 n) out at r out₁
value-def n e w = rw e w

pub ruleset values = (rules, value-ref, value-def)

-- `put_area`
regroup : (a b c d e : List ℕ) → (((a ++ b) ++ c) ++ d) ++ e ≡ a ++ (b ++ (c ++ (d ++ e)))
regroup a b c d e = simp append_assoc

area-ended : (name z g tail : List ℕ) → (65 ∷ 32 ∷ (name ++ 32 ∷ 115 ∷ 105 ∷ 122 ∷ 101 ∷ 32 ∷ (z ++ 32 ∷ 102 ∷ 108 ∷ 97 ∷ 103 ∷ 115 ∷ 32 ∷ (g ++ tail)))) ++ 10 ∷ []
    ≡ 65 ∷ 32 ∷ (name ++ 32 ∷ 115 ∷ 105 ∷ 122 ∷ 101 ∷ 32 ∷ (z ++ 32 ∷ 102 ∷ 108 ∷ 97 ∷ 103 ∷ 115 ∷ 32 ∷ (g ++ (tail ++ 10 ∷ []))))
area-ended name z g tail =
    ap (λ (l : List ℕ). 65 ∷ 32 ∷ l) (append_assoc name (32 ∷ 115 ∷ 105 ∷ 122 ∷ 101 ∷ 32 ∷ (z ++ 32 ∷ 102 ∷ 108 ∷ 97 ∷ 103 ∷ 115 ∷ 32 ∷ (g ++ tail))) (10 ∷ [])
    ∙ ap (λ (l : List ℕ). name ++ 32 ∷ 115 ∷ 105 ∷ 122 ∷ 101 ∷ 32 ∷ l) (append_assoc z (32 ∷ 102 ∷ 108 ∷ 97 ∷ 103 ∷ 115 ∷ 32 ∷ (g ++ tail)) (10 ∷ [])
    ∙ ap (λ (l : List ℕ). z ++ 32 ∷ 102 ∷ 108 ∷ 97 ∷ 103 ∷ 115 ∷ 32 ∷ l) (append_assoc g tail (10 ∷ []))))

area-bytes : (name : List ℕ) (z g : ℕ) (t : Option ℕ)
    → (((((65 ∷ 32 ∷ []) ++ name) ++ ((32 ∷ 115 ∷ 105 ∷ 122 ∷ 101 ∷ 32 ∷ []) ++ digits_of 16 1 z)) ++ ((32 ∷ 102 ∷ 108 ∷ 97 ∷ 103 ∷ 115 ∷ 32 ∷ []) ++ digits_of 16 1 g)) ++ addr_part t) ++ 10 ∷ []
    ≡ area_out name z g (given_addr t)
unfolding area_out area_text
area-bytes name z g t =
    regroup ((65 ∷ 32 ∷ []) ++ name) ((32 ∷ 115 ∷ 105 ∷ 122 ∷ 101 ∷ 32 ∷ []) ++ digits_of 16 1 z) ((32 ∷ 102 ∷ 108 ∷ 97 ∷ 103 ∷ 115 ∷ 32 ∷ []) ++ digits_of 16 1 g) (addr_part t) (10 ∷ [])
    ∙ (ap (λ (l : List ℕ). 65 ∷ 32 ∷ (name ++ 32 ∷ 115 ∷ 105 ∷ 122 ∷ 101 ∷ 32 ∷ (digits_of 16 1 z ++ 32 ∷ 102 ∷ 108 ∷ 97 ∷ 103 ∷ 115 ∷ 32 ∷ (digits_of 16 1 g ++ (l ++ 10 ∷ []))))) (tail t)
    ∙ sym (area-ended name (digits_of 16 1 z) (digits_of 16 1 g) (spaced (addr_words hex_specifier (given_addr t)))))
  where
    tail : (t : Option ℕ) → addr_part t ≡ spaced (addr_words hex_specifier (given_addr t))
    tail (Some x) = ap (λ (l : List ℕ). 32 ∷ 97 ∷ 100 ∷ 100 ∷ 114 ∷ 32 ∷ l) (sym (append-nil (digits_of 16 1 x)))
    tail None = refl

pub area-wrote : (name : List ℕ) (z g : ℕ) (t : Option ℕ) {out o₁ o₂ o₃ o₄ o₅ : List ℕ} {at p q r s e : ℕ} → length out < 2 ^ 64 → Wrote ((65 ∷ 32 ∷ []) ++ name) out at p o₁
    → Wrote ((32 ∷ 115 ∷ 105 ∷ 122 ∷ 101 ∷ 32 ∷ []) ++ digits_of 16 1 z) o₁ p q o₂ → Wrote ((32 ∷ 102 ∷ 108 ∷ 97 ∷ 103 ∷ 115 ∷ 32 ∷ []) ++ digits_of 16 1 g) o₂ q r o₃
    → Wrote (addr_part t) o₃ r s o₄ → Wrote (10 ∷ []) o₄ s e o₅ → Wrote (area_out name z g (given_addr t)) out at e o₅
area-wrote name z g t {out} {o₁} {o₂} {o₃} {o₄} {o₅} {at} {p} {q} {r} {s} {e} h a b c d f =
    subst (λ (l : List ℕ). Wrote l out at e o₅) (area-bytes name z g t) (then-wrote h (then-wrote h (then-wrote h (then-wrote h a b) c) d) f)

pub ruleset areas = (rules, area-wrote)

-- `put_symbol`
symbol-bytes : (name : List ℕ) (t : Bool) (v : ℕ) → (((83 ∷ 32 ∷ []) ++ name) ++ (kind_part t ++ digits_of 16 1 v)) ++ 10 ∷ [] ≡ symbol_out name t v
unfolding symbol_out symbol_text
symbol-bytes name t v =
    append_assoc ((83 ∷ 32 ∷ []) ++ name) (kind_part t ++ digits_of 16 1 v) (10 ∷ [])
    ∙ (ap (λ (l : List ℕ). 83 ∷ 32 ∷ (name ++ (l ++ 10 ∷ []))) (tail t)
    ∙ ap (λ (l : List ℕ). 83 ∷ 32 ∷ l) (sym (append_assoc name (32 ∷ ((spelled (kind t) ++ digits_of 16 1 v) ++ [])) (10 ∷ []))))
  where
    tail : (t : Bool) → kind_part t ++ digits_of 16 1 v ≡ 32 ∷ ((spelled (kind t) ++ digits_of 16 1 v) ++ [])
    tail true = ap (λ (l : List ℕ). 32 ∷ l) (sym (append-nil (spelled (kind true) ++ digits_of 16 1 v)))
    tail false = ap (λ (l : List ℕ). 32 ∷ l) (sym (append-nil (spelled (kind false) ++ digits_of 16 1 v)))

pub symbol-wrote : (name : List ℕ) (t : Bool) (v : ℕ) {out o₁ o₂ o₃ : List ℕ} {at p q e : ℕ} → length out < 2 ^ 64 → Wrote ((83 ∷ 32 ∷ []) ++ name) out at p o₁ → Wrote (kind_part t ++ digits_of 16 1 v) o₁ p q o₂
    → Wrote (10 ∷ []) o₂ q e o₃ → Wrote (symbol_out name t v) out at e o₃
symbol-wrote name t v {out} {o₁} {o₂} {o₃} {at} {p} {q} {e} h a b c = subst (λ (l : List ℕ). Wrote l out at e o₃) (symbol-bytes name t v) (then-wrote h (then-wrote h a b) c)

pub ruleset symbols = (rules, symbol-wrote)
