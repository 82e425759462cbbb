-- The usual forms of the fields of an A line: what the definition reads where they stand.
-- Assumes nothing.
use Prim.Native.Nat.{ℕ, ◌+◌, ◌-◌, ◌<◌, ◌≤◌, ◌^◌}
use mathlib.Core.Path.{◌≡◌, refl, sym, ◌∙◌}
use mathlib.Core.Bool.{Bool, true, false, false≢true}
use mathlib.Core.List.{List, [], ◌∷◌}
use native.Mathlib.Omega.{arith}
use lib.ListN.{length, get_or}
use mir.Val.{Fits}
use mir.Syntax.{w64}
use borrow.Author.Rules.{rules}
use Rattle.format.specs.Number.{number}
use Rattle.format.specs.Got.{Got}
use Rattle.format.specs.Entries.{spelled, flags, field}
use Rattle.scan.proofs.Laws.Kinds.{one-space}
use Rattle.scan.proofs.Laws.Words.{Words, word-start, word_more}
use Rattle.fields.specs.Due.{Due}
use Rattle.std.specs.Prelude.{Ok}
use Rattle.fields.proofs.Laws.Fields.{one-lead, due-here, due-before}
use Rattle.entry_parts.specs.Usual.{Four, Worded}
use Rattle.entry_parts.proofs.Laws.Parts.{field-3}

-- `four_of`
pub four-of : (s : List ℕ) (at : ℕ) {a b c d : ℕ} {e f g h : Bool}
    → Due (get_or s (at + 1) 0) a true e → Due (get_or s (at + 2) 0) b e f → Due (get_or s (at + 3) 0) c f g → Due (get_or s (at + 4) 0) d g h → Four s at a b c d h
four-of s at we wf wg wh = record {
  first = λ z. due-here we (due-before wf (due-before wg (due-before wh z)));
  second = λ z. due-here wf (due-before wg (due-before wh z));
  third = λ z. due-here wg (due-before wh z);
  fourth = λ z. due-here wh z;
}

pub ruleset fours = (rules, four-of)

-- one letter more of a word
letter-more : {w s : List ℕ} {from i p : ℕ} → Words w s from i p → i < length w → p < length s → get_or s p 0 ≡ get_or w i 0 → {q : ℕ} → q ≡ p + 1 → Words w s from (i + 1) q
letter-more o h l e z = rw z (word_more o h l (sym e))

module _ (w s : List ℕ) (at : ℕ) where
  four-letters : {r : Bool} → Four s at (get_or w 0 0) (get_or w 1 0) (get_or w 2 0) (get_or w 3 0) r → r ≡ true → 4 ≤ length w → at + 5 ≤ length s → Words w s (at + 1) 4 (at + 5)
  four-letters u z h k =
      let a = letter-more (word-start w s (at + 1)) (omega arith) (omega arith) (u.first z) {q = at + 2} (omega arith) in
      let b = letter-more a (omega arith) (omega arith) (u.second z) {q = at + 3} (omega arith) in
      let c = letter-more b (omega arith) (omega arith) (u.third z) {q = at + 4} (omega arith) in
      letter-more c (omega arith) (omega arith) (u.fourth z) {q = at + 5} (omega arith)

  -- a word between single spaces
  one_field : {i q : ℕ} → Words w s (at + 1) i q → length w ≤ i → 0 < i → get_or s at 0 ≡ 32 → 32 < get_or s (at + 1) 0 → q + 2 ≤ length s → get_or s q 0 ≡ 32 → 32 < get_or s (q + 1) 0
      → {n : ℕ} → n ≡ q + 1 → (radix : ℕ) → field w radix s at ≡ number radix s n
  one_field {i} {q} o l m e b h f c {n} z radix =
      let k : at + 2 ≤ length s = omega (arith, o.place) in
      rw z (sym (field-3 w radix s at (one-space s at k e b) (λ x. omega arith) {l = Ok (q + 1)} (sym (one-lead s q h f c o l m)) refl refl))

-- `usual_four`, `usual_flags`
pub worded-none : (w s : List ℕ) (at next : ℕ) → Worded w s at next false
worded-none w s at next = record { inside = λ e. absurd (false≢true e); read = λ e. absurd (false≢true e) }

module _ (s : List ℕ) (at : ℕ) (e : get_or s at 0 ≡ 32) where
  pub worded-four : {a b c d : ℕ} → 32 < a → 7 ≤ length s → at ≤ length s - 7 → get_or s (at + 5) 0 ≡ 32 → 32 < get_or s (at + 6) 0
      → {r : Bool} → Four s at a b c d r → Worded (a ∷ b ∷ c ∷ d ∷ []) s at (at + 6) r
  worded-four {a} {b} {c} {d} x h k f g u = record {
    inside = λ z. omega arith;
    read = λ z.
        let o = four-letters (a ∷ b ∷ c ∷ d ∷ []) s at u z (omega arith) (omega arith) in
        let y : at + 5 + 1 ≡ at + 6 = omega arith in
        one_field (a ∷ b ∷ c ∷ d ∷ []) s at o (omega arith) (omega arith) e (omega (arith, u.first z)) (omega arith) f (rw y g) (omega arith);
  }

  pub worded-flags : 8 ≤ length s → at ≤ length s - 8 → get_or s (at + 5) 0 ≡ 115 → get_or s (at + 6) 0 ≡ 32 → 32 < get_or s (at + 7) 0
      → {r : Bool} → Four s at 102 108 97 103 r → Worded (spelled flags) s at (at + 7) r
  worded-flags h k l f g u = record {
    inside = λ z. omega arith;
    read = λ z.
        let o = letter-more (four-letters (spelled flags) s at u z (omega arith) (omega arith)) (omega arith) (omega arith) l {q = at + 6} (omega arith) in
        let y : at + 6 + 1 ≡ at + 7 = omega arith in
        one_field (spelled flags) s at o (omega arith) (omega arith) e (omega (arith, u.first z)) (omega arith) f (rw y g) (omega arith);
  }

pub ruleset words = (rules, worded-none, worded-four, worded-flags)

-- a field in its usual form
module _ {w s : List ℕ} {at next : ℕ} {r : Bool} (u : Worded w s at next r) (g : r ≡ true) where
  pub usual-field : (radix : ℕ) {x : Got ℕ} → x ≡ number radix s next → x ≡ field w radix s at
  usual-field radix i = i ∙ sym (u.read g radix)

  pub usual-fits : length s < 2 ^ 64 → Fits w64 next
  usual-fits k = record { fits = omega (arith, u.inside g) }

pub ruleset usual = (rules, usual-field, usual-fits)
