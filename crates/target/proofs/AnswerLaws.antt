-- The target whole: its number's sign, what the address takes off, the steps one after the other, what is refused, and the class.
-- Assumes nothing.
use Prim.Native.Nat.{ℕ, ◌%◌, ◌*◌, ◌/◌, ◌<◌, ◌≤◌}
use mathlib.Core.Path.{◌≡◌, refl, ap, ◌∙◌}
use mathlib.Core.Bool.{Bool, false, not, true}
use mathlib.Core.List.{List}
use native.Mathlib.Omega.{arith}
use lib.Dec.{lit≤}
use lib.ListN.{get_or, length}
use borrow.Author.Rules.{rules}
use Rattle.format.specs.Lists.{pick}
use Rattle.format.specs.Mode.{Addr11, Addr16, Addr19, Addr24, Byte, Class, Other, bit, class_of, on_site}
use Rattle.format.specs.Outcome.{Outcome, fine, refused}
use Rattle.format.specs.Target.{closing, high, in_block, near, number_bit, signed_number, signed_start, start_of, target, target_of, two_shifted, wrap_add, wrap_sub}
use Rattle.mode.specs.declared.class.JumpType.{JumpType}
use Rattle.class_rows.specs.declared.row.Row.{Row}
use Rattle.mode.specs.Class.{class_named, class_table, told_class}
use Rattle.class_rows.specs.Row.{row_of}
use Rattle.mode.proofs.ClassLaws.{table-names}
use Rattle.target_asked.specs.Asked.{allowed}
use Rattle.target_parts.specs.Parts.{start_by}
use Rattle.target_words.specs.Shifted.{shifted_left, shifted_right}
use Rattle.target_parts.proofs.StartLaws.{bit_is, bit-isnt}
use Rattle.target.specs.Target.{reached_by, relative_of, target_by}

-- the number's sign
module _ {signed : Bool} (h x : ℕ) where
  pub number-unsigned : signed ≡ false → x ≡ signed_number signed h x
  unfolding signed_number
  number-unsigned e = rw e

  module _ {b : ℕ} (e : signed ≡ true) (l : h ≤ 23) (eb : b ≡ shifted_right x h) where
    pub number-clear : (b % 2 ≡ 1 → ⊥) → x ≡ signed_number signed h x
    unfolding signed_number
    number-clear t = rw (e, bit-isnt x h b (omega arith) eb t)

    pub number-set : {p r : ℕ} → b % 2 ≡ 1 → p ≡ shifted_left 2 x → r ≡ wrap_sub x p → r ≡ signed_number signed h x
    unfolding signed_number two_shifted shifted_left
    number-set t ep er = rw (e, bit_is x h b (omega arith) eb t) (rw ep at er)

tested-at-most : (c : Class) (three : Bool) → number_bit c three ≤ 23
tested-at-most Addr19 three = lit≤ tt
tested-at-most Addr11 three = lit≤ tt
tested-at-most Addr24 three = lit≤ tt
tested-at-most Addr16 three = lit≤ tt
tested-at-most Byte three = lit≤ tt
tested-at-most Other true = lit≤ tt
tested-at-most Other false = lit≤ tt

pub tested-small : (c : Class) (three : Bool) {h : ℕ} → h ≡ number_bit c three → h ≤ 23
tested-small c three e = rw e (tested-at-most c three)

-- what the address takes off
module _ (c : JumpType) (m t a : ℕ) {r : ℕ} {b : Bool} (e : b ≡ bit 2 m) where
  pub relative-back : {s w : ℕ} → b ≡ true → s ≡ pick (bit 0 m) 1 2 → w ≡ wrap_add a s → r ≡ wrap_sub t w → r ≡ relative_of (told_class c) m t a
  unfolding relative_of
  relative-back f es ew er = rw (← e, f) (rw (ew, es) at er)

  pub relative-block : b ≡ false → r ≡ in_block (told_class c) t a → r ≡ relative_of (told_class c) m t a
  unfolding relative_of
  relative-block f er = rw (← e, f) er

-- the opcode's three bits as the source has them
ported-start : (c : Class) (big : Bool) (bs : List ℕ) → start_by (get_or bs 0 0 / 32 * 32) c big bs ≡ start_of c big bs
ported-start Addr19 big bs = refl
ported-start Addr11 big bs = refl
ported-start Addr24 big bs = refl
ported-start Addr16 big bs = refl
ported-start Byte big bs = refl
ported-start Other big bs = refl

-- the steps, one after the other
module _ (c : Class) (big : Bool) (m n : ℕ) (bs : List ℕ) (a : ℕ) where
  steps : {b₄ b₈ : Bool} {g h s s' w n' d t r : ℕ}
      → g ≡ high c → b₄ ≡ bit 4 m → b₈ ≡ bit 8 m → h ≡ number_bit c b₈ → s ≡ start_of c big bs → s' ≡ signed_start (not b₄) g s
      → w ≡ n → n' ≡ signed_number (not b₄) h w → d ≡ wrap_sub s' n' → t ≡ relative_of c m d a → r ≡ near (closing c) t a → r ≡ reached_by c big m n bs a
  unfolding reached_by
  steps eg e₄ e₈ eh es es' ew en ed et e = cc

  pub reaches : {row : Row} {b₄ b₈ : Bool} {h o s s' w n' d t r : ℕ}
      → row ≡ row_of c → b₄ ≡ bit 4 m → b₈ ≡ bit 8 m → h ≡ number_bit c b₈ → o ≡ get_or bs 0 0 → o < 256 → s ≡ start_by (o / 32 * 32 % 256) c big bs → s' ≡ signed_start (not b₄) row.high s
      → w ≡ n → n' ≡ signed_number (not b₄) h w → d ≡ wrap_sub s' n' → t ≡ relative_of c m d a → r ≡ near (closing c) t a
      → r ≡ reached_by c big m n bs a
  reaches {o = o} er e₄ e₈ eh eo l es =
      let top : o / 32 * 32 % 256 ≡ o / 32 * 32 = omega arith in
      steps (ap (λ (r : Row). r.high) er) e₄ e₈ eh (es ∙ (rw (top, eo) (ported-start c big bs)))

  -- 14, or the target
  pub refuses : {o : Outcome ℕ} {b : Bool} → b ≡ allowed c m n (length bs) → b ≡ false → o ≡ refused 14 0 → o ≡ target_by c big m n bs a
  unfolding target_by
  refuses e f eo = rw (← e, f) eo

  pub target_at : {r : ℕ} {b : Bool} → b ≡ allowed c m n (length bs) → b ≡ true → r ≡ reached_by c big m n bs a → fine r ≡ target_by c big m n bs a
  unfolding target_by
  target_at e f er = rw (← e, f) (ap fine er)

-- the class out of a table, or by the mode's bits
module _ (big : Bool) (m n : ℕ) (bs : List ℕ) (a : ℕ) where
  pub by-table : {c d : Class} {o : Outcome ℕ} → o ≡ target_by c big m n bs a → c ≡ d → o ≡ target_by d big m n bs a
  by-table e f = rw f at e

  pub by-the-table : {t : List ℕ} {o : Outcome ℕ} → t ≡ class_table → o ≡ target_by (class_named (get_or t (m % 2048) 0)) big m n bs a → o ≡ target big m n bs a
  unfolding target target_of target_by allowed reached_by relative_of on_site
  by-the-table e f = (rw (e, table-names m) at f) ∙ refl

  pub by_bits : {c : Class} {o : Outcome ℕ} → c ≡ class_of m → o ≡ target_by c big m n bs a → o ≡ target big m n bs a
  unfolding target target_of target_by allowed reached_by relative_of on_site
  by_bits e f = (rw e at f) ∙ refl

pub ruleset signing = (rules, number-unsigned, number-clear, number-set, relative-back, relative-block)

pub ruleset targets = (rules, tested-small, reaches, refuses, target_at, by-table, by_bits)
