-- The corrected target: the steps one after the other, and what is refused.
-- Assumes nothing.
use Prim.Native.Nat.{ℕ, ◌/◌}
use mathlib.Core.Path.{◌≡◌, refl, sym, ap, ◌∙◌}
use mathlib.Core.Bool.{Bool, false, not, true}
use mathlib.Core.List.{List, [], ◌∷◌}
use denote.Enum.Declared.{tag_of}
use types.Run.{OneOf, miss}
use lib.ListN.{get_or, length}
use borrow.Author.Rules.{rules}
use Rattle.format.specs.Lists.{pick}
use Rattle.format.specs.Mode as the
use Rattle.format.specs.Mode.{Class, bit, class_of, on_site}
use Rattle.format.specs.Outcome.{Outcome, fine, refused}
use Rattle.format.specs.Target.{closing, in_block, near, number_bit, signed_start, wrap_add, wrap_sub}
use Rattle.format.specs.Corrected.{corrected, corrected_block, corrected_high, corrected_of, corrected_start, one-or-two-behind}
use Rattle.mode.specs.declared.class.JumpType.{JumpType}
use Rattle.mode.specs.declared.class.JumpType.TheVariants.{Addr11, Addr16, Addr19, Addr24, Byte, Other}
use Rattle.class_rows.specs.declared.row.Row.{Row}
use Rattle.mode.specs.Class.{told_class}
use Rattle.class_rows.specs.Row.{row_of}
use Rattle.mode.specs.contracts.class.JumpType.{the_type}
use Rattle.target_asked.specs.Asked.{allowed}
use Rattle.target_parts.specs.Parts.{start_by}
use Rattle.corrected.specs.Corrected.{ahead_of, leads_to}

-- the sign bit of the start
others : (c : JumpType) → OneOf (0 ∷ 2 ∷ 3 ∷ 4 ∷ 5 ∷ []) (tag_of the_type c) → (row_of (told_class c)).high ≡ corrected_high (told_class c)
others Addr24 h = refl
others Addr19 h = absurd (miss (0 ∷ 2 ∷ 3 ∷ 4 ∷ 5 ∷ []) 1 tt h)
others Addr16 h = refl
others Addr11 h = refl
others Byte h = refl
others Other h = refl

pub high-plain : (c : JumpType) {r : Row} → OneOf (0 ∷ 2 ∷ 3 ∷ 4 ∷ 5 ∷ []) (tag_of the_type c) → r ≡ row_of (told_class c) → r.high ≡ corrected_high (told_class c)
high-plain c h e = ap (λ (r : Row). r.high) e ∙ others c h

pub high-addr19 : {c : JumpType} → c ≡ Addr19 → 18 ≡ corrected_high (told_class c)
high-addr19 e = rw e

-- what the address adds
module _ (c : JumpType) (m t a : ℕ) {r : ℕ} {b : Bool} (e : b ≡ bit 2 m) where
  pub ahead-next : {s w : ℕ} → b ≡ true → s ≡ pick (bit 0 m) 1 2 → w ≡ wrap_add a s → r ≡ wrap_add t w → r ≡ ahead_of (told_class c) m t a
  unfolding ahead_of
  ahead-next f es ew er = rw (← e, f) (rw (ew, es) at er)

  pub ahead-block : b ≡ false → r ≡ in_block (told_class c) t a → r ≡ ahead_of (told_class c) m t a
  unfolding ahead_of
  ahead-block f er = rw (← e, f) er

-- the opcode's three bits just above the other bytes
its-start : (c : Class) (big : Bool) (bs : List ℕ) → start_by (get_or bs 0 0 / 32) c big bs ≡ corrected_start c big bs
its-start the.Addr19 big bs = refl
its-start the.Addr11 big bs = refl
its-start the.Addr24 big bs = refl
its-start the.Addr16 big bs = refl
its-start the.Byte big bs = refl
its-start the.Other big bs = refl

-- the steps, one after the other
module _ (c : Class) (big : Bool) (m n : ℕ) (bs : List ℕ) (a : ℕ) where
  steps : {b₄ b₈ : Bool} {g h s s' w n' d t r : ℕ}
      → g ≡ corrected_high c → b₄ ≡ bit 4 m → b₈ ≡ bit 8 m → h ≡ number_bit c b₈ → s ≡ corrected_start c big bs
      → s' ≡ signed_start (not b₄) g s → w ≡ n → n' ≡ signed_start (not b₄) h w → d ≡ wrap_sub s' n' → t ≡ ahead_of c m d a → r ≡ near (closing c) t a
      → r ≡ leads_to c big m n bs a
  unfolding leads_to
  steps eg e₄ e₈ eh es es' ew en ed et e = cc

  pub leads : {b₄ b₈ : Bool} {g h o s s' w n' d t r : ℕ}
      → b₄ ≡ bit 4 m → b₈ ≡ bit 8 m → h ≡ number_bit c b₈ → o ≡ get_or bs 0 0 → g ≡ corrected_high c → s ≡ start_by (o / 32) c big bs
      → s' ≡ signed_start (not b₄) g s → w ≡ n → n' ≡ signed_start (not b₄) h w → d ≡ wrap_sub s' n' → t ≡ ahead_of c m d a → r ≡ near (closing c) t a
      → r ≡ leads_to c big m n bs a
  leads e₄ e₈ eh eo eg es = steps eg e₄ e₈ eh (es ∙ (rw eo (its-start c big bs)))

-- the code's steps are the definition's
same_block : (c : Class) (t a : ℕ) → in_block c t a ≡ corrected_block c t a
same_block the.Addr19 t a = refl
same_block the.Addr11 t a = refl
same_block the.Addr24 t a = refl
same_block the.Addr16 t a = refl
same_block the.Byte t a = refl
same_block the.Other t a = refl

its-leading : (big : Bool) (m n : ℕ) (bs : List ℕ) (a : ℕ) → leads_to (class_of m) big m n bs a ≡ corrected_of big m n bs a
unfolding leads_to ahead_of corrected_of
its-leading big m n bs a = rw (one-or-two-behind m, same_block)

-- 14, or the target
its-test : (big : Bool) (m n : ℕ) (bs : List ℕ) (a : ℕ)
    → corrected big m n bs a ≡ pick (allowed (class_of m) m n (length bs)) (fine (corrected_of big m n bs a)) (refused 14 0)
unfolding corrected allowed on_site
its-test big m n bs a = refl

module _ (big : Bool) (m n : ℕ) (bs : List ℕ) (a : ℕ) {c : Class} (ec : c ≡ class_of m) {b : Bool} (e : b ≡ allowed c m n (length bs)) where
  pub corrected-refuses : {o : Outcome ℕ} → b ≡ false → o ≡ refused 14 0 → o ≡ corrected big m n bs a
  corrected-refuses f eo = rw (its-test, ← ec, ← e, f) eo

  pub corrected-at : {r : ℕ} → b ≡ true → r ≡ leads_to c big m n bs a → fine r ≡ corrected big m n bs a
  corrected-at f er = rw (its-test, ← ec, ← e, f) (ap fine ((rw ec at er) ∙ its-leading big m n bs a))

pub ruleset correcting = (rules, high-plain, high-addr19, ahead-next, ahead-block, leads, corrected-refuses, corrected-at)
