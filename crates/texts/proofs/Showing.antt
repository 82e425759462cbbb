-- The laws of names as they are shown.
-- Assumes nothing.
use Prim.Native.Nat.{ℕ, ◌+◌, ◌≤◌, ◌<◌}
use mathlib.Core.Path.{◌≡◌, refl, ap, sym, ◌∙◌}
use mathlib.Core.Bool.{Bool, true, false, cond}
use mathlib.Core.List.{List, [], ◌∷◌, ◌++◌, append_assoc, append-nil}
use native.Mathlib.Nat.{add-zero}
use native.Mathlib.Numerals.{add-one}
use native.Mathlib.Omega.{arith}
use lib.ListN.{length, take, get_or}
use lib.Seq.{take-suc, take_all}
use borrow.Author.Rules.{rules}
use Rattle.hexadecimal.specs.Hex.{escaped}
use Rattle.sink.specs.declared.output.Sink.{Sink}
use Rattle.texts.specs.Names.{control, shown_byte, shown}
use Rattle.sink.specs.Sinks.{Adds}
use Rattle.texts.proofs.Laws.{adds-both}

-- `shown_byte`
byte-is : (b : ℕ) {c d : Bool} → c ≡ control b → c ≡ d → shown_byte b ≡ cond d (escaped b) (b ∷ [])
unfolding shown_byte
byte-is b p q = ap (λ (x : Bool). cond x (escaped b) (b ∷ [])) (sym p ∙ q)

module _ {s r : Sink} {out after : List ℕ} (b : ℕ) {c : Bool} where
  pub byte-escaped : c ≡ control b → c ≡ true → {t : List ℕ} → t ≡ escaped b → Adds s out t r after → Adds s out (shown_byte b) r after
  byte-escaped p q e a = rw (byte-is b p q, ← e) a

  pub byte-plain : c ≡ control b → c ≡ false → Adds s out (b ∷ []) r after → Adds s out (shown_byte b) r after
  byte-plain p q a = rw (byte-is b p q) a

pub ruleset shows = (rules, byte-escaped, byte-plain)

-- `name`: i bytes are shown
shown-append : (a b : List ℕ) → shown (a ++ b) ≡ shown a ++ shown b
unfolding shown
shown-append [] b = refl
shown-append (x ∷ a) b = rw (shown-append a b) (sym (append_assoc (shown_byte x) (shown a) (shown b)))

shown-one : (b : ℕ) → shown (b ∷ []) ≡ shown_byte b
unfolding shown
shown-one b = append-nil (shown_byte b)

shown-more : (l : List ℕ) (i : ℕ) → i < length l → shown (take i l) ++ shown_byte (get_or l i 0) ≡ shown (take (i + 1) l)
shown-more l i h = rw (add-one, take-suc l i 0 h, shown-append, shown-one)

pub record Naming (s : Sink) (out bytes : List ℕ) (now : Sink) (at : List ℕ) (i : ℕ) : Type 0 where
  pub within : i ≤ length bytes
  pub sofar : Adds s out (shown (take i bytes)) now at

nothing-added : (s : Sink) (out : List ℕ) → Adds s out [] s out
nothing-added s out = record { waits = λ h. λ j. record { used = sym (add-zero s.used) j; broken = s.broken }; stand = λ h. refl }

pub name-start : (s : Sink) (out bytes : List ℕ) → Naming s out bytes s out 0
unfolding shown
name-start s out bytes = record { within = omega arith; sofar = nothing-added s out }

module _ {s now : Sink} {out bytes at : List ℕ} {i : ℕ} (w : Naming s out bytes now at i) where
  pub name-more : i < length bytes → {r : Sink} {after : List ℕ} → Adds now at (shown_byte (get_or bytes i 0)) r after → Naming s out bytes r after (i + 1)
  name-more h q = record { within = omega arith; sofar = rw (shown-more bytes i h) at (adds-both w.sofar q) }

  pub name-end : length bytes ≤ i → Adds s out (shown bytes) now at
  name-end h = rw (take_all i bytes h) at w.sofar

pub ruleset naming = (rules, name-start, name-more, name-end)
