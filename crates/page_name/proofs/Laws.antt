-- The laws of names in a page: a law for each return, and the loop's invariant.
-- Assumes nothing.
use Prim.Native.Nat.{ℕ, ◌+◌, ◌≤◌, ◌<◌}
use mathlib.Core.Path.{◌≡◌, refl, sym}
use mathlib.Core.List.{List, [], ◌∷◌, ◌++◌, append_assoc, append-nil}
use native.Mathlib.Nat.{add-zero}
use native.Mathlib.Numerals.{add-one}
use native.Mathlib.Omega.{arith}
use lib.ListN.{length, take, get_or}
use lib.Seq.{take-suc, take_all}
use borrow.Author.Rules.{rules}
use borrow.Author.Tests.{eq-eqb, ne_eqb}
use Rattle.sink.specs.declared.output.Sink.{Sink}
use Rattle.sink.specs.Sinks.{Adds}
use Rattle.texts.specs.Names.{shown}
use Rattle.texts.proofs.Laws.{adds-both}
use Rattle.page_name.specs.Names.{in_page, page_byte, quoted_byte, less, greater, ampersand, quote, apostrophe}

module _ {s r : Sink} {out after : List ℕ} (b : ℕ) where
  -- `quoted_byte`
  pub of-quote : b ≡ 34 → Adds s out quote r after → Adds s out (quoted_byte b) r after
  unfolding quoted_byte
  of-quote h a = rw (eq-eqb b 34 h) a

  pub of-apostrophe : (b ≡ 34 → ⊥) → b ≡ 39 → Adds s out apostrophe r after → Adds s out (quoted_byte b) r after
  unfolding quoted_byte
  of-apostrophe g h a = rw (ne_eqb b 34 g, eq-eqb b 39 h) a

  pub of-any : (b ≡ 34 → ⊥) → (b ≡ 39 → ⊥) → Adds s out (shown (b ∷ [])) r after → Adds s out (quoted_byte b) r after
  unfolding quoted_byte
  of-any g h a = rw (ne_eqb b 34 g, ne_eqb b 39 h) a

  -- `page_byte`
  pub of-less : b ≡ 60 → Adds s out less r after → Adds s out (page_byte b) r after
  unfolding page_byte
  of-less h a = rw (eq-eqb b 60 h) a

  module _ (n : b ≡ 60 → ⊥) where
    pub of-greater : b ≡ 62 → Adds s out greater r after → Adds s out (page_byte b) r after
    unfolding page_byte
    of-greater h a = rw (ne_eqb b 60 n, eq-eqb b 62 h) a

    module _ (m : b ≡ 62 → ⊥) where
      pub of-ampersand : b ≡ 38 → Adds s out ampersand r after → Adds s out (page_byte b) r after
      unfolding page_byte
      of-ampersand h a = rw (ne_eqb b 60 n, ne_eqb b 62 m, eq-eqb b 38 h) a

      pub of_other : (b ≡ 38 → ⊥) → Adds s out (quoted_byte b) r after → Adds s out (page_byte b) r after
      unfolding page_byte
      of_other h a = rw (ne_eqb b 60 n, ne_eqb b 62 m, ne_eqb b 38 h) a

pub ruleset bytes = (rules, of-quote, of-apostrophe, of-any, of-less, of-greater, of-ampersand, of_other)

-- `name`: i bytes are there
page-append : (a b : List ℕ) → in_page (a ++ b) ≡ in_page a ++ in_page b
unfolding in_page
page-append [] b = refl
page-append (x ∷ a) b = rw (page-append a b) (sym (append_assoc (page_byte x) (in_page a) (in_page b)))

page-one : (b : ℕ) → in_page (b ∷ []) ≡ page_byte b
unfolding in_page
page-one b = append-nil (page_byte b)

page-more : (l : List ℕ) (i : ℕ) → i < length l → in_page (take i l) ++ page_byte (get_or l i 0) ≡ in_page (take (i + 1) l)
page-more l i h = rw (add-one, take-suc l i 0 h, page-append, page-one)

pub record Naming (s : Sink) (out bytes : List ℕ) (now : Sink) (at : List ℕ) (i : ℕ) : Type 0 where
  pub within : i ≤ length bytes
  pub sofar : Adds s out (in_page (take i bytes)) now at

nothing-added : (s : Sink) (out : List ℕ) → Adds s out [] s out
nothing-added s out = record { waits = λ h. λ j. record { used = sym (add-zero s.used) j; broken = s.broken }; stand = λ h. refl }

pub name-start : (s : Sink) (out bytes : List ℕ) → Naming s out bytes s out 0
unfolding in_page
name-start s out bytes = record { within = omega arith; sofar = nothing-added s out }

module _ {s now : Sink} {out bytes at : List ℕ} {i : ℕ} (w : Naming s out bytes now at i) where
  pub name-more : i < length bytes → {r : Sink} {after : List ℕ} → Adds now at (page_byte (get_or bytes i 0)) r after → Naming s out bytes r after (i + 1)
  name-more h q = record { within = omega arith; sofar = rw (page-more bytes i h) at (adds-both w.sofar q) }

  pub name-end : length bytes ≤ i → Adds s out (in_page bytes) now at
  name-end h = rw (take_all i bytes h) at w.sofar

pub ruleset naming = (rules, name-start, name-more, name-end)
