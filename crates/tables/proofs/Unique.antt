-- No second answer fits the contract of group one: neither another answer nor another number in a lent array.
-- Assumes nothing.
use Prim.Native.Nat.{ℕ}
use mathlib.Core.Path.{◌≡◌, refl, ap, sym, ◌∙◌}
use mathlib.Core.Bool.{Bool}
use mathlib.Core.List.{List}
use native.Mathlib.Omega.{arith}
use lib.ListN.{length}
use lib.Seq.{sets}
use Rattle.format.specs.Lists.{flat}
use Rattle.format.specs.Header.{Form}
use Rattle.format.specs.Outcome.{Outcome, fine, refused}
use Rattle.format.specs.Tables.{Tables}
use Rattle.format.specs.Rows.{area_numbers, symbol_numbers}
use Rattle.tables.specs.GroupOne.{Read, Grouped}
use Rattle.tables.specs.declared.group.Found.{Found}
use Rattle.tables.specs.declared.group.Listed.{Listed}
use Rattle.tables.specs.declared.group.Listed.TheVariants.{Done, Refused, TooLong}

pub record Same (a : Listed) (xs ys : List ℕ) (b : Listed) (xs' ys' : List ℕ) : Type 0 where
  pub answer : a ≡ b
  pub areas : xs ≡ xs'
  pub symbols : ys ≡ ys'

tables-of : Tables → Outcome Tables → Tables
tables-of d (fine t) = t
tables-of d (refused n p) = d

module _ (ended : Bool) (f : Form) (text : List ℕ) (at head : ℕ) (xs₀ ys₀ xs₁ ys₁ xs₂ ys₂ : List ℕ) where
  done : (a b : Found) → Read ended f text at head xs₀ ys₀ xs₁ ys₁ a → Read ended f text at head xs₀ ys₀ xs₂ ys₂ b → Same (Done a) xs₁ ys₁ (Done b) xs₂ ys₂
  unfolding tables-of
  done a b u v =
      let t : u.sofar ≡ v.sofar = ap (tables-of u.sofar) (sym u.entries ∙ v.entries) in
      let all : a.areas ≡ b.areas = u.held.area-count ∙ (ap (λ (x : Tables). length x.areas) t ∙ sym v.held.area-count) in
      let names : a.symbols ≡ b.symbols = u.held.symbol-count ∙ (ap (λ (x : Tables). length x.symbols) t ∙ sym v.held.symbol-count) in
      record {
        answer = λ j. Done (record { areas = all j; symbols = names j; next = (sym u.next-is ∙ v.next-is) j; stop = (sym u.stop_is ∙ v.stop_is) j; more = (sym u.more-is ∙ v.more-is) j });
        areas = u.held.areas ∙ (ap (λ (x : Tables). sets xs₀ 0 (flat (area_numbers 0) x.areas)) t ∙ sym v.held.areas);
        symbols = u.held.symbols ∙ (ap (λ (x : Tables). sets ys₀ 0 (flat symbol_numbers x.symbols)) t ∙ sym v.held.symbols);
      }

  never : (a : Tables) (n p : ℕ) {o : Outcome Tables} → o ≡ fine a → o ≡ refused n p → ⊥
  never a n p e h = let z : ◌≡◌ {A = ℕ} 0 1 = cc in omega arith

  pub one-listing : (a b : Listed) → Grouped ended f text at head xs₀ ys₀ xs₁ ys₁ a → Grouped ended f text at head xs₀ ys₀ xs₂ ys₂ b → Same a xs₁ ys₁ b xs₂ ys₂
  unfolding Grouped
  one-listing (Done a) (Done b) u v = done a b u v
  one-listing (Done a) (Refused n p) u v = absurd (never u.sofar n p u.entries v.says)
  one-listing (Done a) TooLong u v = absurd (omega (arith, u.short, v.0))
  one-listing (Refused n p) (Done b) u v = absurd (never v.sofar n p v.entries u.says)
  one-listing (Refused n p) (Refused m q) u v =
      let e : ◌≡◌ {A = Outcome Tables} (refused n p) (refused m q) = sym u.says ∙ v.says in
      let i : n ≡ m = cc in
      let j : p ≡ q = cc in
      record { answer = rw (i, j); areas = u.areas ∙ sym v.areas; symbols = u.symbols ∙ sym v.symbols }
  one-listing (Refused n p) TooLong u v = absurd (omega (arith, u.short, v.0))
  one-listing TooLong (Done b) u v = absurd (omega (arith, v.short, u.0))
  one-listing TooLong (Refused n p) u v = absurd (omega (arith, v.short, u.0))
  one-listing TooLong TooLong u v = record { answer = refl; areas = u.1 ∙ sym v.1; symbols = u.2 ∙ sym v.2 }
