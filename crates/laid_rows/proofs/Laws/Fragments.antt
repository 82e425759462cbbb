-- The fields of a pair laid over its content, one fragment after the other.
-- Assumes nothing.
use Prim.Native.Nat.{ℕ, suc, ◌+◌, ◌-◌, ◌*◌, ◌≤◌, ◌<◌}
use mathlib.Core.Path.{◌≡◌, refl, ap, sym, ◌∙◌}
use mathlib.Core.Bool.{Bool}
use mathlib.Core.List.{List, [], ◌∷◌}
use mathlib.Core.Option as math
use native.Mathlib.Omega.{arith}
use native.Mathlib.Nat.{add-zero}
use mir.Val.{Fits}
use mir.Syntax.{w64}
use lib.ListN.{length, get_or}
use lib.Seq.{sets, length-sets}
use borrow.Author.Rules.{rules}
use Rattle.format.specs.Pairs.{Fragment}
use Rattle.laws.specs.Rows.{from, fragment}
use Rattle.sites.specs.declared.Filled.{Filled}
use Rattle.references.specs.References.{refers_in}
use Rattle.std.specs.Prelude.{Option}
use Rattle.referred_address.specs.Address.{address_in, told_address}
use Rattle.record_parts.specs.Parts.{fragment_from}
use Rattle.laid_field.specs.Field.{field_by}
use Rattle.laid_rows.specs.Over.{Around, around, address_for, laid_over}

-- ------------------------------------------------------------------ `lay_fragment`

module _ (part bs rows : List ℕ) (i : ℕ) (big : Bool) (width : ℕ) (areas symbols : List ℕ) (filled : Filled) (chosen outside : List ℕ) where
  pub fragment-laid : {mode entry index : ℕ} → mode ≡ get_or rows (3 * i) 0 → entry ≡ get_or rows (3 * i + 1) 0 → index ≡ get_or rows (3 * i + 2) 0 → (to : Option ℕ)
      → ((place : ℕ) → told_address to ≡ address_in chosen outside index (refers_in areas symbols filled (fragment mode entry index) entry place)) → {site : ℕ} → site ≡ entry - width → {part' : List ℕ}
      → part' ≡ sets part site (field_by big site bs mode (told_address to)) → part' ≡ laid_over big width (around areas symbols filled chosen outside) bs (from (fragment_from rows) i 1) part
  unfolding laid_over from fragment_from address_for
  fragment-laid {mode} {entry} {index} em ee ei to f {site} es h =
      h ∙ (ap (λ (o : math.Option ℕ). sets part site (field_by big site bs mode o)) (f 0) ∙ rw (es, em, ee, ei))

pub ruleset laying = (rules, fragment-laid)

-- ------------------------------------------------------------------ `lay_fragments`

pub record Laying (part₀ bs rows : List ℕ) (first n : ℕ) (big : Bool) (width : ℕ) (w : Around) (part : List ℕ) (i : ℕ) : Type 0 where
  pub within : i ≤ n
  pub long : length part ≡ length part₀
  pub rest : laid_over big width w bs (from (fragment_from rows) first n) part₀ ≡ laid_over big width w bs (from (fragment_from rows) (first + i) (n - i)) part

pub laying-start : (part bs rows : List ℕ) (first n : ℕ) (big : Bool) (width : ℕ) (w : Around) → Laying part bs rows first n big width w part 0
laying-start part bs rows first n big width w = let z : n - 0 ≡ n = omega arith in record { within = omega arith; long = refl; rest = rw (z, add-zero) }

over-length : (big : Bool) (width : ℕ) (w : Around) (bs : List ℕ) (fs : List Fragment) (xs : List ℕ) → length (laid_over big width w bs fs xs) ≡ length xs
unfolding laid_over
over-length big width w bs [] xs = refl
over-length big width w bs (f ∷ fs) xs =
    over-length big width w bs fs (sets xs (f.entry - width) (field_by big (f.entry - width) bs f.mode (address_for w f)))
    ∙ length-sets xs (f.entry - width) (field_by big (f.entry - width) bs f.mode (address_for w f))

module _ {part₀ bs rows : List ℕ} {first n : ℕ} {big : Bool} {width : ℕ} {w : Around} {part : List ℕ} {i : ℕ} (g : Laying part₀ bs rows first n big width w part i) where
  pub laying-end : n ≤ i → part ≡ laid_over big width w bs (from (fragment_from rows) first n) part₀
  unfolding laid_over from
  laying-end h = let z : n - i ≡ 0 = omega arith in sym (g.rest ∙ rw z)

  module _ (h : i < n) where
    pub laying-more : {part' : List ℕ} → part' ≡ laid_over big width w bs (from (fragment_from rows) (first + i) 1) part → Laying part₀ bs rows first n big width w part' (i + 1)
    unfolding laid_over from
    laying-more {part'} e =
        let z : n - i ≡ suc (n - (i + 1)) = omega arith in
        let y : first + (i + 1) ≡ suc (first + i) = omega arith in
        record {
          within = omega arith;
          long = ap length e ∙ (over-length big width w bs (from (fragment_from rows) (first + i) 1) part ∙ g.long);
          rest = g.rest ∙ (ap (λ (m : ℕ). laid_over big width w bs (from (fragment_from rows) (first + i) m) part) z ∙ rw (e, y));
        }

    pub laying-low : first ≤ 4294967296 → n ≤ 4294967296 → first + i ≤ 8589934592
    laying-low a b = omega arith

    pub laying-fits : first ≤ 4294967296 → n ≤ 4294967296 → Fits w64 (first + i)
    laying-fits a b = record { fits = omega arith }

pub ruleset looping = (rules, laying-start, laying-end, laying-more, laying-low, laying-fits)
