-- A pair laid out: its content, the part that is laid, and the pair.
-- Assumes nothing.
use Prim.Native.Nat.{ℕ, suc, min, ◌-◌}
use mathlib.Core.Path.{◌≡◌, refl, ap, sym, ◌∙◌}
use mathlib.Core.Bool.{Bool, true, false}
use mathlib.Core.List.{List, [], ◌∷◌}
use native.Mathlib.Omega.{arith}
use lib.Dec.{leb}
use lib.ListN.{length, set, take, drop, replicate, length-take, length-replicate}
use lib.Seq.{sets, sets-eq, set_out, take-set-le, take-set-lt, take_all, take-length, take-take, take_at}
use borrow.Author.Rules.{rules}
use borrow.Author.Tests.{leb-true, leb-false}
use Rattle.format.specs.Pairs.{Fragment}
use Rattle.laws.specs.Rows.{from}
use Rattle.homes.specs.Home.{home_at}
use Rattle.sites.specs.declared.Filled.{Filled}
use Rattle.record_parts.specs.Parts.{fragment_from}
use Rattle.laid_rows.specs.declared.span.Span.{Span}
use Rattle.laid_field.specs.Field.{field_by}
use Rattle.laid_rows.specs.Over.{Around, around, address_for, laid_over, row_at, SpannedBy, span_of, span_over, row_over, PartIs, PartLaid}

-- ------------------------------------------------------------------ `lay_over`

take-set : (n : ℕ) (xs : List ℕ) (i v : ℕ) → take n (set xs i v) ≡ set (take n xs) i v
take-set n xs i v = go (leb n i) refl
  where
    go : (b : Bool) → leb n i ≡ b → take n (set xs i v) ≡ set (take n xs) i v
    go true e = let l = leb-true n i e in take-set-le n xs i v l ∙ sym (set_out (take n xs) i v (omega (arith, length-take n xs)))
    go false e = take-set-lt n xs i v (leb-false n i e)

pub take-sets : (n : ℕ) (vs xs : List ℕ) (i : ℕ) → take n (sets xs i vs) ≡ sets (take n xs) i vs
take-sets n [] xs i = refl
take-sets n (v ∷ vs) xs i = take-sets n vs (set xs i v) (suc i) ∙ ap (λ (l : List ℕ). sets l (suc i) vs) (take-set n xs i v)

take-over : (n : ℕ) (big : Bool) (width : ℕ) (w : Around) (bs : List ℕ) (fs : List Fragment) (xs : List ℕ) → take n (laid_over big width w bs fs xs) ≡ laid_over big width w bs fs (take n xs)
unfolding laid_over
take-over n big width w bs [] xs = refl
take-over n big width w bs (f ∷ fs) xs =
    let vs = field_by big (f.entry - width) bs f.mode (address_for w f) in
    take-over n big width w bs fs (sets xs (f.entry - width) vs) ∙ ap (laid_over big width w bs fs) (take-sets n vs xs (f.entry - width))

take_min : (a b : ℕ) (xs : List ℕ) → take (min a b) xs ≡ take b (take a xs)
take_min a b xs = go (leb a b) refl
  where
    go : (t : Bool) → leb a b ≡ t → take (min a b) xs ≡ take b (take a xs)
    go true e =
        let l = leb-true a b e in
        let m : min a b ≡ a = omega arith in
        rw m (sym (take_all b (take a xs) (omega (arith, length-take a xs))))
    go false e =
        let l = leb-false a b e in
        let m : min a b ≡ b = omega arith in
        rw m (sym (take-take b a xs (omega arith)))

-- `lay_content`
module _ (part₀ bs : List ℕ) (fs : List Fragment) (big : Bool) (width : ℕ) (w : Around) where
  pub content-laid : length part₀ ≡ 256 → {n : ℕ} → n ≡ length bs → {part part' : List ℕ} → part ≡ sets part₀ 0 (take n bs) → part' ≡ laid_over big width w bs fs part → PartIs big width w bs fs part'
  content-laid lp {n} en {part} {part'} ep el = record {
    lays = λ h.
        let first : take (length bs) part ≡ bs =
        ap (take (length bs)) (ep ∙ (ap (λ (m : ℕ). sets part₀ 0 (take m bs)) en ∙ (ap (λ (l : List ℕ). sets part₀ 0 l) (take-length bs) ∙ sets-eq bs part₀ 0 (omega arith)))) ∙ take_at bs _ (length bs) refl in
        ap (take (length bs)) el ∙ (take-over (length bs) big width w bs fs part ∙ ap (laid_over big width w bs fs) first);
  }

pub ruleset contents = (rules, content-laid)

-- `lay_part`
pub zeros : (n : ℕ) → length {A = ℕ} (replicate n 0) ≡ n
zeros n = length-replicate {A = ℕ} n 0

module _ (out bs : List ℕ) (place limit : ℕ) (fs : List Fragment) (big : Bool) (width : ℕ) (w : Around) where
  pub part-laid : {part : List ℕ} → PartIs big width w bs fs part → {m n : ℕ} → n ≡ length bs → m ≡ min n limit → {out' : List ℕ} → out' ≡ sets out place (take m part) → PartLaid big width w bs fs place limit out out'
  part-laid {part} a {m} {n} en em {out'} eo = record {
    lays = λ h. eo ∙ ap (λ (l : List ℕ). sets out place l) (ap (λ (k : ℕ). take k part) (em ∙ ap (λ (k : ℕ). min k limit) en) ∙ (take_min (length bs) limit part ∙ ap (take limit) (a.lays h)));
  }

pub ruleset parts = (rules, zeros, part-laid)

-- ------------------------------------------------------------------ `lay_pair`

module _ (big : Bool) (width : ℕ) (areas symbols : List ℕ) (filled : Filled) (chosen outside pairs content rows : List ℕ) (k : ℕ) (out : List ℕ) where
  pub pair-laid : {s : Span} → SpannedBy (row_at pairs k) (home_at areas filled.areas (row_at pairs k).area) (length content) s → {out' : List ℕ}
      → PartLaid big width (around areas symbols filled chosen outside) (take (s.end - s.begin) (drop s.begin content)) (from (fragment_from rows) s.first s.many) s.at s.limit out out'
      → out' ≡ row_over big width (around areas symbols filled chosen outside) pairs content rows k out
  unfolding row_over span_over span_of
  pair-laid {s} a b =
      b.lays (omega (arith, a.few, length-take (s.end - s.begin) (drop s.begin content)))
      ∙ ap (λ (x : Span). span_over big width (around areas symbols filled chosen outside) content rows x out) a.is

pub ruleset pairing = (rules, pair-laid)
