-- What the proofs of the entries without fragments share, and that the walk for fixup rows does nothing at them.
-- Assumes nothing.
use Prim.Native.Nat.{ℕ, zero, suc, ◌+◌, ◌≤◌, ◌<◌}
use mathlib.Core.Path.{◌≡◌, refl, sym, ◌∙◌}
use mathlib.Core.Bool.{Bool, true, false, ◌&&◌}
use mathlib.Core.List.{List}
use native.Mathlib.Omega.{arith}
use lib.Dec.{eqb, ltb}
use lib.ListN.{get_or}
use borrow.Author.Rules.{rules}
use borrow.Author.Tests.{eqb-true, eqb-false}
use Rattle.format.specs.Lists.{pick}
use Rattle.format.specs.Mode.{gives}
use Rattle.format.specs.Outcome.{Outcome, fine}
use Rattle.format.specs.Fixups.{Site, Fixup, fixup_at, fixups_at}
use Rattle.laws.specs.Rows.{from}
use Rattle.sites.specs.Columns.{fragment_at, fragments_in}
use Rattle.fixups.specs.Next.{Nearer, NearerAt, Clear}
use Rattle.fixups.specs.Walk.{fixups_walk}

-- `nearer_at`: m is the fragment's mode, g whether it can give a fixup
module _ (ms es : List ℕ) (i e r : ℕ) {m : ℕ} (em : m ≡ get_or ms i 0) {g : Bool} (eg : g ≡ gives m) where
  gives-is : gives (get_or ms i 0) ≡ g
  gives-is = rw (← em) (sym eg)

  pub near-gives : g ≡ true → {x : ℕ} → x ≡ get_or es i 0 → {y : ℕ} → Nearer x e r y → NearerAt ms es i e r y
  near-gives h ex n = record { most = n.most; least = λ q. rw ex at n.least; above = n.above }

  pub near-dull : g ≡ false → NearerAt ms es i e r r
  near-dull h = record { most = omega arith; least = λ q. let z : false ≡ true = sym (gives-is ∙ h) ∙ q in let y : ◌≡◌ {A = ℕ} 0 1 = cc in absurd (omega arith); above = λ q. q }

pub ruleset nearing = (rules, near-gives, near-dull)

-- `next_at`: i fragments are seen
pub record Seeking (ms es : List ℕ) (c e r i : ℕ) : Type 0 where
  pub within : i ≤ c
  pub clear : Clear ms es i e r

pub seek-start : (ms es : List ℕ) (c e : ℕ) → e < 4294967296 → Seeking ms es c e 4294967295 0
seek-start ms es c e h = record { within = omega arith; clear = record { above = omega arith; none = λ i l q g. absurd (omega arith) } }

-- y at most the entry of the fragment j, the last one seen or one before it
with-one : (ms es : List ℕ) (e i j y : ℕ) (b : Bool) → eqb j i ≡ b → j < i + 1 → gives (get_or ms j 0) ≡ true → e ≤ get_or es j 0
    → (gives (get_or ms i 0) ≡ true → e ≤ get_or es i 0 → y ≤ get_or es i 0) → (j < i → y ≤ get_or es j 0) → y ≤ get_or es j 0
with-one ms es e i j y true q l v g h f = let z : j ≡ i = eqb-true j i q in rw z (h (rw z at v) (rw z at g))
with-one ms es e i j y false q l v g h f = let n : j ≡ i → ⊥ = eqb-false j i q in f (omega arith)

module _ {ms es : List ℕ} {c e r i : ℕ} (w : Seeking ms es c e r i) where
  pub seek-end : c ≤ i → Clear ms es c e r
  seek-end h = let z : i ≡ c = omega (arith, w.within) in rw z at w.clear

  pub seek-more : i < c → {y : ℕ} → NearerAt ms es i e r y → Seeking ms es c e y (i + 1)
  seek-more h {y} n = record {
    within = omega arith;
    clear = record {
      above = n.above w.clear.above;
      none = λ j l v g. with-one ms es e i j y (eqb j i) refl l v g n.least (λ m. omega (arith, n.most, w.clear.none j m v g));
    };
  }

pub ruleset seeking = (rules, seek-start, seek-end, seek-more)

-- `next_from`
module _ (ms es : List ℕ) (c x e : ℕ) where
  pub next-kept : e ≤ x → (d : ℕ) → d ≤ e → Clear ms es c d x → Clear ms es c e x
  next-kept h d l w = record { above = h; none = λ i m q g. w.none i m q (omega arith) }

  pub next-new : {r : ℕ} → Clear ms es c e r → (d : ℕ) → d ≤ e → Clear ms es c d x → Clear ms es c e r
  next-new n d l w = n

pub ruleset onward = (rules, next-kept, next-new)

-- ------------------------------------------------------------------ the walk for fixup rows

-- an entry at which no fragment stands that can give a fixup gives no row
not-both : (a b : Bool) → (a ≡ true → b ≡ true → ⊥) → (a && b) ≡ false
not-both true true h = absurd (h refl refl)
not-both true false h = refl
not-both false b h = refl

none-stands : (w : Site) (entry position i : ℕ) (ms es xs : List ℕ) (m : ℕ) (ys : List Fixup) → ((j : ℕ) → j < i + m → gives (get_or ms j 0) ≡ true → get_or es j 0 ≡ entry → ⊥)
    → fixups_at w entry position i (from (fragment_at ms es xs) i m) ys ≡ fine ys
unfolding fixups_at from fixup_at fragment_at
none-stands w entry position i ms es xs zero ys h = refl
none-stands w entry position i ms es xs (suc m) ys h =
    rw (not-both (eqb (get_or es i 0) entry) (gives (get_or ms i 0)) (λ a b. h i (omega arith) b (eqb-true (get_or es i 0) entry a)))
    (none-stands w entry position (suc i) ms es xs m ys (λ j l. h j (omega arith)))

pub none_here : (w : Site) (entry position : ℕ) (ms es xs : List ℕ) (c : ℕ) (ys : List Fixup) {r : ℕ} → Clear ms es c entry r → entry < r
    → fixups_at w entry position 0 (fragments_in ms es xs c) ys ≡ fine ys
unfolding fragments_in
none_here w entry position ms es xs c ys n h = none-stands w entry position 0 ms es xs c ys (λ j l q e. absurd (omega (arith, n.none j (omega arith) q (omega arith))))

-- and neither do m entries
pub none_left : (w : Site) (size : ℕ) (ms es xs : List ℕ) (c : ℕ) (keeps : List ℕ) (m entry position : ℕ) (ys : List Fixup) {r : ℕ} → Clear ms es c entry r → entry + m ≤ r
    → fixups_walk w size (fragments_in ms es xs c) keeps m entry position ys ≡ fine ys
unfolding fixups_walk
none_left w size ms es xs c keeps zero entry position ys n h = refl
none_left w size ms es xs c keeps (suc m) entry position ys n h =
    rw (none_here w entry position ms es xs c ys n (omega arith))
    (go (ltb position size) (none_left w size ms es xs c keeps m (suc entry) (position + pick (eqb (get_or keeps entry 0) 1) 1 0) ys (next-kept ms es c _ (suc entry) (omega arith) entry (omega arith) n) (omega arith)))
  where
    go : (b : Bool) {o : Outcome (List Fixup)} → o ≡ fine ys → pick b o (fine ys) ≡ fine ys
    go true e = e
    go false e = refl
