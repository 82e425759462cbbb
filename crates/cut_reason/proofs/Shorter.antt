-- A line cut short: readers that come to a halt at the cut with reason 1 or 4 or read what they read in the whole, and how such readers are put together.
-- Assumes nothing.
use Prim.Native.Nat.{ℕ, ◌-◌, ◌≤◌}
use mathlib.Core.Path.{◌≡◌, refl, subst}
use mathlib.Core.Bool.{Bool, true, false}
use mathlib.Core.List.{List}
use mathlib.Core.Logic.{◌⊎◌, inl, inr}
use native.Mathlib.Omega.{arith}
use lib.ListN.{length, take}
use lib.Seq.{length-take-le}
use Rattle.format.specs.Lists.{pick}
use Rattle.format.specs.Got.{Got, Reader, give, is, isnt, only, then, ◌>>=◌, ◌>>◌}
use Rattle.format.specs.Number.{bytes}
use Rattle.cut_reason.specs.CutReason.{Mild}

abbrev pub AtEnd : {A : Type 0} → ℕ → Got A → Type 0
AtEnd k (is b p) = p ≡ k
AtEnd k (isnt r p) = Mild r

-- of the first k bytes, where of the whole it was a, up to q
abbrev pub CutOf : {A : Type 0} → ℕ → A → ℕ → Got A → Type 0
CutOf k a q (is b p) = ((b ≡ a) × (p ≡ q) × (q ≤ k)) ⊎ (p ≡ k)
CutOf k a q (isnt r p) = Mild r

abbrev pub Ends : {A : Type 0} → Reader A → Type 0
Ends m = (s : List ℕ) → AtEnd (length s) (m s (length s))

abbrev pub Cuts : {A : Type 0} → Reader A → Type 0
Cuts {A} m = (s : List ℕ) (at k : ℕ) (a : A) (q : ℕ) → at ≤ k → k ≤ length s → m s at ≡ is a q → CutOf k a q (m (take k s) at)

pub from_end : {A : Type 0} (k : ℕ) (a : A) (q : ℕ) (g : Got A) → AtEnd k g → CutOf k a q g
from_end k a q (is b p) h = inr h
from_end k a q (isnt r p) h = h

-- both parts of a chain
pub record Chained {A B : Type 0} (m : Got A) (f : A → ℕ → Got B) (b : B) (e : ℕ) : Type 0 where
  pub value : A
  pub next : ℕ
  pub first : m ≡ is value next
  pub second : f value next ≡ is b e

pub never : {A C : Type 0} {r p : ℕ} {b : A} {e : ℕ} → isnt r p ≡ is b e → C
never h = let z : ◌≡◌ {A = ℕ} 0 1 = cc in let y : ⊥ = omega arith in absurd y

pub chained : {A B : Type 0} (m : Got A) (f : A → ℕ → Got B) (b : B) (e : ℕ) → then m f ≡ is b e → Chained m f b e
chained (is a q) f b e h = record { value = a; next = q; first = refl; second = h }
chained (isnt r p) f b e h = never h

pub then-cut : {A B : Type 0} (k : ℕ) (m : Got A) (f : A → ℕ → Got B) (a : A) (q : ℕ) (b : B) (e : ℕ)
    → CutOf k a q m → (q ≤ k → CutOf k b e (f a q)) → ((c : A) → AtEnd k (f c k)) → CutOf k b e (then m f)
then-cut k (is c p) f a q b e (inl (x, y, z)) same end = rw (x, y) (same z)
then-cut k (is c p) f a q b e (inr y) same end = rw y (from_end k b e (f c k) (end c))
then-cut k (isnt r p) f a q b e h same end = h

pub then-end : {A B : Type 0} (k : ℕ) (m : Got A) (f : A → ℕ → Got B) → AtEnd k m → ((c : A) → AtEnd k (f c k)) → AtEnd k (then m f)
then-end k (is c p) f h end = rw h (end c)
then-end k (isnt r p) f h end = h

-- the end of a cut line
pub at_cut : {A : Type 0} (m : Reader A) → Ends m → (s : List ℕ) (k : ℕ) → k ≤ length s → AtEnd k (m (take k s) k)
at_cut m h s k l = subst (λ (n : ℕ). AtEnd n (m (take k s) n)) (length-take-le k s l) (h (take k s))

module _ {A B : Type 0} (m : Reader A) (f : A → Reader B) where
  pub bind-ends : Ends m → ((a : A) → Ends (f a)) → Ends (m >>= f)
  bind-ends h k s = then-end (length s) (m s (length s)) (λ c p. f c s p) (h s) (λ c. k c s)

  pub bind-cuts : Cuts m → ((a : A) → Cuts (f a)) → ((a : A) → Ends (f a)) → Cuts (m >>= f)
  bind-cuts cm cf ef s at k b e l h eq =
      let c = chained (m s at) (λ a next. f a s next) b e eq in
      then-cut k (m (take k s) at) (λ x p. f x (take k s) p) c.value c.next b e (cm s at k c.value c.next l h c.first)
      (λ w. cf c.value s c.next k b e w h c.second) (λ x. at_cut (f x) (ef x) s k h)

module _ {A B : Type 0} (m : Reader A) (n : Reader B) where
  pub seq-ends : Ends m → Ends n → Ends (m >> n)
  seq-ends h k s = then-end (length s) (m s (length s)) (λ c p. n s p) (h s) (λ c. k s)

  pub seq-cuts : Cuts m → Cuts n → Ends n → Cuts (m >> n)
  seq-cuts cm cn en s at k b e l h eq =
      let c = chained (m s at) (λ a next. n s next) b e eq in
      then-cut k (m (take k s) at) (λ x p. n (take k s) p) c.value c.next b e (cm s at k c.value c.next l h c.first)
      (λ w. cn s c.next k b e w h c.second) (λ x. at_cut n en s k h)

pub give-ends : {A : Type 0} (a : A) → Ends (give a)
give-ends a s = refl

pub give-cuts : {A : Type 0} (a : A) → Cuts (give a)
give-cuts {A} a s at k b q l h e = let x : a ≡ b = cc in let y : at ≡ q = cc in inl (x, y, omega arith)

-- a value that has to pass a test
only-pick : {A : Type 0} (k : ℕ) (a : A) (q at : ℕ) (t : Bool) (c : A) (p : ℕ) → CutOf k a q (is c p) → CutOf k a q (pick t (is c p) (isnt 4 at))
only-pick k a q at true c p h = h
only-pick k a q at false c p h = inr refl

only_end : {A : Type 0} (k at : ℕ) (t : Bool) (c : A) → AtEnd k (pick t (is c k) (isnt 4 at))
only_end k at true c = refl
only_end k at false c = inr refl

passed : {A : Type 0} (t : Bool) (a b : A) (q e x y : ℕ) → pick t (is a q) (isnt x y) ≡ is b e → is a q ≡ is b e
passed true a b q e x y h = h
passed false a b q e x y h = never h

module _ {A : Type 0} (m : Reader A) (p : A → Bool) where
  pub only-ends : Ends m → Ends (only m p)
  only-ends h s = then-end (length s) (m s (length s)) (λ c q. pick (p c) (is c q) (isnt 4 (length s))) (h s) (λ c. only_end (length s) (length s) (p c) c)

  pub only-cuts : Cuts m → Cuts (only m p)
  only-cuts cm s at k b e l h eq =
      let c = chained (m s at) (λ a next. pick (p a) (is a next) (isnt 4 at)) b e eq in
      let x : c.value ≡ b = let z = passed (p c.value) c.value b c.next e 4 at c.second in cc in
      let y : c.next ≡ e = let z = passed (p c.value) c.value b c.next e 4 at c.second in cc in
      then-cut k (m (take k s) at) (λ a next. pick (p a) (is a next) (isnt 4 at)) c.value c.next b e (cm s at k c.value c.next l h c.first)
      (λ w. only-pick k b e at (p c.value) c.value c.next (inl (x, y, omega arith))) (λ d. only_end k at (p d) d)
