-- Outcomes taken apart and put together: what a chain that is fine went through, and that a fold that is fine is fine on every beginning.
-- Assumes nothing.
use Prim.Native.Nat.{ℕ}
use mathlib.Core.Path.{◌≡◌, refl, ap, ◌∙◌}
use mathlib.Core.List.{List, [], ◌∷◌, ◌++◌}
use mathlib.Core.Bool.{Bool, true, false}
use native.Mathlib.Omega.{arith}
use Rattle.format.specs.Lists.{pick}
use Rattle.format.specs.Outcome.{Outcome, fine, refused, and_then, fold}

-- an outcome that is fine
pub record Fine {A : Type 0} (o : Outcome A) : Type 0 where
  pub value : A
  pub is-fine : o ≡ fine value

-- both parts of a chain that is fine
pub record Chain {A B : Type 0} (o : Outcome A) (f : A → Outcome B) (b : B) : Type 0 where
  pub value : A
  pub first : o ≡ fine value
  pub second : f value ≡ fine b

pub unlike : {A C : Type 0} (n p : ℕ) (b : A) → refused n p ≡ fine b → C
unlike n p b h = let z : ◌≡◌ {A = ℕ} 0 1 = cc in let y : ⊥ = omega arith in absurd y

pub chain : {A B : Type 0} (o : Outcome A) (f : A → Outcome B) (b : B) → and_then o f ≡ fine b → Chain o f b
chain (fine a) f b h = record { value = a; first = refl; second = h }
chain (refused n p) f b h = unlike n p b h

-- a chain whose first part is fine goes on from there
pub follow : {A B : Type 0} (o : Outcome A) (f : A → Outcome B) {a : A} {r : Outcome B} → o ≡ fine a → f a ≡ r → and_then o f ≡ r
follow o f e g = ap (λ (x : Outcome _). and_then x f) e ∙ g

-- a test that was passed
pub passed : {A : Type 0} (t : Bool) (o : Outcome A) (n p : ℕ) (b : A) → pick t o (refused n p) ≡ fine b → (t ≡ true) × (o ≡ fine b)
passed true o n p b h = (refl, h)
passed false o n p b h = unlike n p b h

-- a fold that is fine is fine on every beginning
pub fold-prefix : {S A : Type 0} (step : S → A → Outcome S) (xs ys : List A) (s b : S) → fold step s (xs ++ ys) ≡ fine b
    → Chain (fold step s xs) (λ t. fold step t ys) b
unfolding fold
fold-prefix step [] ys s b h = record { value = s; first = refl; second = h }
fold-prefix step (x ∷ xs) ys s b h =
    let k = chain (step s x) (λ t. fold step t (xs ++ ys)) b h in
    let r = fold-prefix step xs ys k.value b k.second in
    record { value = r.value; first = follow (step s x) (λ t. fold step t xs) k.first r.first; second = r.second }
