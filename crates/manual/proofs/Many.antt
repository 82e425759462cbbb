-- As many things as stand in a line to its end, each behind a space.
-- Assumes nothing.
use Prim.Native.Nat.{suc, zero, ℕ, ◌+◌, ◌≤◌}
use mathlib.Core.Path.{◌≡◌, ap, refl, sym, ◌∙◌}
use mathlib.Core.Bool.{Bool, false}
use mathlib.Core.List.{List, [], append-nil, map, ◌++◌, ◌∷◌}
use native.Mathlib.Nat.{add_assoc, add-zero}
use native.Mathlib.Omega.{arith}
use lib.ListN.{drop, length, length-append, length-drop}
use lib.Seq.{drop-append_seam, drop-drop}
use Rattle.format.specs.Lists.{flat, run}
use Rattle.format.specs.Bytes.{is_blank}
use Rattle.format.specs.Got.{Reader, isnt, many}
use Rattle.manual.specs.Each.{Each}
use Rattle.manual.specs.Takes.{Takes}
use Rattle.manual.specs.Words.{spaced}
use Rattle.manual.proofs.ByteLists.{spaced-more, spaced-stops, spaced-words}

-- each thing takes its bytes, one or more, wherever they stand
pub record Item {A : Type 0} (item : Reader A) (g : A → List ℕ) (t : ℕ → List ℕ) (p : ℕ → Bool) (x : A) : Type 0 where
  pub some : 1 ≤ length (g x)
  pub taken : (at : ℕ) → Takes item at (spaced (map t (g x))) x p

module _ {A : Type 0} (item : Reader A) (g : A → List ℕ) (t : ℕ → List ℕ) (p : ℕ → Bool) (e : p 32 ≡ false)
    (halts : (s : List ℕ) (at : ℕ) → run is_blank (drop at s) ≡ [] → item s at ≡ isnt 4 at) where
  takes-many : (n : ℕ) (xs : List A) → Each (Item item g t p) xs → (s : List ℕ) (at : ℕ) → length xs ≤ n → drop at s ≡ spaced (map t (flat g xs))
      → many n item s at ≡ record { items = xs; end = at + length (spaced (map t (flat g xs))) }
  unfolding many flat run
  takes-many zero [] a s at l d = rw add-zero
  takes-many zero (x ∷ xs) a s at l d = let z : ⊥ = omega arith in absurd z
  takes-many (suc n) [] a s at l d = rw (halts s at (ap (run is_blank) d), add-zero)
  takes-many (suc n) (x ∷ xs) a s at l d =
      let w = spaced (map t (g x)) in
      let v = spaced (map t (flat g xs)) in
      let more : spaced (map t (g x ++ flat g xs)) ≡ w ++ v = spaced-more t (g x) (flat g xs) in
      let d₁ : drop at s ≡ w ++ v = d ∙ more in
      let d₂ : drop (at + length w) s ≡ v = sym (drop-drop (length w) at s) ∙ ap (drop (length w)) d₁ ∙ drop-append_seam w v in
      let stop : run p v ≡ [] = ap (run p) (sym (append-nil v)) ∙ (spaced-stops p (map t (flat g xs)) e).stops [] refl in
      rw ((a.0.taken at).takes s v d₁ stop, takes-many n xs a.1 s (at + length w) (omega arith) d₂, more, length-append, add_assoc)

  -- the line's length is fuel enough
  few : (xs : List A) → Each (Item item g t p) xs → length xs ≤ length (spaced (map t (flat g xs)))
  unfolding flat
  few [] a = omega arith
  few (x ∷ xs) a = rw (spaced-more t (g x) (flat g xs), spaced-words t (g x) a.0.some, length-append) (omega (arith, few xs a.1))

  pub takes_all : (xs : List A) → Each (Item item g t p) xs → (s : List ℕ) (at : ℕ) → drop at s ≡ spaced (map t (flat g xs))
      → many (length s) item s at ≡ record { items = xs; end = at + length (spaced (map t (flat g xs))) }
  takes_all xs a s at d = takes-many (length s) xs a s at (omega (arith, few xs a, ap length d, length-drop at s)) d
