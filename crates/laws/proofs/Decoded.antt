-- Rows of numbers that stand one behind the other decode to what they were made of, whatever stands before and behind them.
-- Assumes nothing.
use Prim.Native.Nat.{ℕ, suc, ◌+◌, ◌*◌}
use mathlib.Core.Path.{◌≡◌, refl, ap, sym, ◌∙◌}
use mathlib.Core.List.{List, [], ◌∷◌, ◌++◌, append_assoc}
use native.Mathlib.Omega.{arith}
use native.Mathlib.Nat.{add-zero}
use lib.ListN.{length, get_or, length-append}
use lib.Seq.{get_or-append-add}
use Rattle.format.specs.Lists.{flat}
use Rattle.laws.specs.Rows.{from}

-- the numbers of a row that stands behind m others
module _ (pre ys : List ℕ) (m : ℕ) (e : length pre ≡ m) where
  pub column : (n : ℕ) → get_or (pre ++ ys) (m + n) 0 ≡ get_or ys n 0
  column n = rw (← e) (get_or-append-add pre ys n 0)

  pub first-column : get_or (pre ++ ys) m 0 ≡ get_or ys 0 0
  first-column = ap (λ (x : ℕ). get_or (pre ++ ys) x 0) (sym (add-zero m)) ∙ column 0

-- enc makes a row of k numbers, and dec reads the i-th
module _ {A : Type 0} (enc : A → List ℕ) (k : ℕ) (len : (a : A) → length (enc a) ≡ k) (dec : List ℕ → ℕ → A)
    (right : (pre : List ℕ) (a : A) (post : List ℕ) (i : ℕ) → length pre ≡ k * i → dec (pre ++ (enc a ++ post)) i ≡ a) where
  pub decoded : (pre : List ℕ) (xs : List A) (post : List ℕ) (i : ℕ) → length pre ≡ k * i → from (dec (pre ++ (flat enc xs ++ post))) i (length xs) ≡ xs
  unfolding from flat
  decoded pre [] post i e = refl
  decoded pre (x ∷ xs) post i e =
      let a : (enc x ++ flat enc xs) ++ post ≡ enc x ++ (flat enc xs ++ post) = append_assoc (enc x) (flat enc xs) post in
      let one : dec (pre ++ ((enc x ++ flat enc xs) ++ post)) i ≡ x = ap (λ (l : List ℕ). dec (pre ++ l) i) a ∙ right pre x (flat enc xs ++ post) i e in
      let b : pre ++ ((enc x ++ flat enc xs) ++ post) ≡ (pre ++ enc x) ++ (flat enc xs ++ post) = ap (λ (l : List ℕ). pre ++ l) a ∙ sym (append_assoc pre (enc x) (flat enc xs ++ post)) in
      let n : length (pre ++ enc x) ≡ k * suc i = simp length-append (omega (arith, len x)) in
      let more : from (dec (pre ++ ((enc x ++ flat enc xs) ++ post))) (suc i) (length xs) ≡ xs = ap (λ (l : List ℕ). from (dec l) (suc i) (length xs)) b ∙ decoded (pre ++ enc x) xs post (suc i) n in
      λ j. one j ∷ more j
