-- The header of a cut text: the same where its line is whole inside the cut, else refusal 4.
use Prim.Native.Nat.{ℕ, zero, suc, ◌+◌, ◌-◌, ◌≤◌, ◌<◌}
use mathlib.Core.Path.{◌≡◌, refl, ap, sym}
use mathlib.Core.List.{List, [], ◌∷◌}
use mathlib.Core.Option.{Option, none, some}
use mathlib.Core.Bool.{Bool, true, false, ◌&&◌}
use mathlib.Core.Logic.{◌⊎◌, inl, inr}
use native.Mathlib.Omega.{arith}
use native.Mathlib.Nat.{zero-add}
use lib.ListN.{length, take, drop}
use lib.Seq.{take-take}
use lib.Dec.{eqb}
use Rattle.format.specs.Lists.{pick, run}
use Rattle.format.specs.Bytes.{is_blank, is_white}
use Rattle.format.specs.Header.{Head, letters, is_form, form_of, later, header}
use Rattle.format.specs.Lines.{end_length}
use Rattle.laws.proofs.Headers.{Begins, same-header}
pub use Rattle.laws.proofs.Headers.{differ}

-- the length of a line end is 1 or 2, and it stands whole inside a cut or not at all
end-cut0 : (t u : Bool) (e : ℕ) → pick t 1 (pick u 2 0) ≡ suc e → 1 < suc e → pick {A = ℕ} t 1 0 ≡ 0
end-cut0 true u e h l = let z : ⊥ = omega (arith, h) in absurd z
end-cut0 false u e h l = refl

end-le : (t u : Bool) → pick t 1 (pick u 2 0) ≤ 2
end-le true u = omega arith
end-le false true = omega arith
end-le false false = omega arith

end-one-le : (t : Bool) (e m : ℕ) → pick t 1 0 ≡ suc e → suc m < suc e → ⊥
end-one-le true e m h l = omega (arith, h)
end-one-le false e m h l = omega (arith, h)

end-out : (xs : List ℕ) (m e : ℕ) → end_length xs ≡ suc e → m < suc e → end_length (take m xs) ≡ 0
unfolding end_length
end-out xs zero e h l = refl
end-out [] (suc m) e h l = refl
end-out (a ∷ []) (suc m) e h l = absurd (end-one-le (eqb a 10) e m h l)
end-out (a ∷ b ∷ r) (suc zero) e h l = end-cut0 (eqb a 10) (eqb a 13 && eqb b 10) e h l
end-out (a ∷ b ∷ r) (suc (suc m)) e h l = let z : ⊥ = omega (arith, end-le (eqb a 10) (eqb a 13 && eqb b 10), h) in absurd z

-- how many blanks stand first
blanks_of : List ℕ → ℕ
blanks_of xs = length (run is_blank xs)

TailOut : List ℕ → ℕ → ℕ → Type 0
TailOut xs m e = end_length (drop (blanks_of xs) xs) ≡ suc e → m < blanks_of xs + suc e → end_length (drop (blanks_of (take m xs)) (take m xs)) ≡ 0

tail-out-step : (b : ℕ) (bs : List ℕ) (m e : ℕ) (t : Bool) → TailOut bs m e
    → end_length (drop (length (pick t (b ∷ run is_blank bs) [])) (b ∷ bs)) ≡ suc e → suc m < length (pick t (b ∷ run is_blank bs) []) + suc e
    → end_length (drop (length (pick t (b ∷ run is_blank (take m bs)) [])) (b ∷ take m bs)) ≡ 0
unfolding TailOut blanks_of
tail-out-step b bs m e true ih h l = ih h (omega arith)
tail-out-step b bs m e false ih h l = end-out (b ∷ bs) (suc m) e h (rw zero-add at l)

tail-out : (xs : List ℕ) (m e : ℕ) → TailOut xs m e
unfolding TailOut blanks_of run end_length
tail-out xs zero e h l = refl
tail-out [] (suc m) e h l = refl
tail-out (b ∷ bs) (suc m) e h l = tail-out-step b bs m e (is_blank b) (tail-out bs m e) h l

-- the header's line is whole inside the cut
pub head_in : (text : List ℕ) (n e : ℕ) (h : Head) → Begins text h e → h.next + suc e ≤ n → Begins (take n text) h e
head_in text n e h b l = same-header n e text (take n text) (sym (take-take n n text (omega arith))) h b l

-- or it is not
pub data Lost (text : List ℕ) : Type 0 where
  gone : header text ≡ none → Lost text
  open-ended : (h : Head) → header text ≡ some h → end_length (drop h.next text) ≡ 0 → Lost text

abbrev pub HeadOut : List ℕ → ℕ → ℕ → Type 0
HeadOut text n e = (h : Head) → header text ≡ some h → end_length (drop h.next text) ≡ suc e → n < h.next + suc e → Lost (take n text)

-- the letters
module _ (a b c : ℕ) (rest : List ℕ) (e : ℕ) where
  head_of : ℕ → Head
  head_of k = record { form = form_of a b c; next = suc (suc (suc k)) }

  LettersOut : ℕ → Head → Type 0
  LettersOut n h = end_length (drop h.next (a ∷ b ∷ c ∷ rest)) ≡ suc e → n < h.next + suc e
      → (letters (take n (a ∷ b ∷ c ∷ rest)) ≡ none) ⊎ ((h' : Head) × (letters (take n (a ∷ b ∷ c ∷ rest)) ≡ some h') × (end_length (drop h'.next (take n (a ∷ b ∷ c ∷ rest))) ≡ 0))

  letters-out-head : (n : ℕ) → is_form a b c ≡ true → LettersOut n (head_of (blanks_of rest))
  unfolding LettersOut head_of letters blanks_of TailOut
  letters-out-head zero p q l = inl refl
  letters-out-head (suc zero) p q l = inl refl
  letters-out-head (suc (suc zero)) p q l = inl refl
  letters-out-head (suc (suc (suc m))) p q l = inr (head_of (blanks_of (take m rest)), rw p, tail-out rest m e q (omega arith))

  letters-out : (n : ℕ) (t : Bool) → is_form a b c ≡ t → (h : Head) → pick t (some (head_of (blanks_of rest))) none ≡ some h → LettersOut n h
  letters-out n true p h q = let same : head_of (blanks_of rest) ≡ h = cc in rw same at (letters-out-head n p)
  letters-out n false p h q = differ q

later-lost : (b : ℕ) (bs : List ℕ) → is_white b ≡ true → Lost bs → Lost (b ∷ bs)
unfolding header later
later-lost b bs p (gone q) = gone (rw (p, q))
later-lost b bs p (open-ended h q r) = open-ended (record { form = h.form; next = suc h.next }) (rw (p, q)) r

white-out : (b : ℕ) (bs : List ℕ) (n e : ℕ) → is_white b ≡ true → HeadOut bs n e → (o : Option Head) → header bs ≡ o → (h : Head) → later o ≡ some h
    → end_length (drop h.next (b ∷ bs)) ≡ suc e → suc n < h.next + suc e → Lost (b ∷ take n bs)
unfolding header later
white-out b bs n e p ih none q h r s l = differ r
white-out b bs n e p ih (some g) q h r s l =
    let same : record { form = g.form; next = suc g.next } ≡ h = cc in
    let same_next : suc g.next ≡ h.next = ap (λ (x : Head). x.next) same in
    later-lost b (take n bs) p (ih g q (rw (← same_next) at s) (omega arith))

either-lost : (b : ℕ) (bs : List ℕ) → is_white b ≡ false
    → (letters (b ∷ bs) ≡ none) ⊎ ((h : Head) × (letters (b ∷ bs) ≡ some h) × (end_length (drop h.next (b ∷ bs)) ≡ 0)) → Lost (b ∷ bs)
unfolding header
either-lost b bs p (inl q) = gone (rw p q)
either-lost b bs p (inr k) = open-ended k.0 (rw p k.1) k.2

letters-lost : (b : ℕ) (bs : List ℕ) (n e : ℕ) → is_white b ≡ false → (h : Head) → letters (b ∷ bs) ≡ some h
    → end_length (drop h.next (b ∷ bs)) ≡ suc e → suc n < h.next + suc e → Lost (b ∷ take n bs)
unfolding letters LettersOut head_of blanks_of
letters-lost b [] n e p h q s l = differ q
letters-lost b (c ∷ []) n e p h q s l = differ q
letters-lost b (c ∷ d ∷ rest) n e p h q s l =
    either-lost b (take n (c ∷ d ∷ rest)) p (letters-out b c d rest e (suc n) (is_form b c d) refl h q s l)

head-out-step : (b : ℕ) (bs : List ℕ) (n e : ℕ) (t : Bool) → is_white b ≡ t → HeadOut bs n e → HeadOut (b ∷ bs) (suc n) e
unfolding header
head-out-step b bs n e true p ih h q s l = white-out b bs n e p ih (header bs) refl h (rw p at q) s l
head-out-step b bs n e false p ih h q s l = letters-lost b bs n e p h (rw p at q) s l

pub head-out : (text : List ℕ) (n e : ℕ) → HeadOut text n e
unfolding header
head-out text zero e h q s l = gone refl
head-out [] (suc n) e h q s l = differ q
head-out (b ∷ bs) (suc n) e h q s l = head-out-step b bs n e (is_white b) refl (head-out bs n e) h q s l
