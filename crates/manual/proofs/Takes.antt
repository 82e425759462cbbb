-- How readers that take written bytes are put together, and the small readers: blanks, words, names.
-- Assumes nothing.
use Prim.Native.Nat.{ℕ, ◌+◌, ◌-◌, ◌≤◌}
use mathlib.Core.Path.{◌≡◌, ap, refl, sym, ◌∙◌}
use mathlib.Core.Bool.{Bool, false, true}
use mathlib.Core.List.{List, [], append_assoc, append-nil, ◌++◌, ◌∷◌}
use native.Mathlib.Nat.{add_assoc, add-zero, zero-add}
use native.Mathlib.Omega.{arith}
use lib.ListN.{drop, length, length-append}
use lib.Seq.{drop-append_seam, drop-drop}
use borrow.Author.Tests.{eq-eqb, ne_eqb}
use Rattle.format.specs.Lists.{run, starts}
use Rattle.format.specs.Bytes.{is_blank, is_name_byte}
use Rattle.format.specs.Got.{Reader, give, is, isnt, ◌>>=◌, ◌>>◌}
use Rattle.format.specs.Number.{Name, behind, blanks, name, past, space, up_to, word}
use Rattle.manual.specs.Each.{Passes}
use Rattle.manual.specs.Takes.{ReadsWhole, Takes}

-- a run of bytes that pass goes as far as they do
pub run-takes : (p : ℕ → Bool) (w rest : List ℕ) → Passes p w → run p rest ≡ [] → run p (w ++ rest) ≡ w
unfolding run
run-takes p [] rest a e = e
run-takes p (b ∷ w) rest a e = rw (a.0, run-takes p w rest a.1 e)

pub past-takes : (p : ℕ → Bool) (s : List ℕ) (at : ℕ) (w rest : List ℕ) → Passes p w → drop at s ≡ w ++ rest → run p rest ≡ [] → past p s at ≡ at + length w
unfolding past
past-takes p s at w rest a d e = rw (d, run-takes p w rest a e)

-- no byte of what follows passes p, if none passes q behind it
pub record Stops (p q : ℕ → Bool) (w : List ℕ) : Type 0 where
  pub stops : (rest : List ℕ) → run q rest ≡ [] → run p (w ++ rest) ≡ []

-- a byte that does not pass stops the test
pub stops-cons : (p q : ℕ → Bool) (b : ℕ) (w : List ℕ) → p b ≡ false → Stops p q (b ∷ w)
unfolding run
stops-cons p q b w e = record { stops = λ rest h. rw e }

-- nothing written: what follows is the same
pub stops_same : (p : ℕ → Bool) → Stops p p []
stops_same p = record { stops = λ rest h. h }

-- a reader, and another at the place behind what the first took
module _ {A B : Type 0} {m : Reader A} {at : ℕ} {w w' : List ℕ} {a : A} {b : B} {p q : ℕ → Bool} where
  pub takes-then : (f : A → Reader B) → Takes m at w a p → Takes (f a) (at + length w) w' b q → Stops p q w' → Takes (m >>= f) at (w ++ w') b q
  takes-then f x y z = record {
    takes = λ s rest d h.
        let d₁ : drop at s ≡ w ++ (w' ++ rest) = d ∙ append_assoc w w' rest in
        let d₂ : drop (at + length w) s ≡ w' ++ rest = sym (drop-drop (length w) at s) ∙ ap (drop (length w)) d₁ ∙ drop-append_seam w (w' ++ rest) in
        rw (x.takes s (w' ++ rest) d₁ (z.stops rest h), y.takes s rest d₂ h, length-append, add_assoc);
  }

  pub takes-next : {n : Reader B} → Takes m at w a p → Takes n (at + length w) w' b q → Stops p q w' → Takes (m >> n) at (w ++ w') b q
  takes-next {n} x y z = takes-then (λ c. n) x y z

module _ {A : Type 0} {m : Reader A} {at : ℕ} {w : List ℕ} {a : A} {p : ℕ → Bool} where
  -- the same bytes in other words
  pub takes_same : {w' : List ℕ} → Takes m at w a p → w ≡ w' → Takes m at w' a p
  takes_same x e = rw e at x

  -- a value that is given takes no byte
  pub takes-give : {B : Type 0} (f : A → B) → Takes m at w a p → Takes (m >>= λ c. give (f c)) at w (f a) p
  takes-give f x = record { takes = λ s rest d h. rw (x.takes s rest d h) }

-- a line that a reader takes from its start on is used whole
pub takes_whole : {A : Type 0} {m : Reader A} {w : List ℕ} {a : A} {p : ℕ → Bool} → Takes m 0 w a p → ReadsWhole m w a
unfolding run
takes_whole {m = m} {w} {a} x = x.takes w [] (sym (append-nil w)) refl ∙ rw zero-add

-- what was read up to a later place
up-to : {A : Type 0} (at n : ℕ) (a : A) → 1 ≤ n → up_to at (at + n) a ≡ is a (at + n)
up-to at n a h = rw (ne_eqb (at + n) at (λ e. omega arith))

-- a test that no byte passes: anything may follow
abbrev pub never : ℕ → Bool
never b = false

run-never : (xs : List ℕ) → run never xs ≡ []
unfolding run
run-never [] = refl
run-never (x ∷ xs) = refl

pub stops-never : (q : ℕ → Bool) (w : List ℕ) → Stops never q w
stops-never q w = record { stops = λ rest h. run-never (w ++ rest) }

-- what stops a test whatever follows stops it with more behind
pub stops-more : (p q : ℕ → Bool) (w v : List ℕ) → Stops p never w → Stops p q (w ++ v)
stops-more p q w v x = record { stops = λ rest h. rw (append_assoc w v rest) (x.stops (v ++ rest) (run-never (v ++ rest))) }

-- one space
pub takes-space : (at : ℕ) → Takes space at (32 ∷ []) tt is_blank
unfolding space is_blank
takes-space at = record { takes = λ s rest d h. rw (past-takes is_blank s at (32 ∷ []) rest (refl, tt) d h, up-to at 1 (tt {0}) (omega arith)) }

-- no blank
pub takes-no-blank : (at : ℕ) → Takes blanks at [] tt is_blank
unfolding blanks
takes-no-blank at = record { takes = λ s rest d h. rw (past-takes is_blank s at [] rest tt d h) }

starts-itself : (w rest : List ℕ) → starts w (w ++ rest) ≡ true
unfolding starts
starts-itself [] rest = refl
starts-itself (b ∷ w) rest = rw (eq-eqb b b refl, starts-itself w rest)

-- a fixed word
pub takes-word : (at : ℕ) (w : List ℕ) → 1 ≤ length w → Takes (word w) at w tt never
unfolding word behind
takes-word at w l = record { takes = λ s rest d h. rw (d, starts-itself w rest, up-to at (length w) (tt {0}) l) }

-- a name: the place where it stands, and its length
pub takes-name : (at : ℕ) (w : List ℕ) → 1 ≤ length w → Passes is_name_byte w → Takes name at w (record { at = at; length = length w }) is_name_byte
unfolding name
takes-name at w l a = record {
  takes = λ s rest d h.
      let n : at + length w - at ≡ length w = omega arith in
      rw (past-takes is_name_byte s at w rest a d h, n, up-to {A = Name} at (length w) (record { at = at; length = length w }) l);
}

-- a given value
pub takes-given : {A : Type 0} (a : A) (at : ℕ) (p : ℕ → Bool) → Takes (give a) at [] a p
takes-given a at p = record { takes = λ s rest d h. rw add-zero }

-- where no blank stands, one or more blanks do not read
pub no-space : (s : List ℕ) (at : ℕ) → run is_blank (drop at s) ≡ [] → space s at ≡ isnt 4 at
unfolding space past
no-space s at h = rw (h, add-zero, eq-eqb at at refl)

-- a test that every byte passes: nothing may follow, it is the line's end
abbrev pub always : ℕ → Bool
always b = true

pub nothing_left : (rest : List ℕ) → run always rest ≡ [] → rest ≡ []
unfolding run
nothing_left [] h = refl
nothing_left (b ∷ rest) h = let z : ◌≡◌ {A = ℕ} 0 1 = cc in absurd (omega arith)

-- at the line's end nothing passes any test
pub stops_end : (p : ℕ → Bool) → Stops p always []
unfolding run
stops_end p = record { stops = λ rest h. rw (nothing_left rest h) }

-- what stops a test before another test stops it at the line's end
pub stops-last : {p q : ℕ → Bool} {w : List ℕ} → Stops p q w → Stops p always w
stops-last {q = q} x = record { stops = λ rest h. x.stops rest ((stops_end q).stops rest h) }
