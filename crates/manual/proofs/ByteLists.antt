-- Bytes with one space between them, as the readers of lists and of joined numbers take them.
-- Assumes nothing.
use Prim.Native.Nat.{suc, ℕ, ◌+◌, ◌<◌, ◌^◌, ◌≤◌}
use mathlib.Core.Path.{◌≡◌, ap, refl, sym, ◌∙◌}
use mathlib.Core.Bool.{Bool, false}
use mathlib.Core.List.{List, [], map, ◌++◌, ◌∷◌}
use native.Mathlib.Omega.{arith}
use lib.ListN.{length}
use Rattle.format.specs.Bytes.{is_blank, is_digit}
use Rattle.format.specs.Got.{give, ◌>>=◌, ◌>>◌}
use Rattle.format.specs.Number.{bytes, join, joined, more_bytes, next_byte}
use Rattle.format.specs.Entries.{lead}
use Rattle.manual.specs.Each.{Each, IsByte}
use Rattle.manual.specs.Specifier.{Order, Radix, base, is_big}
use Rattle.manual.specs.Digits.{bytes_of, digits_of}
use Rattle.manual.specs.Takes.{Takes}
use Rattle.manual.specs.Words.{spaced, words}
use Rattle.manual.proofs.Takes.{Stops, never, stops-cons, stops-more, takes-give, takes-given, takes-next, takes_same, takes-space, takes-then}
use Rattle.manual.proofs.Numbers.{a-written-byte-reads-back}
use Rattle.manual.proofs.Fields.{digits-stop-blanks, space-no-digit, spaced-append, takes-lead}
use Rattle.manual.proofs.BytesOf.{bytes-are-bytes, bytes_count, bytes-join}

map-append : (t : ℕ → List ℕ) (xs ys : List ℕ) → map t (xs ++ ys) ≡ map t xs ++ map t ys
map-append t [] ys = refl
map-append t (x ∷ xs) ys = ap (λ (l : List (List ℕ)). t x ∷ l) (map-append t xs ys)

-- bytes, and more bytes, behind spaces
pub spaced-more : (t : ℕ → List ℕ) (xs ys : List ℕ) → spaced (map t (xs ++ ys)) ≡ spaced (map t xs) ++ spaced (map t ys)
spaced-more t xs ys = ap spaced (map-append t xs ys) ∙ spaced-append (map t xs) (map t ys)

-- one or more bytes, the first behind a space
pub spaced-words : (t : ℕ → List ℕ) (xs : List ℕ) → 1 ≤ length xs → spaced (map t xs) ≡ 32 ∷ words (map t xs)
spaced-words t [] l = let z : ⊥ = omega arith in absurd z
spaced-words t (x ∷ xs) l = refl

-- words, each behind a space, stop a test that no space passes
pub spaced-stops : (p : ℕ → Bool) (ws : List (List ℕ)) → p 32 ≡ false → Stops p p (spaced ws)
spaced-stops p [] e = record { stops = λ rest h. h }
spaced-stops p (w ∷ ws) e = stops-cons p p 32 (w ++ spaced ws) e

module _ (r : Radix) (width : ℕ) where
  -- how a byte is written
  abbrev pub text : ℕ → List ℕ
  text b = digits_of (base r) width b

  -- one byte behind a space
  pub takes-next-byte : (at b : ℕ) → b < 256 → Takes (next_byte (base r)) at (32 ∷ text b) b (is_digit (base r))
  unfolding next_byte
  takes-next-byte at b i = takes-next (takes-space at) (a-written-byte-reads-back r _ width b i) (digits-stop-blanks r (is_digit (base r)) width b)

  -- a byte's digits stop blanks
  pub bytes-stop-blanks : (q : ℕ → Bool) (bs : List ℕ) → 1 ≤ length bs → Stops is_blank q (words (map text bs))
  bytes-stop-blanks q [] l = let z : ⊥ = omega arith in absurd z
  bytes-stop-blanks q (b ∷ bs) l = stops-more is_blank q (text b) (spaced (map text bs)) (digits-stop-blanks r never width b)

  -- bytes, each behind a space
  takes-more-bytes : (bs : List ℕ) → Each IsByte bs → (at : ℕ) → Takes (more_bytes (base r) (length bs)) at (spaced (map text bs)) bs (is_digit (base r))
  unfolding more_bytes
  takes-more-bytes [] a at = takes-given [] at (is_digit (base r))
  takes-more-bytes (b ∷ bs) a at =
      takes-then (λ c. more_bytes (base r) (length bs) >>= (λ cs. give (c ∷ cs))) (takes-next-byte at b a.0)
      (takes-give (λ cs. b ∷ cs) (takes-more-bytes bs a.1 _)) (spaced-stops (is_digit (base r)) (map text bs) (space-no-digit r))

  -- k + 1 bytes with spaces between them
  takes-bytes : (k : ℕ) (bs : List ℕ) → length bs ≡ suc k → Each IsByte bs → (at : ℕ) → Takes (bytes (base r) k) at (words (map text bs)) bs (is_digit (base r))
  unfolding bytes
  takes-bytes k [] n a at = let z : ⊥ = omega arith in absurd z
  takes-bytes k (b ∷ bs) n a at =
      let m : length bs ≡ k = omega arith in
      takes-then (λ c. more_bytes (base r) k >>= (λ cs. give (c ∷ cs))) (a-written-byte-reads-back r at width b a.0)
      (takes-give (λ cs. b ∷ cs) (rw m at (takes-more-bytes bs a.1 (at + length (text b))))) (spaced-stops (is_digit (base r)) (map text bs) (space-no-digit r))

  -- a number of k + 1 bytes in the module's order
  pub takes-joined : (o : Order) (k n : ℕ) → n < 256 ^ suc k → (at : ℕ) → Takes (joined (base r) (is_big o) k) at (words (map text (bytes_of o (suc k) n))) n (is_digit (base r))
  unfolding joined
  takes-joined o k n i at =
      rw (bytes-join o (suc k) n i) at (takes-give (λ bs. join (is_big o) bs) (takes-bytes k (bytes_of o (suc k) n) (bytes_count o (suc k) n) (bytes-are-bytes o (suc k) n) at))

  -- the same behind a letter and a space
  pub takes-lettered : (o : Order) (b k n : ℕ) → n < 256 ^ suc k → (at : ℕ)
      → Takes (lead (b ∷ []) >> joined (base r) (is_big o) k) at (b ∷ spaced (map text (bytes_of o (suc k) n))) n (is_digit (base r))
  takes-lettered o b k n i at =
      let l : 1 ≤ length (bytes_of o (suc k) n) = omega (arith, bytes_count o (suc k) n) in
      takes_same (takes-next (takes-lead at (b ∷ []) (omega arith)) (takes-joined o k n i _) (bytes-stop-blanks (is_digit (base r)) (bytes_of o (suc k) n) l))
      (ap (λ (w : List ℕ). b ∷ w) (sym (spaced-words text (bytes_of o (suc k) n) l)))
