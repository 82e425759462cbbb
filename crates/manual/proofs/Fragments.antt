-- A fragment of the R line, with its mode in one byte or in the later edition's two, as the reader of fragments takes it.
-- Assumes nothing.
use Prim.Native.Nat.{ℕ, ◌%◌, ◌*◌, ◌+◌, ◌/◌, ◌<◌, ◌≤◌}
use mathlib.Core.Path.{◌≡◌, ap, refl, sym, ◌∙◌}
use mathlib.Core.Bool.{Bool, false, true}
use mathlib.Core.List.{List, [], append-nil, map, ◌++◌, ◌∷◌}
use native.Mathlib.Nat.{add-zero}
use native.Mathlib.Omega.{arith}
use lib.ListN.{drop, length, length-append}
use lib.Dec.{ltb}
use borrow.Author.Tests.{le-ltb, lt-ltb, ltb-true}
use Rattle.format.specs.Lists.{pick, run}
use Rattle.format.specs.Bytes.{is_blank, is_digit}
use Rattle.format.specs.Got.{Reader, give, is, isnt, only, ◌>>=◌}
use Rattle.format.specs.Number.{next_byte}
use Rattle.format.specs.Pairs.{Fragment, any_mode, fragment, index, long_mode, mode_of, next_index}
use Rattle.manual.specs.Specifier.{Specifier, base, is_big}
use Rattle.manual.specs.Takes.{Takes}
use Rattle.manual.specs.Words.{spaced, words}
use Rattle.manual.specs.WrittenPairs.{Writable, byte_text, byte_width, escaped, fragment_bytes, index_bytes, one_byte_of, shortest}
use Rattle.manual.proofs.Takes.{never, no-space, stops-more, stops_same, takes-give, takes-next, takes_same, takes-space, takes-then}
use Rattle.manual.proofs.Numbers.{a-written-byte-reads-back}
use Rattle.manual.proofs.Fields.{space-no-digit, space-stops-digits}
use Rattle.manual.proofs.BytesOf.{bytes_count}
use Rattle.manual.proofs.ByteLists.{bytes-stop-blanks, spaced-more, spaced-stops, spaced-words, takes-joined, takes-next-byte}
use Rattle.manual.proofs.Many.{Item}

-- a value that passes
pub takes-only : {A : Type 0} {m : Reader A} {at : ℕ} {w : List ℕ} {a : A} {p : ℕ → Bool} (t : A → Bool) → t a ≡ true → Takes m at w a p → Takes (only m t) at w a p
takes-only t e x = record { takes = λ s rest d h. rw (x.takes s rest d h, e) }

module _ (f : Specifier) where
  -- bytes with one space between them
  abbrev pub joined_text : List ℕ → List ℕ
  joined_text bs = words (map (byte_text f.radix) bs)

  -- a way of writing modes below a bound that the reader of modes takes
  pub record ModeText (bound : ℕ) (mode_bytes : ℕ → List ℕ) : Type 0 where
    pub some : (m : ℕ) → 1 ≤ length (mode_bytes m)
    pub taken : (m : ℕ) → m < bound → (at : ℕ) → Takes (mode_of (base f.radix)) at (joined_text (mode_bytes m)) m (is_digit (base f.radix))

  -- behind a mode's first byte
  abbrev second : ℕ → Reader ℕ
  second b s next = pick (ltb b 240) (is b next) (long_mode (base f.radix) b s next)

  no_second : (b : ℕ) → b < 240 → (at : ℕ) → Takes (second b) at [] b (is_digit (base f.radix))
  no_second b i at = record { takes = λ s rest d h. rw (lt-ltb b 240 i, add-zero) }

  low_second : (m : ℕ) → m < 2048 → (at : ℕ) → Takes (second (240 + m / 256)) at (spaced (map (byte_text f.radix) (m % 256 ∷ []))) m (is_digit (base f.radix))
  unfolding long_mode
  low_second m i at =
      let same : ((240 + m / 256) * 256 + m % 256) % 4096 ≡ m = omega arith in
      let long = takes-give (λ c. ((240 + m / 256) * 256 + c) % 4096) (takes-next-byte f.radix (byte_width f.radix) at (m % 256) (omega arith)) in
      takes_same (record { takes = λ s rest d h. rw (le-ltb (240 + m / 256) 240 (omega arith)) (long.takes s rest d h ∙ rw same) })
      (ap (λ (l : List ℕ). 32 ∷ l) (sym (append-nil (byte_text f.radix (m % 256)))))

  -- the manual's one byte, below F0
  pub one_byte : ModeText 240 one_byte_of
  unfolding mode_of any_mode
  one_byte = record {
    some = λ m. omega arith;
    taken = λ m i at. takes-only {m = any_mode (base f.radix)} (λ m. ltb m 2048) (lt-ltb m 2048 (omega arith))
        (takes-then second (a-written-byte-reads-back f.radix at (byte_width f.radix) m (omega arith)) (no_second m i _) (stops_same (is_digit (base f.radix))));
  }

  -- the later edition's two bytes
  pub two_bytes : ModeText 2048 escaped
  unfolding mode_of any_mode
  two_bytes = record {
    some = λ m. omega arith;
    taken = λ m i at. takes-only {m = any_mode (base f.radix)} (λ m. ltb m 2048) (lt-ltb m 2048 i)
        (takes-then second (a-written-byte-reads-back f.radix at (byte_width f.radix) (240 + m / 256) (omega arith)) (low_second m i _)
        (space-stops-digits f.radix (is_digit (base f.radix)) _));
  }

  -- whichever is shorter
  pub one-or-two-bytes : ModeText 2048 shortest
  one-or-two-bytes = record { some = λ m. some (ltb m 240) m; taken = λ m i at. taken (ltb m 240) m i at refl }
    where
      some : (t : Bool) (m : ℕ) → 1 ≤ length (pick t (one_byte_of m) (escaped m))
      some true m = omega arith
      some false m = omega arith

      taken : (t : Bool) (m : ℕ) → m < 2048 → (at : ℕ) → ltb m 240 ≡ t → Takes (mode_of (base f.radix)) at (joined_text (pick t (one_byte_of m) (escaped m))) m (is_digit (base f.radix))
      taken true m i at e = one_byte.taken m (ltb-true m 240 e) at
      taken false m i at e = two_bytes.taken m i at

  -- an index behind a space
  pub takes-index : (i : ℕ) → i < 65536 → (at : ℕ) → Takes (next_index (base f.radix) (is_big f.order)) at (spaced (map (byte_text f.radix) (index_bytes f i))) i (is_digit (base f.radix))
  unfolding next_index index
  takes-index i h at =
      let l : 1 ≤ length (index_bytes f i) = omega (arith, bytes_count f.order 2 i) in
      takes_same (takes-next (takes-space at) (takes-joined f.radix (byte_width f.radix) f.order 1 i h _) (bytes-stop-blanks f.radix (byte_width f.radix) (is_digit (base f.radix)) (index_bytes f i) l))
      (sym (spaced-words (byte_text f.radix) (index_bytes f i) l))

  -- mode, entry and index behind a space
  module _ (bound : ℕ) (mode_bytes : ℕ → List ℕ) (c : ModeText bound mode_bytes) (g : Fragment) (w : Writable bound g) where
    takes-fragment : (at : ℕ) → Takes (fragment (base f.radix) (is_big f.order)) at (spaced (map (byte_text f.radix) (fragment_bytes f mode_bytes g))) g (is_digit (base f.radix))
    unfolding fragment
    takes-fragment at =
        let t = byte_text f.radix in
        let p = is_digit (base f.radix) in
        let ms = mode_bytes g.mode in
        takes_same
        (takes-next (takes-space at)
        (takes-then (λ m. next_byte (base f.radix) >>= (λ e. next_index (base f.radix) (is_big f.order) >>= (λ i. give (record { mode = m; entry = e; index = i }))))
        (c.taken g.mode w.mode-below _)
        (takes-then (λ e. next_index (base f.radix) (is_big f.order) >>= (λ i. give (record { mode = g.mode; entry = e; index = i })))
        (takes-next-byte f.radix (byte_width f.radix) _ g.entry w.entry-below)
        (takes-give (λ i. record { mode = g.mode; entry = g.entry; index = i }) (takes-index g.index w.index_below _))
        (spaced-stops p (map t (index_bytes f g.index)) (space-no-digit f.radix)))
        (space-stops-digits f.radix p _))
        (stops-more is_blank p (joined_text ms) _ (bytes-stop-blanks f.radix (byte_width f.radix) never ms (c.some g.mode))))
        (ap (λ (v : List ℕ). v ++ spaced (map t (g.entry ∷ index_bytes f g.index))) (sym (spaced-words t ms (c.some g.mode))) ∙ sym (spaced-more t ms (g.entry ∷ index_bytes f g.index)))

    pub fragment-item : Item (fragment (base f.radix) (is_big f.order)) (fragment_bytes f mode_bytes) (byte_text f.radix) (is_digit (base f.radix)) g
    fragment-item = record { some = simp length-append (omega arith); taken = takes-fragment }

  -- a fragment does not read where no blank stands
  pub no-fragment : (s : List ℕ) (at : ℕ) → run is_blank (drop at s) ≡ [] → fragment (base f.radix) (is_big f.order) s at ≡ isnt 4 at
  unfolding fragment
  no-fragment s at h = rw (no-space s at h)
