-- The manual's R line, read back, with modes in one byte; and the later edition's.
-- Assumes nothing.
use Prim.Native.Nat.{ℕ, ◌+◌, ◌<◌, ◌≤◌}
use mathlib.Core.Path.{◌≡◌, ap, refl, sym, ◌∙◌}
use mathlib.Core.List.{List, [], append_assoc, append-nil, map, ◌++◌, ◌∷◌}
use native.Mathlib.Nat.{add-zero}
use native.Mathlib.Omega.{arith}
use lib.ListN.{drop, length}
use lib.Seq.{drop-drop, drop-length}
use lib.Dec.{eqb}
use Rattle.format.specs.Lists.{flat, run}
use Rattle.format.specs.Bytes.{is_blank, is_digit}
use Rattle.format.specs.Number.{joined}
use Rattle.format.specs.Entries.{R, spelled}
use Rattle.format.specs.Pairs.{Fragment, area_part, fragment, index, relocation_from, relocation_line, zero_index}
use Rattle.manual.specs.Each.{Each}
use Rattle.manual.specs.Specifier.{Specifier, base, form_of, is_big}
use Rattle.manual.specs.Digits.{digits_of}
use Rattle.manual.specs.Takes.{ReadsWhole, Takes}
use Rattle.manual.specs.Words.{spaced, words}
use Rattle.manual.specs.WrittenPairs.{Writable, byte_text, escaped, fragment_bytes, index_bytes, one_byte_of, shortest, write_relocation}
use Rattle.manual.proofs.Takes.{always, never, nothing_left, past-takes, stops-last, stops-more, takes-next, takes_same, takes-then, takes_whole}
use Rattle.manual.proofs.Fields.{space-no-digit, spaced-append, takes-lead}
use Rattle.manual.proofs.BytesOf.{bytes_count}
use Rattle.manual.proofs.ByteLists.{bytes-stop-blanks, spaced-more, spaced-stops, spaced-words, takes-joined}
use Rattle.manual.proofs.Many.{Item, takes_all}
use Rattle.manual.proofs.Fragments.{ModeText, fragment-item, no-fragment, one_byte, one-or-two-bytes, takes-index, takes-only, two_bytes}

module _ (f : Specifier) where
  -- index 0, each of its bytes in at least as many digits as the width says
  takes-zero : (width at : ℕ) → Takes (zero_index (base f.radix) (is_big f.order)) at (words (map (digits_of (base f.radix) width) (index_bytes f 0))) 0 (is_digit (base f.radix))
  unfolding zero_index index
  takes-zero width at = takes-only {m = joined (base f.radix) (is_big f.order) 1} (λ i. eqb i 0) refl (takes-joined f.radix width f.order 1 0 (omega arith) at)

  -- R, index 0 and the area's index
  takes-area-part : (width area : ℕ) → area < 65536 → (at : ℕ)
      → Takes (area_part (form_of f)) at (82 ∷ (spaced (map (digits_of (base f.radix) width) (index_bytes f 0)) ++ spaced (map (byte_text f.radix) (index_bytes f area)))) area (is_digit (base f.radix))
  unfolding area_part
  takes-area-part width area i at =
      let p = is_digit (base f.radix) in
      let t = digits_of (base f.radix) width in
      let l : 1 ≤ length (index_bytes f 0) = omega (arith, bytes_count f.order 2 0) in
      takes_same
      (takes-next (takes-lead at (spelled R) (omega arith))
      (takes-next (takes-zero width _) (takes-index f area i _) (spaced-stops p (map (byte_text f.radix) (index_bytes f area)) (space-no-digit f.radix)))
      (stops-more is_blank p (words (map t (index_bytes f 0))) _ (bytes-stop-blanks f.radix width never (index_bytes f 0) l)))
      (ap (λ (v : List ℕ). 82 ∷ (v ++ spaced (map (byte_text f.radix) (index_bytes f area)))) (sym (spaced-words t (index_bytes f 0) l)))

  module _ (bound : ℕ) (mode_bytes : ℕ → List ℕ) (c : ModeText f bound mode_bytes) where
    items : (gs : List Fragment) → Each (Writable bound) gs → Each (Item (fragment (base f.radix) (is_big f.order)) (fragment_bytes f mode_bytes) (byte_text f.radix) (is_digit (base f.radix))) gs
    items [] a = tt
    items (g ∷ gs) a = (fragment-item f bound mode_bytes c g a.0, items gs a.1)

    -- the fragments to the line's end
    takes-fragments : (area : ℕ) (gs : List Fragment) → Each (Writable bound) gs → (at : ℕ)
        → Takes (λ s next. relocation_from (form_of f) s area next) at (spaced (map (byte_text f.radix) (flat (fragment_bytes f mode_bytes) gs))) (record { area = area; fragments = gs }) always
    unfolding run
    takes-fragments area gs a at = record {
      takes = λ s rest d h.
          let v = spaced (map (byte_text f.radix) (flat (fragment_bytes f mode_bytes) gs)) in
          let d₁ : drop at s ≡ v = d ∙ rw (nothing_left rest h, append-nil) in
          let m = takes_all (fragment (base f.radix) (is_big f.order)) (fragment_bytes f mode_bytes) (byte_text f.radix) (is_digit (base f.radix))
          (space-no-digit f.radix) (no-fragment f) gs (items gs a) s at d₁ in
          let d₂ : drop (at + length v) s ≡ [] = sym (drop-drop (length v) at s) ∙ ap (drop (length v)) d₁ ∙ drop-length v in
          rw (m, past-takes is_blank s (at + length v) [] [] tt d₂ refl, add-zero);
    }

    takes-relocation : (width area : ℕ) (gs : List Fragment) → area < 65536 → Each (Writable bound) gs
        → (at : ℕ) → Takes (relocation_line (form_of f)) at (write_relocation f width mode_bytes area gs) (record { area = area; fragments = gs }) always
    unfolding relocation_line write_relocation
    takes-relocation width area gs i a at = takes_same
        (takes-then (λ r s next. relocation_from (form_of f) s r next) (takes-area-part width area i at) (takes-fragments area gs a _)
        (stops-last (spaced-stops (is_digit (base f.radix)) (map (byte_text f.radix) (flat (fragment_bytes f mode_bytes) gs)) (space-no-digit f.radix))))
        (ap (λ (v : List ℕ). 82 ∷ v)
        (append_assoc (spaced (map (digits_of (base f.radix) width) (index_bytes f 0))) (spaced (map (byte_text f.radix) (index_bytes f area))) (spaced (map (byte_text f.radix) (flat (fragment_bytes f mode_bytes) gs)))
        ∙ (ap (λ (v : List ℕ). spaced (map (digits_of (base f.radix) width) (index_bytes f 0)) ++ v) (sym (spaced-more (byte_text f.radix) (index_bytes f area) (flat (fragment_bytes f mode_bytes) gs)))
        ∙ sym (spaced-append (map (digits_of (base f.radix) width) (index_bytes f 0)) (map (byte_text f.radix) (index_bytes f area ++ flat (fragment_bytes f mode_bytes) gs))))))

module _ (f : Specifier) (width area : ℕ) (fragments : List Fragment) (i : area < 65536) where
  -- R 0 0 nn nn n1 n2 xx xx .., each mode n1 in one byte below F0: the area's index and the fragments
  pub a-written-relocation-reads-back : Each (Writable 240) fragments → ReadsWhole (relocation_line (form_of f)) (write_relocation f width one_byte_of area fragments) (record { area = area; fragments = fragments })
  a-written-relocation-reads-back a = takes_whole (takes-relocation f 240 one_byte_of (one_byte f) width area fragments i a 0)

  -- the later edition's R line, each mode below 800 in two bytes, n1 the escape
  pub an-escaped-relocation-reads-back : Each (Writable 2048) fragments → ReadsWhole (relocation_line (form_of f)) (write_relocation f width escaped area fragments) (record { area = area; fragments = fragments })
  an-escaped-relocation-reads-back a = takes_whole (takes-relocation f 2048 escaped (two_bytes f) width area fragments i a 0)

  -- and with the escape only where one byte will not do
  pub a-later-relocation-reads-back : Each (Writable 2048) fragments → ReadsWhole (relocation_line (form_of f)) (write_relocation f width shortest area fragments) (record { area = area; fragments = fragments })
  a-later-relocation-reads-back a = takes_whole (takes-relocation f 2048 shortest (one-or-two-bytes f) width area fragments i a 0)
