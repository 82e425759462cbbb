-- The manual's A line, read back.
-- Assumes nothing.
use Prim.Native.Nat.{ℕ, ◌+◌, ◌<◌, ◌^◌}
use mathlib.Core.Path.{◌≡◌, ap, refl, sym, ◌∙◌}
use mathlib.Core.List.{List, [], append-nil, ◌++◌, ◌∷◌}
use mathlib.Core.Option.{none}
use native.Mathlib.Nat.{add-zero}
use lib.ListN.{drop, length, take}
use lib.Seq.{take-append_seam}
use Rattle.format.specs.Lists.{run}
use Rattle.format.specs.Bytes.{is_blank, is_digit}
use Rattle.format.specs.Got.{give, optional, ◌>>=◌, ◌>>◌}
use Rattle.format.specs.Number.{Name, blanks}
use Rattle.format.specs.Entries.{Entry, addr, area, area_line, area_of, entry_line, field, flags, size, spelled}
use Rattle.manual.specs.Specifier.{Specifier, base, form_of}
use Rattle.manual.specs.Takes.{ReadsWhole, Takes}
use Rattle.manual.specs.Words.{spaced}
use Rattle.manual.specs.WrittenEntries.{IsName, plain, write_area}
use Rattle.manual.proofs.Takes.{always, no-space, stops_end, takes-given, takes-next, takes-no-blank, takes_same, takes-then, takes_whole}
use Rattle.manual.proofs.Fields.{space-stops-digits, space-stops-names, spaced-append, takes_field, takes-titled}

-- no addr
pub takes-no-field : (at radix : ℕ) (w : List ℕ) → Takes (optional (field w radix)) at [] none is_blank
unfolding optional field
takes-no-field at radix w = record { takes = λ s rest d h. rw (no-space s at (ap (run is_blank) d ∙ h), add-zero) }

-- the end of an A or S line
pub takes-end : (at : ℕ) (e : Entry) → Takes (blanks >> give e) at [] e always
takes-end at e = takes-next (takes-no-blank at) (takes-given e _ always) (stops_end is_blank)

-- size ss flags ff, with nothing behind
module _ (f : Specifier) (z g : ℕ) (i : z < 2 ^ 32) (j : g < 2 ^ 32) (n : Name) where
  no-addr : (at : ℕ) → Takes (optional (field (spelled addr) (base f.radix)) >>= (λ a. blanks >> give (area n z g a))) at [] (area n z g none) always
  no-addr at = takes-then (λ a. blanks >> give (area n z g a)) (takes-no-field at (base f.radix) (spelled addr)) (takes-end _ (area n z g none)) (stops_end is_blank)

  takes-area-of : (at : ℕ) → Takes (area_of (form_of f) n) at (spaced (spelled size ∷ plain f z ∷ spelled flags ∷ plain f g ∷ [])) (area n z g none) always
  unfolding area_of is_blank
  takes-area-of at = takes_same
      (takes-then _ (takes_field f.radix at 115 (105 ∷ 122 ∷ 101 ∷ []) 1 z refl i)
      (takes-then _ (takes_field f.radix _ 102 (108 ∷ 97 ∷ 103 ∷ 115 ∷ []) 1 g refl j) (no-addr _) (stops_end (is_digit (base f.radix))))
      (space-stops-digits f.radix always _))
      (ap (λ (l : List ℕ). spaced (spelled size ∷ plain f z ∷ []) ++ l) (append-nil (spaced (spelled flags ∷ plain f g ∷ []))) ∙ sym (spaced-append (spelled size ∷ plain f z ∷ []) (spelled flags ∷ plain f g ∷ [])))

-- at any place
takes-area : (f : Specifier) (label : List ℕ) (z g : ℕ) → IsName label → z < 2 ^ 32 → g < 2 ^ 32
    → (at : ℕ) → Takes (area_line (form_of f)) at (write_area f label z g) (area (record { at = at + 2; length = length label }) z g none) always
unfolding area_line write_area
takes-area f label z g a i j at =
    takes-then (λ n. area_of (form_of f) n) (takes-titled at 65 label a) (takes-area-of f z g i j (record { at = at + 2; length = length label }) _) (space-stops-names always _)

module _ (f : Specifier) (label : List ℕ) (size flags : ℕ) (a : IsName label) (i : size < 2 ^ 32) (j : flags < 2 ^ 32) where
  -- A label size ss flags ff: the label's place and length, the size and the flags, no addr
  pub a-written-area-reads-back : ReadsWhole (area_line (form_of f)) (write_area f label size flags) (area (record { at = 2; length = length label }) size flags none)
  a-written-area-reads-back = takes_whole (takes-area f label size flags a i j 0)

  -- its letter leads there
  pub a-written-area-is-an-entry : ReadsWhole (entry_line (form_of f)) (write_area f label size flags) (area (record { at = 2; length = length label }) size flags none)
  unfolding entry_line write_area
  a-written-area-is-an-entry = a-written-area-reads-back

  -- and what stands at that place is the label
  pub the-label-stands-there : take (length label) (drop 2 (write_area f label size flags)) ≡ label
  unfolding write_area
  the-label-stands-there = take-append_seam label _
