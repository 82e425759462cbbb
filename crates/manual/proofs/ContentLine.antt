-- The manual's T line in 16, 24 and 32 bits, read back.
-- Assumes nothing.
use Prim.Native.Nat.{suc, zero, ℕ, ◌-◌, ◌<◌, ◌^◌, ◌≤◌}
use mathlib.Core.Path.{◌≡◌, ap, refl, sym, ◌∙◌}
use mathlib.Core.List.{List, [], append-nil, map, ◌∷◌}
use native.Mathlib.Omega.{arith}
use lib.ListN.{drop, length}
use borrow.Author.Tests.{eq-eqb}
use Rattle.format.specs.Lists.{flat, run}
use Rattle.format.specs.Bytes.{is_blank, is_digit}
use Rattle.format.specs.Got.{is, isnt, ◌>>◌}
use Rattle.format.specs.Number.{joined, next_byte}
use Rattle.format.specs.Entries.{T, lead, spelled}
use Rattle.format.specs.Pairs.{address_part, content_from, content_line, whole_content}
use Rattle.manual.specs.Each.{Each, IsByte}
use Rattle.manual.specs.Specifier.{Addressing, Specifier, address_bytes, base, bits16, bits24, bits32, form_of, is_big}
use Rattle.manual.specs.Digits.{bytes_of}
use Rattle.manual.specs.Takes.{ReadsWhole, Takes}
use Rattle.manual.specs.Words.{spaced}
use Rattle.manual.specs.WrittenPairs.{byte_text, byte_width, write_content}
use Rattle.manual.proofs.Takes.{always, no-space, nothing_left, stops-last, takes_same, takes-then, takes_whole}
use Rattle.manual.proofs.Fields.{space-no-digit}
use Rattle.manual.proofs.ByteLists.{spaced-more, spaced-stops, takes-lettered, takes-next-byte}
use Rattle.manual.proofs.Many.{Item, takes_all}

-- a byte of a list does not read where no blank stands
no_byte : (radix : ℕ) (s : List ℕ) (at : ℕ) → run is_blank (drop at s) ≡ [] → next_byte radix s at ≡ isnt 4 at
unfolding next_byte
no_byte radix s at h = rw (no-space s at h)

abbrev single : ℕ → List ℕ
single b = b ∷ []

flat-single : (bs : List ℕ) → flat single bs ≡ bs
unfolding flat
flat-single [] = refl
flat-single (b ∷ bs) = ap (λ (l : List ℕ). b ∷ l) (flat-single bs)

pub some_bytes : (a : Addressing) → 1 ≤ address_bytes a
some_bytes bits16 = omega arith
some_bytes bits24 = omega arith
some_bytes bits32 = omega arith

module _ (f : Specifier) where
  items : (bs : List ℕ) → Each IsByte bs → Each (Item (next_byte (base f.radix)) single (byte_text f.radix) (is_digit (base f.radix))) bs
  items [] a = tt
  items (b ∷ bs) a = (record { some = omega arith; taken = λ at. takes_same (takes-next-byte f.radix (byte_width f.radix) at b a.0) (ap (λ (l : List ℕ). 32 ∷ l) (sym (append-nil (byte_text f.radix b)))) }, items bs a.1)

  -- the content to the line's end
  takes-content : (a : ℕ) (bs : List ℕ) → Each IsByte bs → (at : ℕ)
      → Takes (λ s next. content_from (form_of f) s a next) at (spaced (map (byte_text f.radix) bs)) (record { address = a; bytes = bs }) always
  takes-content a bs e at = record {
    takes = λ s rest d h.
        let t = byte_text f.radix in
        let d₁ : drop at s ≡ spaced (map t (flat single bs)) = d ∙ rw (nothing_left rest h, append-nil, flat-single bs) in
        let m = takes_all (next_byte (base f.radix)) single t (is_digit (base f.radix)) (space-no-digit f.radix) (no_byte (base f.radix)) bs (items bs e) s at d₁ in
        rw (m, flat-single bs);
  }

-- T and the address, of k + 1 bytes
module _ (f : Specifier) where
  takes-address : (address : ℕ) → address < 256 ^ address_bytes f.addressing → (at : ℕ)
      → Takes (address_part (form_of f)) at (84 ∷ spaced (map (byte_text f.radix) (bytes_of f.order (address_bytes f.addressing) address))) address (is_digit (base f.radix))
  unfolding address_part
  takes-address address i at = go (address_bytes f.addressing) (some_bytes f.addressing) i
    where
      go : (n : ℕ) → 1 ≤ n → address < 256 ^ n
          → Takes (lead (spelled T) >> joined (base f.radix) (is_big f.order) (n - 1)) at (84 ∷ spaced (map (byte_text f.radix) (bytes_of f.order n address))) address (is_digit (base f.radix))
      go zero l h = let z : ⊥ = omega arith in absurd z
      go (suc k) l h = let e : suc k - 1 ≡ k = omega arith in rw e (takes-lettered f.radix (byte_width f.radix) f.order 84 k address h at)

  takes-content-line : (address : ℕ) (bs : List ℕ) → address < 256 ^ address_bytes f.addressing → Each IsByte bs
      → (at : ℕ) → Takes (content_line (form_of f)) at (write_content f address bs) (record { address = address; bytes = bs }) always
  unfolding content_line write_content
  takes-content-line address bs i e at = takes_same
      (takes-then (λ a s next. content_from (form_of f) s a next) (takes-address address i at) (takes-content f address bs e _) (stops-last (spaced-stops (is_digit (base f.radix)) (map (byte_text f.radix) bs) (space-no-digit f.radix))))
      (ap (λ (w : List ℕ). 84 ∷ w) (sym (spaced-more (byte_text f.radix) (bytes_of f.order (address_bytes f.addressing) address) bs)))

module _ (f : Specifier) (address : ℕ) (content : List ℕ) (i : address < 256 ^ address_bytes f.addressing) (e : Each IsByte content) where
  -- T xx xx nn nn ..: the address and the content
  pub a-written-content-reads-back : ReadsWhole (content_line (form_of f)) (write_content f address content) (record { address = address; bytes = content })
  a-written-content-reads-back = takes_whole (takes-content-line f address content i e 0)

  -- as the T line of a pair, too
  pub a-written-content-is-whole : whole_content (form_of f) (write_content f address content) ≡ is (record { address = address; bytes = content }) (length (write_content f address content))
  unfolding whole_content
  a-written-content-is-whole = rw (a-written-content-reads-back, eq-eqb (length (write_content f address content)) (length (write_content f address content)) refl)
