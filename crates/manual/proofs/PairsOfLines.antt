-- The manual's T line with the R line behind it, and with the P line behind it, as pairs of lines.
-- Assumes nothing.
use Prim.Native.Nat.{ℕ, ◌+◌, ◌<◌, ◌^◌, ◌≤◌}
use mathlib.Core.Path.{◌≡◌, refl}
use mathlib.Core.List.{List, [], map, ◌++◌, ◌∷◌}
use native.Mathlib.Omega.{arith}
use lib.ListN.{length, length-append, length-map}
use lib.Dec.{eqb}
use Rattle.format.specs.Lists.{starts}
use Rattle.format.specs.Got.{is, isnt}
use Rattle.format.specs.Number.{behind, word}
use Rattle.format.specs.Entries.{lead}
use Rattle.format.specs.Pairs.{Fragment, area_part, pair_of, placed, placed_of, relocation_line, skipped, skipped_of}
use Rattle.manual.specs.Each.{Each, IsByte}
use Rattle.manual.specs.Specifier.{Specifier, address_bytes, form_of}
use Rattle.manual.specs.Digits.{bytes_of}
use Rattle.manual.specs.Words.{spaced}
use Rattle.manual.specs.WrittenPairs.{Writable, byte_text, one_byte_of, relocation_words, write_content, write_page, write_relocation}
use Rattle.manual.proofs.BytesOf.{bytes_count}
use Rattle.manual.proofs.IgnoredLines.{letter-and-more}
use Rattle.manual.proofs.ContentLine.{a-written-content-is-whole, some_bytes}
use Rattle.manual.proofs.RelocationLine.{a-written-relocation-reads-back}

module _ (f : Specifier) (address : ℕ) (content : List ℕ) (i : address < 256 ^ address_bytes f.addressing) (e : Each IsByte content)
    (width area : ℕ) (fragments : List Fragment) (j : area < 65536) where
  -- a T line of width w, and an R line: placed, and both used whole
  pub a-written-pair-reads-back : (w : ℕ) → Each (Writable 240) fragments
      → pair_of (form_of f) w (write_content f address content) (write_relocation f width one_byte_of area fragments)
      ≡ is (placed (record { address = address; bytes = content }) (record { area = area; fragments = fragments })) (w + length (write_relocation f width one_byte_of area fragments))
  unfolding pair_of placed_of
  a-written-pair-reads-back w a = rw (a-written-content-is-whole f address content i e, a-written-relocation-reads-back f width area fragments j a)

-- a line that begins with P is no R line
no-relocation : (f : Specifier) (rest : List ℕ) → relocation_line (form_of f) (80 ∷ rest) 0 ≡ isnt 4 0
unfolding relocation_line area_part lead word behind starts
no-relocation f rest = refl

-- words behind spaces are bytes
spaced-some : (ws : List (List ℕ)) → 1 ≤ length ws → 1 ≤ length (spaced ws)
spaced-some [] l = l
spaced-some (w ∷ ws) l = omega arith

module _ (f : Specifier) (address : ℕ) (content : List ℕ) (width : ℕ) (mode_bytes : ℕ → List ℕ) (area : ℕ) (fragments : List Fragment) where
  some-content : 1 ≤ length (spaced (map (byte_text f.radix) (bytes_of f.order (address_bytes f.addressing) address ++ content)))
  some-content = spaced-some (map (byte_text f.radix) (bytes_of f.order (address_bytes f.addressing) address ++ content)) (simp (length-map, length-append) (omega (arith, bytes_count f.order (address_bytes f.addressing) address, some_bytes f.addressing)))

  some-relocation : 1 ≤ length (spaced (relocation_words f width mode_bytes area fragments))
  some-relocation = spaced-some (relocation_words f width mode_bytes area fragments) (simp (length-append, length-map) (omega (arith, bytes_count f.order 2 0)))

  -- a T line of width w, and a P line: both are read over, whatever they hold
  pub a-written-page-is-skipped : (w : ℕ)
      → skipped_of w (write_content f address content) (write_page f width mode_bytes area fragments) ≡ is skipped (w + length (write_page f width mode_bytes area fragments))
  unfolding skipped_of write_content write_page
  a-written-page-is-skipped w = rw (letter-and-more (λ b. eqb b 84) skipped 84 _ refl some-content, letter-and-more (λ b. eqb b 80) skipped 80 _ refl some-relocation)

  -- and so the pair is, in a module of the same form
  pub a-written-page-pair-is-skipped : (w : ℕ) → address < 256 ^ address_bytes f.addressing → Each IsByte content
      → pair_of (form_of f) w (write_content f address content) (write_page f width mode_bytes area fragments) ≡ is skipped (w + length (write_page f width mode_bytes area fragments))
  unfolding pair_of placed_of write_page
  a-written-page-pair-is-skipped w i e = rw (a-written-content-is-whole f address content i e, no-relocation f _, a-written-page-is-skipped w)
