-- The records of written lines.
-- Assumes nothing.
use Prim.Native.Nat.{ℕ, ◌+◌}
use mathlib.Core.Path.{◌≡◌, ap, refl, sym, ◌∙◌}
use mathlib.Core.Bool.{true}
use mathlib.Core.List.{List, [], append_assoc, map, ◌++◌, ◌∷◌}
use native.Mathlib.Nat.{add-zero}
use native.Mathlib.Omega.{arith}
use lib.ListN.{drop, length, length-append}
use lib.Seq.{drop-append_seam, drop-drop}
use borrow.Author.Tests.{eq-eqb}
use Rattle.format.specs.Lists.{flat}
use Rattle.format.specs.Got.{is}
use Rattle.format.specs.Lines.{width}
use Rattle.format.specs.Entries.{entry_line, ignored_line, is_ignored, letter_and_more}
use Rattle.format.specs.Pairs.{Pair, pair_lines, pair_of, placed, placed_of, relocation_line}
use Rattle.format.specs.Records.{Records, Taken, ends, entry_step, goes, last_of, pair_step, pairs, records, stops}
use Rattle.manual.specs.Each.{Each}
use Rattle.manual.specs.Specifier.{Specifier, address_bytes, form_of}
use Rattle.manual.specs.Takes.{ReadsWhole}
use Rattle.manual.specs.WrittenPairs.{write_content}
use Rattle.manual.proofs.ContentLine.{a-written-content-is-whole}
use Rattle.manual.proofs.RelocationLine.{a-later-relocation-reads-back}
use Rattle.written.specs.Named.{NamedEntry, NamedPair, collected, named_of, taken_entry, taken_pair}
use Rattle.written.specs.Writing.{GoodEntry, GoodPair, content_text, entry_text, line_ended, line_texts, pair_texts, relocation_text}
use Rattle.written.specs.ReadsBack.{body_of, laid, laid_pairs}
use Rattle.written.proofs.Lines.{as_line}
use Rattle.written.proofs.Entries.{entry-named-back, entry-reads-back}

module _ (s : Specifier) where
  abbrev Fits : NamedPair → Type 0
  Fits p = GoodPair (address_bytes s.addressing) p

  ended-width : (l : List ℕ) → width (as_line l) ≡ length (line_ended l)
  unfolding width
  ended-width l = sym (length-append l (10 ∷ []))

  -- a line of group one
  entry-goes : (at : ℕ) (e : NamedEntry) → GoodEntry e
      → entry_step true (form_of s) at (as_line (entry_text s e)) ≡ goes (record { place = at; end = at + length (line_ended (entry_text s e)); body = body_of e })
  unfolding entry_step
  entry-goes at e h = rw (entry-reads-back s e h, eq-eqb (length (entry_text s e)) (length (entry_text s e)) refl, ended-width (entry_text s e))

  -- a T line is none of group one
  content-stops : (at : ℕ) (p : NamedPair) → entry_step true (form_of s) at (as_line (content_text s p)) ≡ stops
  unfolding entry_step entry_line ignored_line letter_and_more is_ignored write_content
  content-stops at p = refl

  -- a T line and an R line
  relocation-whole : (p : NamedPair) → Fits p → ReadsWhole (relocation_line (form_of s)) (relocation_text s p) p.relocation
  relocation-whole p h = a-later-relocation-reads-back s 2 p.relocation.area p.relocation.fragments h.area h.fragments

  pair-reads-back : (w : ℕ) (p : NamedPair) → Fits p
      → pair_of (form_of s) w (content_text s p) (relocation_text s p) ≡ is (placed p.content p.relocation) (w + length (relocation_text s p))
  unfolding pair_of placed_of
  pair-reads-back w p h =
      rw (a-written-content-is-whole s p.content.address p.content.bytes h.address h.bytes, relocation-whole p h)

  pair_goes : (at : ℕ) (p : NamedPair) → Fits p
      → pair_step true (form_of s) at (as_line (content_text s p)) (as_line (relocation_text s p))
      ≡ goes (record { place = at; end = at + (length (line_ended (content_text s p)) + length (line_ended (relocation_text s p))); body = placed p.content p.relocation })
  unfolding pair_step pair_lines
  pair_goes at p h =
      let n = width (as_line (content_text s p)) + length (relocation_text s p) in
      rw (pair-reads-back (width (as_line (content_text s p))) p h, eq-eqb n n refl, ended-width (content_text s p), ended-width (relocation_text s p))

  -- group two
  pairs-laid : (at : ℕ) (ps : List NamedPair) → Each Fits ps → pairs true (form_of s) at (map as_line (pair_texts s ps)) ≡ laid_pairs s at ps
  unfolding pairs pair_texts laid_pairs
  pairs-laid at [] h = refl
  pairs-laid at (p ∷ ps) h =
      let next : ℕ = at + (length (line_ended (content_text s p)) + length (line_ended (relocation_text s p))) in
      rw (pair_goes at p h.0, ended-width (content_text s p), ended-width (relocation_text s p))
      (ap (λ (ts : List (Taken Pair)). record { place = at; end = next; body = placed p.content p.relocation } ∷ ts) (pairs-laid next ps h.1))

  -- where group one is at an end
  two-laid : (at : ℕ) (ps : List NamedPair) → Each Fits ps → records true (form_of s) at (map as_line (pair_texts s ps)) ≡ record { entries = []; pairs = laid_pairs s at ps }
  unfolding records pair_texts laid_pairs
  two-laid at [] h = refl
  two-laid at (p ∷ ps) h = rw (content-stops at p) (ap (λ (ts : List (Taken Pair)). record { entries = []; pairs = ts }) (pairs-laid at (p ∷ ps) h))

  -- all records
  pub records-laid : (at : ℕ) (es : List NamedEntry) (ps : List NamedPair) → Each GoodEntry es → Each Fits ps
      → records true (form_of s) at (map as_line (line_texts s es ps)) ≡ laid s at es ps
  unfolding records line_texts laid
  records-laid at [] ps h k = two-laid at ps k
  records-laid at (e ∷ es) ps h k =
      let next : ℕ = at + length (line_ended (entry_text s e)) in
      rw (entry-goes at e h.0, ended-width (entry_text s e))
      (ap (λ (r : Records). record { entries = record { place = at; end = next; body = body_of e } ∷ r.entries; pairs = r.pairs }) (records-laid next es ps h.1 k))

  -- their names
  pairs-named : (at : ℕ) (ps : List NamedPair) → collected taken_pair (laid_pairs s at ps) ≡ ps
  unfolding collected laid_pairs
  pairs-named at [] = refl
  pairs-named at (p ∷ ps) = ap (λ (qs : List NamedPair). p ∷ qs) (pairs-named (at + (length (line_ended (content_text s p)) + length (line_ended (relocation_text s p)))) ps)

  module _ (text : List ℕ) where
    next-line : (at : ℕ) (l more : List ℕ) → drop at text ≡ line_ended l ++ more → drop (at + length (line_ended l)) text ≡ more
    next-line at l more d = sym (drop-drop (length (line_ended l)) at text) ∙ ap (drop (length (line_ended l))) d ∙ drop-append_seam (line_ended l) more

    entries-named : (at : ℕ) (es : List NamedEntry) (ps : List NamedPair) → drop at text ≡ flat line_ended (line_texts s es ps)
        → collected (taken_entry text) (laid s at es ps).entries ≡ es
    unfolding collected laid line_texts flat
    entries-named at [] ps d = refl
    entries-named at (e ∷ es) ps d =
        let more = flat line_ended (line_texts s es ps) in
        rw (entry-named-back s e text at (10 ∷ more) (d ∙ append_assoc (entry_text s e) (10 ∷ []) more))
        (ap (λ (xs : List NamedEntry). e ∷ xs) (entries-named (at + length (line_ended (entry_text s e))) es ps (next-line at (entry_text s e) more d)))

    laid-pairs : (at : ℕ) (es : List NamedEntry) (ps : List NamedPair) → collected taken_pair (laid s at es ps).pairs ≡ ps
    unfolding laid
    laid-pairs at [] ps = pairs-named at ps
    laid-pairs at (e ∷ es) ps = laid-pairs (at + length (line_ended (entry_text s e))) es ps

    pub laid-named : (at : ℕ) (es : List NamedEntry) (ps : List NamedPair) → drop at text ≡ flat line_ended (line_texts s es ps)
        → named_of text (laid s at es ps) ≡ record { entries = es; pairs = ps }
    unfolding named_of
    laid-named at es ps d = rw (entries-named at es ps d, laid-pairs at es ps)

  -- the last one ends where the lines do
  pairs-last : (at : ℕ) (ps : List NamedPair) → last_of at (map (λ (t : Taken Pair). t.end) (laid_pairs s at ps)) ≡ at + length (flat line_ended (pair_texts s ps))
  unfolding laid_pairs pair_texts flat
  pairs-last at [] = sym (add-zero at)
  pairs-last at (p ∷ ps) =
      pairs-last (at + (length (line_ended (content_text s p)) + length (line_ended (relocation_text s p)))) ps ∙ simp length-append (omega arith)

  pub laid-last : (at : ℕ) (es : List NamedEntry) (ps : List NamedPair) → last_of at (ends (laid s at es ps)) ≡ at + length (flat line_ended (line_texts s es ps))
  unfolding laid line_texts flat ends
  laid-last at [] ps = pairs-last at ps
  laid-last at (e ∷ es) ps = laid-last (at + length (line_ended (entry_text s e))) es ps ∙ simp length-append (omega arith)
