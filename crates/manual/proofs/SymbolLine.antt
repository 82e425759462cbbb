-- The manual's S line, read back: Def and Ref.
-- Assumes nothing.
use Prim.Native.Nat.{ℕ, ◌+◌, ◌<◌, ◌^◌}
use mathlib.Core.Path.{◌≡◌, ap, refl, sym}
use mathlib.Core.Bool.{Bool, false, true}
use mathlib.Core.List.{List, [], append_assoc, ◌++◌, ◌∷◌}
use native.Mathlib.Omega.{arith}
use lib.ListN.{drop, length, take}
use lib.Seq.{take-append_seam}
use borrow.Author.Tests.{eq-eqb}
use Rattle.format.specs.Lists.{starts}
use Rattle.format.specs.Bytes.{is_blank, is_digit}
use Rattle.format.specs.Got.{isnt}
use Rattle.format.specs.Number.{Name, behind, word}
use Rattle.format.specs.Entries.{Def, Ref, entry_line, ref_or_def, spelled, symbol, symbol_line, symbol_of, value_of}
use Rattle.manual.specs.Specifier.{Specifier, base, form_of}
use Rattle.manual.specs.Takes.{ReadsWhole, Takes}
use Rattle.manual.specs.WrittenEntries.{IsName, kind, value, write_symbol}
use Rattle.manual.proofs.Takes.{Stops, always, never, stops-cons, stops_end, stops-never, takes-next, takes_same, takes-space, takes-then, takes_whole, takes-word}
use Rattle.manual.proofs.Fields.{space-stops-names, takes-titled}
use Rattle.manual.proofs.Numbers.{a-written-number-reads-back}
use Rattle.manual.proofs.AreaLine.{takes-end}

-- Def is not Ref
no_ref : (s : List ℕ) (at : ℕ) (w rest : List ℕ) → drop at s ≡ (68 ∷ w) ++ rest → word (spelled Ref) s at ≡ isnt 4 at
unfolding word behind starts
no_ref s at w rest d = rw (d, eq-eqb at at refl)

pub takes-kind : (at : ℕ) (ref : Bool) → Takes ref_or_def at (spelled (kind ref)) ref never
unfolding ref_or_def
takes-kind at true = record { takes = λ s rest d h. rw ((takes-word at (spelled Ref) (omega arith)).takes s rest d h) }
takes-kind at false = record { takes = λ s rest d h. rw (no_ref s at (101 ∷ 102 ∷ []) rest d, (takes-word at (spelled Def) (omega arith)).takes s rest d h) }

pub kind-stops : (ref : Bool) (w : List ℕ) → Stops is_blank always (spelled (kind ref) ++ w)
unfolding is_blank
kind-stops true w = stops-cons is_blank always 82 (101 ∷ 102 ∷ w) refl
kind-stops false w = stops-cons is_blank always 68 (101 ∷ 102 ∷ w) refl

module _ (f : Specifier) (ref : Bool) (v : ℕ) (i : v < 2 ^ 32) (n : Name) where
  takes-value : (at : ℕ) → Takes (value_of (form_of f) n ref) at (value f v ++ []) (symbol n ref v) always
  unfolding value_of
  takes-value at = takes-then _ (a-written-number-reads-back f.radix at _ v i) (takes-end _ (symbol n ref v)) (stops_end (is_digit (base f.radix)))

  takes-symbol-of : (at : ℕ) → Takes (symbol_of (form_of f) n) at ((32 ∷ []) ++ (spelled (kind ref) ++ (value f v ++ []))) (symbol n ref v) always
  unfolding symbol_of
  takes-symbol-of at = takes-next (takes-space at) (takes-then _ (takes-kind _ ref) (takes-value _) (stops-never always _)) (kind-stops ref _)

-- at any place
takes-symbol : (f : Specifier) (name : List ℕ) (ref : Bool) (v : ℕ) → IsName name → v < 2 ^ 32
    → (at : ℕ) → Takes (symbol_line (form_of f)) at (write_symbol f name ref v) (symbol (record { at = at + 2; length = length name }) ref v) always
unfolding symbol_line write_symbol
takes-symbol f name ref v a i at = takes_same
    (takes-then (λ n. symbol_of (form_of f) n) (takes-titled at 83 name a) (takes-symbol-of f ref v i (record { at = at + 2; length = length name }) _) (space-stops-names always _))
    (ap (λ (w : List ℕ). 83 ∷ 32 ∷ (name ++ 32 ∷ w)) (sym (append_assoc (spelled (kind ref)) (value f v) [])))

module _ (f : Specifier) (name : List ℕ) (ref : Bool) (value : ℕ) (a : IsName name) (i : value < 2 ^ 32) where
  -- S name Defnnnn, S name Refnnnn, with nnnnnn and nnnnnnnn for 24 and 32 bits: the name's place and length, whether it is Ref, the value
  pub a-written-symbol-reads-back : ReadsWhole (symbol_line (form_of f)) (write_symbol f name ref value) (symbol (record { at = 2; length = length name }) ref value)
  a-written-symbol-reads-back = takes_whole (takes-symbol f name ref value a i 0)

  -- its letter leads there
  pub a-written-symbol-is-an-entry : ReadsWhole (entry_line (form_of f)) (write_symbol f name ref value) (symbol (record { at = 2; length = length name }) ref value)
  unfolding entry_line write_symbol
  a-written-symbol-is-an-entry = a-written-symbol-reads-back

  -- and what stands at that place is the name
  pub the-name-stands-there : take (length name) (drop 2 (write_symbol f name ref value)) ≡ name
  unfolding write_symbol
  the-name-stands-there = take-append_seam name _
