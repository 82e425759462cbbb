-- No reader of a line of group one goes past its end, and the name that it found lies in the line.
-- Assumes nothing.
use Prim.Native.Nat.{ℕ, ◌+◌, ◌-◌, ◌≤◌}
use mathlib.Core.Bool.{Bool, true, false}
use mathlib.Core.List.{List}
use native.Mathlib.Omega.{arith}
use lib.ListN.{length, get_or}
use lib.Dec.{eqb, leb}
use Rattle.format.specs.Lists.{pick}
use Rattle.format.specs.Bytes.{is_name_byte}
use Rattle.format.specs.Got.{Got, is, isnt, then, optional, or_else}
use Rattle.format.specs.Number.{past, blanks, space, word, Name, name, number}
use Rattle.format.specs.Header.{Form}
use Rattle.format.specs.Entries.{Entry, ignored, area, symbol, spelled, A, S, size, flags, addr, Ref, Def, letter_and_more, is_ignored, ignored_line, lead, titled, field, area_of, area_line, ref_or_def, value_of, symbol_of, symbol_line, entry_line}
use Rattle.laws.proofs.Within.Readers.{Holds, then-holds, Upto, Keeps, pick-holds, past-within, blanks-keeps, space-keeps, word_keeps, number-keeps, lead-keeps, field-keeps, optional-keeps}

abbrev pub NameIn : List ℕ → Name → ℕ → Type 0
NameIn s n q = (q ≤ length s) × (n.at + n.length ≤ length s)

abbrev pub Named : List ℕ → Entry → Type 0
Named s ignored = Unit {0}
Named s (area n z g a) = n.at + n.length ≤ length s
Named s (symbol n r v) = n.at + n.length ≤ length s

abbrev pub EntryIn : List ℕ → Entry → ℕ → Type 0
EntryIn s e q = (q ≤ length s) × Named s e

name_in : (s : List ℕ) (at : ℕ) → at ≤ length s → Holds (NameIn s) (name s at)
unfolding name
name_in s at h =
    let p = past-within is_name_byte s at h in
    pick-holds (NameIn s) (eqb (past is_name_byte s at) at) (isnt 4 at) (is (record { at = at; length = past is_name_byte s at - at }) (past is_name_byte s at)) tt (p, from (past is_name_byte s at) p)
  where
    from : (q : ℕ) → q ≤ length s → at + (q - at) ≤ length s
    from q l = omega arith

titled-in : (w s : List ℕ) (at : ℕ) → at ≤ length s → Holds (NameIn s) (titled w s at)
unfolding titled
titled-in w s at h = then-holds (Upto s) (NameIn s) (lead w s at) (λ u q. name s q) (lead-keeps w s at h) (λ u q l. name_in s q l)

module _ (f : Form) (n : Name) (s : List ℕ) (i : n.at + n.length ≤ length s) where
  area-of-in : (at : ℕ) → at ≤ length s → Holds (EntryIn s) (area_of f n s at)
  unfolding area_of
  area-of-in at h =
      then-holds (Upto s) (EntryIn s) (field (spelled size) f.radix s at) _ (field-keeps _ f.radix s at h) (λ z b l.
      then-holds (Upto s) (EntryIn s) (field (spelled flags) f.radix s b) _ (field-keeps _ f.radix s b l) (λ g c m.
      then-holds (Upto s) (EntryIn s) (optional (field (spelled addr) f.radix) s c) _ (optional-keeps (field (spelled addr) f.radix) (field-keeps _ f.radix) s c m) (λ a d k.
      then-holds (Upto s) (EntryIn s) (blanks s d) _ (blanks-keeps s d k) (λ u q w. (w, i)))))

  value-of-in : (r : Bool) (at : ℕ) → at ≤ length s → Holds (EntryIn s) (value_of f n r s at)
  unfolding value_of
  value-of-in r at h =
      then-holds (Upto s) (EntryIn s) (number f.radix s at) _ (number-keeps f.radix s at h) (λ v b l.
      then-holds (Upto s) (EntryIn s) (blanks s b) _ (blanks-keeps s b l) (λ u q w. (w, i)))

ref-keeps : Keeps ref_or_def
unfolding ref_or_def
ref-keeps s at h = go (then (word (spelled Ref) s at) (λ u next. is true next)) (then (word (spelled Def) s at) (λ u next. is false next)) (part (spelled Ref) true) (part (spelled Def) false)
  where
    part : (w : List ℕ) (b : Bool) → Holds (Upto s) (then (word w s at) (λ u next. is b next))
    part w b = then-holds (Upto s) (Upto s) (word w s at) (λ u next. is b next) (word_keeps w s at h) (λ u q l. l)

    go : (m n : Got Bool) → Holds (Upto s) m → Holds (Upto s) n → Holds (Upto s) (or_else m n)
    go (is a u) n x y = x
    go (isnt r p) (is a u) x y = y
    go (isnt r p) (isnt r' p') x y = tt

module _ (f : Form) (s : List ℕ) (at : ℕ) (h : at ≤ length s) where
  symbol-of-in : (n : Name) → n.at + n.length ≤ length s → (b : ℕ) → b ≤ length s → Holds (EntryIn s) (symbol_of f n s b)
  unfolding symbol_of
  symbol-of-in n i b l =
      then-holds (Upto s) (EntryIn s) (space s b) _ (space-keeps s b l) (λ u c m.
      then-holds (Upto s) (EntryIn s) (ref_or_def s c) _ (ref-keeps s c m) (λ r d k. value-of-in f n s i r d k))

  area-line-in : Holds (EntryIn s) (area_line f s at)
  unfolding area_line
  area-line-in = then-holds (NameIn s) (EntryIn s) (titled (spelled A) s at) _ (titled-in (spelled A) s at h) (λ n q w. area-of-in f n s w.1 q w.0)

  symbol-line-in : Holds (EntryIn s) (symbol_line f s at)
  unfolding symbol_line
  symbol-line-in = then-holds (NameIn s) (EntryIn s) (titled (spelled S) s at) _ (titled-in (spelled S) s at h) (λ n q w. symbol-of-in n w.1 q w.0)

  pub any-keeps : {B : Type 0} (P : B → ℕ → Type 0) (p : ℕ → Bool) (a : B) → P a (length s) → Holds P (letter_and_more p a s at)
  unfolding letter_and_more
  any-keeps P p a w =
      pick-holds P (p (get_or s at 0)) (pick (leb (at + 2) (length s)) (is a (length s)) (isnt 4 (at + 1))) (isnt 4 at)
      (pick-holds P (leb (at + 2) (length s)) (is a (length s)) (isnt 4 (at + 1)) w tt) tt

  ignored-in : Holds (EntryIn s) (ignored_line s at)
  unfolding ignored_line
  ignored-in = any-keeps (EntryIn s) is_ignored ignored (omega arith, tt)

  -- a line of group one
  pub entry_in : Holds (EntryIn s) (entry_line f s at)
  unfolding entry_line
  entry_in =
      pick-holds (EntryIn s) (eqb (get_or s at 0) 65) (area_line f s at) _ area-line-in
      (pick-holds (EntryIn s) (eqb (get_or s at 0) 83) (symbol_line f s at) (ignored_line s at) symbol-line-in ignored-in)
