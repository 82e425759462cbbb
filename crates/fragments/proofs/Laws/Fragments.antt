-- The fragments of an R line.
-- Assumes nothing.
use Prim.Native.Nat.{ℕ, ◌+◌, ◌<◌, ◌≤◌}
use mathlib.Core.Path.{◌≡◌, refl, sym}
use mathlib.Core.Bool.{Bool}
use mathlib.Core.List.{List}
use lib.ListN.{length, set}
use borrow.Author.Rules.{rules}
use Rattle.std.specs.Prelude.{Option, Some, Result, Ok, Err}
use Rattle.format.specs.Bytes.{is_blank}
use Rattle.format.specs.Got.{Got, is, isnt}
use Rattle.format.specs.Number.{past, next_byte}
use Rattle.format.specs.Pairs.{index, next_index, mode_of, fragment}
use Rattle.format.specs.Pairs as the
use Rattle.numbers.specs.Told.{told}
use Rattle.numbers.specs.declared.Halt.{Halt}
use Rattle.numbers.specs.declared.Read.{Read}
use Rattle.numbers.proofs.Laws.Numbers.{space-no, space-is}
use Rattle.scan.proofs.Laws.Kinds.{span-start, span-end}
use Rattle.usual_fragment.specs.Usual.{UsualIs, seen}
use Rattle.usual_fragment.specs.declared.Fragment.{Fragment}
use Rattle.fragments.specs.Fragments.{told_fragment, FragmentsRead}
use Rattle.lists.proofs.Laws.Many.{Counting, Column, count-start, column-start, count-end, count-stop, count-more, column-end, column-stop, column-more}

-- `next_index`
module _ (radix : ℕ) (big : Bool) (s : List ℕ) (at : ℕ) where
  module _ {a : ℕ} (e : a ≡ past is_blank s at) where
    pub index-1 : a ≡ at → isnt 4 at ≡ next_index radix big s at
    unfolding next_index
    index-1 h = rw (space-no s at e h)

    pub index-2 : (a ≡ at → ⊥) → {x : Got ℕ} → x ≡ index radix big s a → x ≡ next_index radix big s at
    unfolding next_index
    index-2 h i = rw (space-is s at e h) i

pub ruleset indexing = (rules, index-1, index-2)

-- `fragment_at`
module _ (radix : ℕ) (big : Bool) (s : List ℕ) (at : ℕ) {a : ℕ} (e : a ≡ past is_blank s at) where
  pub fragment-1 : a ≡ at → isnt 4 at ≡ fragment radix big s at
  unfolding fragment
  fragment-1 h = rw (space-no s at e h)

  module _ (h : a ≡ at → ⊥) {m : Result (Read ℕ) Halt} (f : told m ≡ mode_of radix s a) where
    pub fragment-2 : {k : Halt} → m ≡ Err k → told_fragment (Err k) ≡ fragment radix big s at
    unfolding fragment
    fragment-2 g = rw (space-is s at e h, ← f, g)

    module _ {v : Read ℕ} (g : m ≡ Ok v) {n : Result (Read ℕ) Halt} (i : told n ≡ next_byte radix s v.next) where
      pub fragment-3 : {k : Halt} → n ≡ Err k → told_fragment (Err k) ≡ fragment radix big s at
      unfolding fragment
      fragment-3 j = rw (space-is s at e h, ← f, g, ← i, j)

      module _ {w : Read ℕ} (j : n ≡ Ok w) {o : Result (Read ℕ) Halt} (k : told o ≡ next_index radix big s w.next) where
        pub fragment-4 : {x : Halt} → o ≡ Err x → told_fragment (Err x) ≡ fragment radix big s at
        unfolding fragment
        fragment-4 l = rw (space-is s at e h, ← f, g, ← i, j, ← k, l)

        pub fragment-5 : {y : Read ℕ} → o ≡ Ok y → is (record { mode = v.value; entry = w.value; index = y.value }) y.next ≡ fragment radix big s at
        unfolding fragment
        fragment-5 l = rw (space-is s at e h, ← f, g, ← i, j, ← k, l)

-- `next_fragment`
pub fragment-past : (radix : ℕ) (big : Bool) (s : List ℕ) (at : ℕ) → length s ≤ at → isnt 4 at ≡ fragment radix big s at
fragment-past radix big s at h = fragment-1 radix big s at (span-end (span-start is_blank s at) h) refl

module _ (radix : ℕ) (big : Bool) (s : List ℕ) (at : ℕ) {u : Option (Read Fragment)} (w : UsualIs radix big s at u) where
  pub fragment-usual : {r : Read Fragment} → u ≡ Some r → is (seen r.value) r.next ≡ fragment radix big s at
  fragment-usual g = sym (rw g at w.says)

pub ruleset following = (rules, fragment-past, fragment-usual)

pub ruleset fragmenting = (rules, fragment-1, fragment-2, fragment-3, fragment-4, fragment-5)

-- `parse_reloc_frag`
module _ (radix : ℕ) (big : Bool) (s : List ℕ) (p : ℕ) {b : Result (Read Fragment) Halt} (e : told_fragment b ≡ fragment radix big s p) where
  fragment-no : {h : Halt} → b ≡ Err h → fragment radix big s p ≡ told_fragment (Err h)
  fragment-no g = rw (← e, g)

  fragment-is : {r : Read Fragment} → b ≡ Ok r → fragment radix big s p ≡ is (seen r.value) r.next
  fragment-is g = rw (← e, g)

module _ (radix : ℕ) (big : Bool) {s : List ℕ} {at n p : ℕ} (w : Counting (fragment radix big) s at n p) (h : n < length s) {b : Result (Read Fragment) Halt} (e : told_fragment b ≡ fragment radix big s p) where
  pub fragments-more : {r : Read Fragment} → b ≡ Ok r → Counting (fragment radix big) s at (n + 1) r.next
  fragments-more g = count-more w h (fragment-is radix big s p e g)

module _ (g : the.Fragment → ℕ) (radix : ℕ) (big : Bool) (s : List ℕ) {at : ℕ} {room left : List ℕ} {n p : ℕ} (w : Column g (fragment radix big) s at room left n p) where
  pub column-more-of : n < length s → {b : Result (Read Fragment) Halt} → told_fragment b ≡ fragment radix big s p → {r : Read Fragment} → b ≡ Ok r
      → {left' : List ℕ} → left' ≡ set left n (g (seen r.value)) → Column g (fragment radix big) s at room left' (n + 1) r.next
  column-more-of h e j l = column-more w h (fragment-is radix big s p e j) l

abbrev pub mode_in : the.Fragment → ℕ
mode_in f = f.mode

abbrev pub entry_in : the.Fragment → ℕ
entry_in f = f.entry

abbrev pub index_in : the.Fragment → ℕ
index_in f = f.index

module _ (radix : ℕ) (big : Bool) (s : List ℕ) {at n p : ℕ} (c : Counting (fragment radix big) s at n p) {ms es xs ms' es' xs' : List ℕ}
    (u : Column mode_in (fragment radix big) s at ms ms' n p) (v : Column entry_in (fragment radix big) s at es es' n p) (w : Column index_in (fragment radix big) s at xs xs' n p) where
  pub fragments-end : length s ≤ n → FragmentsRead radix big s at (record { count = length s; end = p }) ms es xs ms' es' xs'
  fragments-end h = record { ran = count-end c h; stored = record { of-modes = column-end u h; of-entries = column-end v h; of-indexes = column-end w h } }

  pub fragments-stop : n < length s → {b : Result (Read Fragment) Halt} → told_fragment b ≡ fragment radix big s p → {x : Halt} → b ≡ Err x → FragmentsRead radix big s at (record { count = n; end = p }) ms es xs ms' es' xs'
  fragments-stop h e i =
      let j = fragment-no radix big s p e i in
      record { ran = count-stop c h j; stored = record { of-modes = column-stop u h j; of-entries = column-stop v h j; of-indexes = column-stop w h j } }

pub ruleset fragments = (rules, count-start, column-start, fragments-end, fragments-stop, fragments-more, column-more-of)
