-- Ref or Def, modes, indexes and fragments in a line cut short, and blanks up to its end.
-- Assumes nothing.
use Prim.Native.Nat.{ℕ, ◌+◌, ◌-◌, ◌*◌, ◌%◌, ◌≤◌, ◌<◌}
use mathlib.Core.Path.{◌≡◌, refl}
use mathlib.Core.Bool.{Bool, true, false}
use mathlib.Core.List.{List}
use mathlib.Core.Logic.{◌⊎◌, inl, inr}
use native.Mathlib.Omega.{arith}
use lib.ListN.{length, drop, take}
use lib.Dec.{eqb, ltb, leb}
use borrow.Author.Tests.{leb-true, leb-false}
use Rattle.format.specs.Lists.{pick, run}
use Rattle.format.specs.Bytes.{is_blank}
use Rattle.format.specs.Got.{Got, Reader, give, is, isnt, or_else, then, ◌>>=◌, ◌>>◌}
use Rattle.format.specs.Number.{behind, blanks, byte, bytes, next_byte, number, past, space, word}
use Rattle.format.specs.Entries.{Def, Ref, field, lead, ref_or_def, spelled}
use Rattle.format.specs.Pairs.{Fragment, any_mode, fragment, index, long_mode, mode_of, next_index, zero_index}
use Rattle.cut_reason.proofs.Shorter.{AtEnd, CutOf, Ends, Cuts, never, at_cut, bind-ends, bind-cuts, seq-ends, seq-cuts, give-ends, give-cuts, only-ends, only-cuts}
use Rattle.cut_reason.proofs.Words.{run-cut, space-ends, space-cuts, word_kept, word-lost, word_read, word-ends, lead-ends}
use Rattle.cut_reason.proofs.Numbers.{number-ends, byte-ends, byte-cuts, next-ends, next-cuts, joined-ends, joined-cuts}

-- ------------------------------------------------------------------ Ref or Def

-- what stands in the cut stood there
kept-or-lost : (w s : List ℕ) (at k : ℕ) → at ≤ k → k ≤ length s → (word w (take k s) at ≡ word w s at) ⊎ (word w (take k s) at ≡ isnt 4 at)
kept-or-lost w s at k l h = go (leb (at + length w) k) refl
  where
    go : (b : Bool) → leb (at + length w) k ≡ b → (word w (take k s) at ≡ word w s at) ⊎ (word w (take k s) at ≡ isnt 4 at)
    go true m = inl (word_kept w s at k l h (leb-true (at + length w) k m))
    go false m = inr (word-lost w s at k l h (leb-false (at + length w) k m))

abbrev either : Got (Unit {0}) → Got (Unit {0}) → Got Bool
either a b = or_else (then a (λ u next. is true next)) (then b (λ u next. is false next))

either_end : (k : ℕ) (a b : Got (Unit {0})) → AtEnd k a → AtEnd k b → AtEnd k (either a b)
either_end k (is u p) b x y = x
either_end k (isnt r p) (is u q) x y = y
either_end k (isnt r p) (isnt r' q) x y = x

pub ref-ends : Ends ref_or_def
unfolding ref_or_def
ref-ends s = either_end (length s) (word (spelled Ref) s (length s)) (word (spelled Def) s (length s)) (word-ends (spelled Ref) s) (word-ends (spelled Def) s)

pub ref-cuts : Cuts ref_or_def
unfolding ref_or_def
ref-cuts s at k a q l h e = go (leb (at + 3) k) refl
  where
    -- both words are of three bytes: both stand as they did, or neither stands
    read : (x y : Got (Unit {0})) → word (spelled Ref) s at ≡ x → word (spelled Def) s at ≡ y → either x y ≡ is a q → q ≡ at + 3
    read (is u p) y f g m = let b : p ≡ q = cc in omega (arith, word_read (spelled Ref) s at u p f)
    read (isnt r p) (is u n) f g m = let b : n ≡ q = cc in omega (arith, word_read (spelled Def) s at u n g)
    read (isnt r p) (isnt r' n) f g m = never m

    go : (b : Bool) → leb (at + 3) k ≡ b → CutOf k a q (either (word (spelled Ref) (take k s) at) (word (spelled Def) (take k s) at))
    go true m =
        let n : at + 3 ≤ k = leb-true (at + 3) k m in
        let x : word (spelled Ref) (take k s) at ≡ word (spelled Ref) s at = word_kept (spelled Ref) s at k l h n in
        let y : word (spelled Def) (take k s) at ≡ word (spelled Def) s at = word_kept (spelled Def) s at k l h n in
        let z = read (word (spelled Ref) s at) (word (spelled Def) s at) refl refl e in
        rw (x, y, e) (inl (refl, refl, omega (arith, z)))
    go false m =
        let n : k < at + 3 = leb-false (at + 3) k m in
        rw (word-lost (spelled Ref) s at k l h n, word-lost (spelled Def) s at k l h n) (inr refl)

-- ------------------------------------------------------------------ modes, indexes, fragments

pub index-ends : (radix : ℕ) (big : Bool) → Ends (index radix big)
unfolding index
index-ends radix big = joined-ends radix big 1

pub index-cuts : (radix : ℕ) (big : Bool) → Cuts (index radix big)
unfolding index
index-cuts radix big = joined-cuts radix big 1

pub next-index-ends : (radix : ℕ) (big : Bool) → Ends (next_index radix big)
unfolding next_index
next-index-ends radix big = seq-ends space (index radix big) space-ends (index-ends radix big)

pub next-index-cuts : (radix : ℕ) (big : Bool) → Cuts (next_index radix big)
unfolding next_index
next-index-cuts radix big = seq-cuts space (index radix big) space-cuts (index-cuts radix big) (index-ends radix big)

pub zero-ends : (radix : ℕ) (big : Bool) → Ends (zero_index radix big)
unfolding zero_index
zero-ends radix big = only-ends (index radix big) (λ i. eqb i 0) (index-ends radix big)

pub zero-cuts : (radix : ℕ) (big : Bool) → Cuts (zero_index radix big)
unfolding zero_index
zero-cuts radix big = only-cuts (index radix big) (λ i. eqb i 0) (index-cuts radix big)

long-ends : (radix b : ℕ) → Ends (long_mode radix b)
unfolding long_mode
long-ends radix b = bind-ends (next_byte radix) _ (next-ends radix) (λ c. give-ends ((b * 256 + c) % 4096))

long-cuts : (radix b : ℕ) → Cuts (long_mode radix b)
unfolding long_mode
long-cuts radix b = bind-cuts (next_byte radix) _ (next-cuts radix) (λ c. give-cuts ((b * 256 + c) % 4096)) (λ c. give-ends ((b * 256 + c) % 4096))

-- a byte, or a byte and one more
any_of : ℕ → ℕ → Reader ℕ
any_of radix b s at = pick (ltb b 240) (is b at) (long_mode radix b s at)

any-of-ends : (radix b : ℕ) → Ends (any_of radix b)
unfolding any_of
any-of-ends radix b s = go (ltb b 240)
  where
    go : (t : Bool) → AtEnd (length s) (pick t (is b (length s)) (long_mode radix b s (length s)))
    go true = refl
    go false = long-ends radix b s

any-of-cuts : (radix b : ℕ) → Cuts (any_of radix b)
unfolding any_of
any-of-cuts radix b s at k a q l h e = go (ltb b 240) e
  where
    go : (t : Bool) → pick t (is b at) (long_mode radix b s at) ≡ is a q → CutOf k a q (pick t (is b at) (long_mode radix b (take k s) at))
    go true m = let x : b ≡ a = cc in let y : at ≡ q = cc in inl (x, y, omega arith)
    go false m = long-cuts radix b s at k a q l h m

any-mode-ends : (radix : ℕ) → Ends (any_mode radix)
unfolding any_mode any_of
any-mode-ends radix = bind-ends (byte radix) (any_of radix) (byte-ends radix) (any-of-ends radix)

any-mode-cuts : (radix : ℕ) → Cuts (any_mode radix)
unfolding any_mode any_of
any-mode-cuts radix = bind-cuts (byte radix) (any_of radix) (byte-cuts radix) (any-of-cuts radix) (any-of-ends radix)

mode-ends : (radix : ℕ) → Ends (mode_of radix)
unfolding mode_of
mode-ends radix = only-ends (any_mode radix) (λ m. ltb m 2048) (any-mode-ends radix)

mode-cuts : (radix : ℕ) → Cuts (mode_of radix)
unfolding mode_of
mode-cuts radix = only-cuts (any_mode radix) (λ m. ltb m 2048) (any-mode-cuts radix)

module _ (radix : ℕ) (big : Bool) where
  -- behind the mode, and behind the entry
  index_part : ℕ → ℕ → Reader Fragment
  index_part m e = do
    i ← next_index radix big
    give (record { mode = m; entry = e; index = i })

  entry_part : ℕ → Reader Fragment
  entry_part m = do
    e ← next_byte radix
    index_part m e

  mode_part : Reader Fragment
  mode_part = do
    m ← mode_of radix
    entry_part m

  index-part-ends : (m e : ℕ) → Ends (index_part m e)
  unfolding index_part
  index-part-ends m e = bind-ends (next_index radix big) _ (next-index-ends radix big) (λ i. give-ends {A = Fragment} (record { mode = m; entry = e; index = i }))

  index-part-cuts : (m e : ℕ) → Cuts (index_part m e)
  unfolding index_part
  index-part-cuts m e =
      bind-cuts (next_index radix big) _ (next-index-cuts radix big) (λ i. give-cuts {A = Fragment} (record { mode = m; entry = e; index = i }))
      (λ i. give-ends {A = Fragment} (record { mode = m; entry = e; index = i }))

  entry-part-ends : (m : ℕ) → Ends (entry_part m)
  unfolding entry_part
  entry-part-ends m = bind-ends (next_byte radix) (index_part m) (next-ends radix) (index-part-ends m)

  entry-part-cuts : (m : ℕ) → Cuts (entry_part m)
  unfolding entry_part
  entry-part-cuts m = bind-cuts (next_byte radix) (index_part m) (next-cuts radix) (index-part-cuts m) (index-part-ends m)

  mode-part-ends : Ends mode_part
  unfolding mode_part
  mode-part-ends = bind-ends (mode_of radix) entry_part (mode-ends radix) entry-part-ends

  mode-part-cuts : Cuts mode_part
  unfolding mode_part
  mode-part-cuts = bind-cuts (mode_of radix) entry_part (mode-cuts radix) entry-part-cuts entry-part-ends

  pub fragment-ends : Ends (fragment radix big)
  unfolding fragment mode_part entry_part index_part
  fragment-ends = seq-ends space mode_part space-ends mode-part-ends

  pub fragment-cuts : Cuts (fragment radix big)
  unfolding fragment mode_part entry_part index_part
  fragment-cuts = seq-cuts space mode_part space-cuts mode-part-cuts mode-part-ends

-- ------------------------------------------------------------------ blanks to the end of the line

-- a reader that begins with blanks and then asks for something, where nothing but blanks is left
pub blank-rest : {B : Type 0} (m : Reader B) → Ends m → (s : List ℕ) (at k : ℕ) → at ≤ k → k ≤ length s → past is_blank s at ≡ length s → AtEnd k ((space >> m) (take k s) at)
unfolding space
blank-rest {B} m em s at k l h e = go (run-cut is_blank s at k l h).how
  where
    reached : past is_blank (take k s) at ≡ k → AtEnd k (then (pick {A = Got (Unit {0})} (eqb (past is_blank (take k s) at) at) (isnt 4 at) (is tt (past is_blank (take k s) at))) (λ (u : Unit {0}) next. m (take k s) next))
    reached q = rw q (step (eqb k at))
      where
        step : (t : Bool) → AtEnd k (then (pick {A = Got (Unit {0})} t (isnt 4 at) (is tt k)) (λ (u : Unit {0}) next. m (take k s) next))
        step true = inr refl
        step false = at_cut m em s k h

    go : ((run is_blank (drop at (take k s)) ≡ run is_blank (drop at s)) × (past is_blank (take k s) at ≡ past is_blank s at) × (past is_blank s at ≤ k))
        ⊎ ((run is_blank (drop at (take k s)) ≡ take (k - at) (run is_blank (drop at s))) × (past is_blank (take k s) at ≡ k) × (k < past is_blank s at))
        → AtEnd k (then (pick {A = Got (Unit {0})} (eqb (past is_blank (take k s) at) at) (isnt 4 at) (is tt (past is_blank (take k s) at))) (λ (u : Unit {0}) next. m (take k s) next))
    go (inl (x, y, z)) = reached (omega (arith, y, e))
    go (inr (x, y, z)) = reached y

pub byte-blank : (radix : ℕ) (s : List ℕ) (at k : ℕ) → at ≤ k → k ≤ length s → past is_blank s at ≡ length s → AtEnd k (next_byte radix (take k s) at)
unfolding next_byte
byte-blank radix s at k l h e = blank-rest (byte radix) (byte-ends radix) s at k l h e

pub fragment-blank : (radix : ℕ) (big : Bool) (s : List ℕ) (at k : ℕ) → at ≤ k → k ≤ length s → past is_blank s at ≡ length s → AtEnd k (fragment radix big (take k s) at)
unfolding fragment mode_part entry_part index_part
fragment-blank radix big s at k l h e = blank-rest (mode_part radix big) (mode-part-ends radix big) s at k l h e

pub field-blank : (w : List ℕ) (radix : ℕ) (s : List ℕ) (at k : ℕ) → at ≤ k → k ≤ length s → past is_blank s at ≡ length s → AtEnd k (field w radix (take k s) at)
unfolding field
field-blank w radix s at k l h e = blank-rest (lead w >> number radix) (seq-ends (lead w) (number radix) (lead-ends w) (number-ends radix)) s at k l h e
