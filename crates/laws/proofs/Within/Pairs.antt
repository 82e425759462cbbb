-- No reader of a pair of lines goes past the second line's end.
-- Assumes nothing.
use Prim.Native.Nat.{ℕ, zero, suc, ◌+◌, ◌*◌, ◌%◌, ◌≤◌}
use mathlib.Core.Bool.{Bool}
use mathlib.Core.List.{List}
use native.Mathlib.Omega.{arith}
use lib.ListN.{length}
use lib.Dec.{eqb, ltb}
use Rattle.format.specs.Bytes.{is_blank}
use Rattle.format.specs.Got.{Got, is, isnt, Reader, give, many, again, or_else, shifted, ◌>>◌}
use Rattle.format.specs.Number.{space, byte, next_byte}
use Rattle.format.specs.Header.{Form}
use Rattle.format.specs.Entries.{spelled, R, letter_and_more, lead}
use Rattle.format.specs.Pairs.{Pair, skipped, placed, index, next_index, long_mode, any_mode, mode_of, fragment, zero_index, area_part, relocation_line, whole_content, placed_of, skipped_of, pair_of, pair_lines}
use Rattle.format.specs.Lines.{Line, width}
use Rattle.laws.proofs.Within.Readers.{Holds, then-holds, Upto, Keeps, bind-keeps, seq-keeps, pick-holds, only_keeps, past-within, space-keeps, byte-keeps, next-keeps, joined_keeps, lead-keeps}
use Rattle.laws.proofs.Within.Entries.{any-keeps}

index-keeps : (radix : ℕ) (big : Bool) → Keeps (index radix big)
unfolding index
index-keeps radix big = joined_keeps radix big 1

next-index-keeps : (radix : ℕ) (big : Bool) → Keeps (next_index radix big)
unfolding next_index
next-index-keeps radix big = seq-keeps space (index radix big) space-keeps (index-keeps radix big)

long-mode-keeps : (radix b : ℕ) → Keeps (long_mode radix b)
unfolding long_mode
long-mode-keeps radix b = bind-keeps (next_byte radix) (λ c. give ((b * 256 + c) % 4096)) (next-keeps radix) (λ c s at h. h)

any-mode-keeps : (radix : ℕ) → Keeps (any_mode radix)
unfolding any_mode
any-mode-keeps radix s at h =
    then-holds (Upto s) (Upto s) (byte radix s at) _ (byte-keeps radix s at h) (λ b q w.
    pick-holds (Upto s) (ltb b 240) (is b q) (long_mode radix b s q) w (long-mode-keeps radix b s q w))

fragment-keeps : (radix : ℕ) (big : Bool) → Keeps (fragment radix big)
unfolding fragment mode_of
fragment-keeps radix big =
    seq-keeps space _ space-keeps
    (bind-keeps (mode_of radix) _ (only_keeps (any_mode radix) (λ m. ltb m 2048) (any-mode-keeps radix)) (λ m.
    bind-keeps (next_byte radix) _ (next-keeps radix) (λ e.
    bind-keeps (next_index radix big) _ (next-index-keeps radix big) (λ i s at h. h))))

many-keeps : {A : Type 0} (m : Reader A) → Keeps m → (k : ℕ) (s : List ℕ) (at : ℕ) → at ≤ length s → (many k m s at).end ≤ length s
unfolding many
many-keeps m h zero s at l = l
many-keeps {A} m h (suc k) s at l = go (m s at) (h s at l) (λ q. many-keeps m h k s q)
  where
    go : (g : Got A) → Holds (Upto s) g → ((q : ℕ) → q ≤ length s → (many k m s q).end ≤ length s) → (again g (λ next. many k m s next) at).end ≤ length s
    go (is a q) w f = f q w
    go (isnt r p) w f = l

zero-keeps : (radix : ℕ) (big : Bool) → Keeps (zero_index radix big)
unfolding zero_index
zero-keeps radix big = only_keeps (index radix big) (λ i. eqb i 0) (index-keeps radix big)

part-keeps : (f : Form) → Keeps (area_part f)
unfolding area_part
part-keeps f =
    let x = f.radix in
    let y = f.big in
    seq-keeps (lead (spelled R)) (zero_index x y >> next_index x y) (lead-keeps (spelled R)) (seq-keeps (zero_index x y) (next_index x y) (zero-keeps x y) (next-index-keeps x y))

pub relocation-keeps : (f : Form) → Keeps (relocation_line f)
unfolding relocation_line
relocation-keeps f s at h =
    let item = fragment f.radix f.big in
    then-holds (Upto s) (Upto s) (area_part f s at) _ (part-keeps f s at h)
    (λ a q w. past-within is_blank s (many (length s) item s q).end (many-keeps item (fragment-keeps f.radix f.big) (length s) s q w))

module _ (f : Form) (t r : Line) where
  abbrev pub PairIn : Pair → ℕ → Type 0
  PairIn p q = q ≤ width t + length r.bytes

  shifted_in : {B C : Type 0} (g : B → C) (P : C → ℕ → Type 0) (m : Got B) → Holds (Upto r.bytes) m → ((c : C) (q : ℕ) → q ≤ width t + length r.bytes → P c q) → Holds P (shifted (width t) g m)
  shifted_in g P (is a u) h k = k (g a) (width t + u) (omega arith)
  shifted_in g P (isnt x p) h k = tt

  -- a pair of lines
  pub pair-in : Holds PairIn (pair_lines f t r)
  unfolding pair_lines pair_of placed_of skipped_of
  pair-in = go (placed_of f (width t) t.bytes r.bytes) (skipped_of (width t) t.bytes r.bytes)
      (then-holds (λ c q. Unit {0}) PairIn (whole_content f t.bytes) _ (triv (whole_content f t.bytes)) (λ c q w. shifted_in (placed c) PairIn (relocation_line f r.bytes 0) (relocation-keeps f r.bytes 0 (omega arith)) (λ a b l. l)))
      (then-holds (λ c q. Unit {0}) PairIn (letter_and_more (λ b. eqb b 84) skipped t.bytes 0) _ (triv (letter_and_more (λ b. eqb b 84) skipped t.bytes 0)) (λ c q w.
      shifted_in (λ b. b) PairIn (letter_and_more (λ b. eqb b 80) skipped r.bytes 0) (any-keeps f r.bytes 0 (omega arith) (Upto r.bytes) (λ b. eqb b 80) skipped (omega arith)) (λ a b l. l)))
    where
      triv : {B : Type 0} (m : Got B) → Holds (λ a q. Unit {0}) m
      triv (is a q) = tt
      triv (isnt x p) = tt

      go : (m n : Got Pair) → Holds PairIn m → Holds PairIn n → Holds PairIn (or_else m n)
      go (is a u) n x y = x
      go (isnt r p) (is a u) x y = y
      go (isnt r p) (isnt r' p') x y = tt
