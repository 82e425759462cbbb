-- What the readers of a pair of lines give can be written: bytes, addresses, indices and modes are within their bounds.
-- Assumes nothing.
use Prim.Native.Nat.{suc, zero, ℕ, ◌+◌, ◌-◌, ◌<◌, ◌^◌, ◌≤◌}
use mathlib.Core.Path.{◌≡◌}
use mathlib.Core.Bool.{Bool, false, true}
use mathlib.Core.List.{List}
use native.Mathlib.Omega.{arith}
use lib.ListN.{get_or, length}
use lib.Dec.{eqb, leb, ltb}
use borrow.Author.Tests.{ltb-true}
use Rattle.format.specs.Lists.{pick}
use Rattle.format.specs.Got.{Got, Reader, again, is, isnt, many, only, or_else, shifted, then, ◌>>◌}
use Rattle.format.specs.Number.{bytes, joined, next_byte, space}
use Rattle.format.specs.Header.{Form}
use Rattle.format.specs.Lines.{Line, width}
use Rattle.format.specs.Entries.{A, R, T, area, lead, letter_and_more, spelled}
use Rattle.format.specs.Pairs.{Content, Pair, Relocation, address_part, any_mode, area_part, content_from, content_line, fragment, index, listed, mode_of, next_index, pair_lines, pair_of, placed, placed_of, relocation_from, relocation_line, skipped, skipped_of, whole_content, zero_index}
use Rattle.laws.proofs.Within.{Holds, then-holds}
use Rattle.manual.specs.Each.{Each, IsByte}
use Rattle.manual.specs.WrittenPairs.{Writable}
use Rattle.written.proofs.Given.{Gives, any, bind-gives, joined-gives, map_gives, next-gives, only-gives, pick-holds, seq-gives}

abbrev IsIndex : ℕ → Type 0
IsIndex i = i < 65536

next-index-gives : (radix : ℕ) (big : Bool) → Gives IsIndex (next_index radix big)
unfolding next_index index
next-index-gives radix big = seq-gives (λ u. Unit {0}) IsIndex space (joined radix big 1) (joined-gives radix big 1)

mode-gives : (radix : ℕ) → Gives (λ m. m < 2048) (mode_of radix)
unfolding mode_of
mode-gives radix s at = pass (only (any_mode radix) (λ m. ltb m 2048) s at) (only-gives (any_mode radix) (λ m. ltb m 2048) s at)
  where
    pass : (g : Got ℕ) → Holds (λ m q. ltb m 2048 ≡ true) g → Holds (λ m q. m < 2048) g
    pass (is m q) h = ltb-true m 2048 h
    pass (isnt r p) h = tt

fragment-gives : (radix : ℕ) (big : Bool) → Gives (Writable 2048) (fragment radix big)
unfolding fragment
fragment-gives radix big =
    seq-gives (λ u. Unit {0}) (Writable 2048) space _
    (bind-gives (λ m. m < 2048) (Writable 2048) (mode_of radix) _ (mode-gives radix) (λ m i.
    bind-gives IsByte (Writable 2048) (next_byte radix) _ (next-gives radix) (λ e j.
    map_gives IsIndex (Writable 2048) (next_index radix big) (λ x. record { mode = m; entry = e; index = x }) (next-index-gives radix big) (λ x k.
    record { mode-below = i; entry-below = j; index_below = k }))))

many-gives : {A : Type 0} (P : A → Type 0) (m : Reader A) → Gives P m → (k : ℕ) (s : List ℕ) (at : ℕ) → Each P (many k m s at).items
unfolding many
many-gives P m h zero s at = tt
many-gives {A} P m h (suc k) s at = go (m s at) (h s at) (λ q. many-gives P m h k s q)
  where
    go : (g : Got A) → Holds (λ a q. P a) g → ((q : ℕ) → Each P (many k m s q).items) → Each P (again g (λ q. many k m s q) at).items
    go (is a q) w f = (w, f q)
    go (isnt r p) w f = tt

abbrev GoodContent : ℕ → Content → Type 0
GoodContent n c = (c.address < 256 ^ n) × Each IsByte c.bytes

abbrev GoodRelocation : Relocation → Type 0
GoodRelocation r = IsIndex r.area × Each (Writable 2048) r.fragments

abbrev pub PairStands : ℕ → Pair → Type 0
PairStands n skipped = Unit {0}
PairStands n (placed c r) = GoodContent n c × GoodRelocation r

module _ (f : Form) (l : 1 ≤ f.address_length) where
  address_gives : Gives (λ a. a < 256 ^ f.address_length) (address_part f)
  unfolding address_part
  address_gives =
      let n : suc (f.address_length - 1) ≡ f.address_length = omega arith in
      rw n at (seq-gives (λ (u : Unit {0}). Unit {0}) (λ a. a < 256 ^ suc (f.address_length - 1)) (lead (spelled T)) (joined f.radix f.big (f.address_length - 1)) (joined-gives f.radix f.big (f.address_length - 1)))

  content-gives : Gives (GoodContent f.address_length) (content_line f)
  unfolding content_line
  content-gives s at =
      then-holds (λ a q. a < 256 ^ f.address_length) (λ c q. GoodContent f.address_length c) (address_part f s at) (λ a q. content_from f s a q) (address_gives s at) (λ a q w.
      (w, many-gives IsByte (listed f) (next-gives f.radix) (length s) s q))

  whole-gives : (s : List ℕ) → Holds (λ c q. GoodContent f.address_length c) (whole_content f s)
  unfolding whole_content
  whole-gives s =
      then-holds (λ c q. GoodContent f.address_length c) (λ c q. GoodContent f.address_length c) (content_line f s 0) _ (content-gives s 0) (λ c used w.
      pick-holds (λ c q. GoodContent f.address_length c) (eqb used (length s)) (is c used) (then (listed f s used) (λ b next. isnt 4 used)) (λ e. w) (λ e.
      then-holds (λ b q. Unit {0}) (λ c q. GoodContent f.address_length c) (listed f s used) (λ b next. isnt 4 used) (any (listed f s used)) (λ b q x. tt)))

  area-part-gives : Gives IsIndex (area_part f)
  unfolding area_part
  area-part-gives =
      seq-gives (λ (u : Unit {0}). Unit {0}) IsIndex (lead (spelled R)) (zero_index f.radix f.big >> next_index f.radix f.big)
      (seq-gives (λ (i : ℕ). Unit {0}) IsIndex (zero_index f.radix f.big) (next_index f.radix f.big) (next-index-gives f.radix f.big))

  relocation-gives : Gives GoodRelocation (relocation_line f)
  unfolding relocation_line
  relocation-gives s at =
      then-holds (λ a q. IsIndex a) (λ r q. GoodRelocation r) (area_part f s at) (λ a q. relocation_from f s a q) (area-part-gives s at) (λ a q w.
      (w, many-gives (Writable 2048) (fragment f.radix f.big) (fragment-gives f.radix f.big) (length s) s q))

  abbrev Placed : Pair → ℕ → Type 0
  Placed p q = PairStands f.address_length p

  placed-gives : (w : ℕ) (s r : List ℕ) → Holds Placed (placed_of f w s r)
  unfolding placed_of
  placed-gives w s r =
      then-holds (λ c q. GoodContent f.address_length c) Placed (whole_content f s) (λ c used. shifted w (placed c) (relocation_line f r 0)) (whole-gives s) (λ c q h.
      go c h (relocation_line f r 0) (relocation-gives r 0))
    where
      go : (c : Content) → GoodContent f.address_length c → (g : Got Relocation) → Holds (λ r q. GoodRelocation r) g → Holds Placed (shifted w (placed c) g)
      go c h (is a q) k = (h, k)
      go c h (isnt x p) k = tt

  skipped-gives : (w : ℕ) (s r : List ℕ) → Holds Placed (skipped_of w s r)
  unfolding skipped_of letter_and_more
  skipped-gives w s r =
      then-holds (λ c q. Unit {0}) Placed (letter_and_more (λ b. eqb b 84) skipped s 0) _ (any (letter_and_more (λ b. eqb b 84) skipped s 0)) (λ c q h.
      go (eqb (get_or r 0 0) 80) (leb (0 + 2) (length r)))
    where
      go : (t u : Bool) → Holds Placed (shifted w (λ b. b) (pick t (pick u (is skipped (length r)) (isnt 4 (0 + 1))) (isnt 4 0)))
      go true true = tt
      go true false = tt
      go false u = tt

  -- a pair of lines
  pub pair-stands : (t r : Line) → Holds Placed (pair_lines f t r)
  unfolding pair_lines pair_of
  pair-stands t r = go (placed_of f (width t) t.bytes r.bytes) (skipped_of (width t) t.bytes r.bytes) (placed-gives (width t) t.bytes r.bytes) (skipped-gives (width t) t.bytes r.bytes)
    where
      go : (m n : Got Pair) → Holds Placed m → Holds Placed n → Holds Placed (or_else m n)
      go (is a u) n x y = x
      go (isnt r p) (is a u) x y = y
      go (isnt r p) (isnt r' p') x y = tt
