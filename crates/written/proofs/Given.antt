-- What the readers of a line of group one give can be written: names, and numbers below 2^32; and the bytes and joined bytes that other lines have.
-- Assumes nothing.
use Prim.Native.Nat.{suc, zero, ℕ, ◌*◌, ◌+◌, ◌-◌, ◌<◌, ◌^◌, ◌≤◌}
use mathlib.Core.Path.{◌≡◌, ap, refl}
use mathlib.Core.Bool.{Bool, false, true}
use mathlib.Core.List.{List, [], ◌∷◌}
use mathlib.Core.Option.{some}
use native.Mathlib.Nat.{mul_assoc, mul-le-mul_right, pow-succ'}
use native.Mathlib.Omega.{arith}
use lib.ListN.{drop, get_or, length, take}
use lib.Dec.{eqb, leb, ltb}
use borrow.Author.Tests.{eqb-false, ltb-true}
use Rattle.format.specs.Lists.{pick, run}
use Rattle.format.specs.Bytes.{is_digit, is_name_byte}
use Rattle.format.specs.Got.{Got, Reader, give, is, isnt, many, only, optional, or_none, ◌>>=◌, ◌>>◌}
use Rattle.format.specs.Number.{Name, blanks, byte, bytes, digits, horner, join, joined, little, more_bytes, name, next_byte, number, past, space}
use Rattle.format.specs.Header.{Form}
use Rattle.format.specs.Entries.{A, Entry, S, addr, area, area_line, area_of, entry_line, field, flags, ignored, ignored_line, is_ignored, lead, letter_and_more, ref_or_def, size, spelled, symbol, symbol_line, symbol_of, titled, value_of}
use Rattle.laws.proofs.Within.{Holds, then-holds}
use Rattle.manual.specs.Each.{Each, IsByte, Passes}
use Rattle.manual.specs.WrittenEntries.{IsName}
use Rattle.written.specs.Writing.{GoodAddr}

-- every value that a reader gives has the property
abbrev pub Gives : {A : Type 0} → (A → Type 0) → Reader A → Type 0
Gives P m = (s : List ℕ) (at : ℕ) → Holds (λ a q. P a) (m s at)

pub any : {A : Type 0} (m : Got A) → Holds (λ a q. Unit {0}) m
any (is a q) = tt
any (isnt r p) = tt

pub pick-holds : {A : Type 0} (P : A → ℕ → Type 0) (t : Bool) (m n : Got A) → (t ≡ true → Holds P m) → (t ≡ false → Holds P n) → Holds P (pick t m n)
pick-holds P true m n h k = h refl
pick-holds P false m n h k = k refl

module _ {A B : Type 0} (P : A → Type 0) (P' : B → Type 0) where
  pub bind-gives : (m : Reader A) (f : A → Reader B) → Gives P m → ((a : A) → P a → Gives P' (f a)) → Gives P' (m >>= f)
  bind-gives m f h k s at = then-holds (λ a q. P a) (λ b q. P' b) (m s at) (λ a q. f a s q) (h s at) (λ a q w. k a w s q)

  pub map_gives : (m : Reader A) (f : A → B) → Gives P m → ((a : A) → P a → P' (f a)) → Gives P' (m >>= λ a. give (f a))
  map_gives m f h k s at = then-holds (λ a q. P a) (λ b q. P' b) (m s at) (λ a q. is (f a) q) (h s at) (λ a q w. k a w)

  pub seq-gives : (m : Reader A) (n : Reader B) → Gives P' n → Gives P' (m >> n)
  seq-gives m n h s at = then-holds (λ a q. Unit {0}) (λ b q. P' b) (m s at) (λ a q. n s q) (any (m s at)) (λ a q w. h s q)

pub only-gives : {A : Type 0} (m : Reader A) (p : A → Bool) → Gives (λ a. p a ≡ true) (only m p)
only-gives m p s at =
    then-holds (λ a q. Unit {0}) (λ a q. p a ≡ true) (m s at) (λ a q. pick (p a) (is a q) (isnt 4 at)) (any (m s at)) (λ a q w.
    pick-holds (λ b q. p b ≡ true) (p a) (is a q) (isnt 4 at) (λ e. e) (λ e. tt))

-- ------------------------------------------------------------------ numbers and bytes

abbrev IsNumber : ℕ → Type 0
IsNumber v = v < 2 ^ 32

number-gives : (radix : ℕ) → Gives IsNumber (number radix)
unfolding number
number-gives radix s at =
    let v = digits radix s at in
    let q = past (is_digit radix) s at in
    pick-holds (λ v q. IsNumber v) (eqb q at) (isnt 1 at) _ (λ e. tt) (λ e. pick-holds (λ v q. IsNumber v) (ltb v 4294967296) (is v q) (isnt 2 at) (λ l. ltb-true v 4294967296 l) (λ l. tt))

byte-gives : (radix : ℕ) → Gives IsByte (byte radix)
unfolding byte
byte-gives radix s at =
    then-holds (λ v q. Unit {0}) (λ v q. IsByte v) (number radix s at) (λ v q. pick (ltb v 256) (is v q) (isnt 3 at)) (any (number radix s at)) (λ v q w.
    pick-holds (λ v q. IsByte v) (ltb v 256) (is v q) (isnt 3 at) (λ l. ltb-true v 256 l) (λ l. tt))

pub next-gives : (radix : ℕ) → Gives IsByte (next_byte radix)
unfolding next_byte
next-gives radix = seq-gives (λ u. Unit {0}) IsByte space (byte radix) (byte-gives radix)

-- so many bytes
abbrev AreBytes : ℕ → List ℕ → Type 0
AreBytes n bs = (length bs ≡ n) × Each IsByte bs

more-gives : (radix n : ℕ) → Gives (AreBytes n) (more_bytes radix n)
unfolding more_bytes
more-gives radix zero = λ s at. (refl, tt)
more-gives radix (suc n) =
    bind-gives IsByte (AreBytes (suc n)) (next_byte radix) _ (next-gives radix) (λ b i.
    map_gives (AreBytes n) (AreBytes (suc n)) (more_bytes radix n) (λ bs. b ∷ bs) (more-gives radix n) (λ bs w. (ap suc w.0, (i, w.1))))

bytes_gives : (radix n : ℕ) → Gives (AreBytes (suc n)) (bytes radix n)
unfolding bytes
bytes_gives radix n =
    bind-gives IsByte (AreBytes (suc n)) (byte radix) _ (byte-gives radix) (λ b i.
    map_gives (AreBytes n) (AreBytes (suc n)) (more_bytes radix n) (λ bs. b ∷ bs) (more-gives radix n) (λ bs w. (ap suc w.0, (i, w.1))))

-- joined bytes
big-below : (bs : List ℕ) → Each IsByte bs → (v : ℕ) → horner 256 v bs < suc v * 256 ^ length bs
unfolding horner
big-below [] h v = omega arith
big-below (b ∷ bs) h v =
    let i = big-below bs h.1 (v * 256 + b) in
    let l : suc (v * 256 + b) ≤ suc v * 256 = omega (arith, h.0) in
    let m : suc v * 256 * 256 ^ length bs ≡ suc v * (256 * 256 ^ length bs) = mul_assoc (suc v) 256 (256 ^ length bs) in
    rw (pow-succ' 256 (length bs)) (omega (arith, mul-le-mul_right (256 ^ length bs) l))

little-below : (bs : List ℕ) → Each IsByte bs → little bs < 256 ^ length bs
unfolding little
little-below [] h = omega arith
little-below (b ∷ bs) h = rw (pow-succ' 256 (length bs)) (omega (arith, h.0, little-below bs h.1))

join-below : (big : Bool) (bs : List ℕ) → Each IsByte bs → join big bs < 256 ^ length bs
unfolding join
join-below true bs h = omega (arith, big-below bs h 0)
join-below false bs h = little-below bs h

pub joined-gives : (radix : ℕ) (big : Bool) (n : ℕ) → Gives (λ v. v < 256 ^ suc n) (joined radix big n)
unfolding joined
joined-gives radix big n =
    map_gives (AreBytes (suc n)) (λ v. v < 256 ^ suc n) (bytes radix n) (join big) (bytes_gives radix n) (λ bs w.
    let l : length bs ≡ suc n = w.0 in rw (← l) (join-below big bs w.1))

-- ------------------------------------------------------------------ names and entries

run-passes : (p : ℕ → Bool) (xs : List ℕ) → Passes p (run p xs)
unfolding run
run-passes p [] = tt
run-passes p (x ∷ xs) = go (p x) refl (run-passes p xs)
  where
    go : (t : Bool) → p x ≡ t → Passes p (run p xs) → Passes p (pick t (x ∷ run p xs) [])
    go true e h = (e, h)
    go false e h = tt

-- a run is the first bytes
run-first : (p : ℕ → Bool) (xs : List ℕ) → take (length (run p xs)) xs ≡ run p xs
unfolding run
run-first p [] = refl
run-first p (x ∷ xs) = go (p x) (run-first p xs)
  where
    go : (t : Bool) → take (length (run p xs)) xs ≡ run p xs → take (length (pick t (x ∷ run p xs) [])) (x ∷ xs) ≡ pick t (x ∷ run p xs) []
    go true e = ap (λ (l : List ℕ). x ∷ l) e
    go false e = refl

-- what stands in the line at a name's place is a name
abbrev NameStands : List ℕ → Name → Type 0
NameStands s n = IsName (take n.length (drop n.at s))

abbrev pub EntryStands : List ℕ → Entry → Type 0
EntryStands s ignored = Unit {0}
EntryStands s (area n z g a) = NameStands s n × (z < 2 ^ 32) × (g < 2 ^ 32) × GoodAddr a
EntryStands s (symbol n r v) = NameStands s n × (v < 2 ^ 32)

name-stands : (s : List ℕ) (at : ℕ) → Holds (λ n q. NameStands s n) (name s at)
unfolding name past
name-stands s at =
    let w = run is_name_byte (drop at s) in
    let q = at + length w in
    let same : q - at ≡ length w = omega arith in
    let there : take (q - at) (drop at s) ≡ w = rw (same, run-first) in
    pick-holds (λ n q. NameStands s n) (eqb q at) (isnt 4 at) (is (record { at = at; length = q - at }) q) (λ e. tt) (λ e.
    rw there (record { some = omega (arith, eqb-false q at e); each = run-passes is_name_byte (drop at s) }))

titled-stands : (w s : List ℕ) (at : ℕ) → Holds (λ n q. NameStands s n) (titled w s at)
unfolding titled
titled-stands w s at = then-holds (λ u q. Unit {0}) (λ n q. NameStands s n) (lead w s at) (λ u q. name s q) (any (lead w s at)) (λ u q h. name-stands s q)

field-gives : (w : List ℕ) (radix : ℕ) → Gives IsNumber (field w radix)
unfolding field
field-gives w radix = seq-gives (λ u. Unit {0}) IsNumber space _ (seq-gives (λ u. Unit {0}) IsNumber (lead w) (number radix) (number-gives radix))

addr-gives : (w : List ℕ) (radix : ℕ) → Gives GoodAddr (optional (field w radix))
unfolding optional
addr-gives w radix s at = go (field w radix s at) (field-gives w radix s at)
  where
    go : (g : Got ℕ) → Holds (λ v q. IsNumber v) g → Holds (λ a q. GoodAddr a) (or_none g at)
    go (is v q) h = h
    go (isnt r p) h = tt

module _ (f : Form) (s : List ℕ) where
  abbrev Stands : Entry → ℕ → Type 0
  Stands e q = EntryStands s e

  area-of-stands : (n : Name) → NameStands s n → (at : ℕ) → Holds Stands (area_of f n s at)
  unfolding area_of
  area-of-stands n w at =
      then-holds (λ v q. IsNumber v) Stands (field (spelled size) f.radix s at) _ (field-gives _ f.radix s at) (λ z b i.
      then-holds (λ v q. IsNumber v) Stands (field (spelled flags) f.radix s b) _ (field-gives _ f.radix s b) (λ g c j.
      then-holds (λ a q. GoodAddr a) Stands (optional (field (spelled addr) f.radix) s c) _ (addr-gives (spelled addr) f.radix s c) (λ a d k.
      then-holds (λ u q. Unit {0}) Stands (blanks s d) _ (any (blanks s d)) (λ u q x. (w, i, j, k)))))

  value-of-stands : (n : Name) (r : Bool) → NameStands s n → (at : ℕ) → Holds Stands (value_of f n r s at)
  unfolding value_of
  value-of-stands n r w at =
      then-holds (λ v q. IsNumber v) Stands (number f.radix s at) _ (number-gives f.radix s at) (λ v b i.
      then-holds (λ u q. Unit {0}) Stands (blanks s b) _ (any (blanks s b)) (λ u q x. (w, i)))

  symbol-of-stands : (n : Name) → NameStands s n → (at : ℕ) → Holds Stands (symbol_of f n s at)
  unfolding symbol_of
  symbol-of-stands n w at =
      then-holds (λ u q. Unit {0}) Stands (space s at) _ (any (space s at)) (λ u b x.
      then-holds (λ r q. Unit {0}) Stands (ref_or_def s b) _ (any (ref_or_def s b)) (λ r c y. value-of-stands n r w c))

  area-line-stands : (at : ℕ) → Holds Stands (area_line f s at)
  unfolding area_line
  area-line-stands at = then-holds (λ n q. NameStands s n) Stands (titled (spelled A) s at) _ (titled-stands (spelled A) s at) (λ n q w. area-of-stands n w q)

  symbol-line-stands : (at : ℕ) → Holds Stands (symbol_line f s at)
  unfolding symbol_line
  symbol-line-stands at = then-holds (λ n q. NameStands s n) Stands (titled (spelled S) s at) _ (titled-stands (spelled S) s at) (λ n q w. symbol-of-stands n w q)

  ignored-stands : (at : ℕ) → Holds Stands (ignored_line s at)
  unfolding ignored_line letter_and_more
  ignored-stands at =
      pick-holds Stands (is_ignored (get_or s at 0)) (pick (leb (at + 2) (length s)) (is ignored (length s)) (isnt 4 (at + 1))) (isnt 4 at) (λ e.
      pick-holds Stands (leb (at + 2) (length s)) (is ignored (length s)) (isnt 4 (at + 1)) (λ g. tt) (λ g. tt)) (λ e. tt)

  -- a line of group one
  pub entry-stands : (at : ℕ) → Holds Stands (entry_line f s at)
  unfolding entry_line
  entry-stands at =
      pick-holds Stands (eqb (get_or s at 0) 65) (area_line f s at) _ (λ e. area-line-stands at) (λ e.
      pick-holds Stands (eqb (get_or s at 0) 83) (symbol_line f s at) (ignored_line s at) (λ g. symbol-line-stands at) (λ g. ignored-stands at))
