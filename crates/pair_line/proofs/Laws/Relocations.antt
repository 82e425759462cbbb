-- The R line.
-- Assumes nothing.
use Prim.Native.Nat.{ℕ}
use mathlib.Core.Path.{◌≡◌, refl, sym, ◌∙◌}
use mathlib.Core.Bool.{Bool, true}
use mathlib.Core.List.{List}
use native.Mathlib.Omega.{arith}
use lib.ListN.{length}
use borrow.Author.Rules.{rules}
use borrow.Author.Tests.{eq-eqb}
use Rattle.std.specs.Prelude.{Result, Ok, Err}
use Rattle.format.specs.Bytes.{is_blank}
use Rattle.format.specs.Got.{Got, is, isnt}
use Rattle.format.specs.Number.{past}
use Rattle.format.specs.Header.{Form}
use Rattle.format.specs.Entries.{spelled, R, lead}
use Rattle.format.specs.Pairs.{index, next_index, zero_index, area_part, relocation_line}
use Rattle.format.specs.Pairs as the
use Rattle.numbers.specs.Told.{told, code}
use Rattle.numbers.specs.declared.Halt.{Halt}
use Rattle.numbers.specs.declared.Read.{Read}
use Rattle.zero_only.specs.Zero.{zero_only, zero_or}
use Rattle.zero_only.proofs.Laws.{zero-told}
use Rattle.fields.specs.Told.{went}
use Rattle.fragments.specs.Fragments.{FragmentsRead}
use Rattle.pair_line.specs.Usual.{Zeroed}
use Rattle.pair_line.specs.Pairs.{sized, fragments_in, numbered, Relocations}

-- `zero_index`
pub zero_is : (radix : ℕ) (big : Bool) (s : List ℕ) (at : ℕ) {m n : Got ℕ} → m ≡ index radix big s at → n ≡ zero_only m at → n ≡ zero_index radix big s at
unfolding zero_index
zero_is radix big s at e g = g ∙ rw e

-- the same of what is read, with the halt that is given for another number
pub zero_or-is : (radix : ℕ) (big : Bool) (s : List ℕ) (at : ℕ) (i : Result (Read ℕ) Halt) {r : Result (Read ℕ) Halt} (other : Halt) → told i ≡ index radix big s at → r ≡ zero_or i other → code other.reason ≡ 4 → other.at ≡ at → told r ≡ zero_index radix big s at
zero_or-is radix big s at i other e g p q = zero_is radix big s at e (rw g (zero-told i other at p q))

-- the same of an index that was read
pub zero-2 : (radix : ℕ) (big : Bool) (s : List ℕ) (at : ℕ) {i : Result (Read ℕ) Halt} → told i ≡ index radix big s at → {r : Read ℕ} → i ≡ Ok r → r.value ≡ 0 → is r.value r.next ≡ zero_index radix big s at
unfolding zero_index
zero-2 radix big s at e {r} g h = rw (← e, g, eq-eqb r.value 0 h)

pub ruleset zeros = (rules, zero_is, zero_or-is)

-- `area_part`
pub part-usual : (f : Form) (s : List ℕ) {r : Bool} → Zeroed f.radix s r → r ≡ true → {x : Got ℕ} → x ≡ index f.radix f.big s 8 → x ≡ area_part f s 0
part-usual f s u g i = i ∙ sym (u.read g f.big f.address_length)

module _ (f : Form) (s : List ℕ) {l : Result ℕ Halt} (e : went l ≡ lead (spelled R) s 0) where
  pub part-1 : {h : Halt} → l ≡ Err h → told (Err h) ≡ area_part f s 0
  unfolding area_part
  part-1 g = rw (← e, g)

  module _ {p : ℕ} (g : l ≡ Ok p) {z : Result (Read ℕ) Halt} (i : told z ≡ zero_index f.radix f.big s p) where
    pub part-2 : {h : Halt} → z ≡ Err h → told (Err h) ≡ area_part f s 0
    unfolding area_part
    part-2 j = rw (← e, g, ← i, j)

    pub part-3 : {r : Read ℕ} → z ≡ Ok r → {x : Got ℕ} → x ≡ next_index f.radix f.big s r.next → x ≡ area_part f s 0
    unfolding area_part
    part-3 j k = rw (← e, g, ← i, j) k

-- `parse_reloc_line`
module _ (f : Form) (s : List ℕ) {a : Result (Read ℕ) Halt} (e : told a ≡ area_part f s 0) where
  pub relocation-1 : {h : Halt} → a ≡ Err h → (ms es xs : List ℕ) → Relocations (relocation_line f s 0) (Err h) ms es xs ms es xs
  unfolding relocation_line
  relocation-1 g ms es xs = record { answered = rw (← e, g); stored = rw (← e, g) (record { of-modes = refl; of-entries = refl; of-indexes = refl }) }

  pub relocation-2 : {r : Read ℕ} → a ≡ Ok r → {n q : ℕ} {ms es xs ms' es' xs' : List ℕ} → FragmentsRead f.radix f.big s r.next (record { count = n; end = q }) ms es xs ms' es' xs'
      → {u : ℕ} → u ≡ past is_blank s q → Relocations (relocation_line f s 0) (Ok (record { area = r.value; count = n; used = u })) ms es xs ms' es' xs'
  unfolding relocation_line
  relocation-2 g i j = record { answered = rw (j, i.ran.counted, i.ran.reached, ← e, g); stored = rw (← e, g) i.stored }

pub ruleset relocating = (rules, part-usual, part-1, part-2, part-3, relocation-1, relocation-2)

-- the answer and its case say what the definition read
pub relocation-is : (m : Got the.Relocation) {a n u : ℕ} → is (sized a n) u ≡ numbered m → m ≡ is (record { area = a; fragments = fragments_in m }) u
relocation-is (is c v) {a} {n} {u} e =
    let p : a ≡ c.area = cc in
    let q : u ≡ v = cc in
    rw (p, q)
relocation-is (isnt r p) e = absurd (let z : ◌≡◌ {A = ℕ} 0 1 = cc in omega arith)

pub relocation-count : (m : Got the.Relocation) {a n u : ℕ} → is (sized a n) u ≡ numbered m → n ≡ length (fragments_in m)
relocation-count (is c v) e = cc
relocation-count (isnt r p) e = absurd (let z : ◌≡◌ {A = ℕ} 0 1 = cc in omega arith)

pub relocation-isnt : (m : Got the.Relocation) (r p : ℕ) → isnt r p ≡ numbered m → m ≡ isnt r p
relocation-isnt (is c v) r p e = absurd (let z : ◌≡◌ {A = ℕ} 0 1 = cc in omega arith)
relocation-isnt (isnt r p) r' p' e =
    let a : r' ≡ r = cc in
    let b : p' ≡ p = cc in
    rw (a, b)
