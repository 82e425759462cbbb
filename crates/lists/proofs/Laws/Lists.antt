-- Lists of bytes.
-- Assumes nothing.
use Rattle.std.specs.Prelude.{Result, Ok, Err}
use Rattle.std.proofs.Common.{◌≡◌, ℕ, ◌+◌, ◌-◌, ◌<◌, ◌≤◌, List, length, set, ap, ◌∙◌, map-id, arith, w8, Fits, rules}
use lib.Seq.{sets}
use Rattle.format.specs.Got.{is, many}
use Rattle.format.specs.Number.{next_byte}
use Rattle.numbers.specs.Told.{told}
use Rattle.lists.specs.Many.{BytesRead, BytesBegun}
use Rattle.quick_numbers.specs.Short.{Spaced}
use Rattle.lists.specs.declared.Run.{Run}
use Rattle.numbers.specs.declared.Halt.{Halt}
use Rattle.numbers.specs.declared.Read.{Read}
use Rattle.numbers.proofs.Laws.Numbers.{next-below}
use Rattle.lists.proofs.Laws.Many.{Counting, Column, count-end, count-stop, count-more, column-end, column-stop, column-more}

pub byte_fits : (radix : ℕ) (s : List ℕ) (p : ℕ) {b : Result (Read ℕ) Halt} {r : Read ℕ} → b ≡ Ok r → told b ≡ next_byte radix s p → Fits w8 r.value
byte_fits radix s p g e = record { fits = next-below radix s p g e }

-- a byte stands as it is in its column
abbrev pub self : ℕ → ℕ
self b = b

module _ (radix : ℕ) (s : List ℕ) (p : ℕ) {b : Result (Read ℕ) Halt} (e : told b ≡ next_byte radix s p) where
  next-no : {h : Halt} → b ≡ Err h → next_byte radix s p ≡ told (Err h)
  next-no g = rw (← e, g)

  next-is : {r : Read ℕ} → b ≡ Ok r → next_byte radix s p ≡ is r.value r.next
  next-is g = rw (← e, g)

-- behind the first bytes
module _ {radix : ℕ} {s : List ℕ} {at : ℕ} {r : Run} {room left : List ℕ} (w : BytesBegun radix s at r room left) where
  pub begun-count : Counting (next_byte radix) s at r.count r.end
  begun-count = record { within = w.within; count = w.counted; place = w.reached }

  begun-column : Column self (next_byte radix) s at room left r.count r.end
  begun-column = record { store = rw (map-id (many (length s) (next_byte radix) s at).items, map-id (many (length s - r.count) (next_byte radix) s r.end).items) w.stored }

-- what stood in the room behind m bytes, and what stands there behind n: one column, whatever was lent
pub record Onward (radix : ℕ) (s : List ℕ) (at : ℕ) (first : List ℕ) (m q : ℕ) (left : List ℕ) (n p : ℕ) : Type 0 where
  pub column : {room : List ℕ} → Column self (next_byte radix) s at room first m q → Column self (next_byte radix) s at room left n p

pub onward-start : (radix : ℕ) (s : List ℕ) (at : ℕ) (left : List ℕ) (n p : ℕ) → Onward radix s at left n p left n p
onward-start radix s at left n p = record { column = λ u. u }

module _ (radix : ℕ) (s : List ℕ) {at n p : ℕ} (w : Counting (next_byte radix) s at n p) {r : Run} {room first left : List ℕ} (a : BytesBegun radix s at r room first) (o : Onward radix s at first r.count r.end left n p) where
  pub bytes-end : length s ≤ n → BytesRead radix s at (record { count = length s; end = p }) room left
  bytes-end h = record { ran = count-end w h; stored = column-end (o.column (begun-column a)) h ∙ ap (sets room 0) (map-id (many (length s) (next_byte radix) s at).items) }

  module _ (h : n < length s) {b : Result (Read ℕ) Halt} (e : told b ≡ next_byte radix s p) where
    pub bytes-stop : {x : Halt} → b ≡ Err x → BytesRead radix s at (record { count = n; end = p }) room left
    bytes-stop g =
        let i = next-no radix s p e g in
        record { ran = count-stop w h i; stored = column-stop (o.column (begun-column a)) h i ∙ ap (sets room 0) (map-id (many (length s) (next_byte radix) s at).items) }

module _ (radix : ℕ) {s : List ℕ} {at n p : ℕ} {b : Result (Read ℕ) Halt} (e : told b ≡ next_byte radix s p) {r : Read ℕ} (g : b ≡ Ok r) (h : n < length s) where
  pub bytes-more : Counting (next_byte radix) s at n p → Counting (next_byte radix) s at (n + 1) r.next
  bytes-more w = count-more w h (next-is radix s p e g)

  pub stored_more : {first left : List ℕ} {m i : ℕ} → Onward radix s at first m i left n p → {left' : List ℕ} → left' ≡ set left n r.value → Onward radix s at first m i left' (n + 1) r.next
  stored_more o a = record { column = λ u. column-more (o.column u) h (next-is radix s p e g) a }

-- the same for a byte that is read at once
module _ (radix : ℕ) {s : List ℕ} {at n p v : ℕ} (w : Spaced radix s p v) (l : v < 256) (h : n < length s) where
  pub spaced-more : Counting (next_byte radix) s at n p → Counting (next_byte radix) s at (n + 1) (p + 3)
  spaced-more c = count-more c h (w.got l)

  pub spaced-stored : {room left : List ℕ} → Column self (next_byte radix) s at room left n p → {left' : List ℕ} → left' ≡ set left n v → Column self (next_byte radix) s at room left' (n + 1) (p + 3)
  spaced-stored u a = column-more u h (w.got l) a

pub ruleset listing = (rules, byte_fits, begun-count, onward-start, bytes-end, bytes-stop, bytes-more, stored_more)
