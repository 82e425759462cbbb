-- The first bytes of a list, in the usual form.
-- Assumes nothing.
use Rattle.std.proofs.Common.{◌≡◌, ℕ, ◌+◌, ◌-◌, ◌*◌, ◌^◌, ◌<◌, ◌≤◌, Bool, true, false, eqb, List, length, get_or, set, refl, map-id, arith, w64, Fits, rules, eqb-true}
use Rattle.format.specs.Lists.{pick}
use Rattle.format.specs.Bytes.{is_blank}
use Rattle.format.specs.Got.{isnt, many}
use Rattle.format.specs.Number.{next_byte}
use Rattle.lists.specs.Many.{BytesBegun}
use Rattle.digits.specs.Capitals.{Hex, capitals}
use Rattle.quick_numbers.specs.Short.{Spaced}
use Rattle.list_bytes.specs.Last.{last_byte}
use Rattle.lists.specs.Reach.{Reach}
use Rattle.scan.proofs.Laws.Kinds.{past_end, span-start, span-end}
use Rattle.numbers.proofs.Laws.Numbers.{next-1}
use Rattle.digits.proofs.Laws.{capitals-3}
use Rattle.quick_numbers.proofs.Laws.{two_is, spaced-is, spaced-none}
use Rattle.lists.proofs.Laws.Many.{Counting, Column, count-start, column-start}
use Rattle.lists.proofs.Laws.Lists.{self, spaced-more, spaced-stored}

-- n bytes stand before the place p, and the space of the next at it
pub record Beginning (radix : ℕ) (s : List ℕ) (at last : ℕ) (room left : List ℕ) (n p : ℕ) : Type 0 where
  pub counting : Counting (next_byte radix) s at n p
  pub column : Column self (next_byte radix) s at room left n p
  pub place : p ≡ at + 3 * n
  pub space : p < last → get_or s p 0 ≡ 32

module _ {radix : ℕ} {s : List ℕ} {at last : ℕ} (w : Reach radix s at last) where
  pub begin-start : (room : List ℕ) → Beginning radix s at last room room 0 at
  begin-start room = record {
    counting = count-start (next_byte radix) s at;
    column = column-start self (next_byte radix) s at room;
    place = omega arith;
    space = λ h. w.space (omega arith);
  }

  module _ {room left : List ℕ} {n p d e : ℕ} (u : Beginning radix s at last room left n p) (h : p < last) (a : Hex (get_or s (p + 1) 0) d) (b : Hex (get_or s (p + 2) 0) e) (k : d ≤ 15) (l : e ≤ 15) (c : get_or s (p + 3) 0 ≡ 32) where
    begin-spaced : Spaced radix s p (d * 16 + e)
    begin-spaced =
        let x : p + 1 + 1 ≡ p + 2 = omega arith in
        let y : p + 1 + 2 ≡ p + 3 = omega arith in
        spaced-is radix s p (w.sixteen (omega arith)) (omega arith) (omega arith) (u.space h) (two_is s (p + 1) {v = d * 16 + e} {c = 32} (omega arith) (rw x (capitals-3 (get_or s (p + 1) 0) (get_or s (p + 2) 0) a b k l)) (rw (y, c)) (omega arith))

    pub begin-more : Beginning radix s at last room (set left n (d * 16 + e)) (n + 1) (p + 3)
    begin-more = record {
      counting = spaced-more radix begin-spaced (omega arith) (omega arith) u.counting;
      column = spaced-stored radix begin-spaced (omega arith) (omega arith) u.column refl;
      place = omega arith;
      space = λ x. c;
    }

pub begin-end : {radix : ℕ} {s : List ℕ} {at last : ℕ} {room left : List ℕ} {n p : ℕ} → Beginning radix s at last room left n p → BytesBegun radix s at (record { count = n; end = p }) room left
begin-end {radix} {s} {at} {n = n} {p = p} u = record {
  within = omega arith;
  counted = u.counting.count;
  reached = u.counting.place;
  stored = rw (map-id (many (length s) (next_byte radix) s at).items, map-id (many (length s - n) (next_byte radix) s p).items) at u.column.store;
}

-- the last byte of a text, as a byte behind one space
last-spaced : (radix : ℕ) (s : List ℕ) (p : ℕ) {v : ℕ} → v ≡ last_byte radix s p → Spaced radix s p v
unfolding last_byte
last-spaced radix s p {v} e = go (eqb radix 16) refl (eqb (length s) (p + 3)) refl (eqb (get_or s p 0) 32) refl e
  where
    none : v ≡ 256 → Spaced radix s p v
    none f = rw f (spaced-none radix s p)

    go : (a : Bool) → eqb radix 16 ≡ a → (b : Bool) → eqb (length s) (p + 3) ≡ b → (c : Bool) → eqb (get_or s p 0) 32 ≡ c
        → v ≡ pick a (pick b (pick c (capitals (get_or s (p + 1) 0) (get_or s (p + 2) 0)) 256) 256) 256 → Spaced radix s p v
    go true f true k true g c =
        let h : length s ≡ p + 3 = eqb-true (length s) (p + 3) k in
        let x : p + 1 + 1 ≡ p + 2 = omega arith in
        let y : p + 1 + 2 ≡ p + 3 = omega arith in
        let z : 0 ≡ get_or s (p + 3) 0 = past_end s (omega arith) in
        spaced-is radix s p (eqb-true radix 16 f) (omega arith) (omega arith) (eqb-true (get_or s p 0) 32 g) (two_is s (p + 1) {v = v} {c = 0} (omega arith) (rw x c) (rw y z) (omega arith))
    go true f true k false g c = none c
    go true f false k t g c = none c
    go false f u k t g c = none c

-- one byte more, the last of the text
pub begin-last : {radix : ℕ} {s : List ℕ} {at last : ℕ} {room left : List ℕ} {n p v : ℕ} → Beginning radix s at last room left n p → v ≡ last_byte radix s p → v < 256 → {left' : List ℕ} → left' ≡ set left n v
    → BytesBegun radix s at (record { count = n + 1; end = p + 3 }) room left'
begin-last {radix} {s} {at} {n = n} {p = p} u q l e =
    let w = last-spaced radix s p q in
    let k : n < length s = omega (arith, w.inside l, u.place) in
    let c = spaced-more radix w l k u.counting in
    let d = spaced-stored radix w l k u.column e in
    record {
      within = omega (arith, w.inside l, u.place);
      counted = c.count;
      reached = c.place;
      stored = rw (map-id (many (length s) (next_byte radix) s at).items, map-id (many (length s - (n + 1)) (next_byte radix) s (p + 3)).items) at d.store;
    }

pub last_fits : (radix : ℕ) (s : List ℕ) (p : ℕ) {v : ℕ} → v ≡ last_byte radix s p → v < 256 → length s < 2 ^ 64 → Fits w64 (p + 3)
last_fits radix s p q l k = let w = last-spaced radix s p q in record { fits = omega (arith, w.inside l) }

pub ruleset beginning = (rules, begin-start, begin-more, begin-end, begin-last, last_fits)

-- `following`
pub next_past : (radix : ℕ) (s : List ℕ) (at : ℕ) → length s ≤ at → isnt 4 at ≡ next_byte radix s at
next_past radix s at h = next-1 s at (span-end (span-start is_blank s at) h) radix refl

pub ruleset onward = (rules, next_past)
