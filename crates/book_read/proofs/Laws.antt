-- Laws for copying a pattern.
-- Assumes nothing.
use Prim.Native.Nat.{ℕ, min, ◌+◌, ◌<◌, ◌≤◌}
use mathlib.Core.Path.{◌≡◌, refl, sym, ◌∙◌}
use mathlib.Core.List.{List}
use native.Mathlib.Omega.{arith}
use lib.ListN.{length, take}
use lib.Seq.{sets, take-take}
use borrow.Author.Rules.{rules}
use borrow.Author.Tests.{le-leb, lt-leb}
use Rattle.std.specs.Prelude.{Option, None, Some, Result, Ok, Err}
use Rattle.format.specs.Outcome.{Outcome, fine, refused, and_then}
use Rattle.laws.proofs.Outcomes.{unlike}
use Rattle.book.specs.Entries.{Entry}
use Rattle.book.specs.Contents.{part}
use Rattle.book.specs.Opened.{check}
use Rattle.book.specs.Found.{find, room_for, located, opens_at, pattern_at}
use Rattle.book_find.specs.Told.{found_of}
use Rattle.book_find.specs.declared.Found.{Found}
use Rattle.book_open.specs.Told.{entries_told, opened_of}
use Rattle.book_open.specs.declared.open.Refusal.{Refusal}
use Rattle.book_read.specs.Told.{Copying}

-- a part of a book by numbers
pub values-part : (xs : List ℕ) (place size : ℕ) {k : ℕ} {l : List ℕ} → k ≡ place → l ≡ part xs k size → l ≡ part xs place size
values-part xs place size e f = f ∙ rw e

pub masks-part : (xs : List ℕ) (place size : ℕ) {k m : ℕ} {l : List ℕ} → k ≡ place → m ≡ size → l ≡ part xs (k + m) size → l ≡ part xs (place + size) size
masks-part xs place size e g f = f ∙ rw (e, g)

pub ruleset parts = (rules, values-part, masks-part)

-- the first n of a part of n are all of it
part-whole : (xs : List ℕ) (at n : ℕ) → take n (part xs at n) ≡ part xs at n
unfolding part
part-whole xs at n = take-take n n _ (omega arith)

pub part-laid : (xs : List ℕ) (at n : ℕ) (old : List ℕ) {k : ℕ} {l left : List ℕ} → k ≡ n → l ≡ part xs at n → left ≡ sets old 0 (take k l) → left ≡ sets old 0 (part xs at n)
part-laid xs at n old e f g = g ∙ rw (f, e, part-whole xs at n)

pub ruleset laying = (rules, part-laid)

-- a pattern that was found, and the room for it
module _ (xs values masks : List ℕ) (place size : ℕ) where
  over : min (length values) (length masks) < size → Copying xs (room_for (min (length values) (length masks)) (record { at = place; size = size })) values masks (Err (record { number = 24; place = 0 })) values masks
  over h = let z = lt-leb size (min (length values) (length masks)) h in record { answer = rw z; values-hold = rw z; masks-hold = rw z }

  pub room-few-values : {k : ℕ} → k ≡ size → length values < k → Copying xs (room_for (min (length values) (length masks)) (record { at = place; size = size })) values masks (Err (record { number = 24; place = 0 })) values masks
  room-few-values a h = over (omega arith)

  pub room-few-masks : {k : ℕ} → k ≡ size → length masks < k → Copying xs (room_for (min (length values) (length masks)) (record { at = place; size = size })) values masks (Err (record { number = 24; place = 0 })) values masks
  room-few-masks a h = over (omega arith)

  pub room-all : {k m : ℕ} {new_values new_masks : List ℕ} → k ≡ size → k ≤ length values → m ≡ size → m ≤ length masks
      → new_values ≡ sets values 0 (part xs place size) → new_masks ≡ sets masks 0 (part xs (place + size) size)
      → Copying xs (room_for (min (length values) (length masks)) (record { at = place; size = size })) values masks (Ok size) new_values new_masks
  unfolding pattern_at
  room-all a h b l p q =
      let y : size ≤ min (length values) (length masks) = omega arith in
      let z = le-leb size (min (length values) (length masks)) y in
      record { answer = rw z; values-hold = rw z p; masks-hold = rw z q }

pub ruleset rooms = (rules, room-few-values, room-few-masks, room-all)

-- a pattern by its name
module _ (xs w values masks : List ℕ) {r : Option Found} (e : find xs w ≡ found_of r) where
  pub copy-missing : r ≡ None → Copying xs (located xs w (min (length values) (length masks))) values masks (Err (record { number = 23; place = 0 })) values masks
  unfolding located
  copy-missing g = record { answer = rw (e, g); values-hold = rw (e, g); masks-hold = rw (e, g) }

  pub copy-found : {f : Found} {c : Result ℕ Refusal} {new_values new_masks : List ℕ} → r ≡ Some f
      → Copying xs (room_for (min (length values) (length masks)) (record { at = f.place; size = f.size })) values masks c new_values new_masks
      → Copying xs (located xs w (min (length values) (length masks))) values masks c new_values new_masks
  unfolding located
  copy-found g k = rw (e, g) k

pub ruleset copying = (rules, copy-missing, copy-found)

-- a file that is opened first
module _ (xs w values masks : List ℕ) {r : Result ℕ Refusal} (e : entries_told (check xs) ≡ opened_of r) where
  pub fetch-refused : {s : Refusal} → r ≡ Err s → Copying xs (opens_at xs w (min (length values) (length masks))) values masks (Err s) values masks
  unfolding opens_at
  fetch-refused {s} g = let h = is-refused (check xs) (e ∙ rw g) in record { answer = rw h; values-hold = rw h; masks-hold = rw h }
    where
      is-refused : (o : Outcome (List Entry)) → entries_told o ≡ refused s.number s.place → o ≡ refused s.number s.place
      is-refused (fine es) h = unlike s.number s.place (length es) (sym h)
      is-refused (refused m q) h = cc

  pub fetch-opened : {n : ℕ} {c : Result ℕ Refusal} {new_values new_masks : List ℕ} → r ≡ Ok n
      → Copying xs (located xs w (min (length values) (length masks))) values masks c new_values new_masks
      → Copying xs (opens_at xs w (min (length values) (length masks))) values masks c new_values new_masks
  unfolding opens_at
  fetch-opened {n} {c} {new_values} {new_masks} g k = go (check xs) (e ∙ rw g)
    where
      go : (o : Outcome (List Entry)) → entries_told o ≡ fine n → Copying xs (and_then o (λ es. located xs w (min (length values) (length masks)))) values masks c new_values new_masks
      go (fine es) h = k
      go (refused a q) h = unlike a q n h

pub ruleset fetching = (rules, fetch-refused, fetch-opened)
