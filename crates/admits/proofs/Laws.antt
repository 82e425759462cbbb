-- The laws of whether the ended reading accepts a text.
-- Assumes nothing.
use Prim.Native.Nat.{ℕ}
use mathlib.Core.Path.{◌≡◌, refl}
use mathlib.Core.Bool.{true}
use mathlib.Core.List.{List}
use lib.ListN.{length, length-replicate, replicate}
use borrow.Author.Rules.{rules}
use Rattle.format.specs.Reading as paper
use Rattle.format.specs.Held.{Held, Meets, lengths}
use Rattle.any_radix.specs.ReadAny.{MeetsAny, read_any, reading_any}
use Rattle.answer.specs.Answer.{held}
use Rattle.record_rows.specs.ReadPairs.{roomy}
use Rattle.record_rows.proofs.Roomy.{whichever-buffers}
use Rattle.any_radix.proofs.Bounds.{whichever-buffers-of-any-radix}
use Rattle.admission.specs.Admits.{Gate, GateIs, GateIsAny, gate_of}
use Rattle.admission.proofs.Laws.{passes, passes-any}
use Rattle.admits.specs.Room.{LentRoom}

-- `admit`
zeros : (n : ℕ) → length {A = ℕ} (replicate n 0) ≡ n
zeros n = length-replicate {A = ℕ} n 0

room_by : (a s v m x : ℕ) → a ≡ 512 → s ≡ 5120 → v ≡ 65536 → m ≡ 65536 → x ≡ 9216 → paper.lent_room (record { areas = a; symbols = s; values = v; masks = m; fixups = x }) ≡ true
unfolding paper.lent_room
room_by a s v m x h i j k l = rw (h, i, j, k, l)

pub fresh-room : LentRoom (length {A = ℕ} (replicate 512 0)) (length {A = ℕ} (replicate 5120 0)) (length {A = ℕ} (replicate 65536 0)) (length {A = ℕ} (replicate 65536 0)) (length {A = ℕ} (replicate 9216 0))
fresh-room = record { room = room_by (length {A = ℕ} (replicate 512 0)) (length {A = ℕ} (replicate 5120 0)) (length {A = ℕ} (replicate 65536 0)) (length {A = ℕ} (replicate 65536 0)) (length {A = ℕ} (replicate 9216 0)) (zeros 512) (zeros 5120) (zeros 65536) (zeros 65536) (zeros 9216) }

pub ruleset lending = (rules, fresh-room)

roomy-room : paper.lent_room roomy ≡ true
unfolding paper.lent_room
roomy-room = refl

-- `admit_with` and `admit_any_with`
module _ (text xs ys vs ms fs : List ℕ) (room : LentRoom (length xs) (length ys) (length vs) (length ms) (length fs)) where
  abbrev lent : paper.Lent
  lent = record { areas = length xs; symbols = length ys; values = length vs; masks = length ms; fixups = length fs }

  module _ {t : paper.Answer} {new : Held} {g : Gate} where
    pub admits-it : Meets true text (held xs ys vs ms fs) t new → g ≡ gate_of t → GateIs text g
    unfolding paper.reading lengths
    admits-it w e =
        rw e (record { passes = passes text (paper.read true lent text) t (whichever-buffers true roomy lent text roomy-room room.room) w.says })

    pub admits-any : MeetsAny text (held xs ys vs ms fs) t new → g ≡ gate_of t → GateIsAny text g
    unfolding reading_any lengths
    admits-any w e =
        rw e (record { passes = passes-any text (read_any lent text) t (whichever-buffers-of-any-radix roomy lent text roomy-room room.room) w.says })

pub ruleset admitting = (rules, admits-it, admits-any)
