-- The halt of a line of group one: one law for each return, in the words of what its steps leave.
-- Assumes nothing.
use Prim.Native.Nat.{ℕ}
use mathlib.Core.Path.{◌≡◌}
use mathlib.Core.List.{List}
use lib.ListN.{get_or}
use borrow.Author.Rules.{rules}
use borrow.Author.Tests.{eq-eqb, ne_eqb}
use Rattle.format.specs.Bytes.{is_blank}
use Rattle.format.specs.Number.{blanks, past}
use Rattle.format.specs.Header.{Form}
use Rattle.format.specs.Entries.{A, addr, entry_line, field, flags, size, spelled, titled}
use Rattle.std.specs.Prelude.{Result, Ok, Err}
use Rattle.format.specs.Got.{Got, is, isnt}
use Rattle.numbers.specs.Told.{told, code}
use Rattle.numbers.specs.declared.Halt as reader
use Rattle.numbers.specs.declared.Read.{Read}
use Rattle.entry_line.specs.Told.{told_entry}
use Rattle.entry_parts.specs.Told.{told_name}
use Rattle.entry_parts.specs.declared.Name.{Name}
use Rattle.entry_line.specs.declared.Entry.{Entry}
use Rattle.halt.specs.Halt.{Halt, area_due, entry_halt, fields_due, why}

abbrev pub halt : (reason place : ℕ) → Halt
halt r p = record { reason = r; place = p }

-- `fields_due`
module _ (radix : ℕ) (s : List ℕ) (at : ℕ) {z : Result (Read ℕ) reader.Halt} (e : told z ≡ field (spelled size) radix s at) where
  pub fields-1 : {h : reader.Halt} → z ≡ Err h → isnt (code h.reason) h.at ≡ fields_due radix s at
  unfolding fields_due
  fields-1 g = rw (← e, g)

  module _ {a : Read ℕ} (g : z ≡ Ok a) {y : Result (Read ℕ) reader.Halt} (i : told y ≡ field (spelled flags) radix s a.next) where
    pub fields-2 : {h : reader.Halt} → y ≡ Err h → isnt (code h.reason) h.at ≡ fields_due radix s at
    unfolding fields_due
    fields-2 j = rw (← e, g, ← i, j)

    module _ {b : Read ℕ} (j : y ≡ Ok b) {d : Result (Read ℕ) reader.Halt} (k : told d ≡ field (spelled addr) radix s b.next) where
      pub fields-3 : {h : reader.Halt} → d ≡ Err h → isnt (code h.reason) h.at ≡ fields_due radix s at
      unfolding fields_due
      fields-3 l = rw (← e, g, ← i, j, ← k, l)

      pub fields-4 : {c : Read ℕ} → d ≡ Ok c → {q : ℕ} → q ≡ past is_blank s c.next → is tt q ≡ fields_due radix s at
      unfolding fields_due blanks
      fields-4 l m = rw (m, ← e, g, ← i, j, ← k, l)

-- `area_due`
module _ (f : Form) (s : List ℕ) {t : Result (Read Name) reader.Halt} (e : told_name t ≡ titled (spelled A) s 0) where
  pub area-1 : {h : reader.Halt} → t ≡ Err h → isnt (code h.reason) h.at ≡ area_due f s 0
  unfolding area_due
  area-1 g = rw (← e, g)

  pub area-2 : {r : Read Name} → t ≡ Ok r → {x : Got Unit} → x ≡ fields_due f.radix s r.next → x ≡ area_due f s 0
  unfolding area_due
  area-2 g h = rw (← e, g) h

-- `entry_halt`
module _ (f : Form) (s : List ℕ) {b : ℕ} (e : b ≡ get_or s 0 0) where
  pub entry-1 : b ≡ 65 → {o : Got Unit} → o ≡ area_due f s 0 → {x : Halt} → x ≡ why o → x ≡ entry_halt f s
  unfolding entry_halt
  entry-1 h g i = rw (← e, eq-eqb b 65 h, ← g) i

  module _ (h : b ≡ 65 → ⊥) {y : Result (Read Entry) reader.Halt} (d : told_entry y ≡ entry_line f s 0) where
    pub entry-2 : {k : reader.Halt} → y ≡ Err k → {x : Halt} → x ≡ why {A = Unit} (isnt (code k.reason) k.at) → x ≡ entry_halt f s
    unfolding entry_halt
    entry-2 g i = rw (← e, ne_eqb b 65 h, ← d, g) i

    pub entry-3 : {r : Read Entry} → y ≡ Ok r → {x : Halt} → x ≡ why (is (tt {0}) r.next) → x ≡ entry_halt f s
    unfolding entry_halt
    entry-3 g i = rw (← e, ne_eqb b 65 h, ← d, g) i

pub ruleset fields = (rules, fields-1, fields-2, fields-3, fields-4)

pub ruleset areas = (rules, area-1, area-2)

pub ruleset entries = (rules, entry-1, entry-2, entry-3)
