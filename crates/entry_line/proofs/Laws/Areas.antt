-- The A line.
-- Assumes nothing.
use Prim.Native.Nat.{ℕ}
use mathlib.Core.Path.{◌≡◌}
use mathlib.Core.List.{List}
use mathlib.Core.Option.{Option, none, some}
use borrow.Author.Rules.{rules}
use Rattle.format.specs.Bytes.{is_blank}
use Rattle.format.specs.Got.{Got, is, isnt, optional}
use Rattle.format.specs.Number.{past, blanks}
use Rattle.format.specs.Header.{Form}
use Rattle.format.specs.Entries.{Entry, area, spelled, size, flags, addr, A, titled, field, area_of, area_line}
use Rattle.format.specs.Number as the
use Rattle.std.specs.Prelude.{Result, Ok, Err}
use Rattle.numbers.specs.Told.{told, code}
use Rattle.numbers.specs.declared.Halt.{Halt}
use Rattle.numbers.specs.declared.Read.{Read}
use Rattle.entry_parts.specs.Told.{told_name, name_of}
use Rattle.entry_parts.specs.declared.Name.{Name}

-- `addr_at`
module _ (radix : ℕ) (s : List ℕ) (at : ℕ) {m : Result (Read ℕ) Halt} (e : told m ≡ field (spelled addr) radix s at) where
  pub addr-1 : {r : Read ℕ} → m ≡ Ok r → is (some r.value) r.next ≡ optional (field (spelled addr) radix) s at
  unfolding optional
  addr-1 g = rw (← e, g)

  pub addr-2 : {h : Halt} → m ≡ Err h → is none at ≡ optional (field (spelled addr) radix) s at
  unfolding optional
  addr-2 g = rw (← e, g)

pub ruleset addrs = (rules, addr-1, addr-2)

-- `area_of`
module _ (f : Form) (n : the.Name) (s : List ℕ) (at : ℕ) {z : Result (Read ℕ) Halt} (e : told z ≡ field (spelled size) f.radix s at) where
  pub area-1 : {h : Halt} → z ≡ Err h → isnt (code h.reason) h.at ≡ area_of f n s at
  unfolding area_of
  area-1 g = rw (← e, g)

  module _ {q : Read ℕ} (g : z ≡ Ok q) {y : Result (Read ℕ) Halt} (i : told y ≡ field (spelled flags) f.radix s q.next) where
    pub area-2 : {h : Halt} → y ≡ Err h → isnt (code h.reason) h.at ≡ area_of f n s at
    unfolding area_of
    area-2 j = rw (← e, g, ← i, j)

    pub area-3 : {r : Read ℕ} → y ≡ Ok r → {o : Option ℕ} {c : ℕ} → is o c ≡ optional (field (spelled addr) f.radix) s r.next → {u : ℕ} → u ≡ past is_blank s c → is (area n q.value r.value o) u ≡ area_of f n s at
    unfolding area_of blanks
    area-3 j k l = rw (l, ← e, g, ← i, j, ← k)

-- `parse_area`
module _ (f : Form) (s : List ℕ) {t : Result (Read Name) Halt} (e : told_name t ≡ titled (spelled A) s 0) where
  pub area-line-1 : {h : Halt} → t ≡ Err h → isnt (code h.reason) h.at ≡ area_line f s 0
  unfolding area_line
  area-line-1 g = rw (← e, g)

  pub area-line-2 : {r : Read Name} → t ≡ Ok r → {x : Got Entry} → x ≡ area_of f (name_of r.value) s r.next → x ≡ area_line f s 0
  unfolding area_line
  area-line-2 g h = rw (← e, g) h

pub ruleset areas = (rules, area-1, area-2, area-3, area-line-1, area-line-2)
