-- One entry more: the counts, or the refusal's number; and the rows.
-- Assumes nothing.
use Rattle.std.specs.Prelude.{ℕ, ◌+◌, ◌≡◌, List, Result, Ok, Err, ltb}
use Rattle.format.specs.Lists.{pick}
use Rattle.entry_line.specs.Told.{addr_of}
use Rattle.entry_line.specs.declared.Entry.{Entry}
use Rattle.entry_line.specs.declared.Entry.TheVariants.{Area, Symbol, Ignored}
use Rattle.put_rows.specs.Put.{area_put, symbol_put}
use Rattle.one_entry.specs.declared.Rows.{Rows}
use Rattle.one_entry.specs.declared.Full.{Full}

-- so many rows, or the refusal's number
abbrev pub room : (areas symbols : ℕ) → Result Rows Full
room a s = Ok (record { areas = a; symbols = s })

abbrev pub full : (number : ℕ) → Result Rows Full
full n = Err (record { number = n })

abbrev pub added_of : Entry → (areas symbols : ℕ) → Result Rows Full
added_of (Area a k z g x) na ns = pick (ltb na 64) (room (na + 1) ns) (full 5)
added_of (Symbol a k r v) na ns = pick (ltb ns 1024) (room na (ns + 1)) (full 6)
added_of Ignored na ns = room na ns

abbrev pub areas_after : (place areas : ℕ) → List ℕ → Entry → List ℕ
areas_after p na rows (Area a k z g x) = area_put rows na p a k z g (addr_of x)
areas_after p na rows (Symbol a k r v) = rows
areas_after p na rows Ignored = rows

abbrev pub symbols_after : (place areas symbols : ℕ) → List ℕ → Entry → List ℕ
symbols_after p na ns rows (Area a k z g x) = rows
symbols_after p na ns rows (Symbol a k r v) = symbol_put rows ns p a k r v na
symbols_after p na ns rows Ignored = rows

pub record Adds (e : Entry) (place na ns : ℕ) (xs ys : List ℕ) (r : Result Rows Full) (xs' ys' : List ℕ) : Type 0 where
  pub answered : r ≡ added_of e na ns
  pub areas : xs' ≡ areas_after place na xs e
  pub symbols : ys' ≡ symbols_after place na ns ys e
