-- The laws of one entry more, by what it is and whether there is room.
-- Assumes nothing.
use Prim.Native.Nat.{ℕ, ◌+◌, ◌<◌, ◌≤◌}
use mathlib.Core.Path.{◌≡◌, refl}
use mathlib.Core.Bool.{Bool}
use mathlib.Core.List.{List}
use borrow.Author.Rules.{rules}
use borrow.Author.Tests.{lt-ltb, le-ltb}
use Rattle.entry_line.specs.Told.{addr_of}
use Rattle.std.specs.Prelude.{Option}
use Rattle.entry_line.specs.declared.Entry.{Entry}
use Rattle.entry_line.specs.declared.Entry.TheVariants.{Area, Symbol, Ignored}
use Rattle.put_rows.specs.Put.{area_put, symbol_put}
use Rattle.put_rows.proofs.RowLaws.{no-area, no_symbol}
use Rattle.std.specs.Prelude.{Result}
use Rattle.one_entry.specs.Adds.{Adds, room, full}
use Rattle.one_entry.specs.declared.Rows.{Rows}
use Rattle.one_entry.specs.declared.Full.{Full}

module _ {en : Entry} (p na ns : ℕ) (xs ys : List ℕ) where
  pub add-ignored : en ≡ Ignored → {r : Result Rows Full} → r ≡ room na ns → Adds en p na ns xs ys r xs ys
  add-ignored e i = rw (e, i) (record { answered = refl; areas = refl; symbols = refl })

  module _ {a k z g : ℕ} {x : Option ℕ} (e : en ≡ Area a k z g x) where
    pub add-area-full : 64 ≤ na → Adds en p na ns xs ys (full 5) xs ys
    add-area-full h = rw e (record { answered = rw (le-ltb na 64 h); areas = no-area xs na p a k h z g (addr_of x); symbols = refl })

    pub add-area-room : na < 64 → {xs' : List ℕ} → xs' ≡ area_put xs na p a k z g (addr_of x) → {r : Result Rows Full} → r ≡ room (na + 1) ns → Adds en p na ns xs ys r xs' ys
    add-area-room h f i = rw (e, i) (record { answered = rw (lt-ltb na 64 h); areas = f; symbols = refl })

  module _ {a k v : ℕ} {r : Bool} (e : en ≡ Symbol a k r v) where
    pub add-symbol-full : 1024 ≤ ns → Adds en p na ns xs ys (full 6) xs ys
    add-symbol-full h = rw e (record { answered = rw (le-ltb ns 1024 h); areas = refl; symbols = no_symbol ys ns p a k h r v na })

    pub add-symbol-room : ns < 1024 → {ys' : List ℕ} → ys' ≡ symbol_put ys ns p a k r v na → {o : Result Rows Full} → o ≡ room na (ns + 1) → Adds en p na ns xs ys o xs ys'
    add-symbol-room h f i = rw (e, i) (record { answered = rw (lt-ltb ns 1024 h); areas = refl; symbols = f })

pub ruleset adding = (rules, add-ignored, add-area-full, add-area-room, add-symbol-full, add-symbol-room)
