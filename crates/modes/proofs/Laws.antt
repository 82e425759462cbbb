-- A mode.
-- Assumes nothing.
use Prim.Native.Nat.{ℕ, ◌+◌, ◌*◌, ◌<◌, ◌≤◌, ◌%◌}
use mathlib.Core.Path.{◌≡◌}
use mathlib.Core.List.{List}
use borrow.Author.Rules.{rules}
use borrow.Author.Tests.{lt-ltb, le-ltb}
use Rattle.std.specs.Prelude.{Result, Ok, Err}
use Rattle.format.specs.Got.{is, isnt}
use Rattle.format.specs.Number.{byte, next_byte}
use Rattle.format.specs.Pairs.{long_mode, any_mode, mode_of}
use Rattle.numbers.specs.Told.{told}
use Rattle.numbers.specs.declared.Halt.{Halt}
use Rattle.numbers.specs.declared.Read.{Read}
use Rattle.numbers.proofs.Laws.Numbers.{byte-below, next-below}

-- `any_mode`, `parse_extended_mode`
module _ (radix : ℕ) (s : List ℕ) (at : ℕ) where
  module _ {b : Result (Read ℕ) Halt} (e : told b ≡ byte radix s at) where
    pub mode-1 : {h : Halt} → b ≡ Err h → told (Err h) ≡ any_mode radix s at
    unfolding any_mode
    mode-1 g = rw (← e, g)

    module _ {r : Read ℕ} (g : b ≡ Ok r) where
      pub mode-2 : r.value < 240 → is r.value r.next ≡ any_mode radix s at
      unfolding any_mode
      mode-2 h = rw (← e, g, lt-ltb r.value 240 h)

      module _ (h : 240 ≤ r.value) {c : Result (Read ℕ) Halt} (i : told c ≡ next_byte radix s r.next) where
        pub mode-3 : {h : Halt} → c ≡ Err h → told (Err h) ≡ any_mode radix s at
        unfolding any_mode long_mode
        mode-3 j = rw (← e, g, le-ltb r.value 240 h, ← i, j)

        pub mode-4 : {q : Read ℕ} → c ≡ Ok q → {x : ℕ} → x ≡ (r.value * 256 + q.value) % 4096 → is x q.next ≡ any_mode radix s at
        unfolding any_mode long_mode
        mode-4 j k = rw (k, ← e, g, le-ltb r.value 240 h, ← i, j)

  module _ {m : Result (Read ℕ) Halt} (e : told m ≡ any_mode radix s at) where
    pub mode-5 : {h : Halt} → m ≡ Err h → told (Err h) ≡ mode_of radix s at
    unfolding mode_of
    mode-5 g = rw (← e, g)

    pub mode-6 : {r : Read ℕ} → m ≡ Ok r → r.value < 2048 → is r.value r.next ≡ mode_of radix s at
    unfolding mode_of
    mode-6 {r} g h = rw (← e, g, lt-ltb r.value 2048 h)

    pub mode-7 : {r : Read ℕ} → m ≡ Ok r → 2048 ≤ r.value → isnt 4 at ≡ mode_of radix s at
    unfolding mode_of
    mode-7 {r} g h = rw (← e, g, le-ltb r.value 2048 h)

pub ruleset moding = (rules, mode-1, mode-2, mode-3, mode-4, byte-below, next-below, mode-5, mode-6, mode-7)
