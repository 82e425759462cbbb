-- The S line.
-- Assumes nothing.
use Prim.Native.Nat.{ℕ}
use mathlib.Core.Path.{◌≡◌}
use mathlib.Core.Bool.{Bool}
use mathlib.Core.List.{List}
use borrow.Author.Rules.{rules}
use Rattle.format.specs.Bytes.{is_blank}
use Rattle.format.specs.Got.{Got, is, isnt}
use Rattle.format.specs.Number.{past, blanks, number}
use Rattle.format.specs.Header.{Form}
use Rattle.format.specs.Entries.{Entry, symbol, spelled, S, titled, ref_or_def, value_of, symbol_of, symbol_line}
use Rattle.format.specs.Number as the
use Rattle.std.specs.Prelude.{Result, Ok, Err}
use Rattle.numbers.specs.Told.{told, code}
use Rattle.numbers.specs.declared.Halt.{Halt}
use Rattle.numbers.specs.declared.Read.{Read}
use Rattle.numbers.proofs.Laws.Numbers.{space-no, space-is}
use Rattle.entry_parts.specs.Told.{told_name, name_of}
use Rattle.entry_parts.specs.declared.Name.{Name}
use Rattle.entry_sort.specs.Sorts.{told_ref}

-- `value_of`, `symbol_of`
module _ (f : Form) (n : the.Name) (r : Bool) (s : List ℕ) (at : ℕ) {v : Result (Read ℕ) Halt} (e : told v ≡ number f.radix s at) where
  pub value-1 : {h : Halt} → v ≡ Err h → isnt (code h.reason) h.at ≡ value_of f n r s at
  unfolding value_of
  value-1 g = rw (← e, g)

  pub value-2 : {d : Read ℕ} → v ≡ Ok d → {u : ℕ} → u ≡ past is_blank s d.next → is (symbol n r d.value) u ≡ value_of f n r s at
  unfolding value_of blanks
  value-2 g i = rw (i, ← e, g)

module _ (f : Form) (n : the.Name) (s : List ℕ) (at : ℕ) {a : ℕ} (e : a ≡ past is_blank s at) where
  pub symbol-1 : a ≡ at → isnt 4 at ≡ symbol_of f n s at
  unfolding symbol_of
  symbol-1 h = rw (space-no s at e h)

  module _ (h : a ≡ at → ⊥) {x : Result (Read Bool) Halt} (i : told_ref x ≡ ref_or_def s a) where
    pub symbol-2 : {q : Read Bool} → x ≡ Ok q → {y : Got Entry} → y ≡ value_of f n q.value s q.next → y ≡ symbol_of f n s at
    unfolding symbol_of
    symbol-2 g j = rw (space-is s at e h, ← i, g) j

    pub symbol-3 : {k : Halt} → x ≡ Err k → isnt (code k.reason) k.at ≡ symbol_of f n s at
    unfolding symbol_of
    symbol-3 g = rw (space-is s at e h, ← i, g)

-- `parse_symdefref`
module _ (f : Form) (s : List ℕ) {t : Result (Read Name) Halt} (e : told_name t ≡ titled (spelled S) s 0) where
  pub symbol-line-1 : {h : Halt} → t ≡ Err h → isnt (code h.reason) h.at ≡ symbol_line f s 0
  unfolding symbol_line
  symbol-line-1 g = rw (← e, g)

  pub symbol-line-2 : {r : Read Name} → t ≡ Ok r → {x : Got Entry} → x ≡ symbol_of f (name_of r.value) s r.next → x ≡ symbol_line f s 0
  unfolding symbol_line
  symbol-line-2 g h = rw (← e, g) h

pub ruleset symbols = (rules, value-1, value-2, symbol-1, symbol-2, symbol-3, symbol-line-1, symbol-line-2)
