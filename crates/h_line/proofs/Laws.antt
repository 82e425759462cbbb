-- The H line: one law for each return, in the words of what its steps leave.
-- Assumes nothing.
use Prim.Native.Nat.{ℕ}
use mathlib.Core.Path.{◌≡◌}
use mathlib.Core.List.{List}
use mathlib.Core.Option.{Option, none, some}
use lib.ListN.{length}
use borrow.Author.Rules.{rules}
use borrow.Author.Tests.{eq-eqb, ne_eqb}
use Rattle.format.specs.Bytes.{is_blank}
use Rattle.format.specs.Got.{Got, is, isnt}
use Rattle.format.specs.Number.{behind, blanks, number, past}
use Rattle.format.specs.Entries.{field, lead}
use Rattle.std.specs.Prelude.{Result, Ok, Err}
use Rattle.numbers.specs.Told.{told, code}
use Rattle.numbers.specs.declared.Halt.{Halt}
use Rattle.numbers.specs.declared.Read.{Read}
use Rattle.numbers.proofs.Laws.Numbers.{space-no, space-is}
use Rattle.fields.specs.Told.{went}
use Rattle.fields.proofs.Laws.Fields.{word-no, word-is}
use Rattle.counts.specs.Counts.{H, Two, areas, counts_line, global, last_word, letters, symbol_words, symbols, tells, two_numbers, whole_line}
use Rattle.h_line.specs.Told.{two_of}

-- `last_word`
module _ (s : List ℕ) (at : ℕ) {a : ℕ} (e : a ≡ behind (letters symbols) s at) where
  pub last-1 : a ≡ at → isnt 4 at ≡ last_word s at
  unfolding last_word
  last-1 h = rw (word-no (letters symbols) s at e h)

  pub last-2 : (a ≡ at → ⊥) → {b : ℕ} → b ≡ past is_blank s a → is tt b ≡ last_word s at
  unfolding last_word blanks
  last-2 h f = rw (word-is (letters symbols) s at e h, f)

-- `symbol_words`
module _ (s : List ℕ) (at : ℕ) {a : ℕ} (e : a ≡ past is_blank s at) where
  pub words-1 : a ≡ at → isnt 4 at ≡ symbol_words s at
  unfolding symbol_words
  words-1 h = rw (space-no s at e h)

  module _ (h : a ≡ at → ⊥) {w : Result ℕ Halt} (f : went w ≡ lead (letters global) s a) where
    pub words-2 : {k : Halt} → w ≡ Err k → isnt (code k.reason) k.at ≡ symbol_words s at
    unfolding symbol_words
    words-2 g = rw (space-is s at e h, ← f, g)

    pub words-3 : {b : ℕ} → w ≡ Ok b → {x : Got Unit} → x ≡ last_word s b → x ≡ symbol_words s at
    unfolding symbol_words
    words-3 g i = rw (space-is s at e h, ← f, g) i

-- `two_numbers`
module _ (radix : ℕ) (s : List ℕ) (at : ℕ) {n : Result (Read ℕ) Halt} (e : told n ≡ number radix s at) where
  pub two-1 : {k : Halt} → n ≡ Err k → none ≡ whole_line (length s) (two_numbers radix s at)
  unfolding two_numbers
  two-1 g = rw (← e, g)

  module _ {v : Read ℕ} (g : n ≡ Ok v) {m : Result (Read ℕ) Halt} (f : told m ≡ field (letters areas) radix s v.next) where
    pub two-2 : {k : Halt} → m ≡ Err k → none ≡ whole_line (length s) (two_numbers radix s at)
    unfolding two_numbers
    two-2 h = rw (← e, g, ← f, h)

    module _ {w : Read ℕ} (h : m ≡ Ok w) {x : Result ℕ Halt} (i : went x ≡ symbol_words s w.next) where
      pub two-3 : {k : Halt} → x ≡ Err k → none ≡ whole_line (length s) (two_numbers radix s at)
      unfolding two_numbers
      two-3 j = rw (← e, g, ← f, h, ← i, j)

      module _ {q : ℕ} (j : x ≡ Ok q) where
        pub two-4 : q ≡ length s → some (two_of v.value w.value) ≡ whole_line (length s) (two_numbers radix s at)
        unfolding two_numbers
        two-4 k = rw (← e, g, ← f, h, ← i, j, eq-eqb q (length s) k)

        pub two-5 : (q ≡ length s → ⊥) → none ≡ whole_line (length s) (two_numbers radix s at)
        unfolding two_numbers
        two-5 k = rw (← e, g, ← f, h, ← i, j, ne_eqb q (length s) k)

-- `tells`
module _ (radix : ℕ) (s : List ℕ) {w : Result ℕ Halt} (e : went w ≡ lead (letters H) s 0) where
  pub tells-1 : {k : Halt} → w ≡ Err k → none ≡ tells radix s
  unfolding tells counts_line
  tells-1 g = rw (← e, g)

  pub tells-2 : {a : ℕ} → w ≡ Ok a → {x : Option Two} → x ≡ whole_line (length s) (two_numbers radix s a) → x ≡ tells radix s
  unfolding tells counts_line
  tells-2 g h = rw (← e, g) h

pub ruleset lasts = (rules, last-1, last-2)

pub ruleset words = (rules, words-1, words-2, words-3)

pub ruleset telling = (rules, tells-1, tells-2)
