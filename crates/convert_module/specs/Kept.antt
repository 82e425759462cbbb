-- What the code has at hand of a module that was read: its rows of areas and symbols, and its verdict.
-- Assumes nothing.
use Rattle.std.specs.Prelude.{ℕ, ◌≡◌, List, ◌++◌, length}
use Rattle.format.specs.Header.{Form}
use Rattle.format.specs.Lists.{flat}
use Rattle.format.specs.Outcome.{fine}
use Rattle.format.specs.Records as the
use Rattle.format.specs.Rows.{area_table, symbol_numbers}
use Rattle.format.specs.Reading.{Read}
use Rattle.record_rows.specs.ReadPairs.{roomy}
use Rattle.answer.specs.Answer.{told_verdict}
use Rattle.answer.specs.declared.Verdict.{Verdict}
use Rattle.any_radix.specs.ReadAny.{read_any}

-- buffers of a reading, each as long as its bound
pub record Roomy (areas symbols values masks fixups : ℕ) : Type 0 where
  pub areas-are : areas ≡ 448
  pub symbols-are : symbols ≡ 5120
  pub values-are : values ≡ 65536
  pub masks-are : masks ≡ 65536
  pub fixups-are : fixups ≡ 9216

-- a module that was read, and the rows that its reading left
pub record Kept (text areas : List ℕ) (na : ℕ) (symbols : List ℕ) (ns : ℕ) : Type 0 where
  pub read : Read
  pub is_read : read_any roomy text ≡ fine read
  pub behind-areas : List ℕ
  pub areas-are : areas ≡ area_table read.built.tables.areas read.built.state.masks ++ behind-areas
  pub area-count : na ≡ length read.built.tables.areas
  pub behind-symbols : List ℕ
  pub symbols-are : symbols ≡ flat symbol_numbers read.built.tables.symbols ++ behind-symbols
  pub symbol-count : ns ≡ length read.built.tables.symbols

-- with its verdict
pub record Judged (text areas : List ℕ) (na : ℕ) (symbols : List ℕ) (ns : ℕ) (v : Verdict) : Type 0 where
  pub kept : Kept text areas na symbols ns
  pub verdict : told_verdict v ≡ the.verdict text kept.read.parsed

-- read to its last byte, with its form
pub record Whole (text : List ℕ) (f : Form) (areas : List ℕ) (na : ℕ) (symbols : List ℕ) (ns : ℕ) : Type 0 where
  pub kept : Kept text areas na symbols ns
  pub its-form : f ≡ kept.read.parsed.form
  pub is-finished : the.verdict text kept.read.parsed ≡ the.finished
