-- The rows that a reading and the reading of T and R records leave in lent buffers, with whatever stands behind them.
-- Assumes nothing.
use Rattle.std.specs.Prelude.{ℕ, ◌≡◌, List, ◌++◌, length}
use Rattle.format.specs.Lists.{flat}
use Rattle.format.specs.Rows.{area_table, symbol_numbers}
use Rattle.format.specs.Reading.{Read}
use Rattle.record_rows.specs.RecordRows.{content_bytes, fragment_rows, pair_count, pair_rows}
use Rattle.row_texts.specs.RowRecords.{Rows}

pub record Left (text : List ℕ) (r : Read) (x : Rows) : Type 0 where
  pub is-text : x.text ≡ text
  pub behind-areas : List ℕ
  pub areas : x.areas ≡ area_table r.built.tables.areas r.built.state.masks ++ behind-areas
  pub area-count : x.area_count ≡ length r.built.tables.areas
  pub behind-symbols : List ℕ
  pub symbols : x.symbols ≡ flat symbol_numbers r.built.tables.symbols ++ behind-symbols
  pub symbol-count : x.symbol_count ≡ length r.built.tables.symbols
  pub behind-pairs : List ℕ
  pub pairs : x.pairs ≡ pair_rows 0 0 r.parsed.records.pairs ++ behind-pairs
  pub pair-count : x.pair_count ≡ pair_count r.parsed.records.pairs
  pub behind-content : List ℕ
  pub content : x.content ≡ content_bytes r.parsed.records.pairs ++ behind-content
  pub behind-fragments : List ℕ
  pub fragments : x.fragments ≡ fragment_rows r.parsed.records.pairs ++ behind-fragments
