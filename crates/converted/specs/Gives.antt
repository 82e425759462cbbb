-- What a converted module gives: what the old one gave, outside symbols by name.
-- Assumes nothing.
use Rattle.std.specs.Prelude.{ℕ, ◌≡◌, true, List, map}
use Rattle.format.specs.Outcome.{fine}
use Rattle.format.specs.Records.{finished, verdict}
use Rattle.format.specs.Reading.{Read, counts_of, fixups_of, read}
use Rattle.record_rows.specs.ReadPairs.{roomy}
use Rattle.any_radix.specs.ReadAny.{read_any}
use Rattle.written.specs.Alike.{SameBuilt, bare_fixup}
use Rattle.written.specs.Named.{named_of}
use Rattle.written.specs.ReadsBack.{as_hex}

pub record GivesTheSame (old new : List ℕ) : Type 0 where
  -- the old module, read to its last byte
  pub was : Read
  pub read-old : read_any roomy old ≡ fine was
  pub was-finished : verdict old was.parsed ≡ finished
  -- the new one is accepted and finished, with an X form of the same order and address length
  pub is : Read
  pub accepted : read true roomy new ≡ fine is
  pub is-finished : verdict new is.parsed ≡ finished
  pub its-form : is.parsed.form ≡ as_hex was.parsed.form
  -- the same A, S, T and R records in the same order; the same tables, images, counts and fixups
  pub its-records : named_of new is.parsed.records ≡ named_of old was.parsed.records
  pub its-built : SameBuilt old new was.built is.built
  pub its-counts : counts_of was.built ≡ counts_of is.built
  pub its-fixups : map (bare_fixup old) (fixups_of was.built) ≡ map (bare_fixup new) (fixups_of is.built)
