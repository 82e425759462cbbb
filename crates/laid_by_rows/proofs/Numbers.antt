-- A row's numbers are those of the pair that it stands for.
-- Assumes nothing.
use Prim.Native.Nat.{ℕ, ◌+◌, ◌*◌}
use mathlib.Core.Path.{◌≡◌, refl, ap, sym, ◌∙◌}
use mathlib.Core.List.{List, []}
use lib.ListN.{length, get_or, take, drop}
use Rattle.format.specs.Pairs.{Content, Pair, Relocation, placed, skipped}
use Rattle.format.specs.Records.{Taken}
use Rattle.laws.specs.Rows.{from}
use Rattle.record_rows.specs.RecordRows.{pair_columns}
use Rattle.record_parts.specs.Parts.{fragment_from, pair_from}
use Rattle.one_position.specs.Pair.{Stands}

abbrev content_of_body : Pair → Content
content_of_body skipped = record { address = 0; bytes = [] }
content_of_body (placed c r) = c

abbrev relocation_of_body : Pair → Relocation
relocation_of_body skipped = record { area = 0; fragments = [] }
relocation_of_body (placed c r) = r

module _ {pairs content fragments : List ℕ} {p place : ℕ} {c : Content} {r : Relocation} (s : Stands pairs content fragments p place c r) where
  pub the-address : get_or pairs (p + 1) 0 ≡ c.address
  unfolding pair_from
  the-address = rw s.row (ap (λ (q : Taken Pair). (content_of_body q.body).address) s.pair)

  pub the-area : get_or pairs (p + 2) 0 ≡ r.area
  unfolding pair_from
  the-area = rw s.row (ap (λ (q : Taken Pair). (relocation_of_body q.body).area) s.pair)

  pub the-bytes : take (get_or pairs (p + 4) 0) (drop (get_or pairs (p + 3) 0) content) ≡ c.bytes
  unfolding pair_from
  the-bytes = rw s.row (ap (λ (q : Taken Pair). (content_of_body q.body).bytes) s.pair)

  pub the-fragments : from (fragment_from fragments) (get_or pairs (p + 5) 0) (get_or pairs (p + 6) 0) ≡ r.fragments
  unfolding pair_from
  the-fragments = rw s.row (ap (λ (q : Taken Pair). (relocation_of_body q.body).fragments) s.pair)
