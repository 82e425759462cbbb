-- A module that was read, taken apart: what its reading went through.
-- Assumes nothing.
use Prim.Native.Nat.{ℕ}
use mathlib.Core.Path.{◌≡◌, subst}
use mathlib.Core.Bool.{true}
use mathlib.Core.List.{List}
use Rattle.format.specs.Outcome.{fine}
use Rattle.format.specs.Records.{Parsed, parsed}
use Rattle.format.specs.Tables.{counted, room, tables}
use Rattle.format.specs.Placing.{placing}
use Rattle.format.specs.Reading.{Built, Read, allowed, build, read_of}
use Rattle.laws.proofs.Outcomes.{chain}
use Rattle.any_radix.specs.ReadAny.{read_any}
use Rattle.record_rows.specs.ReadPairs.{roomy}

pub record Steps (text : List ℕ) (r : Read) : Type 0 where
  pub passes : ℕ
  pub allows : allowed roomy text ≡ fine passes
  pub parses : parsed true text ≡ fine r.parsed
  pub builds : build r.parsed.form r.parsed.records ≡ fine r.built
  pub enters : tables r.parsed.records.entries ≡ fine r.built.tables

-- the tables of what was built
entered : (p : Parsed) (b : Built) → build p.form p.records ≡ fine b → tables p.records.entries ≡ fine b.tables
unfolding build
entered p b h =
    let one = chain (tables p.records.entries) _ b h in
    let two = chain (counted p.records.pairs) _ b one.second in
    let three = chain (room one.value) _ b two.second in
    let four = chain (placing p.form one.value p.records.pairs) _ b three.second in
    let same : record { tables = one.value; lines = two.value; size = three.value; state = four.value } ≡ b = cc four.second in
    subst (λ (x : Built). tables p.records.entries ≡ fine x.tables) same one.first

pub steps : (text : List ℕ) (r : Read) → read_any roomy text ≡ fine r → Steps text r
unfolding read_any read_of
steps text r h =
    let one = chain (allowed roomy text) _ r h in
    let two = chain (parsed true text) read_of r one.second in
    let three = chain (build two.value.form two.value.records) _ r two.second in
    let same : record { parsed = two.value; built = three.value } ≡ r = cc three.second in
    let all : Steps text (record { parsed = two.value; built = three.value }) =
    record { passes = one.value; allows = one.first; parses = two.first; builds = three.first; enters = entered two.value three.value three.first } in
    subst (λ (x : Read). Steps text x) same all
