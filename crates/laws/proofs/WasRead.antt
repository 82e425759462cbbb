-- A text that was read, taken apart: each step that the reading went through.
-- Assumes nothing.
use Prim.Native.Nat.{ℕ}
use mathlib.Core.Path.{◌≡◌, subst}
use mathlib.Core.Bool.{Bool}
use mathlib.Core.List.{List}
use Rattle.format.specs.Outcome.{fine}
use Rattle.format.specs.Records.{Parsed, parsed}
use Rattle.format.specs.Tables.{tables, counted, room}
use Rattle.format.specs.Placing.{placing}
use Rattle.format.specs.Reading.{Lent, Read, Built, allowed, build, headed, read, read_of}
use Rattle.laws.proofs.Outcomes.{chain}
use Rattle.laws.proofs.Headed.{headed-parsed}

-- what was built of the records
pub record WasBuilt (p : Parsed) (b : Built) : Type 0 where
  pub entered : tables p.records.entries ≡ fine b.tables
  pub counts : counted p.records.pairs ≡ fine b.lines
  pub roomy : room b.tables ≡ fine b.size
  pub placed : placing p.form b.tables p.records.pairs ≡ fine b.state

-- and what went before
pub record WasRead (ended : Bool) (l : Lent) (text : List ℕ) (w : Read) : Type 0 where
  pub passes : ℕ
  pub allows : allowed l text ≡ fine passes
  pub heads : headed ended text ≡ fine w.parsed
  pub parses : parsed ended text ≡ fine w.parsed
  pub builds : WasBuilt w.parsed w.built

was-built : (p : Parsed) (b : Built) → build p.form p.records ≡ fine b → WasBuilt p b
unfolding build
was-built p b h =
    let one = chain (tables p.records.entries) _ b h in
    let two = chain (counted p.records.pairs) _ b one.second in
    let three = chain (room one.value) _ b two.second in
    let four = chain (placing p.form one.value p.records.pairs) _ b three.second in
    let same : record { tables = one.value; lines = two.value; size = three.value; state = four.value } ≡ b = cc four.second in
    let all : WasBuilt p (record { tables = one.value; lines = two.value; size = three.value; state = four.value }) =
    record { entered = one.first; counts = two.first; roomy = three.first; placed = four.first } in
    subst (λ (x : Built). WasBuilt p x) same all

pub what-was-read : (ended : Bool) (l : Lent) (text : List ℕ) (w : Read) → read ended l text ≡ fine w → WasRead ended l text w
unfolding read read_of
what-was-read ended l text w h =
    let one = chain (allowed l text) _ w h in
    let two = chain (headed ended text) read_of w one.second in
    let three = chain (build two.value.form two.value.records) _ w two.second in
    let same : record { parsed = two.value; built = three.value } ≡ w = cc three.second in
    let all : WasRead ended l text (record { parsed = two.value; built = three.value }) =
    record { passes = one.value; allows = one.first; heads = two.first; parses = headed-parsed ended text two.value two.first; builds = was-built two.value three.value three.first } in
    subst (λ (v : Read). WasRead ended l text v) same all
