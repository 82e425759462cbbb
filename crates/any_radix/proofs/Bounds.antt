-- A text of any radix that was read, taken apart: what the reading went through, how few records there are, and that the lent buffers do not matter.
-- Assumes nothing.
use Prim.Native.Nat.{ℕ, ◌≤◌}
use mathlib.Core.Path.{◌≡◌, subst}
use mathlib.Core.Bool.{true}
use mathlib.Core.List.{List}
use native.Mathlib.Omega.{arith}
use lib.ListN.{length}
use lib.Dec.{leb}
use borrow.Author.Tests.{leb-true}
use Rattle.format.specs.Outcome.{fine}
use Rattle.format.specs.Records.{Parsed, parsed}
use Rattle.format.specs.Tables.{counted, room, tables}
use Rattle.format.specs.Placing.{placing}
use Rattle.format.specs.Reading.{Built, Lent, Read, allowed, build, lent_room, read_of}
use Rattle.laws.proofs.Outcomes.{chain, passed}
use Rattle.record_rows.proofs.Roomy.{Few, no-more-than-its-bytes}
use Rattle.any_radix.specs.ReadAny.{read_any}

-- the T and R pairs were counted
was-counted : (p : Parsed) (b : Built) → build p.form p.records ≡ fine b → counted p.records.pairs ≡ fine b.lines
unfolding build
was-counted p b h =
    let one = chain (tables p.records.entries) _ b h in
    let two = chain (counted p.records.pairs) _ b one.second in
    let three = chain (room one.value) _ b two.second in
    let four = chain (placing p.form one.value p.records.pairs) _ b three.second in
    let same : record { tables = one.value; lines = two.value; size = three.value; state = four.value } ≡ b = cc four.second in
    subst (λ (x : Built). counted p.records.pairs ≡ fine x.lines) same two.first

pub record WasReadAny (l : Lent) (text : List ℕ) (w : Read) : Type 0 where
  pub passes : ℕ
  pub allows : allowed l text ≡ fine passes
  pub parses : parsed true text ≡ fine w.parsed
  pub counts : counted w.parsed.records.pairs ≡ fine w.built.lines

pub what-was-read-of-any-radix : (l : Lent) (text : List ℕ) (w : Read) → read_any l text ≡ fine w → WasReadAny l text w
unfolding read_any read_of
what-was-read-of-any-radix l text w h =
    let one = chain (allowed l text) _ w h in
    let two = chain (parsed true text) read_of w one.second in
    let three = chain (build two.value.form two.value.records) _ w two.second in
    let same : record { parsed = two.value; built = three.value } ≡ w = cc three.second in
    let all : WasReadAny l text (record { parsed = two.value; built = three.value }) =
    record { passes = one.value; allows = one.first; parses = two.first; counts = was-counted two.value three.value three.first } in
    subst (λ (v : Read). WasReadAny l text v) same all

-- a text of 65,536 bytes at most
pub short-of-any-radix : (b : Lent) (text : List ℕ) (r : Read) → read_any b text ≡ fine r → length text ≤ 65536
unfolding allowed
short-of-any-radix b text r e =
    let w = what-was-read-of-any-radix b text r e in
    let one = passed (lent_room b) _ 1 0 w.passes w.allows in
    let two = passed (leb (length text) 65536) _ 2 0 w.passes one.1 in
    leb-true (length text) 65536 two.0

pub few-records-of-any-radix : (b : Lent) (text : List ℕ) (r : Read) → read_any b text ≡ fine r → Few r.parsed.records.pairs
few-records-of-any-radix b text r e =
    let w = what-was-read-of-any-radix b text r e in
    let short = short-of-any-radix b text r e in
    let k = no-more-than-its-bytes text r.parsed w.parses in
    record { pairs = omega (arith, k, short); content = omega (arith, k, short); fragments = omega (arith, k, short) }

-- which lent buffers it was read with does not matter, if they have room
pub whichever-buffers-of-any-radix : (b c : Lent) (text : List ℕ) → lent_room b ≡ true → lent_room c ≡ true → read_any b text ≡ read_any c text
unfolding read_any allowed
whichever-buffers-of-any-radix b c text h k = rw (h, k)
