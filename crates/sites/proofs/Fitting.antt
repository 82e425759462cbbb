-- What the proofs of the bounds share: the facts that a test stands for.
-- Assumes nothing.
use Prim.Native.Nat.{ℕ, ◌+◌, ◌≤◌}
use mathlib.Core.Path.{◌≡◌}
use mathlib.Core.Bool.{true, ◌&&◌}
use mathlib.Core.List.{List}
use native.Mathlib.Omega.{arith}
use lib.Dec.{leb}
use borrow.Author.Tests.{le-leb, leb-true}
use Rattle.laws.specs.Rows.{tables_in}
use Rattle.cells.proofs.Both.{both_true}
use Rattle.sites.specs.declared.Line.{Line}
use Rattle.sites.specs.declared.Filled.{Filled}
use Rattle.sites.specs.declared.Site.{Site}
use Rattle.sites.specs.Site.{line_fits, filled_fits, is_ready, Short, Ready, few, tables_for}

-- what the test of a line says
pub record Lined (l : Line) (lent : ℕ) : Type 0 where
  pub line : Short l
  pub bytes : l.bytes ≤ lent

pub lined : (l : Line) (lent : ℕ) → line_fits l lent ≡ true → Lined l lent
unfolding line_fits
lined l lent h =
    let a = both_true (leb l.width 4) _ h in
    let b = both_true (leb l.bytes 256) _ a.1 in
    let c = both_true (leb l.bytes lent) _ b.1 in
    record {
      line = record { address = leb-true l.width 4 a.0; content = leb-true l.bytes 256 b.0; fragments = leb-true l.fragments 64 c.1 };
      bytes = leb-true l.bytes lent c.0;
    }

pub line-true : {l : Line} {lent : ℕ} → Short l → l.bytes ≤ lent → line_fits l lent ≡ true
unfolding line_fits
line-true {l} {lent} s h = rw (le-leb l.width 4 s.address, le-leb l.bytes 256 s.content, le-leb l.bytes lent h, le-leb l.fragments 64 s.fragments)

-- what the tests of the counts say
pub record Counted (l : Line) (n : Filled) (lent room : ℕ) : Type 0 where
  pub line : Short l
  pub bytes : l.bytes ≤ lent
  pub areas : n.areas ≤ 64
  pub symbols : n.symbols ≤ 1024
  pub fixups : n.fixups ≤ 1024
  pub space : 9216 ≤ room

pub counted : (l : Line) (n : Filled) (lent room : ℕ) → (line_fits l lent && filled_fits n room) ≡ true → Counted l n lent room
unfolding filled_fits
counted l n lent room h =
    let a = both_true (line_fits l lent) (filled_fits n room) h in
    let q = lined l lent a.0 in
    let b₁ = both_true (leb n.areas 64) _ a.1 in
    let b₂ = both_true (leb n.symbols 1024) _ b₁.1 in
    let b₃ = both_true (leb n.fixups 1024) _ b₂.1 in
    record {
      line = q.line;
      bytes = q.bytes;
      areas = leb-true n.areas 64 b₁.0;
      symbols = leb-true n.symbols 1024 b₂.0;
      fixups = leb-true n.fixups 1024 b₃.0;
      space = leb-true 9216 room b₃.1;
    }

-- a site within the bounds, by the test and back
pub ready_by : (s : Site) → is_ready s ≡ true → Ready s
unfolding is_ready
ready_by s h =
    let a = both_true (line_fits s.line s.line.bytes && filled_fits s.filled 9216) _ h in
    let b = both_true (leb (s.start + s.size) 65536) (leb s.made 64) a.1 in
    let c = counted s.line s.filled s.line.bytes 9216 a.0 in
    record {
      line = c.line;
      areas = c.areas;
      symbols = c.symbols;
      fixups = c.fixups;
      inside = leb-true (s.start + s.size) 65536 b.0;
      numbers = leb-true s.made 64 b.1;
    }

pub ready-true : {s : Site} → Ready s → is_ready s ≡ true
unfolding is_ready line_fits filled_fits
ready-true {s} r =
    rw (
      le-leb s.line.width 4 r.line.address,
      le-leb s.line.bytes 256 r.line.content,
      le-leb s.line.bytes s.line.bytes (omega arith),
      le-leb s.line.fragments 64 r.line.fragments,
      le-leb s.filled.areas 64 r.areas,
      le-leb s.filled.symbols 1024 r.symbols,
      le-leb s.filled.fixups 1024 r.fixups,
      le-leb 9216 9216 (omega arith),
      le-leb (s.start + s.size) 65536 r.inside,
      le-leb s.made 64 r.numbers,
    )

-- up to 64 areas all count
pub few-all : (n : ℕ) → n ≤ 64 → few n ≡ n
unfolding few
few-all n h = rw (le-leb n 64 h)

pub tables-all : (areas symbols : List ℕ) (n : Filled) → n.areas ≤ 64 → tables_for areas symbols n ≡ tables_in areas n.areas symbols n.symbols
unfolding tables_for
tables-all areas symbols n h = rw (few-all n.areas h)
