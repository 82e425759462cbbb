-- What the proofs of the check pass share: a law for each return, and the loops' invariants.
-- Assumes nothing.
use Prim.Native.Nat.{ℕ, zero, suc, ◌+◌, ◌-◌, ◌≤◌, ◌<◌}
use mathlib.Core.Path.{◌≡◌, refl, sym, ap, ◌∙◌}
use mathlib.Core.Bool.{Bool}
use mathlib.Core.List.{List}
use native.Mathlib.Numerals.{add-one}
use native.Mathlib.Omega.{arith}
use mir.Val.{Fits}
use mir.Syntax.{w32, w64}
use lib.Dec.{eqb}
use lib.ListN.{get_or}
use borrow.Author.Rules.{rules}
use borrow.Author.Tests.{lt-ltb, le-ltb}
use Rattle.std.specs.Prelude.{Result, Ok, Err}
use Rattle.format.specs.Lists.{pick}
use Rattle.format.specs.Pairs.{Fragment}
use Rattle.format.specs.Outcome.{fine, and_then}
use Rattle.format.specs.Tables.{Tables}
use Rattle.laws.specs.Rows.{from}
use Rattle.laws.proofs.Areas.{one_at_most}
use Rattle.sites.specs.declared.Site.{Site}
use Rattle.row_count.specs.Count.{count_for, told_count, CountedFor}
use Rattle.references.specs.declared.Refers.{Refers}
use Rattle.references.specs.References as ref
use Rattle.references.specs.References.{refers_in}
use Rattle.sites.specs.Columns.{fragment_at, fragments_in}
use Rattle.checks.specs.Check.{counts_at, count_walk, count_entry, count_line, Tallied}
use Rattle.sites.specs.Site.{Ready, tables_for}

-- ------------------------------------------------------------------ the fragments of an entry

pub record Counting (ms es xs areas symbols : List ℕ) (s : Site) (entry k j i : ℕ) : Type 0 where
  pub within : i ≤ s.line.fragments
  pub rest : (place : ℕ) → count_entry ms es xs areas symbols s entry k place
      ≡ counts_at (tables_for areas symbols s.filled) s.made entry i (from (fragment_at ms es xs) i (s.line.fragments - i)) j place
  pub room : j ≤ 1024
  pub grew : k ≤ j

pub counting-start : (ms es xs areas symbols : List ℕ) (s : Site) (entry k : ℕ) → k ≤ 1024 → Counting ms es xs areas symbols s entry k k 0
unfolding count_entry fragments_in
counting-start ms es xs areas symbols s entry k h = record {
  within = omega arith;
  rest = λ place. let z : s.line.fragments - 0 ≡ s.line.fragments = omega arith in rw z;
  room = h;
  grew = omega arith;
}

module _ {ms es xs areas symbols : List ℕ} {s : Site} {entry k j i : ℕ} (w : Counting ms es xs areas symbols s entry k j i) where
  pub counting-end : s.line.fragments ≤ i → Tallied (count_entry ms es xs areas symbols s entry k) k (Ok j)
  unfolding counts_at from
  counting-end h = record { says = λ place. let z : s.line.fragments - i ≡ 0 = omega arith in sym (w.rest place ∙ rw z); room = w.room; grew = w.grew }

  pub counting-room : j ≤ 1024
  counting-room = w.room

  module _ (h : i < s.line.fragments) (to : Refers) (a : (place : ℕ) → ref.told place to ≡ refers_in areas symbols s.filled (fragment_at ms es xs i) entry place)
      {r : Result ℕ ℕ} (b : CountedFor to i s.made j r) where
    next : (place : ℕ) → count_entry ms es xs areas symbols s entry k place
        ≡ and_then (told_count place r) (λ x. counts_at (tables_for areas symbols s.filled) s.made entry (suc i) (from (fragment_at ms es xs) (suc i) (s.line.fragments - suc i)) x place)
    unfolding counts_at from count_for refers_in
    next place =
        let z : s.line.fragments - i ≡ suc (s.line.fragments - suc i) = omega arith in
        w.rest place ∙ (ap (λ (n : ℕ). counts_at (tables_for areas symbols s.filled) s.made entry i (from (fragment_at ms es xs) i n) j place) z ∙ rw (← a place, ← b.says place))

    pub counting-stop : {x : ℕ} → r ≡ Err x → Tallied (count_entry ms es xs areas symbols s entry k) k (Err x)
    counting-stop g = record { says = λ place. sym (rw g at (next place)); room = omega arith; grew = omega (arith, w.grew, w.room) }

    pub counting_more : {x : ℕ} → r ≡ Ok x → Counting ms es xs areas symbols s entry k x (i + 1)
    counting_more {x} g = record {
      within = omega arith;
      rest = λ place. rw add-one (rw g at (next place));
      room = rw g at (b.room w.room);
      grew = let y : j ≤ x = rw g at (b.grew w.room) in omega (arith, w.grew);
    }

pub ruleset entries = (rules, counting-start, counting-end, counting-room, counting-stop, counting_more)

-- ------------------------------------------------------------------ the line

-- the entries up to e are passed, and the position is p
pub record Checking (ms es xs areas symbols : List ℕ) (s : Site) (keeps : List ℕ) (n k e p : ℕ) : Type 0 where
  pub whole : n ≡ s.line.width + s.line.bytes
  pub inside : e ≤ n
  pub rest : (place : ℕ) → count_line ms es xs areas symbols s keeps place
      ≡ count_walk (tables_for areas symbols s.filled) s.made s.size (fragments_in ms es xs s.line.fragments) keeps (n - e) e p k place
  pub room : k ≤ 1024
  pub grew : s.filled.fixups ≤ k
  pub ready : Ready s

pub checking-start : (ms es xs areas symbols : List ℕ) (s : Site) (keeps : List ℕ) → Ready s → {n : ℕ} → n ≡ s.line.width + s.line.bytes
    → Checking ms es xs areas symbols s keeps n s.filled.fixups 0 s.line.address
unfolding count_line
checking-start ms es xs areas symbols s keeps r {n} e = record {
  whole = e;
  inside = omega arith;
  rest = λ place. let z : n - 0 ≡ s.line.width + s.line.bytes = omega arith in rw z;
  room = r.fixups;
  grew = omega arith;
  ready = r;
}

out_of : (t : Tables) (n size : ℕ) (fs : List Fragment) (keeps : List ℕ) (m e p k place : ℕ) → size ≤ p → count_walk t n size fs keeps m e p k place ≡ fine k
unfolding count_walk
out_of t n size fs keeps zero e p k place h = refl
out_of t n size fs keeps (suc m) e p k place h = rw (le-ltb p size h)

pub line-fits : (s : Site) → Ready s → Fits w64 (s.line.width + s.line.bytes)
line-fits s r = record { fits = omega (arith, r.line.address, r.line.content) }

pub line-narrow : (s : Site) → Ready s → Fits w32 (s.line.width + s.line.bytes)
line-narrow s r = record { fits = omega (arith, r.line.address, r.line.content) }

module _ {ms es xs areas symbols : List ℕ} {s : Site} {keeps : List ℕ} {n k e p : ℕ} (w : Checking ms es xs areas symbols s keeps n k e p) where
  pub checking-end : n ≤ e → Tallied (count_line ms es xs areas symbols s keeps) s.filled.fixups (Ok k)
  unfolding count_walk
  checking-end h = record { says = λ place. let z : n - e ≡ 0 = omega arith in sym (w.rest place ∙ rw z); room = w.room; grew = w.grew }

  pub checking-room : k ≤ 1024
  checking-room = w.room

  pub checking-ready : Ready s
  checking-ready = w.ready

  pub entry-fits : e < n → Fits w32 (e + 1)
  entry-fits h = record { fits = omega (arith, w.whole, w.ready.line.address, w.ready.line.content) }

  pub grow-fits : p < s.size → (b : Bool) {y : ℕ} → y ≡ pick b 1 0 → Fits w32 (p + y)
  grow-fits h b ey = record { fits = omega (arith, w.ready.inside, one_at_most b) }

  pub checking-out : s.size ≤ p → Tallied (count_line ms es xs areas symbols s keeps) s.filled.fixups (Ok k)
  checking-out l = record {
    says = λ place. sym (w.rest place ∙ out_of (tables_for areas symbols s.filled) s.made s.size (fragments_in ms es xs s.line.fragments) keeps (n - e) e p k place l);
    room = w.room;
    grew = w.grew;
  }

  module _ (h : e < n) (l : p < s.size) {r : Result ℕ ℕ} (a : Tallied (count_entry ms es xs areas symbols s e k) k r) where
    onward : (place : ℕ) → count_line ms es xs areas symbols s keeps place
        ≡ and_then (told_count place r) (λ j. count_walk (tables_for areas symbols s.filled) s.made s.size (fragments_in ms es xs s.line.fragments) keeps (n - suc e) (suc e) (p + pick (eqb (get_or keeps e 0) 1) 1 0) j place)
    unfolding count_walk count_entry
    onward place =
        let z : n - e ≡ suc (n - suc e) = omega arith in
        w.rest place ∙ (ap (λ (y : ℕ). count_walk (tables_for areas symbols s.filled) s.made s.size (fragments_in ms es xs s.line.fragments) keeps y e p k place) z
        ∙ rw (lt-ltb p s.size l, ← a.says place))

    pub checking-stop : {x : ℕ} → r ≡ Err x → Tallied (count_line ms es xs areas symbols s keeps) s.filled.fixups (Err x)
    checking-stop g = record { says = λ place. sym (rw g at (onward place)); room = omega arith; grew = omega (arith, w.grew, w.room) }

    pub checking-more : {x : ℕ} → r ≡ Ok x → {y : ℕ} → y ≡ pick (eqb (get_or keeps e 0) 1) 1 0 → Checking ms es xs areas symbols s keeps n x (e + 1) (p + y)
    checking-more {x} g ey = record {
      whole = w.whole;
      inside = omega arith;
      rest = λ place. rw (ey, add-one) (rw g at (onward place));
      room = rw g at a.room;
      grew = let y : k ≤ x = rw g at a.grew in omega (arith, w.grew);
      ready = w.ready;
    }

pub ruleset checking = (rules, line-fits, line-narrow, checking-start, checking-end, checking-room, checking-ready, entry-fits, grow-fits, checking-out, checking-stop, checking-more)
