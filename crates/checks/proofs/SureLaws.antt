-- What the proofs of the test share by which most pairs need no check pass, and that the check pass refuses nothing then.
-- Assumes nothing.
use Prim.Native.Nat.{ℕ, zero, suc, ◌+◌, ◌*◌, ◌/◌, ◌%◌, ◌≤◌, ◌<◌}
use mathlib.Core.Path.{◌≡◌, refl, sym, ◌∙◌}
use mathlib.Core.Bool.{Bool, true, false, not, ◌&&◌}
use mathlib.Core.List.{List}
use mathlib.Core.Option.{Option, none, some}
use native.Mathlib.Omega.{arith}
use native.Mathlib.Nat.{suc-mul, mul-le-mul_right}
use mir.Val.{Fits}
use mir.Syntax.{w64}
use lib.Dec.{eqb, ltb, leb}
use lib.ListN.{get_or, get_elem?}
use borrow.Author.Rules.{rules}
use borrow.Author.Tests.{lt-ltb, eqb-true, eqb-false, ltb-true, leb-true, not-true, not-false}
use Rattle.std.specs.Prelude.{Result, Ok, Err}
use Rattle.checks.specs.declared.check.Fault.TheVariants as fault
use Rattle.format.specs.Lists.{pick}
use Rattle.format.specs.Pairs.{Fragment}
use Rattle.format.specs.Mode.{bit, gives}
use Rattle.format.specs.Outcome.{Outcome, fine, refused, and_then}
use Rattle.format.specs.Tables.{Tables, rank}
use Rattle.format.specs.Fixups.{Reference, to_area, symbol_ref, reference}
use Rattle.laws.specs.Rows.{from, areas_in, symbol_at, symbols_in, tables_in, fragment}
use Rattle.laws.proofs.Outcomes.{Fine, follow}
use Rattle.sites.specs.declared.Site.{Site}
use Rattle.references.specs.References.{refers_at}
use Rattle.sites.specs.Columns.{fragment_at, fragments_in}
use Rattle.row_count.specs.Count.{count_one, count_to}
use Rattle.checks.specs.Check.{counts_at, count_walk, count_line, Tallied, is_fine, Passes, verdict, Judged}
use Rattle.sites.proofs.Fitting.{ready_by}
use Rattle.checks.specs.Sure.{Held, AllHeld, Counted, Sure}
use Rattle.sites.specs.Site.{Ready, is_ready, few, tables_for}
use Rattle.references.proofs.Laws.{elem_in}

not-both : {A : Type 0} → false ≡ true → A
not-both h = let z : ◌≡◌ {A = ℕ} 0 1 = cc in let y : ⊥ = omega arith in absurd y

-- `held`
pub held-symbol : (mode index n : ℕ) {i : ℕ} → i ≡ index → ltb i n ≡ true → Held mode index n
held-symbol mode index n {i} e h = record { known = λ g. let l : i < n = ltb-true i n h in omega arith }

pub held-area : (mode index n : ℕ) → (mode / 2 % 2 ≡ 1 → ⊥) → true ≡ true → Held mode index n
held-area mode index n h e = record { known = λ g. absurd (h g) }

-- `all_held`: i fragments are seen
pub record Holding (ms xs : List ℕ) (n c i : ℕ) : Type 0 where
  pub within : i ≤ c
  pub each : (j : ℕ) → j < i → Held (get_or ms j 0) (get_or xs j 0) n

pub hold-start : (ms xs : List ℕ) (n c : ℕ) → Holding ms xs n c 0
hold-start ms xs n c = record { within = omega arith; each = λ j h. absurd (omega arith) }

pub hold-stop : (ms xs : List ℕ) (n c : ℕ) → false ≡ true → AllHeld ms xs n c
hold-stop ms xs n c h = not-both h

-- the last one seen, or one before it
with-one : (ms xs : List ℕ) (n i j : ℕ) (b : Bool) → eqb j i ≡ b → j < i + 1 → Held (get_or ms i 0) (get_or xs i 0) n → (j < i → Held (get_or ms j 0) (get_or xs j 0) n) → Held (get_or ms j 0) (get_or xs j 0) n
with-one ms xs n i j true q l h f = let z : j ≡ i = eqb-true j i q in rw z h
with-one ms xs n i j false q l h f = let y : j ≡ i → ⊥ = eqb-false j i q in f (omega arith)

module _ {ms xs : List ℕ} {n c i : ℕ} (w : Holding ms xs n c i) where
  pub hold-end : c ≤ i → true ≡ true → AllHeld ms xs n c
  hold-end h e = record { each = λ j l. w.each j (omega arith) }

  pub hold-more : i < c → {m x : ℕ} → m ≡ get_or ms i 0 → x ≡ get_or xs i 0 → {b : Bool} → (b ≡ true → Held m x n) → not b ≡ false → Holding ms xs n c (i + 1)
  hold-more h em ex {b} f g = record {
    within = omega arith;
    each = λ j l. with-one ms xs n i j (eqb j i) refl l (rw (← em, ← ex) (f (not-false b g))) (λ y. w.each j y);
  }

pub ruleset holding = (rules, held-symbol, held-area, hold-start, hold-stop, hold-end, hold-more)

-- `counted`
few-rows : (s : Site) → Ready s → (s.line.width + s.line.bytes) * s.line.fragments ≤ 260 * 64
few-rows s r =
    let h : s.line.width + s.line.bytes ≤ 260 = omega (arith, r.line.address, r.line.content) in
    omega (arith, mul-le-mul_right s.line.fragments h, r.line.fragments)

module _ (s : Site) where
  pub count-mul : Ready s → Fits w64 ((s.line.width + s.line.bytes) * s.line.fragments)
  count-mul r = record { fits = omega (arith, few-rows s r) }

  pub count-sum : Ready s → Fits w64 (s.filled.fixups + (s.line.width + s.line.bytes) * s.line.fragments)
  count-sum r = record { fits = omega (arith, few-rows s r, r.fixups) }

  pub count-few : false ≡ true → Counted s
  count-few h = not-both h

  pub count-all : s.line.fragments ≤ s.made → leb (s.filled.fixups + (s.line.width + s.line.bytes) * s.line.fragments) 1024 ≡ true → Counted s
  count-all h l = record { numbers = h; room = leb-true (s.filled.fixups + (s.line.width + s.line.bytes) * s.line.fragments) 1024 l }

-- `sure`
module _ (s : Site) (ms xs : List ℕ) {a : Bool} (f : a ≡ true → Counted s) where
  pub sure-both : a ≡ true → {b : Bool} → (b ≡ true → AllHeld ms xs s.filled.symbols s.line.fragments) → b ≡ true → Sure s ms xs
  sure-both e g h = record { counted = f e; held = g h }

pub sure-not : (s : Site) (ms xs : List ℕ) → false ≡ true → Sure s ms xs
sure-not s ms xs h = not-both h

pub ruleset surely = (rules, count-mul, count-sum, count-few, count-all, sure-both, sure-not)

-- ------------------------------------------------------------------ the check pass refuses nothing

-- an outcome that is fine, with at most b fixups
record Up (o : Outcome ℕ) (b : ℕ) : Type 0 where
  value : ℕ
  is-fine : o ≡ fine value
  most : value ≤ b

then-up : {A : Type 0} (o : Outcome A) (f : A → Outcome ℕ) {b : ℕ} → Fine o → ((a : A) → Up (f a) b) → Up (and_then o f) b
then-up o f u g = let v = g u.value in record { value = v.value; is-fine = follow o f u.is-fine v.is-fine; most = v.most }

up-then : (o : Outcome ℕ) (f : ℕ → Outcome ℕ) {b c : ℕ} → Up o b → ((k : ℕ) → k ≤ b → Up (f k) c) → Up (and_then o f) c
up-then o f u g = let v = g u.value u.most in record { value = v.value; is-fine = follow o f u.is-fine v.is-fine; most = v.most }

-- a reference is no 11
refers-fine : (areas symbols : List ℕ) (na n mode at index entry place : ℕ) → Held mode index n → Fine (refers_at (tables_in areas na symbols n) (fragment mode at index) entry place)
unfolding refers_at reference tables_in bit symbols_in
refers-fine areas symbols na n mode at index entry place h = go (eqb at entry && gives mode) (eqb (mode / 2 % 2) 1) refl
  where
    some-symbol : index < n → Fine (symbol_ref (areas_in areas na) place (get_elem? (from (symbol_at symbols) 0 n) index))
    some-symbol l = rw (elem_in symbols 0 n index l) (record { value = _; is-fine = refl })

    go : (a b : Bool) → eqb (mode / 2 % 2) 1 ≡ b
        → Fine (pick a (pick b (symbol_ref (areas_in areas na) place (get_elem? (from (symbol_at symbols) 0 n) index)) (fine (to_area (rank 0 (areas_in areas na) index) 0))) (fine none))
    go true true e = some-symbol (h.known (eqb-true (mode / 2 % 2) 1 e))
    go true false e = record { value = _; is-fine = refl }
    go false b e = record { value = _; is-fine = refl }

-- nor is a count 12 or 13
to-up : (i n k place : ℕ) (r : Option Reference) → i < n → k < 1024 → Up (count_to i n k place r) (suc k)
unfolding count_one
to-up i n k place none h l = record { value = k; is-fine = refl; most = omega arith }
to-up i n k place (some r) h l = record { value = suc k; is-fine = rw (lt-ltb i n h, lt-ltb k 1024 l); most = omega arith }

module _ (areas symbols : List ℕ) (na ns : ℕ) (ms es xs : List ℕ) where
  at_up : (n entry i m k place : ℕ) → ((j : ℕ) → j < i + m → Held (get_or ms j 0) (get_or xs j 0) ns) → i + m ≤ n → k + m ≤ 1024
      → Up (counts_at (tables_in areas na symbols ns) n entry i (from (fragment_at ms es xs) i m) k place) (k + m)
  unfolding counts_at from fragment_at
  at_up n entry i zero k place h l r = record { value = k; is-fine = refl; most = omega arith }
  at_up n entry i (suc m) k place h l r =
      up-then _ _
      (then-up _ _ (refers-fine areas symbols na ns (get_or ms i 0) (get_or es i 0) (get_or xs i 0) entry place (h i (omega arith)))
      (λ o. to-up i n k place o (omega arith) (omega arith)))
      (λ j y. let u = at_up n entry (suc i) m j place (λ v z. h v (omega arith)) (omega arith) (omega arith) in
      record { value = u.value; is-fine = u.is-fine; most = omega (arith, u.most) })

walk_up : (t : Tables) (n size : ℕ) (fs : List Fragment) (c : ℕ) (keeps : List ℕ) (m entry position k place : ℕ)
    → ((e j : ℕ) → j + c ≤ 1024 → Up (counts_at t n e 0 fs j place) (j + c)) → k + m * c ≤ 1024 → Up (count_walk t n size fs keeps m entry position k place) 1024
unfolding count_walk
walk_up t n size fs c keeps zero entry position k place h r = record { value = k; is-fine = refl; most = omega arith }
walk_up t n size fs c keeps (suc m) entry position k place h r =
    go (ltb position size)
    (up-then _ _ (h entry k (omega (arith, suc-mul m c)))
    (λ j y. walk_up t n size fs c keeps m (suc entry) (position + pick (eqb (get_or keeps entry 0) 1) 1 0) j place h (omega (arith, suc-mul m c))))
  where
    go : (b : Bool) {o : Outcome ℕ} → Up o 1024 → Up (pick b o (fine k)) 1024
    go true u = u
    go false u = record { value = k; is-fine = refl; most = omega arith }

-- `passes`
module _ (ms es xs areas symbols : List ℕ) (s : Site) (keeps : List ℕ) where
  line-up : Sure s ms xs → (place : ℕ) → Up (count_line ms es xs areas symbols s keeps place) 1024
  unfolding count_line fragments_in tables_for
  line-up u place =
      walk_up (tables_for areas symbols s.filled) s.made s.size (from (fragment_at ms es xs) 0 s.line.fragments) s.line.fragments keeps (s.line.width + s.line.bytes) 0 s.line.address s.filled.fixups place
      (λ e j r. at_up areas symbols (few s.filled.areas) s.filled.symbols ms es xs s.made e 0 s.line.fragments j place
      (λ i l. u.held.each i (omega arith)) (omega (arith, u.counted.numbers)) r)
      u.counted.room

  pub pass-sure : {b : Bool} → (b ≡ true → Sure s ms xs) → b ≡ true → Passes (count_line ms es xs areas symbols s keeps) (Ok s.filled.fixups)
  pass-sure f e = record {
    stops = λ x g. let z : ◌≡◌ {A = ℕ} 0 1 = cc in absurd (omega arith);
    goes = λ x g place. rw (line-up (f e) place).is-fine;
  }

  pub pass-tallied : {k : ℕ} {r : Result ℕ ℕ} → Tallied (count_line ms es xs areas symbols s keeps) k r → Passes (count_line ms es xs areas symbols s keeps) r
  pass-tallied a = record {
    stops = λ x g place. sym (rw g at (a.says place));
    goes = λ x g place. rw (← a.says place, g);
  }

pub ruleset sparing = (rules, pass-sure, pass-tallied)

-- `check_pair`: t is the test of the bounds
module _ (ms es xs areas symbols : List ℕ) (s : Site) (keeps : List ℕ) {t : Bool} (et : t ≡ is_ready s) where
  pub check-misfit : not t ≡ true → Judged s (count_line ms es xs areas symbols s keeps) (Err fault.Misfit)
  check-misfit h = record { says = λ place. rw (← et, not-true t h) }

  module _ (k : not t ≡ false) where
    is_true : is_ready s ≡ true
    is_true = sym et ∙ not-false t k

    pub check-ready : Ready s
    check-ready = ready_by s is_true

    module _ {r : Result ℕ ℕ} (a : Passes (count_line ms es xs areas symbols s keeps) r) where
      pub check-refused : {n : ℕ} → r ≡ Err n → Judged s (count_line ms es xs areas symbols s keeps) (Err (fault.Refused n))
      check-refused {n} g = record { says = λ place. rw (is_true, a.stops n g place) }

      pub check-passed : {n : ℕ} → r ≡ Ok n → Judged s (count_line ms es xs areas symbols s keeps) (Ok tt)
      check-passed {n} g = record { says = λ place. rw is_true (go (count_line ms es xs areas symbols s keeps place) (a.goes n g place)) }
        where
          go : (o : Outcome ℕ) → is_fine o ≡ true → some (fine 0) ≡ some (verdict o)
          go (fine k) e = refl
          go (refused n p) e = not-both e

pub ruleset judging = (rules, check-misfit, check-ready, check-refused, check-passed)
