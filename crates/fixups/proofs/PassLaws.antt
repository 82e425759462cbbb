-- The check pass counts what the walk makes: it refuses where the walk does, and where it does not the walk refuses nothing.
-- Assumes nothing.
use Prim.Native.Nat.{ℕ, zero, suc, ◌+◌, ◌≤◌, ◌<◌}
use mathlib.Core.Path.{◌≡◌, refl, sym, ap, ◌∙◌}
use mathlib.Core.Bool.{Bool, true, false, ◌&&◌, and-false}
use mathlib.Core.List.{List, [], ◌∷◌, ◌++◌}
use mathlib.Core.Option.{Option, none, some}
use native.Mathlib.Omega.{arith}
use lib.Dec.{eqb, ltb, leb}
use lib.ListN.{length, get_or, length-append}
use lib.Seq.{length-take-le}
use borrow.Author.Rules.{rules}
use borrow.Author.Tests.{le-leb, lt-leb}
use Rattle.std.specs.Prelude.{Result, Ok, Err}
use Rattle.checks.specs.declared.check.Fault.{Fault}
use Rattle.checks.specs.declared.check.Fault.TheVariants as fault
use Rattle.format.specs.Lists.{pick}
use Rattle.format.specs.Pairs.{Fragment}
use Rattle.format.specs.Outcome.{Outcome, fine, refused, and_then}
use Rattle.format.specs.Fixups.{Reference, Fixup, Site, fixup_of, fixup_to, fixup_at, fixups_at}
use Rattle.laws.specs.Rows.{fixups_in}
use Rattle.laws.proofs.Outcomes.{unlike}
use Rattle.grouped.proofs.Rows.{count-rows}
use Rattle.sites.specs.declared.Site as at
use Rattle.sites.specs.Columns.{fragments_in}
use Rattle.sites.specs.Site.{Ready, is_ready, made_at}
use Rattle.sites.proofs.Fitting.{ready_by}
use Rattle.references.specs.References.{refers_at}
use Rattle.row_count.specs.Count.{count_one, count_to}
use Rattle.checks.specs.Check.{counts_at, count_walk, count_line, is_fine, verdict, Judged}
use Rattle.fixups.specs.Walk.{site_of, fixups_walk, line_at, told, Made}
use Rattle.fixups.specs.Pass.{rowed_by, PairRows}
use Rattle.fixups.proofs.EntryLaws.{at-refers}

-- how many fixups an outcome has
abbrev pub many : Outcome (List Fixup) → Outcome ℕ
many (fine xs) = fine (length xs)
many (refused n p) = refused n p

many-then : (o : Outcome (List Fixup)) (f : List Fixup → Outcome (List Fixup)) (g : ℕ → Outcome ℕ) → ((xs : List Fixup) → many (f xs) ≡ g (length xs))
    → many (and_then o f) ≡ and_then (many o) g
many-then (fine xs) f g h = h xs
many-then (refused n p) f g h = refl

many-to : (w : Site) (i position : ℕ) (f : Fragment) (xs : List Fixup) (o : Option Reference) → many (fixup_to w i position f xs o) ≡ count_to i (length w.numbers) (length xs) w.place o
unfolding count_one
many-to w i position f xs none = refl
many-to w i position f xs (some r) = go (ltb i (length w.numbers)) (ltb (length xs) 1024)
  where
    go : (a b : Bool) → many (pick a (pick b (fine (xs ++ fixup_of w i position f r ∷ [])) (refused 13 w.place)) (refused 12 w.place))
        ≡ pick a (pick b (fine (suc (length xs))) (refused 13 w.place)) (refused 12 w.place)
    go true true = ap fine (simp length-append (omega arith))
    go true false = refl
    go false b = refl

many-refers : (w : Site) (i position : ℕ) (f : Fragment) (xs : List Fixup) (o : Outcome (Option Reference))
    → many (and_then o (λ r. fixup_to w i position f xs r)) ≡ and_then o (λ r. count_to i (length w.numbers) (length xs) w.place r)
many-refers w i position f xs (fine r) = many-to w i position f xs r
many-refers w i position f xs (refused n p) = refl

many-at : (w : Site) (entry position i : ℕ) (fs : List Fragment) (xs : List Fixup)
    → many (fixups_at w entry position i fs xs) ≡ counts_at w.tables (length w.numbers) entry i fs (length xs) w.place
unfolding fixups_at counts_at
many-at w entry position i [] xs = refl
many-at w entry position i (f ∷ fs) xs =
    many-then (fixup_at w entry position i f xs) (λ ys. fixups_at w entry position (suc i) fs ys) (λ j. counts_at w.tables (length w.numbers) entry (suc i) fs j w.place)
    (λ ys. many-at w entry position (suc i) fs ys)
    ∙ rw (at-refers w entry position i f xs, many-refers w i position f xs (refers_at w.tables f entry w.place))

pub many-walk : (w : Site) (size : ℕ) (fs : List Fragment) (keeps : List ℕ) (m entry position : ℕ) (xs : List Fixup)
    → many (fixups_walk w size fs keeps m entry position xs) ≡ count_walk w.tables (length w.numbers) size fs keeps m entry position (length xs) w.place
unfolding fixups_walk count_walk
many-walk w size fs keeps zero entry position xs = refl
many-walk w size fs keeps (suc m) entry position xs =
    go (ltb position size) _ _
    (many-then (fixups_at w entry position 0 fs xs) (λ ys. fixups_walk w size fs keeps m (suc entry) (position + pick (eqb (get_or keeps entry 0) 1) 1 0) ys)
    (λ j. count_walk w.tables (length w.numbers) size fs keeps m (suc entry) (position + pick (eqb (get_or keeps entry 0) 1) 1 0) j w.place)
    (λ ys. many-walk w size fs keeps m (suc entry) (position + pick (eqb (get_or keeps entry 0) 1) 1 0) ys)
    ∙ rw (many-at w entry position 0 fs xs))
  where
    go : (b : Bool) (o : Outcome (List Fixup)) (c : Outcome ℕ) → many o ≡ c → many (pick b o (fine xs)) ≡ pick b c (fine (length xs))
    go true o c h = h
    go false o c h = refl

-- ------------------------------------------------------------------ `rowed`, `pair_rows`

pub rowed-refused : {r : Result ℕ ℕ} {n : ℕ} → r ≡ Err n → ◌≡◌ {A = Result ℕ Fault} (Err (fault.Refused n)) (rowed_by r)
rowed-refused g = rw g

pub rowed-rows : {r : Result ℕ ℕ} {k : ℕ} → r ≡ Ok k → ◌≡◌ {A = Result ℕ Fault} (Ok k) (rowed_by r)
rowed-rows g = rw g

pub ruleset rowed = (rules, rowed-refused, rowed-rows)

many-refused : (o : Outcome (List Fixup)) (n p : ℕ) → many o ≡ refused n p → o ≡ refused n p
many-refused (fine ys) n p h = unlike n p (length ys) (sym h)
many-refused (refused m q) n p h = cc

verdict-refused : (o : Outcome ℕ) (n p : ℕ) → verdict o ≡ refused n p → o ≡ refused n p
verdict-refused (fine k) n p h = unlike n p 0 (sym h)
verdict-refused (refused m q) n p h = h

verdict-fine : (o : Outcome ℕ) → verdict o ≡ fine 0 → is_fine o ≡ true
verdict-fine (fine k) h = refl
verdict-fine (refused n p) h = unlike n p 0 h

-- an answer that is told fits
told-fits : (fit : Bool) {o q : Outcome ℕ} → some o ≡ pick fit (some q) none → (fit ≡ true) × (q ≡ o)
told-fits true h = (refl, cc)
told-fits false h = let z : ◌≡◌ {A = ℕ} 0 1 = cc in absurd (omega arith)

told_none : (fit : Bool) (q : Outcome ℕ) → none ≡ pick fit (some q) none → fit ≡ false
told_none true q h = let z : ◌≡◌ {A = ℕ} 0 1 = cc in absurd (omega arith)
told_none false q h = refl

-- a check that passed says that the site is within the bounds
module _ {s : at.Site} {o : ℕ → Outcome ℕ} {c : Result (Unit {0}) Fault} (a : Judged s o c) {u : Unit {0}} (g : c ≡ Ok u) where
  pub passed-ready : Ready s
  passed-ready = ready_by s (told-fits (is_ready s) (rw g at (a.says 0))).0

  pub passed-numbers : (ns : List ℕ) → 64 ≤ length ns → s.made ≤ length ns
  passed-numbers ns h = omega (arith, passed-ready.numbers)

-- `checked_rows`: c is what the check pass answered
module _ (ms es xs areas symbols ns : List ℕ) (s : at.Site) (keeps rows : List ℕ) where
  line-many : s.made ≤ length ns → (place : ℕ) → many (line_at ms es xs areas symbols ns s keeps (fixups_in rows s.filled.fixups) place) ≡ count_line ms es xs areas symbols s keeps place
  unfolding line_at count_line site_of
  line-many hn place =
      many-walk (site_of areas symbols ns s place) s.size (fragments_in ms es xs s.line.fragments) keeps (s.line.width + s.line.bytes) 0 s.line.address (fixups_in rows s.filled.fixups)
      ∙ rw (length-take-le s.made ns hn, count-rows rows s.filled.fixups)

  pub rows-unlent : length rows < 9216 → PairRows (is_ready s && leb 9216 (length rows)) (line_at ms es xs areas symbols ns s keeps (fixups_in rows s.filled.fixups)) rows (Err fault.Misfit) rows
  rows-unlent h = record {
    says = λ place. rw (lt-leb 9216 (length rows) h, and-false (is_ready s));
    few = omega arith;
    rest = refl;
    same = λ e. refl;
  }

  module _ (l : 9216 ≤ length rows) (hn : 64 ≤ length ns) {c : Result (Unit {0}) Fault} (a : Judged s (count_line ms es xs areas symbols s keeps) c) where
    room : leb 9216 (length rows) ≡ true
    room = le-leb 9216 (length rows) l

    rows-misfit : c ≡ Err fault.Misfit → PairRows (is_ready s && leb 9216 (length rows)) (line_at ms es xs areas symbols ns s keeps (fixups_in rows s.filled.fixups)) rows (Err fault.Misfit) rows
    rows-misfit g =
        let f : is_ready s ≡ false = told_none (is_ready s) _ (rw g at (a.says 0)) in
        record { says = λ place. rw f; few = omega arith; rest = refl; same = λ e. refl }

    module _ {x : ℕ} (g : c ≡ Err (fault.Refused x)) where
      refusal : (place : ℕ) → (is_ready s ≡ true) × (verdict (count_line ms es xs areas symbols s keeps place) ≡ refused x place)
      refusal place = told-fits (is_ready s) (rw g at (a.says place))

      refused-here : (place : ℕ) → line_at ms es xs areas symbols ns s keeps (fixups_in rows s.filled.fixups) place ≡ refused x place
      refused-here place =
          let r : Ready s = ready_by s (refusal place).0 in
          many-refused _ x place (line-many (omega (arith, r.numbers)) place ∙ verdict-refused _ x place (refusal place).1)

      rows-refused : PairRows (is_ready s && leb 9216 (length rows)) (line_at ms es xs areas symbols ns s keeps (fixups_in rows s.filled.fixups)) rows (Err (fault.Refused x)) rows
      rows-refused = record { says = λ place. rw ((refusal 0).0, room) (ap some (sym (refused-here place))); few = omega arith; rest = refl; same = λ e. refl }

    pub rows-fault : (f : Fault) → c ≡ Err f → PairRows (is_ready s && leb 9216 (length rows)) (line_at ms es xs areas symbols ns s keeps (fixups_in rows s.filled.fixups)) rows (Err f) rows
    rows-fault fault.Misfit g = rows-misfit g
    rows-fault (fault.Refused x) g = rows-refused g

    module _ {u : Unit {0}} (g : c ≡ Ok u) where
      passes : (place : ℕ) → (is_ready s ≡ true) × (verdict (count_line ms es xs areas symbols s keeps place) ≡ fine 0)
      passes place = told-fits (is_ready s) (rw g at (a.says place))

      -- the walk refuses nothing
      never : (x : ℕ) (left : List ℕ) → told 0 (Err x) left ≡ line_at ms es xs areas symbols ns s keeps (fixups_in rows s.filled.fixups) 0 → ⊥
      never x left p =
          let z : refused x 0 ≡ count_line ms es xs areas symbols s keeps 0 = ap many p ∙ line-many (passed-numbers a g ns hn) 0 in
          unlike x 0 0 (ap verdict z ∙ (passes 0).1)

      made_by : (r : Result ℕ ℕ) {rows' : List ℕ} → Made (line_at ms es xs areas symbols ns s keeps (fixups_in rows s.filled.fixups)) s.filled.fixups rows r rows'
          → PairRows true (line_at ms es xs areas symbols ns s keeps (fixups_in rows s.filled.fixups)) rows (rowed_by r) rows'
      made_by (Err x) {rows'} m = absurd (never x rows' (m.says 0))
      made_by (Ok k) m = record {
        says = λ place. ap some (m.says place);
        few = m.within.room;
        rest = m.within.rest;
        same = λ d. let z : ◌≡◌ {A = ℕ} 0 1 = cc in absurd (omega arith);
      }

      pub rows_made : {r : Result ℕ ℕ} {rows' : List ℕ} → Made (line_at ms es xs areas symbols ns s keeps (fixups_in rows s.filled.fixups)) s.filled.fixups rows r rows'
          → {q : Result ℕ Fault} → q ≡ rowed_by r → PairRows (is_ready s && leb 9216 (length rows)) (line_at ms es xs areas symbols ns s keeps (fixups_in rows s.filled.fixups)) rows q rows'
      rows_made {r} m eq = rw (eq, (passes 0).0, room) (made_by r m)

pub ruleset passing = (rules, rows-unlent, rows-fault, passed-ready, passed-numbers, rows_made)

-- `pair_rows`
pub rows-at : (ms es xs areas symbols ns : List ℕ) (s : at.Site) (n : ℕ) (keeps rows : List ℕ) {here : at.Site} → here ≡ made_at s n → {r : Result ℕ Fault} {rows' : List ℕ}
    → PairRows (is_ready here && leb 9216 (length rows)) (line_at ms es xs areas symbols ns here keeps (fixups_in rows here.filled.fixups)) rows r rows'
    → PairRows (is_ready (made_at s n) && leb 9216 (length rows)) (line_at ms es xs areas symbols ns (made_at s n) keeps (fixups_in rows s.filled.fixups)) rows r rows'
rows-at ms es xs areas symbols ns s n keeps rows e a = rw e at a

pub ruleset numbers = (rules, rows-at)
