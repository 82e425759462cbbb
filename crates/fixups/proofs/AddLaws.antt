-- What the proofs of one row share: 11, 12, 13, no row, or one row more.
-- Assumes nothing.
use Prim.Native.Nat.{ℕ, suc, ◌*◌, ◌≤◌, ◌<◌}
use mathlib.Core.Path.{◌≡◌, refl, sym}
use mathlib.Core.Bool.{Bool, true, false}
use mathlib.Core.List.{List, [], ◌∷◌}
use native.Mathlib.Omega.{arith}
use mir.Val.{Fits}
use mir.Syntax.{w64}
use lib.Dec.{ltb}
use lib.ListN.{length, get_or}
use lib.Seq.{sets, get_or-take}
use borrow.Author.Rules.{rules}
use borrow.Author.Tests.{ltb-true}
use Rattle.std.specs.Prelude.{Result, Ok, Err}
use Rattle.format.specs.Lists.{pick}
use Rattle.format.specs.Mode.{on_site}
use Rattle.format.specs.Outcome.{Outcome, fine, refused}
use Rattle.format.specs.Fixups.{fixup_of}
use Rattle.laws.proofs.Outcomes.{unlike}
use Rattle.grouped.proofs.Rows.{count-rows}
use Rattle.sites.specs.declared.Site.{Site}
use Rattle.references.specs.declared.Reference.{Reference}
use Rattle.references.specs.declared.Refers.{Refers}
use Rattle.references.specs.declared.Refers.TheVariants.{Missing, Nothing, To}
use Rattle.row_count.specs.Count.{count_one, OneMore}
use Rattle.fixup_row.specs.Row.{row_of}
use Rattle.fixups.specs.Walk.{fixup, Within, OneRow, Added}
use Rattle.fixups.proofs.RowLaws.{row_made, row-rest}

pub same : (k : ℕ) (rows : List ℕ) → k ≤ 1024 → Within k (Ok k) rows rows
same k rows h = record { room = h; grew = omega arith; rest = refl }

pub stopped : (k n : ℕ) (rows : List ℕ) → k ≤ 1024 → Within k (Err n) rows rows
stopped k n rows h = record { room = omega arith; grew = h; rest = refl }

-- 12 and 13 do not see the rows
refusal : {A : Type 0} (a b : Bool) (x p k : ℕ) (y : A) → refused x p ≡ pick a (pick b (fine k) (refused 13 p)) (refused 12 p)
    → ◌≡◌ {A = Outcome A} (refused x p) (pick a (pick b (fine y) (refused 13 p)) (refused 12 p))
refusal true true x p k y h = unlike x p k h
refusal true false x p k y h = let e : x ≡ 13 = cc in rw e
refusal false b x p k y h = let e : x ≡ 12 = cc in rw e

passes : (a b : Bool) (x p k : ℕ) → fine x ≡ pick a (pick b (fine k) (refused 13 p)) (refused 12 p) → ((a ≡ true) × (b ≡ true)) × (x ≡ k)
passes true true x p k h = ((refl, refl), cc)
passes true false x p k h = unlike 13 p x (sym h)
passes false b x p k h = unlike 12 p x (sym h)

-- one row behind k rows
put-made : (rows : List ℕ) (k a b c d : ℕ) (t : Reference) (i : ℕ) {rows' : List ℕ} → 9216 ≤ length rows → k < 1024
    → rows' ≡ sets rows (9 * k) (a ∷ b ∷ c ∷ d ∷ t.outside ∷ t.what ∷ t.length ∷ t.value ∷ i ∷ []) → OneRow k (fixup a b c d t i) rows rows'
put-made rows k a b c d t i l j p = record { made = row_made rows k a b c d t i l j p; rest = row-rest rows k a b c d t i l j p }

-- `write_row`: r is what the count said
module _ (s : Site) (ms ns : List ℕ) (t : Reference) (i position k : ℕ) (rows : List ℕ) {r : Result ℕ ℕ} (a : OneMore i s.made k r) where
  pub row-refused : k ≤ 1024 → {x : ℕ} → r ≡ Err x → Added s ms ns (To t) i position k rows (Err x) rows
  unfolding count_one
  row-refused hk {x} g = record {
    says = λ w f en el eh em. rw (el, count-rows rows k) (refusal (ltb i s.made) (ltb k 1024) x w.place (suc k) _ (rw g at (a.says w.place)));
    within = stopped k x rows hk;
  }

  module _ {x : ℕ} (g : r ≡ Ok x) where
    tests : ((ltb i s.made ≡ true) × (ltb k 1024 ≡ true)) × (x ≡ suc k)
    unfolding count_one
    tests = passes (ltb i s.made) (ltb k 1024) x 0 (suc k) (rw g at (a.says 0))

    pub row_room : k < 1024
    row_room = ltb-true k 1024 tests.0.1

    pub row_fits : Fits w64 (9 * k)
    row_fits = record { fits = omega (arith, row_room) }

    pub row-added : 9216 ≤ length rows → {rows' : List ℕ} → rows' ≡ sets rows (9 * k) (row_of s ms ns t i position) → Added s ms ns (To t) i position k rows (Ok x) rows'
    unfolding fixup_of row_of
    row-added l {rows'} e =
        let p : OneRow k (fixup s.id position (on_site (get_or ms i 0)) (get_or ms i 0) t (get_or ns i 0)) rows rows' =
        put-made rows k s.id position (on_site (get_or ms i 0)) (get_or ms i 0) t (get_or ns i 0) l row_room e in
        let has : i < s.made = ltb-true i s.made tests.0.0 in
        let one : x ≡ suc k = tests.1 in
        record {
          says = λ w f wn wl wh fm. rw (
            one,
            wl,
            count-rows rows k,
            tests.0.0,
            tests.0.1,
            wh,
            fm,
            wn,
            get_or-take s.made ns i 0 has,
            p.made,
          );
          within = rw one (record { room = omega (arith, row_room); grew = omega arith; rest = p.rest });
        }

pub ruleset rowing = (rules, row-refused, row_fits, row-added)

-- `add`
module _ (s : Site) (ms ns : List ℕ) (i position k : ℕ) (rows : List ℕ) {to : Refers} where
  pub add-missing : k ≤ 1024 → to ≡ Missing → Added s ms ns to i position k rows (Err 11) rows
  add-missing hk g = record { says = λ w f en el eh em. rw g; within = stopped k 11 rows hk }

  pub add_nothing : k ≤ 1024 → to ≡ Nothing → Added s ms ns to i position k rows (Ok k) rows
  add_nothing hk g = record { says = λ w f en el eh em. rw g; within = same k rows hk }

  pub add-to : {t : Reference} → to ≡ To t → {r : Result ℕ ℕ} {rows' : List ℕ} → Added s ms ns (To t) i position k rows r rows' → Added s ms ns to i position k rows r rows'
  add-to g a = rw g a

pub ruleset adding = (rules, add-missing, add_nothing, add-to)
