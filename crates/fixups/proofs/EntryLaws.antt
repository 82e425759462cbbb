-- What the proofs of an entry's rows share: a law for each return, and the loop's invariant.
-- Assumes nothing.
use Prim.Native.Nat.{ℕ, suc, ◌+◌, ◌-◌, ◌*◌, ◌≤◌, ◌<◌}
use mathlib.Core.Path.{◌≡◌, refl, sym, ap, ◌∙◌}
use mathlib.Core.Bool.{Bool, true, false, ◌&&◌}
use mathlib.Core.List.{List}
use mathlib.Core.Option.{none}
use native.Mathlib.Numerals.{add-one}
use native.Mathlib.Omega.{arith}
use lib.Dec.{eqb}
use lib.ListN.{length, drop}
use lib.Seq.{drop-drop, length-take-le}
use borrow.Author.Rules.{rules}
use Rattle.std.specs.Prelude.{Result, Ok, Err}
use Rattle.format.specs.Lists.{pick}
use Rattle.format.specs.Pairs.{Fragment}
use Rattle.format.specs.Mode.{gives}
use Rattle.format.specs.Outcome.{fine, and_then}
use Rattle.format.specs.Fixups.{Fixup, fixup_to, fixup_at, fixups_at, reference}
use Rattle.format.specs.Fixups as defs
use Rattle.laws.specs.Rows.{from, fixups_in}
use Rattle.sites.specs.declared.Site.{Site}
use Rattle.sites.specs.Columns.{fragment_at, fragments_in}
use Rattle.references.specs.declared.Refers.{Refers}
use Rattle.references.specs.References as ref
use Rattle.references.specs.References.{refers_at, refers_in}
use Rattle.row_count.specs.Count.{used_by}
use Rattle.fixups.specs.Next.{Clear}
use Rattle.fixups.specs.Walk.{site_of, entry_at, told, Within, Added, Made}
use Rattle.fixups.proofs.AddLaws.{same}
use Rattle.fixups.proofs.NextLaws.{none_here}

further : (xs ys : List ℕ) (a b : ℕ) → a ≤ b → drop a xs ≡ drop a ys → drop b xs ≡ drop b ys
further xs ys a b h e =
    let z : b ≡ a + (b - a) = omega arith in
    ap (λ (n : ℕ). drop n xs) z ∙ (sym (drop-drop (b - a) a xs) ∙ (ap (λ (l : List ℕ). drop (b - a) l) e ∙ (drop-drop (b - a) a ys ∙ ap (λ (n : ℕ). drop n ys) (sym z))))

pub then-within : {k j : ℕ} {r : Result ℕ ℕ} {rows rows' rows'' : List ℕ} → Within k (Ok j) rows rows' → Within j r rows' rows'' → Within k r rows rows''
then-within {k} {j} {r} {rows} {rows'} a b = record {
  room = b.room;
  grew = omega (arith, a.grew, b.grew);
  rest = b.rest ∙ further rows' rows (9 * j) (9 * used_by r) (omega (arith, b.grew)) a.rest;
}

-- a fragment of the definition: what it refers to at the entry, then its row
pub at-refers : (w : defs.Site) (entry position i : ℕ) (f : Fragment) (xs : List Fixup)
    → fixup_at w entry position i f xs ≡ and_then (refers_at w.tables f entry w.place) (λ x. fixup_to w i position f xs x)
unfolding fixup_at refers_at
at-refers w entry position i f xs = go (eqb f.entry entry && gives f.mode)
  where
    go : (b : Bool) → pick b (and_then (reference w.tables w.place f) (λ r. fixup_to w i position f xs r)) (fine xs)
        ≡ and_then (pick b (reference w.tables w.place f) (fine none)) (λ x. fixup_to w i position f xs x)
    go true = refl
    go false = refl

pub record Fixing (ms es xs areas symbols ns : List ℕ) (s : Site) (entry position k : ℕ) (rows left : List ℕ) (j i : ℕ) : Type 0 where
  pub inside : i ≤ s.line.fragments
  pub rest : (place : ℕ) → entry_at ms es xs areas symbols ns s entry position (fixups_in rows k) place
      ≡ fixups_at (site_of areas symbols ns s place) entry position i (from (fragment_at ms es xs) i (s.line.fragments - i)) (fixups_in left j)
  pub within : Within k (Ok j) rows left
  pub long : length left ≡ length rows
  pub numbers : s.made ≤ length ns

pub fix-start : (ms es xs areas symbols ns : List ℕ) (s : Site) (entry position k : ℕ) (rows : List ℕ) → k ≤ 1024 → s.made ≤ length ns
    → Fixing ms es xs areas symbols ns s entry position k rows rows k 0
unfolding entry_at fragments_in
fix-start ms es xs areas symbols ns s entry position k rows hk hn = record {
  inside = omega arith;
  rest = λ place. let z : s.line.fragments - 0 ≡ s.line.fragments = omega arith in rw z;
  within = same k rows hk;
  long = refl;
  numbers = hn;
}

module _ {ms es xs areas symbols ns : List ℕ} {s : Site} {entry position k : ℕ} {rows left : List ℕ} {j i : ℕ}
    (w : Fixing ms es xs areas symbols ns s entry position k rows left j i) where
  pub fix-end : s.line.fragments ≤ i → Made (entry_at ms es xs areas symbols ns s entry position (fixups_in rows k)) k rows (Ok j) left
  unfolding fixups_at from
  fix-end h = record { says = λ place. let z : s.line.fragments - i ≡ 0 = omega arith in sym (w.rest place ∙ rw z); within = w.within }

  pub fix-room : j ≤ 1024
  fix-room = w.within.room

  pub fix-long : 9216 ≤ length rows → 9216 ≤ length left
  fix-long h = omega (arith, w.long)

  module _ (h : i < s.line.fragments) (to : Refers) (a : (place : ℕ) → ref.told place to ≡ refers_in areas symbols s.filled (fragment_at ms es xs i) entry place)
      {r : Result ℕ ℕ} {left' : List ℕ} (b : Added s ms ns to i position j left r left') where
    one : (place : ℕ) → fixup_at (site_of areas symbols ns s place) entry position i (fragment_at ms es xs i) (fixups_in left j) ≡ told place r left'
    unfolding site_of refers_in fragment_at
    one place =
        at-refers (site_of areas symbols ns s place) entry position i (fragment_at ms es xs i) (fixups_in left j)
        ∙ rw (← a place) (sym (b.says (site_of areas symbols ns s place) (fragment_at ms es xs i) refl (length-take-le s.made ns w.numbers) refl refl))

    next : (place : ℕ) → entry_at ms es xs areas symbols ns s entry position (fixups_in rows k) place
        ≡ and_then (told place r left') (λ ys. fixups_at (site_of areas symbols ns s place) entry position (suc i) (from (fragment_at ms es xs) (suc i) (s.line.fragments - suc i)) ys)
    unfolding fixups_at from
    next place =
        let z : s.line.fragments - i ≡ suc (s.line.fragments - suc i) = omega arith in
        w.rest place ∙ (ap (λ (n : ℕ). fixups_at (site_of areas symbols ns s place) entry position i (from (fragment_at ms es xs) i n) (fixups_in left j)) z ∙ rw (one place))

    pub fix-stop : {x : ℕ} → r ≡ Err x → Made (entry_at ms es xs areas symbols ns s entry position (fixups_in rows k)) k rows (Err x) left'
    fix-stop g = record { says = λ place. sym (rw g at (next place)); within = rw g at (then-within w.within b.within) }

    pub fix-more : {x : ℕ} → r ≡ Ok x → length left' ≡ length left → Fixing ms es xs areas symbols ns s entry position k rows left' x (i + 1)
    fix-more g l = record {
      inside = omega arith;
      rest = λ place. rw add-one (rw g at (next place));
      within = rw g at (then-within w.within b.within);
      long = l ∙ w.long;
      numbers = w.numbers;
    }

pub ruleset entries = (rules, fix-start, fix-end, fix-room, fix-long, fix-stop, fix-more)

-- `entry_rows`: nothing to do below the next entry at which a fragment can give a fixup
pub entry-none : (ms es xs areas symbols ns : List ℕ) (s : Site) (entry position k : ℕ) (rows : List ℕ) {t : ℕ} → Clear ms es s.line.fragments entry t → entry < t → k ≤ 1024
    → Made (entry_at ms es xs areas symbols ns s entry position (fixups_in rows k)) k rows (Ok k) rows
unfolding entry_at
entry-none ms es xs areas symbols ns s entry position k rows n h hk = record {
  says = λ place. sym (none_here (site_of areas symbols ns s place) entry position ms es xs s.line.fragments (fixups_in rows k) n h);
  within = same k rows hk;
}

pub ruleset between = (rules, entry-none)
