-- The walk through group one: the loop to the first line that tells, and the loop to the end of the group.
-- Assumes nothing.
use Prim.Native.Nat.{ℕ, ◌-◌, ◌<◌, ◌≤◌}
use mathlib.Core.Path.{◌≡◌, refl, sym, ap, ◌∙◌}
use mathlib.Core.Bool.{true}
use mathlib.Core.List.{List, []}
use mathlib.Core.Option.{none, some}
use native.Mathlib.Omega.{arith}
use lib.ListN.{length, drop_of_length-le}
use borrow.Author.Rules.{rules}
use Rattle.format.specs.Lines.{lines, lines_of}
use Rattle.format.specs.Number.{past}
use Rattle.format.specs.Header.{Form}
use Rattle.format.specs.Entries.{Entry}
use Rattle.format.specs.Records.{Step, Taken, goes, last, records, stops}
use Rattle.laws.specs.Places.{end_at, entry_at, line_end, next_line, records_at}
use Rattle.laws.proofs.Places.{records-at}
use Rattle.cut.proofs.Steps.{entry-goes, entry-no-last}
use Rattle.counts.specs.Counts.{first_told, tells_at, told_from}
use Rattle.counts.proofs.Counts.{Walking, walk_end, walk_more, walk_start, walk-told}
use Rattle.h_line.specs.Told.{told_two, two_of}
use Rattle.counts_of.specs.Told.{end_after, group_one_end, told_end}
use Rattle.std.specs.Prelude.{Some, None}
use Rattle.std.specs.Prelude as std
use Rattle.h_line.specs.declared.Told.{Told}

-- no records are left behind the text
no-records : (f : Form) (text : List ℕ) (p : ℕ) → length text ≤ p → (records_at true f text p).entries ≡ []
unfolding records_at lines_of lines records
no-records f text p h = rw (drop_of_length-le text h)

-- a step that goes on, with where it does
record Went (s : Step Entry) (n : ℕ) : Type 0 where
  taken : Taken Entry
  is-taken : s ≡ goes taken
  ends : n ≡ taken.end

went : (s : Step Entry) (n : ℕ) → some n ≡ end_after s → Went s n
went stops n h = let z : ◌≡◌ {A = ℕ} 0 1 = cc in let y : ⊥ = omega arith in absurd y
went (last t) n h = let z : ◌≡◌ {A = ℕ} 0 1 = cc in let y : ⊥ = omega arith in absurd y
went (goes t) n h = record { taken = t; is-taken = refl; ends = cc }

module _ (f : Form) (text : List ℕ) (p : ℕ) {r : std.Option ℕ} (e : told_end r ≡ end_after (entry_at true f text p)) where
  goes_on : {n : ℕ} → r ≡ Some n → Went (entry_at true f text p) n
  goes_on {n} g = went (entry_at true f text p) n (rw g at e)

  goes_to : {n : ℕ} → r ≡ Some n → (n ≡ next_line text p) × (1 ≤ end_at text p)
  goes_to g =
      let k = goes_on g in
      let m = entry-goes f text p k.taken k.is-taken in
      (k.ends ∙ m.1, m.2)

  stops-here : r ≡ None → entry_at true f text p ≡ stops
  stops-here g = go (entry_at true f text p) refl (rw g at e)
    where
      go : (s : Step Entry) → entry_at true f text p ≡ s → none ≡ end_after s → s ≡ stops
      go stops m h = refl
      go (last t) m h = absurd (entry-no-last f text p t m)
      go (goes t) m h = let z : ◌≡◌ {A = ℕ} 0 1 = cc in let y : ⊥ = omega arith in absurd y

  -- a line that is taken has bytes, so less is left behind it
  further : {n : ℕ} → r ≡ Some n → p < n
  unfolding next_line line_end past
  further g = let k = goes_to g in omega (arith, k.0, k.1)

  pub less-left : {n : ℕ} → r ≡ Some n → p < length text → length text - n < length text - p
  less-left g h = omega (arith, further g)

  -- `first_told`
  module _ {p₀ : ℕ} (w : Walking f text p₀ p) where
    pub told-stop : r ≡ None → none ≡ told_from f text p₀
    told-stop g = sym (walk_end f text w (stops-here g))

    module _ {n : ℕ} (g : r ≡ Some n) {d : std.Option Told} (i : told_two d ≡ tells_at f.radix text p) where
      pub told-found : {a : Told} → d ≡ Some a → some (two_of a.areas a.symbols) ≡ told_from f text p₀
      told-found {a} h =
          let k = goes_on g in
          let t : tells_at f.radix text p ≡ some (two_of a.areas a.symbols) = sym i ∙ rw h in
          sym (walk-told f text w k.taken k.is-taken (two_of a.areas a.symbols) t)

      pub told_more : d ≡ None → Walking f text p₀ n
      told_more h =
          let k = goes_on g in
          let t : tells_at f.radix text p ≡ none = sym i ∙ rw h in
          rw (goes_to g).0 (walk_more f text w k.taken k.is-taken t)

pub told-out : (f : Form) (text : List ℕ) {p₀ p : ℕ} → Walking f text p₀ p → length text ≤ p → none ≡ told_from f text p₀
unfolding told_from first_told
told-out f text {p₀} {p} w h = sym (w.same ∙ rw (no-records f text p h))

-- `group_one_end`: the group that began at p₀ ends where the one from p on ends
pub record Ends (f : Form) (text : List ℕ) (p₀ p : ℕ) : Type 0 where
  pub same : group_one_end f text p₀ ≡ group_one_end f text p

pub ends-start : (f : Form) (text : List ℕ) (p : ℕ) → Ends f text p p
ends-start f text p = record { same = refl }

one_more : (f : Form) (text : List ℕ) (p : ℕ) (t : Taken Entry) → entry_at true f text p ≡ goes t → group_one_end f text p ≡ group_one_end f text (next_line text p)
unfolding group_one_end
one_more f text p t m = rw (records-at true f text p, m, (entry-goes f text p t m).1)

module _ (f : Form) (text : List ℕ) {p₀ p : ℕ} (w : Ends f text p₀ p) where
  pub ends-out : length text ≤ p → p ≡ group_one_end f text p₀
  unfolding group_one_end
  ends-out h = sym (w.same ∙ rw (no-records f text p h))

  module _ {r : std.Option ℕ} (e : told_end r ≡ end_after (entry_at true f text p)) where
    pub ends-stop : r ≡ None → p ≡ group_one_end f text p₀
    unfolding group_one_end
    ends-stop g = sym (w.same ∙ rw (records-at true f text p, stops-here f text p e g))

    pub ends_more : {n : ℕ} → r ≡ Some n → Ends f text p₀ n
    ends_more g =
        let k = goes_on f text p e g in
        record { same = w.same ∙ one_more f text p k.taken k.is-taken ∙ ap (group_one_end f text) (sym (goes_to f text p e g).0) }

pub ruleset walks = (rules, walk_start, less-left, told-stop, told-found, told_more, told-out)

pub ruleset endings = (rules, ends-start, less-left, ends-out, ends-stop, ends_more)
