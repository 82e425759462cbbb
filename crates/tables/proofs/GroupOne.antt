-- The loop of group one: reading the rest of the lines from here, with the tables so far, gives what the whole gives.
-- Assumes nothing.
use Prim.Native.Nat.{ℕ, ◌-◌, ◌<◌, ◌≤◌}
use mathlib.Core.Path.{◌≡◌, refl, ap, sym, subst, ◌∙◌}
use mathlib.Core.Bool.{Bool, true, false, not}
use mathlib.Core.List.{List, [], ◌∷◌, map}
use native.Mathlib.Omega.{arith}
use lib.ListN.{length}
use lib.Seq.{sets}
use borrow.Author.Rules.{rules}
use Rattle.format.specs.Lists.{pick, flat}
use Rattle.format.specs.Header.{Form}
use Rattle.format.specs.Outcome.{refused, fold}
use Rattle.format.specs.Records.{stops, last, goes, Taken, Records, ends, last_of}
use Rattle.format.specs.Tables.{Area, Tables, add_body_of, add_entry, tables}
use Rattle.format.specs.Rows.{area_numbers, symbol_numbers}
use Rattle.format.specs.Entries as entries
use Rattle.format.specs.Pairs as pairs
use Rattle.laws.specs.Places.{next_line, entry_at, records_at, pairs_at}
use Rattle.laws.proofs.Places.{records-at}
use Rattle.scan.proofs.Laws.Tests.{was-no, was-yes}
use Rattle.entry_line.specs.Told.{entry_of}
use Rattle.entry_line.specs.declared.Entry.{Entry}
use Rattle.entry_line.specs.declared.Entry.TheVariants as of
use Rattle.steps.specs.Entries.{told_step, StepBounds, StepIn, EntryFits, Placed}
use Rattle.one_entry.specs.Adds.{Adds}
use Rattle.tables.specs.GroupOne.{Hold, as_far, no_tables, lines_on, all_go, entry_ends, found_of, Grouped}
use Rattle.steps.specs.declared.entry.EntryStep.{EntryStep}
use Rattle.steps.specs.declared.entry.EntryStep.TheVariants.{Stops, Takes}
use Rattle.one_entry.specs.declared.Rows.{Rows}
use Rattle.one_entry.specs.declared.Full.{Full}
use Rattle.std.specs.Prelude.{Result, Ok, Err}
use Rattle.tables.specs.declared.group.Found.{Found}
use Rattle.tables.specs.declared.group.Listed.TheVariants.{Done, Refused, TooLong}
use Rattle.tables.proofs.Growth.{Grown, grown, filled, kept-areas, kept-symbols}

-- ------------------------------------------------------------------ the loop

pub record Rest (ended : Bool) (f : Form) (text : List ℕ) (at head : ℕ) (xs₀ ys₀ xs ys : List ℕ) (found : Found) : Type 0 where
  pub sofar : Tables
  pub entries : tables (records_at ended f text at).entries ≡ fold add_entry sofar (records_at ended f text found.next).entries
  pub two : (records_at ended f text at).pairs ≡ (records_at ended f text found.next).pairs
  pub stop : last_of head (ends (records_at ended f text at)) ≡ last_of found.stop (ends (records_at ended f text found.next))
  pub held : Hold sofar xs₀ ys₀ xs ys found.areas found.symbols
  pub far : as_far no_tables (records_at ended f text at).entries ≡ as_far sofar (records_at ended f text found.next).entries
  pub next-rest : lines_on text (length (records_at ended f text at).entries) at ≡ lines_on text (length (records_at ended f text found.next).entries) found.next
  pub more-rest : all_go ended f text (length (records_at ended f text at).entries) at ≡ all_go ended f text (length (records_at ended f text found.next).entries) found.next
  pub stop-rest : last_of head (entry_ends (records_at ended f text at).entries) ≡ last_of found.stop (entry_ends (records_at ended f text found.next).entries)
  pub inside : at ≤ length text → found.next ≤ length text
  pub areas-low : found.areas ≤ 64
  pub symbols-low : found.symbols ≤ 1024
  pub more : found.more ≡ true

pub rest-start : (ended : Bool) (f : Form) (text : List ℕ) (at head : ℕ) (xs ys : List ℕ) → {o : Found} → o ≡ found_of 0 0 at head true
    → Rest ended f text at head xs ys xs ys o
unfolding tables flat
rest-start ended f text at head xs ys e = rw e (record {
  sofar = record { areas = []; symbols = [] };
  entries = refl;
  two = refl;
  stop = refl;
  held = record { areas = refl; symbols = refl; area-count = refl; symbol-count = refl };
  far = refl;
  next-rest = refl;
  more-rest = refl;
  stop-rest = refl;
  inside = λ h. h;
  areas-low = omega arith;
  symbols-low = omega arith;
  more = refl;
})

module _ (ended : Bool) (f : Form) (text : List ℕ) (p : ℕ) where
  -- the records at p, by what the line there does
  at_stops : stops ≡ entry_at ended f text p → records_at ended f text p ≡ record { entries = []; pairs = pairs_at ended f text p }
  at_stops e = records-at ended f text p ∙ rw (← e)

  at_last : (x : Taken entries.Entry) → last x ≡ entry_at ended f text p → records_at ended f text p ≡ record { entries = x ∷ []; pairs = [] }
  at_last x e = records-at ended f text p ∙ rw (← e)

  at_goes : (x : Taken entries.Entry) (next : ℕ) → goes x ≡ entry_at ended f text p → next ≡ next_line text p
      → records_at ended f text p ≡ record { entries = x ∷ (records_at ended f text next).entries; pairs = (records_at ended f text next).pairs }
  at_goes x next e n = records-at ended f text p ∙ rw (← e, ← n)

to-all : (n p : ℕ) (en : Entry) → Placed n p en → n ≤ 65536 → Placed 65536 p en
to-all n p en w h = record { fits = go en w.fits }
  where
    go : (e : Entry) → EntryFits n p e → EntryFits 65536 p e
    go (of.Area a k z g x) v = omega arith
    go (of.Symbol a k r y) v = omega arith
    go of.Ignored v = omega arith

-- what is known of a step
module _ {text : List ℕ} {p : ℕ} {st : EntryStep} (l : StepIn text p st) {en : Entry} {x next : ℕ} {on : Bool} (g : st ≡ Takes en x next on) where
  step-all : StepBounds text p (Takes en x next on)
  step-all = rw g at l.bounds

  step-placed : length text ≤ 65536 → Placed 65536 p en
  step-placed h = to-all (length text) p en step-all.0 h

module _ {ended : Bool} {f : Form} {text : List ℕ} {at head : ℕ} {xs₀ ys₀ xs ys : List ℕ} {o : Found} (w : Rest ended f text at head xs₀ ys₀ xs ys o)
    {st : EntryStep} (e : told_step o.next st ≡ entry_at ended f text o.next) where
  pub rest-stops : length text ≤ 65536 → st ≡ Stops → Grouped ended f text at head xs₀ ys₀ xs ys (Done o)
  unfolding Grouped fold ends lines_on all_go
  rest-stops s g =
      let p = o.next in
      let r = at_stops ended f text p (rw g at e) in
      let two : (records_at ended f text at).pairs ≡ pairs_at ended f text p = w.two ∙ ap (λ (x : Records). x.pairs) r in
      record {
        short = s;
        next-is = w.next-rest ∙ ap (λ (x : Records). lines_on text (length x.entries) p) r;
        more-is = w.more-rest ∙ (ap (λ (x : Records). all_go ended f text (length x.entries) p) r ∙ sym w.more);
        stop_is = w.stop-rest ∙ ap (λ (x : Records). last_of o.stop (entry_ends x.entries)) r;
        sofar = w.sofar;
        entries = w.entries ∙ ap (λ (x : Records). fold add_entry w.sofar x.entries) r;
        two = two ∙ ap (λ (b : Bool). pick b (pairs_at ended f text p) []) (sym w.more);
        stop = w.stop ∙ (ap (λ (x : Records). last_of o.stop (ends x)) r ∙ ap (λ (l : List (Taken pairs.Pair)). last_of o.stop (map (λ (t : Taken pairs.Pair). t.end) l)) (sym two));
        held = w.held;
        inside = w.inside;
        areas-low = w.areas-low;
        symbols-low = w.symbols-low;
      }

  module _ {en : Entry} {x next : ℕ} {on : Bool} (g : st ≡ Takes en x next on) (l : StepIn text o.next st)
      {r : Result Rows Full} {xs' ys' : List ℕ} (d : Adds en o.next o.areas o.symbols xs ys r xs' ys') where
    behind : next ≡ next_line text o.next
    behind = (step-all l g).1

    pub rest-full : length text ≤ 65536 → {z : Full} → r ≡ Err z → Grouped ended f text at head xs₀ ys₀ xs' ys' (Refused z.number o.next)
    unfolding Grouped fold add_entry as_far
    rest-full s {z} h = record {
      short = s;
      says = w.entries ∙ here (λ (es : List (Taken entries.Entry)). fold add_entry w.sofar es ≡ refused z.number o.next) refuses;
      areas = kept-areas w.sofar o.next w.held en d h ∙ (w.held.areas ∙ ap (λ (t : Tables). sets xs₀ 0 (flat (area_numbers 0) t.areas)) (sym far));
      symbols = kept-symbols w.sofar o.next w.held en d h ∙ (w.held.symbols ∙ ap (λ (t : Tables). sets ys₀ 0 (flat symbol_numbers t.symbols)) (sym far));
    }
      where
        n : ℕ
        n = z.number

        no : add_body_of w.sofar o.next (entry_of en) ≡ refused n o.next
        no = filled w.sofar o.next w.held en d h

        -- what holds of a first entry and any others holds here
        here : (P : List (Taken entries.Entry) → Type 0) → ((x : ℕ) (rest : List (Taken entries.Entry)) → P (record { place = o.next; end = x; body = entry_of en } ∷ rest)) → P (records_at ended f text o.next).entries
        here P k = go on (rw g at e)
          where
            go : (b : Bool) → told_step o.next (Takes en x next b) ≡ entry_at ended f text o.next → P (records_at ended f text o.next).entries
            go true v = subst (λ (y : Records). P y.entries) (sym (at_goes ended f text o.next _ next v behind)) (k x _)
            go false v = subst (λ (y : Records). P y.entries) (sym (at_last ended f text o.next _ v)) (k x _)

        refuses : (x : ℕ) (rest : List (Taken entries.Entry)) → fold add_entry w.sofar (record { place = o.next; end = x; body = entry_of en } ∷ rest) ≡ refused n o.next
        refuses x rest = rw no

        stays : (x : ℕ) (rest : List (Taken entries.Entry)) → as_far w.sofar (record { place = o.next; end = x; body = entry_of en } ∷ rest) ≡ w.sofar
        stays x rest = rw no

        far : as_far no_tables (records_at ended f text at).entries ≡ w.sofar
        far = w.far ∙ here (λ (es : List (Taken entries.Entry)). as_far w.sofar es ≡ w.sofar) stays

    module _ {z : Rows} (h : r ≡ Ok z) (s : length text ≤ 65536) where
      gr : Grown w.sofar o.next w.held en xs' ys' z.areas z.symbols
      gr = grown w.sofar o.next w.held en (step-placed l g s) w.areas-low d h

      pub rest-last : {d : Found} → d ≡ found_of z.areas z.symbols next x on → not on ≡ true → Grouped ended f text at head xs₀ ys₀ xs' ys' (Done d)
      unfolding Grouped fold add_entry ends lines_on all_go
      rest-last c i = rw c (
          let p = o.next in
          let b : on ≡ false = was-no on i in
          let k : told_step p (Takes en x next false) ≡ entry_at ended f text p = rw (g, b) at e in
          let q = at_last ended f text p (record { place = p; end = x; body = entry_of en }) k in
          let two : (records_at ended f text at).pairs ≡ [] = w.two ∙ ap (λ (y : Records). y.pairs) q in
          record {
            short = s;
            next-is = w.next-rest ∙ (ap (λ (y : Records). lines_on text (length y.entries) p) q ∙ sym behind);
            more-is = w.more-rest ∙ (ap (λ (y : Records). all_go ended f text (length y.entries) p) q ∙ rw (← k, b));
            stop_is = w.stop-rest ∙ ap (λ (y : Records). last_of o.stop (entry_ends y.entries)) q;
            sofar = gr.after;
            entries = w.entries ∙ (ap (λ (y : Records). fold add_entry w.sofar y.entries) q ∙ rw gr.adds);
            two = two ∙ ap (λ (c : Bool). pick c (pairs_at ended f text next) []) (sym b);
            stop = w.stop ∙ (ap (λ (y : Records). last_of o.stop (ends y)) q ∙ ap (λ (z : List (Taken pairs.Pair)). last_of x (map (λ (t : Taken pairs.Pair). t.end) z)) (sym two));
            held = gr.holds;
            inside = λ _. (step-all l g).2;
            areas-low = gr.areas-low w.areas-low;
            symbols-low = gr.symbols-low w.symbols-low;
          })

      pub rest_goes : {d : Found} → d ≡ found_of z.areas z.symbols next x on → not on ≡ false → Rest ended f text at head xs₀ ys₀ xs' ys' d
      unfolding fold add_entry ends lines_on all_go as_far
      rest_goes c i = rw c (
          let p = o.next in
          let b : on ≡ true = was-yes on i in
          let k : told_step p (Takes en x next true) ≡ entry_at ended f text p = rw (g, b) at e in
          let q = at_goes ended f text p (record { place = p; end = x; body = entry_of en }) next k behind in
          record {
            sofar = gr.after;
            entries = w.entries ∙ (ap (λ (y : Records). fold add_entry w.sofar y.entries) q ∙ rw gr.adds);
            two = w.two ∙ ap (λ (y : Records). y.pairs) q;
            far = w.far ∙ (ap (λ (y : Records). as_far w.sofar y.entries) q ∙ rw gr.adds);
            next-rest = w.next-rest ∙ (ap (λ (y : Records). lines_on text (length y.entries) p) q ∙ ap (λ (z : ℕ). lines_on text (length (records_at ended f text next).entries) z) (sym behind));
            more-rest = w.more-rest ∙ (ap (λ (y : Records). all_go ended f text (length y.entries) p) q ∙ rw (← k) (ap (λ (z : ℕ). all_go ended f text (length (records_at ended f text next).entries) z) (sym behind)));
            stop-rest = w.stop-rest ∙ ap (λ (y : Records). last_of o.stop (entry_ends y.entries)) q;
            stop = w.stop ∙ ap (λ (y : Records). last_of o.stop (ends y)) q;
            held = gr.holds;
            inside = λ _. (step-all l g).2;
            areas-low = gr.areas-low w.areas-low;
            symbols-low = gr.symbols-low w.symbols-low;
            more = b;
          })

  pub rest-less : {en : Entry} {x next : ℕ} {on : Bool} → st ≡ Takes en x next on → StepIn text o.next st → {m n : ℕ} {d : Found} → d ≡ found_of m n next x on → not on ≡ false
      → length text - d.next < length text - o.next
  rest-less {en} {x} {next} {on} g l c i = let b : on ≡ true = was-yes on i in rw c (omega (arith, (step-all l g).2, (step-all l g).3 b))

-- a text that is too long
pub too_long : (ended : Bool) (f : Form) (text : List ℕ) (at head : ℕ) (xs ys : List ℕ) → 65536 < length text → Grouped ended f text at head xs ys xs ys TooLong
unfolding Grouped
too_long ended f text at head xs ys h = (h, refl, refl)

pub ruleset grouping = (rules, rest-start, rest-stops, rest-full, rest-last, rest_goes, rest-less, too_long)
