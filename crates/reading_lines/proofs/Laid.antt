-- The laws of both groups together: the first state of group two, and what is laid over the lent buffers.
-- Assumes nothing.
use Prim.Native.Nat.{ℕ, zero, suc, ◌+◌, ◌*◌, ◌-◌, ◌<◌, ◌≤◌}
use mathlib.Core.Path.{◌≡◌, refl, ap, sym, subst, ◌∙◌}
use mathlib.Core.Bool.{Bool, true, false, not}
use mathlib.Core.List.{List, [], ◌∷◌, ◌++◌}
use native.Mathlib.Omega.{arith}
use lib.ListN.{length, take, drop, length-take, replicate, length-replicate}
use lib.Seq.{sets, take-append_seam, take_at, length-take-le}
use lib.Dec.{leb, ltb}
use borrow.Author.Rules.{rules}
use borrow.Author.Tests.{lt-ltb, le-ltb, le-leb, lt-leb, eq-eqb, ne_eqb, ltb-true, ltb-false}
use Rattle.format.specs.Lists.{pick, over, flat}
use Rattle.format.specs.Header.{Form}
use Rattle.format.specs.Pairs as the
use Rattle.format.specs.Outcome.{Outcome, fine, refused, and_then, fold}
use Rattle.format.specs.Records.{Taken, last_of, ends, stop}
use Rattle.format.specs.Tables.{Area, Tables, kept_count, total, fits, counted, room, tables}
use Rattle.format.specs.Placing.{State, place_pair, placing}
use Rattle.format.specs.Rows.{area_numbers, area_table, symbol_numbers}
use Rattle.laws.proofs.Known.{nothing_known, table-length}
use Rattle.place.specs.Kept as known
use Rattle.format.specs.Reading as paper
use Rattle.format.specs.Held.{Held}
use Rattle.laws.specs.Places.{records_at, pairs_at}
use Rattle.laws.specs.Rows.{from, areas_in, tables_in, fixup_row, fixups_in, state_of}
use Rattle.grouped.specs.Group.{areas_for}
use Rattle.layout.specs.Out.{TablesOut, ImagesOut}
use Rattle.layout.proofs.Laws.{fixups-laid, areas-laid, symbols-laid}
use Rattle.homes.specs.Home.{no_home, home_at}
use Rattle.homes.proofs.Laws.{home-past}
use Rattle.scan.proofs.Laws.Tests.{was-no, was-yes}
use Rattle.answer.specs.Answer.{AcceptedIs, held, told_counts, verdict_at}
use Rattle.way_in.specs.WayIn.{Rooms}
use Rattle.tables.specs.GroupOne.{Hold, Read, Refuses, Grouped}
use Rattle.turns.specs.Turns.{ending_of}
use Rattle.group_start.specs.Start.{going_at, starting_of}
use Rattle.reading_lines.specs.Onward.{Ended, ends_of, onward, onward_at, told_two, GroupedTwo, Carried, Ready}
use Rattle.reading_lines.proofs.Carrying.{carried_none}
use Rattle.reading_lines.specs.Laid.{Begun, Blank, pairs_from, onward_from, SecondIs, Whole, whole_of, whole_at, whole_lines, Laid, counts_from, answer_two, RestIs}
use Rattle.answer.specs.Answer as code
use Rattle.answer.specs.Answer.{refusal}
use Rattle.answer.specs.declared.Verdict.TheVariants.{Finished, Stopped}
use Rattle.answer.specs.declared.Counts.{Counts}
use Rattle.kept_sizes.specs.declared.Sizes.{Sizes}
use Rattle.tables.specs.declared.group.Found.{Found}
use Rattle.tables.specs.declared.group.Listed.{Listed}
use Rattle.tables.specs.declared.group.Listed.TheVariants.{Done, Refused, TooLong}
use Rattle.turns.specs.declared.Standing.TheVariants.{Made, Barred}
use Rattle.turns.specs.declared.Progress.{Progress}
use Rattle.turns.specs.declared.Paired.{Paired}
use Rattle.turns.specs.declared.Paired.TheVariants.{All, Rejected}
use Rattle.steps.proofs.Stored.{laid}
use Rattle.kept_sizes.specs.Sizes.{SizesAre, few}
use Rattle.kept_sizes.proofs.KeptSizes.{sizes-all}
use Rattle.tables.proofs.Growth.{flat-length, seven-numbers, five-numbers}
use Rattle.reading_lines.proofs.GroupTwo.{onward-end, few-end}
use Rattle.tables.proofs.TableRows.{areas-held, tables-held}

-- ------------------------------------------------------------------ small answers

pub two-rejected : {o : Paired} {n p : ℕ} → o ≡ Rejected n p → refusal n p ≡ answer_two o
two-rejected e = rw e

pub two-all : {o : Paired} {n e k : ℕ} → o ≡ All n e k → refusal 0 0 ≡ answer_two o
two-all e = rw e

pub ruleset answers = (rules, two-rejected, two-all)

-- ------------------------------------------------------------------ rows out

-- rows laid over a buffer, and rows taken out of an array
over-is : (rows old : List ℕ) → length rows ≤ length old → sets old 0 rows ≡ over rows old
unfolding over
over-is rows old h = laid rows old h

copied : (rows array xs old old' : List ℕ) (n : ℕ) → xs ≡ sets array 0 rows → n ≡ length rows → length rows ≤ length array → length rows ≤ length old → old' ≡ sets old 0 (take n xs) → old' ≡ over rows old
copied rows array xs old old' n a b c d e =
    let f : take n (rows ++ drop (length rows) array) ≡ rows = rw b (take-append_seam rows (drop (length rows) array)) in
    rw (e, a, laid rows array c, f) (over-is rows old d)

pictured : (vs old old' : List ℕ) (n : ℕ) → n ≤ length old → old' ≡ sets old 0 (take n vs) → old' ≡ over (take n vs) old
pictured vs old old' n h e = e ∙ over-is (take n vs) old (simp length-take (omega arith))

rows-counted : (rows : List ℕ) (i n : ℕ) → length (from (fixup_row rows) i n) ≡ n
unfolding from
rows-counted rows i zero = refl
rows-counted rows i (suc n) = ap suc (rows-counted rows (suc i) n)

zeros-taken : (n m : ℕ) → n ≤ m → ◌≡◌ {A = List ℕ} (take n (replicate m 0)) (replicate n 0)
zeros-taken zero m h = refl
zeros-taken (suc n) zero h = absurd (omega arith)
zeros-taken (suc n) (suc m) h = ap (λ (l : List ℕ). 0 ∷ l) (zeros-taken n m (omega arith))

pub zeros-448 : length {A = ℕ} (replicate 448 0) ≡ 448
zeros-448 = length-replicate {A = ℕ} 448 0

pub zeros-5120 : length {A = ℕ} (replicate 5120 0) ≡ 5120
zeros-5120 = length-replicate {A = ℕ} 5120 0

pub room-many : {n : ℕ} → n ≤ 1024 → 5 * n ≤ length {A = ℕ} (replicate 5120 0)
room-many h = rw zeros-5120 (omega arith)

pub room-few : {n : ℕ} → n ≤ 64 → 5 * n ≤ length {A = ℕ} (replicate 320 0)
room-few h = rw (length-replicate {A = ℕ} 320 0) (omega arith)

pub zeros-9216 : length {A = ℕ} (replicate 9216 0) ≡ 9216
zeros-9216 = length-replicate {A = ℕ} 9216 0

pub fresh-rows : 9216 ≤ length {A = ℕ} (replicate 9216 0)
fresh-rows = rw zeros-9216 (omega arith)

-- ------------------------------------------------------------------ group two from its first pair

-- what group two comes to, with the tables
whole_from : Tables → ℕ → Ended → Whole
whole_from t z e = record { built = record { tables = t; lines = e.lines; size = z; state = e.state }; stop = e.stop }

nine : (c : Outcome ℕ) (h : Ended → Outcome Whole) → and_then c (λ n. refused 9 0) ≡ and_then (and_then c (λ n. refused 9 0)) h
nine (fine n) h = refl
nine (refused n p) h = refl

placed-all : (t : Tables) (z e : ℕ) (c : Outcome ℕ) (b : Outcome State)
    → and_then c (λ n. and_then b (λ s. fine (record { built = record { tables = t; lines = n; size = z; state = s }; stop = e })))
    ≡ and_then (and_then c (λ n. and_then b (λ s. fine (record { lines = n; stop = e; state = s })))) (λ x. fine (whole_from t z x))
unfolding whole_from
placed-all t z e (refused n p) b = refl
placed-all t z e (fine n) (refused m p) = refl
placed-all t z e (fine n) (fine s) = refl

module _ (f : Form) (t : Tables) (ps : List (Taken the.Pair)) (d : Found) (z : ℕ) (ez : z ≡ total t.areas) (rows : List ℕ) where
  whole-nine : 65536 < z → (vs ms : List ℕ) → whole_at f t ps d.stop ≡ and_then (onward f t ps (going_at d 0 d.more (Barred 9 0)) vs ms rows) (λ e. fine (whole_from t z e))
  unfolding whole_at onward room counted
  whole-nine h vs ms =
      let l : leb (total t.areas) 65536 ≡ false = lt-leb (total t.areas) 65536 (omega arith) in
      ap (λ (b : Bool). and_then (fold fits 0 ps) (λ n. and_then (pick b (fine (total t.areas)) (refused 9 0)) (λ z. and_then (placing f t ps) (λ s. fine (record { built = record { tables = t; lines = n; size = z; state = s }; stop = last_of d.stop (ends_of ps) }))))) l
      ∙ nine (fold fits 0 ps) (λ e. fine (whole_from t z e))

  whole-placed : z ≤ 65536 → (vs ms : List ℕ) → vs ≡ replicate z 0 → ms ≡ replicate z 0 → whole_at f t ps d.stop ≡ and_then (onward f t ps (going_at d z d.more (Made 0)) vs ms rows) (λ e. fine (whole_from t z e))
  unfolding whole_at onward room counted placing state_of fixups_in from
  whole-placed h vs ms bv bm =
      let l : leb (total t.areas) 65536 ≡ true = le-leb (total t.areas) 65536 (omega arith) in
      let r : vs ≡ replicate (total t.areas) 0 = bv ∙ ap (λ (m : ℕ). replicate {A = ℕ} m 0) ez in
      let q : ms ≡ replicate (total t.areas) 0 = bm ∙ ap (λ (m : ℕ). replicate {A = ℕ} m 0) ez in
      let first : ◌≡◌ {A = State} (record { values = replicate (total t.areas) 0; masks = replicate (total t.areas) 0; fixups = [] }) (record { values = vs; masks = ms; fixups = [] }) =
      λ j. record { values = sym r j; masks = sym q j; fixups = [] } in
      ap (λ (b : Bool). and_then (fold fits 0 ps) (λ n. and_then (pick b (fine (total t.areas)) (refused 9 0)) (λ z. and_then (placing f t ps) (λ s. fine (record { built = record { tables = t; lines = n; size = z; state = s }; stop = last_of d.stop (ends_of ps) }))))) l
      ∙ (ap (λ (m : ℕ). and_then (fold fits 0 ps) (λ n. and_then (placing f t ps) (λ s. fine (record { built = record { tables = t; lines = n; size = m; state = s }; stop = last_of d.stop (ends_of ps) })))) (sym ez)
      ∙ (placed-all t z (last_of d.stop (ends_of ps)) (fold fits 0 ps) (placing f t ps)
      ∙ ap (λ (x : State). and_then (and_then (fold fits 0 ps) (λ n. and_then (fold (place_pair f t) x ps) (λ s. fine (record { lines = n; stop = last_of d.stop (ends_of ps); state = s })))) (λ e. fine (whole_from t z e))) first))

  never-fine : (c : Outcome ℕ) (e : Ended) → fine e ≡ and_then c (λ n. refused 9 0) → ⊥
  never-fine (fine n) e h = let y : ◌≡◌ {A = ℕ} 0 1 = cc in omega arith
  never-fine (refused n p) e h = let y : ◌≡◌ {A = ℕ} 0 1 = cc in omega arith

  fine-fits : (vs ms : List ℕ) (e : Ended) → fine e ≡ onward f t ps (going_at d 0 d.more (Barred 9 0)) vs ms rows → ⊥
  unfolding onward
  fine-fits vs ms e h = never-fine (fold fits 0 ps) e h

-- the start, by whether the kept sizes are too large
module _ (ended : Bool) (f : Form) (text : List ℕ) (d : Found) (xs ys : List ℕ) (t : Tables) (z : ℕ) (et : tables_in xs d.areas ys d.symbols ≡ t) (ez : z ≡ total t.areas) (rows : List ℕ) where
  starts : (b : Bool) → ltb 65536 z ≡ b → Progress
  starts b h = pick b (going_at d 0 d.more (Barred 9 0)) (going_at d z d.more (Made 0))

  module _ (vs ms : List ℕ) where
    fresh-whole : (b : Bool) (h : ltb 65536 z ≡ b) → take (starts b h).positions vs ≡ replicate (starts b h).positions 0 → take (starts b h).positions ms ≡ replicate (starts b h).positions 0
        → whole_at f t (pairs_from ended f text d.next d.more) d.stop
        ≡ and_then (onward_from ended f text xs ys (starts b h) (take (starts b h).positions vs) (take (starts b h).positions ms) rows) (λ e. fine (whole_from t z e))
    unfolding onward_from starts
    fresh-whole true h bv bm =
        let ps = pairs_from ended f text d.next d.more in
        whole-nine f t ps d z ez rows (ltb-true 65536 z h) [] []
        ∙ ap (λ (x : Tables). and_then (onward f x ps (going_at d 0 d.more (Barred 9 0)) [] [] rows) (λ e. fine (whole_from t z e))) (sym et)
    fresh-whole false h bv bm =
        let ps = pairs_from ended f text d.next d.more in
        whole-placed f t ps d z ez rows (ltb-false 65536 z h) (take z vs) (take z ms) bv bm
        ∙ ap (λ (x : Tables). and_then (onward f x ps (going_at d z d.more (Made 0)) (take z vs) (take z ms) rows) (λ e. fine (whole_from t z e))) (sym et)

    fresh-fits : (b : Bool) (h : ltb 65536 z ≡ b) (e : Ended)
        → fine e ≡ onward_from ended f text xs ys (starts b h) (take (starts b h).positions vs) (take (starts b h).positions ms) rows → ((starts b h).positions ≡ z) × (z ≤ 65536)
    unfolding onward_from starts
    fresh-fits true h e i = absurd (fine-fits f (tables_in xs d.areas ys d.symbols) (pairs_from ended f text d.next d.more) d (total (tables_in xs d.areas ys d.symbols).areas) refl rows [] [] e i)
    fresh-fits false h e i = (refl, ltb-false 65536 z h)

-- what group two asks of its start
module _ {text : List ℕ} (d : Found) {xs : List ℕ} {s : Sizes} (u : Begun text xs d s) {g : Progress} (e : g ≡ starting_of d s.total) where
  pub start-ready : Ready text xs g
  start-ready = rw e (go (ltb 65536 s.total) refl)
    where
      none_yet : no_home d.areas ≡ home_at xs d.areas d.areas
      none_yet = home-past xs d.areas d.areas refl u.areas-low (omega arith)

      go : (b : Bool) → ltb 65536 s.total ≡ b → Ready text xs (pick b (going_at d 0 d.more (Barred 9 0)) (going_at d s.total d.more (Made 0)))
      go true k = record { inside = u.inside; low = omega arith; areas-low = u.areas-low; symbols-low = u.symbols-low; sound = tt; homed = none_yet }
      go false k = record { inside = u.inside; low = omega arith; areas-low = u.areas-low; symbols-low = u.symbols-low; sound = (omega arith, omega (arith, u.sizes.total-is, ltb-false 65536 s.total k)); homed = none_yet }

  pub start-short : length text ≤ 65536
  start-short = u.short

  pub start-long : {vs : List ℕ} → Blank (starting_of d s.total).positions vs → g.positions ≤ length vs
  start-long b = rw e b.long

-- images of zeros, of two sizes
blank_of : (n m : ℕ) → n ≤ m → Blank n (replicate m 0)
blank_of n m h = record { zeros = zeros-taken n m h; long = rw (length-replicate {A = ℕ} m 0) h }

pub blank-small : (d : Found) (z : ℕ) → z ≤ 4096 → Blank (starting_of d z).positions (replicate 4096 0)
blank-small d z h = let l : ltb 65536 z ≡ false = le-ltb 65536 z (omega arith) in rw l (blank_of z 4096 h)

pub blank-large : {text xs : List ℕ} {d : Found} {s : Sizes} → Begun text xs d s → Blank (starting_of d s.total).positions (replicate 65536 0)
blank-large {text} {xs} {d} {s} u = go (ltb 65536 s.total) refl
  where
    go : (b : Bool) → ltb 65536 s.total ≡ b → Blank (pick b (going_at d 0 d.more (Barred 9 0)) (going_at d s.total d.more (Made 0))).positions (replicate 65536 0)
    go true k = blank_of 0 65536 (omega arith)
    go false k = blank_of s.total 65536 (ltb-false 65536 s.total k)

-- what it begins with
pub begun : {text xs : List ℕ} {d : Found} {s : Sizes} → d.next ≤ length text → length text ≤ 65536 → d.areas ≤ 64 → d.symbols ≤ 1024 → SizesAre xs (few d.areas) s → Begun text xs d s
begun a b c e w = record { inside = a; short = b; areas-low = c; symbols-low = e; sizes = sizes-all w c }

-- ------------------------------------------------------------------ `over_images`

module _ {ended : Bool} {f : Form} {text : List ℕ} (d : Found) {xs ys : List ℕ} {s : Sizes} (u : Begun text xs d s) {g : Progress} (e : g ≡ starting_of d s.total) {two : Paired} {vs₀ ms₀ rows₀ xs' vs ms rows : List ℕ}
    (bv : Blank (starting_of d s.total).positions vs₀) (bm : Blank (starting_of d s.total).positions ms₀) (v : SecondIs ended f text xs ys g vs₀ ms₀ rows₀ two xs' vs ms rows) where
  -- group two begins with the areas that were found
  started : g.areas ≡ d.areas
  started = ap (λ (x : Progress). x.areas) e ∙ go (ltb 65536 s.total)
    where
      go : (b : Bool) → (pick b (going_at d 0 d.more (Barred 9 0)) (going_at d s.total d.more (Made 0))).areas ≡ d.areas
      go true = refl
      go false = refl

  same_tables : {t : Tables} {xs₀ ys₀ : List ℕ} → length xs₀ ≡ 448 → 5 * d.symbols ≤ length ys₀ → Hold t xs₀ ys₀ xs ys d.areas d.symbols → tables_in xs d.areas ys d.symbols ≡ t
  same_tables lx ly h = tables-held h (omega (arith, u.areas-low)) (omega (arith, u.symbols-low))

  same_total : {t : Tables} {xs₀ ys₀ : List ℕ} → length xs₀ ≡ 448 → 5 * d.symbols ≤ length ys₀ → Hold t xs₀ ys₀ xs ys d.areas d.symbols → s.total ≡ total t.areas
  same_total lx ly h = u.sizes.total-is ∙ ap total (areas-held h (omega (arith, u.areas-low)) (omega (arith, u.symbols-low)))

  comes-to : {t : Tables} {xs₀ ys₀ : List ℕ} → length xs₀ ≡ 448 → 5 * d.symbols ≤ length ys₀ → Hold t xs₀ ys₀ xs ys d.areas d.symbols
      → whole_at f t (pairs_from ended f text d.next d.more) d.stop ≡ and_then (told_two two (take g.positions vs) (take g.positions ms) rows) (λ x. fine (whole_from t s.total x))
  unfolding starts
  comes-to {t} lx ly h =
      fresh-whole ended f text d xs ys t s.total (same_tables lx ly h) (same_total lx ly h) rows₀ vs₀ ms₀ (ltb 65536 s.total) refl bv.zeros bm.zeros
      ∙ (ap (λ (x : Progress). and_then (onward_from ended f text xs ys x (take x.positions vs₀) (take x.positions ms₀) rows₀) (λ x. fine (whole_from t s.total x))) (sym e)
      ∙ ap (λ (o : Outcome Ended). and_then o (λ x. fine (whole_from t s.total x))) (sym v.grouped.says))

  -- the rows of areas have the known bits of the masks, before group two and behind it
  known-first : {t : Tables} {xs₀ ys₀ : List ℕ} → length xs₀ ≡ 448 → 5 * d.symbols ≤ length ys₀ → Hold t xs₀ ys₀ xs ys d.areas d.symbols → known.Kept g.areas xs (take g.positions ms₀)
  known-first {t} {xs₀} lx ly h =
      let z : take g.positions ms₀ ≡ replicate g.positions 0 = rw e bm.zeros in
      let n : g.areas ≡ d.areas = started in
      let l = flat-length (area_numbers 0) 7 seven-numbers t.areas in
      let r : take (7 * d.areas) xs ≡ flat (area_numbers 0) t.areas =
      rw (h.areas, laid (flat (area_numbers 0) t.areas) xs₀ (omega (arith, l, h.area-count, u.areas-low))) (take_at (flat (area_numbers 0) t.areas) _ (7 * d.areas) (omega (arith, l, h.area-count))) in
      record {
        table = rw (n, z, areas-held h (omega (arith, u.areas-low)) (omega (arith, u.symbols-low))) (r ∙ sym (nothing_known t.areas g.positions));
      }

  known-rows : {t : Tables} {xs₀ ys₀ : List ℕ} → length xs₀ ≡ 448 → 5 * d.symbols ≤ length ys₀ → Hold t xs₀ ys₀ xs ys d.areas d.symbols → take (7 * d.areas) xs' ≡ area_table t.areas (take g.positions ms)
  known-rows {t} lx ly h =
      let n : g.areas ≡ d.areas = started in
      let k = (v.carried.keeps (known-first lx ly h)).table in
      let a : areas_in xs' d.areas ≡ t.areas = v.carried.same d.areas ∙ areas-held h (omega (arith, u.areas-low)) (omega (arith, u.symbols-low)) in
      (rw n at k) ∙ ap (λ (zs : List Area). area_table zs (take g.positions ms)) a

  pub rest-refused : {n p : ℕ} → two ≡ Rejected n p → {r : code.Answer} → r ≡ answer_two two → (old : Held) → RestIs ended f text d xs ys old r old
  unfolding over
  rest-refused {n} {p} h i old = record {
    laid = λ t xs₀ ys₀ lx ly k.
        let o : whole_at f t (pairs_from ended f text d.next d.more) d.stop ≡ refused n p = comes-to lx ly k ∙ rw h in
        rw (o, i, h) (record { says = refl; areas = refl; symbols = refl; values = refl; masks = refl; fixups = refl });
  }

  module _ {lines stop k : ℕ} (h : two ≡ All lines stop k) where
    few-fixups : k ≤ 1024
    few-fixups = rw h at v.grouped.few

    pub rest-rows : length rows ≡ length rows₀ → length rows₀ ≡ 9216 → 9 * k ≤ length rows
    rest-rows a b = omega (arith, few-fixups)

    pub rest_out : {a b c m n : ℕ} → Rooms a b c m n → 9 * k ≤ n
    rest_out r = omega (arith, few-fixups, r.for-fixups)

    long : (g.positions ≡ s.total) × (s.total ≤ 65536)
    unfolding starts tables_in areas_in
    long =
        let fine-is : fine (record { lines = lines; stop = stop; state = state_of (take g.positions vs) (take g.positions ms) rows k })
        ≡ onward_from ended f text xs ys g (take g.positions vs₀) (take g.positions ms₀) rows₀ = rw h at v.grouped.says in
        let start : _ = ap (λ (x : Progress). onward_from ended f text xs ys x (take x.positions vs₀) (take x.positions ms₀) rows₀) e in
        let z = fresh-fits ended f text d xs ys (tables_in xs d.areas ys d.symbols) s.total refl u.sizes.total-is rows₀ vs₀ ms₀ (ltb 65536 s.total) refl _ (fine-is ∙ start) in
        (ap (λ (x : Progress). x.positions) e ∙ z.0, z.1)

    pub rest-done : {c : Counts} → c ≡ counts_from d s lines k → {areas symbols values masks fixups areas' symbols' values' masks' fixups' : List ℕ}
        → Rooms (length areas) (length symbols) (length values) (length masks) (length fixups)
        → length rows ≡ length rows₀ → length rows₀ ≡ 9216
        → TablesOut d.areas d.symbols xs' ys areas symbols areas' symbols' → ImagesOut s.total k s.kept vs ms rows values masks fixups values' masks' fixups' → {r : code.Answer} → AcceptedIs c (length text) stop r
        → RestIs ended f text d xs ys (held areas symbols values masks fixups) r (held areas' symbols' values' masks' fixups')
    unfolding whole_from paper.counts_of paper.fixups_of areas_for state_of fixups_in tables_in
    rest-done {c} i {areas} {symbols} {values} {masks} {fixups} {areas'} {symbols'} {values'} {masks'} {fixups'} rooms lr lz a m {r} b = record { laid = lay }
      where
        lay : (t : Tables) (xs₀ ys₀ : List ℕ) → length xs₀ ≡ 448 → 5 * d.symbols ≤ length ys₀ → Hold t xs₀ ys₀ xs ys d.areas d.symbols
            → Laid (length text) (whole_at f t (pairs_from ended f text d.next d.more) d.stop) (held areas symbols values masks fixups) r (held areas' symbols' values' masks' fixups')
        lay t xs₀ ys₀ lx ly k₀ =
            let o : whole_at f t (pairs_from ended f text d.next d.more) d.stop ≡ fine (whole_from t s.total (record { lines = lines; stop = stop; state = state_of (take g.positions vs) (take g.positions ms) rows k })) =
            comes-to lx ly k₀ ∙ rw h in
            let kept : s.kept ≡ kept_count t.areas = u.sizes.kept-is ∙ ap kept_count (areas-held k₀ (omega (arith, u.areas-low)) (omega (arith, u.symbols-low))) in
            let counts : ◌≡◌ {A = paper.Counts} (told_counts (counts_from d s lines k)) (record { areas = length t.areas; symbols = length t.symbols; lines = lines; kept = kept_count t.areas; positions = s.total; fixups = length (from (fixup_row rows) 0 k) }) =
            λ j. record { areas = k₀.area-count j; symbols = k₀.symbol-count j; lines = lines; kept = kept j; positions = s.total; fixups = sym (rows-counted rows 0 k) j } in
            let la = table-length t.areas (take g.positions ms) in
            let rows-now = known-rows lx ly k₀ in
            let ls = flat-length symbol_numbers 5 five-numbers t.symbols in
            let ta = areas-laid a u.areas-low in
            let ts = symbols-laid a u.symbols-low in
            let iv : values' ≡ sets values 0 (take s.total vs) = m.of_values in
            let im : masks' ≡ sets masks 0 (take s.total ms) = m.of-masks in
            let fx : fixups' ≡ over (areas_for s.kept 0 (fixups_in rows k)) fixups = fixups-laid m.of-fixups (rest-rows lr lz) (rest_out rooms) u.sizes.kept_low in
            subst (λ (x : Outcome Whole). Laid (length text) x (held areas symbols values masks fixups) r (held areas' symbols' values' masks' fixups')) (sym o)
            (record {
              says = b.accepts ∙ ap (λ (x : paper.Counts). paper.accepted x (verdict_at (length text) stop)) (ap told_counts i ∙ counts);
              areas = ta ∙ rw rows-now (over-is (area_table t.areas (take g.positions ms)) areas (omega (arith, la, k₀.area-count, u.areas-low, rooms.for-areas)));
              symbols = copied (flat symbol_numbers t.symbols) ys₀ ys symbols symbols' (5 * d.symbols) k₀.symbols (omega (arith, ls, k₀.symbol-count)) (omega (arith, ls, k₀.symbol-count, u.symbols-low)) (omega (arith, ls, k₀.symbol-count, u.symbols-low, rooms.for-symbols)) ts;
              values = pictured vs values values' s.total (omega (arith, long.1, rooms.for-values)) iv ∙ ap (λ (n : ℕ). over (take n vs) values) (sym long.0);
              masks = pictured ms masks masks' s.total (omega (arith, long.1, rooms.for-masks)) im ∙ ap (λ (n : ℕ). over (take n ms) masks) (sym long.0);
              fixups = fx ∙ ap (λ (n : ℕ). over (areas_for n 0 (fixups_in rows k)) fixups) kept;
            })

pub ruleset rests = (rules, zeros-9216, fresh-rows, start-ready, start-short, start-long, rest-refused, rest-done)

-- ------------------------------------------------------------------ `read_lines`

flatten : (t : Tables) (p : paper.Read → ℕ) (e : ℕ) (P : paper.Built → paper.Read) → ((b : paper.Built) → p (P b) ≡ e) → ((b : paper.Built) → (P b).built ≡ b) → (c r : Outcome ℕ) (b : Outcome State)
    → and_then {B = Whole} (and_then {B = paper.Read} (and_then {B = paper.Built} c (λ n. and_then r (λ z. and_then b (λ s. fine (record { tables = t; lines = n; size = z; state = s }))))) (λ x. fine (P x))) (λ x. fine (record { built = x.built; stop = p x }))
    ≡ and_then {B = Whole} c (λ n. and_then r (λ z. and_then b (λ s. fine (record { built = record { tables = t; lines = n; size = z; state = s }; stop = e }))))
flatten t p e P h i (refused n x) r b = refl
flatten t p e P h i (fine n) (refused m x) b = refl
flatten t p e P h i (fine n) (fine z) (refused m x) = refl
flatten t p e P h i (fine n) (fine z) (fine s) =
    let k : paper.Built = record { tables = t; lines = n; size = z; state = s } in
    λ j. fine (record { built = i k j; stop = h k j })

module _ (ended : Bool) (f : Form) (text : List ℕ) (at head : ℕ) (xs₀ ys₀ xs ys : List ℕ) {o : Listed} (w : Grouped ended f text at head xs₀ ys₀ xs ys o) where
  pub lines-refused : {n p : ℕ} → o ≡ Refused n p → (old : Held) → Laid (length text) (whole_lines ended f text at head) old (refusal n p) old
  unfolding whole_lines paper.read_of paper.build Grouped over
  lines-refused {n} {p} g old =
      let k : Refuses ended f text at xs₀ ys₀ xs ys n p = rw g at w in
      rw k.says (record { says = refl; areas = refl; symbols = refl; values = refl; masks = refl; fixups = refl })

  pub lines_long : o ≡ TooLong → length text ≤ 65536 → (old : Held) → Laid (length text) (whole_lines ended f text at head) old (refusal 2 0) old
  unfolding Grouped
  lines_long g h old = let k : (65536 < length text) × (xs ≡ xs₀) × (ys ≡ ys₀) = rw g at w in absurd (omega (arith, k.0))

  module _ {d : Found} (g : o ≡ Done d) where
    found : Read ended f text at head xs₀ ys₀ xs ys d
    unfolding Grouped
    found = rw g at w

    pub lines_next : at ≤ length text → d.next ≤ length text
    lines_next h = found.inside h

    pub lines-areas : d.areas ≤ 64
    lines-areas = found.areas-low

    pub lines-symbols : d.symbols ≤ 1024
    lines-symbols = found.symbols-low

    lines_are : whole_lines ended f text at head ≡ whole_at f found.sofar (pairs_from ended f text d.next d.more) d.stop
    unfolding whole_lines paper.read_of paper.build whole_at stop
    lines_are =
        let R = records_at ended f text at in
        let t = found.sofar in
        ap (λ (x : Outcome Tables). and_then (and_then (and_then x (λ t. and_then (counted R.pairs) (λ n. and_then (room t) (λ z. and_then (placing f t R.pairs) (λ s. fine (record { tables = t; lines = n; size = z; state = s }))))))
        (λ b. fine (record { parsed = record { form = f; head = head; records = R }; built = b }))) (λ r. fine (whole_of r))) found.entries
        ∙ (flatten t (λ r. stop r.parsed) (last_of head (ends R)) (λ b. record { parsed = record { form = f; head = head; records = R }; built = b }) (λ b. refl) (λ b. refl) (counted R.pairs) (room t) (placing f t R.pairs)
        ∙ (ap (λ (e : ℕ). whole_in t R.pairs e) found.stop ∙ ap (λ (ps : List (Taken the.Pair)). whole_in t ps (last_of d.stop (ends_of ps))) found.two))
      where
        whole_in : Tables → List (Taken the.Pair) → ℕ → Outcome Whole
        whole_in t ps e = and_then (counted ps) (λ n. and_then (room t) (λ z. and_then (placing f t ps) (λ s. fine (record { built = record { tables = t; lines = n; size = z; state = s }; stop = e }))))

    pub lines_rest : length xs₀ ≡ 448 → 5 * d.symbols ≤ length ys₀ → {old new : Held} {r : code.Answer} → RestIs ended f text d xs ys old r new → Laid (length text) (whole_lines ended f text at head) old r new
    lines_rest lx ly {old} {new} {r} v = subst (λ (x : Outcome Whole). Laid (length text) x old r new) (sym lines_are) (v.laid found.sofar xs₀ ys₀ lx ly found.held)

pub ruleset lines = (rules, zeros-448, room-many, room-few, lines-refused, lines_long, lines_next, lines-areas, lines-symbols, lines_rest)

-- ------------------------------------------------------------------ `second`

module _ (ended : Bool) (f : Form) {text areas : List ℕ} (symbols : List ℕ) {g : Progress} (r : Ready text areas g) where
  pub second-idle : pairs_from ended f text g.next g.on ≡ [] → {two : Paired} → two ≡ ending_of g → (vs ms rows : List ℕ)
      → SecondIs ended f text areas symbols g vs ms rows two areas vs ms rows
  unfolding onward_from
  second-idle h e vs ms rows =
      let T = tables_in areas g.areas symbols g.symbols in
      let b : onward f T (pairs_from ended f text g.next g.on) g (take g.positions vs) (take g.positions ms) rows ≡ onward f T [] g (take g.positions vs) (take g.positions ms) rows =
      ap (λ (ps : List (Taken the.Pair)). onward f T ps g (take g.positions vs) (take g.positions ms) rows) h in
      rw e (record { grouped = record { says = sym (b ∙ onward-end f T g (take g.positions vs) (take g.positions ms) rows); few = few-end areas g.areas g.standing g.lines g.stop r.sound }; carried = carried_none g.areas areas (take g.positions ms) })

  pub second_none : not g.on ≡ true → {two : Paired} → two ≡ ending_of g → (vs ms rows : List ℕ) → SecondIs ended f text areas symbols g vs ms rows two areas vs ms rows
  second_none h = second-idle (ap (λ (c : Bool). pairs_from ended f text g.next c) (was-no g.on h))

  -- over the first positions of two images, which come back with what stands behind them
  pub second-some : not g.on ≡ false → (vs ms : List ℕ) → g.positions ≤ length vs → g.positions ≤ length ms → {rows areas' vs' ms' rows' : List ℕ} {two : Paired}
      → GroupedTwo (onward_at ended f text areas symbols g (take g.positions vs) (take g.positions ms) rows) two vs' ms' rows' → Carried g.areas areas (take g.positions ms) areas' ms'
      → length vs' ≡ length (take g.positions vs) → length ms' ≡ length (take g.positions ms)
      → SecondIs ended f text areas symbols g vs ms rows two areas' (vs' ++ drop g.positions vs) (ms' ++ drop g.positions ms) rows'
  unfolding onward_from onward_at
  second-some h vs ms lv lm {rows} {areas'} {vs'} {ms'} {rows'} {two} w k i j =
      let n = g.positions in
      let T = tables_in areas g.areas symbols g.symbols in
      let a : take n (vs' ++ drop n vs) ≡ vs' = take_at vs' (drop n vs) n (i ∙ length-take-le n vs lv) in
      let c : take n (ms' ++ drop n ms) ≡ ms' = take_at ms' (drop n ms) n (j ∙ length-take-le n ms lm) in
      let o : onward f T (pairs_from ended f text g.next g.on) g (take n vs) (take n ms) rows ≡ onward f T (pairs_at ended f text g.next) g (take n vs) (take n ms) rows =
      ap (λ (y : Bool). onward f T (pairs_from ended f text g.next y) g (take n vs) (take n ms) rows) (was-yes g.on h) in
      record { grouped = rw (a, c) (record { says = w.says ∙ sym o; few = w.few }); carried = rw c k }

pub ruleset seconds = (rules, second_none)
