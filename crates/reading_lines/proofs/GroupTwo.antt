-- The laws of group two: counting and placing the rest of the pairs from here, as placing stands, gives what the whole gives.
-- Assumes nothing.
use Prim.Native.Nat.{ℕ, suc, ◌+◌, ◌-◌, ◌<◌, ◌≤◌}
use mathlib.Core.Path.{◌≡◌, refl, ap, sym, subst, ◌∙◌}
use mathlib.Core.Bool.{Bool, true, false, ◌&&◌}
use mathlib.Core.List.{List, [], ◌∷◌, ◌++◌, map, append_assoc}
use mathlib.Core.Option.{some}
use native.Mathlib.Omega.{arith}
use lib.ListN.{length, get_or, take, drop, length-append, length-map, replicate, length-replicate}
use lib.Seq.{sets, length-sets, take-append_seam, get_or_at}
use lib.Dec.{eqb, ltb}
use borrow.Author.Rules.{rules}
use borrow.Author.Tests.{eq-eqb, ne_eqb, lt-ltb, le-ltb, le-leb, lt-leb, ltb-true, ltb-false}
use Rattle.format.specs.Lists.{pick}
use Rattle.format.specs.Header.{Form}
use Rattle.format.specs.Pairs as the
use Rattle.format.specs.Outcome.{Outcome, fine, refused, and_then, fold}
use Rattle.format.specs.Records.{stops, Taken, last_of}
use Rattle.format.specs.Tables.{Tables, fits, total}
use Rattle.format.specs.Placing.{State, place_pair}
use Rattle.laws.specs.Places.{pair_at, pairs_at}
use Rattle.laws.specs.Rows.{from, areas_in, tables_in, state_of, known_at}
use Rattle.laws.proofs.Places.{pairs-at}
use Rattle.header.specs.Told.{form_of, more_of}
use Rattle.header.specs.declared.Form as text
use Rattle.header.specs.declared.Width.{Width}
use Rattle.header.specs.declared.Width.TheVariants as wide
use Rattle.fragments.specs.Fragments.{Rows, modes, entries, indexes}
use Rattle.sites.specs.Columns.{fragment_at, fragments_in}
use Rattle.place.specs.Pair.{content_of, pair_of, pair_in, fits as fits_in, told, used_now, changes, known_now, PairPlaced}
use Rattle.homes.specs.Home.{home_at}
use Rattle.homes.specs.declared.Home.{Home}
use Rattle.homes.proofs.Use.{home-own}
use Rattle.place.proofs.Use.{Fit, fits-when, placed-when}
use Rattle.sites.specs.declared.Filled.{Filled}
use Rattle.sites.specs.declared.Line.{Line}
use Rattle.place.specs.declared.pair.Placed as place
use Rattle.place.specs.declared.pair.Placed.TheVariants.{Done as Through, Stopped, Misfit}
use Rattle.steps.proofs.Stored.{laid}
use Rattle.steps.specs.PairLines.{LeftAt, bytes_at, fragments_at, PlacedIs, BodyIs, step_to, StepOf, StepSays, PairStepIs}
use Rattle.planning.specs.Plan.{one_more, line_for, plan_of}
use Rattle.pair_limits.specs.Limits.{refused_pair}
use Rattle.turns.specs.Turns.{ending_with, ending_of, after_of, stepped_of, standing_in, turn_of, two_of}
use Rattle.planning.proofs.Plans.{more-counted}
use Rattle.reading_lines.specs.Onward.{ends_of, Ended, stands, onward, onward_at, told_two, FewIn, GroupedTwo, standing_of, filled_of, kept_in, Sound, Ready, Columns, PlaceReady, Advances, Carried, listed, CarriedBy, GoesOn, TurnSays, TurnIs}
use Rattle.reading_lines.proofs.Carrying.{ready-same, turn-same, carried_none, carried-then, carried-leave, carried-refused, carries, after-listed}
use Rattle.reading_lines.proofs.Idle.{idle-pair, empty-both}
use Rattle.steps.specs.declared.pair.Body.{Body}
use Rattle.steps.specs.declared.pair.Body.TheVariants.{Skipped, Placed}
use Rattle.steps.specs.declared.pair.PairStep.{PairStep}
use Rattle.steps.specs.declared.pair.PairStep.TheVariants.{Ends, Takes}
use Rattle.turns.specs.declared.Standing.{Standing}
use Rattle.turns.specs.declared.Standing.TheVariants.{Made, Barred}
use Rattle.turns.specs.declared.Progress.{Progress}
use Rattle.turns.specs.declared.Paired.{Paired}
use Rattle.turns.specs.declared.Paired.TheVariants.{All, Rejected}
use Rattle.turns.specs.declared.Turn.{Turn}
use Rattle.turns.specs.declared.Turn.TheVariants.{Goes, Done}
use Rattle.turns.specs.declared.Plan.{Plan}
use Rattle.turns.specs.declared.Plan.TheVariants.{Leave, Place}

-- ------------------------------------------------------------------ small answers

pub stands-through : {r : place.Placed} {k x : ℕ} → r ≡ Through k x → Made k ≡ standing_of r
stands-through e = rw e

pub stands-stopped : {r : place.Placed} {n p : ℕ} → r ≡ Stopped n p → Barred n p ≡ standing_of r
stands-stopped e = rw e

pub stands-misfit : {r : place.Placed} → r ≡ Misfit → Barred 0 0 ≡ standing_of r
stands-misfit e = rw e

pub ruleset small = (rules, stands-through, stands-stopped, stands-misfit)

-- ------------------------------------------------------------------ the columns of a pair hold its fragments

module _ (ms₀ es₀ xs₀ : List ℕ) where
  columns : (ps qs rs : List ℕ) (fs : List the.Fragment) (i : ℕ) → length ps ≡ i → length qs ≡ i → length rs ≡ i
      → from (fragment_at (ps ++ (map (λ (f : the.Fragment). f.mode) fs ++ ms₀)) (qs ++ (map (λ (f : the.Fragment). f.entry) fs ++ es₀)) (rs ++ (map (λ (f : the.Fragment). f.index) fs ++ xs₀))) i (length fs) ≡ fs
  unfolding from fragment_at
  columns ps qs rs [] i p q r = refl
  columns ps qs rs (f ∷ fs) i p q r =
      let M = map (λ (f : the.Fragment). f.mode) fs ++ ms₀ in
      let E = map (λ (f : the.Fragment). f.entry) fs ++ es₀ in
      let X = map (λ (f : the.Fragment). f.index) fs ++ xs₀ in
      let one : fragment_at (ps ++ f.mode ∷ M) (qs ++ f.entry ∷ E) (rs ++ f.index ∷ X) i ≡ f =
      λ j. record { mode = get_or_at ps f.mode M 0 i p j; entry = get_or_at qs f.entry E 0 i q j; index = get_or_at rs f.index X 0 i r j } in
      let a : (ps ++ f.mode ∷ []) ++ M ≡ ps ++ f.mode ∷ M = append_assoc ps (f.mode ∷ []) M in
      let b : (qs ++ f.entry ∷ []) ++ E ≡ qs ++ f.entry ∷ E = append_assoc qs (f.entry ∷ []) E in
      let c : (rs ++ f.index ∷ []) ++ X ≡ rs ++ f.index ∷ X = append_assoc rs (f.index ∷ []) X in
      let more : from (fragment_at (ps ++ f.mode ∷ M) (qs ++ f.entry ∷ E) (rs ++ f.index ∷ X)) (suc i) (length fs) ≡ fs =
      ap (λ (l : List ℕ). from (fragment_at l (qs ++ f.entry ∷ E) (rs ++ f.index ∷ X)) (suc i) (length fs)) (sym a)
      ∙ (ap (λ (l : List ℕ). from (fragment_at ((ps ++ f.mode ∷ []) ++ M) l (rs ++ f.index ∷ X)) (suc i) (length fs)) (sym b)
      ∙ (ap (λ (l : List ℕ). from (fragment_at ((ps ++ f.mode ∷ []) ++ M) ((qs ++ f.entry ∷ []) ++ E) l) (suc i) (length fs)) (sym c)
      ∙ columns (ps ++ f.mode ∷ []) (qs ++ f.entry ∷ []) (rs ++ f.index ∷ []) fs (suc i)
      (simp length-append (omega arith)) (simp length-append (omega arith)) (simp length-append (omega arith)))) in
      λ j. one j ∷ more j

pub fragments-in : (fs : List the.Fragment) {ms es xs ms' es' xs' : List ℕ} → length fs ≤ length ms → length fs ≤ length es → length fs ≤ length xs
    → Rows fs ms es xs ms' es' xs' → fragments_in ms' es' xs' (length fs) ≡ fs
unfolding fragments_in
fragments-in fs {ms} {es} {xs} h i j w =
    let m = map (λ (f : the.Fragment). f.mode) fs in
    let e = map (λ (f : the.Fragment). f.entry) fs in
    let x = map (λ (f : the.Fragment). f.index) fs in
    let a : length m ≤ length ms = rw (length-map fs (λ (f : the.Fragment). f.mode)) h in
    let b : length e ≤ length es = rw (length-map fs (λ (f : the.Fragment). f.entry)) i in
    let c : length x ≤ length xs = rw (length-map fs (λ (f : the.Fragment). f.index)) j in
    rw (w.of-modes, w.of-entries, w.of-indexes, laid m ms a, laid e es b, laid x xs c)
    (columns (drop (length m) ms) (drop (length e) es) (drop (length x) xs) [] [] [] fs 0 refl refl refl)

pub content-in : (bs : List ℕ) (n : ℕ) (b : List ℕ) {b' : List ℕ} → n ≡ length bs → n ≤ length b → b' ≡ sets b 0 bs → take n b' ≡ bs
content-in bs n b e h i = rw (i, laid bs b (omega arith), e) (take-append_seam bs (drop (length bs) b))

-- ------------------------------------------------------------------ placing one pair

told-stands : (r : place.Placed) (vs ms rows : List ℕ) (o : Outcome State) → told r vs ms rows ≡ some o → stands (standing_of r) vs ms rows ≡ o
told-stands (Through k x) vs ms rows o e = cc
told-stands (Stopped n p) vs ms rows o e = cc
told-stands Misfit vs ms rows o e = absurd (let z : ◌≡◌ {A = ℕ} 0 1 = cc in omega arith)

-- `is_empty`
pub empty-if : (a b : ℕ) → a ≡ 0 → eqb b 0 ≡ (eqb a 0 && eqb b 0)
empty-if a b e = rw (eq-eqb a 0 e)

pub empty-no : (a b : ℕ) → (a ≡ 0 → ⊥) → false ≡ (eqb a 0 && eqb b 0)
empty-no a b e = rw (ne_eqb a 0 e)

module _ {l : Line} {g : Progress} {bytes areas rows : List ℕ} (w : PlaceReady l g bytes areas rows) (ms es xs symbols vs fs : List ℕ) where
  pub body_kept : {n p : ℕ} → g.standing ≡ Barred n p → {g' : Progress} {u : Turn} → g' ≡ standing_in g g.home g.standing → u ≡ after_of g'
      → (Advances l g bytes ms es xs areas symbols vs fs rows u vs fs rows) × (CarriedBy g.areas areas fs u areas fs)
  body_kept e i j = (
    record { standing = g.standing; home = g.home; answered = j ∙ ap after_of i; says = λ radix end. rw e; sound = w.sound; homed = w.homed },
    carried-refused areas fs g g.home g.standing i j,
  )

  pub body-empty : {q : Bool} → q ≡ (eqb l.bytes 0 && eqb l.fragments 0) → q ≡ true → {g' : Progress} {u : Turn} → g' ≡ standing_in g g.home g.standing → u ≡ after_of g'
      → (Advances l g bytes ms es xs areas symbols vs fs rows u vs fs rows) × (CarriedBy g.areas areas fs u areas fs)
  body-empty e h i j =
      let zero = empty-both l.bytes l.fragments e h in (
        record { standing = g.standing; home = g.home; answered = j ∙ ap after_of i; says = λ radix end. go radix end zero.0 zero.1 g.standing; sound = w.sound; homed = w.homed },
        carried-refused areas fs g g.home g.standing i j,
      )
    where
      go : (radix end : ℕ) → l.bytes ≡ 0 → l.fragments ≡ 0 → (st : Standing) → stands st vs fs rows ≡ and_then (stands st vs fs rows) (λ s. pair_of l bytes ms es xs areas symbols (filled_of g 0 0) s radix end)
      go radix end b f (Made k) = sym (idle-pair l bytes ms es xs areas symbols (filled_of g 0 0) b f (state_of vs fs rows k) radix end)
      go radix end b f (Barred n p) = refl

  pub body-made : {k : ℕ} → g.standing ≡ Made k → {x : ℕ} → x ≡ known_at areas l.area → {q : Filled} → q ≡ filled_of g k x → {h : Home} → h ≡ home_at areas g.areas l.area → {r : place.Placed} {vs' fs' rows' : List ℕ}
      → PairPlaced (fits_in l h bytes q rows) (pair_in l h bytes ms es xs areas symbols q (state_of vs fs rows q.fixups)) q.known vs fs rows r vs' fs' rows' → ((j : ℕ) → get_or fs' j 0 < 256)
      → {areas' : List ℕ} → areas' ≡ kept_in areas l.area r
      → {s : Standing} {g' : Progress} {u : Turn} → s ≡ standing_of r → g' ≡ standing_in g h s → u ≡ after_of g'
      → (Advances l g bytes ms es xs areas symbols vs fs rows u vs' fs' rows') × (CarriedBy g.areas areas fs u areas' fs')
  unfolding pair_of
  body-made {k} e {x} ex {q} i {h} eh {r} {vs'} {fs'} {rows'} d small {areas'} ea {s} {g'} j n u =
      let made : Sound areas g.areas (Made k) = rw e at w.sound in
      let can : Fit l h bytes areas (filled_of g k x) rows = record {
        home = eh;
        address = w.address;
        content = w.content;
        lent = w.lent;
        fragments = w.fragments;
        listed = w.areas-low;
        symbols = w.symbols-low;
        sizes = made.1;
        made = made.0;
        room = w.room;
      } in
      let fit : fits_in l h bytes q rows ≡ true = rw i (fits-when can) in
      let placed : told r vs' fs' rows' ≡ some (pair_of l bytes ms es xs areas symbols q (state_of vs fs rows k) 16 0) =
      (rw (fit, i) at (d.says 16 0)) ∙ ap some (placed-when can ms es xs symbols (state_of vs fs rows k) 16 0 ∙ rw i) in (
        record {
          standing = standing_of r;
          home = h;
          answered = u ∙ ap after_of (n ∙ ap (standing_in g h) j);
          says = λ radix end. rw e (told-stands r vs' fs' rows' _ (rw (fit, i) at (d.says radix end)) ∙ placed-when can ms es xs symbols (state_of vs fs rows k) radix end);
          sound = go r d.few made.1;
          homed = eh ∙ ap (home_at areas g.areas) (sym (home-own areas g.areas l.area eh));
        },
        record {
          carried = carries areas symbols g.areas made.1 l bytes ms es xs q (ap (λ (y : Filled). y.areas) i) vs fs rows k r vs' fs' rows' small placed (λ c. (d.same c).1.0) (ap (λ (y : Filled). y.known) i ∙ ex) d.bits ea;
          as_many = rw u (after-listed g.areas g' (ap (λ (y : Progress). y.areas) n));
        },
      )
    where
      go : (r : place.Placed) → used_now r ≤ 1024 → total (areas_in areas g.areas) ≤ 65536 → Sound areas g.areas (standing_of r)
      go (Through k y) a b = (a, b)
      go (Stopped n p) a b = tt
      go Misfit a b = tt

-- `home_for`
pub home-last : (areas : List ℕ) (g : Progress) {i : ℕ} → g.home ≡ home_at areas g.areas g.home.area → g.home.area ≡ i → g.home ≡ home_at areas g.areas i
home-last areas g e j = e ∙ ap (home_at areas g.areas) j

pub ready-homed : {l : Line} {g : Progress} {bytes areas rows : List ℕ} → PlaceReady l g bytes areas rows → g.home ≡ home_at areas g.areas g.home.area
ready-homed w = w.homed

pub ruleset bodies = (rules, empty-no, empty-if, body-empty, body_kept, body-made, home-last, ready-homed)

-- ------------------------------------------------------------------ the pairs from here on

and-and : {A B C : Type 0} (o : Outcome A) (f : A → Outcome B) (h : B → Outcome C) → and_then (and_then o f) h ≡ and_then o (λ a. and_then (f a) h)
and-and (fine a) f h = refl
and-and (refused n p) f h = refl

and-fine : {A : Type 0} (o : Outcome A) → o ≡ and_then o (λ a. fine a)
and-fine (fine a) = refl
and-fine (refused n p) = refl

module _ (f : Form) (t : Tables) where
  -- one pair more
  onward-step : (x : Taken the.Pair) (ps : List (Taken the.Pair)) (g : Progress) (m next : ℕ) (on : Bool) (h : Home) (s : Standing) (vs ms rows vs' ms' rows' : List ℕ) → fits g.lines x ≡ fine m
      → stands s vs' ms' rows' ≡ and_then (stands g.standing vs ms rows) (λ s. place_pair f t s x)
      → onward f t (x ∷ ps) g vs ms rows ≡ onward f t ps (standing_in (stepped_of g m x.end next on) h s) vs' ms' rows'
  unfolding onward fold
  onward-step x ps g m next on k s vs ms rows vs' ms' rows' e h =
      rw e (ap (λ (o : Outcome State). and_then (fold fits m ps) (λ n. and_then o (λ s. fine (record { lines = n; stop = last_of x.end (ends_of ps); state = s }))))
      (sym (and-and (stands g.standing vs ms rows) (λ s. place_pair f t s x) (λ s. fold (place_pair f t) s ps))
      ∙ ap (λ (o : Outcome State). and_then o (λ s. fold (place_pair f t) s ps)) (sym h)))

  -- a pair that does not fit
  onward-over : (x : Taken the.Pair) (ps : List (Taken the.Pair)) (g : Progress) (vs ms rows : List ℕ) (n p : ℕ) → fits g.lines x ≡ refused n p → onward f t (x ∷ ps) g vs ms rows ≡ refused n p
  unfolding onward fold
  onward-over x ps g vs ms rows n p e = rw e

  -- no pair
  pub onward-end : (g : Progress) (vs ms rows : List ℕ) → onward f t [] g vs ms rows ≡ told_two (ending_of g) vs ms rows
  unfolding onward fold
  onward-end g vs ms rows = go g.standing
    where
      go : (s : Standing) → and_then (and_then (stands s vs ms rows) (λ s. fine s)) (λ s. fine (record { lines = g.lines; stop = g.stop; state = s })) ≡ told_two (ending_with s g.lines g.stop) vs ms rows
      go (Made k) = refl
      go (Barred n p) = refl

pub few-end : (areas : List ℕ) (na : ℕ) (s : Standing) (n stop : ℕ) → Sound areas na s → FewIn (ending_with s n stop)
few-end areas na (Made k) n stop h = h.0
few-end areas na (Barred x p) n stop h = tt

-- the pairs at a place, by what the two lines there do
module _ (ended : Bool) (f : Form) (text : List ℕ) (p : ℕ) where
  pub at-ends : stops ≡ pair_at ended f text p → pairs_at ended f text p ≡ []
  at-ends e = pairs-at ended f text p ∙ rw (← e)

  at_takes : {body : Body} {end next : ℕ} {on : Bool} {b ms es xs b' ms' es' xs' : List ℕ} (s : StepOf (pair_at ended f text p) text p body end next on b ms es xs b' ms' es' xs')
      → pairs_at ended f text p ≡ record { place = p; end = end; body = s.pair } ∷ pick on (pairs_at ended f text next) []
  at_takes {body} {end} {next} {on} s = go on s.step
    where
      go : (t : Bool) → step_to t p end s.pair ≡ pair_at ended f text p → pairs_at ended f text p ≡ record { place = p; end = end; body = s.pair } ∷ pick t (pairs_at ended f text next) []
      go true k = pairs-at ended f text p ∙ rw (← k, s.behind)
      go false k = pairs-at ended f text p ∙ rw (← k)

-- a turn that is over with the pair
module _ (ended : Bool) (f : Form) (text areas symbols : List ℕ) (p : ℕ) {o : Outcome Ended} (vs ms rows : List ℕ) (g : Progress) where
  after_is : (g.on ≡ true → Ready text areas g × (p < g.next)) → Sound areas g.areas g.standing
      → o ≡ onward f (tables_in areas g.areas symbols g.symbols) (pick g.on (pairs_at ended f text g.next) []) g vs ms rows
      → TurnIs ended f text areas symbols p o (after_of g) vs ms rows
  unfolding onward_at
  after_is r s e = record { says = go g.on refl e }
    where
      go : (b : Bool) → g.on ≡ b → o ≡ onward f (tables_in areas g.areas symbols g.symbols) (pick b (pairs_at ended f text g.next) []) g vs ms rows
          → TurnSays ended f text areas symbols p o (pick b (Goes g) (Done (ending_of g))) vs ms rows
      go true h k = record { rest = k; ready = (r h).0; less = (r h).1 }
      go false h k = record { says = sym (k ∙ onward-end f (tables_in areas g.areas symbols g.symbols) g vs ms rows); few = few-end areas g.areas g.standing g.lines g.stop s }

skipped-is : (q : the.Pair) (b ms es xs b' ms' es' xs' : List ℕ) → BodyIs q Skipped b ms es xs b' ms' es' xs' → q ≡ the.skipped
skipped-is the.skipped b ms es xs b' ms' es' xs' w = refl
skipped-is (the.placed c r) b ms es xs b' ms' es' xs' w = absurd w

-- a pair that fits, or does not
pub record Seen (q : the.Pair) (a n ar k : ℕ) (b ms es xs b' ms' es' xs' : List ℕ) : Type 0 where
  pub content : the.Content
  pub relocation : the.Relocation
  pub is : q ≡ the.placed content relocation
  pub so : PlacedIs content relocation a n ar k b ms es xs b' ms' es' xs'

seen : (q : the.Pair) (a n ar k : ℕ) (b ms es xs b' ms' es' xs' : List ℕ) → BodyIs q (Placed a n ar k) b ms es xs b' ms' es' xs' → Seen q a n ar k b ms es xs b' ms' es' xs'
seen the.skipped a n ar k b ms es xs b' ms' es' xs' w = absurd w
seen (the.placed c r) a n ar k b ms es xs b' ms' es' xs' w = record { content = c; relocation = r; is = refl; so = w }

module _ (q : the.Pair) (p end lines : ℕ) {a n ar k : ℕ} {b ms es xs b' ms' es' xs' : List ℕ} (w : Seen q a n ar k b ms es xs b' ms' es' xs') where
  over-7 : 256 < n → fits lines (record { place = p; end = end; body = q }) ≡ refused 7 p
  unfolding fits
  over-7 h = let i : 256 < length w.content.bytes = omega (arith, w.so.count) in rw (w.is, lt-leb (length w.content.bytes) 256 i)

  module _ (h : n ≤ 256) where
    short : length w.content.bytes ≤ 256
    short = omega (arith, w.so.count)

    over-8 : 64 < k → fits lines (record { place = p; end = end; body = q }) ≡ refused 8 p
    unfolding fits
    over-8 j = let i : 64 < length w.relocation.fragments = omega (arith, w.so.fragments) in rw (w.is, le-leb (length w.content.bytes) 256 short, lt-leb (length w.relocation.fragments) 64 i)

    fits_both : k ≤ 64 → fits lines (record { place = p; end = end; body = q }) ≡ fine (lines + 1)
    unfolding fits
    fits_both j =
        let i : length w.relocation.fragments ≤ 64 = omega (arith, w.so.fragments) in
        let z : lines + 1 ≡ suc lines = omega arith in
        rw (w.is, le-leb (length w.content.bytes) 256 short, le-leb (length w.relocation.fragments) 64 i, z)

-- the turn at a place
module _ {ended : Bool} (f : text.Form) {text areas : List ℕ} (symbols : List ℕ) {g : Progress} (ready : Ready text areas g) {st : PairStep} {b ms es xs b' ms' es' xs' : List ℕ}
    (v : PairStepIs ended (form_of f) text g.next st b ms es xs b' ms' es' xs') (vs fs rows : List ℕ) where
  at_here : (ps : List (Taken the.Pair)) → pairs_at ended (form_of f) text g.next ≡ ps
      → onward_at ended (form_of f) text areas symbols g vs fs rows ≡ onward (form_of f) (tables_in areas g.areas symbols g.symbols) ps g vs fs rows
  unfolding onward_at
  at_here ps e = rw e

  -- a record further, the reading goes on from there
  ready-then : {body : Body} {end next : ℕ} {on : Bool} → StepOf (pair_at ended (form_of f) text g.next) text g.next body end next on b ms es xs b' ms' es' xs' → (m : ℕ) → m ≤ g.lines + 1
      → (h : Home) → h ≡ home_at areas g.areas h.area → (s : Standing) → Sound areas g.areas s → on ≡ true → Ready text areas (standing_in (stepped_of g m end next on) h s) × (g.next < next)
  ready-then o m l h j s i e = (
    record { inside = o.inside; low = omega (arith, ready.low, o.more e); areas-low = ready.areas-low; symbols-low = ready.symbols-low; sound = i; homed = j },
    o.more e,
  )

  leaves : (st : PairStep) → StepSays (pair_at ended (form_of f) text g.next) text g.next st b ms es xs b' ms' es' xs' → (u : Turn) → plan_of st g f ≡ Leave u
      → TurnIs ended (form_of f) text areas symbols g.next (onward_at ended (form_of f) text areas symbols g vs fs rows) u vs fs rows
  unfolding fits place_pair
  leaves Ends y u e =
      let d : Done (ending_of g) ≡ u = cc in
      let t = tables_in areas g.areas symbols g.symbols in
      subst (λ (x : Turn). TurnIs ended (form_of f) text areas symbols g.next (onward_at ended (form_of f) text areas symbols g vs fs rows) x vs fs rows) d
      (record { says = record { says = sym (at_here [] (at-ends ended (form_of f) text g.next y) ∙ onward-end (form_of f) t g vs fs rows); few = few-end areas g.areas g.standing g.lines g.stop ready.sound } })
  leaves (Takes Skipped end next on) y u e =
      let d : after_of (stepped_of g g.lines end next on) ≡ u = cc in
      let t = tables_in areas g.areas symbols g.symbols in
      let q = skipped-is y.pair b ms es xs b' ms' es' xs' y.body_is in
      let x : Taken the.Pair = record { place = g.next; end = end; body = y.pair } in
      let s : stands g.standing vs fs rows ≡ and_then (stands g.standing vs fs rows) (λ s. place_pair (form_of f) t s x) = rw q (and-fine (stands g.standing vs fs rows)) in
      subst (λ (x : Turn). TurnIs ended (form_of f) text areas symbols g.next (onward_at ended (form_of f) text areas symbols g vs fs rows) x vs fs rows) d
      (after_is ended (form_of f) text areas symbols g.next vs fs rows (stepped_of g g.lines end next on)
      (ready-then y g.lines (omega arith) g.home ready.homed g.standing ready.sound) ready.sound
      (at_here _ (at_takes ended (form_of f) text g.next y) ∙ onward-step (form_of f) t x (pick on (pairs_at ended (form_of f) text next) []) g g.lines next on g.home g.standing vs fs rows vs fs rows (rw q) s))
  leaves (Takes (Placed a n ar k) end next on) y u e = go (ltb 256 n) (ltb 64 k) refl refl e
    where
      t : Tables
      t = tables_in areas g.areas symbols g.symbols

      x : Taken the.Pair
      x = record { place = g.next; end = end; body = y.pair }

      w : Seen y.pair a n ar k b ms es xs b' ms' es' xs'
      w = seen y.pair a n ar k b ms es xs b' ms' es' xs' y.body_is

      no : (c : ℕ) → fits g.lines x ≡ refused c g.next → TurnIs ended (form_of f) text areas symbols g.next (onward_at ended (form_of f) text areas symbols g vs fs rows) (Done (Rejected c g.next)) vs fs rows
      no c h = record { says = record { says = sym (at_here _ (at_takes ended (form_of f) text g.next y) ∙ onward-over (form_of f) t x (pick on (pairs_at ended (form_of f) text next) []) g vs fs rows c g.next h); few = tt } }

      go : (i j : Bool) → ltb 256 n ≡ i → ltb 64 k ≡ j
          → pick i (refused_pair 7 g.next) (pick j (refused_pair 8 g.next) (Place (line_for f g.next a n ar k) (stepped_of g (one_more g.lines) end next on))) ≡ Leave u
          → TurnIs ended (form_of f) text areas symbols g.next (onward_at ended (form_of f) text areas symbols g vs fs rows) u vs fs rows
      go true j p q h =
          let d : Done (Rejected 7 g.next) ≡ u = cc in
          subst (λ (x : Turn). TurnIs ended (form_of f) text areas symbols g.next (onward_at ended (form_of f) text areas symbols g vs fs rows) x vs fs rows) d (no 7 (over-7 y.pair g.next end g.lines w (ltb-true 256 n p)))
      go false true p q h =
          let d : Done (Rejected 8 g.next) ≡ u = cc in
          subst (λ (x : Turn). TurnIs ended (form_of f) text areas symbols g.next (onward_at ended (form_of f) text areas symbols g vs fs rows) x vs fs rows) d (no 8 (over-8 y.pair g.next end g.lines w (ltb-false 256 n p) (ltb-true 64 k q)))
      go false false p q h = absurd (let z : ◌≡◌ {A = ℕ} 0 1 = cc in omega arith)

  pub turn-leaves : {pl : Plan} → pl ≡ plan_of st g f → {u : Turn} → pl ≡ Leave u → {r : Turn} → r ≡ turn_of pl
      → TurnIs ended (form_of f) text areas symbols g.next (onward_at ended (form_of f) text areas symbols g vs fs rows) r vs fs rows
  turn-leaves e {u} i j = rw (j, i) (leaves st v.says u (sym e ∙ i))

-- a plan to place: what was read
pub record Planned (st : PairStep) (g : Progress) (f : text.Form) (l : Line) (g' : Progress) : Type 0 where
  pub address : ℕ
  pub count : ℕ
  pub area : ℕ
  pub fragments : ℕ
  pub end : ℕ
  pub next : ℕ
  pub on : Bool
  pub step : st ≡ Takes (Placed address count area fragments) end next on
  pub line : line_for f g.next address count area fragments ≡ l
  pub going : stepped_of g (g.lines + 1) end next on ≡ g'
  pub short : count ≤ 256
  pub few : fragments ≤ 64

planned : (st : PairStep) (g : Progress) (f : text.Form) (l : Line) (g' : Progress) → g.lines ≤ 65536 → plan_of st g f ≡ Place l g' → Planned st g f l g'
planned Ends g f l g' low e = absurd (let z : ◌≡◌ {A = ℕ} 0 1 = cc in omega arith)
planned (Takes Skipped end next on) g f l g' low e = absurd (let z : ◌≡◌ {A = ℕ} 0 1 = cc in omega arith)
planned (Takes (Placed a n ar k) end next on) g f l g' low e = go (ltb 256 n) (ltb 64 k) refl refl (rw (← more-counted g.lines (omega arith)) at e)
  where
    go : (i j : Bool) → ltb 256 n ≡ i → ltb 64 k ≡ j
        → pick i (refused_pair 7 g.next) (pick j (refused_pair 8 g.next) (Place (line_for f g.next a n ar k) (stepped_of g (g.lines + 1) end next on))) ≡ Place l g'
        → Planned (Takes (Placed a n ar k) end next on) g f l g'
    go true j p q h = absurd (let z : ◌≡◌ {A = ℕ} 0 1 = cc in omega arith)
    go false true p q h = absurd (let z : ◌≡◌ {A = ℕ} 0 1 = cc in omega arith)
    go false false p q h = record {
      address = a;
      count = n;
      area = ar;
      fragments = k;
      end = end;
      next = next;
      on = on;
      step = refl;
      line = cc;
      going = cc;
      short = ltb-false 256 n p;
      few = ltb-false 64 k q;
    }

width_low : (w : Width) → suc (more_of w) ≤ 4
width_low wide.Two = omega arith
width_low wide.Three = omega arith
width_low wide.Four = omega arith

zeros-256 : length {A = ℕ} (replicate 256 0) ≡ 256
zeros-256 = length-replicate {A = ℕ} 256 0

zeros-64 : length {A = ℕ} (replicate 64 0) ≡ 64
zeros-64 = length-replicate {A = ℕ} 64 0

module _ {ended : Bool} (f : text.Form) {text areas : List ℕ} {g : Progress} (ready : Ready text areas g) {st : PairStep} {b ms es xs b' ms' es' xs' : List ℕ}
    (v : PairStepIs ended (form_of f) text g.next st b ms es xs b' ms' es' xs') {pl : Plan} (e : pl ≡ plan_of st g f) {l : Line} {g' : Progress} (i : pl ≡ Place l g') (z : Columns b ms es xs) (low : g.lines ≤ 65536) where
  plan : Planned st g f l g'
  plan = planned st g f l g' low (sym e ∙ i)

  here : StepOf (pair_at ended (form_of f) text g.next) text g.next (Placed plan.address plan.count plan.area plan.fragments) plan.end plan.next plan.on b ms es xs b' ms' es' xs'
  here = rw plan.step at v.says

  w : Seen here.pair plan.address plan.count plan.area plan.fragments b ms es xs b' ms' es' xs'
  w = seen here.pair plan.address plan.count plan.area plan.fragments b ms es xs b' ms' es' xs' here.body_is

  pub turn-ready : {rows : List ℕ} → 9216 ≤ length rows → PlaceReady l g' b' areas rows
  turn-ready {rows} j =
      let long : length b' ≡ length b = rw w.so.bytes (length-sets b 0 w.content.bytes) in
      subst (λ (x : Line). PlaceReady x g' b' areas rows) plan.line
      (subst (λ (x : Progress). PlaceReady (line_for f g.next plan.address plan.count plan.area plan.fragments) x b' areas rows) plan.going
      (record {
        address = width_low f.width;
        content = plan.short;
        lent = omega (arith, plan.short, z.of-bytes);
        fragments = plan.few;
        areas-low = ready.areas-low;
        symbols-low = ready.symbols-low;
        sound = ready.sound;
        homed = ready.homed;
        room = j;
      }))

  body-eq : the.placed (content_of (line_for f g.next plan.address plan.count plan.area plan.fragments) b') (record { area = plan.area; fragments = fragments_in ms' es' xs' plan.fragments }) ≡ here.pair
  body-eq =
      let few = plan.few in
      let long : length w.relocation.fragments ≤ 64 = omega (arith, w.so.fragments) in
      let c : content_of (line_for f g.next plan.address plan.count plan.area plan.fragments) b' ≡ w.content =
      λ j. record { address = w.so.address j; bytes = content-in w.content.bytes plan.count b w.so.count (omega (arith, plan.short, z.of-bytes)) w.so.bytes j } in
      let fs : fragments_in ms' es' xs' plan.fragments ≡ w.relocation.fragments =
      ap (fragments_in ms' es' xs') w.so.fragments ∙ fragments-in w.relocation.fragments (omega (arith, z.of-modes)) (omega (arith, z.of-entries)) (omega (arith, z.of-indexes)) w.so.rows in
      let r : ◌≡◌ {A = the.Relocation} (record { area = plan.area; fragments = fragments_in ms' es' xs' plan.fragments }) w.relocation = λ j. record { area = w.so.area j; fragments = fs j } in
      (λ j. the.placed (c j) (r j)) ∙ sym w.is

  pub turn-places : (symbols : List ℕ) {vs fs rows : List ℕ} {r : Turn} {vs' fs' rows' : List ℕ} → Advances l g' b' ms' es' xs' areas symbols vs fs rows r vs' fs' rows'
      → TurnIs ended (form_of f) text areas symbols g.next (onward_at ended (form_of f) text areas symbols g vs fs rows) r vs' fs' rows'
  unfolding pair_of
  turn-places symbols {vs} {fs} {rows} {r} {vs'} {fs'} {rows'} d =
      let line = line_for f g.next plan.address plan.count plan.area plan.fragments in
      let going = stepped_of g (g.lines + 1) plan.end plan.next plan.on in
      let a : Advances line going b' ms' es' xs' areas symbols vs fs rows r vs' fs' rows' =
      subst (λ (x : Line). Advances x going b' ms' es' xs' areas symbols vs fs rows r vs' fs' rows') (sym plan.line)
      (subst (λ (x : Progress). Advances l x b' ms' es' xs' areas symbols vs fs rows r vs' fs' rows') (sym plan.going) d) in
      let t = tables_in areas g.areas symbols g.symbols in
      let x : Taken the.Pair = record { place = g.next; end = plan.end; body = here.pair } in
      let h : stands a.standing vs' fs' rows' ≡ and_then (stands g.standing vs fs rows) (λ s. place_pair (form_of f) t s x) =
      a.says f.radix plan.end ∙ ap (λ (q : the.Pair). and_then (stands g.standing vs fs rows) (λ s. place_pair (form_of f) t s (record { place = g.next; end = plan.end; body = q }))) body-eq in
      subst (λ (u : Turn). TurnIs ended (form_of f) text areas symbols g.next (onward_at ended (form_of f) text areas symbols g vs fs rows) u vs' fs' rows') (sym a.answered)
      (after_is ended (form_of f) text areas symbols g.next vs' fs' rows' (standing_in going a.home a.standing)
      (ready-then f symbols ready v vs fs rows here (g.lines + 1) (omega arith) a.home a.homed a.standing a.sound) a.sound
      (at_here f symbols ready v vs fs rows _ (at_takes ended (form_of f) text g.next here)
      ∙ onward-step (form_of f) t x (pick plan.on (pairs_at ended (form_of f) text plan.next) []) g (g.lines + 1) plan.next plan.on a.home a.standing vs fs rows vs' fs' rows'
      (fits_both here.pair g.next plan.end g.lines w plan.short plan.few) h))

  pub turn-carries : {zs os zs' os' : List ℕ} {r : Turn} → CarriedBy g'.areas zs os r zs' os' → CarriedBy g.areas zs os r zs' os'
  turn-carries {zs} {os} {zs'} {os'} {r} d = subst (λ (n : ℕ). CarriedBy n zs os r zs' os') (ap (λ (x : Progress). x.areas) (sym plan.going)) d

-- what a turn asks on the way
pub ready-inside : {text areas : List ℕ} {g : Progress} → Ready text areas g → g.next ≤ length text
ready-inside w = w.inside

pub ready-low : {text areas : List ℕ} {g : Progress} → Ready text areas g → length text ≤ 65536 → g.lines ≤ 65536
ready-low w h = omega (arith, w.low, w.inside)

pub ruleset turns = (rules, ready-inside, ready-low, turn-leaves, turn-ready, turn-places)

-- what is lent to a turn can be lent to the next
pub columns-start : Columns (replicate 256 0) (replicate 64 0) (replicate 64 0) (replicate 64 0)
columns-start = record { of-bytes = zeros-256; of-modes = zeros-64; of-entries = zeros-64; of-indexes = zeros-64 }

pub columns-then : (f : Form) (text : List ℕ) (p : ℕ) {b ms es xs b' ms' es' xs' : List ℕ} → Columns b ms es xs → LeftAt f text p b ms es xs b' ms' es' xs' → Columns b' ms' es' xs'
columns-then f text p {b} {ms} {es} {xs} w v = record {
  of-bytes = rw v.bytes (length-sets b 0 (bytes_at f text p) ∙ w.of-bytes);
  of-modes = rw v.rows.of-modes (length-sets ms 0 (modes (fragments_at f text p)) ∙ w.of-modes);
  of-entries = rw v.rows.of-entries (length-sets es 0 (entries (fragments_at f text p)) ∙ w.of-entries);
  of-indexes = rw v.rows.of-indexes (length-sets xs 0 (indexes (fragments_at f text p)) ∙ w.of-indexes);
}

pub ruleset lending = (rules, columns-start, columns-then)

-- ------------------------------------------------------------------ the loop

pub record Rounds (ended : Bool) (f : Form) (text areas symbols : List ℕ) (g₀ : Progress) (vs₀ ms₀ rows₀ : List ℕ) (g : Progress) (now vs ms rows : List ℕ) : Type 0 where
  pub rest : onward_at ended f text areas symbols g₀ vs₀ ms₀ rows₀ ≡ onward_at ended f text areas symbols g vs ms rows
  pub ready : Ready text areas g
  pub values-long : length vs ≡ length vs₀
  pub masks-long : length ms ≡ length ms₀
  pub rows_long : length rows ≡ length rows₀
  pub areas-long : length now ≡ length areas
  pub carried : Carried g₀.areas areas ms₀ now ms
  pub as_many : g.areas ≡ g₀.areas

pub round-start : (ended : Bool) (f : Form) (text areas symbols : List ℕ) (g : Progress) (vs ms rows : List ℕ) → Ready text areas g → Rounds ended f text areas symbols g vs ms rows g areas vs ms rows
round-start ended f text areas symbols g vs ms rows w = record {
  rest = refl;
  ready = w;
  values-long = refl;
  masks-long = refl;
  rows_long = refl;
  areas-long = refl;
  carried = carried_none g.areas areas ms;
  as_many = refl;
}

module _ {ended : Bool} {f : Form} {text areas symbols : List ℕ} {g₀ : Progress} {vs₀ ms₀ rows₀ : List ℕ} {g : Progress} {now vs ms rows : List ℕ}
    (w : Rounds ended f text areas symbols g₀ vs₀ ms₀ rows₀ g now vs ms rows) where
  pub round-ready : Ready text now g
  round-ready = ready-same areas now (λ k. sym (w.carried.same k)) w.ready

  pub round_room : 9216 ≤ length rows₀ → 9216 ≤ length rows
  round_room h = omega (arith, w.rows_long)

  module _ {u : Turn} {vs' ms' rows' : List ℕ} (v : TurnIs ended f text now symbols g.next (onward_at ended f text now symbols g vs ms rows) u vs' ms' rows')
      {now' : List ℕ} (c : CarriedBy g.areas now ms u now' ms') where
    turn : TurnIs ended f text areas symbols g.next (onward_at ended f text areas symbols g vs ms rows) u vs' ms' rows'
    turn = turn-same now areas w.carried.same g vs ms rows v

    carried_on : Carried g₀.areas areas ms₀ now' ms'
    carried_on = carried-then w.carried (rw w.as_many at c.carried)

    pub round-done : {two : Paired} → u ≡ Done two → {r : Paired} → r ≡ two_of u → (GroupedTwo (onward_at ended f text areas symbols g₀ vs₀ ms₀ rows₀) r vs' ms' rows') × (Carried g₀.areas areas ms₀ now' ms')
    round-done {two} e i =
        let k : GroupedTwo (onward_at ended f text areas symbols g vs ms rows) two vs' ms' rows' = rw e at turn.says in
        (rw (i, e) (record { says = k.says ∙ sym w.rest; few = k.few }), carried_on)

    module _ {g' : Progress} (e : u ≡ Goes g') where
      on : GoesOn ended f text areas symbols g.next (onward_at ended f text areas symbols g vs ms rows) g' vs' ms' rows'
      on = rw e at turn.says

      pub round-less : length text - g'.next < length text - g.next
      round-less = omega (arith, on.less, on.ready.inside)

      pub round-again : length vs' ≡ length vs → length ms' ≡ length ms → length rows' ≡ length rows → length now' ≡ length now → Rounds ended f text areas symbols g₀ vs₀ ms₀ rows₀ g' now' vs' ms' rows'
      round-again a b d l = record {
        rest = w.rest ∙ on.rest;
        ready = on.ready;
        values-long = a ∙ w.values-long;
        masks-long = b ∙ w.masks-long;
        rows_long = d ∙ w.rows_long;
        areas-long = l ∙ w.areas-long;
        carried = carried_on;
        as_many = (rw e at c.as_many) ∙ w.as_many;
      }

pub ruleset rounds = (rules, round-start, round-ready, round_room, round-done, round-less, round-again)
