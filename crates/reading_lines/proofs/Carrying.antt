-- The known bits in the rows of areas, from pair to pair; and that nothing else of a turn sees them.
-- Assumes nothing.
use Prim.Native.Nat.{ℕ, ◌+◌, ◌-◌, ◌*◌, ◌≤◌, ◌<◌}
use mathlib.Core.Path.{◌≡◌, refl, ap, sym, subst, ◌∙◌}
use mathlib.Core.Bool.{Bool, true, false}
use mathlib.Core.List.{List}
use mathlib.Core.Option.{none, some}
use native.Mathlib.Omega.{arith}
use lib.ListN.{length, get_or, set}
use lib.Dec.{leb, ltb}
use borrow.Author.Rules.{rules}
use borrow.Author.Tests.{le-leb, ltb-true, ltb-false}
use Rattle.format.specs.Lists.{pick}
use Rattle.format.specs.Header.{Form}
use Rattle.format.specs.Pairs.{Relocation}
use Rattle.format.specs.Outcome.{Outcome, fine}
use Rattle.format.specs.Tables.{Area, Tables, rank, offset, total}
use Rattle.format.specs.Placing.{State, extent, place_in, place_pair}
use Rattle.format.specs.Known.{ones_of}
use Rattle.laws.specs.Rows.{areas_in, symbols_in, tables_in, state_of, known_at}
use Rattle.laws.specs.Spared.{Spared}
use Rattle.laws.specs.Places.{pairs_at}
use Rattle.laws.proofs.Known.{same-areas}
use Rattle.laws.proofs.KnownPlacing.{a-pair-spares-the-others, no-area-no-mask}
use Rattle.area_rows.specs.Known.{narrowed}
use Rattle.images.specs.Image.{moved}
use Rattle.homes.specs.Home.{no_home, home_by_of, home_at}
use Rattle.homes.specs.declared.Home.{Home}
use Rattle.sites.specs.declared.Line.{Line}
use Rattle.sites.specs.declared.Filled.{Filled}
use Rattle.place.specs.Kept.{Kept}
use Rattle.sites.specs.Columns.{fragments_in}
use Rattle.place.specs.Pair.{form_of, content_of, pair_of, told, changes, known_now}
use Rattle.place.proofs.KnownRows.{areas-length, known-low, kept_on, kept-past}
use Rattle.place.specs.declared.pair.Placed as place
use Rattle.place.specs.declared.pair.Placed.TheVariants.{Done as Through, Stopped, Misfit}
use Rattle.header.specs.declared.Form as text
use Rattle.steps.specs.declared.pair.Body.TheVariants.{Skipped, Placed}
use Rattle.steps.specs.declared.pair.PairStep.{PairStep}
use Rattle.steps.specs.declared.pair.PairStep.TheVariants.{Ends, Takes}
use Rattle.planning.specs.Plan.{one_more, line_for, plan_of}
use Rattle.pair_limits.specs.Limits.{refused_pair}
use Rattle.turns.specs.Turns.{ending_of, after_of, stepped_of, standing_in, turn_of}
use Rattle.turns.specs.declared.Standing.{Standing}
use Rattle.turns.specs.declared.Standing.TheVariants.{Made, Barred as Refused}
use Rattle.turns.specs.declared.Progress.{Progress}
use Rattle.turns.specs.declared.Paired.TheVariants.{Rejected}
use Rattle.turns.specs.declared.Turn.{Turn}
use Rattle.turns.specs.declared.Turn.TheVariants.{Goes, Done}
use Rattle.turns.specs.declared.Plan.{Plan}
use Rattle.turns.specs.declared.Plan.TheVariants.{Leave, Place}
use Rattle.reading_lines.specs.Onward.{Ended, onward, onward_at, standing_of, filled_of, kept_in, Sound, Ready, Carried, listed, CarriedBy, GoesOn, TurnSays, TurnIs}

-- `keep_known`
pub keep-through : (areas : List ℕ) (i : ℕ) {r : place.Placed} {k x : ℕ} → r ≡ Through k x → {areas' : List ℕ} → areas' ≡ set areas (7 * i + 6) (narrowed x) → areas' ≡ kept_in areas i r
keep-through areas i e f = rw e f

pub keep-stopped : (areas : List ℕ) (i : ℕ) {r : place.Placed} {n p : ℕ} → r ≡ Stopped n p → areas ≡ kept_in areas i r
keep-stopped areas i e = rw e

pub keep-misfit : (areas : List ℕ) (i : ℕ) {r : place.Placed} → r ≡ Misfit → areas ≡ kept_in areas i r
keep-misfit areas i e = rw e

pub ruleset keeping = (rules, keep-through, keep-stopped, keep-misfit)

-- ------------------------------------------------------------------ a turn does not see the known bits

module _ (a b : List ℕ) (same : (k : ℕ) → areas_in a k ≡ areas_in b k) where
  home_same : (n i : ℕ) → home_at a n i ≡ home_at b n i
  unfolding home_at
  home_same n i = ap (λ (zs : List Area). pick (leb n 64) (home_by_of i (offset zs i) (extent zs i) (rank 0 zs i)) (no_home i)) (same n)

  sound-same : (n : ℕ) (s : Standing) → Sound a n s → Sound b n s
  sound-same n (Made k) h = (h.0, subst (λ (zs : List Area). total zs ≤ 65536) (same n) h.1)
  sound-same n (Refused x p) h = tt

  pub ready-same : {text : List ℕ} {g : Progress} → Ready text a g → Ready text b g
  ready-same {text} {g} r = record {
    inside = r.inside;
    low = r.low;
    areas-low = r.areas-low;
    symbols-low = r.symbols-low;
    sound = sound-same g.areas g.standing r.sound;
    homed = r.homed ∙ home_same g.areas g.home.area;
  }

  pub onward-same : (ended : Bool) (f : Form) (text symbols : List ℕ) (g : Progress) (vs ms rows : List ℕ) → onward_at ended f text a symbols g vs ms rows ≡ onward_at ended f text b symbols g vs ms rows
  unfolding onward_at tables_in
  onward-same ended f text symbols g vs ms rows =
      ap (λ (zs : List Area). onward f (record { areas = zs; symbols = symbols_in symbols g.symbols }) (pairs_at ended f text g.next) g vs ms rows) (same g.areas)

  says_same : (ended : Bool) (f : Form) (text symbols : List ℕ) (p : ℕ) (o : Outcome Ended) (u : Turn) (vs ms rows : List ℕ) → TurnSays ended f text a symbols p o u vs ms rows → TurnSays ended f text b symbols p o u vs ms rows
  says_same ended f text symbols p o (Goes g) vs ms rows v = record { rest = v.rest ∙ onward-same ended f text symbols g vs ms rows; ready = ready-same v.ready; less = v.less }
  says_same ended f text symbols p o (Done two) vs ms rows v = v

  pub turn-same : {ended : Bool} {f : Form} {text symbols : List ℕ} {p : ℕ} (g : Progress) (vs₀ ms₀ rows₀ : List ℕ) {u : Turn} {vs ms rows : List ℕ}
      → TurnIs ended f text a symbols p (onward_at ended f text a symbols g vs₀ ms₀ rows₀) u vs ms rows → TurnIs ended f text b symbols p (onward_at ended f text b symbols g vs₀ ms₀ rows₀) u vs ms rows
  turn-same {ended} {f} {text} {symbols} {p} g vs₀ ms₀ rows₀ {u} {vs} {ms} {rows} v = record {
    says = says_same ended f text symbols p (onward_at ended f text b symbols g vs₀ ms₀ rows₀) u vs ms rows
        (subst (λ (o : Outcome Ended). TurnSays ended f text a symbols p o u vs ms rows) (onward-same ended f text symbols g vs₀ ms₀ rows₀) v.says);
  }

-- ------------------------------------------------------------------ nothing placed

pub carried_none : (n : ℕ) (areas ms : List ℕ) → Carried n areas ms areas ms
carried_none n areas ms = record { same = λ k. refl; keeps = λ w. w }

pub carried-then : {n : ℕ} {a ms b os c us : List ℕ} → Carried n a ms b os → Carried n b os c us → Carried n a ms c us
carried-then v w = record { same = λ k. w.same k ∙ v.same k; keeps = λ h. w.keeps (v.keeps h) }

-- a turn keeps the areas
pub after-listed : (n : ℕ) (g : Progress) → g.areas ≡ n → listed n (after_of g) ≡ n
after-listed n g e = go g.on
  where
    go : (b : Bool) → listed n (pick b (Goes g) (Done (ending_of g))) ≡ n
    go true = e
    go false = refl

leave-listed : (st : PairStep) (g : Progress) (f : text.Form) (u : Turn) → plan_of st g f ≡ Leave u → listed g.areas u ≡ g.areas
leave-listed Ends g f u e = let d : Done (ending_of g) ≡ u = cc in subst (λ (x : Turn). listed g.areas x ≡ g.areas) d refl
leave-listed (Takes Skipped end next on) g f u e =
    let d : after_of (stepped_of g g.lines end next on) ≡ u = cc in
    subst (λ (x : Turn). listed g.areas x ≡ g.areas) d (after-listed g.areas (stepped_of g g.lines end next on) refl)
leave-listed (Takes (Placed a n ar k) end next on) g f u e = go (ltb 256 n) (ltb 64 k) e
  where
    go : (i j : Bool) → pick i (refused_pair 7 g.next) (pick j (refused_pair 8 g.next) (Place (line_for f g.next a n ar k) (stepped_of g (one_more g.lines) end next on))) ≡ Leave u → listed g.areas u ≡ g.areas
    go true j h = let d : Done (Rejected 7 g.next) ≡ u = cc in subst (λ (x : Turn). listed g.areas x ≡ g.areas) d refl
    go false true h = let d : Done (Rejected 8 g.next) ≡ u = cc in subst (λ (x : Turn). listed g.areas x ≡ g.areas) d refl
    go false false h = absurd (let z : ◌≡◌ {A = ℕ} 0 1 = cc in omega arith)

-- a turn that places nothing
pub carried-leave : (f : text.Form) (areas ms : List ℕ) (st : PairStep) (g : Progress) {pl : Plan} → pl ≡ plan_of st g f → {u : Turn} → pl ≡ Leave u → {r : Turn} → r ≡ turn_of pl → CarriedBy g.areas areas ms r areas ms
carried-leave f areas ms st g e {u} i j = record { carried = carried_none g.areas areas ms; as_many = rw (j, i) (leave-listed st g f u (sym e ∙ i)) }

-- a pair behind a refusal
pub carried-refused : (areas ms : List ℕ) (g : Progress) (h : Home) (s : Standing) {g' : Progress} {u : Turn} → g' ≡ standing_in g h s → u ≡ after_of g' → CarriedBy g.areas areas ms u areas ms
carried-refused areas ms g h s {g'} e i = record { carried = carried_none g.areas areas ms; as_many = rw i (after-listed g.areas g' (ap (λ (x : Progress). x.areas) e)) }

-- ------------------------------------------------------------------ a pair placed

narrowed_low : (x : ℕ) → x ≤ 524288 → narrowed x ≡ x
unfolding narrowed
narrowed_low x h = rw (le-leb x 4294967295 (omega arith))

module _ (areas symbols : List ℕ) (n : ℕ) (sizes : total (areas_in areas n) ≤ 65536) (l : Line) (bytes ms es xs : List ℕ) (q : Filled) (nq : q.areas ≡ n) (vs fs rows : List ℕ) (k : ℕ) where
  -- by what the definition says of the pair
  through : (j x : ℕ) (vs' fs' rows' : List ℕ) → ((i : ℕ) → get_or fs' i 0 < 256) → pair_of l bytes ms es xs areas symbols q (state_of vs fs rows k) 16 0 ≡ fine (state_of vs' fs' rows' j)
      → x ≡ moved (known_at areas l.area) fs fs' → Kept n areas fs → Kept n (set areas (7 * l.area + 6) (narrowed x)) fs'
  unfolding pair_of place_pair tables_in state_of moved
  through j x vs' fs' rows' small e m w = go (ltb l.area n) refl
    where
      t : Tables
      t = record { areas = areas_in areas q.areas; symbols = symbols_in symbols q.symbols }

      r : Relocation
      r = record { area = l.area; fragments = fragments_in ms es xs l.fragments }

      go : (b : Bool) → ltb l.area n ≡ b → Kept n (set areas (7 * l.area + 6) (narrowed x)) fs'
      go true c =
          let s : Spared (offset (areas_in areas n) l.area) (extent (areas_in areas n) l.area) fs fs' =
          rw nq at (a-pair-spares-the-others (form_of 16 l) t l.place (content_of l bytes) r (rank 0 (areas_in areas q.areas) l.area) (state_of vs fs rows k) (state_of vs' fs' rows' j) e) in
          let low = known-low w l.area (ltb-true l.area n c) s m sizes small in
          subst (λ (y : ℕ). Kept n (set areas (7 * l.area + 6) y) fs') (sym (narrowed_low x low)) (kept_on w l.area (ltb-true l.area n c) s m)
      go false c =
          let h : n ≤ l.area = ltb-false l.area n c in
          let s : fs' ≡ fs = no-area-no-mask (form_of 16 l) t l.place (content_of l bytes) r (state_of vs fs rows k) (state_of vs' fs' rows' j) (omega (arith, areas-length areas q.areas)) e in
          subst (λ (y : List ℕ). Kept n (set areas (7 * l.area + 6) (narrowed x)) y) (sym s) (kept-past w l.area (narrowed x) h)

  -- by the answer
  pub carries : (r : place.Placed) {areas' : List ℕ} (vs' fs' rows' : List ℕ) → ((i : ℕ) → get_or fs' i 0 < 256)
      → told r vs' fs' rows' ≡ some (pair_of l bytes ms es xs areas symbols q (state_of vs fs rows k) 16 0) → (changes r ≡ false → fs' ≡ fs)
      → q.known ≡ known_at areas l.area → known_now q.known r ≡ moved q.known fs fs' → areas' ≡ kept_in areas l.area r → Carried n areas fs areas' fs'
  carries (Through j x) {areas'} vs' fs' rows' small e still i m a =
      let f : pair_of l bytes ms es xs areas symbols q (state_of vs fs rows k) 16 0 ≡ fine (state_of vs' fs' rows' j) = cc in
      record {
        same = λ c. ap (λ (y : List ℕ). areas_in y c) a ∙ same-areas areas l.area (narrowed x) c;
        keeps = λ w. subst (λ (y : List ℕ). Kept n y fs') (sym a) (through j x vs' fs' rows' small f (m ∙ ap (λ (y : ℕ). moved y fs fs') i) w);
      }
  carries (Stopped c p) vs' fs' rows' small e still i m a =
      let f = still refl in
      record { same = λ c. ap (λ (y : List ℕ). areas_in y c) a; keeps = λ w. rw (a, f) w }
  carries Misfit vs' fs' rows' small e still i m a =
      let f = still refl in
      record { same = λ c. ap (λ (y : List ℕ). areas_in y c) a; keeps = λ w. rw (a, f) w }
