-- The laws of what two lines at a place do to group two.
-- Assumes nothing.
use Prim.Native.Nat.{ℕ, ◌+◌, ◌-◌, ◌^◌, ◌<◌, ◌≤◌}
use mathlib.Core.Path.{◌≡◌, refl, sym, subst, ◌∙◌}
use mathlib.Core.Bool.{Bool, true, false, ◌&&◌}
use mathlib.Core.List.{List}
use native.Mathlib.Omega.{arith}
use lib.ListN.{length, take, drop, length-drop}
use lib.Seq.{length-take-le}
use lib.Dec.{leb, eqb}
use mir.Val.{Fits as Fit64}
use mir.Syntax.{w64}
use borrow.Author.Rules.{rules}
use borrow.Author.Tests.{ne_eqb}
use Rattle.format.specs.Lists.{pick}
use Rattle.format.specs.Got.{Got, is, isnt}
use Rattle.format.specs.Header.{Form}
use Rattle.format.specs.Lines.{Line, width}
use Rattle.format.specs.Pairs.{whole_content, content_line, relocation_line, pair_of, pair_lines}
use Rattle.format.specs.Records.{Step, stops, last, goes, step_of}
use Rattle.format.specs.Pairs as the
use Rattle.laws.specs.Places.{end_at, next_line, line_at, pair_at}
use Rattle.laws.proofs.Within.{Holds, PairIn, pair-in}
use Rattle.line_step.specs.Steps.{line_step}
use Rattle.line_step.specs.declared.LineStep.{LineStep}
use Rattle.line_step.specs.declared.LineStep.TheVariants.{Stops, Goes, Last}
use Rattle.pair_places.specs.Places.{LinesAt, PlacesAre}
use Rattle.pair_places.specs.declared.PairPlaces.{PairPlaces}
use Rattle.std.specs.Prelude.{Option, Some, None}
use Rattle.steps.specs.Entries.{LineIs}
use Rattle.steps.specs.PairLines.{none, case_of, Left, LeftAt, BodyIs, PairSays, PairIs, StepSays, PairStepIs, UsedBounds, UsedIn, step_on, step_from}
use Rattle.steps.specs.declared.pair.Body.{Body}
use Rattle.steps.specs.declared.pair.PairLine.{PairLine}
use Rattle.steps.specs.declared.pair.PairStep.{PairStep}
use Rattle.steps.specs.declared.pair.PairStep.TheVariants.{Ends, Takes}
use Rattle.text_lines.specs.declared.LineAt.{LineAt}
use Rattle.steps.proofs.Entries.{end-in, line-in, some_end}

-- `pair_step`
module _ (s : List ℕ) {p : ℕ} {l : LineAt} (w : LineIs s p l) where
  line-wide : length (take (l.end - p) (drop p s)) + l.ends ≡ l.next - p
  line-wide =
      let k : l.end - p ≤ length (drop p s) = omega (arith, length-drop p s, end-in s w) in
      omega (arith, length-take-le (l.end - p) (drop p s) k, w.from, w.width)

  part-long : length (take (l.end - p) (drop p s)) ≡ l.end - p
  part-long = let k : l.end - p ≤ length (drop p s) = omega (arith, length-drop p s, end-in s w) in length-take-le (l.end - p) (drop p s) k

abbrev pub pair_here : Form → List ℕ → ℕ → LineAt → LineAt → Got the.Pair
pair_here f s p l k = pair_of f (l.next - p) (take (l.end - p) (drop p s)) (take (k.end - l.next) (drop l.next s))

pair-at-is : (ended : Bool) (f : Form) (s : List ℕ) (p : ℕ) {l k : LineAt} → LineIs s p l → LineIs s l.next k → (l.ends ≡ 0 → ⊥)
    → pair_at ended f s p ≡ step_of ended p (k.end - p) k.ends k.next (pair_here f s p l k)
unfolding pair_at pair_lines line_at width
pair-at-is ended f s p {l} {k} w v z =
    rw (← w.behind, ← v.ends_at, ← v.line-end, ← v.behind, ← w.ends_at, ← w.line-end, ne_eqb l.ends 0 z, line-wide s w)

-- the step as its parts make it
module _ (m : Step the.Pair) (s : List ℕ) (p : ℕ) (k : LineAt) (b ms es xs b' ms' es' xs' : List ℕ)
    (h : k.next ≡ next_line s (next_line s p)) (i : k.next ≤ length s) (j : 1 ≤ k.ends → p < k.next) where
  from_parts : (ended : Bool) (body : Body) (u : ℕ) (q : the.Pair) → BodyIs q body b ms es xs b' ms' es' xs'
      → m ≡ step_of ended p (k.end - p) k.ends k.next (is q u) → StepSays m s p (step_from (Some (record { body = body; used = u })) p k ended) b ms es xs b' ms' es' xs'
  from_parts ended body u q w e = go (eqb u (k.end - p) && leb 1 k.ends) ended refl e
    where
      go : (x y : Bool) → (eqb u (k.end - p) && leb 1 k.ends) ≡ x
          → m ≡ pick x (goes (record { place = p; end = pick y k.next (p + u); body = q })) (pick y stops (last (record { place = p; end = p + u; body = q })))
          → StepSays m s p (step_on body k.next (pick x (Goes (pick y k.next (p + u))) (pick y Stops (Last (p + u))))) b ms es xs b' ms' es' xs'
      go true y f v = record { pair = q; step = sym v; behind = h; inside = i; more = λ z. j (some_end (eqb u (k.end - p)) k.ends f); body_is = w }
      go false true f v = sym v
      go false false f v = record { pair = q; step = sym v; behind = h; inside = i; more = λ z. absurd (let y : ◌≡◌ {A = ℕ} 0 1 = cc in omega arith); body_is = w }

module _ (ended : Bool) (f : Form) (s : List ℕ) (p : ℕ) {l : LineAt} (w : LineIs s p l) where
  module _ (z : l.ends ≡ 0 → ⊥) {k : LineAt} (v : LineIs s l.next k) {o : Option PairLine} {b ms es xs b' ms' es' xs' : List ℕ}
      (m : PairIs (pair_here f s p l k) o b ms es xs b' ms' es' xs') where
    pub pstep-1 : {r : PairStep} → r ≡ step_from o p k ended → PairStepIs ended f s p r b ms es xs b' ms' es' xs'
    pstep-1 e = rw e (record { says = go o m.says })
      where
        at : pair_at ended f s p ≡ step_of ended p (k.end - p) k.ends k.next (pair_here f s p l k)
        at = pair-at-is ended f s p w v z

        no : (x : Got the.Pair) → case_of x ≡ none → step_of ended p (k.end - p) k.ends k.next x ≡ stops
        no (is q u) h = absurd (let y : ◌≡◌ {A = ℕ} 0 1 = cc in omega arith)
        no (isnt r q) h = refl

        go : (o : Option PairLine) → PairSays (pair_here f s p l k) o b ms es xs b' ms' es' xs' → StepSays (pair_at ended f s p) s p (step_from o p k ended) b ms es xs b' ms' es' xs'
        go None y = sym (at ∙ no (pair_here f s p l k) y)
        go (Some q) y =
            let behind : k.next ≡ next_line s (next_line s p) = rw (← w.behind) v.behind in
            from_parts (pair_at ended f s p) s p k b ms es xs b' ms' es' xs' behind v.inside (λ h. omega (arith, w.from, w.width, v.from, v.width)) ended q.body q.used y.pair y.body_is (at ∙ rw y.read)

-- what is left in what was lent
module _ (f : Form) (s : List ℕ) {p : ℕ} {l : LineAt} (w : LineIs s p l) where
  pub left-some : (l.ends ≡ 0 → ⊥) → {k : LineAt} → LineIs s l.next k → {b ms es xs b' ms' es' xs' : List ℕ}
      → Left (content_line f (take (l.end - p) (drop p s)) 0) (whole_content f (take (l.end - p) (drop p s))) (relocation_line f (take (k.end - l.next) (drop l.next s)) 0) b ms es xs b' ms' es' xs'
      → LeftAt f s p b ms es xs b' ms' es' xs'
  unfolding line_at
  left-some z {k} v d =
      let e : eqb (end_at s p) 0 ≡ false = rw (← w.line-end) (ne_eqb l.ends 0 z) in
      record {
        bytes = rw (e, ← w.ends_at) d.bytes;
        rows = rw (e, ← w.behind, ← v.ends_at, ← w.ends_at) d.rows;
      }

-- what a pair used stands inside the text, wherever its two lines stand there
module _ (f : Form) (s : List ℕ) (p q r u : ℕ) (h : p ≤ q) (i : q ≤ r) (j : r ≤ u) (k : u ≤ length s) where
  long-one : length (take (q - p) (drop p s)) ≡ q - p
  long-one = length-take-le (q - p) (drop p s) (omega (arith, length-drop p s))

  long-two : length (take (u - r) (drop r s)) ≡ u - r
  long-two = length-take-le (u - r) (drop r s) (omega (arith, length-drop r s))

  wide-one : length (take (q - p) (drop p s)) + (r - q) ≡ r - p
  wide-one = omega (arith, long-one)

  pair_inside : Holds (λ (b : the.Pair) (n : ℕ). p + n ≤ length s) (pair_of f (r - p) (take (q - p) (drop p s)) (take (u - r) (drop r s)))
  unfolding pair_lines width
  pair_inside =
      go (pair_of f (r - p) one.bytes two.bytes) (subst (λ (x : ℕ). Holds (PairIn f one two) (pair_of f x one.bytes two.bytes)) wide-one (pair-in f one two))
    where
      one : Line
      one = record { bytes = take (q - p) (drop p s); ends = r - q }

      two : Line
      two = record { bytes = take (u - r) (drop r s); ends = 0 }

      go : (m : Got the.Pair) → Holds (PairIn f one two) m → Holds (λ (b : the.Pair) (n : ℕ). p + n ≤ length s) m
      go (is b n) w = omega (arith, w, wide-one, long-two)
      go (isnt x y) w = tt

pub used-in : (f : Form) (s : List ℕ) (p q r u : ℕ) {o : Option PairLine} {b ms es xs b' ms' es' xs' : List ℕ}
    → PairIs (pair_of f (r - p) (take (q - p) (drop p s)) (take (u - r) (drop r s))) o b ms es xs b' ms' es' xs'
    → p ≤ q → q ≤ r → r ≤ u → u ≤ length s → length s < 2 ^ 64 → UsedIn p o
used-in f s p q r u {o} {b} {ms} {es} {xs} {b'} {ms'} {es'} {xs'} m h i j k l = record { bounds = go o m.says }
  where
    go : (o : Option PairLine) → PairSays (pair_of f (r - p) (take (q - p) (drop p s)) (take (u - r) (drop r s))) o b ms es xs b' ms' es' xs' → UsedBounds p o
    go (Some o) y =
        let w : p + o.used ≤ length s = subst (Holds (λ (b : the.Pair) (n : ℕ). p + n ≤ length s)) y.read (pair_inside f s p q r u h i j k) in
        omega arith
    go None y = tt

-- the second line ends inside the text
module _ (s : List ℕ) {p : ℕ} {l : LineAt} (w : LineIs s p l) where
  second-wide : {k : LineAt} → LineIs s l.next k → length s < 2 ^ 64 → l.next - p + length (take (k.end - l.next) (drop l.next s)) < 2 ^ 64
  second-wide {k} v h = omega (arith, part-long s v, w.from, w.width, v.from, end-in s v)

-- `any_pair`: where no full line end stands behind the first line there is no pair, and nothing is written
module _ (s : List ℕ) (p : ℕ) {x : Option PairPlaces} (a : PlacesAre s p x) where
  module _ (e : x ≡ None) where
    no_end : end_at s p ≡ 0
    no_end = rw e at a.says

    pub pstep-alone : (ended : Bool) (f : Form) (b ms es xs : List ℕ) → PairStepIs ended f s p Ends b ms es xs b ms es xs
    unfolding pair_at
    pstep-alone ended f b ms es xs = record { says = rw no_end }

    pub left_alone : (f : Form) (b ms es xs : List ℕ) → LeftAt f s p b ms es xs b ms es xs
    left_alone f b ms es xs = record { bytes = rw no_end; rows = record { of-modes = rw no_end; of-entries = rw no_end; of-indexes = rw no_end } }

  -- else both lines stand in the text
  module _ {both : PairPlaces} (e : x ≡ Some both) where
    lines_at : LinesAt s p both.first both.second
    lines_at = rw e at a.says

    first : LineIs s p both.first
    first = line-in s lines_at.first lines_at.within

    second : LineIs s both.first.next both.second
    second = line-in s lines_at.second first.inside

    pub first-from : p ≤ both.first.end
    first-from = first.from

    pub first-in : both.first.end ≤ length s
    first-in = end-in s first

    pub first_next : both.first.end ≤ both.first.next
    first_next = omega (arith, first.width)

    pub next-from : p ≤ both.first.next
    next-from = omega (arith, first.from, first.width)

    pub second_from : both.first.next ≤ both.second.end
    second_from = second.from

    pub second-in : both.second.end ≤ length s
    second-in = end-in s second

    pub second-behind : p ≤ both.second.end
    second-behind = omega (arith, next-from, second.from)

    pub both-wide : length s < 2 ^ 64 → both.first.next - p + length (take (both.second.end - both.first.next) (drop both.first.next s)) < 2 ^ 64
    both-wide h = second-wide s first second h

    module _ (f : Form) {o : Option PairLine} {b ms es xs b' ms' es' xs' : List ℕ} (m : PairIs (pair_here f s p both.first both.second) o b ms es xs b' ms' es' xs') where
      pub pstep-lines : (ended : Bool) {r : PairStep} → r ≡ step_from o p both.second ended → PairStepIs ended f s p r b ms es xs b' ms' es' xs'
      pstep-lines ended g = pstep-1 ended f s p first lines_at.ended second m g

    pub left-lines : (f : Form) {b ms es xs b' ms' es' xs' : List ℕ}
        → Left (content_line f (take (both.first.end - p) (drop p s)) 0) (whole_content f (take (both.first.end - p) (drop p s))) (relocation_line f (take (both.second.end - both.first.next) (drop both.first.next s)) 0) b ms es xs b' ms' es' xs'
        → LeftAt f s p b ms es xs b' ms' es' xs'
    left-lines f d = left-some f s first lines_at.ended second d

pub ruleset lefts-at = (rules, left_alone, left-lines)

pub ruleset psteps = (rules, pstep-alone, first-from, first-in, first_next, next-from, second_from, second-in, second-behind, both-wide, pstep-lines)

-- `step_from`
module _ {o : Option PairLine} (p : ℕ) (k : LineAt) (ended : Bool) where
  pub from-none : o ≡ None → Ends ≡ step_from o p k ended
  from-none e = rw e

  module _ {l : PairLine} (e : o ≡ Some l) where
    pub from-fits : UsedIn p o → Fit64 w64 (p + l.used)
    from-fits w = record { fits = omega (arith, rw e at w.bounds) }

    module _ {r : LineStep} (h : r ≡ line_step ended l.used (k.end - p) k.ends k.next (p + l.used)) where
      pub from_goes : {x : ℕ} → r ≡ Goes x → Takes l.body x k.next true ≡ step_from o p k ended
      from_goes i = rw (e, ← h, i)

      pub from-ends : r ≡ Stops → Ends ≡ step_from o p k ended
      from-ends i = rw (e, ← h, i)

      pub from_last : {x : ℕ} → r ≡ Last x → Takes l.body x k.next false ≡ step_from o p k ended
      from_last i = rw (e, ← h, i)

pub ruleset froms = (rules, from-none, from-fits, from_goes, from-ends, from_last)
