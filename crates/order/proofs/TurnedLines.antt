-- The lines of two neighbouring pairs in the other order: the same entries, the same pairs with these two turned round, and the same place where
-- the reading ended.
-- Assumes nothing.
use Prim.Native.Nat.{ℕ, ◌+◌}
use mathlib.Core.Path.{◌≡◌, refl, sym, ap, subst, ◌∙◌}
use mathlib.Core.Bool.{true}
use mathlib.Core.List.{List, [], ◌∷◌, ◌++◌, append_assoc, map}
use native.Mathlib.Omega.{arith}
use Rattle.format.specs.Header.{Form}
use Rattle.format.specs.Lines.{Line, width, taken}
use Rattle.format.specs.Entries.{Entry}
use Rattle.format.specs.Pairs.{Pair}
use Rattle.format.specs.Records.{Step, Taken, both, entry_step, goes, last, last_of, pairs, records, stops}
use Rattle.order.specs.Order.{bodies}
use Rattle.order.proofs.PairLines.{front, in-front, no-pair, pairs-alone}

taken-append : (ls ms : List Line) → taken (ls ++ ms) ≡ taken ls + taken ms
unfolding taken
taken-append [] ms = omega arith
taken-append (l ∷ ls) ms = omega (arith, taken-append ls ms)

-- two neighbouring pairs of some lines from a place on: their lines and their places; and the two in the other order, b where a stood
pub record Spot (at : ℕ) (ls : List Line) (a b : Taken Pair) : Type 0 where
  pub us : List Line
  pub t : Line
  pub r : Line
  pub t' : Line
  pub r' : Line
  pub vs : List Line
  pub is : ls ≡ us ++ (t ∷ r ∷ t' ∷ r' ∷ vs)
  pub a-place : a.place ≡ at + taken us
  pub b-place : b.place ≡ at + taken us + (width t + width r)
  pub b_end : b.end ≡ at + taken us + (width t + width r) + (width t' + width r')
  pub one : Taken Pair
  pub other : Taken Pair
  pub same-one : b.body ≡ one.body
  pub same-other : a.body ≡ other.body
  pub same_end : b.end ≡ other.end

-- the lines in the other order
unfoldable pub turned : {at : ℕ} {ls : List Line} {a b : Taken Pair} → Spot at ls a b → List Line
turned s = s.us ++ (s.t' ∷ s.r' ∷ s.t ∷ s.r ∷ s.vs)

-- behind other lines
spot_behind : (fs : List Line) (at n : ℕ) (ls : List Line) (a b : Taken Pair) → at + taken fs ≡ n → Spot n ls a b → Spot at (fs ++ ls) a b
spot_behind fs at n ls a b e s = record {
  us = fs ++ s.us;
  t = s.t;
  r = s.r;
  t' = s.t';
  r' = s.r';
  vs = s.vs;
  is = ap (λ (x : List Line). fs ++ x) s.is ∙ sym (append_assoc fs s.us _);
  a-place = s.a-place ∙ omega (arith, taken-append fs s.us);
  b-place = s.b-place ∙ omega (arith, taken-append fs s.us);
  b_end = s.b_end ∙ omega (arith, taken-append fs s.us);
  one = s.one;
  other = s.other;
  same-one = s.same-one;
  same-other = s.same-other;
  same_end = s.same_end;
}

turned-behind : (fs : List Line) (at n : ℕ) (ls : List Line) (a b : Taken Pair) (e : at + taken fs ≡ n) (s : Spot n ls a b) → turned (spot_behind fs at n ls a b e s) ≡ fs ++ turned s
unfolding turned spot_behind
turned-behind fs at n ls a b e s = append_assoc fs s.us _

-- ------------------------------------------------------------------ among pairs

-- the two, and what the lines in the other order give
record TurnedPairs (f : Form) (at : ℕ) (ls : List Line) (before behind : List (Taken Pair)) (a b : Taken Pair) : Type 0 where
  spot : Spot at ls a b
  gives : pairs true f at (turned spot) ≡ before ++ spot.one ∷ spot.other ∷ behind

module _ (f : Form) (behind : List (Taken Pair)) (a b : Taken Pair) where
  turn-first : (at : ℕ) (ls : List Line) → pairs true f at ls ≡ a ∷ b ∷ behind → TurnedPairs f at ls [] behind a b
  unfolding taken turned
  turn-first at ls h =
      let k = front f at ls a (b ∷ behind) h in
      let w : ℕ = width k.t + width k.r in
      let m = front f (at + w) k.rest b behind k.others in
      let w' : ℕ = width m.t + width m.r in
      let place : at + w' + w ≡ at + w + w' = omega arith in
      let one : Taken Pair = record { place = at; end = at + w'; body = b.body } in
      let other : Taken Pair = record { place = at + w'; end = at + w' + w; body = a.body } in
      record {
        spot = record {
          us = [];
          t = k.t;
          r = k.r;
          t' = m.t;
          r' = m.r;
          vs = m.rest;
          is = k.is ∙ ap (λ (x : List Line). k.t ∷ k.r ∷ x) m.is;
          a-place = k.first.place ∙ omega arith;
          b-place = m.first.place ∙ omega arith;
          b_end = m.first.end ∙ omega arith;
          one = one;
          other = other;
          same-one = refl;
          same-other = refl;
          same_end = m.first.end ∙ omega arith;
        };
        gives =
            in-front f (at + w) at m.t m.r b (k.t ∷ k.r ∷ m.rest) m.first
            ∙ ap (λ (ps : List (Taken Pair)). one ∷ ps)
            (in-front f at (at + w') k.t k.r a m.rest k.first
            ∙ ap (λ (ps : List (Taken Pair)). other ∷ ps) (ap (λ (n : ℕ). pairs true f n m.rest) place ∙ m.others));
      }

  turn-pairs : (before : List (Taken Pair)) (at : ℕ) (ls : List Line) → pairs true f at ls ≡ before ++ a ∷ b ∷ behind → TurnedPairs f at ls before behind a b
  unfolding taken spot_behind
  turn-pairs [] at ls h = turn-first at ls h
  turn-pairs (p ∷ before) at ls h =
      let k = front f at ls p (before ++ a ∷ b ∷ behind) h in
      let w : ℕ = width k.t + width k.r in
      let m = turn-pairs before (at + w) k.rest k.others in
      let here : record { place = at; end = at + w; body = p.body } ≡ p = λ i. record { place = sym k.first.place i; end = sym k.first.end i; body = p.body } in
      let s : Spot at (k.t ∷ k.r ∷ k.rest) a b = spot_behind (k.t ∷ k.r ∷ []) at (at + w) k.rest a b (omega arith) m.spot in
      let gives : pairs true f at (turned s) ≡ p ∷ before ++ m.spot.one ∷ m.spot.other ∷ behind =
      ap (pairs true f at) (turned-behind (k.t ∷ k.r ∷ []) at (at + w) k.rest a b (omega arith) m.spot)
      ∙ (in-front f at at k.t k.r p (turned m.spot) k.first
      ∙ (ap (λ (x : Taken Pair). x ∷ pairs true f (at + w) (turned m.spot)) here ∙ ap (λ (ps : List (Taken Pair)). p ∷ ps) m.gives)) in
      let all : TurnedPairs f at (k.t ∷ k.r ∷ k.rest) (p ∷ before) behind a b = record { spot = s; gives = gives } in
      subst (λ (x : List Line). TurnedPairs f at x (p ∷ before) behind a b) (sym k.is) all

-- ------------------------------------------------------------------ behind entries

-- lines that begin with a pair, and go on with others
alone : (f : Form) (at : ℕ) (ls : List Line) (before : List (Taken Pair)) (p : Taken Pair) (ps : List (Taken Pair)) → pairs true f at ls ≡ before ++ p ∷ ps
    → records true f at ls ≡ record { entries = []; pairs = before ++ p ∷ ps }
alone f at ls [] p ps h = pairs-alone f at ls p ps h
alone f at ls (q ∷ before) p ps h = pairs-alone f at ls q (before ++ p ∷ ps) h

nothing-there : {C : Type 0} (before : List (Taken Pair)) (p : Taken Pair) (ps : List (Taken Pair)) → [] ≡ before ++ p ∷ ps → C
nothing-there [] p ps e = no-pair p ps e
nothing-there (q ∷ before) p ps e = no-pair q (before ++ p ∷ ps) e

-- the same behind some entries
pub record TurnedRecords (f : Form) (at : ℕ) (ls : List Line) (es : List (Taken Entry)) (before behind : List (Taken Pair)) (a b : Taken Pair) : Type 0 where
  pub spot : Spot at ls a b
  pub gives : records true f at (turned spot) ≡ record { entries = es; pairs = before ++ spot.one ∷ spot.other ∷ behind }

module _ (f : Form) (before behind : List (Taken Pair)) (a b : Taken Pair) where
  TurnsAt : ℕ → List Line → List (Taken Entry) → Type 0
  TurnsAt at ls es = TurnedRecords f at ls es before behind a b

  turn_alone : (at : ℕ) (ls : List Line) → pairs true f at ls ≡ before ++ a ∷ b ∷ behind → TurnsAt at ls []
  unfolding TurnsAt
  turn_alone at ls h =
      let m = turn-pairs f behind a b before at ls h in
      record { spot = m.spot; gives = alone f at (turned m.spot) before m.spot.one (m.spot.other ∷ behind) m.gives }

  turn-behind : (at : ℕ) (l : Line) (ls : List Line) (e : Taken Entry) (es : List (Taken Entry)) → entry_step true f at l ≡ goes e → TurnsAt (at + width l) ls es → TurnsAt at (l ∷ ls) (e ∷ es)
  unfolding TurnsAt taken records spot_behind
  turn-behind at l ls e es h m =
      let same : at + (width l + 0) ≡ at + width l = omega arith in
      record {
        spot = spot_behind (l ∷ []) at (at + width l) ls a b same m.spot;
        gives = ap (records true f at) (turned-behind (l ∷ []) at (at + width l) ls a b same m.spot) ∙ rw (h, m.gives);
      }

  pub turn-records : (at : ℕ) (ls : List Line) → (records true f at ls).pairs ≡ before ++ a ∷ b ∷ behind → TurnedRecords f at ls (records true f at ls).entries before behind a b
  unfolding TurnsAt records
  turn-records at [] h = nothing-there before a (b ∷ behind) h
  turn-records at (l ∷ ls) h = go (entry_step true f at l) refl (turn-records (at + width l) ls) h
    where
      go : (s : Step Entry) → entry_step true f at l ≡ s → ((records true f (at + width l) ls).pairs ≡ before ++ a ∷ b ∷ behind → TurnsAt (at + width l) ls (records true f (at + width l) ls).entries)
          → (both s (records true f (at + width l) ls) (pairs true f at (l ∷ ls))).pairs ≡ before ++ a ∷ b ∷ behind
          → TurnsAt at (l ∷ ls) (both s (records true f (at + width l) ls) (pairs true f at (l ∷ ls))).entries
      go stops e ih k = turn_alone at (l ∷ ls) k
      go (last t) e ih k = nothing-there before a (b ∷ behind) k
      go (goes t) e ih k = turn-behind at l ls t (records true f (at + width l) ls).entries e (ih k)

-- ------------------------------------------------------------------ what the pairs say, and the last end

pub bodies-turned : (before behind : List (Taken Pair)) (a b one other : Taken Pair) → b.body ≡ one.body → a.body ≡ other.body
    → bodies (before ++ b ∷ a ∷ behind) ≡ bodies (before ++ one ∷ other ∷ behind)
bodies-turned [] behind a b one other p q = rw (p, q)
bodies-turned (x ∷ before) behind a b one other p q = ap (λ (ys : List Pair). x.body ∷ ys) (bodies-turned before behind a b one other p q)

last_end : (n : ℕ) (before behind : List (Taken Pair)) (a b : Taken Pair)
    → last_of n (map (λ (t : Taken Pair). t.end) (before ++ a ∷ b ∷ behind)) ≡ last_of b.end (map (λ (t : Taken Pair). t.end) behind)
last_end n [] behind a b = refl
last_end n (x ∷ before) behind a b = last_end x.end before behind a b

-- the last end behind other ends is that of the two pairs' second, or of one behind it
pub last-of-pairs : (n : ℕ) (es : List ℕ) (before behind : List (Taken Pair)) (a b : Taken Pair)
    → last_of n (es ++ map (λ (t : Taken Pair). t.end) (before ++ a ∷ b ∷ behind)) ≡ last_of b.end (map (λ (t : Taken Pair). t.end) behind)
last-of-pairs n [] before behind a b = last_end n before behind a b
last-of-pairs n (e ∷ es) before behind a b = last-of-pairs e es before behind a b
