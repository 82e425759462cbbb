-- The laws of the walk over group two.
-- Assumes nothing.
use Prim.Native.Nat.{ℕ, ◌*◌, ◌+◌, ◌-◌, ◌<◌, ◌≤◌}
use mathlib.Core.Path.{◌≡◌, ap, refl, subst, sym, ◌∙◌}
use mathlib.Core.Bool.{Bool, false, true}
use mathlib.Core.List.{List, [], ◌∷◌}
use native.Mathlib.Omega.{arith}
use lib.ListN.{length, take}
use lib.Dec.{eqb}
use borrow.Author.Rules.{rules}
use Rattle.format.specs.Lists.{pick}
use Rattle.format.specs.Header.{Form}
use Rattle.format.specs.Pairs as the
use Rattle.format.specs.Records.{Step, Taken, consed, goes, last, step_of, stops}
use Rattle.laws.specs.Places.{end_at, line_at, line_end, next_line, pair_at, pairs_at}
use Rattle.laws.proofs.Places.{pairs-at}
use Rattle.sites.specs.Columns.{fragments_in}
use Rattle.steps.specs.PairLines.{BodyIs, PairStepIs, PlacedIs, StepOf, step_to}
use Rattle.steps.specs.declared.pair.Body.{Body}
use Rattle.steps.specs.declared.pair.Body.TheVariants.{Placed, Skipped}
use Rattle.steps.specs.declared.pair.PairStep.{PairStep}
use Rattle.steps.specs.declared.pair.PairStep.TheVariants.{Ends, Takes}
use Rattle.reading_lines.specs.Onward.{Columns}
use Rattle.reading_lines.proofs.GroupTwo.{content-in, fragments-in}
use Rattle.record_rows.specs.ReadPairs.{HeldPairs}
use Rattle.record_rows.proofs.Bounds.{no_last}
use Rattle.pair_rows.specs.Rows.{held}
use Rattle.pair_rows.specs.Rows.{Low, StoredOne}
use Rattle.records.specs.Storing.{Onward, Stored}
use Rattle.records.specs.Walking.{EachFits, Fitting, GoesOn, PairFits, Ready, TurnIs}
use Rattle.records.proofs.Stepping.{LineIs, all-stored, and-on, pass-by, stay, store-on}
use Rattle.pair_rows.specs.declared.PairCounts.{PairCounts}
use Rattle.pair_walk.specs.Walk.{WalksOn, line_of, walked_to}
use Rattle.pair_walk.proofs.Laws.{stored_there, went_to}
use Rattle.pair_walk.specs.declared.Seen as walk
use Rattle.pair_walk.specs.declared.Walked.{Walked}
use Rattle.records.specs.declared.walk.Turn.{Turn}
use Rattle.records.specs.declared.walk.Turn.TheVariants.{Done, Goes}

-- the ended reading never takes a last pair
pair-on : (f : Form) (text : List ℕ) (p end : ℕ) (q : the.Pair) (b : Bool) → step_to b p end q ≡ pair_at true f text p → b ≡ true
unfolding pair_at
pair-on f text p end q true k = refl
pair-on f text p end q false k = absurd (go (eqb (end_at text p) 0) k)
  where
    r : ℕ
    r = next_line text p

    go : (t : Bool) → last (record { place = p; end = end; body = q }) ≡ pick t stops (step_of true p (line_end text r - p) (end_at text r) (next_line text r) (the.pair_lines f (line_at text p) (line_at text r))) → ⊥
    go true h = let z : ◌≡◌ {A = ℕ} 0 1 = cc in omega arith
    go false h = no_last p (line_end text r - p) (end_at text r) (next_line text r) (the.pair_lines f (line_at text p) (line_at text r)) (record { place = p; end = end; body = q }) (sym h)

skipped-is : (q : the.Pair) (b ms es xs b' ms' es' xs' : List ℕ) → BodyIs q Skipped b ms es xs b' ms' es' xs' → q ≡ the.skipped
skipped-is the.skipped b ms es xs b' ms' es' xs' w = refl
skipped-is (the.placed c r) b ms es xs b' ms' es' xs' w = absurd w

-- what was read, where the code says that a pair is placed
record Seen (q : the.Pair) (a n ar k : ℕ) (b ms es xs b' ms' es' xs' : List ℕ) : Type 0 where
  content : the.Content
  relocation : the.Relocation
  is : q ≡ the.placed content relocation
  so : PlacedIs content relocation a n ar k b ms es xs b' ms' es' xs'

seen : (q : the.Pair) (a n ar k : ℕ) (b ms es xs b' ms' es' xs' : List ℕ) → BodyIs q (Placed a n ar k) b ms es xs b' ms' es' xs' → Seen q a n ar k b ms es xs b' ms' es' xs'
seen the.skipped a n ar k b ms es xs b' ms' es' xs' w = absurd w
seen (the.placed c r) a n ar k b ms es xs b' ms' es' xs' w = record { content = c; relocation = r; is = refl; so = w }

-- `take_pair`
abbrev pub seen_of : (address area bytes fragments : ℕ) → walk.Seen
seen_of a ar n k = record { address = a; area = ar; bytes = n; fragments = k }

module _ {f : Form} {text : List ℕ} {g : Walked} (ready : Ready f text g) {st : PairStep} {b ms es xs b' ms' es' xs' : List ℕ}
    (v : PairStepIs true f text g.next st b ms es xs b' ms' es' xs') where
  pub turn-done : st ≡ Ends → (ps bs fs : List ℕ) → TurnIs f text g (held ps bs fs) Done (held ps bs fs)
  turn-done e ps bs fs = let s : stops ≡ pair_at true f text g.next = rw e at v.says in record { says = (pairs-at true f text g.next ∙ rw (← s), refl) }

  module _ {body : Body} {end next : ℕ} {on : Bool} (e : st ≡ Takes body end next on) where
    here : StepOf (pair_at true f text g.next) text g.next body end next on b ms es xs b' ms' es' xs'
    here = rw e at v.says

    on-is : on ≡ true
    on-is = pair-on f text g.next end here.pair on here.step

    goes-here : goes (record { place = g.next; end = end; body = here.pair }) ≡ pair_at true f text g.next
    goes-here = ap (λ (x : Bool). step_to x g.next end here.pair) (sym on-is) ∙ here.step

    pairs-here : pairs_at true f text g.next ≡ record { place = g.next; end = end; body = here.pair } ∷ pairs_at true f text next
    pairs-here =
        pairs-at true f text g.next
        ∙ (ap (λ (s : Step the.Pair). consed s (pairs_at true f text (next_line text (next_line text g.next)))) (sym goes-here)
        ∙ ap (λ (x : ℕ). record { place = g.next; end = end; body = here.pair } ∷ pairs_at true f text x) (sym here.behind))

    fits-here : EachFits (record { place = g.next; end = end; body = here.pair } ∷ pairs_at true f text next)
    fits-here = subst (λ (ps : List (Taken the.Pair)). EachFits ps) pairs-here ready.fit.each

    pub turn-skips : body ≡ Skipped → {u : Turn} → u ≡ Goes (walked_to next g.counts) → (ps bs fs : List ℕ) → TurnIs f text g (held ps bs fs) u (held ps bs fs)
    turn-skips i {u} j ps bs fs =
        let q : here.pair ≡ the.skipped = skipped-is here.pair b ms es xs b' ms' es' xs' (subst (λ (x : Body). BodyIs here.pair x b ms es xs b' ms' es' xs') i here.body_is) in
        rw j (record {
          says = record {
            onward = subst (λ (l : List (Taken the.Pair)). Onward l g.counts (held ps bs fs) (pairs_at true f text next) g.counts (held ps bs fs))
                (sym (pairs-here ∙ ap (λ (x : the.Pair). record { place = g.next; end = end; body = x } ∷ pairs_at true f text next) q))
                (pass-by g.next end (pairs_at true f text next) g.counts (held ps bs fs));
            ready = record {
              inside = here.inside;
              pairs-low = omega (arith, ready.pairs-low, here.more on-is);
              content-low = ready.content-low;
              fragments-low = ready.fragments-low;
              fit = record { each = fits-here.1 };
            };
            less = here.more on-is;
          };
        })

    module _ {a n ar k : ℕ} (i : body ≡ Placed a n ar k) where
      w : Seen here.pair a n ar k b ms es xs b' ms' es' xs'
      w = seen here.pair a n ar k b ms es xs b' ms' es' xs' (subst (λ (x : Body). BodyIs here.pair x b ms es xs b' ms' es' xs') i here.body_is)

      fits-now : PairFits (the.placed w.content w.relocation)
      fits-now = subst (λ (q : the.Pair). PairFits q) w.is fits-here.0

      turn_low : length text ≤ 65536 → Low g.counts (line_of g.next (seen_of a ar n k))
      turn_low h = record {
        pairs = omega (arith, ready.pairs-low, ready.inside);
        content = omega (arith, ready.pairs-low, ready.inside, ready.content-low);
        fragments = omega (arith, ready.pairs-low, ready.inside, ready.fragments-low);
        place = omega (arith, ready.inside);
        bytes = omega (arith, w.so.count, fits-now.0);
        few = omega (arith, w.so.fragments, fits-now.1);
      }

      line-is : Columns b ms es xs → LineIs (line_of g.next (seen_of a ar n k)) b' ms' es' xs' g.next w.content w.relocation
      line-is z = record {
        place = refl;
        address = w.so.address;
        area = w.so.area;
        count = w.so.count;
        few = w.so.fragments;
        content = content-in w.content.bytes n b w.so.count (omega (arith, w.so.count, fits-now.0, z.of-bytes)) w.so.bytes;
        fragments = ap (fragments_in ms' es' xs') w.so.fragments
            ∙ fragments-in w.relocation.fragments (omega (arith, fits-now.1, z.of-modes)) (omega (arith, fits-now.1, z.of-entries)) (omega (arith, fits-now.1, z.of-indexes)) w.so.rows;
      }

      stores-so : Columns b ms es xs → {r : PairCounts} {ps bs fs ps' bs' fs' : List ℕ}
          → StoredOne (line_of g.next (seen_of a ar n k)) g.counts b' ms' es' xs' (held ps bs fs) r (held ps' bs' fs')
          → {u : Turn} → u ≡ Goes (walked_to next r) → TurnIs f text g (held ps bs fs) u (held ps' bs' fs')
      stores-so z {r} {ps} {bs} {fs} {ps'} {bs'} {fs'} s {u} j =
          let c = s.counts in
          rw j (record {
            says = record {
              onward = subst (λ (l : List (Taken the.Pair)). Onward l g.counts (held ps bs fs) (pairs_at true f text next) r (held ps' bs' fs'))
                  (sym (pairs-here ∙ ap (λ (x : the.Pair). record { place = g.next; end = end; body = x } ∷ pairs_at true f text next) w.is))
                  (store-on g.next end w.content w.relocation (pairs_at true f text next) (line-is z) s);
              ready = subst (λ (x : PairCounts). Ready f text (walked_to next x)) (sym c) (record {
                inside = here.inside;
                pairs-low = omega (arith, ready.pairs-low, here.more on-is);
                content-low = omega (arith, ready.content-low, w.so.count, fits-now.0);
                fragments-low = omega (arith, ready.fragments-low, w.so.fragments, fits-now.1);
                fit = record { each = fits-here.1 };
              });
              less = here.more on-is;
            };
          })

      pub turn-stores : Columns b ms es xs → length text ≤ 65536 → {g' : Walked} {ps bs fs ps' bs' fs' : List ℕ}
          → WalksOn g next (line_of g.next (seen_of a ar n k)) b' ms' es' xs' (held ps bs fs) g' (held ps' bs' fs')
          → TurnIs f text g (held ps bs fs) (Goes g') (held ps' bs' fs')
      turn-stores z h v = stores-so z (stored_there v (turn_low h)) (ap Goes (went_to v))

pub ready-inside : {f : Form} {text : List ℕ} {g : Walked} → Ready f text g → g.next ≤ length text
ready-inside w = w.inside

pub ruleset turning = (rules, ready-inside, turn-done, turn-skips, turn-stores)

-- `rounds`
abbrev pub none : PairCounts
none = record { pairs = 0; content = 0; fragments = 0 }

pub record Rounds (f : Form) (text : List ℕ) (g₀ : Walked) (ps₀ bs₀ fs₀ : List ℕ) (g : Walked) (ps bs fs : List ℕ) : Type 0 where
  pub onward : Onward (pairs_at true f text g₀.next) g₀.counts (held ps₀ bs₀ fs₀) (pairs_at true f text g.next) g.counts (held ps bs fs)
  pub ready : Ready f text g
  pub pairs-long : length ps ≡ length ps₀
  pub content-long : length bs ≡ length bs₀
  pub fragments-long : length fs ≡ length fs₀

pub round-start : {f : Form} {text : List ℕ} {g : Walked} → Ready f text g → (ps bs fs : List ℕ) → Rounds f text g ps bs fs g ps bs fs
round-start {f} {text} {g} w ps bs fs = record { onward = stay (pairs_at true f text g.next) g.counts (held ps bs fs); ready = w; pairs-long = refl; content-long = refl; fragments-long = refl }

module _ {f : Form} {text : List ℕ} {g₀ : Walked} {ps₀ bs₀ fs₀ : List ℕ} {g : Walked} {ps bs fs : List ℕ} (w : Rounds f text g₀ ps₀ bs₀ fs₀ g ps bs fs) where
  pub round-ready : Ready f text g
  round-ready = w.ready

  module _ {u : Turn} {ps' bs' fs' : List ℕ} (v : TurnIs f text g (held ps bs fs) u (held ps' bs' fs')) where
    pub round-done : u ≡ Done → g₀ ≡ walked_to g₀.next none → Stored (pairs_at true f text g₀.next) (held ps₀ bs₀ fs₀) g.counts (held ps' bs' fs')
    round-done e z =
        let k : (pairs_at true f text g.next ≡ []) × (held ps' bs' fs' ≡ held ps bs fs) = rw e at v.says in
        let c : g₀.counts ≡ none = ap (λ (x : Walked). x.counts) z in
        all-stored (pairs_at true f text g₀.next) (held ps₀ bs₀ fs₀) g.counts (held ps' bs' fs')
        (subst (λ (n : PairCounts). Onward (pairs_at true f text g₀.next) n (held ps₀ bs₀ fs₀) [] g.counts (held ps' bs' fs')) c
        (subst (λ (l : List (Taken the.Pair)). Onward (pairs_at true f text g₀.next) g₀.counts (held ps₀ bs₀ fs₀) l g.counts (held ps' bs' fs')) k.0
        (subst (λ (h : HeldPairs). Onward (pairs_at true f text g₀.next) g₀.counts (held ps₀ bs₀ fs₀) (pairs_at true f text g.next) g.counts h) (sym k.1) w.onward)))

    module _ {g' : Walked} (e : u ≡ Goes g') where
      on : GoesOn f text g (held ps bs fs) g' (held ps' bs' fs')
      on = rw e at v.says

      pub round-less : length text - g'.next < length text - g.next
      round-less = omega (arith, on.less, on.ready.inside)

      pub round-again : length ps' ≡ length ps → length bs' ≡ length bs → length fs' ≡ length fs → Rounds f text g₀ ps₀ bs₀ fs₀ g' ps' bs' fs'
      round-again a b c = record { onward = and-on w.onward on.onward; ready = on.ready; pairs-long = a ∙ w.pairs-long; content-long = b ∙ w.content-long; fragments-long = c ∙ w.fragments-long }

pub ruleset rounding = (rules, round-start, round-ready, round-done, round-less, round-again)

-- `store_all`
pub start-ready : (f : Form) (text : List ℕ) (p : ℕ) → p ≤ length text → Fitting (pairs_at true f text p) → Ready f text (walked_to p none)
start-ready f text p h w = record { inside = h; pairs-low = omega arith; content-low = omega arith; fragments-low = omega arith; fit = w }

pub start_none : (p : ℕ) → walked_to p none ≡ walked_to (walked_to p none).next none
start_none p = refl

pub ruleset starting = (rules, start-ready, start_none)
