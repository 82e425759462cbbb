-- The laws of the list, and of both answers.
-- Assumes nothing.
use Prim.Native.Nat.{ℕ, ◌*◌, ◌≤◌}
use mathlib.Core.Path.{◌≡◌, ap, subst, sym, ◌∙◌}
use mathlib.Core.Bool.{Bool, true, false, ◌&&◌}
use mathlib.Core.List.{List, ◌++◌}
use native.Mathlib.Omega.{arith}
use lib.ListN.{length, take, drop, replicate, length-drop, length-replicate, length-take}
use lib.Dec.{leb}
use borrow.Author.Rules.{rules}
use borrow.Author.Tests.{leb-true}
use Rattle.format.specs.Lists.{flat, over, pick}
use Rattle.format.specs.Outcome.{Outcome, fine}
use Rattle.format.specs.Records.{verdict}
use Rattle.format.specs.Records as recs
use Rattle.format.specs.Reading as paper
use Rattle.format.specs.Held.{Held, Meets, lengths}
use Rattle.steps.proofs.Stored as stored
use Rattle.std.specs.Prelude.{Ok, Err}
use Rattle.answer.specs.declared.Accepted.{Accepted}
use Rattle.answer.specs.declared.Refusal.{Refusal}
use Rattle.answer.specs.Answer.{Answer, held, told, told_counts, told_verdict}
use Rattle.answer.specs.declared.Counts.{Counts}
use Rattle.answer.specs.declared.Verdict.{Verdict}
use Rattle.answer.specs.declared.Verdict.TheVariants.{Finished, Stopped}
use Rattle.difference.specs.Module.{Module}
use Rattle.difference.specs.Changes.{Change, changes}
use Rattle.difference.specs.Rows.{change_columns, change_numbers}
use Rattle.difference.specs.Told as the
use Rattle.difference.specs.Told.{Listed, compare, compared, compared_with, is_finished, listed, module_of}
use Rattle.read_rows.specs.Rows.{Accepts, Fit, module_held, module_in}
use Rattle.read_rows.proofs.Theorem.{a-refusal-was-read, what-is-held-was-read}
use Rattle.laws.specs.Rows.{areas_in, fixups_in}
use Rattle.difference.specs.Module.{cells, sizes, split}
use Rattle.difference.specs.Changes.{paired}
use Rattle.change_rows.specs.Room.{few_of}
use Rattle.area_changes.specs.Here.{area_here, areas_fit}
use Rattle.area_changes.proofs.Pairs.{the-areas}
use Rattle.symbol_changes.specs.Here.{gathered, new_here, old_here}
use Rattle.symbol_changes.proofs.Names.{the-symbols}
use Rattle.changes_of.proofs.Whole.{walk_is}
use Rattle.change_rows.specs.Walk.{Walked, WalkedIf, laid}
use Rattle.change_rows.specs.Walk as walk
use Rattle.changes_of.specs.Answer.{Changed, Compares, FitIf, IfBoth, IfFit, NewerRead, both_of, bounds, finished_of}
use Rattle.std.specs.Prelude.{Ok, Err}
use Rattle.change_answer.specs.Answer.{Lists, Told}
use Rattle.change_answer.specs.declared.Whose.TheVariants.{Both, Newer, Older}
use Rattle.change_rows.proofs.Going.{columns}

-- the list, by what was counted and what was written
counted_same : {list : List ℕ} {cs : List Change} {k r : ℕ} {after : List ℕ} → Walked false list 0 cs k r after → after ≡ list
unfolding laid walk.stored
counted_same a = a.rows

laid-over : (list : List ℕ) (cs : List Change) → 8 * length cs ≤ length list → laid true list 0 cs ≡ over (flat change_numbers cs) list
unfolding laid walk.stored over
laid-over list cs h = stored.laid (flat change_numbers cs) list (omega (arith, columns cs))

module _ {list : List ℕ} {cs : List Change} {k r : ℕ} {one : List ℕ} (a : Walked false list 0 cs k r one) where
  rows_are : r ≡ length cs
  rows_are = omega (arith, a.count)

  -- whether there is room for the counted rows is what the definition asks
  room_for : {x : Bool} → x ≡ leb (change_columns * r) (length one) → {y : Bool} → x ≡ y → leb (change_columns * length cs) (length list) ≡ y
  room_for h e = ap (λ (k : ℕ). leb (change_columns * k) (length list)) (sym rows_are) ∙ (ap (λ (l : List ℕ). leb (change_columns * r) (length l)) (sym (counted_same a)) ∙ (sym h ∙ e))

  counted-short : leb (change_columns * length cs) (length list) ≡ false → Lists (listed list cs) (Err (record { whose = Both; number = 16; place = 0 })) one
  unfolding listed
  counted-short e = record { answer = rw e; list = rw e (counted_same a) }

  counted-fits : leb (change_columns * length cs) (length list) ≡ true → {l u : ℕ} {after : List ℕ} → Walked true one 0 cs l u after → Lists (listed list cs) (Ok u) after
  unfolding listed
  counted-fits e {l} {u} {after} b =
      let same : one ≡ list = counted_same a in
      let n : u ≡ length cs = omega (arith, b.count) in
      let f : after ≡ over (flat change_numbers cs) list = b.rows ∙ (ap (λ (x : List ℕ). laid true x 0 cs) same ∙ laid-over list cs (leb-true (8 * length cs) (length list) e)) in
      record { answer = rw (e, n); list = rw e f }

-- `fill`
module _ {c : paper.Counts} {h : Held} {d : paper.Counts} {k : Held} {list : List ℕ} {cs : List Change} {m r : ℕ} {one : List ℕ} (a : IfFit c h d k (Walked false list 0 cs m r one)) where
  pub list-short : {z : Bool} → z ≡ leb (change_columns * r) (length one) → z ≡ false → IfFit c h d k (Lists (listed list cs) (Err (record { whose = Both; number = 16; place = 0 })) one)
  list-short l e = record { holds = λ x y. counted-short (a.holds x y) (room_for (a.holds x y) l e) }

  pub list-fits : {z : Bool} → z ≡ leb (change_columns * r) (length one) → z ≡ true → {n u : ℕ} {after : List ℕ} → IfFit c h d k (Walked true one 0 cs n u after)
      → IfFit c h d k (Lists (listed list cs) (Ok u) after)
  list-fits l e b = record { holds = λ x y. counted-fits (a.holds x y) (room_for (a.holds x y) l e) (b.holds x y) }

-- `rows`: the stretch that is the module's image
pub fit_low : (v : List ℕ) {x : List ℕ} (n : ℕ) → x ≡ take n (drop 0 v) → n ≤ 65536 → length x ≤ 65536
fit_low v {x} n e h = let l : length x ≡ length (take n (drop 0 v)) = ap length e in omega (arith, l, length-take n (drop 0 v))

pub fit-long : (v k : List ℕ) {x y : List ℕ} (n : ℕ) → x ≡ take n (drop 0 v) → y ≡ take n (drop 0 k) → n ≤ length v → n ≤ length k → length y ≡ length x
fit-long v k {x} {y} n e f h i =
    let l : length x ≡ length (take n (drop 0 v)) = ap length e in
    let m : length y ≡ length (take n (drop 0 k)) = ap length f in
    omega (arith, l, m, length-take n (drop 0 v), length-take n (drop 0 k), length-drop 0 v, length-drop 0 k)

module _ (s p f v k xs : List ℕ) (one : Counts) (t q g w l ys : List ℕ) (two : Counts)
    {va ka wa la : List ℕ} (x : va ≡ take one.positions (drop 0 v)) (y : ka ≡ take one.positions (drop 0 k)) (z : wa ≡ take two.positions (drop 0 w)) (u : la ≡ take two.positions (drop 0 l)) where
  abbrev walks : List Change
  walks = changes (module_in s p one.areas f one.symbols va ka xs one.fixups) (module_in t q two.areas g two.symbols wa la ys two.fixups)

  abbrev helds : List Change
  helds = changes (module_held s (told_counts one) (held p f v k xs)) (module_held t (told_counts two) (held q g w l ys))

  same-changes : walks ≡ helds
  unfolding module_held
  same-changes = rw (x, y, z, u)

  abbrev pairs : List Change
  pairs = paired (area_here s (fixups_in xs one.fixups) t (fixups_in ys two.fixups)) 0 (split (sizes (areas_in p one.areas)) (cells va ka)) (split (sizes (areas_in q two.areas)) (cells wa la))

  abbrev names : List Change
  names = gathered (old_here s f one.symbols t g two.symbols) 0 one.symbols ++ gathered (new_here t g two.symbols s f one.symbols) 0 two.symbols

  pub walk-held : {writing : Bool} {list : List ℕ} {r : ℕ} {middle : List ℕ} {e : ℕ} {after : List ℕ}
      → WalkedIf (areas_fit one.areas va ka one.fixups two.areas wa la two.fixups) writing list 0 pairs 8650752 r middle
      → WalkedIf (few_of r one.symbols two.symbols) writing middle r names 2048 e after
      → IfFit (told_counts one) (held p f v k xs) (told_counts two) (held q g w l ys) (Walked writing list 0 helds 8652800 e after)
  walk-held {writing} {list} {r} {middle} {e} {after} a b = record {
    holds = λ old new.
        let c = the-areas one.areas va ka one.fixups two.areas wa la two.fixups (fit_low v one.positions x old.positions) (fit-long v k one.positions x y old.values old.masks)
        (fit_low w two.positions z new.positions) (fit-long w l two.positions z u new.values new.masks) old.fixups new.fixups old.areas new.areas a in
        let d = the-symbols (omega (arith, c.few)) old.symbols new.symbols b in
        subst (λ (cs : List Change). Walked writing list 0 cs 8652800 e after) same-changes
        (walk_is s p one.areas f one.symbols va ka xs one.fixups t q two.areas g two.symbols wa la ys two.fixups c d);
  }

pub ruleset fills = (rules, list-short, list-fits)

pub ruleset walking = (rules, walk-held)

-- `finished`
module _ (s : List ℕ) (one : Counts) (h : Held) (t : List ℕ) (two : Counts) (k : Held) (list : List ℕ) where
  pub finish-older : {v : Verdict} (o : Verdict) {n : ℕ} → v ≡ Stopped n
      → IfFit (told_counts one) h (told_counts two) k (Lists (finished_of s (told_counts one) (told_verdict v) h t (told_counts two) (told_verdict o) k list) (Err (record { whose = Both; number = 19; place = 0 })) list)
  unfolding finished_of
  finish-older {v} o e = record { holds = λ x y. record { answer = rw e; list = rw e } }

  pub finish-newer : {v o : Verdict} {n : ℕ} → v ≡ Finished → o ≡ Stopped n
      → IfFit (told_counts one) h (told_counts two) k (Lists (finished_of s (told_counts one) (told_verdict v) h t (told_counts two) (told_verdict o) k list) (Err (record { whose = Both; number = 19; place = 0 })) list)
  unfolding finished_of
  finish-newer e f = record { holds = λ x y. record { answer = rw (e, f); list = rw (e, f) } }

  pub finish-both : {v o : Verdict} → v ≡ Finished → o ≡ Finished → {r : Told} {after : List ℕ}
      → IfFit (told_counts one) h (told_counts two) k (Lists (listed list (changes (module_held s (told_counts one) h) (module_held t (told_counts two) k))) r after)
      → IfFit (told_counts one) h (told_counts two) k (Lists (finished_of s (told_counts one) (told_verdict v) h t (told_counts two) (told_verdict o) k list) r after)
  unfolding finished_of
  finish-both e f a = record { holds = λ x y. rw (e, f) (a.holds x y) }

pub ruleset finishes = (rules, finish-older, finish-newer, finish-both)

-- `both`
fit-if : {a : Answer} (h : Held) {x : Accepted} → a ≡ Ok x → FitIf (told a) h → Fit (told_counts x.counts) h
unfolding FitIf
fit-if h e f = rw e at f

module _ (s : List ℕ) (h : Held) (t : List ℕ) (k : Held) (list : List ℕ) where
  pub both-older : {a : Answer} (b : Answer) {z : Refusal} → a ≡ Err z → IfBoth (told a) h (told b) k (Lists (both_of s (told a) h t (told b) k list) (Err (record { whose = Older; number = z.number; place = z.place })) list)
  both-older b e = record { holds = λ x y. record { answer = rw e; list = rw e } }

  module _ {a : Answer} {m : Accepted} (e : a ≡ Ok m) {b : Answer} where
    pub both-newer : {z : Refusal} → b ≡ Err z → IfBoth (told a) h (told b) k (Lists (both_of s (told a) h t (told b) k list) (Err (record { whose = Newer; number = z.number; place = z.place })) list)
    both-newer f = record { holds = λ x y. record { answer = rw (e, f); list = rw (e, f) } }

    pub both_read : {n : Accepted} → b ≡ Ok n → {r : Told} {after : List ℕ}
        → IfFit (told_counts m.counts) h (told_counts n.counts) k (Lists (finished_of s (told_counts m.counts) (told_verdict m.verdict) h t (told_counts n.counts) (told_verdict n.verdict) k list) r after)
        → IfBoth (told a) h (told b) k (Lists (both_of s (told a) h t (told b) k list) r after)
    both_read f g = record { holds = λ x y. rw (e, f) (g.holds (fit-if h e x) (fit-if k f y)) }

pub ruleset boths = (rules, both-older, both-newer, both_read)

-- `changes_of`
fit_of : (s : List ℕ) (old new : Held) (a : paper.Answer) → Meets true s old a new → FitIf a new
unfolding FitIf
fit_of s old new (paper.refusal n p) m = tt
fit_of s old new (paper.accepted c v) m = (what-is-held-was-read s old new c v m).fit

both-accept : {s t : List ℕ} {old₁ old₂ new₁ new₂ : Held} {c d : paper.Counts} {v u : recs.Verdict} (list : List ℕ) → Accepts s old₁ c v new₁ → Accepts t old₂ d u new₂
    → compare (lengths old₁) (lengths old₂) s t list ≡ finished_of s c v new₁ t d u new₂ list
unfolding compare compared finished_of
both-accept {s} {t} {old₁} {old₂} {new₁} {new₂} {c} {d} {v} {u} list x y =
    ap (λ (o : Outcome paper.Read). compared_with s t o (paper.read true (lengths old₂) t) list) x.is_read
    ∙ (ap (λ (o : Outcome paper.Read). compared_with s t (fine x.whole) o list) y.is_read
    ∙ (ap (λ (e : recs.Verdict). pick (is_finished e && is_finished (verdict t y.whole.parsed)) (listed list (changes (module_of s x.whole) (module_of t y.whole))) unfinished) (sym x.verdict-is)
    ∙ (ap (λ (e : recs.Verdict). pick (is_finished v && is_finished e) (listed list (changes (module_of s x.whole) (module_of t y.whole))) unfinished) (sym y.verdict-is)
    ∙ (ap (λ (m : Module). pick (is_finished v && is_finished u) (listed list (changes m (module_of t y.whole))) unfinished) x.module-is
    ∙ ap (λ (m : Module). pick (is_finished v && is_finished u) (listed list (changes (module_held s c new₁) m)) unfinished) y.module-is))))
  where
    unfinished : Listed
    unfinished = record { answer = the.refusal 19 0; list = list }

compare-is : (s t : List ℕ) (old₁ old₂ new₁ new₂ : Held) (a b : paper.Answer) (list : List ℕ) → Meets true s old₁ a new₁ → Meets true t old₂ b new₂
    → compare (lengths old₁) (lengths old₂) s t list ≡ both_of s a new₁ t b new₂ list
unfolding compare compared finished_of
compare-is s t old₁ old₂ new₁ new₂ (paper.refusal n p) b list m l = rw (a-refusal-was-read s old₁ new₁ n p m)
compare-is s t old₁ old₂ new₁ new₂ (paper.accepted c v) (paper.refusal n p) list m l =
    let x = what-is-held-was-read s old₁ new₁ c v m in
    rw (x.is_read, a-refusal-was-read t old₂ new₂ n p l)
compare-is s t old₁ old₂ new₁ new₂ (paper.accepted c v) (paper.accepted d u) list m l =
    both-accept list (what-is-held-was-read s old₁ new₁ c v m) (what-is-held-was-read t old₂ new₂ d u l)

-- `read_newer`, `changes_of`
pub newer-is : (s : List ℕ) (a : paper.Answer) (h : Held) (t : List ℕ) (old new : Held) (list : List ℕ) (b : Answer) → Meets true t old (told b) new
    → {r : Told} {after : List ℕ} → IfBoth a h (told b) new (Lists (both_of s a h t (told b) new list) r after) → NewerRead s a h t old list r new after
newer-is s a h t old new list b m {r} {after} g = record {
  newer-read = subst (λ (x : paper.Answer). Meets true t old x new) m.says m;
  lists = λ f. subst (λ (x : paper.Answer). Lists (both_of s a h t x new list) r after) m.says (g.holds f (fit_of t old new (told b) m));
}

pub compares-is : (s : List ℕ) (old₁ new₁ : Held) (a : Answer) → Meets true s old₁ (told a) new₁ → (t : List ℕ) (old₂ new₂ : Held) (list : List ℕ)
    → {r : Told} {after : List ℕ} → NewerRead s (told a) new₁ t old₂ list r new₂ after → Compares s t old₁ old₂ list r new₁ new₂ after
compares-is s old₁ new₁ a m t old₂ new₂ list {r} {after} g = record {
  older-read = subst (λ (x : paper.Answer). Meets true s old₁ x new₁) m.says m;
  newer-read = g.newer-read;
  lists = subst (λ (x : Listed). Lists x r after)
      (sym (compare-is s t old₁ old₂ new₁ new₂ (told a) (paper.reading true (lengths old₂) t).answer list m g.newer-read)) (g.lists (fit_of s old₁ new₁ (told a) m));
}

pub ruleset newers = (rules, newer-is)

pub ruleset compares = (rules, compares-is)

-- `changes_of`: arrays of zeros
abbrev zeros : ℕ → List ℕ
zeros n = replicate n 0

abbrev own : Held
own = held (zeros 448) (zeros 5120) (zeros 65536) (zeros 65536) (zeros 9216)

own-lengths : lengths own ≡ bounds
unfolding lengths
own-lengths = λ i. record {
  areas = length-replicate {A = ℕ} 448 0 i;
  symbols = length-replicate {A = ℕ} 5120 0 i;
  values = length-replicate {A = ℕ} 65536 0 i;
  masks = length-replicate {A = ℕ} 65536 0 i;
  fixups = length-replicate {A = ℕ} 9216 0 i;
}

pub changed-is : (s t list : List ℕ) {r : Told} {new₁ new₂ : Held} {after : List ℕ}
    → Compares s t (held (replicate 448 0) (replicate 5120 0) (replicate 65536 0) (replicate 65536 0) (replicate 9216 0)) (held (replicate 448 0) (replicate 5120 0) (replicate 65536 0) (replicate 65536 0) (replicate 9216 0)) list r new₁ new₂ after
    → Changed s t list r after
changed-is s t list {r} {new₁} {new₂} {after} a = record { lists = subst (λ (b : paper.Lent). Lists (compare b b s t list) r after) own-lengths a.lists }

pub ruleset owning = (rules, changed-is)
