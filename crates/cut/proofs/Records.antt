-- The records of a cut text are the whole's records that end inside the cut.
use Prim.Native.Nat.{ℕ, ◌+◌, ◌-◌, ◌≤◌, ◌<◌}
use mathlib.Core.Path.{◌≡◌, refl, sym, ap, ◌∙◌}
use mathlib.Core.List.{List, [], ◌∷◌, ◌++◌, map}
use mathlib.Core.Bool.{Bool, true, false, ◌&&◌}
use native.Mathlib.Omega.{arith}
use lib.ListN.{length}
use lib.Dec.{eqb, leb}
use borrow.Author.Tests.{leb-true, leb-false, le-leb, lt-leb}
use Rattle.format.specs.Lists.{pick}
use Rattle.format.specs.Got.{Got, is, isnt}
use Rattle.format.specs.Lines.{Line, width}
use Rattle.format.specs.Header.{Form}
use Rattle.format.specs.Entries.{Entry, entry_line}
use Rattle.format.specs.Pairs.{Pair, pair_lines}
use Rattle.format.specs.Records.{Taken, Step, stops, last, goes, step_of, entry_step, pair_step, consed, pairs, Records, both, records, ends}
use Rattle.cut.proofs.Lines.{within}
use Rattle.cut.specs.Cut.{inside, cut_records}

-- no number is below the one before it, nor the first below a
abbrev pub Asc : ℕ → List ℕ → Type 0
Asc a [] = Unit {0}
Asc a (x ∷ xs) = (a ≤ x) × Asc x xs

abbrev pub ends_of : {A : Type 0} → List (Taken A) → List ℕ
ends_of ts = map (λ t. t.end) ts

-- what the ended reading does with a line: it stops, or goes on to the place behind the line
Strict : {A : Type 0} → ℕ → Step A → Type 0
Strict next stops = Unit {0}
Strict next (last t) = ⊥
Strict next (goes t) = t.end ≡ next

strict-pick : {A : Type 0} (c : Bool) (at used next : ℕ) (a : A)
    → Strict next (pick c (goes (record { place = at; end = next; body = a })) (pick true stops (last (record { place = at; end = at + used; body = a }))))
unfolding Strict
strict-pick true at used next a = refl
strict-pick false at used next a = tt

strict : {A : Type 0} (at n e next : ℕ) (g : Got A) → Strict next (step_of true at n e next g)
unfolding Strict
strict at n e next (is a used) = strict-pick (eqb used n && leb 1 e) at used next a
strict at n e next (isnt r p) = tt

-- the ends ascend
asc-consed : {A : Type 0} (at next : ℕ) (s : Step A) (rest : List (Taken A)) → Strict next s → at ≤ next → Asc next (ends_of rest) → Asc at (ends_of (consed s rest))
unfolding Strict
asc-consed at next stops rest h l r = tt
asc-consed at next (last t) rest h l r = absurd h
asc-consed at next (goes t) rest h l r = rw h (l, r)

asc-pairs : (f : Form) (at : ℕ) (ls : List Line) → Asc at (ends_of (pairs true f at ls))
unfolding pairs pair_step
asc-pairs f at [] = tt
asc-pairs f at (t ∷ []) = tt
asc-pairs f at (t ∷ r ∷ ls) =
    asc-consed at (at + (width t + width r)) (pair_step true f at t r) (pairs true f (at + (width t + width r)) ls)
    (strict at (width t + length r.bytes) r.ends (at + (width t + width r)) (pair_lines f t r)) (omega arith)
    (asc-pairs f (at + (width t + width r)) ls)

asc-both : (at next : ℕ) (s : Step Entry) (rest : Records) (two : List (Taken Pair)) → Strict next s → at ≤ next
    → Asc next (ends rest) → Asc at (ends_of two) → Asc at (ends (both s rest two))
unfolding Strict ends
asc-both at next stops rest two h l r q = q
asc-both at next (last t) rest two h l r q = absurd h
asc-both at next (goes t) rest two h l r q = rw h (l, r)

pub asc-records : (f : Form) (at : ℕ) (ls : List Line) → Asc at (ends (records true f at ls))
unfolding records entry_step ends
asc-records f at [] = tt
asc-records f at (l ∷ ls) =
    asc-both at (at + width l) (entry_step true f at l) (records true f (at + width l) ls) (pairs true f at (l ∷ ls))
    (strict at (length l.bytes) l.ends (at + width l) (entry_line f l.bytes 0)) (omega arith)
    (asc-records f (at + width l) ls) (asc-pairs f at (l ∷ ls))

-- what begins behind the cut has nothing inside it
pub inside-drop : {A : Type 0} (n : ℕ) (t : Taken A) (ts : List (Taken A)) → n < t.end → inside n (t ∷ ts) ≡ inside n ts
unfolding inside
inside-drop n t ts h = ap (λ (b : Bool). pick b (t ∷ inside n ts) (inside n ts)) (lt-leb _ n (omega arith))

pub inside-keep : {A : Type 0} (n : ℕ) (t : Taken A) (ts : List (Taken A)) → t.end ≤ n → inside n (t ∷ ts) ≡ t ∷ inside n ts
unfolding inside
inside-keep n t ts h = ap (λ (b : Bool). pick b (t ∷ inside n ts) (inside n ts)) (le-leb _ n (omega arith))

pub behind : {A : Type 0} (n a : ℕ) (ts : List (Taken A)) → n < a → Asc a (ends_of ts) → inside n ts ≡ []
unfolding inside
behind n a [] h r = refl
behind n a (t ∷ ts) h r = inside-drop n t ts (omega (arith, r.0)) ∙ behind n t.end ts (omega (arith, r.0)) r.1

-- a step of the ended reading, whole inside the cut or not
consed-in : {A : Type 0} (n next : ℕ) (s : Step A) (rest : List (Taken A)) → Strict next s → next ≤ n → consed s (inside n rest) ≡ inside n (consed s rest)
unfolding Strict inside
consed-in n next stops rest h l = refl
consed-in n next (last t) rest h l = absurd h
consed-in n next (goes t) rest h l = sym (inside-keep n t rest (omega (arith, h)))

consed-out : {A : Type 0} (n next : ℕ) (s : Step A) (rest : List (Taken A)) → Strict next s → n < next → Asc next (ends_of rest) → [] ≡ inside n (consed s rest)
unfolding Strict inside
consed-out n next stops rest h l r = refl
consed-out n next (last t) rest h l r = absurd h
consed-out n next (goes t) rest h l r = sym (inside-drop n t rest (omega (arith, h)) ∙ behind n next rest l r)

module _ (f : Form) (at m : ℕ) (t r : Line) (ls : List Line) where
  next : ℕ
  next = at + (width t + width r)

  pair-strict : Strict next (pair_step true f at t r)
  unfolding pair_step next
  pair-strict = strict at (width t + length r.bytes) r.ends next (pair_lines f t r)

  pair-in : width t + width r ≤ m → pairs true f next (within (m - width t - width r) ls) ≡ inside (at + m) (pairs true f next ls)
      → pairs true f at (t ∷ r ∷ within (m - width t - width r) ls) ≡ inside (at + m) (pairs true f at (t ∷ r ∷ ls))
  unfolding pairs next
  pair-in h ih = ap (consed (pair_step true f at t r)) ih ∙ consed-in (at + m) next (pair_step true f at t r) (pairs true f next ls) pair-strict (omega arith)

  pair-out : m < width t + width r → [] ≡ inside (at + m) (pairs true f at (t ∷ r ∷ ls))
  unfolding pairs next
  pair-out h = consed-out (at + m) next (pair_step true f at t r) (pairs true f next ls) pair-strict (omega arith) (asc-pairs f next ls)

  pair-cut : (p q : Bool) → leb (width t) m ≡ p → leb (width r) (m - width t) ≡ q
      → pairs true f next (within (m - width t - width r) ls) ≡ inside (next + (m - width t - width r)) (pairs true f next ls)
      → pairs true f at (pick p (t ∷ pick q (r ∷ within (m - width t - width r) ls) []) []) ≡ inside (at + m) (pairs true f at (t ∷ r ∷ ls))
  unfolding next pairs
  pair-cut true true e g ih =
      let same : at + (width t + width r) + (m - width t - width r) ≡ at + m = omega (arith, leb-true (width t) m e, leb-true (width r) (m - width t) g) in
      pair-in (omega (arith, leb-true (width t) m e, leb-true (width r) (m - width t) g)) (rw same at ih)
  pair-cut true false e g ih = pair-out (omega (arith, leb-true (width t) m e, leb-false (width r) (m - width t) g))
  pair-cut false q e g ih = pair-out (omega (arith, leb-false (width t) m e))

none_of : (f : Form) (at : ℕ) (p : Bool) (t : Line) → pairs true f at (pick p (t ∷ []) []) ≡ []
unfolding pairs
none_of f at true t = refl
none_of f at false t = refl

pub pairs-cut : (f : Form) (at m : ℕ) (ls : List Line) → pairs true f at (within m ls) ≡ inside (at + m) (pairs true f at ls)
unfolding within pairs inside next
pairs-cut f at m [] = refl
pairs-cut f at m (t ∷ []) = none_of f at (leb (width t) m) t
pairs-cut f at m (t ∷ r ∷ ls) =
    pair-cut f at m t r ls (leb (width t) m) (leb (width r) (m - width t)) refl refl
    (pairs-cut f (at + (width t + width r)) (m - width t - width r) ls)

-- the same for group one
both-in : (n next : ℕ) (s : Step Entry) (rest rest' : Records) (two two' : List (Taken Pair)) → Strict next s → next ≤ n
    → rest' ≡ cut_records n rest → two' ≡ inside n two → both s rest' two' ≡ cut_records n (both s rest two)
unfolding Strict cut_records inside
both-in n next stops rest rest' two two' h l e g = ap (λ (x : List (Taken Pair)). record { entries = []; pairs = x }) g
both-in n next (last t) rest rest' two two' h l e g = absurd h
both-in n next (goes t) rest rest' two two' h l e g =
    ap (λ (x : Records). both (goes t) x two) e
    ∙ ap (λ (x : List (Taken Entry)). record { entries = x; pairs = inside n rest.pairs }) (sym (inside-keep n t rest.entries (omega (arith, h))))

pub asc-right : (a n : ℕ) (xs ys : List ℕ) → n < a → Asc a (xs ++ ys) → (b : ℕ) × (n < b) × Asc b ys
asc-right a n [] ys h r = (a, h, r)
asc-right a n (x ∷ xs) ys h r = asc-right x n xs ys (omega (arith, r.0)) r.1

pub asc-left : (a : ℕ) (xs ys : List ℕ) → Asc a (xs ++ ys) → Asc a xs
asc-left a [] ys r = tt
asc-left a (x ∷ xs) ys r = (r.0, asc-left x xs ys r.1)

-- what begins behind the cut has no record inside it
pub nothing : Records
nothing = record { entries = []; pairs = [] }

behind-both : (n a : ℕ) (r : Records) → n < a → Asc a (ends r) → nothing ≡ cut_records n r
unfolding cut_records ends nothing
behind-both n a r h q =
    let k = asc-right a n (ends_of r.entries) (ends_of r.pairs) h q in
    let one : inside n r.entries ≡ [] = behind n a r.entries h (asc-left a (ends_of r.entries) (ends_of r.pairs) q) in
    let two : inside n r.pairs ≡ [] = behind n k.0 r.pairs k.1 k.2 in
    rw (one, two)

both_out : (n next : ℕ) (s : Step Entry) (rest : Records) (two : List (Taken Pair)) → Strict next s → n < next → Asc next (ends rest)
    → [] ≡ inside n two → nothing ≡ cut_records n (both s rest two)
unfolding Strict cut_records inside nothing
both_out n next stops rest two h l r g = ap (λ (x : List (Taken Pair)). record { entries = []; pairs = x }) g
both_out n next (last t) rest two h l r g = absurd h
both_out n next (goes t) rest two h l r g =
    behind-both n next rest l r
    ∙ ap (λ (x : List (Taken Entry)). record { entries = x; pairs = inside n rest.pairs }) (sym (inside-drop n t rest.entries (omega (arith, h))))

module _ (f : Form) (at m : ℕ) (l : Line) (ls : List Line) where
  entry-strict : Strict (at + width l) (entry_step true f at l)
  unfolding entry_step
  entry-strict = strict at (length l.bytes) l.ends (at + width l) (entry_line f l.bytes 0)

  entry-cut : (p : Bool) → leb (width l) m ≡ p
      → records true f (at + width l) (within (m - width l) ls) ≡ cut_records (at + width l + (m - width l)) (records true f (at + width l) ls)
      → pairs true f at (pick p (l ∷ within (m - width l) ls) []) ≡ inside (at + m) (pairs true f at (l ∷ ls))
      → records true f at (pick p (l ∷ within (m - width l) ls) []) ≡ cut_records (at + m) (records true f at (l ∷ ls))
  unfolding records nothing pairs
  entry-cut true e ih g =
      let same : at + width l + (m - width l) ≡ at + m = omega (arith, leb-true (width l) m e) in
      both-in (at + m) (at + width l) (entry_step true f at l) (records true f (at + width l) ls) (records true f (at + width l) (within (m - width l) ls))
      (pairs true f at (l ∷ ls)) (pairs true f at (l ∷ within (m - width l) ls)) entry-strict (omega (arith, leb-true (width l) m e)) (rw same at ih) g
  entry-cut false e ih g =
      both_out (at + m) (at + width l) (entry_step true f at l) (records true f (at + width l) ls) (pairs true f at (l ∷ ls)) entry-strict
      (omega (arith, leb-false (width l) m e)) (asc-records f (at + width l) ls) g

pub records-cut : (f : Form) (at m : ℕ) (ls : List Line) → records true f at (within m ls) ≡ cut_records (at + m) (records true f at ls)
unfolding within records cut_records inside
records-cut f at m [] = refl
records-cut f at m (l ∷ ls) =
    entry-cut f at m l ls (leb (width l) m) refl (records-cut f (at + width l) (m - width l) ls) (pairs-cut f at m (l ∷ ls))
