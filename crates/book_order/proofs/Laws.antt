-- Laws for the order of numbers: the place of one among those before it, putting it in, putting all in.
-- Assumes nothing.
use Prim.Native.Nat.{ℕ, zero, suc, ◌+◌, ◌-◌, ◌<◌, ◌≤◌}
use mathlib.Core.Path.{◌≡◌, refl, sym, ap, ◌∙◌}
use mathlib.Core.Bool.{Bool, true, false}
use mathlib.Core.List.{List, [], ◌∷◌, ◌++◌}
use Rattle.std.proofs.lemmas.Bool.{false≢true}
use native.Mathlib.Omega.{arith}
use native.Mathlib.Nat.{zero-add}
use native.Mathlib.Numerals.{add-one}
use lib.Dec.{leb}
use lib.ListN.{length, length-append, length-drop, take, drop, get_or, take-append-drop, drop_of_length-le}
use lib.Seq.{sets, sets-eq, length-sets, take_all, take-nil, take-suc, take-take, take_at, drop-cons, drop-drop, drop-append-add, append_snoc, get_or-take, length-take-le}
use borrow.Author.Rules.{rules}
use borrow.Author.Tests.{le-leb, lt-leb}
use Rattle.format.specs.Lists.{pick}
use Rattle.cells.proofs.Laws.{sets-append}
use Rattle.book.specs.Names.{order, less, same, more}
use Rattle.book.specs.Given.{entry_at, put_number, numbers_of}
use Rattle.book.proofs.Numbering.{numbers-long}
use Rattle.book_rows.specs.Told.{order_by}
use Rattle.std.specs.declared.cmp.Ordering.{Ordering}
use Rattle.std.specs.declared.cmp.Ordering.TheVariants.{Less, Equal, Greater}
use Rattle.std.specs.Ordering.{is_le}
use Rattle.book_order.specs.Told.{Spot}

-- 1. the place of a number: it stands behind the first i
pub record Spotting (p r o : List ℕ) (k i : ℕ) : Type 0 where
  pub within : i ≤ k
  pub long : length (take k o) ≡ k
  pub whole : put_number p r k (take k o) ≡ take i (take k o) ++ put_number p r k (drop i (take k o))

pub spot-start : (p r o : List ℕ) (k : ℕ) → k ≤ length o → Spotting p r o k 0
spot-start p r o k h = record { within = omega arith; long = length-take-le k o h; whole = refl }

module _ {p r o : List ℕ} {k i : ℕ} (w : Spotting p r o k i) where
  pub spot-end : k ≤ i → Spot p r o k k
  unfolding put_number
  spot-end h =
      let b = w.within in
      let l = w.long in
      let z : i ≡ k = omega arith in
      let n : length (take k o) ≤ k = omega arith in
      let d = drop_of_length-le (take k o) n in
      record { within = omega arith; whole = (rw z at w.whole) ∙ rw d }

  module _ {m j : ℕ} (h : i < k) (a : m ≡ i) (b : j ≡ get_or o m 0) where
    there : drop i (take k o) ≡ j ∷ drop (suc i) (take k o)
    there =
        let l = w.long in
        drop-cons (take k o) i 0 (omega arith) ∙ ap (λ (x : ℕ). x ∷ drop (suc i) (take k o)) (get_or-take k o i 0 h ∙ sym (b ∙ rw a))

    module _ {s t : List ℕ} (c : s ≡ (entry_at p r k).name) (d : t ≡ (entry_at p r j).name) where
      spot-less : order s t ≡ less → Spot p r o k i
      unfolding put_number
      spot-less e =
          let f : order (entry_at p r k).name (entry_at p r j).name ≡ less = rw (c, d) at e in
          record { within = omega arith; whole = w.whole ∙ rw (there, f) }

      spot-same : order s t ≡ same → Spot p r o k i
      unfolding put_number
      spot-same e =
          let f : order (entry_at p r k).name (entry_at p r j).name ≡ same = rw (c, d) at e in
          record { within = omega arith; whole = w.whole ∙ rw (there, f) }

      spot-more : order s t ≡ more → Spotting p r o k (i + 1)
      unfolding put_number
      spot-more e =
          let f : order (entry_at p r k).name (entry_at p r j).name ≡ more = rw (c, d) at e in
          let l = w.long in
          let u : take (suc i) (take k o) ≡ take i (take k o) ++ (j ∷ []) = take-suc (take k o) i 0 (omega arith) ∙ ap (λ (x : ℕ). take i (take k o) ++ (x ∷ [])) (get_or-take k o i 0 h ∙ sym (b ∙ rw a)) in
          record {
            within = omega arith;
            long = l;
            whole = w.whole ∙ rw (there, f, add-one, u) (sym (append_snoc (take i (take k o)) j (put_number p r k (drop (suc i) (take k o)))));
          }

      spot_at : (y : Ordering) → order s t ≡ order_by y → is_le y ≡ true → Spot p r o k i
      spot_at Less e g = spot-less e
      spot_at Equal e g = spot-same e
      spot_at Greater e g = absurd (false≢true g)

      spot_behind : (y : Ordering) → order s t ≡ order_by y → is_le y ≡ false → Spotting p r o k (i + 1)
      spot_behind Less e g = absurd (false≢true (sym g))
      spot_behind Equal e g = absurd (false≢true (sym g))
      spot_behind Greater e g = spot-more e

      module _ (y : Ordering) (e : order s t ≡ order_by y) {u : Bool} (f : u ≡ is_le y) where
        pub spot-here : u ≡ true → Spot p r o k i
        spot-here g = spot_at y e (sym f ∙ g)

        pub spot-past : u ≡ false → Spotting p r o k (i + 1)
        spot-past g = spot_behind y e (sym f ∙ g)

pub ruleset spots = (rules, spot-start, spot-end, spot-here, spot-past)

-- 2. a number put in at its place
drop-take : (q k : ℕ) (l : List ℕ) → q ≤ k → drop q (take k l) ≡ take (k - q) (drop q l)
drop-take zero k l h = let e : k - 0 ≡ k = omega arith in rw e
drop-take (suc q) zero l h = absurd (omega arith)
drop-take (suc q) (suc k) [] h = sym (take-nil (suc k - suc q))
drop-take (suc q) (suc k) (x ∷ l) h = let e : suc k - suc q ≡ k - q = omega arith in rw e (drop-take q k l (omega arith))

-- what stands there stored again
sets_same : (l : List ℕ) (q : ℕ) → q ≤ length l → sets l 0 (take q l) ≡ l
sets_same l q h =
    let n = length-take-le q l h in
    sets-eq (take q l) l 0 (omega arith) ∙ rw (zero-add, n) (take-append-drop q l)

moved : (o : List ℕ) (k q v : ℕ) → q ≤ k → k < length o → sets o q (v ∷ take (k - q) (drop q o)) ≡ sets o 0 (take q (take k o) ++ v ∷ drop q (take k o))
moved o k q v h l =
    let n : length (take q o) ≡ q = length-take-le q o (omega arith) in
    sym (rw (take-take q k o h, drop-take q k o h) (sets-append o 0 (take q o) (v ∷ take (k - q) (drop q o)) ∙ rw (sets_same o q (omega arith), n, zero-add)))

module _ (p r o : List ℕ) (k : ℕ) {q : ℕ} (s : Spot p r o k q) where
  pub put-inside : {u v : ℕ} → u ≡ q → v ≡ k → u ≤ v
  put-inside a b = let c = s.within in omega arith

  pub put-done : {u v : ℕ} {left : List ℕ} → k < length o → u ≡ q → v ≡ k → left ≡ sets o u (k ∷ take (v - u) (drop u o)) → left ≡ sets o 0 (put_number p r k (take k o))
  put-done h a b e = e ∙ rw (a, b, moved o k q k s.within h, s.whole)

pub put-room : (o : List ℕ) {k v : ℕ} → k < length o → v ≡ k → v < length o
put-room o h e = omega arith

pub put-ready : (o : List ℕ) {k : ℕ} → k < length o → k ≤ length o
put-ready o h = omega arith

pub ruleset puts = (rules, put-inside, put-done, put-room, put-ready)

-- 3. all numbers put in: the first k are
pub record Sorting (p r : List ℕ) (n : ℕ) (old new : List ℕ) (k : ℕ) : Type 0 where
  pub within : k ≤ n
  pub room : n ≤ length old
  pub long : length new ≡ length old
  pub sofar : new ≡ sets old 0 (numbers_of p r k)

-- longer numbers over shorter ones
sets_over : (l js ws : List ℕ) → length js ≤ length ws → length ws ≤ length l → sets (sets l 0 js) 0 ws ≡ sets l 0 ws
sets_over l js ws h k =
    let a : sets l 0 js ≡ js ++ drop (length js) l = sets-eq js l 0 (omega arith) ∙ rw zero-add in
    let z : length ws ≡ length js + (length ws - length js) = omega arith in
    let b : drop (length ws) (js ++ drop (length js) l) ≡ drop (length ws) l =
    ap (λ (n : ℕ). drop n (js ++ drop (length js) l)) z ∙ (drop-append-add js (drop (length js) l) (length ws - length js) ∙ (drop-drop (length ws - length js) (length js) l ∙ ap (λ (n : ℕ). drop n l) (sym z))) in
    sets-eq ws (sets l 0 js) 0 (omega (arith, length-sets l 0 js)) ∙ (rw (zero-add, a, b) (sym (sets-eq ws l 0 (omega arith) ∙ rw zero-add)))

first_of : (l js : List ℕ) (k : ℕ) → length js ≡ k → k ≤ length l → take k (sets l 0 js) ≡ js
first_of l js k e h = rw (sets-eq js l 0 (omega arith)) (take_at js (drop (0 + length js) l) k e)

pub sort-short : (p r old : List ℕ) {n u : ℕ} → u ≡ n → length old < u → old ≡ pick (leb n (length old)) (sets old 0 (numbers_of p r n)) old
sort-short p r old {n} e h = let l : length old < n = omega arith in rw (lt-leb n (length old) l)

pub sort-start : (p r old : List ℕ) {n u : ℕ} → u ≡ n → u ≤ length old → Sorting p r n old old 0
unfolding numbers_of
sort-start p r old e h = record { within = omega arith; room = omega arith; long = refl; sofar = refl }

module _ {p r : List ℕ} {n : ℕ} {old new : List ℕ} {k : ℕ} (w : Sorting p r n old new k) where
  pub sort-end : n ≤ k → new ≡ pick (leb n (length old)) (sets old 0 (numbers_of p r n)) old
  sort-end h =
      let b = w.within in
      let z : k ≡ n = omega arith in
      rw (le-leb n (length old) w.room) (rw z at w.sofar)

  pub sort-room : k < n → k < length new
  sort-room h = let a = w.room in let b = w.long in omega arith

  pub sort-more : {left : List ℕ} → k < n → left ≡ sets new 0 (put_number p r k (take k new)) → Sorting p r n old left (k + 1)
  unfolding numbers_of
  sort-more {left} h e =
      let a = w.room in
      let b = numbers-long p r k in
      let c : length (put_number p r k (numbers_of p r k)) ≡ suc k = numbers-long p r (suc k) in
      let d : take k new ≡ numbers_of p r k = rw w.sofar (first_of old (numbers_of p r k) k b (omega arith)) in
      record {
        within = omega arith;
        room = a;
        long = ap length e ∙ (length-sets new 0 (put_number p r k (take k new)) ∙ w.long);
        sofar = e ∙ rw (d, add-one, w.sofar) (sets_over old (numbers_of p r k) (put_number p r k (numbers_of p r k)) (omega arith) (omega arith));
      }

pub ruleset sorts = (rules, sort-short, sort-start, sort-end, sort-room, sort-more)
