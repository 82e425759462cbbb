-- Laws for the two passes and for the whole opening.
-- Assumes nothing.
use Prim.Native.Nat.{ℕ, ◌+◌, ◌*◌, ◌<◌, ◌≤◌}
use mathlib.Core.Path.{◌≡◌, refl, sym, ap, ◌∙◌}
use mathlib.Core.Bool.{Bool, true, false}
use mathlib.Core.Option.{none}
use mathlib.Core.List.{List, map}
use lib.ListN.{length, drop}
use borrow.Author.Rules.{rules}
use borrow.Author.Tests.{le-leb, lt-leb, eq-eqb, ne_eqb}
use Rattle.std.specs.Prelude.{Result, Ok, Err}
use Rattle.format.specs.Outcome.{Outcome, fine, refused, and_then}
use Rattle.laws.proofs.Outcomes.{unlike}
use Rattle.book.specs.Entries.{Entry}
use Rattle.book.specs.Contents.{number, rows, start}
use Rattle.book.specs.Opened.{counted, ordered, closed, ended, check}
use Rattle.book.specs.Steps.{silent, row_fits, row_meets, row_end}
use Rattle.book.proofs.Laws.{check-silent, First, first-start, first-end, first-stop, first_more, Second, second-start, second-end, second-stop, second_more}
use Rattle.book.proofs.Opening.{opened-long}
use Rattle.book_open.specs.Told.{passed_of, ended_of, entries_told, opened_of}
use Rattle.book_open.specs.declared.open.Refusal.{Refusal}

-- the first pass, by the answer of the test
module _ {xs : List ℕ} {n i : ℕ} (w : First xs n i) where
  pub pass-more : {t : Bool} → i < n → t ≡ row_fits xs i → t ≡ true → First xs n (i + 1)
  pass-more h e f = first_more w h (sym e ∙ f)

  pub pass-stop : {t : Bool} {q : ℕ} → i < n → t ≡ row_fits xs i → t ≡ false → q ≡ start i → silent (ordered xs 4 none (rows n (drop 4 xs))) ≡ passed_of (Err (record { number = 21; place = q }))
  pass-stop h e f g = rw g (first-stop w h (sym e ∙ f))

pub ruleset first-passing = (rules, first-start, first-end, pass-more, pass-stop)

-- the second pass, by the answer of the test
module _ {xs : List ℕ} {n i at : ℕ} (w : Second xs n i at) where
  pub end_more : {t : Bool} {e : ℕ} → i < n → t ≡ row_meets xs at i → t ≡ true → e ≡ row_end xs i → Second xs n (i + 1) e
  end_more h e f g = second_more w h (sym e ∙ f) g

  pub end-stop : {t : Bool} {q : ℕ} → i < n → t ≡ row_meets xs at i → t ≡ false → q ≡ start i → closed 4 (start n) (rows n (drop 4 xs)) ≡ ended_of (Err (record { number = 22; place = q }))
  end-stop h e f g = rw g (second-stop w h (sym e ∙ f))

pub ruleset second-passing = (rules, second-start, second-end, end_more, end-stop)

-- a refusal is the same with and without the entries
silent-refused : (xs : List ℕ) {n p : ℕ} → silent (check xs) ≡ refused n p → entries_told (check xs) ≡ refused n p
silent-refused xs {n} {p} h = go (check xs) h
  where
    go : (o : Outcome (List Entry)) → silent o ≡ refused n p → entries_told o ≡ refused n p
    go (fine es) h = unlike n p 0 (sym h)
    go (refused m q) h = h

silent-fine : (xs : List ℕ) {n : ℕ} → n ≡ number xs 0 → silent (check xs) ≡ fine 0 → entries_told (check xs) ≡ fine n
silent-fine xs {n} e h = go (check xs) refl h
  where
    go : (o : Outcome (List Entry)) → check xs ≡ o → silent o ≡ fine 0 → entries_told o ≡ fine n
    go (fine es) f h = ap {B = Outcome ℕ} fine (opened-long xs es f ∙ sym e)
    go (refused m q) f h = unlike m q 0 h

-- the whole
module _ (xs : List ℕ) (n p : ℕ) (e : n ≡ number xs 0) (f : p ≡ start n) where
  pub open-short : length xs < p → entries_told (check xs) ≡ opened_of (Err (record { number = 21; place = 0 }))
  unfolding counted
  open-short h =
      let l : length xs < start (number xs 0) = rw (← e, ← f) h in
      silent-refused xs (check-silent xs ∙ rw (lt-leb (start (number xs 0)) (length xs) l))

  module _ (h : p ≤ length xs) where
    on : silent (check xs) ≡ and_then (silent (ordered xs 4 none (rows n (drop 4 xs)))) (λ z. and_then (closed 4 (start n) (rows n (drop 4 xs))) (λ end. silent (ended xs end)))
    unfolding counted
    on = let l : start (number xs 0) ≤ length xs = rw (← e, ← f) h in check-silent xs ∙ rw (le-leb (start (number xs 0)) (length xs) l, ← e)

    module _ {a : Result (Unit {0}) Refusal} (s : silent (ordered xs 4 none (rows n (drop 4 xs))) ≡ passed_of a) where
      pub open-first : (e : Refusal) → a ≡ Err e → entries_told (check xs) ≡ opened_of (Err e)
      open-first e g = silent-refused xs (on ∙ rw (s, g))

      module _ {u : Unit {0}} (g : a ≡ Ok u) {b : Result ℕ Refusal} (t : closed 4 (start n) (rows n (drop 4 xs)) ≡ ended_of b) where
        pub open-second : (e : Refusal) → b ≡ Err e → entries_told (check xs) ≡ opened_of (Err e)
        open-second e k = silent-refused xs (on ∙ rw (s, g, t, k))

        pub open-left : (q : ℕ) → b ≡ Ok q → (q ≡ length xs → ⊥) → entries_told (check xs) ≡ opened_of (Err (record { number = 22; place = q }))
        unfolding ended
        open-left q k l = silent-refused xs (on ∙ rw (s, g, t, k, ne_eqb q (length xs) l))

        pub open-all : (q : ℕ) → b ≡ Ok q → q ≡ length xs → entries_told (check xs) ≡ opened_of (Ok n)
        unfolding ended
        open-all q k l = silent-fine xs e (on ∙ rw (s, g, t, k, eq-eqb q (length xs) l))

pub ruleset opening = (rules, open-short, open-first, open-second, open-left, open-all)
