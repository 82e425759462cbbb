-- Writing is refused with 21 exactly at the first entry whose name an earlier one has.
-- Assumes nothing.
use Prim.Native.Nat.{ℕ, suc, ◌+◌}
use mathlib.Core.Path.{◌≡◌, refl, sym, ap, ◌∙◌}
use mathlib.Core.List.Memᴰ
use mathlib.Core.List.{List, [], ◌∷◌, ◌++◌, Memᴰ}
use mathlib.Core.Logic.{◌⊎◌, inl, inr}
use native.Mathlib.Omega.{arith}
use lib.ListN.{length}
use Rattle.format.specs.Outcome.{Outcome, fine, refused, and_then}
use Rattle.laws.proofs.Outcomes.{unlike}
use Rattle.book.specs.Names.{Order, less, same, more, order}
use Rattle.book.specs.Entries.{Entry, insert, insert_all, in_order_of}
use Rattle.book.specs.Sets.{Ascending, Lacks, Distinct}
use Rattle.book.specs.Promises.{Double}
use Rattle.book.proofs.Orders.{order_same}
use Rattle.book.proofs.Sorting.{Fresh, lacks-at, lacks-all, insert-less, insert-same, insert-more, insert-from, insert-new, insert-old, insert-lacks, insert-ascending}

-- both ways of an outcome
pub data Which {A : Type 0} (o : Outcome A) : Type 0 where
  is-fine : (a : A) → o ≡ fine a → Which o
  is-refused : (n p : ℕ) → o ≡ refused n p → Which o

pub which : {A : Type 0} (o : Outcome A) → Which o
which (fine a) = is-fine a refl
which (refused n p) = is-refused n p refl

same_number : {A : Type 0} (n m p q : ℕ) → ◌≡◌ {A = Outcome A} (refused n p) (refused m q) → (n ≡ m) × (p ≡ q)
same_number n m p q h = (cc, cc)

-- an insertion that is refused
pub record NotIn (k : ℕ) (e : Entry) (fs : List Entry) (n q : ℕ) : Type 0 where
  pub number : n ≡ 21
  pub place : q ≡ k
  other : Entry
  is-there : Memᴰ other fs
  one_name : other.name ≡ e.name

pub not_in : (k : ℕ) (e : Entry) (fs : List Entry) (n q : ℕ) → insert k e fs ≡ refused n q → NotIn k e fs n q
unfolding insert
not_in k e [] n q h = unlike n q (e ∷ []) (sym h)
not_in k e (f ∷ fs) n q h = go (order e.name f.name) refl (not_in k e fs)
  where
    deeper : (m r : ℕ) → (m ≡ n) × (r ≡ q) → NotIn k e fs m r → NotIn k e (f ∷ fs) n q
    deeper m r s t = record { number = sym s.0 ∙ t.number; place = sym s.1 ∙ t.place; other = t.other; is-there = Memᴰ.tail t.is-there; one_name = t.one_name }

    step : ((m r : ℕ) → insert k e fs ≡ refused m r → NotIn k e fs m r) → and_then (insert k e fs) (λ gs. fine (f ∷ gs)) ≡ refused n q → Which (insert k e fs) → NotIn k e (f ∷ fs) n q
    step below s (is-fine a t) = unlike n q (f ∷ a) (sym (rw t at s))
    step below s (is-refused m r t) = deeper m r (same_number m n r q (rw t at s)) (below m r t)

    go : (o : Order) → order e.name f.name ≡ o → ((m r : ℕ) → insert k e fs ≡ refused m r → NotIn k e fs m r) → NotIn k e (f ∷ fs) n q
    go less p below = unlike n q (e ∷ f ∷ fs) (sym h ∙ insert-less k e f fs p)
    go same p below =
        let s = same_number 21 n k q (sym (insert-same k e f fs p) ∙ h) in
        record { number = sym s.0; place = sym s.1; other = f; is-there = Memᴰ.head refl; one_name = sym (order_same e.name f.name p) }
    go more p below = step below (sym (insert-more k e f fs p) ∙ h) (which (insert k e fs))

-- the same of all entries
record Refused (k : ℕ) (done es : List Entry) (n q : ℕ) : Type 0 where
  pub number : n ≡ 21
  earlier : List Entry
  the-entry : Entry
  later : List Entry
  split : es ≡ earlier ++ (the-entry ∷ later)
  place : q ≡ k + length earlier
  other : Entry
  is-earlier : Memᴰ other done ⊎ Memᴰ other earlier
  one_name : other.name ≡ the-entry.name
  first : Distinct earlier
  fresh : Fresh done earlier

all-refused : (k : ℕ) (done es : List Entry) (n q : ℕ) → Ascending done → insert_all k done es ≡ refused n q → Refused k done es n q
unfolding insert_all
all-refused k done [] n q a h = unlike n q done (sym h)
all-refused k done (e ∷ es) n q a h = step (which (insert k e done)) (λ d b i. all-refused (suc k) d es n q b i)
  where
    go : (d : List Entry) → insert k e done ≡ fine d → Refused (suc k) d es n q → Refused k done (e ∷ es) n q
    go d p r = record {
      number = r.number;
      earlier = e ∷ r.earlier;
      the-entry = r.the-entry;
      later = r.later;
      split = ap (λ (l : List Entry). e ∷ l) r.split;
      place = let t = r.place in omega arith;
      other = r.other;
      is-earlier = sides r.is-earlier;
      one_name = r.one_name;
      first = (lacks-all e.name r.earlier (λ x m t. lacks-at x.name d e (r.fresh x m) (insert-new k e done d p) (sym t)), r.first);
      fresh = λ x m. one x (Memᴰ.cases_cons m);
    }
      where
        sides : Memᴰ r.other d ⊎ Memᴰ r.other r.earlier → Memᴰ r.other done ⊎ Memᴰ r.other (e ∷ r.earlier)
        sides (inl m) = from (insert-from k e done d r.other p m)
          where
            from : (r.other ≡ e) ⊎ Memᴰ r.other done → Memᴰ r.other done ⊎ Memᴰ r.other (e ∷ r.earlier)
            from (inl t) = inr (Memᴰ.head t)
            from (inr t) = inl t
        sides (inr m) = inr (Memᴰ.tail m)

        one : (x : Entry) → (x ≡ e) ⊎ Memᴰ x r.earlier → Lacks x.name done
        one x (inl t) = rw t (insert-lacks k e done d a p)
        one x (inr t) = lacks-all x.name done (λ y u v. lacks-at x.name d y (r.fresh x t) (insert-old k e done d y p u) v)

    step : Which (insert k e done) → ((d : List Entry) → Ascending d → insert_all (suc k) d es ≡ refused n q → Refused (suc k) d es n q) → Refused k done (e ∷ es) n q
    step (is-fine d p) below = go d p (below d (insert-ascending k e done d a p) (rw p at h))
    step (is-refused m r p) below =
        let s = same_number m n r q (rw p at h) in
        let t = not_in k e done m r p in
        record {
          number = sym s.0 ∙ t.number;
          earlier = [];
          the-entry = e;
          later = es;
          split = refl;
          place = let u = t.place in let v = s.1 in omega arith;
          other = t.other;
          is-earlier = inl t.is-there;
          one_name = t.one_name;
          first = tt;
          fresh = λ x i. absurd (Memᴰ.not-nil i);
        }

pub in-order-refused : (es : List Entry) (n q : ℕ) → in_order_of es ≡ refused n q → (n ≡ 21) × Double es q
unfolding in_order_of
in-order-refused es n q h =
    let r = all-refused 0 [] es n q tt h in (
      r.number,
      record {
        earlier = r.earlier;
        the-entry = r.the-entry;
        later = r.later;
        split = r.split;
        place = let t = r.place in omega arith;
        other = r.other;
        is-earlier = go r r.is-earlier;
        one_name = r.one_name;
        first = r.first;
      },
    )
  where
    go : (r : Refused 0 [] es n q) → Memᴰ r.other [] ⊎ Memᴰ r.other r.earlier → Memᴰ r.other r.earlier
    go r (inl m) = absurd (Memᴰ.not-nil m)
    go r (inr m) = m
