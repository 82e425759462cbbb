-- Entries put in order of names: which are refused, that none is lost or added, and that a set has one order.
-- Assumes nothing.
use Prim.Native.Nat.{ℕ, suc}
use mathlib.Core.Path.{◌≡◌, refl, sym, ap, subst, ◌∙◌}
use mathlib.Core.List.Memᴰ
use mathlib.Core.List.{List, [], ◌∷◌, Memᴰ}
use mathlib.Core.Logic.{◌⊎◌, inl, inr}
use Rattle.format.specs.Outcome.{Outcome, fine, refused, and_then}
use Rattle.laws.proofs.Outcomes.{Fine, chain, unlike, follow}
use Rattle.book.specs.Names.{Order, less, same, more, order}
use Rattle.book.specs.Entries.{Entry, insert, insert_all, in_order_of}
use Rattle.book.specs.Sets.{Behind, Ascending, Lacks, Distinct, SameMembers}
use Rattle.book.proofs.Orders.{more_same, more-less, order-refl, order_same, less-more, more-less-of, order_trans, not-before-itself}

-- what stands in an outcome that is fine
pub inside : {A : Type 0} (a b : A) → fine a ≡ fine b → a ≡ b
inside a b h = cc

-- of each member
pub behind-at : (n : List ℕ) (es : List Entry) (x : Entry) → Behind n es → Memᴰ x es → order n x.name ≡ less
behind-at n [] x b m = absurd (Memᴰ.not-nil m)
behind-at n (e ∷ es) x b m = go (Memᴰ.cases_cons m) (behind-at n es x b.1)
  where
    go : (x ≡ e) ⊎ Memᴰ x es → (Memᴰ x es → order n x.name ≡ less) → order n x.name ≡ less
    go (inl p) below = rw p b.0
    go (inr p) below = below p

pub lacks-at : (n : List ℕ) (es : List Entry) (x : Entry) → Lacks n es → Memᴰ x es → n ≡ x.name → ⊥
lacks-at n [] x b m = absurd (Memᴰ.not-nil m)
lacks-at n (e ∷ es) x b m = go (Memᴰ.cases_cons m) (lacks-at n es x b.1)
  where
    go : (x ≡ e) ⊎ Memᴰ x es → (Memᴰ x es → n ≡ x.name → ⊥) → n ≡ x.name → ⊥
    go (inl p) below = rw p b.0
    go (inr p) below = below p

pub lacks-all : (n : List ℕ) (es : List Entry) → ((x : Entry) → Memᴰ x es → n ≡ x.name → ⊥) → Lacks n es
lacks-all n [] h = tt
lacks-all n (e ∷ es) h = (h e (Memᴰ.head refl), lacks-all n es (λ x m. h x (Memᴰ.tail m)))

-- what stands behind a name stands behind every name before it
pub behind-trans : (m n : List ℕ) (es : List Entry) → order m n ≡ less → Behind n es → Behind m es
behind-trans m n [] h b = tt
behind-trans m n (e ∷ es) h b = (order_trans m n e.name h b.0, behind-trans m n es h b.1)

-- and has another name
behind-lacks : (n : List ℕ) (es : List Entry) → Behind n es → Lacks n es
behind-lacks n [] b = tt
behind-lacks n (e ∷ es) b = ((λ p. not-before-itself n e.name p b.0), behind-lacks n es b.1)

-- the three ways of an insertion
pub insert-less : (k : ℕ) (e f : Entry) (fs : List Entry) → order e.name f.name ≡ less → insert k e (f ∷ fs) ≡ fine (e ∷ f ∷ fs)
unfolding insert
insert-less k e f fs h = rw h

pub insert-same : (k : ℕ) (e f : Entry) (fs : List Entry) → order e.name f.name ≡ same → insert k e (f ∷ fs) ≡ refused 21 k
unfolding insert
insert-same k e f fs h = rw h

pub insert-more : (k : ℕ) (e f : Entry) (fs : List Entry) → order e.name f.name ≡ more → insert k e (f ∷ fs) ≡ and_then (insert k e fs) (λ gs. fine (f ∷ gs))
unfolding insert
insert-more k e f fs h = rw h

-- an insertion that is fine went in before the first, or behind it
pub data Went (k : ℕ) (e f : Entry) (fs gs : List Entry) : Type 0 where
  first : order e.name f.name ≡ less → e ∷ f ∷ fs ≡ gs → Went k e f fs gs
  later : (hs : List Entry) → order e.name f.name ≡ more → insert k e fs ≡ fine hs → f ∷ hs ≡ gs → Went k e f fs gs

pub went : (k : ℕ) (e f : Entry) (fs gs : List Entry) → insert k e (f ∷ fs) ≡ fine gs → Went k e f fs gs
went k e f fs gs h = go (order e.name f.name) refl
  where
    go : (o : Order) → order e.name f.name ≡ o → Went k e f fs gs
    go less p = first p (inside (e ∷ f ∷ fs) gs (sym (insert-less k e f fs p) ∙ h))
    go same p = unlike 21 k gs (sym (insert-same k e f fs p) ∙ h)
    go more p =
        let c = chain (insert k e fs) (λ hs. fine (f ∷ hs)) gs (sym (insert-more k e f fs p) ∙ h) in
        later c.value p c.first (inside (f ∷ c.value) gs c.second)

-- what an insertion holds
pub insert-from : (k : ℕ) (e : Entry) (fs gs : List Entry) (x : Entry) → insert k e fs ≡ fine gs → Memᴰ x gs → (x ≡ e) ⊎ Memᴰ x fs
unfolding insert
insert-from k e [] gs x h m = Memᴰ.cases_cons (rw (← inside (e ∷ []) gs h) at m)
insert-from k e (f ∷ fs) gs x h m = go (went k e f fs gs h) (λ hs p q. insert-from k e fs hs x p q)
  where
    deeper : (x ≡ e) ⊎ Memᴰ x fs → (x ≡ e) ⊎ Memᴰ x (f ∷ fs)
    deeper (inl p) = inl p
    deeper (inr p) = inr (Memᴰ.tail p)

    step : (hs : List Entry) → (Memᴰ x hs → (x ≡ e) ⊎ Memᴰ x fs) → (x ≡ f) ⊎ Memᴰ x hs → (x ≡ e) ⊎ Memᴰ x (f ∷ fs)
    step hs below (inl p) = inr (Memᴰ.head p)
    step hs below (inr p) = deeper (below p)

    go : Went k e f fs gs → ((hs : List Entry) → insert k e fs ≡ fine hs → Memᴰ x hs → (x ≡ e) ⊎ Memᴰ x fs) → (x ≡ e) ⊎ Memᴰ x (f ∷ fs)
    go (first p q) below = Memᴰ.cases_cons (rw (← q) at m)
    go (later hs p q r) below = step hs (below hs q) (Memᴰ.cases_cons (rw (← r) at m))

pub insert-old : (k : ℕ) (e : Entry) (fs gs : List Entry) (x : Entry) → insert k e fs ≡ fine gs → Memᴰ x fs → Memᴰ x gs
unfolding insert
insert-old k e [] gs x h m = absurd (Memᴰ.not-nil m)
insert-old k e (f ∷ fs) gs x h m = go (went k e f fs gs h) (λ hs p q. insert-old k e fs hs x p q)
  where
    step : (hs : List Entry) → (Memᴰ x fs → Memᴰ x hs) → (x ≡ f) ⊎ Memᴰ x fs → Memᴰ x (f ∷ hs)
    step hs below (inl p) = Memᴰ.head p
    step hs below (inr p) = Memᴰ.tail (below p)

    go : Went k e f fs gs → ((hs : List Entry) → insert k e fs ≡ fine hs → Memᴰ x fs → Memᴰ x hs) → Memᴰ x gs
    go (first p q) below = let t : Memᴰ x (e ∷ f ∷ fs) = Memᴰ.tail m in rw q at t
    go (later hs p q r) below = rw r at (step hs (below hs q) (Memᴰ.cases_cons m))

pub insert-new : (k : ℕ) (e : Entry) (fs gs : List Entry) → insert k e fs ≡ fine gs → Memᴰ e gs
unfolding insert
insert-new k e [] gs h = let m : Memᴰ e (e ∷ []) = Memᴰ.head refl in rw (inside (e ∷ []) gs h) at m
insert-new k e (f ∷ fs) gs h = go (went k e f fs gs h) (insert-new k e fs)
  where
    go : Went k e f fs gs → ((hs : List Entry) → insert k e fs ≡ fine hs → Memᴰ e hs) → Memᴰ e gs
    go (first p q) below = let m : Memᴰ e (e ∷ f ∷ fs) = Memᴰ.head refl in rw q at m
    go (later hs p q r) below = let m : Memᴰ e (f ∷ hs) = Memᴰ.tail (below hs q) in rw r at m

-- what stands behind a name stands behind it when another such entry is put in
insert-behind : (k : ℕ) (n : List ℕ) (e : Entry) (fs gs : List Entry) → order n e.name ≡ less → Behind n fs → insert k e fs ≡ fine gs → Behind n gs
unfolding insert
insert-behind k n e [] gs a b h = subst (λ (l : List Entry). Behind n l) (inside (e ∷ []) gs h) (a, tt)
insert-behind k n e (f ∷ fs) gs a b h = go (went k e f fs gs h) (λ hs p. insert-behind k n e fs hs a b.1 p)
  where
    go : Went k e f fs gs → ((hs : List Entry) → insert k e fs ≡ fine hs → Behind n hs) → Behind n gs
    go (first p q) below = subst (λ (l : List Entry). Behind n l) q (a, b)
    go (later hs p q r) below = subst (λ (l : List Entry). Behind n l) r (b.0, below hs q)

pub insert-ascending : (k : ℕ) (e : Entry) (fs gs : List Entry) → Ascending fs → insert k e fs ≡ fine gs → Ascending gs
unfolding insert
insert-ascending k e [] gs a h = subst (λ (l : List Entry). Ascending l) (inside (e ∷ []) gs h) (tt, tt)
insert-ascending k e (f ∷ fs) gs a h = go (went k e f fs gs h) (λ hs p. insert-ascending k e fs hs a.1 p)
  where
    go : Went k e f fs gs → ((hs : List Entry) → insert k e fs ≡ fine hs → Ascending hs) → Ascending gs
    go (first p q) below =
        subst (λ (l : List Entry). Ascending l) q ((p, behind-trans e.name f.name fs p a.0), a)
    go (later hs p q r) below =
        subst (λ (l : List Entry). Ascending l) r (insert-behind k f.name e fs hs (more-less-of e.name f.name p) a.0 q, below hs q)

-- an entry goes in exactly if no entry has its name
pub insert-fine : (k : ℕ) (e : Entry) (fs : List Entry) → Lacks e.name fs → Fine (insert k e fs)
unfolding insert
insert-fine k e [] l = record { value = e ∷ []; is-fine = refl }
insert-fine k e (f ∷ fs) l = go (order e.name f.name) refl (insert-fine k e fs l.1)
  where
    go : (o : Order) → order e.name f.name ≡ o → Fine (insert k e fs) → Fine (insert k e (f ∷ fs))
    go less p r = record { value = e ∷ f ∷ fs; is-fine = insert-less k e f fs p }
    go same p r = absurd (l.0 (order_same e.name f.name p))
    go more p r = record { value = f ∷ r.value; is-fine = insert-more k e f fs p ∙ follow (insert k e fs) _ r.is-fine refl }

pub insert-lacks : (k : ℕ) (e : Entry) (fs gs : List Entry) → Ascending fs → insert k e fs ≡ fine gs → Lacks e.name fs
insert-lacks k e [] gs a h = tt
insert-lacks k e (f ∷ fs) gs a h = go (went k e f fs gs h) (λ hs p. insert-lacks k e fs hs a.1 p)
  where
    go : Went k e f fs gs → ((hs : List Entry) → insert k e fs ≡ fine hs → Lacks e.name fs) → Lacks e.name (f ∷ fs)
    go (first p q) below = behind-lacks e.name (f ∷ fs) (p, behind-trans e.name f.name fs p a.0)
    go (later hs p q r) below =
        ((λ s. more_same (sym p ∙ (rw s (order-refl f.name)))), below hs q)

-- the same of all entries
all-ascending : (k : ℕ) (done es s : List Entry) → Ascending done → insert_all k done es ≡ fine s → Ascending s
unfolding insert_all
all-ascending k done [] s a h = rw (inside done s h) at a
all-ascending k done (e ∷ es) s a h =
    let c = chain (insert k e done) (λ d. insert_all (suc k) d es) s h in
    all-ascending (suc k) c.value es s (insert-ascending k e done c.value a c.first) c.second

all_from : (k : ℕ) (done es s : List Entry) (x : Entry) → insert_all k done es ≡ fine s → Memᴰ x s → Memᴰ x done ⊎ Memᴰ x es
unfolding insert_all
all_from k done [] s x h m = inl (rw (← inside done s h) at m)
all_from k done (e ∷ es) s x h m =
    let c = chain (insert k e done) (λ d. insert_all (suc k) d es) s h in
    go c.value c.first (all_from (suc k) c.value es s x c.second m)
  where
    earlier : (x ≡ e) ⊎ Memᴰ x done → Memᴰ x done ⊎ Memᴰ x (e ∷ es)
    earlier (inl p) = inr (Memᴰ.head p)
    earlier (inr p) = inl p

    go : (d : List Entry) → insert k e done ≡ fine d → Memᴰ x d ⊎ Memᴰ x es → Memᴰ x done ⊎ Memᴰ x (e ∷ es)
    go d p (inl q) = earlier (insert-from k e done d x p q)
    go d p (inr q) = inr (Memᴰ.tail q)

all_old : (k : ℕ) (done es s : List Entry) (x : Entry) → insert_all k done es ≡ fine s → Memᴰ x done → Memᴰ x s
unfolding insert_all
all_old k done [] s x h m = rw (inside done s h) at m
all_old k done (e ∷ es) s x h m =
    let c = chain (insert k e done) (λ d. insert_all (suc k) d es) s h in
    all_old (suc k) c.value es s x c.second (insert-old k e done c.value x c.first m)

all_new : (k : ℕ) (done es s : List Entry) (x : Entry) → insert_all k done es ≡ fine s → Memᴰ x es → Memᴰ x s
unfolding insert_all
all_new k done [] s x h m = absurd (Memᴰ.not-nil m)
all_new k done (e ∷ es) s x h m =
    let c = chain (insert k e done) (λ d. insert_all (suc k) d es) s h in
    go c.value c.first c.second (Memᴰ.cases_cons m) (λ p. all_new (suc k) c.value es s x c.second p)
  where
    go : (d : List Entry) → insert k e done ≡ fine d → insert_all (suc k) d es ≡ fine s → (x ≡ e) ⊎ Memᴰ x es → (Memᴰ x es → Memᴰ x s) → Memᴰ x s
    go d p q (inl r) below = rw r (all_old (suc k) d es s e q (insert-new k e done d p))
    go d p q (inr r) below = below r

-- entries in order: ascending, and the same entries
pub in-order-ascending : (es s : List Entry) → in_order_of es ≡ fine s → Ascending s
unfolding in_order_of
in-order-ascending es s h = all-ascending 0 [] es s tt h

pub in-order-members : (es s : List Entry) → in_order_of es ≡ fine s → SameMembers es s
unfolding in_order_of
in-order-members es s h x = (all_new 0 [] es s x h, λ m. go (all_from 0 [] es s x h m))
  where
    go : Memᴰ x [] ⊎ Memᴰ x es → Memᴰ x es
    go (inl p) = absurd (Memᴰ.not-nil p)
    go (inr p) = p

-- no entry's name is there already
abbrev pub Fresh : List Entry → List Entry → Type 0
Fresh done es = (x : Entry) → Memᴰ x es → Lacks x.name done

all-fine : (k : ℕ) (done es : List Entry) → Distinct es → Fresh done es → Fine (insert_all k done es)
unfolding insert_all
all-fine k done [] d f = record { value = done; is-fine = refl }
all-fine k done (e ∷ es) d f =
    let i = insert-fine k e done (f e (Memᴰ.head refl)) in
    let r = all-fine (suc k) i.value es d.1 (λ x m. lacks-all x.name i.value (λ y q p. go x m y p (insert-from k e done i.value y i.is-fine q))) in
    record { value = r.value; is-fine = follow (insert k e done) _ i.is-fine r.is-fine }
  where
    go : (x : Entry) → Memᴰ x es → (y : Entry) → x.name ≡ y.name → (y ≡ e) ⊎ Memᴰ y done → ⊥
    go x m y p (inl q) = lacks-at e.name es x d.0 m (sym (p ∙ ap (λ (z : Entry). z.name) q))
    go x m y p (inr q) = lacks-at x.name done y (f x (Memᴰ.tail m)) q p

all-distinct : (k : ℕ) (done es s : List Entry) → Ascending done → insert_all k done es ≡ fine s → Distinct es × Fresh done es
unfolding insert_all
all-distinct k done [] s a h = (tt, λ x m. absurd (Memᴰ.not-nil m))
all-distinct k done (e ∷ es) s a h =
    let c = chain (insert k e done) (λ d. insert_all (suc k) d es) s h in
    let r = all-distinct (suc k) c.value es s (insert-ascending k e done c.value a c.first) c.second in
    go c.value c.first r.0 r.1
  where
    go : (d : List Entry) → insert k e done ≡ fine d → Distinct es → ((x : Entry) → Memᴰ x es → Lacks x.name d) → Distinct (e ∷ es) × ((x : Entry) → Memᴰ x (e ∷ es) → Lacks x.name done)
    go d p q r = (
      (lacks-all e.name es (λ x m t. lacks-at x.name d e (r x m) (insert-new k e done d p) (sym t)), q),
      λ x m. pick_one x (Memᴰ.cases_cons m),
    )
      where
        pick_one : (x : Entry) → (x ≡ e) ⊎ Memᴰ x es → Lacks x.name done
        pick_one x (inl t) = rw t (insert-lacks k e done d a p)
        pick_one x (inr t) = lacks-all x.name done (λ y u v. lacks-at x.name d y (r x t) (insert-old k e done d y p u) v)

-- a set of entries has an order exactly if no two have one name
pub in-order-fine : (es : List Entry) → Distinct es → Fine (in_order_of es)
unfolding in_order_of
in-order-fine es d = all-fine 0 [] es d (λ x m. tt)

pub in-order-distinct : (es s : List Entry) → in_order_of es ≡ fine s → Distinct es
unfolding in_order_of
in-order-distinct es s h = (all-distinct 0 [] es s tt h).0

-- two ascending lists with the same members are one
pub one-order : (es fs : List Entry) → Ascending es → Ascending fs → SameMembers es fs → es ≡ fs
one-order [] [] a b s = refl
one-order [] (f ∷ fs) a b s = absurd (Memᴰ.not-nil ((s f).1 (Memᴰ.head refl)))
one-order (e ∷ es) [] a b s = absurd (Memᴰ.not-nil ((s e).0 (Memᴰ.head refl)))
one-order (e ∷ es) (f ∷ fs) a b s =
    let p : e ≡ f = heads (Memᴰ.cases_cons ((s e).0 (Memᴰ.head refl))) (Memᴰ.cases_cons ((s f).1 (Memᴰ.head refl))) in
    let q : es ≡ fs = one-order es fs a.1 b.1 (λ x. (forth p x, back p x)) in
    cc
  where
    heads : (e ≡ f) ⊎ Memᴰ e fs → (f ≡ e) ⊎ Memᴰ f es → e ≡ f
    heads (inl p) q = p
    heads (inr p) (inl q) = sym q
    heads (inr p) (inr q) =
        more-less (sym (less-more f.name e.name (behind-at f.name fs e b.0 p)) ∙ behind-at e.name es f a.0 q)

    forth : e ≡ f → (x : Entry) → Memᴰ x es → Memᴰ x fs
    forth p x m = go (Memᴰ.cases_cons ((s x).0 (Memᴰ.tail m)))
      where
        go : (x ≡ f) ⊎ Memᴰ x fs → Memᴰ x fs
        go (inl q) = not-before-itself e.name x.name (ap (λ (z : Entry). z.name) (p ∙ sym q)) (behind-at e.name es x a.0 m)
        go (inr q) = q

    back : e ≡ f → (x : Entry) → Memᴰ x fs → Memᴰ x es
    back p x m = go (Memᴰ.cases_cons ((s x).1 (Memᴰ.tail m)))
      where
        go : (x ≡ e) ⊎ Memᴰ x es → Memᴰ x es
        go (inl q) = not-before-itself f.name x.name (ap (λ (z : Entry). z.name) (sym (q ∙ p))) (behind-at f.name fs x b.0 m)
        go (inr q) = q

-- a list in order is its own order
ascending-distinct : (es : List Entry) → Ascending es → Distinct es
ascending-distinct [] a = tt
ascending-distinct (e ∷ es) a = (behind-lacks e.name es a.0, ascending-distinct es a.1)

pub in-order-itself : (es : List Entry) → Ascending es → in_order_of es ≡ fine es
in-order-itself es a =
    let f = in-order-fine es (ascending-distinct es a) in
    let p : f.value ≡ es =
    one-order f.value es (in-order-ascending es f.value f.is-fine) a (λ x. ((in-order-members es f.value f.is-fine x).1, (in-order-members es f.value f.is-fine x).0)) in
    f.is-fine ∙ ap {B = Outcome (List Entry)} fine p
