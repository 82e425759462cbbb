-- Numbers, bytes and fields in a line cut short.
-- Assumes nothing.
use Prim.Native.Nat.{ℕ, suc, zero, ◌+◌, ◌-◌, ◌*◌, ◌≤◌, ◌<◌}
use mathlib.Core.Path.{◌≡◌, refl, ap, ◌∙◌}
use mathlib.Core.Bool.{Bool, true, false}
use mathlib.Core.List.{List, [], ◌∷◌, map}
use mathlib.Core.Logic.{◌⊎◌, inl, inr}
use native.Mathlib.Omega.{arith}
use native.Mathlib.Nat.{mul-le-mul_left}
use lib.ListN.{length, drop, take}
use lib.Seq.{take-nil}
use lib.Dec.{eqb, ltb}
use borrow.Author.Tests.{eq-eqb, le-ltb, lt-ltb, ltb-true}
use Rattle.format.specs.Lists.{pick, run}
use Rattle.format.specs.Bytes.{is_digit, worth}
use Rattle.format.specs.Got.{Got, is, isnt, then, ◌>>=◌, ◌>>◌}
use Rattle.format.specs.Number.{behind, byte, bytes, digits, horner, join, joined, more_bytes, next_byte, number, past, space}
use Rattle.format.specs.Entries.{field, lead}
use Rattle.cut_reason.specs.CutReason.{Mild}
use Rattle.cut_reason.proofs.Shorter.{CutOf, Ends, Cuts, Chained, never, chained, bind-ends, bind-cuts, seq-ends, seq-cuts, give-ends, give-cuts}
use Rattle.cut_reason.proofs.Words.{past_end, run-cut, space-ends, space-cuts, lead-ends, lead-cuts}

-- ------------------------------------------------------------------ numbers

-- digits behind never make a value less
horner-from : (base v : ℕ) (ds : List ℕ) → 1 ≤ base → v ≤ horner base v ds
unfolding horner
horner-from base v [] h = omega arith
horner-from base v (d ∷ ds) h = omega (arith, horner-from base (v * base + d) ds h, mul-le-mul_left v h)

horner-more : (base v : ℕ) (ds : List ℕ) (m : ℕ) → 1 ≤ base → horner base v (take m ds) ≤ horner base v ds
unfolding horner
horner-more base v ds zero h = horner-from base v ds h
horner-more base v [] (suc m) h = omega arith
horner-more base v (d ∷ ds) (suc m) h = horner-more base (v * base + d) ds m h

map-take : (g : ℕ → ℕ) (xs : List ℕ) (m : ℕ) → map g (take m xs) ≡ take m (map g xs)
map-take g xs zero = refl
map-take g [] (suc m) = refl
map-take g (x ∷ xs) (suc m) = ap (λ (l : List ℕ). g x ∷ l) (map-take g xs m)

-- no digit of radix 0
no-radix : (xs : List ℕ) → run (is_digit 0) xs ≡ []
unfolding run is_digit
no-radix [] = refl
no-radix (x ∷ xs) = rw (le-ltb (worth x) 0 (omega arith))

digits-less : (radix : ℕ) (xs : List ℕ) (m : ℕ) → horner radix 0 (map worth (take m (run (is_digit radix) xs))) ≤ horner radix 0 (map worth (run (is_digit radix) xs))
digits-less zero xs m = rw (no-radix xs, take-nil {A = ℕ} m) (omega arith)
digits-less (suc r) xs m = rw (map-take worth (run (is_digit (suc r)) xs) m) (horner-more (suc r) 0 (map worth (run (is_digit (suc r)) xs)) m (omega arith))

-- of a number also: it is at most what it was
abbrev pub LessOf : ℕ → ℕ → ℕ → Got ℕ → Type 0
LessOf k v q (is b p) = (b ≤ v) × CutOf k v q (is b p)
LessOf k v q (isnt r p) = Mild r

less-cut : (k v q : ℕ) (g : Got ℕ) → LessOf k v q g → CutOf k v q g
less-cut k v q (is b p) h = h.1
less-cut k v q (isnt r p) h = h

was-number : (t u : Bool) (at n q v w : ℕ) → pick t (isnt 1 at) (pick u (is w n) (isnt 2 at)) ≡ is v q → (w ≡ v) × (n ≡ q) × (u ≡ true)
was-number true u at n q v w h = never h
was-number false true at n q v w h = (cc, cc, refl)
was-number false false at n q v w h = never h

number-less : (radix : ℕ) (s : List ℕ) (at k v q : ℕ) → at ≤ k → k ≤ length s → number radix s at ≡ is v q → LessOf k v q (number radix (take k s) at)
unfolding number digits
number-less radix s at k v q l h e = go (run-cut (is_digit radix) s at k l h).how
  where
    w : (digits radix s at ≡ v) × (past (is_digit radix) s at ≡ q) × (ltb (digits radix s at) 4294967296 ≡ true)
    w = was-number (eqb (past (is_digit radix) s at) at) (ltb (digits radix s at) 4294967296) at (past (is_digit radix) s at) q v (digits radix s at) e

    value : (n x : ℕ) (t : Bool) → x ≤ v → ((x ≡ v) × (n ≡ q) × (q ≤ k)) ⊎ (n ≡ k) → LessOf k v q (pick t (isnt 1 at) (pick (ltb x 4294967296) (is x n) (isnt 2 at)))
    value n x true m c = inl refl
    value n x false m c = rw (lt-ltb x 4294967296 (omega (arith, ltb-true (digits radix s at) 4294967296 w.2, w.0))) (m, c)

    go : ((run (is_digit radix) (drop at (take k s)) ≡ run (is_digit radix) (drop at s)) × (past (is_digit radix) (take k s) at ≡ past (is_digit radix) s at) × (past (is_digit radix) s at ≤ k))
        ⊎ ((run (is_digit radix) (drop at (take k s)) ≡ take (k - at) (run (is_digit radix) (drop at s))) × (past (is_digit radix) (take k s) at ≡ k) × (k < past (is_digit radix) s at))
        → LessOf k v q (number radix (take k s) at)
    go (inl (x, y, z)) =
        let d : digits radix (take k s) at ≡ v = ap (λ (r : List ℕ). horner radix 0 (map worth r)) x ∙ w.0 in
        value (past (is_digit radix) (take k s) at) (digits radix (take k s) at) (eqb (past (is_digit radix) (take k s) at) at) (omega (arith, d)) (inl (d, y ∙ w.1, omega (arith, w.1)))
    go (inr (x, y, z)) =
        let d : digits radix (take k s) at ≡ horner radix 0 (map worth (take (k - at) (run (is_digit radix) (drop at s)))) = ap (λ (r : List ℕ). horner radix 0 (map worth r)) x in
        value (past (is_digit radix) (take k s) at) (digits radix (take k s) at) (eqb (past (is_digit radix) (take k s) at) at)
        (omega (arith, d, w.0, digits-less radix (drop at s) (k - at))) (inr y)

pub number-cuts : (radix : ℕ) → Cuts (number radix)
number-cuts radix s at k v q l h e = less-cut k v q (number radix (take k s) at) (number-less radix s at k v q l h e)

pub number-at-end : (radix : ℕ) (s : List ℕ) → number radix s (length s) ≡ isnt 1 (length s)
unfolding number
number-at-end radix s = rw (past_end (is_digit radix) s, eq-eqb (length s) (length s) refl)

pub number-ends : (radix : ℕ) → Ends (number radix)
number-ends radix s = rw (number-at-end radix s) (inl refl)

pub byte-ends : (radix : ℕ) → Ends (byte radix)
unfolding byte
byte-ends radix s = rw (number-at-end radix s) (inl refl)

pub byte-cuts : (radix : ℕ) → Cuts (byte radix)
unfolding byte
byte-cuts radix s at k v q l h e = go (number radix (take k s) at) (number-less radix s at k v q l h first)
  where
    c : Chained (number radix s at) (λ x next. pick (ltb x 256) (is x next) (isnt 3 at)) v q
    c = chained (number radix s at) (λ x next. pick (ltb x 256) (is x next) (isnt 3 at)) v q e

    kept : (t : Bool) (x n : ℕ) → ltb x 256 ≡ t → pick t (is x n) (isnt 3 at) ≡ is v q → (x ≡ v) × (n ≡ q) × (x < 256)
    kept true x n m g = (cc, cc, ltb-true x 256 m)
    kept false x n m g = never g

    w : (c.value ≡ v) × (c.next ≡ q) × (c.value < 256)
    w = kept (ltb c.value 256) c.value c.next refl c.second

    first : number radix s at ≡ is v q
    first = c.first ∙ rw (w.0, w.1)

    go : (g : Got ℕ) → LessOf k v q g → CutOf k v q (then g (λ x next. pick (ltb x 256) (is x next) (isnt 3 at)))
    go (is b p) m = rw (lt-ltb b 256 (omega (arith, m.0, w.0, w.2))) m.1
    go (isnt r p) m = m

pub next-ends : (radix : ℕ) → Ends (next_byte radix)
unfolding next_byte
next-ends radix = seq-ends space (byte radix) space-ends (byte-ends radix)

pub next-cuts : (radix : ℕ) → Cuts (next_byte radix)
unfolding next_byte
next-cuts radix = seq-cuts space (byte radix) space-cuts (byte-cuts radix) (byte-ends radix)

more-ends : (radix n : ℕ) → Ends (more_bytes radix n)
unfolding more_bytes
more-ends radix zero = give-ends {A = List ℕ} []
more-ends radix (suc n) = bind-ends (next_byte radix) _ (next-ends radix) (λ b. bind-ends (more_bytes radix n) _ (more-ends radix n) (λ bs. give-ends (b ∷ bs)))

more-cuts : (radix n : ℕ) → Cuts (more_bytes radix n)
unfolding more_bytes
more-cuts radix zero = give-cuts {A = List ℕ} []
more-cuts radix (suc n) =
    bind-cuts (next_byte radix) _ (next-cuts radix) (λ b. bind-cuts (more_bytes radix n) _ (more-cuts radix n) (λ bs. give-cuts (b ∷ bs)) (λ bs. give-ends (b ∷ bs)))
    (λ b. bind-ends (more_bytes radix n) _ (more-ends radix n) (λ bs. give-ends (b ∷ bs)))

bytes-ends : (radix n : ℕ) → Ends (bytes radix n)
unfolding bytes
bytes-ends radix n = bind-ends (byte radix) _ (byte-ends radix) (λ b. bind-ends (more_bytes radix n) _ (more-ends radix n) (λ bs. give-ends (b ∷ bs)))

bytes-cuts : (radix n : ℕ) → Cuts (bytes radix n)
unfolding bytes
bytes-cuts radix n =
    bind-cuts (byte radix) _ (byte-cuts radix) (λ b. bind-cuts (more_bytes radix n) _ (more-cuts radix n) (λ bs. give-cuts (b ∷ bs)) (λ bs. give-ends (b ∷ bs)))
    (λ b. bind-ends (more_bytes radix n) _ (more-ends radix n) (λ bs. give-ends (b ∷ bs)))

pub joined-ends : (radix : ℕ) (big : Bool) (n : ℕ) → Ends (joined radix big n)
unfolding joined
joined-ends radix big n = bind-ends (bytes radix n) _ (bytes-ends radix n) (λ bs. give-ends (join big bs))

pub joined-cuts : (radix : ℕ) (big : Bool) (n : ℕ) → Cuts (joined radix big n)
unfolding joined
joined-cuts radix big n = bind-cuts (bytes radix n) _ (bytes-cuts radix n) (λ bs. give-cuts (join big bs)) (λ bs. give-ends (join big bs))

pub field-ends : (w : List ℕ) (radix : ℕ) → Ends (field w radix)
unfolding field
field-ends w radix = seq-ends space (lead w >> number radix) space-ends (seq-ends (lead w) (number radix) (lead-ends w) (number-ends radix))

pub field-cuts : (w : List ℕ) (radix : ℕ) → Cuts (field w radix)
unfolding field
field-cuts w radix =
    seq-cuts space (lead w >> number radix) space-cuts (seq-cuts (lead w) (number radix) (lead-cuts w) (number-cuts radix) (number-ends radix))
    (seq-ends (lead w) (number radix) (lead-ends w) (number-ends radix))
