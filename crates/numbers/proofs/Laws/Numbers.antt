-- Numbers of a radix, and bytes.
-- Assumes nothing.
use Prim.Native.Nat.{ℕ, ◌+◌, ◌*◌, ◌<◌, ◌≤◌, ◌^◌, min}
use mathlib.Core.Path.{◌≡◌, refl, ap, sym, subst, ◌∙◌}
use mathlib.Core.Bool.{Bool, true, false}
use mathlib.Core.List.{List, [], ◌∷◌, map}
use native.Mathlib.Numerals.{add-one}
use native.Mathlib.Omega.{arith}
use native.Mathlib.Nat.{mul-le-mul_left, min-eq_left, min-eq_right, le_of_lt, add-zero, mul-le-mul}
use lib.ListN.{length, get_or, drop, drop_of_length-le}
use lib.Seq.{drop-cons}
use lib.Dec.{ltb}
use borrow.Author.Rules.{rules}
use borrow.Author.Tests.{lt-ltb, le-ltb, eq-eqb, ne_eqb, ltb-true}
use Rattle.format.specs.Lists.{pick, run}
use Rattle.format.specs.Bytes.{is_blank, worth, is_digit}
use Rattle.format.specs.Number.{horner, past, valued, digits, number, byte, next_byte, space}
use Rattle.format.specs.Got.{Got, is, isnt, then}
use Rattle.std.specs.Prelude.{Result, Ok, Err}
use Rattle.numbers.specs.Told.{told}
use Rattle.numbers.specs.declared.Halt.{Halt}
use Rattle.numbers.specs.declared.Read.{Read}
use Rattle.scan.proofs.Laws.Tests.{by_order}

-- digits never make a value less
grows : (base : ℕ) → 1 ≤ base → (v : ℕ) (ds : List ℕ) → v ≤ horner base v ds
unfolding horner
grows base h v [] = omega arith
grows base h v (d ∷ ds) =
    let a : v * 1 ≤ v * base = mul-le-mul_left v h in
    let b : v * base + d ≤ horner base (v * base + d) ds = grows base h (v * base + d) ds in
    omega arith

-- so a value that is held at the cap stays over it
keeps : (base : ℕ) → 1 ≤ base → (v : ℕ) (ds : List ℕ) → min 4294967296 (horner base (min 4294967296 v) ds) ≡ min 4294967296 (horner base v ds)
keeps base h v ds =
    by_order v 4294967296
    (λ a. rw (min-eq_right (le_of_lt a)))
    (λ a. rw (min-eq_left a) (omega (arith, grows base h 4294967296 ds, grows base h v ds)))

held : (at next v w : ℕ) → min 4294967296 v ≡ min 4294967296 w → valued at next v ≡ valued at next w
held at next v w e =
    by_order v 4294967296
    (λ a. let f : v ≡ w = omega arith in rw f)
    (λ a. rw (le-ltb v 4294967296 a, le-ltb w 4294967296 (omega arith)))

-- the rest of the digits, behind those worth v
abbrev pub digits_on : ℕ → ℕ → List ℕ → ℕ → ℕ
digits_on radix v s i = horner radix v (map worth (run (is_digit radix) (drop i s)))

pub record Digits (radix : ℕ) (s : List ℕ) (at v i : ℕ) : Type 0 where
  pub low : v ≤ 4294967296
  pub place : past (is_digit radix) s at ≡ past (is_digit radix) s i
  pub worth : min 4294967296 (digits radix s at) ≡ min 4294967296 (digits_on radix v s i)

pub digits-start : (radix : ℕ) (s : List ℕ) (at : ℕ) → Digits radix s at 0 at
unfolding digits
digits-start radix s at = record { low = omega arith; place = refl; worth = refl }

module _ {radix : ℕ} {s : List ℕ} {at v i : ℕ} (w : Digits radix s at v i) where
  digits-done : run (is_digit radix) (drop i s) ≡ [] → {r : Got ℕ} → r ≡ valued at i v → r ≡ number radix s at
  unfolding number past horner
  digits-done e {r} f =
      let n : past (is_digit radix) s at ≡ i = w.place ∙ rw (e, add-zero) in
      let m : min 4294967296 (digits radix s at) ≡ min 4294967296 v = rw e at w.worth in
      f ∙ (held at i v (digits radix s at) (sym m) ∙ ap (λ (x : ℕ). valued at x (digits radix s at)) (sym n))

  pub digits-end : length s ≤ i → {r : Got ℕ} → r ≡ valued at i v → r ≡ number radix s at
  unfolding run
  digits-end h f = digits-done (rw (drop_of_length-le s h)) f

  module _ {d : ℕ} (a : d ≡ worth (get_or s i 0)) (h : i < length s) where
    pub digits-stop : radix ≤ d → {r : Got ℕ} → r ≡ valued at i v → r ≡ number radix s at
    unfolding run is_digit
    digits-stop l f = digits-done (rw (drop-cons s i 0 h, le-ltb (worth (get_or s i 0)) radix (rw (← a) l))) f

    pub digits_more : d < radix → {x : ℕ} → x ≡ min 4294967296 (v * radix + d) → Digits radix s at x (i + 1)
    unfolding run is_digit past horner
    digits_more l {x} e =
        let m : run (is_digit radix) (drop i s) ≡ get_or s i 0 ∷ run (is_digit radix) (drop (i + 1) s) =
        rw (add-one, drop-cons s i 0 h, lt-ltb (worth (get_or s i 0)) radix (rw (← a) l)) in
        record {
          low = omega arith;
          place = w.place ∙ omega (arith, ap length m);
          worth = w.worth ∙ rw (m, e, a) (sym (keeps radix (omega arith) (v * radix + worth (get_or s i 0)) (map worth (run (is_digit radix) (drop (i + 1) s)))));
        }

-- at the end of the text no digit stands
pub digits-none : (radix : ℕ) (s : List ℕ) (at : ℕ) → length s ≤ at → isnt 1 at ≡ number radix s at
digits-none radix s at h = digits-end (digits-start radix s at) h (rw (eq-eqb at at refl))

pub ruleset digiting = (rules, digits-start, digits_more, digits-stop, digits-end, digits-none)

-- one digit more fits
pub grown-fits : (v r d : ℕ) → v ≤ 4294967296 → r < 256 → d < r → v * r + d < 2 ^ 64
grown-fits v r d a b c = omega (arith, mul-le-mul a (le_of_lt b))

-- `any_byte`
module _ (radix : ℕ) (s : List ℕ) (at : ℕ) {n : Result (Read ℕ) Halt} (e : told n ≡ number radix s at) where
  pub byte-1 : {h : Halt} → n ≡ Err h → told (Err h) ≡ byte radix s at
  unfolding byte
  byte-1 g = rw (← e, g)

  pub byte-2 : {r : Read ℕ} → n ≡ Ok r → r.value < 256 → told (Ok r) ≡ byte radix s at
  unfolding byte
  byte-2 {r} g l = rw (← e, g, lt-ltb r.value 256 l)

  pub byte-3 : {r : Read ℕ} → n ≡ Ok r → 256 ≤ r.value → isnt 3 at ≡ byte radix s at
  unfolding byte
  byte-3 {r} g l = rw (← e, g, le-ltb r.value 256 l)

-- blanks, by the place behind them
module _ (s : List ℕ) (at : ℕ) {a : ℕ} (e : a ≡ past is_blank s at) where
  pub space-no : a ≡ at → space s at ≡ isnt 4 at
  unfolding space
  space-no h = rw (← e, eq-eqb a at h)

  pub space-is : (a ≡ at → ⊥) → space s at ≡ is tt a
  unfolding space
  space-is h = rw (← e, ne_eqb a at h)

  module _ (radix : ℕ) where
    pub next-1 : a ≡ at → isnt 4 at ≡ next_byte radix s at
    unfolding next_byte
    next-1 h = rw (space-no h)

    pub next-2 : (a ≡ at → ⊥) → {r : Got ℕ} → r ≡ byte radix s a → r ≡ next_byte radix s at
    unfolding next_byte
    next-2 h f = rw (space-is h) f

pub ruleset bytes = (rules, byte-1, byte-2, byte-3, next-1, next-2)

-- what is read as a byte is below 256
pub is_byte : Got ℕ → Type 0
is_byte (is v q) = v < 256
is_byte (isnt r p) = Unit {0}

byte_small : (radix : ℕ) (s : List ℕ) (at : ℕ) → is_byte (byte radix s at)
unfolding byte is_byte
byte_small radix s at = go (number radix s at)
  where
    test : (v q : ℕ) (t : Bool) → ltb v 256 ≡ t → is_byte (pick t (is v q) (isnt 3 at))
    test v q true e = ltb-true v 256 e
    test v q false e = tt

    go : (n : Got ℕ) → is_byte (then n (λ v next. pick (ltb v 256) (is v next) (isnt 3 at)))
    go (is v q) = test v q (ltb v 256) refl
    go (isnt r p) = tt

next_small : (radix : ℕ) (s : List ℕ) (at : ℕ) → is_byte (next_byte radix s at)
unfolding next_byte is_byte
next_small radix s at = go (space s at)
  where
    go : (n : Got Unit) → is_byte (then n (λ u next. byte radix s next))
    go (is u q) = byte_small radix s q
    go (isnt r p) = tt

module _ (radix : ℕ) (s : List ℕ) (at : ℕ) {n : Result (Read ℕ) Halt} {r : Read ℕ} (g : n ≡ Ok r) where
  pub byte-below : told n ≡ byte radix s at → r.value < 256
  unfolding is_byte
  byte-below e = subst is_byte (sym e ∙ ap told g) (byte_small radix s at)

  pub next-below : told n ≡ next_byte radix s at → r.value < 256
  unfolding is_byte
  next-below e = subst is_byte (sym e ∙ ap told g) (next_small radix s at)
