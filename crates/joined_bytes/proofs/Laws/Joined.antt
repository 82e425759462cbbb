-- Bytes joined into one number.
-- Assumes nothing.
use Prim.Native.Nat.{ℕ, suc, ◌%◌, ◌+◌, ◌*◌, ◌-◌, ◌<◌, ◌≤◌, ◌^◌}
use mathlib.Core.Path.{◌≡◌, refl, ap, sym, subst, ◌∙◌}
use mathlib.Core.Bool.{Bool, true, false}
use mathlib.Core.List.{List, [], ◌∷◌}
use native.Mathlib.Omega.{arith}
use native.Mathlib.Nat.{mul-le-mul_left, mul_assoc, zero-mul, zero-add, pow-le-pow_right, pow-suc, pow-succ'}
use native.Mathlib.Numerals.{add-one}
use lib.Dec.{lit<, lit≤}
use borrow.Author.Rules.{rules}
use mir.Val.{Fits}
use mir.Syntax.{w32, w64}
use Rattle.std.specs.Prelude.{Result, Ok, Err}
use Rattle.format.specs.Number.{horner, byte, next_byte, more_bytes, bytes as bytes_of, little, join, joined}
use Rattle.format.specs.Got.{Got, is, isnt, then}
use Rattle.format.specs.Pairs.{index}
use Rattle.numbers.specs.Told.{told}
use Rattle.joined_bytes.specs.Steps.{join_on, join_step}
use Rattle.numbers.specs.declared.Halt.{Halt}
use Rattle.numbers.specs.declared.Read.{Read}
use Rattle.joining.proofs.Shift.{moved_up}
use Rattle.numbers.proofs.Laws.Numbers.{byte-below, next-below}

-- `joined_of`: v is joined, and k more bytes follow from p on
abbrev pub join_from : ℕ → Bool → (v scale k : ℕ) → List ℕ → ℕ → Got ℕ
join_from radix big v scale k s p = then (more_bytes radix k s p) (λ bs end. is (join_on big v scale bs) end)

pub record Joining (radix : ℕ) (big : Bool) (n : ℕ) (s : List ℕ) (at v scale p k : ℕ) : Type 0 where
  pub rest : joined radix big n s at ≡ join_from radix big v scale k s p
  pub small : v < scale
  pub room : scale * 256 ^ k ≤ 4294967296

join_first : (big : Bool) (b : ℕ) (bs : List ℕ) → join big (b ∷ bs) ≡ join_on big b 256 bs
unfolding join join_on horner little
join_first true b bs = rw (zero-mul, zero-add)
join_first false b bs = refl

join_more : (big : Bool) (v scale b : ℕ) (bs : List ℕ) → join_on big v scale (b ∷ bs) ≡ join_on big (join_step big v scale b) (scale * 256) bs
unfolding join_on join_step horner little
join_more true v scale b bs = refl
join_more false v scale b bs = omega (arith, mul_assoc scale 256 (little bs))

join-none : (big : Bool) (v scale : ℕ) → join_on big v scale [] ≡ v
unfolding join_on horner little
join-none true v scale = refl
join-none false v scale = omega arith

fuse-first : (big : Bool) (b : ℕ) (m : Got (List ℕ)) → then (then m (λ bs e. is (b ∷ bs) e)) (λ bs e. is (join big bs) e) ≡ then m (λ bs e. is (join_on big b 256 bs) e)
fuse-first big b (is bs e) = rw (join_first big b bs)
fuse-first big b (isnt r p) = refl

fuse-more : (big : Bool) (v scale b : ℕ) (m : Got (List ℕ))
    → then (then m (λ bs e. is (b ∷ bs) e)) (λ bs e. is (join_on big v scale bs) e) ≡ then m (λ bs e. is (join_on big (join_step big v scale b) (scale * 256) bs) e)
fuse-more big v scale b (is bs e) = rw (join_more big v scale b bs)
fuse-more big v scale b (isnt r p) = refl

pub joined-none : (radix : ℕ) (big : Bool) (n : ℕ) (s : List ℕ) (at : ℕ) {a : Result (Read ℕ) Halt} {h : Halt} → told a ≡ byte radix s at → a ≡ Err h → told (Err h) ≡ joined radix big n s at
unfolding joined bytes_of
joined-none radix big n s at e g = rw (← e, g)

pub joined-start : (radix : ℕ) (big : Bool) (s : List ℕ) (at : ℕ) {n : ℕ} {a : Result (Read ℕ) Halt} {r : Read ℕ}
    → told a ≡ byte radix s at → a ≡ Ok r → n ≤ 3 → Joining radix big n s at r.value 256 r.next n
unfolding joined bytes_of
joined-start radix big s at {n} {a} {r} e g h = record {
  rest = rw (← e, g) (fuse-first big r.value (more_bytes radix n s r.next));
  small = byte-below radix s at g e;
  room = omega (arith, pow-le-pow_right {n = 256} (lit< tt) h);
}

module _ {radix : ℕ} {big : Bool} {n : ℕ} {s : List ℕ} {at v scale p k : ℕ} (w : Joining radix big n s at v scale p k) where
  pub joined_end : k ≤ 0 → is v p ≡ joined radix big n s at
  unfolding more_bytes
  joined_end h = let z : k ≡ 0 = omega arith in sym (w.rest ∙ (rw z (ap (λ (x : ℕ). is x p) (join-none big v scale))))

  pub joined-fits : k ≤ 0 → Fits w32 v
  joined-fits h = let z : k ≡ 0 = omega arith in record { fits = omega (arith, w.small, rw z at w.room) }

  module _ (h : 0 < k) where
    next : k ≡ suc (k - 1)
    next = omega arith

    room-more : scale * 256 * 256 ^ (k - 1) ≤ 4294967296
    room-more = let e : 256 ^ k ≡ 256 * 256 ^ (k - 1) = ap (λ (x : ℕ). 256 ^ x) next ∙ pow-succ' 256 (k - 1) in rw mul_assoc (rw e at w.room)

    module _ {b : Result (Read ℕ) Halt} (e : told b ≡ next_byte radix s p) where
      pub joined-stop : {h : Halt} → b ≡ Err h → told (Err h) ≡ joined radix big n s at
      unfolding more_bytes
      joined-stop g = sym (w.rest ∙ (ap (λ (x : ℕ). join_from radix big v scale x s p) next ∙ rw (← e, g)))

      pub joined-more : {r : Read ℕ} → b ≡ Ok r → {v' : ℕ} → v' ≡ join_step big v scale r.value → v' < scale * 256 → Joining radix big n s at v' (scale * 256) r.next (k - 1)
      unfolding more_bytes
      joined-more {r} g {v'} f l = record {
        rest = w.rest ∙ (ap (λ (x : ℕ). join_from radix big v scale x s p) next ∙ rw (← e, g, f) (fuse-more big v scale r.value (more_bytes radix (k - 1) s r.next)));
        small = l;
        room = room-more;
      }

-- `joined_of`: v is joined of so many bytes, of the n + 1
pub record Placing (radix : ℕ) (big : Bool) (n : ℕ) (s : List ℕ) (at v places p : ℕ) : Type 0 where
  pub joins : Joining radix big n s at v (256 ^ places) p (n + 1 - places)
  pub some : 1 ≤ places
  pub four : n ≤ 3

pub placing-start : (radix : ℕ) (big : Bool) (s : List ℕ) (at : ℕ) {n : ℕ} {a : Result (Read ℕ) Halt} {r : Read ℕ}
    → told a ≡ byte radix s at → a ≡ Ok r → n ≤ 3 → {v : ℕ} → v ≡ r.value → Placing radix big n s at v 1 r.next
placing-start radix big s at {n} {r = r} e g h f =
    let z : n ≡ n + 1 - 1 = omega arith in
    record { joins = rw f (subst (λ (k : ℕ). Joining radix big n s at r.value 256 r.next k) z (joined-start radix big s at e g h)); some = omega arith; four = h }

module _ {radix : ℕ} {big : Bool} {n : ℕ} {s : List ℕ} {at v places p : ℕ} (w : Placing radix big n s at v places p) where
  pub placing-end : n + 1 ≤ places → is v p ≡ joined radix big n s at
  placing-end h = joined_end w.joins (omega arith)

  pub placing-fits : n + 1 ≤ places → Fits w32 v
  placing-fits h = joined-fits w.joins (omega arith)

  pub placing-small : v < 256 ^ places
  placing-small = w.joins.small

  module _ (h : places < n + 1) {b : Result (Read ℕ) Halt} (e : told b ≡ next_byte radix s p) where
    pub placing-stop : {x : Halt} → b ≡ Err x → told (Err x) ≡ joined radix big n s at
    placing-stop = joined-stop w.joins (omega arith) e

    pub placing-more : {r : Read ℕ} → b ≡ Ok r → {d : ℕ} → d ≡ r.value → {v' : ℕ} → v' ≡ join_step big v (256 ^ places) d → v' < 256 ^ places * 256
        → Placing radix big n s at v' (places + 1) r.next
    placing-more {r} g {d} i {v'} f l =
        let z : n + 1 - places - 1 ≡ n + 1 - (places + 1) = omega arith in
        let y : 256 ^ (places + 1) ≡ 256 ^ places * 256 = rw (add-one, pow-suc) in
        record {
          joins = rw (y, ← z) (joined-more w.joins (omega arith) e g (rw i at f) l);
          some = omega arith;
          four = w.four;
        }

-- `moved`: whole bytes up
module _ {b places : ℕ} (l : b < 256) where
  pub moved-1 : places ≡ 1 → b * 256 % 2 ^ 64 ≡ 256 ^ places * b
  moved-1 e = moved_up 64 8 (lit≤ tt) (omega arith) ∙ (rw e (omega arith))

  pub moved-2 : places ≡ 2 → b * 65536 % 2 ^ 64 ≡ 256 ^ places * b
  moved-2 e = moved_up 64 16 (lit≤ tt) (omega arith) ∙ (rw e (omega arith))

  pub moved-3 : (places ≡ 1 → ⊥) → (places ≡ 2 → ⊥) → 1 ≤ places → places ≤ 3 → b * 16777216 % 2 ^ 64 ≡ 256 ^ places * b
  moved-3 f g h k =
      let e : places ≡ 3 = omega arith in
      moved_up 64 24 (lit≤ tt) (omega arith) ∙ (rw e (omega arith))

-- `join_step`
module _ (v places b : ℕ) (h : v < 256 ^ places) (k : places ≤ 3) (l : b < 256) where
  low : 256 ^ places ≤ 16777216
  low = pow-le-pow_right {n = 256} (lit< tt) k

  up : v * 256 % 2 ^ 64 ≡ v * 256
  up = moved_up 64 8 (lit≤ tt) (omega (arith, low))

  scaled : 256 ^ places * b ≤ 256 ^ places * 255
  scaled = let m : b ≤ 255 = omega arith in mul-le-mul_left (256 ^ places) m

  pub step-add : {m : ℕ} → m ≡ 256 ^ places * b → Fits w64 (v + m)
  step-add e = record { fits = omega (arith, scaled, low) }

  module _ {big : Bool} where
    pub step-big : big ≡ true → v * 256 % 2 ^ 64 + b ≡ join_step big v (256 ^ places) b
    unfolding join_step
    step-big e = rw (e, up)

    pub step-little : {m : ℕ} → big ≡ false → m ≡ 256 ^ places * b → v + m ≡ join_step big v (256 ^ places) b
    unfolding join_step
    step-little e f = rw (e, f)

  pub step-below : v * 256 % 2 ^ 64 + b < 256 ^ places * 256
  step-below = omega (arith, up)

  pub step-above : {m : ℕ} → m ≡ 256 ^ places * b → v + m < 256 ^ places * 256
  step-above e = omega (arith, scaled)

pub ruleset stepping = (rules, moved-1, moved-2, moved-3, step-add, step-big, step-little, step-below, step-above)

pub ruleset joining = (rules, byte-below, next-below, joined-none, placing-start, placing-end, placing-fits, placing-small, placing-stop, placing-more)

pub index_is : (radix : ℕ) (big : Bool) (s : List ℕ) (at : ℕ) {r : Got ℕ} → r ≡ joined radix big 1 s at → r ≡ index radix big s at
unfolding index
index_is radix big s at e = e
