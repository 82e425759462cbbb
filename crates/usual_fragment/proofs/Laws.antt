-- What the definition reads where bytes of two capital digits stand behind single spaces.
-- Assumes nothing.
use Prim.Native.Nat.{ℕ, ◌+◌, ◌*◌, ◌-◌, ◌<◌, ◌≤◌, ◌%◌}
use mathlib.Core.Path.{◌≡◌, refl, sym}
use mathlib.Core.Bool.{Bool, true, false}
use mathlib.Core.List.{List}
use native.Mathlib.Omega.{arith}
use lib.Dec.{eqb}
use lib.ListN.{length, get_or}
use borrow.Author.Rules.{rules}
use borrow.Author.Tests.{eq-eqb, ne_eqb, eqb-true, lt-ltb}
use Rattle.format.specs.Lists.{pick}
use Rattle.format.specs.Bytes.{is_blank, worth}
use Rattle.format.specs.Got.{is}
use Rattle.format.specs.Number.{past, space, byte, next_byte}
use Rattle.format.specs.Pairs.{index, next_index, any_mode, mode_of, fragment}
use Rattle.digits.specs.Capitals.{capitals}
use Rattle.quick_numbers.specs.Short.{Two}
use Rattle.std.specs.Prelude.{Option, Some, None, Ok}
use Rattle.numbers.specs.declared.Read.{Read}
use Rattle.numbers.proofs.Laws.Numbers.{space-is}
use Rattle.quick_numbers.proofs.Laws.{two_is, spaced-is}
use Rattle.scan.proofs.Laws.Kinds.{one-space}
use Rattle.scan.proofs.Laws.Tests.{by_order}
use Rattle.joined_bytes.specs.Steps.{join_step}
use Rattle.joined_bytes.specs.Joins.{Joins}
use Rattle.joined_bytes.proofs.Laws.Joins.{joins-two}
use Rattle.joined_bytes.proofs.Laws.Joined.{index_is}
use Rattle.modes.proofs.Laws.{mode-2, mode-4, mode-6}
use Rattle.usual_fragment.specs.Usual.{triple, seen, TailSays, TailIs, UsualSays, UsualIs}
use Rattle.usual_fragment.specs.declared.Fragment.{Fragment}

-- `spaced`
pub triple-other : (s : List ℕ) (p : ℕ) → (get_or s p 0 ≡ 32 → ⊥) → 256 ≡ triple s p
unfolding triple
triple-other s p h = rw (ne_eqb (get_or s p 0) 32 h)

pub triple-is : (s : List ℕ) (p : ℕ) {v : ℕ} → get_or s p 0 ≡ 32 → v ≡ capitals (get_or s (p + 1) 0) (get_or s (p + 2) 0) → v ≡ triple s p
unfolding triple
triple-is s p h e = rw (eq-eqb (get_or s p 0) 32 h) e

pub ruleset spacing = (rules, triple-other, triple-is)

-- what an answer below 256 says of the three bytes
triple-space : (s : List ℕ) (p : ℕ) {v : ℕ} → v ≡ triple s p → v < 256 → get_or s p 0 ≡ 32
unfolding triple
triple-space s p {v} e h = go (eqb (get_or s p 0) 32) refl e
  where
    go : (b : Bool) → eqb (get_or s p 0) 32 ≡ b → v ≡ pick b (capitals (get_or s (p + 1) 0) (get_or s (p + 2) 0)) 256 → get_or s p 0 ≡ 32
    go true i f = eqb-true (get_or s p 0) 32 i
    go false i f = absurd (omega arith)

triple-digits : (s : List ℕ) (p : ℕ) {v : ℕ} → v ≡ triple s p → v < 256 → v ≡ capitals (get_or s (p + 1) 0) (get_or s (p + 2) 0)
unfolding triple
triple-digits s p {v} e h = rw (eq-eqb (get_or s p 0) 32 (triple-space s p e h)) at e

-- ------------------------------------------------------------------ three bytes as the definition reads them

worth-low : (b : ℕ) → b < 48 → 255 ≡ worth b
unfolding worth
worth-low b h = rw (lt-ltb b 48 h)

digit-high : (b : ℕ) → worth b < 16 → 32 < b
digit-high b h = by_order b 48 (λ l. absurd (omega (arith, worth-low b l))) (λ l. omega arith)

module _ (s : List ℕ) (p : ℕ) {v c : ℕ} (h : p + 3 ≤ length s) (e : v ≡ triple s p) (l : v ≤ 255) (q : c ≡ get_or s (p + 3) 0) (m : c < 48) where
  triple-two : Two s (p + 1) v
  triple-two =
      let x : p + 1 + 1 ≡ p + 2 = omega arith in
      let y : p + 1 + 2 ≡ p + 3 = omega arith in
      two_is s (p + 1) {v = v} {c = c} (omega arith) (rw x (triple-digits s p e (omega arith))) (rw y q) m

  -- the blank before it
  triple-blank : p + 1 ≡ past is_blank s p
  triple-blank = one-space s p (omega arith) (triple-space s p e (omega arith)) (digit-high (get_or s (p + 1) 0) (triple-two.first (omega arith)))

  triple-leads : space s p ≡ is tt (p + 1)
  triple-leads = space-is s p triple-blank (λ i. omega arith)

  -- the digits
  triple-byte : is v (p + 3) ≡ byte 16 s (p + 1)
  triple-byte = let y : p + 1 + 2 ≡ p + 3 = omega arith in sym (rw y at (triple-two.got (omega arith)))

  -- both
  triple-next : is v (p + 3) ≡ next_byte 16 s p
  triple-next = sym ((spaced-is 16 s p refl (omega arith) (omega arith) (triple-space s p e (omega arith)) triple-two).got (omega arith))

-- two of them as an index
module _ (big : Bool) (s : List ℕ) (p : ℕ) {a b c x : ℕ} (h : p + 6 ≤ length s) (d : a ≡ triple s p) (la : a ≤ 255) (e : b ≡ triple s (p + 3)) (lb : b ≤ 255) (q : c ≡ get_or s (p + 6) 0) (m : c < 48)
    (g : x ≡ join_step big a 256 b) (lx : x < 65536) where
  index-joined : Joins 16 big 1 s (p + 1) (p + 1 + 5) 65536 x
  index-joined =
      let z₁ : p + 1 + 1 ≡ p + 2 = omega arith in
      let z₂ : p + 1 + 2 ≡ p + 3 = omega arith in
      let z₃ : p + 1 + 3 ≡ p + 3 + 1 = omega arith in
      let z₄ : p + 1 + 4 ≡ p + 3 + 2 = omega arith in
      let z₅ : p + 1 + 5 ≡ p + 6 = omega arith in
      joins-two 16 big s (p + 1) refl (omega arith) (rw z₂ (triple-space s (p + 3) e (omega arith)))
      (rw z₁ (triple-digits s p d (omega arith))) la (rw (z₃, z₄) (triple-digits s (p + 3) e (omega arith))) lb g lx (omega arith) (rw z₅ q) m

  triple-index : next_index 16 big s p ≡ is x (p + 6)
  unfolding next_index
  triple-index =
      let z : p + 1 + 5 ≡ p + 6 = omega arith in
      let i : index 16 big s (p + 1) ≡ is x (p + 1 + 5) = sym (index_is 16 big s (p + 1) (sym (index-joined.got lx))) in
      rw (triple-leads s p (omega arith) d la (sym (triple-space s (p + 3) e (omega arith))) (omega arith)) (rw z at i)

-- ------------------------------------------------------------------ `behind_mode`

pub tail-other : (big : Bool) (s : List ℕ) (p mode : ℕ) → TailIs big s p mode None
tail-other big s p mode = record { says = tt }

pub tail-is : (big : Bool) (s : List ℕ) (p mode : ℕ) → p + 9 ≤ length s → {e a b : ℕ} → e ≡ triple s p → a ≡ triple s (p + 3) → b ≡ triple s (p + 6) → e ≤ 255 → a ≤ 255 → b ≤ 255
    → {c : ℕ} → c ≡ get_or s (p + 9) 0 → c < 48 → {i : ℕ} → i ≡ join_step big a 256 b → i < 65536 → TailIs big s p mode (Some (record { value = record { mode = mode; entry = e; index = i }; next = p + 9 }))
tail-is big s p mode h {e} {a} {b} x y z le la lb {c} q m {i} g l =
    let u : p + 3 + 3 ≡ p + 6 = omega arith in
    let v : p + 3 + 6 ≡ p + 9 = omega arith in
    record {
      says = (
        refl,
        triple-space s p x (omega arith),
        sym (triple-next s p (omega arith) x le (sym (triple-space s (p + 3) y (omega arith))) (omega arith)),
        rw v at (triple-index big s (p + 3) (omega arith) y la (rw u z) lb (rw v q) m g l),
      );
    }

pub ruleset tails = (rules, tail-other, tail-is)

-- ------------------------------------------------------------------ `usual_fragment`

pub usual-other : (radix : ℕ) (big : Bool) (s : List ℕ) (at : ℕ) → UsualIs radix big s at None
usual-other radix big s at = record { says = tt }

-- a mode, and what is behind it
module _ (big : Bool) (s : List ℕ) (at : ℕ) {a b m : ℕ} (x : space s at ≡ is tt a) (y : is m b ≡ mode_of 16 s a) where
  usual-from : (r : Read Fragment) → TailSays big s b m (Some r) → fragment 16 big s at ≡ is (seen r.value) r.next
  unfolding fragment
  usual-from r t = rw (x, ← y, t.2, t.3, t.0)

module _ (radix : ℕ) (big : Bool) (s : List ℕ) (at : ℕ) (f : radix ≡ 16) (h : at < length s) {m : ℕ} (d : m ≡ triple s at) where
  pub usual-short : 12 ≤ length s - at → m < 240 → {r : Option (Read Fragment)} → TailIs big s (at + 3) m r → UsualIs radix big s at r
  usual-short k l {r} w = record { says = go r w.says }
    where
      go : (r : Option (Read Fragment)) → TailSays big s (at + 3) m r → UsualSays radix big s at r
      go None t = tt
      go (Some v) t =
          let c : 32 ≡ get_or s (at + 3) 0 = sym t.1 in
          let b = triple-byte s at (omega arith) d (omega arith) c (omega arith) in
          let o : is m (at + 3) ≡ mode_of 16 s (at + 1) = mode-6 16 s (at + 1) {m = Ok (record { value = m; next = at + 3 })} (mode-2 16 s (at + 1) {b = Ok (record { value = m; next = at + 3 })} b refl l) refl (omega arith) in
          rw f (usual-from big s at (triple-leads s at (omega arith) d (omega arith) c (omega arith)) o v t)

  pub usual-long : 15 ≤ length s - at → 240 ≤ m → m ≤ 255 → {l : ℕ} → l ≡ triple s (at + 3) → l ≤ 255 → {x : ℕ} → x ≡ (m * 256 + l) % 4096 → x < 2048 → {r : Option (Read Fragment)} → TailIs big s (at + 6) x r → UsualIs radix big s at r
  usual-long k hm lm {l} dl ll {x} ex lx {r} w = record { says = go r w.says }
    where
      go : (r : Option (Read Fragment)) → TailSays big s (at + 6) x r → UsualSays radix big s at r
      go None t = tt
      go (Some v) t =
          let z : at + 3 + 3 ≡ at + 6 = omega arith in
          let c : 32 ≡ get_or s (at + 3) 0 = sym (triple-space s (at + 3) dl (omega arith)) in
          let b = triple-byte s at (omega arith) d lm c (omega arith) in
          let p : is l (at + 6) ≡ next_byte 16 s (at + 3) = rw z at (triple-next s (at + 3) {c = 32} (omega arith) dl ll (rw z (sym t.1)) (omega arith)) in
          let y : is x (at + 6) ≡ any_mode 16 s (at + 1) = mode-4 16 s (at + 1) {b = Ok (record { value = m; next = at + 3 })} b refl hm {c = Ok (record { value = l; next = at + 6 })} p refl ex in
          let o : is x (at + 6) ≡ mode_of 16 s (at + 1) = mode-6 16 s (at + 1) {m = Ok (record { value = x; next = at + 6 })} y refl lx in
          rw f (usual-from big s at (triple-leads s at (omega arith) d lm c (omega arith)) o v t)

pub ruleset usual = (rules, usual-other, usual-short, usual-long)
