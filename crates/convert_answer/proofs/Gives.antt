-- No second answer fits; and what a buffer holds of a module that went over gives what the old module gave.
-- Assumes nothing.
use Prim.Native.Nat.{ℕ}
use mathlib.Core.Path.{◌≡◌, ap, refl, subst, sym, ◌∙◌}
use mathlib.Core.Bool.{Bool, false, true}
use mathlib.Core.List.{List, ◌++◌}
use native.Mathlib.Omega.{arith}
use lib.ListN.{drop, length, take}
use lib.Seq.{take_at}
use lib.Dec.{leb}
use Rattle.format.specs.Lists.{over, pick}
use Rattle.halt.specs.Halt.{Halt}
use Rattle.converted.specs.Convert as the
use Rattle.converted.specs.Convert.{convert}
use Rattle.converted.specs.Gives.{GivesTheSame}
use Rattle.converted.proofs.Theorem.{what-is-converted-gives-the-same}
use Rattle.convert_answer.specs.Converts.{Answer, Converts, answer_of, bytes, held_of, refusal, stopped_at}

pub one-conversion : {text out x y : List ℕ} {a b : Answer} → Converts text out a x → Converts text out b y → (a ≡ b) × (x ≡ y)
one-conversion v w = (v.says ∙ sym w.says, v.held ∙ sym w.held)

no_bytes : {A : Type 0} (k n p : ℕ) → bytes k ≡ refusal n p → A
no_bytes k n p e = let z : ◌≡◌ {A = ℕ} 0 1 = cc in let y : ⊥ = omega arith in absurd y

no_stop : {A : Type 0} (k p : ℕ) (h : Halt) → bytes k ≡ stopped_at p h → A
no_stop k p h e = let z : ◌≡◌ {A = ℕ} 0 1 = cc in let y : ⊥ = omega arith in absurd y

-- the bytes that were counted are the text
first-bytes : (t out : List ℕ) → take (length t) (over t out) ≡ t
unfolding over
first-bytes t out = take_at t (drop (length t) out) (length t) refl

-- so they give the same tables, images, counts and fixups, and are finished
pub what-is-written-gives-the-same : (text out : List ℕ) (n : ℕ) (out' : List ℕ) → Converts text out (bytes n) out' → GivesTheSame text (take n out')
what-is-written-gives-the-same text out n out' w = go (convert text) refl w.says w.held
  where
    by : (t : List ℕ) → convert text ≡ the.written_as t → (u : Bool) → bytes n ≡ pick u (bytes (length t)) (refusal 16 0) → out' ≡ pick u (over t out) out → GivesTheSame text (take n out')
    by t e true q h =
        let k : n ≡ length t = cc in
        let s : take n out' ≡ t = ap (λ (m : ℕ). take m out') k ∙ (ap (take (length t)) h ∙ first-bytes t out) in
        subst (λ (x : List ℕ). GivesTheSame text x) (sym s) (what-is-converted-gives-the-same text t e)
    by t e false q h = no_bytes n 16 0 q

    go : (c : the.Converted) → convert text ≡ c → bytes n ≡ answer_of out c → out' ≡ held_of out c → GivesTheSame text (take n out')
    go (the.refusal k p) e q h = no_bytes n k p q
    go (the.stopped_at p x) e q h = no_stop n p x q
    go (the.written_as t) e q h = by t e (leb (length t) (length out)) q h
