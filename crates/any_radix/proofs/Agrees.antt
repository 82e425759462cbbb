-- The ended reading that takes a header of every radix: it reads what the ended reading accepts, and refuses what that one refuses but for 18.
-- Assumes nothing.
use Prim.Native.Nat.{ℕ}
use mathlib.Core.Path.{◌≡◌, ap, sym, ◌∙◌}
use mathlib.Core.Bool.{Bool, false, true}
use mathlib.Core.List.{List}
use Rattle.format.specs.Lists.{pick}
use Rattle.format.specs.Outcome.{Outcome, and_then, fine, refused}
use Rattle.format.specs.Records.{Parsed, parsed}
use Rattle.format.specs.Reading.{Answer, Lent, Read, allowed, headed, only_x, read, read_of, reading_of, takes}
use Rattle.format.specs.Held.{Held, lengths}
use Rattle.laws.proofs.Headed.{headed-parsed}
use Rattle.laws.proofs.Outcomes.{chain, follow}
use Rattle.laws.proofs.Unique.{laid, nothing-laid}
use Rattle.any_radix.specs.ReadAny.{MeetsAny, read_any, reading_any}

-- a module that the ended reading accepts is read the same way
pub accepted-is-read : (b : Lent) (text : List ℕ) (r : Read) → read true b text ≡ fine r → read_any b text ≡ fine r
unfolding read read_any
accepted-is-read b text r h =
    let one = chain (allowed b text) _ r h in
    let two = chain (headed true text) read_of r one.second in
    follow (allowed b text) _ one.first (follow (parsed true text) read_of (headed-parsed true text two.value two.first) two.second)

-- a module that it refuses is refused the same way, but for 18
pub refused-but-for-18 : (b : Lent) (text : List ℕ) (n p : ℕ) → (n ≡ 18 → ⊥) → read true b text ≡ refused n p → read_any b text ≡ refused n p
unfolding read read_any headed only_x
refused-but-for-18 b text n p other h = go (allowed b text) (parsed true text) h
  where
    taken : (q : Parsed) (t : Bool) → and_then (pick t (fine q) (refused 18 0)) read_of ≡ refused n p → read_of q ≡ refused n p
    taken q true e = e
    taken q false e = let z : 18 ≡ n = cc in absurd (other (sym z))

    go : (a : Outcome ℕ) (o : Outcome Parsed) → and_then a (λ k. and_then (and_then o (only_x true)) read_of) ≡ refused n p → and_then a (λ k. and_then o read_of) ≡ refused n p
    go (refused m q) o e = e
    go (fine k) (refused m q) e = e
    go (fine k) (fine q) e = taken q (takes true q.form.radix) e

-- the buffers under its contract
meets-laid : {text : List ℕ} {old new : Held} {a : Answer} → MeetsAny text old a new → new ≡ laid (reading_any (lengths old) text) old
unfolding laid
meets-laid m = λ i. record { areas = m.areas i; symbols = m.symbols i; values = m.values i; masks = m.masks i; fixups = m.fixups i }

-- no second answer fits, for an answer of the code's own type where a definition gives the paper's answer for each of its cases and no two have the same
pub no-second-answer-of-any-radix-fits-through : {D : Type 0} (paper : D → Answer) → ((x y : D) → paper x ≡ paper y → x ≡ y)
    → (text : List ℕ) (old : Held) (x y : D) (n₁ n₂ : Held) → MeetsAny text old (paper x) n₁ → MeetsAny text old (paper y) n₂ → (x ≡ y) × (n₁ ≡ n₂)
no-second-answer-of-any-radix-fits-through paper inj text old x y n₁ n₂ p q =
    (inj x y (p.says ∙ sym q.says), meets-laid p ∙ sym (meets-laid q))

-- a refusal changes no buffer
pub a-refusal-of-any-radix-changes-no-buffer : (text : List ℕ) (old new : Held) (a : Answer) (n p : ℕ) → read_any (lengths old) text ≡ refused n p → MeetsAny text old a new → new ≡ old
unfolding reading_any
a-refusal-of-any-radix-changes-no-buffer text old new a n p h m =
    meets-laid m ∙ ap (λ (o : Outcome Read). laid (reading_of text o) old) h ∙ nothing-laid text n p old
