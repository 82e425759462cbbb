-- The contracts of the plain reading, the ended one and the ended one of every radix, from what the text gives; and that none leaves a choice.
-- Assumes nothing.
use Prim.Native.Nat.{ℕ}
use mathlib.Core.Path.{◌≡◌, refl, ap, sym, ◌∙◌}
use mathlib.Core.Bool.{Bool, true, false}
use mathlib.Core.List.{List}
use native.Mathlib.Omega.{arith}
use lib.ListN.{length}
use borrow.Author.Rules.{rules}
use Rattle.format.specs.Lists.{over}
use Rattle.format.specs.Outcome.{Outcome, fine, refused, and_then}
use Rattle.format.specs.Records.{Parsed, parsed, verdict}
use Rattle.format.specs.Reading as paper
use Rattle.format.specs.Held.{Held, lengths, Meets}
use Rattle.any_radix.specs.ReadAny.{MeetsAny, read_any, reading_any}
use Rattle.laws.proofs.Unique.{no-second-answer-fits-through}
use Rattle.any_radix.proofs.Agrees.{no-second-answer-of-any-radix-fits-through}
use Rattle.way_in.specs.WayIn.{takes_by}
use Rattle.std.specs.Prelude.{Ok, Err}
use Rattle.answer.specs.Answer.{Answer, told, told_counts, told_verdict}
use Rattle.reading_lines.specs.Laid.{whole_of, lay_of, Laid}
use Rattle.reading.specs.Whole.{headed_by, only_taken, read_by, whole_by}
use Rattle.answer.specs.declared.Counts.{Counts}
use Rattle.answer.specs.declared.Verdict.{Verdict}
use Rattle.answer.specs.declared.Verdict.TheVariants.{Finished, Stopped}

lay-read : (s : List ℕ) (o : Outcome paper.Read) → paper.reading_of s o ≡ lay_of (length s) (and_then o (λ r. fine (whole_of r)))
unfolding verdict
lay-read s (fine r) = refl
lay-read s (refused n p) = refl

-- `read_plain` and `read_ended`: 18 as the reading has it
reading-is : (ended : Bool) (b : paper.Lent) (s : List ℕ) → paper.reading ended b s ≡ lay_of (length s) (whole_by false ended b s)
unfolding paper.reading paper.read paper.headed paper.only_x whole_by read_by headed_by only_taken takes_by
reading-is ended b s = lay-read s (paper.read ended b s)

pub meets-by-radix : {ended : Bool} {s : List ℕ} {old new : Held} {r : Answer} → Laid (length s) (whole_by false ended (lengths old) s) old r new → Meets ended s old (told r) new
meets-by-radix {ended} {s} {old} {new} {r} w =
    let e = sym (reading-is ended (lengths old) s) in
    record {
      says = w.says ∙ ap (λ (x : paper.Reading). x.answer) e;
      areas = w.areas ∙ ap (λ (x : paper.Reading). over x.areas old.areas) e;
      symbols = w.symbols ∙ ap (λ (x : paper.Reading). over x.symbols old.symbols) e;
      values = w.values ∙ ap (λ (x : paper.Reading). over x.values old.values) e;
      masks = w.masks ∙ ap (λ (x : paper.Reading). over x.masks old.masks) e;
      fixups = w.fixups ∙ ap (λ (x : paper.Reading). over x.fixups old.fixups) e;
    }

-- `read_any`: every header is taken
all-taken : (ended : Bool) (o : Outcome Parsed) → and_then o (only_taken true ended) ≡ o
unfolding only_taken takes_by
all-taken ended (fine p) = refl
all-taken ended (refused n p) = refl

read-any-is : (b : paper.Lent) (s : List ℕ) → read_by true true b s ≡ read_any b s
unfolding read_by headed_by read_any
read-any-is b s = ap (λ (o : Outcome Parsed). and_then (paper.allowed b s) (λ k. and_then o paper.read_of)) (all-taken true (parsed true s))

reading-any-is : (b : paper.Lent) (s : List ℕ) → lay_of (length s) (whole_by true true b s) ≡ reading_any b s
unfolding reading_any whole_by
reading-any-is b s = ap (λ (o : Outcome paper.Read). lay_of (length s) (and_then o (λ r. fine (whole_of r)))) (read-any-is b s) ∙ sym (lay-read s (read_any b s))

pub meets_any : {s : List ℕ} {old new : Held} {r : Answer} → Laid (length s) (whole_by true true (lengths old) s) old r new → MeetsAny s old (told r) new
meets_any {s} {old} {new} {r} w =
    let e = reading-any-is (lengths old) s in
    record {
      says = w.says ∙ ap (λ (x : paper.Reading). x.answer) e;
      areas = w.areas ∙ ap (λ (x : paper.Reading). over x.areas old.areas) e;
      symbols = w.symbols ∙ ap (λ (x : paper.Reading). over x.symbols old.symbols) e;
      values = w.values ∙ ap (λ (x : paper.Reading). over x.values old.values) e;
      masks = w.masks ∙ ap (λ (x : paper.Reading). over x.masks old.masks) e;
      fixups = w.fixups ∙ ap (λ (x : paper.Reading). over x.fixups old.fixups) e;
    }

pub ruleset meeting = (rules, meets-by-radix, meets_any)

-- no two answers are the same on paper
same-counts : (a b : Counts) → told_counts a ≡ told_counts b → a ≡ b
same-counts a b e = λ i. record {
  areas = ap (λ (c : paper.Counts). c.areas) e i;
  symbols = ap (λ (c : paper.Counts). c.symbols) e i;
  lines = ap (λ (c : paper.Counts). c.lines) e i;
  kept = ap (λ (c : paper.Counts). c.kept) e i;
  positions = ap (λ (c : paper.Counts). c.positions) e i;
  fixups = ap (λ (c : paper.Counts). c.fixups) e i;
}

same-verdict : (a b : Verdict) → told_verdict a ≡ told_verdict b → a ≡ b
same-verdict Finished Finished e = refl
same-verdict Finished (Stopped q) e = absurd (let z : ◌≡◌ {A = ℕ} 0 1 = cc in omega arith)
same-verdict (Stopped p) Finished e = absurd (let z : ◌≡◌ {A = ℕ} 0 1 = cc in omega arith)
same-verdict (Stopped p) (Stopped q) e = let i : p ≡ q = cc in ap Stopped i

pub told-injective : (x y : Answer) → told x ≡ told y → x ≡ y
told-injective (Err r) (Err s) e = let i : r.number ≡ s.number = cc in let j : r.place ≡ s.place = cc in λ k. Err (record { number = i k; place = j k })
told-injective (Err r) (Ok a) e = absurd (let z : ◌≡◌ {A = ℕ} 0 1 = cc in omega arith)
told-injective (Ok a) (Err r) e = absurd (let z : ◌≡◌ {A = ℕ} 0 1 = cc in omega arith)
told-injective (Ok a) (Ok b) e =
    let i : told_counts a.counts ≡ told_counts b.counts = cc in
    let j : told_verdict a.verdict ≡ told_verdict b.verdict = cc in
    λ k. Ok (record { counts = same-counts a.counts b.counts i k; verdict = same-verdict a.verdict b.verdict j k })

-- at most one answer and one content of each buffer meet the contract of a reading, plain or ended
pub no-second-answer : (ended : Bool) (s : List ℕ) (old : Held) (x y : Answer) (n₁ n₂ : Held) → Meets ended s old (told x) n₁ → Meets ended s old (told y) n₂ → (x ≡ y) × (n₁ ≡ n₂)
no-second-answer ended s old x y n₁ n₂ p q = no-second-answer-fits-through told told-injective ended s old x y n₁ n₂ p q

pub no-second-answer-of-any-radix : (s : List ℕ) (old : Held) (x y : Answer) (n₁ n₂ : Held) → MeetsAny s old (told x) n₁ → MeetsAny s old (told y) n₂ → (x ≡ y) × (n₁ ≡ n₂)
no-second-answer-of-any-radix s old x y n₁ n₂ p q = no-second-answer-of-any-radix-fits-through told told-injective s old x y n₁ n₂ p q
