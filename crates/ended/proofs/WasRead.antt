-- An answer that accepts a text was read of it: its records, its tables, and the counts and the verdict of them.
-- Assumes nothing.
use Prim.Native.Nat.{ℕ}
use mathlib.Core.Path.{◌≡◌, refl, sym, ap, ◌∙◌}
use mathlib.Core.Bool.{true}
use mathlib.Core.List.{List}
use native.Mathlib.Omega.{arith}
use Rattle.format.specs.Outcome.{Outcome, fine, refused}
use Rattle.format.specs.Reading as paper
use Rattle.format.specs.Held.{Held, Meets, lengths}
use Rattle.laws.proofs.WasRead.{what-was-read}
use Rattle.answer.specs.Answer as reads
use Rattle.std.specs.Prelude.{Ok}
use Rattle.answer.specs.declared.Accepted.{Accepted}
use Rattle.answer.specs.declared.Counts.{Counts}
use Rattle.answer.specs.declared.Verdict as reading
use Rattle.ended.specs.Answer.{Read}

-- an accepted text was read
module _ (text : List ℕ) (old : Held) (c : Counts) (v : reading.Verdict) where
  was_read : (o : Outcome paper.Read) → paper.read true (lengths old) text ≡ o → paper.accepted (reads.told_counts c) (reads.told_verdict v) ≡ (paper.reading_of text o).answer → Read text c v
  unfolding paper.counts_of
  was_read (refused n p) e q = let z : ◌≡◌ {A = ℕ} 0 1 = cc in let y : ⊥ = omega arith in absurd y
  was_read (fine r) e q =
      let k = what-was-read true (lengths old) text r e in
      let counts : reads.told_counts c ≡ paper.counts_of r.built = cc in
      record {
        records = r.parsed;
        rows = r.built.tables;
        parses = k.parses;
        tables = k.builds.entered;
        areas = ap (λ (x : paper.Counts). x.areas) counts;
        symbols = ap (λ (x : paper.Counts). x.symbols) counts;
        verdict = cc;
      }

pub accepted-was-read : {text : List ℕ} {old new : Held} {a : reads.Answer} → Meets true text old (reads.told a) new → {x : Accepted} → a ≡ Ok x → Read text x.counts x.verdict
unfolding paper.reading
accepted-was-read {text} {old} {new} {a} m {x} g =
    was_read text old x.counts x.verdict (paper.read true (lengths old) text) refl (ap reads.told (sym g) ∙ m.says)
