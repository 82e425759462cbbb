-- The laws of what a reading's answer says of a text.
-- Assumes nothing.
use Prim.Native.Nat.{ℕ}
use mathlib.Core.Path.{◌≡◌, refl, ◌∙◌}
use mathlib.Core.Bool.{true}
use mathlib.Core.List.{List}
use native.Mathlib.Omega.{arith}
use Rattle.format.specs.Outcome.{Outcome, fine, refused}
use Rattle.format.specs.Reading as paper
use Rattle.format.specs.Reading.{read}
use Rattle.any_radix.specs.ReadAny.{read_any}
use Rattle.answer.specs.Answer.{Answer}
use Rattle.record_rows.specs.ReadPairs.{roomy}
use Rattle.admission.specs.Admits.{Passes, PassesAny, gate_of}

was-refused : (text : List ℕ) (o : Outcome paper.Read) (n p : ℕ) → paper.refusal n p ≡ (paper.reading_of text o).answer → o ≡ refused n p
was-refused text (fine r) n p e = absurd (let z : ◌≡◌ {A = ℕ} 0 1 = cc in omega arith)
was-refused text (refused m q) n p e = let i : n ≡ m = cc in let j : p ≡ q = cc in rw (i, j)

was-fine : (text : List ℕ) (o : Outcome paper.Read) (c : paper.Counts) (v : _) → paper.accepted c v ≡ (paper.reading_of text o).answer → (r : paper.Read) × (o ≡ fine r)
was-fine text (fine r) c v e = (r, refl)
was-fine text (refused m q) c v e = absurd (let z : ◌≡◌ {A = ℕ} 0 1 = cc in omega arith)

-- what the definition says where a gate is what the answer says
pub passes : (text : List ℕ) (o : Outcome paper.Read) (t : paper.Answer) → read true roomy text ≡ o → t ≡ (paper.reading_of text o).answer → Passes text (gate_of t)
unfolding gate_of
passes text o (paper.refusal n p) e s = e ∙ was-refused text o n p s
passes text o (paper.accepted c v) e s = let k = was-fine text o _ _ s in record { as_read = k.0; is = e ∙ k.1 }

pub passes-any : (text : List ℕ) (o : Outcome paper.Read) (t : paper.Answer) → read_any roomy text ≡ o → t ≡ (paper.reading_of text o).answer → PassesAny text (gate_of t)
unfolding gate_of
passes-any text o (paper.refusal n p) e s = e ∙ was-refused text o n p s
passes-any text o (paper.accepted c v) e s = let k = was-fine text o _ _ s in record { as_read = k.0; is = e ∙ k.1 }
