-- The contract of the whole reading, and that it leaves no choice: at most one answer and one content of each buffer meets it, and one does.
use Prim.Native.Nat.{ℕ, ◌-◌, ◌≤◌}
use mathlib.Core.Path.{◌≡◌, ap, refl, sym, ◌∙◌}
use mathlib.Core.List.{List}
use mathlib.Core.Bool.{Bool}
use native.Mathlib.Omega.{arith}
use lib.ListN.{length, drop, length-append, length-drop}
use lib.Seq.{drop-append_seam}
use Rattle.format.specs.Lists.{over}
use Rattle.format.specs.Outcome.{Outcome, refused}
use Rattle.format.specs.Reading.{Answer, Read, Reading, read, reading, reading_of}
use Rattle.laws.proofs.Room.{HasRoom, has_room}
use Rattle.format.specs.Held.{Held, lengths, Meets}

-- the buffers once a reading's rows were laid over them
unfoldable pub laid : Reading → Held → Held
laid r old = record {
  areas = over r.areas old.areas;
  symbols = over r.symbols old.symbols;
  values = over r.values old.values;
  masks = over r.masks old.masks;
  fixups = over r.fixups old.fixups;
}

pub nothing-laid : (text : List ℕ) (number place : ℕ) (old : Held) → laid (reading_of text (refused number place)) old ≡ old
unfolding laid over
nothing-laid text number place old = refl

-- under the contract they are what is left
pub meets-laid : {ended : Bool} {text : List ℕ} {old new : Held} {a : Answer} → Meets ended text old a new → new ≡ laid (reading ended (lengths old) text) old
unfolding laid
meets-laid m = λ i. record { areas = m.areas i; symbols = m.symbols i; values = m.values i; masks = m.masks i; fixups = m.fixups i }

-- no second answer fits
pub no-second-answer-fits : (ended : Bool) (text : List ℕ) (old : Held) (a₁ a₂ : Answer) (n₁ n₂ : Held)
    → Meets ended text old a₁ n₁ → Meets ended text old a₂ n₂ → (a₁ ≡ a₂) × (n₁ ≡ n₂)
no-second-answer-fits ended text old a₁ a₂ n₁ n₂ p q = (p.says ∙ sym q.says, meets-laid p ∙ sym (meets-laid q))

-- the same for an answer of the code's own type, where a definition gives the paper's answer for each of its cases and no two have the same
pub no-second-answer-fits-through : {D : Type 0} (paper : D → Answer) → ((x y : D) → paper x ≡ paper y → x ≡ y)
    → (ended : Bool) (text : List ℕ) (old : Held) (x y : D) (n₁ n₂ : Held)
    → Meets ended text old (paper x) n₁ → Meets ended text old (paper y) n₂ → (x ≡ y) × (n₁ ≡ n₂)
no-second-answer-fits-through paper inj ended text old x y n₁ n₂ p q =
    let k = no-second-answer-fits ended text old (paper x) (paper y) n₁ n₂ p q in
    (inj x y k.0, k.1)

-- a buffer keeps its length
over-length : (rows old : List ℕ) → length rows ≤ length old → length (over rows old) ≡ length old
unfolding over
over-length rows old h = simp (length-append, length-drop) (omega arith)

-- and what stands past the rows
pub over-past : (rows old : List ℕ) → drop (length rows) (over rows old) ≡ drop (length rows) old
unfolding over
over-past rows old = drop-append_seam rows (drop (length rows) old)

-- one answer fits, with buffers as long as they were
pub record Met (ended : Bool) (text : List ℕ) (old : Held) : Type 0 where
  pub answer : Answer
  pub new : Held
  pub meets : Meets ended text old answer new
  pub same-lengths : lengths new ≡ lengths old

pub an-answer-fits : (ended : Bool) (text : List ℕ) (old : Held) → Met ended text old
unfolding lengths laid
an-answer-fits ended text old =
    let r : Reading = reading ended (lengths old) text in
    let h : HasRoom (lengths old) r = has_room ended (lengths old) text in
    record {
      answer = r.answer;
      new = laid r old;
      meets = record { says = refl; areas = refl; symbols = refl; values = refl; masks = refl; fixups = refl };
      same-lengths = λ i. record {
        areas = over-length r.areas old.areas h.areas i;
        symbols = over-length r.symbols old.symbols h.symbols i;
        values = over-length r.values old.values h.values i;
        masks = over-length r.masks old.masks h.masks i;
        fixups = over-length r.fixups old.fixups h.fixups i;
      };
    }

-- a refusal changes no buffer
pub a-refusal-changes-no-buffer : (ended : Bool) (text : List ℕ) (old new : Held) (a : Answer) (n p : ℕ)
    → read ended (lengths old) text ≡ refused n p → Meets ended text old a new → new ≡ old
unfolding reading
a-refusal-changes-no-buffer ended text old new a n p h m =
    meets-laid m ∙ ap (λ (o : Outcome Read). laid (reading_of text o) old) h ∙ nothing-laid text n p old
