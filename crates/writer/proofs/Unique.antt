-- No second answer fits.
-- Assumes nothing.
use mathlib.Core.Path.{◌≡◌, ap, refl, sym, ◌∙◌}
use mathlib.Core.Bool.{Bool, false, true}
use mathlib.Core.List.{List}
use Prim.Native.Nat.{ℕ}
use lib.ListN.{length}
use Rattle.format.specs.Header.{Form}
use Rattle.row_texts.specs.RowRecords.{Rows, text_of}
use Rattle.row_texts.specs.GivesBack.{GivesBack}
use Rattle.written_answer.specs.Answer.{Answer, Tells, answer_of, held_of}
use Rattle.writer.specs.Writes.{Writes}

same_flag : (P : Type 0) (g h : Bool) → Tells g P → Tells h P → g ≡ h
same_flag P true true x y = refl
same_flag P true false x y = absurd (y x)
same_flag P false true x y = absurd (x y)
same_flag P false false x y = refl

pub one-writing : {f : Form} {r : Rows} {out x y : List ℕ} {a b : Answer} → Writes f r out a x → Writes f r out b y → (a ≡ b) × (x ≡ y)
one-writing {f} {r} {out} v w =
    let e : v.gives ≡ w.gives = same_flag (GivesBack f r) v.gives w.gives v.tells w.tells in
    (v.says ∙ (ap (λ (g : Bool). answer_of g (length (text_of f r)) out) e ∙ sym w.says), v.held ∙ (ap (λ (g : Bool). held_of g (length (text_of f r)) (text_of f r) out) e ∙ sym w.held))
