-- One law for each return.
-- Assumes nothing.
use Prim.Native.Nat.{ℕ, ◌+◌, ◌<◌, ◌^◌}
use mathlib.Core.Path.{◌≡◌, refl, sym, ap, ◌∙◌}
use mathlib.Core.Bool.{true}
use mathlib.Core.List.{List}
use mathlib.Core.Option.{some}
use lib.ListN.{length, drop}
use mir.Val.{Fits}
use mir.Syntax.{w64}
use borrow.Author.Rules.{rules}
use Rattle.format.specs.Header as the
use Rattle.format.specs.Lines.{end_length}
use Rattle.format.specs.Reading as paper
use Rattle.format.specs.Held.{Held, Meets}
use Rattle.header.specs.Told.{form_of, told_head}
use Rattle.header.specs.declared.Form.{Form}
use Rattle.header.specs.declared.Head.{Head}
use Rattle.header.specs.declared.Head.TheVariants.{Found, Missing}
use Rattle.halt.specs.Halt.{halt_of}
use Rattle.counts.specs.Counts.{compared, told_counts, told_from}
use Rattle.counts.proofs.Counts.{the-walk-gives-the-answer}
use Rattle.h_line.specs.Told.{two_of}
use Rattle.std.specs.Prelude.{Ok, Err}
use Rattle.answer.specs.Answer as reads
use Rattle.answer.specs.declared.Accepted as told
use Rattle.answer.specs.declared.Refusal as refusals
use Rattle.answer.specs.declared.Counts.{Counts}
use Rattle.answer.specs.declared.Verdict as reading
use Rattle.ended_answer.specs.Answer.{halt_in, if_accepted}
use Rattle.ended_answer.specs.declared.Answer.{Answer}
use Rattle.ended_answer.specs.declared.Answer.TheVariants.{Refusal}
use Rattle.told_beside.specs.Beside.{Tells, accepted_with, judged}
use Rattle.told_beside.proofs.Halted.{judged-halt}
use Rattle.told_beside.proofs.Opening as opening
use Rattle.ended.specs.Answer.{Answers, Beside, Read, WasRead}
use Rattle.ended.proofs.WasRead.{accepted-was-read}

-- `accepted`
module _ {text : List ℕ} {c : Counts} {v : reading.Verdict} (w : Read text c v) {h : Head} (e : told_head h ≡ the.header text) where
  -- there is a header
  pub header-there : h ≡ Missing → (r : Answer) → Beside text (accepted_with c v) r
  header-there g r = opening.header-there text w.parses e g

  module _ {f : Form} {n : ℕ} (g : h ≡ Found f n) {k : ℕ} (i : k ≡ end_length (drop n text)) where
    pub head-fits : length text < 2 ^ 64 → Fits w64 (n + k)
    head-fits z = opening.head-fits text w.parses e g i z

    form-read : form_of f ≡ w.records.form
    form-read = opening.form-read text w.parses e g

    head_read : n + k ≡ w.records.head
    head_read = opening.head_read text w.parses e g i

    -- what is told behind the header is what the definitions tell of the text
    pub told-beside : {r : Answer} → Tells (form_of f) text (n + k) c v r → Beside text (accepted_with c v) r
    told-beside t = record {
      same = t.same;
      halts =
          t.halts
          ∙ ap (λ (x : the.Form). halt_in (judged x text (n + k) v)) form-read
          ∙ ap (λ (x : ℕ). halt_in (judged w.records.form text x v)) head_read
          ∙ judged-halt text w.records w.parses v w.verdict;
      counts =
          t.counts
          ∙ ap some (
          ap (λ (x : the.Form). compared (told_from x text (n + k)) (two_of c.areas c.symbols)) form-read
          ∙ ap (λ (x : ℕ). compared (told_from w.records.form text x) (two_of c.areas c.symbols)) head_read
          ∙ ap (λ (x : ℕ). compared (told_from w.records.form text w.records.head) (two_of x c.symbols)) w.areas
          ∙ ap (λ (x : ℕ). compared (told_from w.records.form text w.records.head) (two_of (length w.rows.areas) x)) w.symbols
          ∙ sym (the-walk-gives-the-answer text w.records w.rows w.parses w.tables));
    }

pub ruleset besides = (rules, header-there, head-fits, told-beside)

-- `beside`
module _ {text : List ℕ} {a : reads.Answer} where
  pub accepted-read : WasRead text a → {x : told.Accepted} → a ≡ Ok x → Read text x.counts x.verdict
  accepted-read w g = rw g at w

  pub refused-beside : {z : refusals.Refusal} → a ≡ Err z → Beside text (reads.told a) (Refusal z.number z.place)
  refused-beside g = rw g (record { same = refl; halts = refl; counts = refl })

  pub accepted-beside : {x : told.Accepted} → a ≡ Ok x → {r : Answer} → Beside text (accepted_with x.counts x.verdict) r → Beside text (reads.told a) r
  accepted-beside g b = rw g b

pub ruleset telling = (rules, accepted-read, refused-beside, accepted-beside)

-- `read_ended`
pub was_read : {text : List ℕ} {old new : Held} (a : reads.Answer) → Meets true text old (reads.told a) new → WasRead text a
was_read {text} a m = go a refl
  where
    go : (x : reads.Answer) → a ≡ x → WasRead text x
    go (Err z) g = tt
    go (Ok x) g = accepted-was-read m g

pub answers : {text : List ℕ} {old new : Held} {a : paper.Answer} → Meets true text old a new → {r : Answer} → Beside text a r → Answers text old r new
answers {text} m b = record {
  reads = rw (sym b.same) at m;
  halts = b.halts ∙ ap (λ (x : paper.Answer). if_accepted x (halt_of text)) (sym b.same);
  counts = b.counts ∙ ap (λ (x : paper.Answer). if_accepted x (some (told_counts text))) (sym b.same);
}

pub ruleset ends = (rules, was_read, answers)
