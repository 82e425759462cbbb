-- The laws of a module that was read: its header, and the answer where its reading stopped.
-- Assumes nothing.
use Prim.Native.Nat.{ℕ, ◌+◌, ◌<◌, ◌^◌}
use mathlib.Core.Path.{◌≡◌, ap, sym, ◌∙◌}
use mathlib.Core.Bool.{true}
use mathlib.Core.List.{List}
use lib.ListN.{drop, length}
use mir.Val.{Fits}
use mir.Syntax.{w64}
use borrow.Author.Rules.{rules}
use Rattle.format.specs.Header as paper
use Rattle.format.specs.Lines.{end_length}
use Rattle.format.specs.Outcome.{fine}
use Rattle.format.specs.Records as the
use Rattle.header.specs.Told.{form_of, told_head}
use Rattle.header.specs.declared.Form.{Form}
use Rattle.header.specs.declared.Head.{Head}
use Rattle.header.specs.declared.Head.TheVariants.{Found, Missing}
use Rattle.halt.specs.Halt.{Halt, any, halt_at}
use Rattle.line_halt.specs.Told as halts
use Rattle.line_halt.specs.declared.Halt as code
use Rattle.answer.specs.Answer.{told_verdict}
use Rattle.answer.specs.declared.Verdict.{Verdict}
use Rattle.answer.specs.declared.Verdict.TheVariants as read
use Rattle.told_beside.specs.Beside.{halt_behind}
use Rattle.told_beside.proofs.Halted.{halt-there}
use Rattle.told_beside.proofs.Opening as opening
use Rattle.converted.specs.Convert as converts
use Rattle.converted.specs.Convert.{by_verdict, convert, convert_of}
use Rattle.convert_answer.specs.Converts.{Answer, Converts, answer_of, held_of, stopped_at, told}
use Rattle.convert_answer.specs.declared.Converted.TheVariants.{Stopped}
use Rattle.convert_module.specs.Kept.{Judged, Whole}
use Rattle.convert_module.proofs.Steps.{steps}

-- `stopped_at`
pub stop-told : (place : ℕ) {h : code.Halt} {x : Halt} → halts.told_halt h ≡ x → told (Stopped place h.reason h.at) ≡ stopped_at place x
stop-told place k = ap (stopped_at place) k

pub ruleset stops = (rules, stop-told)

-- `judge`
module _ {text areas symbols : List ℕ} {na ns : ℕ} {v : Verdict} (w : Judged text areas na symbols ns v) where
  was : the.parsed true text ≡ fine w.kept.read.parsed
  was = (steps text w.kept.read w.kept.is_read).parses

  module _ {h : Head} (e : told_head h ≡ paper.header text) where
    -- there is a header
    pub judge-headless : h ≡ Missing → (a : Answer) (out : List ℕ) → Converts text out a out
    judge-headless g a out = opening.header-there text was e g

    module _ {f : Form} {n : ℕ} (g : h ≡ Found f n) where
      form-read : form_of f ≡ w.kept.read.parsed.form
      form-read = opening.form-read text was e g

      -- read to the last byte, with its form
      pub judge-whole : v ≡ read.Finished → Whole text (form_of f) areas na symbols ns
      judge-whole q = record { kept = w.kept; its-form = form-read; is-finished = sym w.verdict ∙ ap told_verdict q }

      module _ {k : ℕ} (i : k ≡ end_length (drop n text)) where
        pub head-fits : length text < 2 ^ 64 → Fits w64 (n + k)
        head-fits z = opening.head-fits text was e g i z

        pub judge-stopped : {place : ℕ} → v ≡ read.Stopped place → {a : Answer} → a ≡ stopped_at place (halt_behind (form_of f) text (n + k) place) → (out : List ℕ) → Converts text out a out
        unfolding convert
        judge-stopped {place} q {a} j out =
            let r = w.kept.read in
            let p = r.parsed in
            let vs : the.verdict text p ≡ the.stopped place = sym w.verdict ∙ ap told_verdict q in
            let there : halt_behind (form_of f) text (n + k) place ≡ halt_at p.form (any p.records.pairs) text place =
            ap (λ (x : paper.Form). halt_behind x text (n + k) place) form-read
            ∙ ap (λ (x : ℕ). halt_behind p.form text x place) (opening.head_read text was e g i)
            ∙ halt-there text p was place vs in
            let is : convert text ≡ converts.stopped_at place (halt_at p.form (any p.records.pairs) text place) = ap (convert_of text) w.kept.is_read ∙ ap (by_verdict text r) vs in
            record { says = j ∙ ap (stopped_at place) there ∙ sym (ap (answer_of out) is); held = sym (ap (held_of out) is) }

pub ruleset judging = (rules, judge-headless, judge-whole, head-fits, judge-stopped)
