-- The laws of the whole: the reading's refusals, and what it leaves of a module that is read.
-- Assumes nothing.
use Prim.Native.Nat.{ℕ}
use mathlib.Core.Path.{◌≡◌, ap, refl, sym, ◌∙◌}
use mathlib.Core.List.{List}
use native.Mathlib.Omega.{arith}
use lib.ListN.{drop, length, length-replicate, replicate}
use borrow.Author.Rules.{rules}
use Rattle.format.specs.Lists.{flat, over}
use Rattle.format.specs.Outcome.{Outcome, fine, refused}
use Rattle.format.specs.Rows.{area_table, symbol_numbers}
use Rattle.format.specs.Reading as paper
use Rattle.format.specs.Reading.{Lent, Read, Reading, reading_of}
use Rattle.any_radix.specs.ReadAny.{MeetsAny, read_any, reading_any}
use Rattle.format.specs.Held.{lengths}
use Rattle.record_rows.specs.ReadPairs.{roomy}
use Rattle.answer.specs.Answer as reads
use Rattle.answer.specs.Answer.{held}
use Rattle.std.specs.Prelude.{Ok, Err}
use Rattle.answer.specs.Answer.{Answer}
use Rattle.answer.specs.declared.Accepted.{Accepted}
use Rattle.answer.specs.declared.Refusal.{Refusal}
use Rattle.answer.specs.declared.Counts.{Counts}
use Rattle.answer.specs.declared.Verdict.{Verdict}
use Rattle.converted.specs.Convert as converts
use Rattle.converted.specs.Convert.{convert, convert_of}
use Rattle.convert_answer.specs.Converts.{Converts, answer_of, held_of, refusal}
use Rattle.convert_module.specs.Kept.{Judged, Roomy}

was-refused : (text : List ℕ) (o : Outcome Read) (n p : ℕ) → paper.refusal n p ≡ (reading_of text o).answer → o ≡ refused n p
was-refused text (fine r) n p e = absurd (let z : ◌≡◌ {A = ℕ} 0 1 = cc in omega arith)
was-refused text (refused m q) n p e = let i : n ≡ m = cc in let j : p ≡ q = cc in rw (i, j)

-- buffers of these lengths are those of the definition
module _ {text xs ys vs ms fs : List ℕ} (room : Roomy (length xs) (length ys) (length vs) (length ms) (length fs)) {xs' ys' vs' ms' fs' : List ℕ} {t : paper.Answer}
    (m : MeetsAny text (held xs ys vs ms fs) t (held xs' ys' vs' ms' fs')) where
  same : lengths (held xs ys vs ms fs) ≡ roomy
  unfolding lengths
  same = λ j. record { areas = room.areas-are j; symbols = room.symbols-are j; values = room.values-are j; masks = room.masks-are j; fixups = room.fixups-are j }

  is : reading_any (lengths (held xs ys vs ms fs)) text ≡ reading_of text (read_any roomy text)
  unfolding reading_any
  is = ap (λ (l : Lent). reading_of text (read_any l text)) same

  says : t ≡ (reading_of text (read_any roomy text)).answer
  says = m.says ∙ ap (λ (x : Reading). x.answer) is

  -- what is left of a text that is read
  judged : (c : Counts) (v : Verdict) → t ≡ paper.accepted (reads.told_counts c) (reads.told_verdict v) → Judged text xs' c.areas ys' c.symbols v
  unfolding paper.counts_of over
  judged c v g = go (read_any roomy text) refl
    where
      go : (o : Outcome Read) → read_any roomy text ≡ o → Judged text xs' c.areas ys' c.symbols v
      go (refused n p) e =
          let q : paper.accepted (reads.told_counts c) (reads.told_verdict v) ≡ (reading_of text (refused n p)).answer = sym g ∙ (says ∙ ap (λ (x : Outcome Read). (reading_of text x).answer) e) in
          let z : ◌≡◌ {A = ℕ} 0 1 = cc in
          let y : ⊥ = omega arith in
          absurd y
      go (fine r) e =
          let all : reading_any (lengths (held xs ys vs ms fs)) text ≡ reading_of text (fine r) = is ∙ ap (reading_of text) e in
          let q : paper.accepted (reads.told_counts c) (reads.told_verdict v) ≡ (reading_of text (fine r)).answer = sym g ∙ (says ∙ ap (λ (x : Outcome Read). (reading_of text x).answer) e) in
          let counts : reads.told_counts c ≡ paper.counts_of r.built = cc in
          record {
            kept = record {
              read = r;
              is_read = e;
              behind-areas = drop (length (area_table r.built.tables.areas r.built.state.masks)) xs;
              areas-are = m.areas ∙ ap (λ (x : Reading). over x.areas xs) all;
              area-count = ap (λ (x : paper.Counts). x.areas) counts;
              behind-symbols = drop (length (flat symbol_numbers r.built.tables.symbols)) ys;
              symbols-are = m.symbols ∙ ap (λ (x : Reading). over x.symbols ys) all;
              symbol-count = ap (λ (x : paper.Counts). x.symbols) counts;
            };
            verdict = cc;
          }

-- `convert_with`
module _ {text xs ys vs ms fs : List ℕ} (room : Roomy (length xs) (length ys) (length vs) (length ms) (length fs)) {xs' ys' vs' ms' fs' : List ℕ} {a : Answer}
    (m : MeetsAny text (held xs ys vs ms fs) (reads.told a) (held xs' ys' vs' ms' fs')) where
  pub convert-refused : {z : Refusal} → a ≡ Err z → (out : List ℕ) → Converts text out (refusal z.number z.place) out
  unfolding convert
  convert-refused {z} g out =
      let n = z.number in
      let p = z.place in
      let o : read_any roomy text ≡ refused n p = was-refused text (read_any roomy text) n p (ap reads.told (sym g) ∙ says room m) in
      let k : convert text ≡ converts.refusal n p = ap (convert_of text) o in
      record { says = sym (ap (answer_of out) k); held = sym (ap (held_of out) k) }

  pub convert-judged : {x : Accepted} → a ≡ Ok x → Judged text xs' x.counts.areas ys' x.counts.symbols x.verdict
  convert-judged {x} g = judged room m x.counts x.verdict (ap reads.told g)

pub ruleset wholes = (rules, convert-refused, convert-judged)

-- `convert`
zeros : (n : ℕ) → length {A = ℕ} (replicate n 0) ≡ n
zeros n = length-replicate {A = ℕ} n 0

pub fresh-roomy : Roomy (length {A = ℕ} (replicate 448 0)) (length {A = ℕ} (replicate 5120 0)) (length {A = ℕ} (replicate 65536 0)) (length {A = ℕ} (replicate 65536 0)) (length {A = ℕ} (replicate 9216 0))
fresh-roomy = record { areas-are = zeros 448; symbols-are = zeros 5120; values-are = zeros 65536; masks-are = zeros 65536; fixups-are = zeros 9216 }

pub ruleset lending = (rules, fresh-roomy)
