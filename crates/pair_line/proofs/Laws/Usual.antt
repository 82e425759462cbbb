-- The usual forms of what T and R lines begin with: what the definition reads where they stand.
-- Assumes nothing.
use Prim.Native.Nat.{ℕ, ◌<◌, ◌≤◌}
use mathlib.Core.Path.{◌≡◌, refl, sym, ◌∙◌}
use mathlib.Core.Bool.{Bool, true, false, false≢true, ◌&&◌}
use mathlib.Core.List.{List, [], ◌∷◌}
use native.Mathlib.Omega.{arith}
use lib.ListN.{length, get_or}
use lib.Dec.{eqb, ltb}
use borrow.Author.Rules.{rules}
use borrow.Author.Tests.{ltb-true}
use Rattle.std.specs.Prelude.{Ok}
use Rattle.format.specs.Got.{is}
use Rattle.format.specs.Entries.{lead}
use Rattle.format.specs.Pairs.{zero_index}
use Rattle.scan.proofs.Laws.Kinds.{one-space}
use Rattle.scan.proofs.Laws.Words.{word-start, word_more}
use Rattle.joined_bytes.specs.Steps.{join_step}
use Rattle.joined_bytes.proofs.Laws.Joined.{index_is}
use Rattle.joined_bytes.proofs.Laws.Joins.{two-zeros, joins-two}
use Rattle.empty_marks.specs.Marks.{zero_lead}
use Rattle.fields.specs.Due.{Due}
use Rattle.fields.proofs.Laws.Fields.{one-lead, due-here, due-before}
use Rattle.pair_line.specs.Usual.{Led, Zeroed}
use Rattle.fragments.proofs.Laws.Fragments.{index-2}
use Rattle.pair_line.proofs.Laws.Relocations.{zero-2, part-3}

-- a line's letter and one space
letter-lead : (s : List ℕ) (letter : ℕ) → 3 ≤ length s → get_or s 0 0 ≡ letter → get_or s 1 0 ≡ 32 → 32 < get_or s 2 0 → lead (letter ∷ []) s 0 ≡ is tt 2
letter-lead s letter h e f k =
    one-lead s 1 (omega arith) f k (word_more (word-start (letter ∷ []) s 0) (omega arith) (omega arith) (sym e)) (omega arith) (omega arith)

-- `usual_letter`
pub led-none : (w s : List ℕ) (at next : ℕ) → Led w s at next false
led-none w s at next = record { read = λ e. absurd (false≢true e) }

pub led-letter : (s : List ℕ) (letter : ℕ) → 3 ≤ length s → get_or s 0 0 ≡ letter → get_or s 1 0 ≡ 32 → Led (letter ∷ []) s 0 2 (ltb 32 (get_or s 2 0))
led-letter s letter h e f = record { read = λ g. letter-lead s letter h e f (ltb-true 32 (get_or s 2 0) g) }

pub ruleset letters = (rules, led-none, led-letter)

-- 00 00 as an index
zero-joined : (big : Bool) → 0 ≡ join_step big 0 256 0
unfolding join_step
zero-joined true = refl
zero-joined false = refl

-- `usual_zero`
pub zeroed-none : (radix : ℕ) (s : List ℕ) → Zeroed radix s false
zeroed-none radix s = record { read = λ e. absurd (false≢true e) }

module _ (radix : ℕ) (s : List ℕ) (x : radix ≡ 16) (n : 9 ≤ length s) where
  zero-index : get_or s 2 0 ≡ 48 → get_or s 3 0 ≡ 48 → get_or s 4 0 ≡ 32 → get_or s 5 0 ≡ 48 → get_or s 6 0 ≡ 48 → get_or s 7 0 ≡ 32 → (big : Bool) → is 0 7 ≡ zero_index radix big s 2
  zero-index c d e f g h big =
      let u = two-zeros (get_or s 2 0) (get_or s 3 0) c d in
      let v = two-zeros (get_or s 5 0) (get_or s 6 0) f g in
      let j = joins-two radix big s 2 x (omega arith) e {c = 32} u (omega arith) v (omega arith) (zero-joined big) (omega arith) (omega arith) (sym h) (omega arith) in
      zero-2 radix big s 2 {i = Ok (record { value = 0; next = 7 })} (index_is radix big s 2 (sym (j.got (omega arith)))) refl refl

  pub zeroed-is : {a b c d e f g h : Bool}
      → Due (get_or s 0 0) 82 true a → Due (get_or s 1 0) 32 a b → Due (get_or s 2 0) 48 b c → Due (get_or s 3 0) 48 c d
      → Due (get_or s 4 0) 32 d e → Due (get_or s 5 0) 48 e f → Due (get_or s 6 0) 48 f g → Due (get_or s 7 0) 32 g h → h ≡ true → Zeroed radix s (ltb 32 (get_or s 8 0))
  zeroed-is wa wb wc wd we wf wg wh zh =
      let zg = due-before wh zh in
      let zf = due-before wg zg in
      let ze = due-before wf zf in
      let zd = due-before we ze in
      let zc = due-before wd zd in
      let zb = due-before wc zc in
      let za = due-before wb zb in
      let l = letter-lead s 82 (omega arith) (due-here wa za) (due-here wb zb) (omega (arith, due-here wc zc)) in
      let i = zero-index (due-here wc zc) (due-here wd zd) (due-here we ze) (due-here wf zf) (due-here wg zg) (due-here wh zh) in
      record {
        read = λ y big m.
            let k = index-2 radix big s 7 (one-space s 7 (omega arith) (due-here wh zh) (ltb-true 32 (get_or s 8 0) y)) (λ q. omega arith) refl in
            sym (part-3 (record { radix = radix; big = big; address_length = m }) s {l = Ok 2} (sym l) refl {z = Ok (record { value = 0; next = 7 })} (i big) refl k);
      }

due : (b d : ℕ) (before : Bool) → Due b d before (eqb b d && before)
due b d before = record { answer = refl }

-- the eight compared by `zero_lead`
pub zeroed-lead : (radix : ℕ) (s : List ℕ) → radix ≡ 16 → 9 ≤ length s → {h : Bool}
    → h ≡ zero_lead (get_or s 0 0) (get_or s 1 0) (get_or s 2 0) (get_or s 3 0) (get_or s 4 0) (get_or s 5 0) (get_or s 6 0) (get_or s 7 0) → h ≡ true → Zeroed radix s (ltb 32 (get_or s 8 0))
unfolding zero_lead
zeroed-lead radix s x n e z =
    zeroed-is radix s x n
    (due (get_or s 0 0) 82 true) (due (get_or s 1 0) 32 _) (due (get_or s 2 0) 48 _) (due (get_or s 3 0) 48 _) (due (get_or s 4 0) 32 _) (due (get_or s 5 0) 48 _) (due (get_or s 6 0) 48 _) (due (get_or s 7 0) 32 _)
    (sym e ∙ z)

pub ruleset zeroing = (rules, zeroed-none, zeroed-lead)
