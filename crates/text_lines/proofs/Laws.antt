-- The line at a place, and the steps of the scan to its end.
-- Assumes nothing.
use Prim.Native.Nat.{ℕ, ◌+◌, ◌<◌, ◌≤◌, ◌^◌}
use mathlib.Core.Path.{◌≡◌, refl, sym, ◌∙◌}
use mathlib.Core.Bool.{Bool, true, false, true≢false, ◌&&◌}
use mathlib.Core.List.{List, [], ◌∷◌}
use native.Mathlib.Omega.{arith}
use native.Mathlib.Nat.{le_of_lt}
use lib.ListN.{length, get_or, drop, length-drop}
use lib.Dec.{eqb}
use borrow.Author.Rules.{rules}
use mir.Val.{Fits}
use mir.Syntax.{w64}
use borrow.Author.Tests.{ne_eqb}
use Rattle.format.specs.Lists.{pick}
use Rattle.format.specs.Bytes.{is_cr_or_lf}
use Rattle.format.specs.Number.{past}
use Rattle.format.specs.Lines.{end_length}
use Rattle.laws.specs.Places.{inner, line_end, end_at, next_line}
use Rattle.laws.proofs.Within.{past-within}
use Rattle.scan.proofs.Laws.Tests.{by_order}
use Rattle.scan.proofs.Laws.Kinds.{Spans, span-start, span_more, span-stop}
use Rattle.scan.proofs.Laws.Lines.{end_none, end-lf}
use Rattle.text_lines.specs.Lines.{LineIs, High, OneLine, Eight}

-- `low`
module _ (b : ℕ) (before : Bool) where
  pub low-is : High b before true
  low-is = record { high = λ e. absurd (true≢false e); rest = λ e. absurd (true≢false e) }

  pub low-not : 13 < b → High b before before
  low-not h = record { high = λ e. h; rest = λ e. e }

pub ruleset lows = (rules, low-is, low-not)

-- `low_of_eight`
high-inner : (b : ℕ) → 13 < b → true ≡ inner b
unfolding is_cr_or_lf
high-inner b h = rw (ne_eqb b 13 (λ e. omega arith), ne_eqb b 10 (λ e. omega arith))

module _ (s : List ℕ) (p : ℕ) where
  one_more : {i : ℕ} → Spans inner s p i → i < length s → 13 < get_or s i 0 → {j : ℕ} → j ≡ i + 1 → Spans inner s p j
  one_more {i} w h b e = rw e (span_more w (high-inner (get_or s i 0) b) h refl)

  pub eight_is : p + 8 ≤ length s → {a b c d e f g h : Bool}
      → High (get_or s p 0) false a → High (get_or s (p + 1) 0) a b → High (get_or s (p + 2) 0) b c → High (get_or s (p + 3) 0) c d
      → High (get_or s (p + 4) 0) d e → High (get_or s (p + 5) 0) e f → High (get_or s (p + 6) 0) f g → High (get_or s (p + 7) 0) g h → Eight s p h
  eight_is l wa wb wc wd we wf wg wh = record {
    on = λ zh.
        let zg = wh.rest zh in
        let zf = wg.rest zg in
        let ze = wf.rest zf in
        let zd = we.rest ze in
        let zc = wd.rest zd in
        let zb = wc.rest zc in
        let za = wb.rest zb in
        let s1 = one_more (span-start inner s p) (omega arith) (wa.high za) {j = p + 1} (omega arith) in
        let s2 = one_more s1 (omega arith) (wb.high zb) {j = p + 2} (omega arith) in
        let s3 = one_more s2 (omega arith) (wc.high zc) {j = p + 3} (omega arith) in
        let s4 = one_more s3 (omega arith) (wd.high zd) {j = p + 4} (omega arith) in
        let s5 = one_more s4 (omega arith) (we.high ze) {j = p + 5} (omega arith) in
        let s6 = one_more s5 (omega arith) (wf.high zf) {j = p + 6} (omega arith) in
        let s7 = one_more s6 (omega arith) (wg.high zg) {j = p + 7} (omega arith) in
        let s8 = one_more s7 (omega arith) (wh.high zh) {j = p + 8} (omega arith) in
        record { same = s8.whole };
  }

pub ruleset eights = (rules, eight_is)

pub line-start : (s : List ℕ) (p : ℕ) → OneLine s p p
line-start s p = record { same = refl }

-- `past_few`
pub line-more : {s : List ℕ} {p i : ℕ} → OneLine s p i → i < length s → 32 ≤ get_or s i 0 → OneLine s p (i + 1)
line-more {s} {i = i} w h b = record { same = w.same ∙ (one_more s i (span-start inner s i) h (omega arith) refl).whole }

pub ruleset few = (rules, line-start, line-more)

-- `past_eights`
pub line-so-far : {s : List ℕ} {p i r : ℕ} → OneLine s p i → OneLine s i r → OneLine s p r
line-so-far w e = record { same = w.same ∙ e.same }

pub line_on : {s : List ℕ} {p i : ℕ} {r : Bool} → OneLine s p i → Eight s i r → r ≡ false → OneLine s p (i + 8)
line_on w e z = record { same = w.same ∙ (e.on z).same }

pub line-on-twice : {s : List ℕ} {p i : ℕ} {q r : Bool} → OneLine s p i → Eight s i q → q ≡ false → Eight s (i + 8) r → r ≡ false → OneLine s p (i + 16)
line-on-twice {i = i} w d y e z =
    let n : i + 8 + 8 ≡ i + 16 = omega arith in
    rw n at (line_on (line_on w d y) e z)

pub ruleset scanning = (rules, line-start, line-so-far, line_on, line-on-twice)

-- `line_at`
end-within : (xs : List ℕ) → end_length xs ≤ length xs
unfolding end_length
end-within [] = omega arith
end-within (a ∷ []) = go (eqb a 10)
  where
    go : (t : Bool) → pick {A = ℕ} t 1 0 ≤ 1
    go true = omega arith
    go false = omega arith
end-within (a ∷ b ∷ r) = go (eqb a 10) (eqb a 13 && eqb b 10)
  where
    go : (t u : Bool) → pick {A = ℕ} t 1 (pick u 2 0) ≤ length (a ∷ b ∷ r)
    go true u = omega arith
    go false true = omega arith
    go false false = omega arith

module _ (s : List ℕ) {q e : ℕ} (b : e ≡ end_length (drop q s)) where
  end-inside : q ≤ length s → q + e ≤ length s
  end-inside h = omega (arith, b, end-within (drop q s), length-drop q s)

  pub end_fits : length s < 2 ^ 64 → q < 2 ^ 64 → Fits w64 (q + e)
  end_fits l m =
      by_order q (length s)
      (λ h. record { fits = omega (arith, end-inside (le_of_lt h)) })
      (λ h. let z : e ≡ 0 = b ∙ sym (end_none s q h) in record { fits = omega arith })

  pub line-is : {p m : ℕ} → OneLine s p m → q ≡ past inner s m → LineIs s p (record { end = q; ends = e; next = q + e })
  unfolding line_end end_at next_line past
  line-is {p} w f = let a : q ≡ past inner s p = f ∙ sym w.same in record {
    ends_at = a;
    line-end = b ∙ rw a;
    behind = rw (b, a);
    from = omega (arith, a);
    width = refl;
    inside = λ h. end-inside (rw a (past-within inner s p h));
  }

pub lf_line : (s : List ℕ) {p m : ℕ} → OneLine s p m → m < length s → get_or s m 0 ≡ 10 → LineIs s p (record { end = m; ends = 1; next = m + 1 })
unfolding is_cr_or_lf
lf_line s {m = m} w h e =
    let o : false ≡ inner (get_or s m 0) = rw e in
    line-is s (end-lf s m h e) w (span-stop (span-start inner s m) o h refl)

pub ruleset lining = (rules, end_fits, line-is, lf_line)
