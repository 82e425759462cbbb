-- A text with the bytes of two neighbouring pairs exchanged: its parts, and its records.
-- Assumes nothing.
use Prim.Native.Nat.{ℕ, suc, ◌+◌, ◌≤◌}
use mathlib.Core.Path.{◌≡◌, refl, sym, ap, ◌∙◌}
use mathlib.Core.Bool.{Bool, true, false}
use mathlib.Core.List.{List, [], ◌∷◌, ◌++◌, append_assoc, map}
use native.Mathlib.Omega.{arith}
use lib.ListN.{length, take, drop, length-append, take-append-drop, drop_of_length-le}
use lib.Seq.{take_at, drop_at, length-take-le}
use lib.Dec.{leb}
use borrow.Author.Tests.{leb-true, leb-false}
use Rattle.format.specs.Header.{Head}
use Rattle.format.specs.Lines.{Line, lines, taken}
use Rattle.format.specs.Entries.{Entry}
use Rattle.format.specs.Pairs.{Pair}
use Rattle.format.specs.Outcome.{fine}
use Rattle.format.specs.Records.{Parsed, Records, Taken, ends, last_of, parsed, records, stop}
use Rattle.laws.proofs.Headers.{Begins, same-header}
use Rattle.laws.proofs.Opened.{opened, parsed-at}
use Rattle.order.specs.Order.{bodies}
use Rattle.order.specs.Texts.{exchanged}
use Rattle.order.proofs.Bytes.{exchanged-parts}
use Rattle.order.proofs.WholeLines.{whole-lines}
use Rattle.order.proofs.TurnedLines.{bodies-turned, last-of-pairs, turn-records, turned}

-- the parts of a text with a before b, the text with these parts exchanged, and that text's records
pub record TurnedText (text : List ℕ) (p : Parsed) (before behind : List (Taken Pair)) (a b : Taken Pair) : Type 0 where
  pub front : List ℕ
  pub one : List ℕ
  pub other : List ℕ
  pub rest : List ℕ
  pub is : text ≡ front ++ (one ++ (other ++ rest))
  pub exchanges : exchanged a.place b.place b.end text ≡ front ++ (other ++ (one ++ rest))
  pub parsed-as : Parsed
  pub parses : parsed true (front ++ (other ++ (one ++ rest))) ≡ fine parsed-as
  pub same-form : p.form ≡ parsed-as.form
  pub same_entries : p.records.entries ≡ parsed-as.records.entries
  pub same-bodies : bodies (before ++ b ∷ a ∷ behind) ≡ bodies parsed-as.records.pairs
  pub same_stop : stop p ≡ stop parsed-as

-- lines stand behind a place, so it lies inside the text
no_lines : {C : Type 0} (us : List Line) (t : Line) (ls : List Line) → [] ≡ us ++ t ∷ ls → C
no_lines [] t ls e = let z : ◌≡◌ {A = ℕ} 0 1 = cc in let y : ⊥ = omega arith in absurd y
no_lines (u ∷ us) t ls e = let z : ◌≡◌ {A = ℕ} 0 1 = cc in let y : ⊥ = omega arith in absurd y

inside-text : (at : ℕ) (text : List ℕ) (us : List Line) (t : Line) (ls : List Line) → lines (drop at text) ≡ us ++ t ∷ ls → at ≤ length text
unfolding lines
inside-text at text us t ls h = go (leb at (length text)) refl
  where
    go : (u : Bool) → leb at (length text) ≡ u → at ≤ length text
    go true e = leb-true at (length text) e
    go false e =
        let short : length text ≤ at = omega (arith, leb-false at (length text) e) in
        let none_left : drop at text ≡ [] = drop_of_length-le text short in
        no_lines us t ls (rw none_left at h)

-- the place where a reading with these pairs stopped
stop-of : (f : Parsed) (es : List (Taken Entry)) (before behind : List (Taken Pair)) (a b : Taken Pair) → f.records ≡ record { entries = es; pairs = before ++ a ∷ b ∷ behind }
    → stop f ≡ last_of b.end (map (λ (t : Taken Pair). t.end) behind)
unfolding stop ends
stop-of f es before behind a b e =
    ap (λ (r : Records). last_of f.head (map (λ (t : Taken Entry). t.end) r.entries ++ map (λ (t : Taken Pair). t.end) r.pairs)) e
    ∙ last-of-pairs f.head (map (λ (t : Taken Entry). t.end) es) before behind a b

pub turn-text : (h : Head) (e : ℕ) (text : List ℕ) (before behind : List (Taken Pair)) (a b : Taken Pair) → Begins text h e
    → (opened h e text).records.pairs ≡ before ++ a ∷ b ∷ behind → TurnedText text (opened h e text) before behind a b
unfolding opened taken turned
turn-text h e text before behind a b begins are =
    let at : ℕ = h.next + suc e in
    let tail : List ℕ = drop at text in
    let m = turn-records h.form before behind a b at (lines tail) are in
    let s = m.spot in
    let first = whole-lines tail s.us (s.t ∷ s.r ∷ s.t' ∷ s.r' ∷ s.vs) s.is in
    let second = whole-lines first.behind (s.t ∷ s.r ∷ []) (s.t' ∷ s.r' ∷ s.vs) first.others in
    let third = whole-lines second.behind (s.t' ∷ s.r' ∷ []) s.vs second.others in
    let head : List ℕ = take at text in
    let front : List ℕ = head ++ first.bytes in
    let one : List ℕ = second.bytes in
    let other : List ℕ = third.bytes in
    let rest : List ℕ = third.behind in
    let new-tail : List ℕ = first.bytes ++ (other ++ (one ++ rest)) in
    let new : List ℕ = front ++ (other ++ (one ++ rest)) in
    let long : length head ≡ at = length-take-le at text (inside-text at text s.us s.t (s.r ∷ s.t' ∷ s.r' ∷ s.vs) s.is) in
    let tail-is : tail ≡ first.bytes ++ (one ++ (other ++ rest)) =
    first.split ∙ ap (λ (x : List ℕ). first.bytes ++ x) (second.split ∙ ap (λ (x : List ℕ). one ++ x) third.split) in
    let is : text ≡ front ++ (one ++ (other ++ rest)) =
    sym (take-append-drop at text) ∙ (ap (λ (x : List ℕ). head ++ x) tail-is ∙ sym (append_assoc head first.bytes (one ++ (other ++ rest)))) in
    let p : length front ≡ a.place = length-append head first.bytes ∙ omega (arith, first.long, s.a-place, long) in
    let q : a.place + length one ≡ b.place = omega (arith, second.long, s.a-place, s.b-place) in
    let r : b.place + length other ≡ b.end = omega (arith, third.long, s.b-place, s.b_end) in
    let new_is : new ≡ head ++ new-tail = append_assoc head first.bytes (other ++ (one ++ rest)) in
    let same_start : take at text ≡ take at new = sym (ap (take at) new_is ∙ take_at head new-tail at long) in
    let begins-too = same-header at e text new same_start h begins (omega arith) in
    let new-lines : lines (drop at new) ≡ turned s =
    ap lines (ap (drop at) new_is ∙ drop_at head new-tail at long)
    ∙ (first.leads (other ++ (one ++ rest))
    ∙ ap (λ (x : List Line). s.us ++ x)
    (third.leads (one ++ rest)
    ∙ ap (λ (x : List Line). s.t' ∷ s.r' ∷ x) (second.leads rest ∙ ap (λ (x : List Line). s.t ∷ s.r ∷ x) third.others))) in
    let recs : records true h.form at (lines (drop at new)) ≡ record { entries = (opened h e text).records.entries; pairs = before ++ s.one ∷ s.other ∷ behind } =
    ap (records true h.form at) new-lines ∙ m.gives in
    record {
      front = front;
      one = one;
      other = other;
      rest = rest;
      is = is;
      exchanges = ap (exchanged a.place b.place b.end) is ∙ exchanged-parts front one other rest a.place b.place b.end p q r;
      parsed-as = opened h e new;
      parses = parsed-at h e new begins-too.head begins-too.end;
      same-form = refl;
      same_entries = sym (ap (λ (x : Records). x.entries) recs);
      same-bodies = bodies-turned before behind a b s.one s.other s.same-one s.same-other ∙ ap (λ (x : Records). bodies x.pairs) (sym recs);
      same_stop =
          stop-of (opened h e text) (opened h e text).records.entries before behind a b (ap (λ (ps : List (Taken Pair)). record { entries = (opened h e text).records.entries; pairs = ps }) are)
          ∙ (ap (λ (n : ℕ). last_of n (map (λ (t : Taken Pair). t.end) behind)) s.same_end
          ∙ sym (stop-of (opened h e new) (opened h e text).records.entries before behind s.one s.other recs));
    }
