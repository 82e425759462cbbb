-- A text cut inside a line that the whole reading takes, or inside a T and R pair: the halt at that line has reason 1 or 4.
-- Assumes nothing.
use Prim.Native.Nat.{ℕ, suc, zero, ◌+◌, ◌-◌, ◌≤◌, ◌<◌}
use mathlib.Core.Path.{◌≡◌, refl, sym, ap, subst, ◌∙◌}
use mathlib.Core.Bool.{Bool, true, false, ◌&&◌, ◌||◌}
use mathlib.Core.List.{List, [], ◌∷◌}
use mathlib.Core.Logic.{◌⊎◌, inl, inr}
use native.Mathlib.Omega.{arith}
use lib.ListN.{length, take, drop, get_or, length-take}
use lib.Seq.{get_or-take, take_all, take-take}
use lib.Dec.{eqb, leb}
use borrow.Author.Tests.{eqb-true, eq-eqb, leb-true, leb-false}
use Rattle.format.specs.Lists.{pick, run, starts}
use Rattle.format.specs.Got.{Got, is, isnt, or_else, shifted}
use Rattle.format.specs.Number.{behind, past, word}
use Rattle.format.specs.Lines.{Line, end_length, width}
use Rattle.format.specs.Header.{Form}
use Rattle.format.specs.Entries.{Entry, T, entry_line, ignored_line, is_ignored, lead, letter_and_more, spelled}
use Rattle.format.specs.Pairs.{Content, Pair, Relocation, address_part, content_line, pair_lines, pair_of, placed, placed_of, relocation_line, skipped, skipped_of, whole_content}
use Rattle.format.specs.Records.{Step, Taken, goes, step_of, stops}
use Rattle.laws.specs.Places.{end_at, entry_at, inner, line_at, line_end, next_line, pair_at, part_of}
use Rattle.halt.specs.Halt.{entry_halt, halt_at, lines_halt, pair_halt}
use Rattle.cut.proofs.LineCut.{drop_of_take, line-cut, next-cut}
use Rattle.cut.proofs.Steps.{pair-went}
use Rattle.halt.proofs.Place.{bytes-length, line-from, line-width, next-in}
use Rattle.cut_reason.specs.CutReason.{Mild}
use Rattle.cut_reason.proofs.Shorter.{chained, never}
use Rattle.cut_reason.proofs.Words.{run-cut}
use Rattle.cut_reason.proofs.CutLine.{a-cut-R-line-halts-mildly, a-cut-T-line-halts-mildly, a-cut-line-halts-mildly}

-- a line end that is cut is none
end_short : (xs : List ℕ) (m : ℕ) → m < end_length xs → end_length (take m xs) ≡ 0
unfolding end_length
end_short xs zero h = refl
end_short [] (suc m) h = let z : ⊥ = omega arith in absurd z
end_short (a ∷ []) (suc m) h = go (eqb a 10) h
  where
    go : (t : Bool) → suc m < pick t 1 0 → end_length (a ∷ take m []) ≡ 0
    go true h = let z : ⊥ = omega arith in absurd z
    go false h = let z : ⊥ = omega arith in absurd z
end_short (a ∷ b ∷ r) (suc zero) h = go (eqb a 10) (eqb a 13 && eqb b 10) h
  where
    go : (t u : Bool) → 1 < pick t 1 (pick u 2 0) → ◌≡◌ {A = ℕ} (pick t 1 0) 0
    go true u h = let z : ⊥ = omega arith in absurd z
    go false u h = refl
end_short (a ∷ b ∷ r) (suc (suc m)) h = go (eqb a 10) (eqb a 13 && eqb b 10) h
  where
    go : (t u : Bool) → suc (suc m) < pick t 1 (pick u 2 0) → end_length (a ∷ b ∷ take m r) ≡ 0
    go true u h = let z : ⊥ = omega arith in absurd z
    go false true h = let z : ⊥ = omega arith in absurd z
    go false false h = let z : ⊥ = omega arith in absurd z

none-ends : end_length [] ≡ 0
unfolding end_length
none-ends = refl

-- the line at a place, cut inside it or inside its line end
module _ (text : List ℕ) (p n : ℕ) (l : p ≤ n) (m : n ≤ length text) (c : n < next_line text p) where
  end-inside : ((line_end (take n text) p ≡ line_end text p) × (line_end text p ≤ n)) ⊎ ((line_end (take n text) p ≡ n) × (n < line_end text p))
  unfolding line_end
  end-inside = go (run-cut inner text p n l m).how
    where
      go : ((run inner (drop p (take n text)) ≡ run inner (drop p text)) × (past inner (take n text) p ≡ past inner text p) × (past inner text p ≤ n))
          ⊎ ((run inner (drop p (take n text)) ≡ take (n - p) (run inner (drop p text))) × (past inner (take n text) p ≡ n) × (n < past inner text p))
          → ((past inner (take n text) p ≡ past inner text p) × (past inner text p ≤ n)) ⊎ ((past inner (take n text) p ≡ n) × (n < past inner text p))
      go (inl (x, y, z)) = inl (y, z)
      go (inr (x, y, z)) = inr (y, z)

  pub line-inside : line_at (take n text) p ≡ record { bytes = take (n - p) (line_at text p).bytes; ends = 0 }
  unfolding line_at end_at next_line
  line-inside = go end-inside
    where
      d : drop p (take n text) ≡ take (n - p) (drop p text)
      d = drop_of_take p n text l

      -- both ways the bytes are the first of the line's
      same : (q : ℕ) → q - p ≤ n - p → take (q - p) (take (n - p) (drop p text)) ≡ take (q - p) (drop p text)
      same q h = take-take (q - p) (n - p) (drop p text) h

      go : ((line_end (take n text) p ≡ line_end text p) × (line_end text p ≤ n)) ⊎ ((line_end (take n text) p ≡ n) × (n < line_end text p))
          → ◌≡◌ {A = Line} (record { bytes = take (line_end (take n text) p - p) (drop p (take n text)); ends = end_length (drop (line_end (take n text) p) (take n text)) })
          (record { bytes = take (n - p) (take (line_end text p - p) (drop p text)); ends = 0 })
      go (inl (x, y)) =
          let q : ℕ = line_end text p in
          let e : end_length (take (n - q) (drop q text)) ≡ 0 = end_short (drop q text) (n - q) (omega arith) in
          let b : take (n - p) (take (q - p) (drop p text)) ≡ take (q - p) (drop p text) = take_all (n - p) (take (q - p) (drop p text)) (omega (arith, length-take (q - p) (drop p text))) in
          rw (x, d, same q (omega arith), drop_of_take q n text y, e, b)
      go (inr (x, y)) =
          let q : ℕ = line_end text p in
          let z : n - n ≡ 0 = omega arith in
          let b : take (n - p) (take (q - p) (drop p text)) ≡ take (n - p) (drop p text) = take-take (n - p) (q - p) (drop p text) (omega arith) in
          rw (x, d, take-take (n - p) (n - p) (drop p text) (omega arith), drop_of_take n n text (omega arith), z, none-ends, b)

-- ------------------------------------------------------------------ group one

-- a record that goes on was used whole
went : {A : Type 0} (at n e next : ℕ) (g : Got A) (t : Taken A) → step_of true at n e next g ≡ goes t → (g ≡ is t.body n) × (1 ≤ e)
went at n e next (isnt r p) t h = let z : ◌≡◌ {A = ℕ} 0 1 = cc in let y : ⊥ = omega arith in absurd y
went {A} at n e next (is a used) t h = go (eqb used n) (leb 1 e) refl refl h
  where
    no : (x : Taken A) → ◌≡◌ {A = Step A} stops (goes x) → ⊥
    no x q = let z : ◌≡◌ {A = ℕ} 0 1 = cc in omega arith

    go : (b c : Bool) → eqb used n ≡ b → leb 1 e ≡ c → pick (b && c) (goes (record { place = at; end = next; body = a })) stops ≡ goes t → (is a used ≡ is t.body n) × (1 ≤ e)
    go true true x y q =
        let s : record { place = at; end = next; body = a } ≡ t = cc in
        let b : a ≡ t.body = ap (λ (z : Taken A). z.body) s in
        (rw (b, eqb-true used n x), leb-true 1 e y)
    go true false x y q = absurd (no t q)
    go false c x y q = absurd (no t q)

-- a line of group one is no T line
not_T : (f : Form) (s : List ℕ) (e : Entry) (q : ℕ) → entry_line f s 0 ≡ is e q → eqb (get_or s 0 0) 84 ≡ false
unfolding entry_line ignored_line letter_and_more is_ignored
not_T f s e q h = go (eqb (get_or s 0 0) 84) refl
  where
    go : (t : Bool) → eqb (get_or s 0 0) 84 ≡ t → t ≡ false
    go true x = let z : isnt 4 0 ≡ is e q = rw (eqb-true (get_or s 0 0) 84 x) at h in never z
    go false x = refl

-- cut anywhere behind the first byte
whole-mild : (f : Form) (s : List ℕ) (e : Entry) → entry_line f s 0 ≡ is e (length s) → Mild (entry_halt f s).reason
unfolding entry_line ignored_line letter_and_more is_ignored
whole-mild f [] e q = never q
whole-mild f (x ∷ xs) e q =
    subst (λ (l : List ℕ). Mild (entry_halt f l).reason) (take_all (length (x ∷ xs)) (x ∷ xs) (omega arith))
    (a-cut-line-halts-mildly f (x ∷ xs) (length (x ∷ xs)) e (omega arith) (omega arith) q)

any-mild : (f : Form) (s : List ℕ) (k : ℕ) (e : Entry) → 0 < k → entry_line f s 0 ≡ is e (length s) → Mild (entry_halt f (take k s)).reason
any-mild f s k e l q = go (leb k (length s)) refl
  where
    go : (b : Bool) → leb k (length s) ≡ b → Mild (entry_halt f (take k s)).reason
    go true x = a-cut-line-halts-mildly f s k e l (leb-true k (length s) x) q
    go false x = rw (take_all k s (omega (arith, leb-false k (length s) x))) (whole-mild f s e q)

module _ (f : Form) (text : List ℕ) (p : ℕ) where
  entry_read : (t : Taken Entry) → p ≤ length text → entry_at true f text p ≡ goes t → entry_line f (line_at text p).bytes 0 ≡ is t.body (length (line_at text p).bytes)
  unfolding entry_at line_at
  entry_read t l e =
      let w = went p (line_end text p - p) (end_at text p) (next_line text p) (entry_line f (part_of text p (line_end text p)) 0) t e in
      w.0 ∙ ap (is t.body) (sym (bytes-length text p l))

  -- cut inside a line of group one that the whole takes
  pub a-cut-inside-an-entry : (n : ℕ) (t : Taken Entry) → n ≤ length text → entry_at true f text p ≡ goes t → p < n → n < next_line text p → Mild (halt_at f false (take n text) p).reason
  unfolding halt_at lines_halt
  a-cut-inside-an-entry n t m e l c =
      let s : List ℕ = (line_at text p).bytes in
      let q : entry_line f (line_at text p).bytes 0 ≡ is t.body (length (line_at text p).bytes) = entry_read t (omega arith) e in
      let first : get_or (take (n - p) (line_at text p).bytes) 0 0 ≡ get_or (line_at text p).bytes 0 0 = get_or-take (n - p) (line_at text p).bytes 0 0 (omega arith) in
      rw (line-inside text p n (omega arith) m c, first, not_T f (line_at text p).bytes t.body (length (line_at text p).bytes) q)
      (any-mild f (line_at text p).bytes (n - p) t.body (omega arith) q)

-- ------------------------------------------------------------------ group two

-- a content line begins with T
begins-T : (f : Form) (s : List ℕ) (c : Content) (q : ℕ) → whole_content f s ≡ is c q → eqb (get_or s 0 0) 84 ≡ true
unfolding whole_content content_line address_part lead word behind starts
begins-T f s c q h =
    let one = chained (content_line f s 0) _ c q h in
    let two = chained (address_part f s 0) _ one.value one.next one.first in
    let three = chained (lead (spelled T) s 0) _ two.value two.next two.first in
    let four = chained (word (spelled T) s 0) _ three.value three.next three.first in
    letter s four.value four.next four.first
  where
    letter : (xs : List ℕ) (u : Unit {0}) (n : ℕ) → word (spelled T) xs 0 ≡ is u n → eqb (get_or xs 0 0) 84 ≡ true
    letter [] u n x = never x
    letter (y ∷ ys) u n x = go (eqb 84 y) refl x
      where
        go : (t : Bool) → eqb 84 y ≡ t → pick (eqb (pick (pick t true false) 1 0) 0) (isnt 4 0) (is tt (pick (pick t true false) 1 0)) ≡ is u n → eqb y 84 ≡ true
        go true a b = eq-eqb y 84 (sym (eqb-true 84 y a))
        go false a b = never b

-- a pair that is placed was read by the relocated form
letter-skips : (g : ℕ → Bool) (s : List ℕ) (b : Pair) (n : ℕ) → letter_and_more g skipped s 0 ≡ is b n → b ≡ skipped
unfolding letter_and_more
letter-skips g s b n h = go (g (get_or s 0 0)) (leb (0 + 2) (length s)) h
  where
    go : (t u : Bool) → pick t (pick u (is skipped (length s)) (isnt 4 (0 + 1))) (isnt 4 0) ≡ is b n → b ≡ skipped
    go true true x = cc
    go true false x = never x
    go false u x = never x

shift-skips : (w : ℕ) (m : Got Pair) (b : Pair) (n : ℕ) → shifted w (λ x. x) m ≡ is b n → (u : ℕ) × (m ≡ is b u)
shift-skips w (is a u) b n h = let x : a ≡ b = cc in (u, rw x)
shift-skips w (isnt r p) b n h = never h

skips : (w : ℕ) (s p : List ℕ) (b : Pair) (n : ℕ) → skipped_of w s p ≡ is b n → b ≡ skipped
unfolding skipped_of
skips w s p b n h =
    let one = chained (letter_and_more (λ b. eqb b 84) skipped s 0) _ b n h in
    let two = shift-skips w (letter_and_more (λ b. eqb b 80) skipped p 0) b n one.second in
    letter-skips (λ b. eqb b 80) p b two.0 two.1

first-form : (c : Content) (d : Relocation) (N : ℕ) (m k : Got Pair) → ((b : Pair) (n : ℕ) → k ≡ is b n → b ≡ skipped) → or_else m k ≡ is (placed c d) N → m ≡ is (placed c d) N
first-form c d N (is a u) k f h = h
first-form c d N (isnt r p) (is a u) f h =
    let x : a ≡ skipped = f a u refl in
    let y : a ≡ placed c d = cc in
    let z : ◌≡◌ {A = ℕ} 0 1 = cc in
    let v : ⊥ = omega arith in
    absurd v
first-form c d N (isnt r p) (isnt r' p') f h = never h

-- both lines of such a pair, and where the second ends
pub record ReadPair (f : Form) (w : ℕ) (s r : List ℕ) (N : ℕ) : Type 0 where
  pub content : Content
  pub used : ℕ
  pub first : whole_content f s ≡ is content used
  pub relocation : Relocation
  pub end : ℕ
  pub second : relocation_line f r 0 ≡ is relocation end
  pub width-and-end : w + end ≡ N

shift-placed : (c : Content) (w : ℕ) (m : Got Relocation) (b : Pair) (N : ℕ) → shifted w (placed c) m ≡ is b N → (d : Relocation) × ((u : ℕ) × (m ≡ is d u) × (w + u ≡ N))
shift-placed c w (is d u) b N h = let x : w + u ≡ N = cc in (d, (u, refl, x))
shift-placed c w (isnt r p) b N h = never h

read-pair : (f : Form) (w : ℕ) (s r : List ℕ) (c : Content) (d : Relocation) (N : ℕ) → pair_of f w s r ≡ is (placed c d) N → ReadPair f w s r N
unfolding pair_of placed_of
read-pair f w s r c d N h =
    let m : placed_of f w s r ≡ is (placed c d) N = first-form c d N (placed_of f w s r) (skipped_of w s r) (λ b n x. skips w s r b n x) h in
    let one = chained (whole_content f s) _ (placed c d) N m in
    let two = shift-placed one.value w (relocation_line f r 0) (placed c d) N one.second in
    record { content = one.value; used = one.next; first = one.first; relocation = two.0; end = two.1.0; second = two.1.1; width-and-end = two.1.2 }

or-true : (a b : Bool) → b ≡ true → a || b ≡ true
or-true true b e = refl
or-true false b e = e

any-T-mild : (f : Form) (s : List ℕ) (k : ℕ) (r : Line) (c : Content) (q : ℕ) → whole_content f s ≡ is c q → Mild (pair_halt f (record { bytes = take k s; ends = 0 }) r).reason
any-T-mild f s k r c q e = go (leb k (length s)) refl
  where
    go : (b : Bool) → leb k (length s) ≡ b → Mild (pair_halt f (record { bytes = take k s; ends = 0 }) r).reason
    go true x = a-cut-T-line-halts-mildly f s k r c q (leb-true k (length s) x) e
    go false x =
        let same : take (length s) s ≡ take k s = take_all (length s) s (omega arith) ∙ sym (take_all k s (omega (arith, leb-false k (length s) x))) in
        subst (λ (l : List ℕ). Mild (pair_halt f (record { bytes = l; ends = 0 }) r).reason) same (a-cut-T-line-halts-mildly f s (length s) r c q (omega arith) e)

any-R-mild : (f : Form) (t : Line) (s : List ℕ) (k : ℕ) (c : Content) (q : ℕ) (d : Relocation) → whole_content f t.bytes ≡ is c q → relocation_line f s 0 ≡ is d (length s)
    → Mild (pair_halt f t (record { bytes = take k s; ends = 0 })).reason
any-R-mild f t s k c q d e g = go (leb k (length s)) refl
  where
    go : (b : Bool) → leb k (length s) ≡ b → Mild (pair_halt f t (record { bytes = take k s; ends = 0 })).reason
    go true x = a-cut-R-line-halts-mildly f t s k 0 c q d (leb-true k (length s) x) e g
    go false x =
        let same : take (length s) s ≡ take k s = take_all (length s) s (omega arith) ∙ sym (take_all k s (omega (arith, leb-false k (length s) x))) in
        subst (λ (l : List ℕ). Mild (pair_halt f t (record { bytes = l; ends = 0 })).reason) same (a-cut-R-line-halts-mildly f t s (length s) 0 c q d (omega arith) e g)

module _ (f : Form) (text : List ℕ) (p : ℕ) (c : Content) (d : Relocation) (t : Taken Pair) (b : t.body ≡ placed c d) (l : p ≤ length text) (e : pair_at true f text p ≡ goes t) where
  pair_read : ReadPair f (width (line_at text p)) (line_at text p).bytes (line_at text (next_line text p)).bytes (line_end text (next_line text p) - p)
  unfolding pair_at pair_lines
  pair_read =
      let r : ℕ = next_line text p in
      let x = pair-went (eqb (end_at text p) 0) (step_of true p (line_end text r - p) (end_at text r) (next_line text r) (pair_lines f (line_at text p) (line_at text r))) t e in
      let w = went p (line_end text r - p) (end_at text r) (next_line text r) (pair_lines f (line_at text p) (line_at text r)) t x in
      read-pair f (width (line_at text p)) (line_at text p).bytes (line_at text r).bytes c d (line_end text r - p) (w.0 ∙ ap (λ (y : Pair). is y (line_end text r - p)) b)

  -- cut inside the T line or the R line of a pair that the whole takes
  pub a-cut-inside-a-pair : (n : ℕ) (paired : Bool) → n ≤ length text → p < n → n < next_line text (next_line text p) → Mild (halt_at f paired (take n text) p).reason
  unfolding halt_at lines_halt
  a-cut-inside-a-pair n paired m k g = go (leb (next_line text p) n) refl
    where
      rd : ReadPair f (width (line_at text p)) (line_at text p).bytes (line_at text (next_line text p)).bytes (line_end text (next_line text p) - p)
      rd = pair_read

      -- the second line was used whole
      second : relocation_line f (line_at text (next_line text p)).bytes 0 ≡ is rd.relocation (length (line_at text (next_line text p)).bytes)
      second =
          let len : rd.end ≡ length (line_at text (next_line text p)).bytes =
          omega (arith, rd.width-and-end, line-width text p l, bytes-length text (next_line text p) (next-in text p l), line-from text (next_line text p) (next-in text p l)) in
          rd.second ∙ ap (is rd.relocation) len

      go : (z : Bool) → leb (next_line text p) n ≡ z
          → Mild (pick (paired || eqb (get_or (line_at (take n text) p).bytes 0 0) 84) (pair_halt f (line_at (take n text) p) (line_at (take n text) (next_line (take n text) p))) (entry_halt f (line_at (take n text) p).bytes)).reason
      go true z =
          let q : next_line text p ≤ n = leb-true (next_line text p) n z in
          rw (line-cut text p n q, next-cut text p n q, or-true paired (eqb (get_or (line_at text p).bytes 0 0) 84) (begins-T f (line_at text p).bytes rd.content rd.used rd.first), line-inside text (next_line text p) n q m g)
          (any-R-mild f (line_at text p) (line_at text (next_line text p)).bytes (n - next_line text p) rd.content rd.used rd.relocation rd.first second)
      go false z =
          let q : n < next_line text p = leb-false (next_line text p) n z in
          let first : get_or (take (n - p) (line_at text p).bytes) 0 0 ≡ get_or (line_at text p).bytes 0 0 = get_or-take (n - p) (line_at text p).bytes 0 0 (omega arith) in
          rw (line-inside text p n (omega arith) m q, first, or-true paired (eqb (get_or (line_at text p).bytes 0 0) 84) (begins-T f (line_at text p).bytes rd.content rd.used rd.first))
          (any-T-mild f (line_at text p).bytes (n - p) _ rd.content rd.used rd.first)
