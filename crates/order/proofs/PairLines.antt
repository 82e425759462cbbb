-- Pairs of lines wherever they stand: what a pair of lines says does not depend on its place, and a pair's first line is no line of group one.
-- Assumes nothing.
use Prim.Native.Nat.{ℕ, ◌+◌}
use mathlib.Core.Path.{◌≡◌, refl, sym, ap, ◌∙◌}
use mathlib.Core.Bool.{Bool, true, false, ◌&&◌}
use mathlib.Core.List.{List, [], ◌∷◌}
use native.Mathlib.Omega.{arith}
use lib.ListN.{length, get_or}
use lib.Dec.{eqb, leb}
use borrow.Author.Tests.{eqb-true, eqb-false, ne_eqb}
use Rattle.format.specs.Lists.{pick, starts}
use Rattle.format.specs.Got.{Got, is, isnt}
use Rattle.format.specs.Number.{behind, word}
use Rattle.format.specs.Header.{Form}
use Rattle.format.specs.Lines.{Line, width}
use Rattle.format.specs.Entries.{entry_line, ignored_line, is_ignored, lead, letter_and_more}
use Rattle.format.specs.Pairs.{Pair, address_part, content_line, pair_lines, pair_of, placed_of, skipped_of, whole_content}
use Rattle.format.specs.Records.{Taken, consed, entry_step, goes, pair_step, pairs, records, step_of, stops}

-- ------------------------------------------------------------------ a pair elsewhere

-- a pair that two lines give: its places, and that they give the same anywhere
pub record Given (f : Form) (t r : Line) (at : ℕ) (p : Taken Pair) : Type 0 where
  pub place : p.place ≡ at
  pub end : p.end ≡ at + (width t + width r)
  pub anywhere : (q : ℕ) → pair_step true f q t r ≡ goes (record { place = q; end = q + (width t + width r); body = p.body })

step-anywhere : (g : Got Pair) (n e w at : ℕ) (p : Taken Pair) → step_of true at n e (at + w) g ≡ goes p
    → (p.place ≡ at) × (p.end ≡ at + w) × ((q : ℕ) → step_of true q n e (q + w) g ≡ goes (record { place = q; end = q + w; body = p.body }))
step-anywhere (isnt x y) n e w at p h = let z : ◌≡◌ {A = ℕ} 0 1 = cc in let y : ⊥ = omega arith in absurd y
step-anywhere (is a used) n e w at p h = go (eqb used n && leb 1 e) h
  where
    go : (c : Bool) → pick c (goes (record { place = at; end = at + w; body = a })) stops ≡ goes p
        → (p.place ≡ at) × (p.end ≡ at + w) × ((q : ℕ) → pick c (goes (record { place = q; end = q + w; body = a })) stops ≡ goes (record { place = q; end = q + w; body = p.body }))
    go true k =
        let same : record { place = at; end = at + w; body = a } ≡ p = cc in (
          sym (ap (λ (x : Taken Pair). x.place) same),
          sym (ap (λ (x : Taken Pair). x.end) same),
          λ q. ap (λ (b : Pair). goes (record { place = q; end = q + w; body = b })) (ap (λ (x : Taken Pair). x.body) same),
        )
    go false k = let z : ◌≡◌ {A = ℕ} 0 1 = cc in let y : ⊥ = omega arith in absurd y

given : (f : Form) (t r : Line) (at : ℕ) (p : Taken Pair) → pair_step true f at t r ≡ goes p → Given f t r at p
unfolding pair_step
given f t r at p h =
    let k = step-anywhere (pair_lines f t r) (width t + length r.bytes) r.ends (width t + width r) at p h in
    record { place = k.0; end = k.1; anywhere = k.2 }

-- ------------------------------------------------------------------ the first pair of some lines

pub no-pair : {C : Type 0} (p : Taken Pair) (ps : List (Taken Pair)) → [] ≡ p ∷ ps → C
no-pair p ps e = let z : ◌≡◌ {A = ℕ} 0 1 = cc in let y : ⊥ = omega arith in absurd y

went_on : (g : Got Pair) (at n e next : ℕ) (rest : List (Taken Pair)) (p : Taken Pair) (ps : List (Taken Pair))
    → consed (step_of true at n e next g) rest ≡ p ∷ ps → (step_of true at n e next g ≡ goes p) × (rest ≡ ps)
went_on (isnt x y) at n e next rest p ps h = no-pair p ps h
went_on (is a used) at n e next rest p ps h = go (eqb used n && leb 1 e) h
  where
    go : (c : Bool) → consed (pick c (goes (record { place = at; end = next; body = a })) stops) rest ≡ p ∷ ps
        → (pick c (goes (record { place = at; end = next; body = a })) stops ≡ goes p) × (rest ≡ ps)
    go true k = (cc, cc)
    go false k = no-pair p ps k

-- its two lines, and the pairs behind them
pub record Front (f : Form) (at : ℕ) (ls : List Line) (p : Taken Pair) (ps : List (Taken Pair)) : Type 0 where
  pub t : Line
  pub r : Line
  pub rest : List Line
  pub is : ls ≡ t ∷ r ∷ rest
  pub first : Given f t r at p
  pub others : pairs true f (at + (width t + width r)) rest ≡ ps

pub front : (f : Form) (at : ℕ) (ls : List Line) (p : Taken Pair) (ps : List (Taken Pair)) → pairs true f at ls ≡ p ∷ ps → Front f at ls p ps
unfolding pairs pair_step
front f at [] p ps h = no-pair p ps h
front f at (t ∷ []) p ps h = no-pair p ps h
front f at (t ∷ r ∷ ls) p ps h =
    let k = went_on (pair_lines f t r) at (width t + length r.bytes) r.ends (at + (width t + width r)) (pairs true f (at + (width t + width r)) ls) p ps h in
    record { t = t; r = r; rest = ls; is = refl; first = given f t r at p k.0; others = k.1 }

-- and back: two lines that give a pair, in front of others
pub in-front : (f : Form) (at q : ℕ) (t r : Line) (p : Taken Pair) (ls : List Line) → Given f t r at p
    → pairs true f q (t ∷ r ∷ ls) ≡ record { place = q; end = q + (width t + width r); body = p.body } ∷ pairs true f (q + (width t + width r)) ls
unfolding pairs
in-front f at q t r p ls g = rw (g.anywhere q)

-- ------------------------------------------------------------------ no line of group one

-- T does not stand first
no_word : (s : List ℕ) → (get_or s 0 0 ≡ 84 → ⊥) → word (84 ∷ []) s 0 ≡ isnt 4 0
unfolding word behind starts
no_word [] h = refl
no_word (x ∷ xs) h = rw (ne_eqb 84 x (λ e. h (sym e)))

no-pair-lines : (f : Form) (t r : Line) → (get_or t.bytes 0 0 ≡ 84 → ⊥) → pair_lines f t r ≡ isnt 4 0
unfolding pair_lines pair_of placed_of skipped_of whole_content content_line address_part lead letter_and_more
no-pair-lines f t r h = rw (no_word t.bytes h, ne_eqb (get_or t.bytes 0 0) 84 h)

given-by-T : (f : Form) (t r : Line) (at : ℕ) (p : Taken Pair) → Given f t r at p → get_or t.bytes 0 0 ≡ 84
unfolding pair_step
given-by-T f t r at p g = go (eqb (get_or t.bytes 0 0) 84) refl
  where
    go : (c : Bool) → eqb (get_or t.bytes 0 0) 84 ≡ c → get_or t.bytes 0 0 ≡ 84
    go true e = eqb-true (get_or t.bytes 0 0) 84 e
    go false e =
        let n = no-pair-lines f t r (eqb-false (get_or t.bytes 0 0) 84 e) in
        let h : stops ≡ goes (record { place = 0; end = 0 + (width t + width r); body = p.body }) = rw n at (g.anywhere 0) in
        let z : ◌≡◌ {A = ℕ} 0 1 = cc in
        let y : ⊥ = omega arith in
        absurd y

no-entry : (f : Form) (t : Line) (at : ℕ) → get_or t.bytes 0 0 ≡ 84 → entry_step true f at t ≡ stops
unfolding entry_step entry_line ignored_line letter_and_more is_ignored
no-entry f t at e = rw e

-- lines whose first two are a pair have no entries
pub pairs-alone : (f : Form) (at : ℕ) (ls : List Line) (p : Taken Pair) (ps : List (Taken Pair)) → pairs true f at ls ≡ p ∷ ps
    → records true f at ls ≡ record { entries = []; pairs = p ∷ ps }
unfolding records
pairs-alone f at ls p ps h =
    let k = front f at ls p ps h in
    let stop = no-entry f k.t at (given-by-T f k.t k.r at p k.first) in
    ap (records true f at) k.is ∙ (rw stop (ap (λ (qs : List (Taken Pair)). record { entries = []; pairs = qs }) (ap (pairs true f at) (sym k.is) ∙ h)))
