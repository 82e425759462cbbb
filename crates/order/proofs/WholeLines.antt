-- The first lines of a text, as bytes: whatever stands behind these bytes, they give the same lines.
-- Assumes nothing.
use Prim.Native.Nat.{ℕ, suc, ◌+◌, ◌≤◌}
use mathlib.Core.Path.{◌≡◌, refl, sym, ap, ◌∙◌}
use mathlib.Core.Bool.{Bool, true, false}
use mathlib.Core.List.{List, [], ◌∷◌, ◌++◌, append_assoc}
use native.Mathlib.Omega.{arith}
use lib.ListN.{length, length-append}
use lib.Dec.{eqb}
use Rattle.format.specs.Lists.{pick}
use Rattle.format.specs.Lines.{Line, width, grow, blank_line, lines, taken}

-- a text begins with some lines, and has others behind them
pub record Leads (text : List ℕ) (first rest : List Line) : Type 0 where
  pub bytes : List ℕ
  pub behind : List ℕ
  pub split : text ≡ bytes ++ behind
  pub long : length bytes ≡ taken first
  pub leads : (other : List ℕ) → lines (bytes ++ other) ≡ first ++ lines other
  pub others : lines behind ≡ rest

-- no line is an empty list of lines
no_line : {C : Type 0} (l : Line) (ls : List Line) → [] ≡ l ∷ ls → C
no_line l ls e = let z : ◌≡◌ {A = ℕ} 0 1 = cc in let y : ⊥ = omega arith in absurd y

-- the first line alone
record First (text : List ℕ) (l : Line) (rest : List Line) : Type 0 where
  bytes : List ℕ
  behind : List ℕ
  split : text ≡ bytes ++ behind
  long : length bytes ≡ width l
  some : 1 ≤ length bytes
  leads : (other : List ℕ) → lines (bytes ++ other) ≡ l ∷ lines other
  others : lines behind ≡ rest

-- a line end alone
lf-leads : (b : ℕ) (other : List ℕ) → eqb b 10 ≡ true → lines (b ∷ other) ≡ record { bytes = []; ends = 1 } ∷ lines other
unfolding lines blank_line
lf-leads b [] e = rw e
lf-leads b (c ∷ cs) e = rw e

lf-first : (b : ℕ) (bs : List ℕ) (l : Line) (ls : List Line) → eqb b 10 ≡ true → record { bytes = []; ends = 1 } ∷ lines bs ≡ l ∷ ls → First (b ∷ bs) l ls
unfolding width
lf-first b bs l ls e h =
    let same : record { bytes = []; ends = 1 } ≡ l = cc in
    let others : lines bs ≡ ls = cc in
    record {
      bytes = b ∷ [];
      behind = bs;
      split = refl;
      long = ap (λ (x : Line). length x.bytes + x.ends) same;
      some = omega arith;
      leads = λ other. lf-leads b other e ∙ ap (λ (x : Line). x ∷ lines other) same;
      others = others;
    }

cr-first : (b c : ℕ) (bs : List ℕ) (l : Line) (ls : List Line) → eqb b 10 ≡ false → eqb b 13 ≡ true → eqb c 10 ≡ true
    → record { bytes = []; ends = 2 } ∷ lines bs ≡ l ∷ ls → First (b ∷ c ∷ bs) l ls
unfolding lines blank_line width
cr-first b c bs l ls e f g h =
    let same : record { bytes = []; ends = 2 } ≡ l = cc in
    let others : lines bs ≡ ls = cc in
    record {
      bytes = b ∷ c ∷ [];
      behind = bs;
      split = refl;
      long = ap (λ (x : Line). length x.bytes + x.ends) same;
      some = omega arith;
      leads = λ other. rw (e, f, g) (ap (λ (x : Line). x ∷ lines other) same);
      others = others;
    }

-- a byte in front of the first line
grow-leads : (b : ℕ) (xs : List ℕ) (l : Line) (ls : List Line) → 1 ≤ length xs → eqb b 10 ≡ false → eqb b 13 ≡ false → lines xs ≡ l ∷ ls
    → lines (b ∷ xs) ≡ record { bytes = b ∷ l.bytes; ends = l.ends } ∷ ls
unfolding lines grow
grow-leads b [] l ls n e f h = absurd (omega arith)
grow-leads b (c ∷ cs) l ls n e f h = rw (e, f, h)

grow_first : (b : ℕ) (xs : List ℕ) (m : List Line) (l : Line) (ls : List Line) → eqb b 10 ≡ false → eqb b 13 ≡ false
    → ((k : Line) (ks : List Line) → lines xs ≡ k ∷ ks → First xs k ks) → lines xs ≡ m → grow b m ≡ l ∷ ls → First (b ∷ xs) l ls
unfolding grow width
grow_first b xs [] l ls e f ih h g = no_line l ls g
grow_first b xs (k ∷ ks) l ls e f ih h g =
    let i = ih k ks h in
    let same : record { bytes = b ∷ k.bytes; ends = k.ends } ≡ l = cc in
    let others : ks ≡ ls = cc in
    record {
      bytes = b ∷ i.bytes;
      behind = i.behind;
      split = ap (λ (ys : List ℕ). b ∷ ys) i.split;
      long = let z : suc (length i.bytes) ≡ suc (length k.bytes) + k.ends = omega (arith, i.long) in z ∙ ap (λ (x : Line). length x.bytes + x.ends) same;
      some = omega arith;
      leads = λ other.
          grow-leads b (i.bytes ++ other) k (lines other) (simp length-append (omega (arith, i.some))) e f (i.leads other)
          ∙ ap (λ (x : Line). x ∷ lines other) same;
      others = i.others ∙ others;
    }

first-line : (text : List ℕ) (l : Line) (ls : List Line) → lines text ≡ l ∷ ls → First text l ls
unfolding lines blank_line
first-line [] l ls h = no_line l ls h
first-line (b ∷ []) l ls h = go (eqb b 10) refl h
  where
    go : (t : Bool) → eqb b 10 ≡ t → pick t (record { bytes = []; ends = 1 } ∷ []) [] ≡ l ∷ ls → First (b ∷ []) l ls
    go true e g = lf-first b [] l ls e g
    go false e g = no_line l ls g
first-line (b ∷ c ∷ bs) l ls h = go (eqb b 10) (eqb b 13) (eqb c 10) refl refl refl (first-line (c ∷ bs)) h
  where
    go : (t u v : Bool) → eqb b 10 ≡ t → eqb b 13 ≡ u → eqb c 10 ≡ v → ((k : Line) (ks : List Line) → lines (c ∷ bs) ≡ k ∷ ks → First (c ∷ bs) k ks)
        → pick t (record { bytes = []; ends = 1 } ∷ lines (c ∷ bs)) (pick u (pick v (record { bytes = []; ends = 2 } ∷ lines bs) []) (grow b (lines (c ∷ bs)))) ≡ l ∷ ls
        → First (b ∷ c ∷ bs) l ls
    go true u v e f g ih k = lf-first b (c ∷ bs) l ls e k
    go false true true e f g ih k = cr-first b c bs l ls e f g k
    go false true false e f g ih k = no_line l ls k
    go false false v e f g ih k = grow_first b (c ∷ bs) (lines (c ∷ bs)) l ls e f ih refl k

-- so many lines as one likes
pub whole-lines : (text : List ℕ) (first rest : List Line) → lines text ≡ first ++ rest → Leads text first rest
unfolding taken
whole-lines text [] rest h = record { bytes = []; behind = text; split = refl; long = refl; leads = λ other. refl; others = h }
whole-lines text (l ∷ ls) rest h =
    let i = first-line text l (ls ++ rest) h in
    let k = whole-lines i.behind ls rest i.others in
    record {
      bytes = i.bytes ++ k.bytes;
      behind = k.behind;
      split = i.split ∙ (ap (λ (xs : List ℕ). i.bytes ++ xs) k.split ∙ sym (append_assoc i.bytes k.bytes k.behind));
      long = length-append i.bytes k.bytes ∙ omega (arith, i.long, k.long);
      leads = λ other. ap lines (append_assoc i.bytes k.bytes other) ∙ (i.leads (k.bytes ++ other) ∙ ap (λ (ms : List Line). l ∷ ms) (k.leads other));
      others = k.others;
    }
