-- The laws of a pair of lines.
-- Assumes nothing.
use Prim.Native.Nat.{ℕ, ◌+◌, ◌^◌, ◌<◌, ◌≤◌}
use mathlib.Core.Path.{◌≡◌, refl, ap, sym, subst, ◌∙◌}
use mathlib.Core.Bool.{Bool, true, false, ◌&&◌}
use mathlib.Core.List.{List}
use native.Mathlib.Omega.{arith}
use lib.ListN.{length, get_or}
use lib.Seq.{sets}
use lib.Dec.{leb, eqb}
use mir.Val.{Fits as Fit64}
use mir.Syntax.{w64}
use borrow.Author.Rules.{rules}
use borrow.Author.Tests.{eq-eqb, ne_eqb}
use Rattle.format.specs.Lists.{pick}
use Rattle.format.specs.Got.{Got, is, isnt, then, or_else, shifted}
use Rattle.format.specs.Header.{Form}
use Rattle.format.specs.Entries.{letter_and_more}
use Rattle.format.specs.Pairs.{whole_content, content_line, relocation_line, placed_of, skipped_of, pair_of}
use Rattle.format.specs.Pairs as the
use Rattle.laws.proofs.Within.{Holds, Upto, relocation-keeps}
use Rattle.fragments.specs.Fragments.{Rows}
use Rattle.pair_line.specs.Pairs.{Contents, Relocations, bytes_in, counted as counted_of, told_content, fragments_in, numbered, told_relocation}
use Rattle.std.specs.Prelude.{Option, Some, None, Result, Ok, Err}
use Rattle.numbers.specs.Told.{code}
use Rattle.numbers.specs.declared.Halt.{Halt}
use Rattle.pair_line.specs.declared.content.Content.{Content}
use Rattle.pair_line.specs.declared.relocations.Relocation.{Relocation}
use Rattle.pair_line.proofs.Laws.Content.{content-is, content-count, content-isnt, whole_is}
use Rattle.pair_line.proofs.Laws.Relocations.{relocation-is, relocation-count, relocation-isnt}
use Rattle.steps.specs.PairLines.{none, case_of, line_of, Left, PairIs}
use Rattle.steps.specs.declared.pair.Body.TheVariants.{Skipped, Placed}
use Rattle.steps.specs.declared.pair.PairLine.{PairLine}

-- `any_line`
pub any-1 : (s : List ℕ) (b : ℕ) {a : ℕ} → a ≡ get_or s 0 0 → a ≡ b → leb 2 (length s) ≡ (eqb (get_or s 0 0) b && leb 2 (length s))
any-1 s b e h = rw (eq-eqb (get_or s 0 0) b (sym e ∙ h))

pub any-2 : (s : List ℕ) (b : ℕ) {a : ℕ} → a ≡ get_or s 0 0 → (a ≡ b → ⊥) → false ≡ (eqb (get_or s 0 0) b && leb 2 (length s))
any-2 s b e h = rw (ne_eqb (get_or s 0 0) b (λ x. h (e ∙ x)))

-- `skipped_pair`
-- the answer is the pair that is skipped, or none
module _ (s : List ℕ) (b : ℕ) {t : Bool} (e : t ≡ (eqb (get_or s 0 0) b && leb 2 (length s))) where
  any-is : t ≡ true → letter_and_more (λ x. eqb x b) the.skipped s 0 ≡ is the.skipped (length s)
  unfolding letter_and_more
  any-is h = go (eqb (get_or s 0 0) b) (leb 2 (length s)) (sym e ∙ h)
    where
      go : (x y : Bool) → (x && y) ≡ true → pick x (pick y (is the.skipped (length s)) (isnt 4 1)) (isnt 4 0) ≡ is the.skipped (length s)
      go true true w = refl
      go true false w = absurd (let z : ◌≡◌ {A = ℕ} 0 1 = cc in omega arith)
      go false y w = absurd (let z : ◌≡◌ {A = ℕ} 0 1 = cc in omega arith)

  any-isnt : t ≡ false → case_of (letter_and_more (λ x. eqb x b) the.skipped s 0) ≡ none
  unfolding letter_and_more
  any-isnt h = go (eqb (get_or s 0 0) b) (leb 2 (length s)) (sym e ∙ h)
    where
      go : (x y : Bool) → (x && y) ≡ false → case_of (pick x (pick y (is the.skipped (length s)) (isnt 4 1)) (isnt 4 0)) ≡ none
      go true true w = absurd (let z : ◌≡◌ {A = ℕ} 0 1 = cc in omega arith)
      go true false w = refl
      go false y w = refl

case-none : {A B : Type 0} (m : Got A) (f : A → ℕ → Got B) → case_of m ≡ none → case_of (then m f) ≡ none
case-none (is a u) f e = absurd (let z : ◌≡◌ {A = ℕ} 0 1 = cc in omega arith)
case-none (isnt r p) f e = refl

case-shifted : {A B : Type 0} (w : ℕ) (g : A → B) (m : Got A) → case_of m ≡ none → case_of (shifted w g m) ≡ none
case-shifted w g (is a u) e = absurd (let z : ◌≡◌ {A = ℕ} 0 1 = cc in omega arith)
case-shifted w g (isnt r p) e = refl

module _ (w : ℕ) (s r : List ℕ) {t : Bool} (e : t ≡ (eqb (get_or s 0 0) 84 && leb 2 (length s))) where
  pub skip-1 : t ≡ false → None ≡ line_of (case_of (skipped_of w s r))
  unfolding skipped_of
  skip-1 h = sym (ap line_of (case-none (letter_and_more (λ x. eqb x 84) the.skipped s 0) _ (any-isnt s 84 e h)))

  module _ (h : t ≡ true) {u : Bool} (f : u ≡ (eqb (get_or r 0 0) 80 && leb 2 (length r))) where
    pub skip-2 : u ≡ false → None ≡ line_of (case_of (skipped_of w s r))
    unfolding skipped_of
    skip-2 g = rw (any-is s 84 e h) (sym (ap line_of (case-shifted w (λ b. b) (letter_and_more (λ x. eqb x 80) the.skipped r 0) (any-isnt r 80 f g))))

    pub skip-3 : u ≡ true → Some (record { body = Skipped; used = w + length r }) ≡ line_of (case_of (skipped_of w s r))
    unfolding skipped_of
    skip-3 g = rw (any-is s 84 e h, any-is r 80 f g)

pub ruleset skipping = (rules, any-1, any-2, skip-1, skip-2, skip-3)

-- `read_pair`
SkipOnly : Got the.Pair → Type 0
SkipOnly (is q u) = q ≡ the.skipped
SkipOnly (isnt r p) = Unit {0}

any-only : (s : List ℕ) (b : ℕ) → SkipOnly (letter_and_more (λ x. eqb x b) the.skipped s 0)
unfolding letter_and_more SkipOnly
any-only s b = go (eqb (get_or s 0 0) b) (leb 2 (length s))
  where
    go : (x y : Bool) → SkipOnly (pick x (pick y (is the.skipped (length s)) (isnt 4 1)) (isnt 4 0))
    go true true = refl
    go true false = tt
    go false y = tt

skip-only : (w : ℕ) (s r : List ℕ) → SkipOnly (skipped_of w s r)
unfolding skipped_of SkipOnly
skip-only w s r = go (letter_and_more (λ x. eqb x 84) the.skipped s 0)
  where
    to : (m : Got the.Pair) → SkipOnly m → SkipOnly (shifted w (λ b. b) m)
    to (is q u) h = h
    to (isnt x p) h = tt

    go : (m : Got the.Pair) → SkipOnly (then m (λ q used. shifted w (λ b. b) (letter_and_more (λ x. eqb x 80) the.skipped r 0)))
    go (is q u) = to (letter_and_more (λ x. eqb x 80) the.skipped r 0) (any-only r 80)
    go (isnt x p) = tt

-- where the placed form is none, the skipped one decides
or-skip : (m n : Got the.Pair) (b ms es xs b' ms' es' xs' : List ℕ) → case_of m ≡ none → SkipOnly n → PairIs (or_else m n) (line_of (case_of n)) b ms es xs b' ms' es' xs'
unfolding SkipOnly
or-skip (is q u) n b ms es xs b' ms' es' xs' e h = absurd (let z : ◌≡◌ {A = ℕ} 0 1 = cc in omega arith)
or-skip (isnt r p) (isnt r₂ p₂) b ms es xs b' ms' es' xs' e h = record { says = refl }
or-skip (isnt r p) (is q u) b ms es xs b' ms' es' xs' e h = record { says = record { pair = the.skipped; read = rw h; body_is = tt } }

module _ (f : Form) (w : ℕ) (s r : List ℕ) where
  to-skip : {o : Option PairLine} (b ms es xs b' ms' es' xs' : List ℕ) → o ≡ line_of (case_of (skipped_of w s r)) → case_of (placed_of f w s r) ≡ none → PairIs (pair_of f w s r) o b ms es xs b' ms' es' xs'
  unfolding pair_of
  to-skip b ms es xs b' ms' es' xs' e h = rw e (or-skip (placed_of f w s r) (skipped_of w s r) b ms es xs b' ms' es' xs' h (skip-only w s r))

  module _ {c : Result Content Halt} (e : told_content c ≡ counted_of (whole_content f s)) where
    pub pair-1 : {k : Halt} → c ≡ Err k → {o : Option PairLine} (b ms es xs b' ms' es' xs' : List ℕ) → o ≡ line_of (case_of (skipped_of w s r)) → PairIs (pair_of f w s r) o b ms es xs b' ms' es' xs'
    unfolding placed_of
    pair-1 {k} g b ms es xs b' ms' es' xs' i = to-skip b ms es xs b' ms' es' xs' i (rw (content-isnt (whole_content f s) (code k.reason) k.at (ap told_content (sym g) ∙ e)))

    module _ {y : Content} (g : c ≡ Ok y) {d : Result Relocation Halt} (h : told_relocation d ≡ numbered (relocation_line f r 0)) where
      pub pair-2 : {k : Halt} → d ≡ Err k → {o : Option PairLine} (b ms es xs b' ms' es' xs' : List ℕ) → o ≡ line_of (case_of (skipped_of w s r)) → PairIs (pair_of f w s r) o b ms es xs b' ms' es' xs'
      unfolding placed_of
      pair-2 {k} i b ms es xs b' ms' es' xs' j =
          to-skip b ms es xs b' ms' es' xs' j
          (rw (content-is (whole_content f s) (ap told_content (sym g) ∙ e), relocation-isnt (relocation_line f r 0) (code k.reason) k.at (ap told_relocation (sym i) ∙ h)))

      module _ {z : Relocation} (i : d ≡ Ok z) where
        pub pair_fits : w + length r < 2 ^ 64 → Fit64 w64 (w + z.used)
        pair_fits l = record { fits = omega (arith, inside) }
          where
            inside : z.used ≤ length r
            inside = subst (Holds (Upto r)) (relocation-is (relocation_line f r 0) (ap told_relocation (sym i) ∙ h)) (relocation-keeps f r 0 (omega arith))

        pub pair-3 : {b ms es xs b' ms' es' xs' : List ℕ} → b' ≡ sets b 0 (bytes_in (content_line f s 0)) → Rows (fragments_in (relocation_line f r 0)) ms es xs ms' es' xs'
            → PairIs (pair_of f w s r) (Some (record { body = Placed y.address y.count z.area z.count; used = w + z.used })) b ms es xs b' ms' es' xs'
        unfolding pair_of placed_of
        pair-3 {b} l o =
            let told = ap told_content (sym g) ∙ e in
            let m = content-is (whole_content f s) told in
            let q = relocation-is (relocation_line f r 0) (ap told_relocation (sym i) ∙ h) in
            let j : bytes_in (content_line f s 0) ≡ bytes_in (whole_content f s) = ap bytes_in (whole_is f s m) in
            record {
              says = record {
                pair = the.placed (record { address = y.address; bytes = bytes_in (whole_content f s) }) (record { area = z.area; fragments = fragments_in (relocation_line f r 0) });
                read = read m q;
                body_is = record {
                  address = refl;
                  count = content-count (whole_content f s) told;
                  area = refl;
                  fragments = relocation-count (relocation_line f r 0) (ap told_relocation (sym i) ∙ h);
                  bytes = l ∙ ap (sets b 0) j;
                  rows = o;
                };
              };
            }
          where
            read : {c : the.Content} {q : the.Relocation} → whole_content f s ≡ is c y.used → relocation_line f r 0 ≡ is q z.used → or_else (then (whole_content f s) (λ c used. shifted w (the.placed c) (relocation_line f r 0))) (skipped_of w s r) ≡ is (the.placed c q) (w + z.used)
            read a b = rw (a, b)

pub ruleset pairing = (rules, pair-1, pair-2, pair_fits, pair-3)

-- what is left in what was lent, whatever is answered
module _ {m : Got the.Content} (f : Form) (s r : List ℕ) {c : Result Content Halt} {b b' : List ℕ} (e : Contents (whole_content f s) m b c b') where
  pub left-1 : {k : Halt} → c ≡ Err k → (ms es xs : List ℕ) → Left m (whole_content f s) (relocation_line f r 0) b ms es xs b' ms es xs
  left-1 {k} g ms es xs = record {
    bytes = e.stored;
    rows = rw (content-isnt (whole_content f s) (code k.reason) k.at (ap told_content (sym g) ∙ e.answered)) (record { of-modes = refl; of-entries = refl; of-indexes = refl });
  }

  pub left-2 : {y : Content} → c ≡ Ok y → {d : Result Relocation Halt} {ms es xs ms' es' xs' : List ℕ} → Relocations (relocation_line f r 0) d ms es xs ms' es' xs'
      → Left m (whole_content f s) (relocation_line f r 0) b ms es xs b' ms' es' xs'
  left-2 g w = record {
    bytes = e.stored;
    rows = rw (content-is (whole_content f s) (ap told_content (sym g) ∙ e.answered)) w.stored;
  }

pub ruleset lefts = (rules, left-1, left-2)
