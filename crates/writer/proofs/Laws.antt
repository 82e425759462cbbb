-- The laws of the writer: rows that pass the tests and whose text is read are given back, and no others.
-- Assumes nothing.
use Prim.Native.Nat.{suc, zero, ℕ, ◌+◌, ◌-◌, ◌<◌, ◌^◌, ◌≤◌}
use mathlib.Core.Path.{◌≡◌, ap, refl, subst, sym, ◌∙◌}
use mathlib.Core.Bool.{Bool, false, false≢true, not, true}
use mathlib.Core.List.{List, [], ◌++◌, ◌∷◌}
use native.Mathlib.Omega.{arith}
use native.Mathlib.Nat.{zero-add}
use lib.ListN.{drop, get_or, length, length-replicate, replicate, take}
use lib.Seq.{length-sets, length-take-le, sets, sets-eq, take_at}
use lib.Dec.{leb}
use mir.Val.{Fits}
use mir.Syntax.{w32, w8}
use borrow.Author.Rules.{rules}
use borrow.Author.Tests.{le-leb, leb-false, leb-true}
use Rattle.format.specs.Lists.{over}
use Rattle.format.specs.Header.{Form}
use Rattle.format.specs.Reading.{Read}
use Rattle.laws.proofs.Outcomes.{unlike}
use Rattle.row_parts.specs.Parts.{part_of}
use Rattle.header.specs.Told.{more_of}
use Rattle.header.specs.declared.Width.{Width}
use Rattle.header.specs.declared.Width.TheVariants.{Four, Three, Two}
use Rattle.digits_out.specs.Wrote.{Wrote, capped, farthest}
use Rattle.digits_out.proofs.Laws.{place_in, place_out}
use Rattle.std.specs.Prelude.{Ok, Err}
use Rattle.answer.specs.declared.Refusal as answers
use Rattle.admission.specs.Admits.{Gate, GateIs, IsRead, Passes}
use Rattle.row_texts.specs.RowRecords.{Rows, lent, text_of}
use Rattle.row_texts.specs.GivesBack.{GivesBack}
use Rattle.row_texts.specs.GoodRows.{all, good_area, good_pairs, good_rows, good_symbols}
use Rattle.row_texts.proofs.Gives.{Tested, given_back, given-back-is-tested, read-is-short, tested}
use Rattle.rows_out.specs.RowsOut.{all_out}
use Rattle.rows_out.proofs.Same.{all-is-text}
use Rattle.written_answer.specs.Answer.{Answer, Tells, answer_of, bytes, held_of, refusal}
use Rattle.written_answer.proofs.Laws.{answered-15, answered-16, answered-bytes, held_bytes, kept-by-15, kept-by-16}
use Rattle.writer.specs.Writes.{Writes}
use Rattle.writer.specs.Lays.{Lays, LaysAll, Stands}

was-no : (b : Bool) → not b ≡ true → b ≡ false
was-no true h = sym h
was-no false h = refl

was-yes : (b : Bool) → not b ≡ false → b ≡ true
was-yes true h = refl
was-yes false h = sym h

-- `rows_good`
module _ (f : Form) (t a : List ℕ) (na : ℕ) (s : List ℕ) (ns : ℕ) (ps : List ℕ) (np : ℕ) (bs fs : List ℕ) {x : Bool} (e : x ≡ all (good_area t a) 0 na) where
  pub good-areas : not x ≡ true → false ≡ good_rows f (lent t a na s ns ps np bs fs)
  unfolding good_rows
  good-areas g = let z : all (good_area t a) 0 na ≡ false = sym e ∙ was-no x g in rw z

  module _ (g : not x ≡ false) {y : Bool} (d : y ≡ good_symbols t na s 0 0 ns) where
    pub good-symbols : not y ≡ true → false ≡ good_rows f (lent t a na s ns ps np bs fs)
    unfolding good_rows
    good-symbols h = let z : all (good_area t a) 0 na ≡ true = sym e ∙ was-yes x g in let v : good_symbols t na s 0 0 ns ≡ false = sym d ∙ was-no y h in rw (z, v)

    pub good-pairs : not y ≡ false → {r : Bool} → r ≡ good_pairs f.address_length ps np (length bs) fs → r ≡ good_rows f (lent t a na s ns ps np bs fs)
    unfolding good_rows
    good-pairs h w = let z : all (good_area t a) 0 na ≡ true = sym e ∙ was-yes x g in let v : good_symbols t na s 0 0 ns ≡ true = sym d ∙ was-yes y h in w ∙ rw (z, v)

pub ruleset testing = (rules, good-areas, good-symbols, good-pairs)

-- `lay`
over-is : (rows old : List ℕ) → length rows ≤ length old → sets old 0 rows ≡ over rows old
unfolding over
over-is rows old h = sets-eq rows old 0 (omega arith) ∙ ap (λ (n : ℕ). rows ++ drop n old) (zero-add (length rows))

module _ (own : List ℕ) (n : ℕ) (out : List ℕ) where
  pub lay-past : length own < n → Lays own n out (refusal 15 0) out
  lay-past h = record { gives = false; tells = λ s. let z : ⊥ = omega (arith, s.inside) in z; says = sym (answered-15 n out); held = sym (kept-by-15 n (take n own) out) }

  first_part : n ≤ length own → part_of own 0 n ≡ take n own
  unfolding part_of
  first_part h = let z : n ≤ length own - 0 = omega arith in rw (le-leb 0 (length own) (omega arith), le-leb n (length own - 0) z)

  module _ (h : n ≤ length own) {v : List ℕ} (e₀ : v ≡ part_of own 0 n) {g : Gate} (w₀ : GateIs v g) where
    w : GateIs (take n own) g
    w = subst (λ (l : List ℕ). GateIs l g) (e₀ ∙ first_part h) w₀

    pub lay-shut : {z : answers.Refusal} → g ≡ Err z → Lays own n out (refusal 15 0) out
    lay-shut {z} e = record { gives = false; tells = λ s. shut (rw e at w.passes) s; says = sym (answered-15 n out); held = sym (kept-by-15 n (take n own) out) }
      where
        shut : Passes (take n own) (Err z) → Stands own n → ⊥
        shut q s = unlike z.number z.place s.is_read.as_read (sym q ∙ s.is_read.is)

    module _ {u : Unit {0}} (e : g ≡ Ok u) where
      stands : Stands own n
      stands = record { inside = h; is_read = rw e at w.passes }

      pub lay-small : length out < n → Lays own n out (refusal 16 0) out
      lay-small l = record { gives = true; tells = stands; says = sym (answered-16 n out l); held = sym (kept-by-16 n out l (take n own)) }

      pub lay-full : n ≤ length out → {out' : List ℕ} → out' ≡ sets out 0 (take n own) → Lays own n out (bytes n) out'
      lay-full l {out'} q =
          let k : length (take n own) ≡ n = length-take-le n own h in
          let o : out' ≡ over (take n own) out = q ∙ over-is (take n own) out (omega arith) in
          record { gives = true; tells = stands; says = sym (answered-bytes n out l); held = o ∙ sym (held_bytes n out l (take n own)) }

pub ruleset laying = (rules, lay-past, lay-shut, lay-small, lay-full)

-- `write_with`
pub lays_all : {f : Form} {r : Rows} {own own₁ out out₁ : List ℕ} {n : ℕ} {a : Answer} → Wrote (all_out f r) own 0 n own₁ → Lays own₁ n out a out₁ → LaysAll f r own out a out₁
lays_all {f} {r} {own} {own₁} {out} {out₁} {n} w l = record { own' = own₁; n = n; wrote = w; lays = l }

pub ruleset writing = (rules, lays_all)

-- `write_module`
pub not_good : {f : Form} {r : Rows} (out : List ℕ) {b : Bool} → b ≡ good_rows f r → not b ≡ true → Writes f r out (refusal 15 0) out
not_good {f} {r} out {b} e g = record {
  gives = false;
  tells = λ x. false≢true (sym (was-no b g) ∙ (e ∙ given-back-is-tested f r x));
  says = sym (answered-15 (length (text_of f r)) out);
  held = sym (kept-by-15 (length (text_of f r)) (text_of f r) out);
}

low-width : (w : Width) → 2 ≤ suc (more_of w)
low-width Two = omega arith
low-width Three = omega arith
low-width Four = omega arith

high-width : (w : Width) → suc (more_of w) ≤ 4
high-width Two = omega arith
high-width Three = omega arith
high-width Four = omega arith

-- what was written into an array that has room for it
first-bytes : (own w : List ℕ) → length w ≤ length own → take (length w) (sets own 0 w) ≡ w
first-bytes own w h = rw (sets-eq w own 0 (omega arith)) (take_at w (drop (0 + length w) own) (length w) refl)

module _ (x : ℕ) (b : Bool) (v : Width) (r : Rows) where
  abbrev F : Form
  F = record { radix = x; big = b; address_length = suc (more_of v) }

  abbrev W : List ℕ
  W = text_of F r

  -- the text has room in the array
  short : (own : List ℕ) {out out₁ : List ℕ} {a : Answer} → Tested F r → length own ≡ 65536 → (n : ℕ) (own₁ : List ℕ) → n ≡ length W → own₁ ≡ sets own 0 W → length W ≤ 65536 → Lays own₁ n out a out₁ → Writes F r out a out₁
  short own {out} {out₁} {a} t l n own₁ en eo h y =
      let same : take n own₁ ≡ W = ap (λ (k : ℕ). take k own₁) en ∙ (ap (take (length W)) eo ∙ first-bytes own W (omega arith)) in
      let long : length own₁ ≡ 65536 = ap length eo ∙ (length-sets own 0 W ∙ l) in
      record {
        gives = y.gives;
        tells = go y.gives same (omega arith) y.tells;
        says = y.says ∙ ap (λ (k : ℕ). answer_of y.gives k out) en;
        held = y.held ∙ (ap (λ (k : ℕ). held_of y.gives k (take n own₁) out) en ∙ ap (λ (z : List ℕ). held_of y.gives (length W) z out) same);
      }
    where
      go : (g : Bool) → take n own₁ ≡ W → n ≤ length own₁ → Tells g (Stands own₁ n) → Tells g (GivesBack F r)
      go true e i s = let k : IsRead W = subst IsRead e s.is_read in given_back F r t k.as_read k.is
      go false e i s = λ g. s (record { inside = i; is_read = subst IsRead (sym e) (record { as_read = g.again; is = g.accepted }) })

  -- it has none
  far : (n : ℕ) → n ≡ capped (0 + length W) → 65536 < length W → 65536 < n
  far n e h = go (leb (0 + length W) farthest) refl
    where
      go : (t : Bool) → leb (0 + length W) farthest ≡ t → 65536 < n
      go true k = let q = place_in (0 + length W) (leb-true (0 + length W) farthest k) in omega (arith, e, q)
      go false k = let q = place_out (0 + length W) (leb-false (0 + length W) farthest k) in omega (arith, e, q)

  too_long : {out out₁ : List ℕ} {a : Answer} (n : ℕ) (own₁ : List ℕ) → 65536 < n → length own₁ ≡ 65536 → 65536 < length W → Lays own₁ n out a out₁ → Writes F r out a out₁
  unfolding answer_of held_of
  too_long {out} {out₁} {a} n own₁ k l h y = go y.gives y.tells y.says y.held
    where
      go : (g : Bool) → Tells g (Stands own₁ n) → a ≡ answer_of g n out → out₁ ≡ held_of g n (take n own₁) out → Writes F r out a out₁
      go true s e f = let z : ⊥ = omega (arith, s.inside) in absurd z
      go false s e f = record { gives = false; tells = λ g. let z : ⊥ = omega (arith, read-is-short F r g.again g.accepted) in z; says = e; held = f }

  by_length : {own out out₁ : List ℕ} {a : Answer} → Tested F r → length own ≡ 65536 → LaysAll F r own out a out₁ → Writes F r out a out₁
  by_length {own} {out} {out₁} {a} t l y = go (leb (length W) 65536) refl
    where
      go : (k : Bool) → leb (length W) 65536 ≡ k → Writes F r out a out₁
      go k e =
          let same : all_out F r ≡ W = all-is-text x b v r t.good in
          let place : y.n ≡ capped (0 + length W) = y.wrote.place ∙ ap (λ (z : List ℕ). capped (0 + length z)) same in
          let stored : y.own' ≡ sets own 0 W = y.wrote.stored ∙ ap (sets own 0) same in
          by k e place stored
        where
          by : (k : Bool) → leb (length W) 65536 ≡ k → y.n ≡ capped (0 + length W) → y.own' ≡ sets own 0 W → Writes F r out a out₁
          by true e p q =
              let i = leb-true (length W) 65536 e in
              short own t l y.n y.own' (p ∙ (place_in (0 + length W) (omega arith) ∙ zero-add (length W))) q i y.lays
          by false e p q =
              let i = leb-false (length W) 65536 e in
              too_long y.n y.own' (far y.n p i) (ap length q ∙ (length-sets own 0 W ∙ l)) i y.lays

  pub good-writes : {out out₁ : List ℕ} {a : Answer} {g : Bool} → ((i : ℕ) → Fits w32 (get_or r.areas i 0)) → ((i : ℕ) → Fits w32 (get_or r.symbols i 0)) → ((i : ℕ) → Fits w8 (get_or r.content i 0)) → g ≡ good_rows F r → not g ≡ false
      → LaysAll F r (replicate 65536 0) out a out₁ → Writes F r out a out₁
  good-writes {out} {out₁} {a} {g} sa ss sb e h y = by_length (tested F r (low-width v) (high-width v) (λ i. (sa i).fits) (λ i. (ss i).fits) (λ i. (sb i).fits) (sym e ∙ was-yes g h)) (length-replicate {A = ℕ} 65536 0) y

pub ruleset modules = (rules, not_good, good-writes)
