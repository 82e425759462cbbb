-- The laws of the records of a text, and that their contract leaves no choice.
-- Assumes nothing.
use Prim.Native.Nat.{ℕ, suc, ◌+◌, ◌^◌, ◌≤◌}
use mathlib.Core.Path.{◌≡◌, ap, refl, subst, sym, ◌∙◌}
use mathlib.Core.Bool.{Bool, false, not, true}
use mathlib.Core.List.{List, [], ◌++◌, ◌∷◌}
use mathlib.Core.Option.{some}
use native.Mathlib.Omega.{arith}
use lib.ListN.{drop, length, length-drop}
use lib.Seq.{sets}
use lib.Dec.{leb}
use mir.Val.{Fits}
use mir.Syntax.{w64}
use borrow.Author.Rules.{rules}
use borrow.Author.Tests.{leb-true}
use Rattle.format.specs.Lists.{over, pick}
use Rattle.format.specs.Header.{Form, Head, header}
use Rattle.format.specs.Lines.{end_length, lines, lines_of}
use Rattle.format.specs.Outcome.{Outcome, and_then, fine, fold, refused}
use Rattle.format.specs.Pairs as the
use Rattle.format.specs.Records.{Parsed, Taken, records}
use Rattle.format.specs.Tables.{counted, fits, fits_body}
use Rattle.format.specs.Reading.{Read, read}
use Rattle.laws.specs.Places.{pairs_at, records_at}
use Rattle.laws.proofs.Opened.{Opened, opened, opens}
use Rattle.laws.proofs.Outcomes.{chain, passed}
use Rattle.header.specs.Told.{form_of, told_head}
use Rattle.header.specs.declared.Form as text
use Rattle.header.specs.declared.Head as code
use Rattle.header.specs.declared.Head.TheVariants.{Found, Missing}
use Rattle.scan.proofs.Laws.Tests.{was-no, was-yes}
use Rattle.steps.proofs.Entries.{end-within}
use Rattle.steps.proofs.Stored.{laid}
use Rattle.record_rows.specs.RecordRows.{all_fragments, content_bytes, fragment_rows, pair_count, pair_rows}
use Rattle.record_rows.specs.ReadPairs as paper
use Rattle.record_rows.proofs.Roomy.{rows_fit}
use Rattle.any_radix.specs.ReadAny.{read_any}
use Rattle.any_radix.specs.PairsAny.{PairsMeetAny, read_pairs_any}
use Rattle.any_radix.proofs.Agrees.{accepted-is-read}
use Rattle.any_radix.proofs.Bounds.{WasReadAny, few-records-of-any-radix, short-of-any-radix, what-was-read-of-any-radix}
use Rattle.std.specs.Prelude.{Ok, Err}
use Rattle.answer.specs.declared.Refusal.{Refusal}
use Rattle.admission.specs.Admits.{Gate, GateIs, GateIsAny, IsRead, IsReadAny}
use Rattle.pair_rows.specs.Rows.{held, room_for}
use Rattle.pairs_answer.specs.Told.{PairsAnswer, told, told_counts, unlaid}
use Rattle.pairs_answer.proofs.Laws.{told-injective}
use Rattle.records.specs.Storing.{Stored}
use Rattle.records.specs.Walking.{EachFits, Fitting, Laid, PairFits, TwoAt}
use Rattle.pair_rows.specs.declared.PairCounts.{PairCounts}

-- a refusal of its own
abbrev refused_at : (number place : ℕ) → PairsAnswer
refused_at n p = Err (record { number = n; place = p })

-- every pair of a text that is read fits
fits_one : (m place k : ℕ) (q : the.Pair) → fits_body m place q ≡ fine k → PairFits q
fits_one m place k the.skipped e = tt
fits_one m place k (the.placed c r) e =
    let one = passed (leb (length c.bytes) 256) _ 7 place k e in
    let two = passed (leb (length r.fragments) 64) _ 8 place k one.1 in
    (leb-true (length c.bytes) 256 one.0, leb-true (length r.fragments) 64 two.0)

each_fits : (m n : ℕ) (ps : List (Taken the.Pair)) → fold fits m ps ≡ fine n → EachFits ps
unfolding fold fits
each_fits m n [] e = tt
each_fits m n (p ∷ ps) e =
    let k = chain (fits m p) (λ k. fold fits k ps) n e in
    (fits_one m p.place k.value p.body k.first, each_fits k.value n ps k.second)

-- what an accepted text opens with
module _ (s : List ℕ) (w : IsReadAny s) where
  was : WasReadAny paper.roomy s w.as_read
  was = what-was-read-of-any-radix paper.roomy s w.as_read w.is

  abbrev pairs_of : List (Taken the.Pair)
  pairs_of = w.as_read.parsed.records.pairs

  pub short : length s ≤ 65536
  short = short-of-any-radix paper.roomy s w.as_read w.is

  opening : Opened s w.as_read.parsed
  opening = opens s w.as_read.parsed was.parses

  all_fit : Fitting pairs_of
  unfolding counted
  all_fit = record { each = each_fits 0 w.as_read.built.lines pairs_of was.counts }

  laid_so : (ps bs fs ps' bs' fs' : List ℕ) (c : PairCounts) → paper.pairs_room (held ps bs fs) ≡ true → Stored pairs_of (held ps bs fs) c (held ps' bs' fs') → Laid s (held ps bs fs) (Ok c) (held ps' bs' fs')
  unfolding paper.counts_of paper.rows_of over
  laid_so ps bs fs ps' bs' fs' c room v =
      let fit = rows_fit (held ps bs fs) pairs_of room (few-records-of-any-radix paper.roomy s w.as_read w.is) in
      let says : paper.accepted (told_counts c) ≡ paper.accepted (paper.counts_of pairs_of) = λ i. paper.accepted (record { pairs = v.pair-count i; content = v.content-count i; fragments = v.fragment-count i }) in
      let lies : held ps' bs' fs' ≡ paper.laid_over (paper.rows_of pairs_of) (held ps bs fs) = λ i. record {
        pairs = (v.pairs ∙ laid (pair_rows 0 0 pairs_of) ps fit.pairs) i;
        content = (v.content ∙ laid (content_bytes pairs_of) bs fit.content) i;
        fragments = (v.fragments ∙ laid (fragment_rows pairs_of) fs fit.fragments) i;
      } in
      record {
        says = says ∙ ap (λ (o : Outcome Read). (paper.pairs_from o).answer) (sym w.is);
        held = lies ∙ ap (λ (o : Outcome Read). paper.laid_over (paper.pairs_from o).rows (held ps bs fs)) (sym w.is);
      }

  -- `lay_text`
  module _ {h : code.Head} (e : told_head h ≡ header s) where
    pub has-header : h ≡ Missing → (old : paper.HeldPairs) → Laid s old (refused_at 4 0) old
    has-header g old = absurd (let m : told_head Missing ≡ some opening.h = ap told_head (sym g) ∙ (e ∙ opening.is-head) in let z : ◌≡◌ {A = ℕ} 0 1 = cc in omega arith)

    module _ {f : text.Form} {n : ℕ} (g : h ≡ Found f n) where
      head-is : record { form = form_of f; next = n } ≡ opening.h
      head-is = let m : some (record { form = form_of f; next = n }) ≡ some opening.h = ap told_head (sym g) ∙ (e ∙ opening.is-head) in cc

      module _ {k : ℕ} (i : k ≡ end_length (drop n s)) where
        end_is : k ≡ suc opening.e
        end_is = i ∙ (ap (λ (x : Head). end_length (drop x.next s)) head-is ∙ opening.is-end)

        pub behind-header : n + k ≤ length s
        behind-header = omega (arith, end_is, i, end-within (drop n s), length-drop n s)

        pub behind-fits : Fits w64 (n + k)
        behind-fits = record { fits = omega (arith, behind-header, short) }

        records-are : (records_at true (form_of f) s (n + k)).pairs ≡ pairs_of
        unfolding records_at lines_of opened
        records-are =
            ap (λ (m : ℕ). (records true (form_of f) (n + m) (lines (drop (n + m) s))).pairs) end_is
            ∙ (ap (λ (x : Head). (records true x.form (x.next + suc opening.e) (lines (drop (x.next + suc opening.e) s))).pairs) head-is
            ∙ ap (λ (x : Parsed). x.records.pairs) opening.same)

        module _ {p : ℕ} (t : TwoAt (form_of f) s (n + k) p) where
          two_is : pairs_at true (form_of f) s p ≡ pairs_of
          two_is = sym t.two ∙ records-are

          pub two-inside : p ≤ length s
          two-inside = t.inside

          pub two-fit : Fitting (pairs_at true (form_of f) s p)
          two-fit = subst (λ (ps : List (Taken the.Pair)). Fitting ps) (sym two_is) all_fit

          pub text-laid : {ps bs fs ps' bs' fs' : List ℕ} {c : PairCounts} → paper.pairs_room (held ps bs fs) ≡ true → Stored (pairs_at true (form_of f) s p) (held ps bs fs) c (held ps' bs' fs')
              → Laid s (held ps bs fs) (Ok c) (held ps' bs' fs')
          text-laid {ps} {bs} {fs} {ps'} {bs'} {fs'} {c} room v =
              laid_so ps bs fs ps' bs' fs' c room (subst (λ (l : List (Taken the.Pair)). Stored l (held ps bs fs) c (held ps' bs' fs')) two_is v)

pub ruleset laying = (rules, short, has-header, behind-header, behind-fits, two-inside, two-fit, text-laid)

-- `read_pairs` and `read_any_pairs`
module _ (s ps bs fs : List ℕ) {r : Bool} (e : r ≡ room_for (length ps) (length bs) (length fs)) where
  room-is : paper.pairs_room (held ps bs fs) ≡ r
  unfolding paper.pairs_room room_for
  room-is = sym e

  module _ (h : not r ≡ true) where
    no_room : paper.pairs_room (held ps bs fs) ≡ false
    no_room = room-is ∙ was-no r h

    pub pairs-1 : paper.PairsMeet s (held ps bs fs) (told (refused_at 1 0)) (held ps bs fs)
    unfolding paper.read_pairs over
    pairs-1 = record { says = rw no_room; held = rw no_room }

    pub any-pairs-1 : PairsMeetAny s (held ps bs fs) (told (refused_at 1 0)) (held ps bs fs)
    unfolding read_pairs_any over
    any-pairs-1 = record { says = rw no_room; held = rw no_room }

  module _ (h : not r ≡ false) where
    pub pairs-room : paper.pairs_room (held ps bs fs) ≡ true
    pairs-room = room-is ∙ was-yes r h

    -- what the ended reading accepts is read alike
    pub pairs-laid : IsRead s → {a : PairsAnswer} {new : paper.HeldPairs} → Laid s (held ps bs fs) a new → paper.PairsMeet s (held ps bs fs) (told a) new
    unfolding paper.read_pairs
    pairs-laid i w =
        let k : read_any paper.roomy s ≡ read true paper.roomy s = accepted-is-read paper.roomy s i.as_read i.is ∙ sym i.is in
        record {
          says = rw pairs-room (w.says ∙ ap (λ (o : Outcome Read). (paper.pairs_from o).answer) k);
          held = rw pairs-room (w.held ∙ ap (λ (o : Outcome Read). paper.laid_over (paper.pairs_from o).rows (held ps bs fs)) k);
        }

    pub any-pairs-laid : {a : PairsAnswer} {new : paper.HeldPairs} → Laid s (held ps bs fs) a new → PairsMeetAny s (held ps bs fs) (told a) new
    unfolding read_pairs_any
    any-pairs-laid w = record { says = rw pairs-room w.says; held = rw pairs-room w.held }

    module _ {g : Gate} {z : Refusal} (i : g ≡ Err z) {a : PairsAnswer} (j : a ≡ unlaid g) where
      refused-so : a ≡ Err z
      unfolding unlaid
      refused-so = j ∙ ap unlaid i

      pub pairs-shut : GateIs s g → paper.PairsMeet s (held ps bs fs) (told a) (held ps bs fs)
      unfolding paper.read_pairs over
      pairs-shut w =
          let k : read true paper.roomy s ≡ refused z.number z.place = rw i at w.passes in
          rw refused-so (record { says = rw (pairs-room, k); held = rw (pairs-room, k) })

      pub any-pairs-shut : GateIsAny s g → PairsMeetAny s (held ps bs fs) (told a) (held ps bs fs)
      unfolding read_pairs_any over
      any-pairs-shut w =
          let k : read_any paper.roomy s ≡ refused z.number z.place = rw i at w.passes in
          rw refused-so (record { says = rw (pairs-room, k); held = rw (pairs-room, k) })

pub is_read : {s : List ℕ} {g : Gate} → GateIs s g → {u : Unit {0}} → g ≡ Ok u → IsRead s
is_read w i = rw i at w.passes

pub is-read-too : {s : List ℕ} {g : Gate} → GateIs s g → {u : Unit {0}} → g ≡ Ok u → IsReadAny s
is-read-too {s} w {u} i = let k = is_read w i in record { as_read = k.as_read; is = accepted-is-read paper.roomy s k.as_read k.is }

pub any-is-read : {s : List ℕ} {g : Gate} → GateIsAny s g → {u : Unit {0}} → g ≡ Ok u → IsReadAny s
any-is-read w i = rw i at w.passes

pub ruleset reading-pairs = (rules, pairs-1, pairs-room, pairs-laid, pairs-shut, is_read, is-read-too)

pub ruleset reading-any-pairs = (rules, any-pairs-1, pairs-room, any-pairs-laid, any-pairs-shut, any-is-read)

-- at most one answer and one content of each buffer meet the contract
pub no-second-pairs : (s : List ℕ) (old : paper.HeldPairs) (x y : PairsAnswer) (n₁ n₂ : paper.HeldPairs) → paper.PairsMeet s old (told x) n₁ → paper.PairsMeet s old (told y) n₂ → (x ≡ y) × (n₁ ≡ n₂)
no-second-pairs s old x y n₁ n₂ p q = (told-injective x y (p.says ∙ sym q.says), p.held ∙ sym q.held)

pub no-second-pairs-of-any-radix : (s : List ℕ) (old : paper.HeldPairs) (x y : PairsAnswer) (n₁ n₂ : paper.HeldPairs) → PairsMeetAny s old (told x) n₁ → PairsMeetAny s old (told y) n₂ → (x ≡ y) × (n₁ ≡ n₂)
no-second-pairs-of-any-radix s old x y n₁ n₂ p q = (told-injective x y (p.says ∙ sym q.says), p.held ∙ sym q.held)
