-- What the proof of the loop over the pairs cites: its invariant, and a law for each return.
-- Assumes nothing.
use Prim.Native.Nat.{ℕ, zero, suc, ◌+◌, ◌-◌, ◌*◌, ◌≤◌, ◌<◌}
use mathlib.Core.Path.{◌≡◌, refl, ap, sym, ◌∙◌}
use mathlib.Core.Bool.{Bool, true, false, false≢true}
use mathlib.Core.List.{List}
use mathlib.Core.Option.{Option, none, some}
use native.Mathlib.Omega.{arith}
use lib.ListN.{length, get_or, take}
use lib.Seq.{take_all}
use borrow.Author.Rules.{rules}
use Rattle.format.specs.Header.{Form}
use Rattle.format.specs.Outcome.{Outcome, fine}
use Rattle.format.specs.Pairs.{Content, Pair, Relocation, placed}
use Rattle.format.specs.Placing.{extent}
use Rattle.format.specs.Records.{Taken}
use Rattle.format.specs.Tables.{Tables, offset}
use Rattle.order.specs.Writes.{Cell, cell_at, writes}
use Rattle.homes.specs.declared.Home.{Home}
use Rattle.last_writer.specs.LastWriter.{Found, first_of, first_writer, found_by, found_in, last_writer}
use Rattle.last_writer.proofs.Seek.{seek-pair, seek-no-pair}
use Rattle.one_cell.specs.Cell.{Left}
use Rattle.one_cell.specs.Cell as cells
use Rattle.one_cell.specs.declared.Cell as code
use Rattle.one_cell.specs.declared.Cell.TheVariants.{Byte, Nothing, Beyond, Misfit}
use Rattle.record_rows.specs.RecordRows.{pair_columns}
use Rattle.position_answer.specs.declared.Explained.{Explained}
use Rattle.position_answer.specs.declared.Explained.TheVariants.{Unwritten, Wrote}
use Rattle.one_position.specs.Pair.{left_of, Asked, Sound, Stands, Tells}
use Rattle.one_position.specs.Back.{is_byte, found_of, no_pair, RowIs, RowsAre, LastIs}
use Rattle.position_answer.specs.Answer.{told}
use Rattle.one_position.proofs.PairLaws.{the-place}

-- no pair from the k-th on writes the position
pub record Backing (pairs content fragments : List ℕ) (n : ℕ) (big : Bool) (width : ℕ) (h : Home) (want k : ℕ) : Type 0 where
  pub inside : k ≤ n
  pub rest : (fm : Form) (t : Tables) (a : ℕ) (qs : List (Taken Pair)) → Asked fm t a big width h → RowsAre fm t pairs content fragments n qs → want < extent t.areas a
      → last_writer fm t qs (offset t.areas a + want) ≡ last_writer fm t (take k qs) (offset t.areas a + want)

module _ (pairs content fragments : List ℕ) (n : ℕ) (big : Bool) (width : ℕ) (h : Home) (want : ℕ) where
  pub back_start : Backing pairs content fragments n big width h want n
  back_start = record {
    inside = omega arith;
    rest = λ fm t a qs q w l. ap (λ (ps : List (Taken Pair)). last_writer fm t ps (offset t.areas a + want)) (sym (take_all n qs (omega (arith, w.many))));
  }

-- what a cell says of what was found
found-by : (fm : Form) (t : Tables) (place : ℕ) (c : Content) (r : Relocation) (i : ℕ) (x : code.Cell)
    → cells.told place x ≡ some (fine (left_of (cell_at (writes fm t (record { place = place; end = 0; body = placed c r })) i)))
    → (is_byte x ≡ true → told (found_of x place) ≡ fine (found_by fm t (record { place = place; end = 0; body = placed c r }) i))
    × (is_byte x ≡ false → found_by fm t (record { place = place; end = 0; body = placed c r }) i ≡ none)
unfolding found_by
found-by fm t place c r i x e = go x (cell_at (writes fm t (record { place = place; end = 0; body = placed c r })) i) e
  where
    go : (y : code.Cell) (o : Option Cell) → cells.told place y ≡ some (fine (left_of o)) → (is_byte y ≡ true → told (found_of y place) ≡ fine (found_in place o)) × (is_byte y ≡ false → found_in place o ≡ none)
    go (Byte v m) none f = (λ b. let z : ◌≡◌ {A = ℕ} 0 1 = cc in absurd (omega arith), λ b. refl)
    go (Byte v m) (some d) f =
        let same : ◌≡◌ {A = Left} (record { value = v; mask = m }) (record { value = d.value; mask = d.mask }) = cc in
        let ev : v ≡ d.value = ap (λ (x : Left). x.value) same in
        let em : m ≡ d.mask = ap (λ (x : Left). x.mask) same in
        (λ b. rw (ev, em), λ b. absurd (false≢true (sym b)))
    go Nothing none f = (λ b. absurd (false≢true b), λ b. refl)
    go Nothing (some d) f = (λ b. absurd (false≢true b), λ b. let z : ◌≡◌ {A = ℕ} 0 1 = cc in absurd (omega arith))
    go Beyond o f = (λ b. absurd (false≢true b), λ b. let z : ◌≡◌ {A = ℕ} 0 1 = cc in absurd (omega arith))
    go Misfit o f = (λ b. absurd (false≢true b), λ b. let z : ◌≡◌ {A = ℕ} 0 1 = cc in absurd (omega arith))

-- what was found goes before what would follow
comes-first : (x : code.Cell) (v : ℕ) → is_byte x ≡ true → (o rest : Option Found) → told (found_of x v) ≡ fine o → told (found_of x v) ≡ fine (first_of o rest)
comes-first (Byte u m) v b none rest e = let z : ◌≡◌ {A = ℕ} 0 1 = cc in absurd (omega arith)
comes-first (Byte u m) v b (some a) rest e = e
comes-first Nothing v b o rest e = absurd (false≢true b)
comes-first Beyond v b o rest e = absurd (false≢true b)
comes-first Misfit v b o rest e = absurd (false≢true b)

module _ {pairs content fragments : List ℕ} {n : ℕ} {big : Bool} {width : ℕ} {h : Home} {want k : ℕ} (w : Backing pairs content fragments n big width h want k) where
  pub back_end : k ≤ 0 → LastIs pairs content fragments n big width h want Unwritten
  back_end z = record {
    last = λ fm t a qs q r l.
        let e : k ≡ 0 = omega arith in
        ap (λ (o : Option Found). fine o) (sym (w.rest fm t a qs q r l ∙ (ap (λ (j : ℕ). last_writer fm t (take j qs) (offset t.areas a + want)) e ∙ seek-no-pair fm t (offset t.areas a + want))));
  }

  pub back_low : 0 < k → n ≤ 4096 → 7 * (k - 1) ≤ 28672
  back_low z m = omega (arith, w.inside)

  module _ (z : 0 < k) {c : code.Cell} (x : Tells pairs content fragments (7 * (k - 1)) big width h want c) {b : Bool} (eb : b ≡ is_byte c) where
    -- the pair before the k-th, asked before those in front of it
    step : (fm : Form) (t : Tables) (a : ℕ) (qs : List (Taken Pair)) → Asked fm t a big width h → RowsAre fm t pairs content fragments n qs → want < extent t.areas a
        → last_writer fm t qs (offset t.areas a + want) ≡ first_of (found_by fm t (get_or qs (k - 1) no_pair) (offset t.areas a + want)) (last_writer fm t (take (k - 1) qs) (offset t.areas a + want))
    step fm t a qs q r l =
        let e : k ≡ suc (k - 1) = omega arith in
        w.rest fm t a qs q r l ∙ (ap (λ (m : ℕ). last_writer fm t (take m qs) (offset t.areas a + want)) e ∙ seek-pair fm t qs (k - 1) (offset t.areas a + want) no_pair (omega (arith, w.inside, r.many)))

    asked : (fm : Form) (t : Tables) (a : ℕ) (qs : List (Taken Pair)) → Asked fm t a big width h → (r : RowIs fm t pairs content fragments qs (k - 1)) → want < extent t.areas a
        → (is_byte c ≡ true → told (found_of c (get_or pairs (7 * (k - 1)) 0)) ≡ fine (found_by fm t (get_or qs (k - 1) no_pair) (offset t.areas a + want)))
        × (is_byte c ≡ false → found_by fm t (get_or qs (k - 1) no_pair) (offset t.areas a + want) ≡ none)
    asked fm t a qs q r l =
        let s : Stands pairs content fragments (7 * (k - 1)) r.place r.content-is r.relocation = r.stands in
        rw (r.is, the-place s) (found-by fm t r.place r.content-is r.relocation (offset t.areas a + want) c (x.tells fm t a r.place r.content-is r.relocation q s r.sound l))

    pub back_found : b ≡ true → {v : ℕ} → v ≡ get_or pairs (7 * (k - 1)) 0 → {s : Explained} → s ≡ found_of c v → LastIs pairs content fragments n big width h want s
    back_found f ev es = record {
      last = λ fm t a qs q r l.
          let g = asked fm t a qs q (r.each (k - 1) (omega (arith, w.inside))) l in
          rw (es, ev, step fm t a qs q r l) (comes-first c (get_or pairs (7 * (k - 1)) 0) (sym eb ∙ f) _ _ (g.0 (sym eb ∙ f)));
    }

    pub back_on : b ≡ false → Backing pairs content fragments n big width h want (k - 1)
    back_on f = record {
      inside = omega (arith, w.inside);
      rest = λ fm t a qs q r l.
          let g = asked fm t a qs q (r.each (k - 1) (omega (arith, w.inside))) l in
          step fm t a qs q r l ∙ rw (g.1 (sym eb ∙ f));
    }

-- `found`
pub found-byte : {c : code.Cell} {v m : ℕ} (p : ℕ) → c ≡ Byte v m → Wrote v m p ≡ found_of c p
found-byte p g = rw g

pub ruleset finding = (rules, found-byte)

pub ruleset backing = (rules, back_start, back_end, back_low, back_found, back_on)
