-- The list is empty exactly if nothing differs; a text against itself gives none.
-- Assumes nothing.
use Prim.Native.Nat.{suc, zero, ℕ, ◌*◌}
use mathlib.Core.Path.{◌≡◌, refl, ap, sym, ◌∙◌, subst}
use mathlib.Core.Bool.{Bool, true, false}
use mathlib.Core.Logic.{◌↔◌}
use mathlib.Core.List.{List, [], ◌∷◌, map}
use lib.ListN.{length}
use lib.Dec.{leb, leb-zero}
use native.Mathlib.Omega.{arith}
use Rattle.format.specs.Lists.{flat, over, pick}
use Rattle.format.specs.Outcome.{fine}
use Rattle.format.specs.Records.{Parsed, finished, verdict}
use Rattle.format.specs.Tables.{counted, kept_count, room, tables}
use Rattle.format.specs.Fixups.{Fixup}
use Rattle.format.specs.Placing.{placing}
use Rattle.format.specs.Reading.{Lent, Read, allowed, build, fixups_of, headed, read, read_of}
use Rattle.laws.proofs.Outcomes.{chain}
use Rattle.laws.proofs.Room.{sized-placing}
use Rattle.difference.specs.Module.{Cell, Module, cells, first, images, sizes, split, symbols_of}
use Rattle.difference.specs.Changes.{Change, area_change, changes, newer, older, paired, symbol_changes}
use Rattle.difference.specs.Rows.{change_columns, change_numbers}
use Rattle.difference.specs.Same.{Same, SameFixup, Whole}
use Rattle.difference.specs.Told.{Listed, compare, compared, listed, module_of, refusal, told}
use Rattle.difference.proofs.Lists.{append-none}
use Rattle.difference.proofs.Images.{area-none, cells-length, cells-masks, cells-values, no-area, sizes-count, split-count, split_parts, total-sum}
use Rattle.difference.proofs.Fixups.{by_home, lacks-none, none-lacks}
use Rattle.difference.proofs.Symbols.{first-value, no_symbol, symbol-none}

module _ (a b : Module) where
  -- nothing differs, so no row
  pub same_none : Same a b → changes a b ≡ []
  unfolding changes images symbols_of
  same_none h =
      let i : images b ≡ images a =
      ap (λ (z : List ℕ). split z (cells b.values b.masks)) (sym h.areas)
      ∙ (ap (λ (v : List ℕ). split (sizes a.areas) (cells v b.masks)) (sym h.values)
      ∙ ap (λ (m : List ℕ). split (sizes a.areas) (cells a.values m)) (sym h.masks)) in
      let p : paired (area_change a b) 0 (images a) (images b) ≡ [] =
      ap (paired (area_change a b) 0 (images a)) i
      ∙ area-none a b (none-lacks older a b h.fixups) (none-lacks newer b a h.fixups-back) 0 (images a) in
      let q : symbol_changes (symbols_of a) (symbols_of b) ≡ [] =
      symbol-none (symbols_of a) (symbols_of b)
      (λ n. first-value a.text n 0 a.symbols ∙ (h.symbols n ∙ sym (first-value b.text n 0 b.symbols))) in
      rw (p, q)

  -- no row, so nothing differs
  pub none-same : Whole a → Whole b → changes a b ≡ [] → Same a b
  unfolding changes images symbols_of
  none-same wa wb h =
      let k = append-none (paired (area_change a b) 0 (images a) (images b)) (symbol_changes (symbols_of a) (symbols_of b)) h in
      let r = no-area a b 0 (images a) (images b) k.0 in
      let va = a.values in
      let ma = a.masks in
      let vb = b.values in
      let mb = b.masks in
      let ea : length va ≡ length ma = wa.values ∙ sym wa.masks in
      let eb : length vb ≡ length mb = wb.values ∙ sym wb.masks in
      let parts =
      split_parts (sizes a.areas) (sizes b.areas) (cells va ma) (cells vb mb)
      (cells-length va ma ea ∙ (wa.values ∙ total-sum a.areas)) (cells-length vb mb eb ∙ (wb.values ∙ total-sum b.areas))
      r.equal in
      let na : length (images a) ≡ kept_count a.areas =
      split-count (sizes a.areas) (cells va ma) ∙ sizes-count a.areas in
      let nb : kept_count b.areas ≡ kept_count a.areas =
      sym (sizes-count b.areas) ∙ (ap length (sym parts.sizes) ∙ sizes-count a.areas) in
      record {
        areas = parts.sizes;
        values = sym (cells-values va ma ea) ∙ (ap (map (λ (c : Cell). c.value)) parts.whole ∙ cells-values vb mb eb);
        masks = sym (cells-masks va ma ea) ∙ (ap (map (λ (c : Cell). c.mask)) parts.whole ∙ cells-masks vb mb eb);
        fixups = lacks-none older a b (kept_count a.areas) wa.fixups (λ id u. r.older-has id (omega arith) (omega (arith, na, u)));
        fixups-back = lacks-none newer b a (kept_count a.areas) (λ x m. rw nb at (wb.fixups x m)) (λ id u. r.newer-has id (omega arith) (omega (arith, na, u)));
        symbols = λ n. sym (first-value a.text n 0 a.symbols)
            ∙ (no_symbol (symbols_of a) (symbols_of b) k.1 n ∙ first-value b.text n 0 b.symbols);
      }

-- what is read is whole
whole-built : (text : List ℕ) (p : Parsed) (w : Read) → read_of p ≡ fine w → Whole (module_of text w)
unfolding read_of build fixups_of
whole-built text p w q =
    let zero' = chain (build p.form p.records) _ w q in
    let one = chain (tables p.records.entries) _ zero'.value zero'.first in
    let two = chain (counted p.records.pairs) _ zero'.value one.second in
    let three = chain (room one.value) _ zero'.value two.second in
    let four = chain (placing p.form one.value p.records.pairs) _ zero'.value three.second in
    let same : record { parsed = p; built = record { tables = one.value; lines = two.value; size = three.value; state = four.value } } ≡ w =
    cc (four.second, zero'.second) in
    let sized = sized-placing p.form one.value p.records.pairs four.value four.first in
    subst (λ (v : Read). Whole (module_of text v)) same (record { values = sized.values; masks = sized.masks; fixups = λ x m. omega (arith, by_home (kept_count one.value.areas) 0 four.value.fixups x m) })

pub what-is-read-is-whole : (ended : Bool) (l : Lent) (text : List ℕ) (w : Read) → read ended l text ≡ fine w → Whole (module_of text w)
unfolding read
what-is-read-is-whole ended l text w h =
    let one = chain (allowed l text) _ w h in
    let two = chain (headed ended text) read_of w one.second in
    whole-built text two.value w two.second

-- of two texts that are read: the list is empty exactly if no area, position, fixup or symbol differs
pub no-row-exactly-if-nothing-differs : (l m : Lent) (s t : List ℕ) (a b : Read) → read true l s ≡ fine a → read true m t ≡ fine b
    → (changes (module_of s a) (module_of t b) ≡ []) ↔ Same (module_of s a) (module_of t b)
no-row-exactly-if-nothing-differs l m s t a b h k =
    (none-same (module_of s a) (module_of t b) (what-is-read-is-whole true l s a h) (what-is-read-is-whole true m t b k), same_none (module_of s a) (module_of t b))

-- a module is the same as itself
same-fixup : (s : List ℕ) (x : Fixup) → SameFixup s s x x
same-fixup s x = record {
  home = refl;
  position = refl;
  size = refl;
  mode = refl;
  number = refl;
  refers = record { outside = refl; value = refl; id = λ z. refl; name = λ z. refl };
}

pub itself : (m : Module) → Same m m
itself m = record {
  areas = refl;
  values = refl;
  masks = refl;
  fixups = λ x i. record { fixup = x; among = i; same = same-fixup m.text x };
  fixups-back = λ x i. record { fixup = x; among = i; same = same-fixup m.text x };
  symbols = λ n. refl;
}

pub against-itself-none : (m : Module) → changes m m ≡ []
against-itself-none m = same_none m m (itself m)

pub listed-none : (list : List ℕ) → listed list [] ≡ record { answer = told 0; list = list }
unfolding listed flat over
listed-none list =
    ap (λ (b : Bool). pick b (record { answer = told 0; list = list }) (record { answer = refusal 16 0; list = list })) (leb-zero (length list))

-- a finished text against itself: no row, and the list keeps its numbers
pub a-text-against-itself : (l : Lent) (s : List ℕ) (a : Read) (list : List ℕ) → read true l s ≡ fine a → verdict s a.parsed ≡ finished
    → compare l l s s list ≡ record { answer = told 0; list = list }
unfolding compare compared
a-text-against-itself l s a list h f = rw (h, f, against-itself-none (module_of s a), listed-none list)

-- the count is 0 exactly if there is no row
count-with : (b : Bool) (list : List ℕ) (cs : List Change)
    → (pick {A = Listed} b (record { answer = told (length cs); list = over (flat change_numbers cs) list }) (record { answer = refusal 16 0; list = list })).answer ≡ told 0 → cs ≡ []
count-with true list [] h = refl
count-with true list (c ∷ cs) h = let z : suc (length cs) ≡ 0 = cc in let y : ⊥ = omega (arith, z) in absurd y
count-with false list cs h = let z : ◌≡◌ {A = ℕ} 0 1 = cc in let y : ⊥ = omega arith in absurd y

pub no-count : (list : List ℕ) (cs : List Change) → (listed list cs).answer ≡ told 0 → cs ≡ []
unfolding listed
no-count list cs h = count-with (leb (change_columns * length cs) (length list)) list cs h

compared-both : (l m : Lent) (s t : List ℕ) (a b : Read) (list : List ℕ) → read true l s ≡ fine a → read true m t ≡ fine b
    → verdict s a.parsed ≡ finished → verdict t b.parsed ≡ finished → compare l m s t list ≡ listed list (changes (module_of s a) (module_of t b))
unfolding compare compared
compared-both l m s t a b list h k f g = rw (h, k, f, g)

-- of two finished texts the answer is 0 rows exactly if nothing differs
pub no-change-is-told-exactly : (l m : Lent) (s t : List ℕ) (a b : Read) (list : List ℕ) → read true l s ≡ fine a → read true m t ≡ fine b
    → verdict s a.parsed ≡ finished → verdict t b.parsed ≡ finished → ((compare l m s t list).answer ≡ told 0) ↔ Same (module_of s a) (module_of t b)
no-change-is-told-exactly l m s t a b list h k f g =
    let e = compared-both l m s t a b list h k f g in
    let i = no-row-exactly-if-nothing-differs l m s t a b h k in (
      λ z. i.0 (no-count list (changes (module_of s a) (module_of t b)) (sym (ap (λ (x : Listed). x.answer) e) ∙ z)),
      λ z. ap (λ (x : Listed). x.answer) (e ∙ (ap (listed list) (i.1 z) ∙ listed-none list)),
    )
