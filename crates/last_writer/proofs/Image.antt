-- For pairs that are placed and every position, value and mask of the image are those of the last pair that wrote there.
-- Assumes nothing.
use Prim.Native.Nat.{ℕ, ◌<◌}
use mathlib.Core.Path.{◌≡◌, refl, sym, ap, ◌∙◌}
use mathlib.Core.List.{List, [], ◌∷◌, ◌++◌, reverse, reverse_aux-eq}
use mathlib.Core.Option.{Option, none, some}
use lib.ListN.{length, get_or, replicate, get_or-replicate, length-replicate}
use Rattle.format.specs.Header.{Form}
use Rattle.format.specs.Pairs.{Pair}
use Rattle.format.specs.Outcome.{fine}
use Rattle.format.specs.Records.{Taken}
use Rattle.format.specs.Tables.{Tables, total}
use Rattle.format.specs.Placing.{State, placing}
use Rattle.order.specs.Writes.{Cell, cell_at, writes, lay, after, else_of}
use Rattle.last_writer.specs.LastWriter.{Found, found_in, found_by, first_of, first_writer, last_writer, value_of, mask_of}
use Rattle.order.proofs.Cells.{length-lay, lay-append, get_or-lay}
use Rattle.order.proofs.Pair.{ascends-pair}
use Rattle.order.proofs.Lists.{all_writes, puts-all}

-- ------------------------------------------------------------------ from the last pair back

first_of-assoc : (a b c : Option Found) → first_of (first_of a b) c ≡ first_of a (first_of b c)
first_of-assoc none b c = refl
first_of-assoc (some a) b c = refl

first_of-none : (a : Option Found) → first_of a none ≡ a
first_of-none none = refl
first_of-none (some a) = refl

module _ (fm : Form) (t : Tables) where
  first-append : (ps qs : List (Taken Pair)) (i : ℕ) → first_writer fm t (ps ++ qs) i ≡ first_of (first_writer fm t ps i) (first_writer fm t qs i)
  unfolding first_writer
  first-append [] qs i = refl
  first-append (p ∷ ps) qs i =
      ap (first_of (found_by fm t p i)) (first-append ps qs i) ∙ sym (first_of-assoc (found_by fm t p i) (first_writer fm t ps i) (first_writer fm t qs i))

  -- a pair in front is asked last
  pub last_cons : (p : Taken Pair) (ps : List (Taken Pair)) (i : ℕ) → last_writer fm t (p ∷ ps) i ≡ first_of (last_writer fm t ps i) (found_by fm t p i)
  unfolding last_writer first_writer
  last_cons p ps i =
      ap (λ (qs : List (Taken Pair)). first_writer fm t qs i) (reverse_aux-eq ps (p ∷ []))
      ∙ (first-append (reverse ps) (p ∷ []) i ∙ ap (first_of (first_writer fm t (reverse ps) i)) (first_of-none (found_by fm t p i)))

  -- a pair behind the others is asked first
  pub last_snoc : (ps : List (Taken Pair)) (p : Taken Pair) (i : ℕ) → last_writer fm t (ps ++ p ∷ []) i ≡ first_of (found_by fm t p i) (last_writer fm t ps i)
  unfolding last_writer first_writer
  last_snoc [] p i = refl
  last_snoc (q ∷ ps) p i =
      last_cons q (ps ++ p ∷ []) i
      ∙ (ap (λ (o : Option Found). first_of o (found_by fm t q i)) (last_snoc ps p i)
      ∙ (first_of-assoc (found_by fm t p i) (last_writer fm t ps i) (found_by fm t q i) ∙ ap (first_of (found_by fm t p i)) (sym (last_cons q ps i))))

-- ------------------------------------------------------------------ the image

-- f of a cell is g of what is found there: value or mask of both
module _ (f : Cell → ℕ) (g : Found → ℕ) (agree : (place : ℕ) (c : Cell) → g (record { place = place; value = c.value; mask = c.mask }) ≡ f c) where
  found-else : (place : ℕ) (a : Option Found) (o : Option Cell) (x : ℕ) → else_of g a (else_of f o x) ≡ else_of g (first_of a (found_in place o)) x
  found-else place (some a) o x = refl
  found-else place none none x = refl
  found-else place none (some c) x = sym (agree place c)

  laid-by-the-last : (fm : Form) (t : Tables) (ps : List (Taken Pair)) (xs : List ℕ) (i : ℕ) → i < length xs
      → get_or (lay f (all_writes fm t ps) xs) i 0 ≡ else_of g (last_writer fm t ps i) (get_or xs i 0)
  unfolding all_writes lay last_writer first_writer found_by
  laid-by-the-last fm t [] xs i h = refl
  laid-by-the-last fm t (p ∷ ps) xs i h =
      ap (λ (ys : List ℕ). get_or ys i 0) (lay-append f (writes fm t p) (all_writes fm t ps) xs)
      ∙ (laid-by-the-last fm t ps (lay f (writes fm t p) xs) i (rw length-lay h)
      ∙ (ap (else_of g (last_writer fm t ps i)) (get_or-lay f 0 (writes fm t p) xs i (ascends-pair fm t p) h)
      ∙ (found-else p.place (last_writer fm t ps i) (cell_at (writes fm t p) i) (get_or xs i 0)
      ∙ ap (λ (o : Option Found). else_of g o (get_or xs i 0)) (sym (last_cons fm t p ps i)))))

-- the image at a position is what the last pair wrote there
pub record Tells (fm : Form) (t : Tables) (ps : List (Taken Pair)) (s : State) (i : ℕ) : Type 0 where
  pub value : get_or s.values i 0 ≡ value_of (last_writer fm t ps i)
  pub mask : get_or s.masks i 0 ≡ mask_of (last_writer fm t ps i)

pub the-last-writer-tells-the-image : (fm : Form) (t : Tables) (ps : List (Taken Pair)) (s : State) (i : ℕ) → placing fm t ps ≡ fine s → i < total t.areas → Tells fm t ps s i
unfolding placing after
the-last-writer-tells-the-image fm t ps s i h l =
    let n = total t.areas in
    let k = puts-all fm t ps _ s h in
    let fresh : List ℕ = replicate n 0 in
    let blank : get_or fresh i 0 ≡ 0 = get_or-replicate n i 0 0 l in
    let wide : i < length fresh = simp length-replicate l in
    record {
      value = ap (λ (x : State). get_or x.values i 0) k.is
          ∙ (laid-by-the-last (λ (c : Cell). c.value) (λ (x : Found). x.value) (λ p c. refl) fm t ps fresh i wide ∙ ap (else_of (λ (x : Found). x.value) (last_writer fm t ps i)) blank);
      mask = ap (λ (x : State). get_or x.masks i 0) k.is
          ∙ (laid-by-the-last (λ (c : Cell). c.mask) (λ (x : Found). x.mask) (λ p c. refl) fm t ps fresh i wide ∙ ap (else_of (λ (x : Found). x.mask) (last_writer fm t ps i)) blank);
    }
