-- A line that reads well, cut inside: its halt has reason 1 or 4. So has a T and R pair, cut inside the T line or the R line.
-- Assumes nothing.
use Prim.Native.Nat.{ℕ, suc, zero, ◌+◌, ◌-◌, ◌≤◌, ◌<◌}
use mathlib.Core.Path.{◌≡◌, refl, ap, subst, ◌∙◌}
use mathlib.Core.Bool.{Bool, true, false}
use mathlib.Core.List.{List}
use mathlib.Core.Logic.{◌⊎◌, inl, inr}
use native.Mathlib.Omega.{arith}
use lib.ListN.{length, take, get_or}
use lib.Seq.{get_or-take}
use lib.Dec.{eqb, leb}
use borrow.Author.Tests.{eqb-true}
use Rattle.format.specs.Lists.{pick}
use Rattle.format.specs.Bytes.{is_blank}
use Rattle.format.specs.Got.{Got, Reader, again, give, is, isnt, many, optional, or_none, shifted, then, ◌>>=◌, ◌>>◌}
use Rattle.format.specs.Number.{Name, blanks, joined, next_byte, number, past, space}
use Rattle.format.specs.Lines.{Line, width}
use Rattle.format.specs.Header.{Form}
use Rattle.format.specs.Entries.{A, Entry, R, S, T, addr, area, area_line, area_of, entry_line, field, flags, ignored, ignored_line, is_ignored, lead, letter_and_more, ref_or_def, size, spelled, symbol, symbol_line, symbol_of, titled, value_of}
use Rattle.format.specs.Pairs.{Content, Fragment, Relocation, address_part, area_part, content_from, content_line, fragment, next_index, relocation_line, whole_content, zero_index}
use Rattle.halt.specs.Halt.{area_due, entry_halt, fields_due, fragment_due, pair_halt, why}
use Rattle.cut_reason.specs.CutReason.{Mild}
use Rattle.cut_reason.proofs.Shorter.{AtEnd, CutOf, Cuts, Ends, at_cut, bind-cuts, bind-ends, chained, give-cuts, give-ends, never, seq-cuts, seq-ends}
use Rattle.cut_reason.proofs.Words.{blanks-cuts, blanks-ends, lead-cuts, past_end, space-cuts, space-ends, titled-cuts}
use Rattle.cut_reason.proofs.Numbers.{field-cuts, field-ends, joined-cuts, joined-ends, next-cuts, next-ends, number-cuts, number-ends}
use Rattle.cut_reason.proofs.Fragments.{byte-blank, field-blank, fragment-blank, fragment-cuts, fragment-ends, next-index-cuts, next-index-ends, ref-cuts, ref-ends, zero-cuts, zero-ends}

abbrev pub Soft : {B : Type 0} → Got B → Type 0
Soft (is b p) = Unit {0}
Soft (isnt r p) = Mild r

cut-soft : {B : Type 0} (k : ℕ) (a : B) (q : ℕ) (g : Got B) → CutOf k a q g → Soft g
cut-soft k a q (is b p) h = tt
cut-soft k a q (isnt r p) h = h

end-soft : {B : Type 0} (k : ℕ) (g : Got B) → AtEnd k g → Soft g
end-soft k (is b p) h = tt
end-soft k (isnt r p) h = h

then-soft : {B C : Type 0} (k : ℕ) (m : Got B) (f : B → ℕ → Got C) (a : B) (q : ℕ) → CutOf k a q m → (q ≤ k → Soft (f a q)) → ((c : B) → Soft (f c k)) → Soft (then m f)
then-soft k (is c p) f a q (inl (x, y, z)) same end = rw (x, y) (same z)
then-soft k (is c p) f a q (inr y) same end = rw y (end c)
then-soft k (isnt r p) f a q h same end = h

pub why-mild : {B : Type 0} (g : Got B) → Soft g → Mild (why g).reason
why-mild (is b p) h = inr refl
why-mild (isnt r p) h = h

-- ------------------------------------------------------------------ S lines, and O, H and M lines

value-ends : (f : Form) (n : Name) (r : Bool) → Ends (value_of f n r)
unfolding value_of
value-ends f n r = bind-ends (number f.radix) (λ v. blanks >> give (symbol n r v)) (number-ends f.radix) (λ v. seq-ends blanks (give (symbol n r v)) blanks-ends (give-ends (symbol n r v)))

value-cuts : (f : Form) (n : Name) (r : Bool) → Cuts (value_of f n r)
unfolding value_of
value-cuts f n r =
    bind-cuts (number f.radix) (λ v. blanks >> give (symbol n r v)) (number-cuts f.radix) (λ v. seq-cuts blanks (give (symbol n r v)) blanks-cuts (give-cuts (symbol n r v)) (give-ends (symbol n r v)))
    (λ v. seq-ends blanks (give (symbol n r v)) blanks-ends (give-ends (symbol n r v)))

symbol-of-ends : (f : Form) (n : Name) → Ends (symbol_of f n)
unfolding symbol_of
symbol-of-ends f n = seq-ends space (ref_or_def >>= value_of f n) space-ends (bind-ends ref_or_def (value_of f n) ref-ends (value-ends f n))

symbol-of-cuts : (f : Form) (n : Name) → Cuts (symbol_of f n)
unfolding symbol_of
symbol-of-cuts f n =
    seq-cuts space (ref_or_def >>= value_of f n) space-cuts (bind-cuts ref_or_def (value_of f n) ref-cuts (value-cuts f n) (value-ends f n))
    (bind-ends ref_or_def (value_of f n) ref-ends (value-ends f n))

symbol-cuts : (f : Form) → Cuts (symbol_line f)
unfolding symbol_line
symbol-cuts f = bind-cuts (titled (spelled S)) (symbol_of f) (titled-cuts (spelled S)) (symbol-of-cuts f) (symbol-of-ends f)

ignored-soft : (s : List ℕ) → Soft (ignored_line s 0)
unfolding ignored_line letter_and_more
ignored-soft s = go (is_ignored (get_or s 0 0)) (leb (0 + 2) (length s))
  where
    go : (t u : Bool) → Soft (pick t (pick u (is ignored (length s)) (isnt 4 (0 + 1))) (isnt 4 0))
    go true true = tt
    go true false = inr refl
    go false u = inr refl

-- ------------------------------------------------------------------ A lines

module _ (f : Form) (s : List ℕ) (k : ℕ) (h : k ≤ length s) where
  -- what is due behind the flags
  addr_due : Reader Unit
  addr_due = field (spelled addr) f.radix >> blanks

  flags_due : Reader Unit
  flags_due = field (spelled flags) f.radix >> addr_due

  size_due : Reader Unit
  size_due = field (spelled size) f.radix >> flags_due

  addr-due-ends : Ends addr_due
  unfolding addr_due
  addr-due-ends = seq-ends (field (spelled addr) f.radix) blanks (field-ends (spelled addr) f.radix) blanks-ends

  flags-due-ends : Ends flags_due
  unfolding flags_due
  flags-due-ends = seq-ends (field (spelled flags) f.radix) addr_due (field-ends (spelled flags) f.radix) addr-due-ends

  size-due-ends : Ends size_due
  unfolding size_due
  size-due-ends = seq-ends (field (spelled size) f.radix) flags_due (field-ends (spelled size) f.radix) flags-due-ends

  with-blanks : (g : Got ℕ) → Soft g → Soft (then g (λ v next. blanks (take k s) next))
  unfolding blanks
  with-blanks (is v d) w = tt
  with-blanks (isnt r p) w = w

  addr-soft : (n : Name) (z g c : ℕ) (e : Entry) → c ≤ k
      → then (optional (field (spelled addr) f.radix) s c) (λ a next. then (blanks s next) (λ u end. is (area n z g a) end)) ≡ is e (length s) → Soft (addr_due (take k s) c)
  unfolding addr_due optional blanks
  addr-soft n z g c e l q = with-blanks (field (spelled addr) f.radix (take k s) c) (go (field (spelled addr) f.radix s c) refl q)
    where
      go : (m : Got ℕ) → field (spelled addr) f.radix s c ≡ m → then (or_none m c) (λ a next. then (blanks s next) (λ u end. is (area n z g a) end)) ≡ is e (length s)
          → Soft (field (spelled addr) f.radix (take k s) c)
      go (is v d) x y = cut-soft k v d (field (spelled addr) f.radix (take k s) c) (field-cuts (spelled addr) f.radix s c k v d l h x)
      go (isnt r p) x y = let b : past is_blank s c ≡ length s = cc in end-soft k (field (spelled addr) f.radix (take k s) c) (field-blank (spelled addr) f.radix s c k l h b)

  pub area-soft : (e : Entry) → area_line f s 0 ≡ is e (length s) → Soft (area_due f (take k s) 0)
  unfolding area_line area_of area_due fields_due addr_due flags_due size_due
  area-soft e q =
      let one = chained (titled (spelled A) s 0) _ e (length s) q in
      let two = chained (field (spelled size) f.radix s one.next) _ e (length s) one.second in
      let three = chained (field (spelled flags) f.radix s two.next) _ e (length s) two.second in
      then-soft k (titled (spelled A) (take k s) 0) (λ n a. size_due (take k s) a) one.value one.next (titled-cuts (spelled A) s 0 k one.value one.next (omega arith) h one.first) (λ a.
      then-soft k (field (spelled size) f.radix (take k s) one.next) (λ z b. flags_due (take k s) b) two.value two.next (field-cuts (spelled size) f.radix s one.next k two.value two.next a h two.first) (λ b.
      then-soft k (field (spelled flags) f.radix (take k s) two.next) (λ g c. addr_due (take k s) c) three.value three.next (field-cuts (spelled flags) f.radix s two.next k three.value three.next b h three.first) (λ c.
      addr-soft one.value two.value three.value three.next e c three.second)
      (λ g. end-soft k (addr_due (take k s) k) (at_cut addr_due addr-due-ends s k h)))
      (λ z. end-soft k (flags_due (take k s) k) (at_cut flags_due flags-due-ends s k h)))
      (λ n. end-soft k (size_due (take k s) k) (at_cut size_due size-due-ends s k h))

-- a line of group one that reads to its end, cut behind its first byte or later
pub a-cut-line-halts-mildly : (f : Form) (s : List ℕ) (k : ℕ) (e : Entry) → 0 < k → k ≤ length s → entry_line f s 0 ≡ is e (length s) → Mild (entry_halt f (take k s)).reason
unfolding entry_halt entry_line
a-cut-line-halts-mildly f s k e l h q = rw (get_or-take k s 0 0 l) (go (eqb (get_or s 0 0) 65) (eqb (get_or s 0 0) 83) q)
  where
    go : (t u : Bool) → pick t (area_line f s 0) (pick u (symbol_line f s 0) (ignored_line s 0)) ≡ is e (length s)
        → Mild (pick t (why (area_due f (take k s) 0)) (why (pick t (area_line f (take k s) 0) (pick u (symbol_line f (take k s) 0) (ignored_line (take k s) 0))))).reason
    go true u x = why-mild (area_due f (take k s) 0) (area-soft f s k h e x)
    go false true x = why-mild (symbol_line f (take k s) 0) (cut-soft k e (length s) (symbol_line f (take k s) 0) (symbol-cuts f s 0 k e (length s) (omega arith) h x))
    go false false x = why-mild (ignored_line (take k s) 0) (ignored-soft (take k s))

-- ------------------------------------------------------------------ lists

module _ {B : Type 0} (item : Reader B) (cuts : Cuts item) (ends : Ends item) (s : List ℕ) (k : ℕ) (h : k ≤ length s)
    (blank : (at : ℕ) → at ≤ k → past is_blank s at ≡ length s → AtEnd k (item (take k s) at)) where
  -- from the cut on
  many-end : (j : ℕ) → Soft (item (take k s) (many j item (take k s) k).end)
  unfolding many
  many-end zero = end-soft k (item (take k s) k) (at_cut item ends s k h)
  many-end (suc j) = go (item (take k s) k) refl (at_cut item ends s k h) (many-end j)
    where
      go : (g : Got B) → item (take k s) k ≡ g → AtEnd k g → Soft (item (take k s) (many j item (take k s) k).end) → Soft (item (take k s) (again g (λ next. many j item (take k s) next) k).end)
      go (is b p) e w ih = rw w ih
      go (isnt r p) e w ih = rw e w

  -- what is left behind the list is blank, or the list goes on
  data Left (at : ℕ) : Type 0 where
    bare : past is_blank s at ≡ length s → Left at
    on : (a : B) (q J : ℕ) → item s at ≡ is a q → past is_blank s (many J item s q).end ≡ length s → Left at

  left : (J at : ℕ) → past is_blank s (many J item s at).end ≡ length s → Left at
  unfolding many
  left zero at e = bare e
  left (suc J) at e = go (item s at) refl e
    where
      go : (g : Got B) → item s at ≡ g → past is_blank s (again g (λ next. many J item s next) at).end ≡ length s → Left at
      go (is a q) m x = on a q J m x
      go (isnt r p) m x = bare x

  -- the item due at a place that the list reaches
  item-soft : (at : ℕ) → at ≤ k → Left at → Soft (item (take k s) at)
  item-soft at l (bare e) = end-soft k (item (take k s) at) (blank at l e)
  item-soft at l (on a q J m e) = cut-soft k a q (item (take k s) at) (cuts s at k a q l h m)

  pub many-soft : (j J at : ℕ) → at ≤ k → past is_blank s (many J item s at).end ≡ length s → Soft (item (take k s) (many j item (take k s) at).end)
  unfolding many
  many-soft zero J at l e = item-soft at l (left J at e)
  many-soft (suc j) J at l e = go (item (take k s) at) refl (item-soft at l (left J at e)) (left J at e) (λ K p x y. many-soft j K p x y)
    where
      go : (g : Got B) → item (take k s) at ≡ g → Soft (item (take k s) at) → Left at
          → ((K p : ℕ) → p ≤ k → past is_blank s (many K item s p).end ≡ length s → Soft (item (take k s) (many j item (take k s) p).end))
          → Soft (item (take k s) (again g (λ next. many j item (take k s) next) at).end)
      go (isnt r p) m w c ih = w
      go (is b p) m w (bare x) ih = let y : p ≡ k = subst (λ (g : Got B). AtEnd k g) m (blank at l x) in rw y (many-end j)
      go (is b p) m w (on a q K n x) ih = which (subst (λ (g : Got B). CutOf k a q g) m (cuts s at k a q l h n))
        where
          which : ((b ≡ a) × (p ≡ q) × (q ≤ k)) ⊎ (p ≡ k) → Soft (item (take k s) (many j item (take k s) p).end)
          which (inl (y, z, v)) = rw z (ih K q v x)
          which (inr y) = rw y (many-end j)

-- ------------------------------------------------------------------ T lines

module _ (f : Form) (s : List ℕ) (k : ℕ) (h : k ≤ length s) where
  address-cuts : Cuts (address_part f)
  unfolding address_part
  address-cuts =
      seq-cuts (lead (spelled T)) (joined f.radix f.big (f.address_length - 1)) (lead-cuts (spelled T)) (joined-cuts f.radix f.big (f.address_length - 1))
      (joined-ends f.radix f.big (f.address_length - 1))

  -- the whole content line was used, so its list reaches the end
  used-whole : (t : Bool) (c d : Content) (used q : ℕ) (g : Got ℕ) → eqb used (length s) ≡ t → pick t (is c used) (then g (λ b next. isnt 4 used)) ≡ is d q → used ≡ length s
  used-whole true c d used q g e x = eqb-true used (length s) e
  used-whole false c d used q (is b n) e x = never x
  used-whole false c d used q (isnt r p) e x = never x

  pub content-soft : (c : Content) (q : ℕ) → whole_content f s ≡ is c q → Soft (whole_content f (take k s))
  unfolding whole_content content_line
  content-soft c q e =
      let one = chained (content_line f s 0) _ c q e in
      let two = chained (address_part f s 0) _ one.value one.next one.first in
      let reach : (many (length s) (next_byte f.radix) s two.next).end ≡ one.next = let z = two.second in cc in
      let whole : one.next ≡ length s = used-whole (eqb one.next (length s)) one.value c one.next q (next_byte f.radix s one.next) refl one.second in
      let bare : past is_blank s (many (length s) (next_byte f.radix) s two.next).end ≡ length s = ap (past is_blank s) (reach ∙ whole) ∙ past_end is_blank s in
      go (address_part f (take k s) 0) two.value two.next (address-cuts s 0 k two.value two.next (omega arith) h two.first) bare
    where
      item : Reader ℕ
      item = next_byte f.radix

      -- the next listed byte says why
      due : (d : Content) (used : ℕ) (t : Bool) → Soft (item (take k s) used) → Soft (pick t (is d used) (then (item (take k s) used) (λ b next. isnt 4 used)))
      due d used true w = tt
      due d used false w = four (item (take k s) used) w
        where
          four : (g : Got ℕ) → Soft g → Soft (then {B = Content} g (λ b next. isnt 4 used))
          four (is b n) w = inr refl
          four (isnt r p) w = w

      go : (g : Got ℕ) (a n : ℕ) → CutOf k a n g → past is_blank s (many (length s) item s n).end ≡ length s
          → Soft (then (then g (λ x next. content_from f (take k s) x next)) (λ d used. pick (eqb used (length (take k s))) (is d used) (then (item (take k s) used) (λ b next. isnt 4 used))))
      go (is b p) a n (inl (x, y, z)) w =
          rw y (due _ (many (length (take k s)) item (take k s) n).end (eqb (many (length (take k s)) item (take k s) n).end (length (take k s)))
          (many-soft item (next-cuts f.radix) (next-ends f.radix) s k h (λ at l x. byte-blank f.radix s at k l h x) (length (take k s)) (length s) n z w))
      go (is b p) a n (inr y) w =
          rw y (due _ (many (length (take k s)) item (take k s) k).end (eqb (many (length (take k s)) item (take k s) k).end (length (take k s)))
          (many-end item (next-cuts f.radix) (next-ends f.radix) s k h (λ at l x. byte-blank f.radix s at k l h x) (length (take k s))))
      go (isnt r p) a n m w = m

-- ------------------------------------------------------------------ R lines

module _ (f : Form) (s : List ℕ) (k : ℕ) (h : k ≤ length s) where
  area-part-cuts : Cuts (area_part f)
  unfolding area_part
  area-part-cuts =
      let x = f.radix in
      let y = f.big in
      seq-cuts (lead (spelled R)) (zero_index x y >> next_index x y) (lead-cuts (spelled R))
      (seq-cuts (zero_index x y) (next_index x y) (zero-cuts x y) (next-index-cuts x y) (next-index-ends x y))
      (seq-ends (zero_index x y) (next_index x y) (zero-ends x y) (next-index-ends x y))

  pub fragment-soft : (c : Relocation) → relocation_line f s 0 ≡ is c (length s) → Soft (fragment_due f (take k s) 0)
  unfolding relocation_line fragment_due
  fragment-soft c e =
      let item : Reader Fragment = fragment f.radix f.big in
      let one = chained (area_part f s 0) _ c (length s) e in
      let bare : past is_blank s (many (length s) (fragment f.radix f.big) s one.next).end ≡ length s = let z = one.second in cc in
      then-soft k (area_part f (take k s) 0) (λ a next. fragment f.radix f.big (take k s) (many (length (take k s)) (fragment f.radix f.big) (take k s) next).end)
      one.value one.next (area-part-cuts s 0 k one.value one.next (omega arith) h one.first)
      (λ l. many-soft (fragment f.radix f.big) (fragment-cuts f.radix f.big) (fragment-ends f.radix f.big) s k h (λ at l x. fragment-blank f.radix f.big s at k l h x) (length (take k s)) (length s) one.next l bare)
      (λ a. many-end (fragment f.radix f.big) (fragment-cuts f.radix f.big) (fragment-ends f.radix f.big) s k h (λ at l x. fragment-blank f.radix f.big s at k l h x) (length (take k s)))

-- ------------------------------------------------------------------ pairs

-- cut inside the T line
pub a-cut-T-line-halts-mildly : (f : Form) (s : List ℕ) (k : ℕ) (r : Line) (c : Content) (q : ℕ) → k ≤ length s → whole_content f s ≡ is c q
    → Mild (pair_halt f (record { bytes = take k s; ends = 0 }) r).reason
unfolding pair_halt
a-cut-T-line-halts-mildly f s k r c q h e = go (whole_content f (take k s)) (content-soft f s k h c q e)
  where
    go : (g : Got Content) → Soft g
        → Mild (why (then g (λ c used. pick (eqb 0 0) (isnt 4 used) (shifted (width (record { bytes = take k s; ends = 0 })) (λ (x : Fragment). x) (fragment_due f r.bytes 0))))).reason
    go (is d n) w = inr refl
    go (isnt x p) w = w

-- cut inside the R line, or before it
pub a-cut-R-line-halts-mildly : (f : Form) (t : Line) (s : List ℕ) (k e : ℕ) (c : Content) (q : ℕ) (d : Relocation) → k ≤ length s → whole_content f t.bytes ≡ is c q
    → relocation_line f s 0 ≡ is d (length s) → Mild (pair_halt f t (record { bytes = take k s; ends = e })).reason
unfolding pair_halt
a-cut-R-line-halts-mildly f t s k e c q d h x y = rw x (go (eqb t.ends 0))
  where
    shift : (g : Got Fragment) → Soft g → Mild (why (shifted (width t) (λ (x : Fragment). x) g)).reason
    shift (is a n) w = inr refl
    shift (isnt z p) w = w

    go : (b : Bool) → Mild (why (pick b (isnt 4 q) (shifted (width t) (λ (x : Fragment). x) (fragment_due f (take k s) 0)))).reason
    go true = inr refl
    go false = shift (fragment_due f (take k s) 0) (fragment-soft f s k h d y)
