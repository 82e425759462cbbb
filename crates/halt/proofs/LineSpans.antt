-- The readers of lines answer a place inside their line, and where they come to a halt a reason from 1 to 4.
-- Assumes nothing.
use Prim.Native.Nat.{ℕ, zero, suc, ◌-◌, ◌*◌, ◌+◌, ◌%◌, ◌≤◌}
use mathlib.Core.Bool.{Bool, true, false}
use mathlib.Core.List.{List, [], ◌∷◌}
use native.Mathlib.Omega.{arith}
use lib.ListN.{length, get_or}
use lib.Dec.{eqb, ltb, leb}
use Rattle.format.specs.Got.{Got, is, isnt, then, Reader, many, again, optional, or_none, or_else, ◌>>◌}
use Rattle.format.specs.Number.{blanks, space, word, number, byte, next_byte, joined}
use Rattle.format.specs.Header.{Form}
use Rattle.format.specs.Entries.{ignored, area, symbol, spelled, A, S, size, flags, addr, Ref, Def, R, T, letter_and_more, is_ignored, ignored_line, lead, titled, field, area_of, area_line, ref_or_def, value_of, symbol_of, symbol_line, entry_line}
use Rattle.format.specs.Pairs.{Fragment, address_part, content_line, index, next_index, long_mode, any_mode, mode_of, fragment, zero_index, area_part, whole_content}
use Rattle.halt.specs.Halt.{area_due, fields_due, fragment_due}
use Rattle.halt.proofs.Spans.{Span, Sound, lower, then-spans, pick-spans, halts, bind-sound, seq-sound, give-sound, only-sound, blanks-sound, space-sound, word_sound, number-sound, byte-sound, next-sound, joined-sound, lead-sound, field-sound, titled-sound}

ref-sound : Sound ref_or_def
unfolding ref_or_def
ref-sound s at h = go (then (word (spelled Ref) s at) (λ u next. is true next)) (then (word (spelled Def) s at) (λ u next. is false next)) (part (spelled Ref) true) (part (spelled Def) false)
  where
    part : (w : List ℕ) (b : Bool) → Span s at (then (word w s at) (λ u next. is b next))
    part w b = then-spans s at (word w s at) (λ u next. is b next) (word_sound w s at h) (λ u q g w. (g, w))

    go : (m n : Got Bool) → Span s at m → Span s at n → Span s at (or_else m n)
    go (is a u) n x y = x
    go (isnt r p) (is a u) x y = y
    go (isnt r p) (isnt r' p') x y = x

symbol-sound : (f : Form) → Sound (symbol_line f)
unfolding symbol_line symbol_of value_of
symbol-sound f =
    bind-sound (titled (spelled S)) _ (titled-sound (spelled S)) (λ n.
    seq-sound space _ space-sound (bind-sound ref_or_def _ ref-sound (λ r.
    bind-sound (number f.radix) _ (number-sound f.radix) (λ v. seq-sound blanks _ blanks-sound (give-sound (symbol n r v))))))

optional-sound : {B : Type 0} (m : Reader B) → Sound m → Sound (optional m)
unfolding optional
optional-sound {B} m h s at l = go (m s at) (h s at l)
  where
    go : (g : Got B) → Span s at g → Span s at (or_none g at)
    go (is a q) w = w
    go (isnt r p) w = (omega arith, l)

area-sound : (f : Form) → Sound (area_line f)
unfolding area_line area_of
area-sound f =
    bind-sound (titled (spelled A)) _ (titled-sound (spelled A)) (λ n.
    bind-sound (field (spelled size) f.radix) _ (field-sound (spelled size) f.radix) (λ z.
    bind-sound (field (spelled flags) f.radix) _ (field-sound (spelled flags) f.radix) (λ g.
    bind-sound (optional (field (spelled addr) f.radix)) _ (optional-sound _ (field-sound (spelled addr) f.radix)) (λ a.
    seq-sound blanks _ blanks-sound (give-sound (area n z g a))))))

pub area-due-sound : (f : Form) → Sound (area_due f)
unfolding area_due fields_due
area-due-sound f =
    seq-sound (titled (spelled A)) _ (titled-sound (spelled A))
    (seq-sound (field (spelled size) f.radix) _ (field-sound (spelled size) f.radix)
    (seq-sound (field (spelled flags) f.radix) _ (field-sound (spelled flags) f.radix)
    (seq-sound (field (spelled addr) f.radix) _ (field-sound (spelled addr) f.radix) blanks-sound)))

ignored-span : (s : List ℕ) → Span s 0 (ignored_line s 0)
unfolding ignored_line letter_and_more is_ignored
ignored-span [] = halts [] 0 4 (omega arith) (omega arith) (omega arith)
ignored-span (x ∷ xs) =
    let s : List ℕ = x ∷ xs in
    pick-spans s 0 (is_ignored x) _ (isnt 4 0)
    (pick-spans s 0 (leb 2 (length s)) (is ignored (length s)) (isnt 4 1) (omega arith, omega arith) (record { least = omega arith; most = omega arith; from = omega arith; inside = omega arith }))
    (halts s 0 4 (omega arith) (omega arith) (omega arith))

pub entry-span : (f : Form) (s : List ℕ) → Span s 0 (entry_line f s 0)
unfolding entry_line
entry-span f s =
    pick-spans s 0 (eqb (get_or s 0 0) 65) (area_line f s 0) _ (area-sound f s 0 (omega arith))
    (pick-spans s 0 (eqb (get_or s 0 0) 83) (symbol_line f s 0) (ignored_line s 0) (symbol-sound f s 0 (omega arith)) (ignored-span s))

-- ------------------------------------------------------------------ pairs

index-sound : (radix : ℕ) (big : Bool) → Sound (index radix big)
unfolding index
index-sound radix big = joined-sound radix big 1

next-index-sound : (radix : ℕ) (big : Bool) → Sound (next_index radix big)
unfolding next_index
next-index-sound radix big = seq-sound space (index radix big) space-sound (index-sound radix big)

long-sound : (radix b : ℕ) → Sound (long_mode radix b)
unfolding long_mode
long-sound radix b = bind-sound (next_byte radix) _ (next-sound radix) (λ c. give-sound ((b * 256 + c) % 4096))

any-mode-sound : (radix : ℕ) → Sound (any_mode radix)
unfolding any_mode
any-mode-sound radix s at h =
    then-spans s at (byte radix s at) _ (byte-sound radix s at h) (λ b q g w.
    pick-spans s at (ltb b 240) (is b q) (long_mode radix b s q) (g, w) (lower s at q (long_mode radix b s q) g (long-sound radix b s q w)))

pub fragment-sound : (radix : ℕ) (big : Bool) → Sound (fragment radix big)
unfolding fragment mode_of
fragment-sound radix big =
    seq-sound space _ space-sound
    (bind-sound (mode_of radix) _ (only-sound (any_mode radix) (λ m. ltb m 2048) (any-mode-sound radix)) (λ m.
    bind-sound (next_byte radix) _ (next-sound radix) (λ e.
    bind-sound (next_index radix big) _ (next-index-sound radix big) (λ i. give-sound {A = Fragment} (record { mode = m; entry = e; index = i })))))

pub many-span : {B : Type 0} (m : Reader B) → Sound m → (k : ℕ) (s : List ℕ) (at : ℕ) → at ≤ length s → (at ≤ (many k m s at).end) × ((many k m s at).end ≤ length s)
unfolding many
many-span m h zero s at l = (omega arith, l)
many-span {B} m h (suc k) s at l = go (m s at) (h s at l) (λ q. many-span m h k s q)
  where
    go : (g : Got B) → Span s at g → ((q : ℕ) → q ≤ length s → (q ≤ (many k m s q).end) × ((many k m s q).end ≤ length s))
        → (at ≤ (again g (λ next. many k m s next) at).end) × ((again g (λ next. many k m s next) at).end ≤ length s)
    go (is a q) w f = (omega (arith, (f q w.1).0, w.0), (f q w.1).1)
    go (isnt r p) w f = (omega arith, l)

area-part-sound : (f : Form) → Sound (area_part f)
unfolding area_part zero_index
area-part-sound f =
    let x = f.radix in
    let y = f.big in
    seq-sound (lead (spelled R)) (zero_index x y >> next_index x y) (lead-sound (spelled R))
    (seq-sound (zero_index x y) (next_index x y) (only-sound (index x y) (λ i. eqb i 0) (index-sound x y)) (next-index-sound x y))

pub fragment-due-sound : (f : Form) → Sound (fragment_due f)
unfolding fragment_due
fragment-due-sound f s at h =
    let item = fragment f.radix f.big in
    then-spans s at (area_part f s at) _ (area-part-sound f s at h) (λ a q g w.
    let k = many-span item (fragment-sound f.radix f.big) (length s) s q w in
    lower s at (many (length s) item s q).end (item s (many (length s) item s q).end) (omega (arith, k.0)) (fragment-sound f.radix f.big s (many (length s) item s q).end k.1))

address-sound : (f : Form) → Sound (address_part f)
unfolding address_part
address-sound f =
    seq-sound (lead (spelled T)) (joined f.radix f.big (f.address_length - 1)) (lead-sound (spelled T)) (joined-sound f.radix f.big (f.address_length - 1))

content-sound : (f : Form) → Sound (content_line f)
unfolding content_line
content-sound f s at h =
    then-spans s at (address_part f s at) _ (address-sound f s at h) (λ a q g w.
    let k = many-span (next_byte f.radix) (next-sound f.radix) (length s) s q w in (omega (arith, k.0), k.1))

pub whole-span : (f : Form) (s : List ℕ) → Span s 0 (whole_content f s)
unfolding whole_content
whole-span f s =
    then-spans s 0 (content_line f s 0) _ (content-sound f s 0 (omega arith)) (λ c used g w.
    pick-spans s 0 (eqb used (length s)) (is c used) _ (omega arith, w)
    (then-spans s 0 (next_byte f.radix s used) (λ b next. isnt 4 used) (lower s 0 used (next_byte f.radix s used) (omega arith) (next-sound f.radix s used w))
    (λ b q x y. record { least = omega arith; most = omega arith; from = omega arith; inside = w })))
