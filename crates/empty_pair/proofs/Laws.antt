-- What the definition reads of two lines that hold an address and an area, and no more.
-- Assumes nothing.
use Prim.Native.Nat.{ℕ, zero, suc, ◌+◌, ◌-◌, ◌<◌, ◌≤◌, ◌^◌}
use mathlib.Core.Path.{◌≡◌, refl, sym, ◌∙◌}
use mathlib.Core.Bool.{Bool, true, false, not, ◌&&◌}
use mathlib.Core.List.{List, []}
use native.Mathlib.Omega.{arith}
use lib.Dec.{eqb}
use lib.ListN.{length, get_or, take, drop, length-drop}
use lib.Seq.{length-take-le, get_or-take, get_or-drop}
use mir.Val.{Fits}
use mir.Syntax.{w64}
use borrow.Author.Rules.{rules}
use borrow.Author.Tests.{eq-eqb, lt-ltb, not-false}
use Rattle.std.specs.Prelude.{Option, Some, None}
use Rattle.format.specs.Bytes.{is_blank, worth}
use Rattle.format.specs.Got.{Reader, is, isnt, many}
use Rattle.format.specs.Header.{Form}
use Rattle.format.specs.Pairs.{address_part, area_part, content_line, whole_content, relocation_line}
use Rattle.text_lines.specs.Lines.{LineIs, OneLine}
use Rattle.scan.proofs.Laws.Kinds.{past_end, span-start, span-end}
use Rattle.text_lines.proofs.Laws.{line-start, line-more, lf_line}
use Rattle.scan.proofs.Laws.Tests.{by_order}
use Rattle.digits.specs.Capitals.{capitals}
use Rattle.digits.proofs.Laws.{capitals-are}
use Rattle.byte_joins.specs.Joins.{two_joined, three_joined}
use Rattle.byte_joins.proofs.Laws.{two-parts, two-under, three-parts}
use Rattle.empty_marks.specs.Marks.{ends_in_place, zero_lead}
use Rattle.empty_marks.proofs.Laws.{ends-parts}
use Rattle.joined_bytes.specs.Joins.{Joins}
use Rattle.joined_bytes.specs.Steps.{join_step}
use Rattle.joined_bytes.proofs.Laws.Joins.{joins-two, joins-three}
use Rattle.joined_bytes.proofs.Laws.Joined.{index_is}
use Rattle.header.specs.Told.{form_of}
use Rattle.header.specs.declared.Form as text
use Rattle.header.specs.declared.Width.TheVariants.{Three}
use Rattle.fields.specs.Due.{Due}
use Rattle.fields.proofs.Laws.Fields.{due-here, due-before}
use Rattle.lists.proofs.Laws.Begun.{next_past}
use Rattle.fragments.proofs.Laws.Fragments.{fragment-past}
use Rattle.pair_line.proofs.Laws.Usual.{led-letter, zeroed-is}
use Rattle.pair_line.proofs.Laws.Content.{address-usual}
use Rattle.empty_pair.specs.Empty.{three, Plain, LeadsAddress, AddressOnly, LeadsArea, AreaOnly, EmptyPair}
use Rattle.empty_pair.specs.declared.Empty.{Empty}

-- ------------------------------------------------------------------ bytes that are no control characters

plain-none : (s : List ℕ) → Plain s 0
plain-none s = record { high = λ i h. absurd (omega arith) }

plain_more : {s : List ℕ} {n : ℕ} → Plain s n → 32 ≤ get_or s n 0 → (m : ℕ) → m ≡ n + 1 → Plain s m
plain_more {s} {n} w b m e = record {
  high = λ i h. by_order i n (λ l. w.high i l) (λ l. let z : i ≡ n = omega arith in rw z b);
}

worth-low : (b : ℕ) → b < 48 → 255 ≡ worth b
unfolding worth
worth-low b h = rw (lt-ltb b 48 h)

digit-high : (b : ℕ) → worth b < 16 → 32 < b
digit-high b h = by_order b 48 (λ l. absurd (omega (arith, worth-low b l))) (λ l. omega arith)

module _ (s : List ℕ) (i j : ℕ) {v : ℕ} (e : v ≡ capitals (get_or s i 0) (get_or s j 0)) (h : v ≤ 255) where
  first-high : 32 < get_or s i 0
  first-high = digit-high (get_or s i 0) (capitals-are (get_or s i 0) (get_or s j 0) e (omega arith)).first

  second-high : 32 < get_or s j 0
  second-high = digit-high (get_or s j 0) (capitals-are (get_or s i 0) (get_or s j 0) e (omega arith)).second

-- ------------------------------------------------------------------ `address_only`

pub address-none : (big : Bool) (s : List ℕ) → AddressOnly big s 16777216
address-none big s = record { read = λ l. absurd (omega arith); plain = λ l. absurd (omega arith) }

pub address-led : (s : List ℕ) {a b c d : Bool} → Due (get_or s 0 0) 84 true a → Due (get_or s 1 0) 32 a b → Due (get_or s 4 0) 32 b c → Due (get_or s 7 0) 32 c d → LeadsAddress s d
address-led s wa wb wc wd = record {
  letter = λ z. due-here wa (due-before wb (due-before wc (due-before wd z)));
  space = λ z. due-here wb (due-before wc (due-before wd z));
  second = λ z. due-here wc (due-before wd z);
  third = λ z. due-here wd z;
}

module _ (big : Bool) (s : List ℕ) (n : length s ≡ 10) {w : Bool} (l : LeadsAddress s w) (o : not w ≡ false)
    {a b c : ℕ} (x : a ≡ capitals (get_or s 2 0) (get_or s 3 0)) (y : b ≡ capitals (get_or s 5 0) (get_or s 6 0)) (q : c ≡ capitals (get_or s 8 0) (get_or s 9 0))
    (la : a ≤ 255) (lb : b ≤ 255) (lc : c ≤ 255) where
  z : w ≡ true
  z = not-false w o

  address_plain : Plain s 10
  address_plain =
      let p1 = plain_more (plain-none s) (omega (arith, l.letter z)) 1 refl in
      let p2 = plain_more p1 (omega (arith, l.space z)) 2 refl in
      let p3 = plain_more p2 (omega (arith, first-high s 2 3 x la)) 3 refl in
      let p4 = plain_more p3 (omega (arith, second-high s 2 3 x la)) 4 refl in
      let p5 = plain_more p4 (omega (arith, l.second z)) 5 refl in
      let p6 = plain_more p5 (omega (arith, first-high s 5 6 y lb)) 6 refl in
      let p7 = plain_more p6 (omega (arith, second-high s 5 6 y lb)) 7 refl in
      let p8 = plain_more p7 (omega (arith, l.third z)) 8 refl in
      let p9 = plain_more p8 (omega (arith, first-high s 8 9 q lc)) 9 refl in
      plain_more p9 (omega (arith, second-high s 8 9 q lc)) 10 refl

  address-joined : {g : ℕ} → g ≡ join_step big a 256 b → g < 65536 → {r : ℕ} → r ≡ join_step big g 65536 c → r < 16777216 → AddressOnly big s r
  address-joined {g} i m {r} j k =
      let u : Joins 16 big 2 s 2 10 16777216 r = joins-three 16 big s 2 refl (omega arith) (l.second z) {d = 0} x la y lb i m (omega arith) (l.third z) q lc (past_end s (omega arith)) (omega arith) j k in
      record {
        read = λ f. sym (address-usual 16 big 2 s (led-letter s 84 (omega arith) (l.letter z) (l.space z)) (lt-ltb 32 (get_or s 2 0) (first-high s 2 3 x la)) (sym (u.got k)));
        plain = λ f. address_plain;
      }

module _ (big : Bool) (s : List ℕ) (n : length s ≡ 10) {w : Bool} (l : LeadsAddress s w) (o : not w ≡ false)
    {a b c : ℕ} (x : a ≡ capitals (get_or s 2 0) (get_or s 3 0)) (y : b ≡ capitals (get_or s 5 0) (get_or s 6 0)) (q : c ≡ capitals (get_or s 8 0) (get_or s 9 0)) where
  pub address_is : {r : ℕ} → r ≡ three_joined big a b c → AddressOnly big s r
  address_is {r} e = record { read = λ k. (only k).read k; plain = λ k. (only k).plain k }
    where
      only : r < 16777216 → AddressOnly big s r
      only k =
          let v = three-parts big a b c e k in
          address-joined big s n l o x y q v.0 v.1 v.2 refl (two-under big a b v.0 v.1) v.3 k

pub ruleset addressing = (rules, address-led, address-none, address_is)

-- ------------------------------------------------------------------ `area_only`

pub area-none : (big : Bool) (s : List ℕ) → AreaOnly big s 65536
area-none big s = record { read = λ l. absurd (omega arith); plain = λ l. absurd (omega arith) }

area-led : (s : List ℕ) → length s ≡ 13 → {a b c d e f g h : Bool}
    → Due (get_or s 0 0) 82 true a → Due (get_or s 1 0) 32 a b → Due (get_or s 2 0) 48 b c → Due (get_or s 3 0) 48 c d
    → Due (get_or s 4 0) 32 d e → Due (get_or s 5 0) 48 e f → Due (get_or s 6 0) 48 f g → Due (get_or s 7 0) 32 g h → LeadsArea s h
area-led s n wa wb wc wd we wf wg wh = record {
  read = λ z. zeroed-is 16 s refl (omega arith) wa wb wc wd we wf wg wh z;
  plain =
      λ z.
      let zg = due-before wh z in
      let zf = due-before wg zg in
      let ze = due-before wf zf in
      let zd = due-before we ze in
      let zc = due-before wd zd in
      let zb = due-before wc zc in
      let za = due-before wb zb in
      let p1 = plain_more (plain-none s) (omega (arith, due-here wa za)) 1 refl in
      let p2 = plain_more p1 (omega (arith, due-here wb zb)) 2 refl in
      let p3 = plain_more p2 (omega (arith, due-here wc zc)) 3 refl in
      let p4 = plain_more p3 (omega (arith, due-here wd zd)) 4 refl in
      let p5 = plain_more p4 (omega (arith, due-here we ze)) 5 refl in
      let p6 = plain_more p5 (omega (arith, due-here wf zf)) 6 refl in
      let p7 = plain_more p6 (omega (arith, due-here wg zg)) 7 refl in
      plain_more p7 (omega (arith, due-here wh z)) 8 refl;
}

module _ (big : Bool) (s : List ℕ) (n : length s ≡ 13) {h : Bool} (l : LeadsArea s h) (o : not h ≡ false)
    (m : get_or s 10 0 ≡ 32) {v w : ℕ} (x : v ≡ capitals (get_or s 8 0) (get_or s 9 0)) (y : w ≡ capitals (get_or s 11 0) (get_or s 12 0)) (lv : v ≤ 255) (lw : w ≤ 255) where
  zh : h ≡ true
  zh = not-false h o

  area-plain : Plain s 13
  area-plain =
      let p9 = plain_more (l.plain zh) (omega (arith, first-high s 8 9 x lv)) 9 refl in
      let p10 = plain_more p9 (omega (arith, second-high s 8 9 x lv)) 10 refl in
      let p11 = plain_more p10 (omega (arith, m)) 11 refl in
      let p12 = plain_more p11 (omega (arith, first-high s 11 12 y lw)) 12 refl in
      plain_more p12 (omega (arith, second-high s 11 12 y lw)) 13 refl

  area-joined : {r : ℕ} → r ≡ join_step big v 256 w → r < 65536 → AreaOnly big s r
  area-joined {r} j k =
      let u : Joins 16 big 1 s 8 13 65536 r = joins-two 16 big s 8 refl (omega arith) m {c = 0} x lv y lw j k (omega arith) (past_end s (omega arith)) (omega arith) in
      record {
        read = λ i. (l.read zh).read (lt-ltb 32 (get_or s 8 0) (first-high s 8 9 x lv)) big 3 ∙ sym (index_is 16 big s 8 (sym (u.got k)));
        plain = λ l. area-plain;
      }

due : (b d : ℕ) (before : Bool) → Due b d before (eqb b d && before)
due b d before = record { answer = refl }

area-leads : (s : List ℕ) → length s ≡ 13 → {h : Bool}
    → h ≡ zero_lead (get_or s 0 0) (get_or s 1 0) (get_or s 2 0) (get_or s 3 0) (get_or s 4 0) (get_or s 5 0) (get_or s 6 0) (get_or s 7 0) → LeadsArea s h
unfolding zero_lead
area-leads s n e =
    rw e (area-led s n (due (get_or s 0 0) 82 true) (due (get_or s 1 0) 32 _) (due (get_or s 2 0) 48 _) (due (get_or s 3 0) 48 _) (due (get_or s 4 0) 32 _) (due (get_or s 5 0) 48 _) (due (get_or s 6 0) 48 _) (due (get_or s 7 0) 32 _))

module _ (big : Bool) (s : List ℕ) (n : length s ≡ 13) {h : Bool}
    (e : h ≡ zero_lead (get_or s 0 0) (get_or s 1 0) (get_or s 2 0) (get_or s 3 0) (get_or s 4 0) (get_or s 5 0) (get_or s 6 0) (get_or s 7 0)) (o : not h ≡ false)
    (m : get_or s 10 0 ≡ 32) {v w : ℕ} (x : v ≡ capitals (get_or s 8 0) (get_or s 9 0)) (y : w ≡ capitals (get_or s 11 0) (get_or s 12 0)) where
  pub area-is : {r : ℕ} → r ≡ two_joined big v w → AreaOnly big s r
  area-is {r} j = record { read = λ k. (only k).read k; plain = λ k. (only k).plain k }
    where
      only : r < 65536 → AreaOnly big s r
      only k = let u = two-parts big v w j k in area-joined big s n (area-leads s n e) o m x y u.0 u.1 u.2 k

pub ruleset areas = (rules, area-none, area-is)

-- ------------------------------------------------------------------ lines of which no more is read

many-none : {A : Type 0} (n : ℕ) (item : Reader A) (s : List ℕ) (at : ℕ) {r p : ℕ} → isnt r p ≡ item s at → many n item s at ≡ record { items = []; end = at }
unfolding many
many-none zero item s at e = refl
many-none (suc n) item s at e = rw (← e)

content-empty : (f : Form) (s : List ℕ) {a n : ℕ} → length s ≡ n → address_part f s 0 ≡ is a n → whole_content f s ≡ is (record { address = a; bytes = [] }) n
unfolding whole_content content_line
content-empty f s {a} {n} h e = rw (e, many-none (length s) _ s n (next_past f.radix s n (omega arith)), h, eq-eqb n n refl)

relocation-empty : (f : Form) (s : List ℕ) {a n : ℕ} → length s ≡ n → area_part f s 0 ≡ is a n → relocation_line f s 0 ≡ is (record { area = a; fragments = [] }) n
unfolding relocation_line
relocation-empty f s {a} {n} h e = rw (e, many-none (length s) _ s n (fragment-past f.radix f.big s n (omega arith)), ← (span-end (span-start is_blank s n) (omega arith)))

-- ------------------------------------------------------------------ `two_lines`

module _ (s : List ℕ) (p n : ℕ) (h : p + n < length s) (w : Plain (take n (drop p s)) n) where
  plain_here : (i : ℕ) → i < n → 32 ≤ get_or s (p + i) 0
  plain_here i l = rw (get_or-take n (drop p s) i 0 l, get_or-drop p s i 0) at (w.high i l)

  plain-line : (k : ℕ) → k ≤ n → OneLine s p (p + k)
  plain-line zero l = let z : p + 0 ≡ p = omega arith in rw z (line-start s p)
  plain-line (suc k) l =
      let z : p + k + 1 ≡ p + suc k = omega arith in
      rw z at (line-more (plain-line k (omega arith)) (omega arith) (plain_here k (omega arith)))

  ended-line : get_or s (p + n) 0 ≡ 10 → LineIs s p (record { end = p + n; ends = 1; next = p + n + 1 })
  ended-line e = lf_line s (plain-line n (omega arith)) h e

part-long : (s : List ℕ) (p n : ℕ) → p + n ≤ length s → length (take n (drop p s)) ≡ n
part-long s p n h = length-take-le n (drop p s) (omega (arith, length-drop p s))

pub empty-other : (f : Form) (s : List ℕ) (p : ℕ) → EmptyPair f s p None
empty-other f s p = record { says = tt }

empty-here : (big : Bool) (s : List ℕ) (p : ℕ) → p + 25 ≤ length s → get_or s (p + 10) 0 ≡ 10 → get_or s (p + 24) 0 ≡ 10
    → {a : ℕ} → AddressOnly big (take (p + 10 - p) (drop p s)) a → a ≤ 16777215 → {i : ℕ} → AreaOnly big (take (p + 24 - (p + 11)) (drop (p + 11) s)) i → i ≤ 65535 → EmptyPair (three big) s p (Some (record { address = a; area = i }))
empty-here big s p h e f {a} v lv {i} w lw =
    let x : p + 10 - p ≡ 10 = omega arith in
    let y : p + 24 - (p + 11) ≡ 13 = omega arith in
    let z₁ : p + 10 + 1 ≡ p + 11 = omega arith in
    let z₂ : p + 11 + 13 ≡ p + 24 = omega arith in
    let z₃ : p + 24 + 1 ≡ p + 25 = omega arith in
    let t : AddressOnly big (take 10 (drop p s)) a = rw x at v in
    let r : AreaOnly big (take 13 (drop (p + 11) s)) i = rw y at w in
    let l₂ = ended-line s (p + 11) 13 (omega arith) (r.plain (omega arith)) (rw z₂ f) in
    record {
      says = record {
        first = rw z₁ at (ended-line s p 10 (omega arith) (t.plain (omega arith)) e);
        second = rw (z₂, z₃) at l₂;
        inside = omega arith;
        content = content-empty (three big) (take 10 (drop p s)) (part-long s p 10 (omega arith)) (t.read (omega arith));
        relocation = relocation-empty (three big) (take 13 (drop (p + 11) s)) (part-long s (p + 11) 13 (omega arith)) (r.read (omega arith));
      };
    }

module _ (s : List ℕ) (p : ℕ) {r : Bool} (e : r ≡ ends_in_place s p) (o : not r ≡ false) where
  here : p + 25 ≤ length s
  here = (ends-parts s p e (not-false r o)).0

  pub empty-is : (big : Bool) {a : ℕ} → AddressOnly big (take (p + 10 - p) (drop p s)) a → a ≤ 16777215
      → {i : ℕ} → AreaOnly big (take (p + 24 - (p + 11)) (drop (p + 11) s)) i → i ≤ 65535 → EmptyPair (three big) s p (Some (record { address = a; area = i }))
  empty-is big v lv w lw = let x = ends-parts s p e (not-false r o) in empty-here big s p x.0 x.1 x.2 v lv w lw

  pub first-long : length (take (p + 10 - p) (drop p s)) ≡ 10
  first-long = let x : p + 10 - p ≡ 10 = omega arith in rw x (part-long s p 10 (omega (arith, here)))

  pub second-long : length (take (p + 24 - (p + 11)) (drop (p + 11) s)) ≡ 13
  second-long = let y : p + 24 - (p + 11) ≡ 13 = omega arith in rw y (part-long s (p + 11) 13 (omega (arith, here)))

  pub first-in : p + 10 ≤ length s
  first-in = omega (arith, here)

  pub second-in : p + 24 ≤ length s
  second-in = omega (arith, here)

  pub first_fits : length s < 2 ^ 64 → Fits w64 (p + 10)
  first_fits h = record { fits = omega (arith, here) }

  pub next_fits : length s < 2 ^ 64 → Fits w64 (p + 11)
  next_fits h = record { fits = omega (arith, here) }

  pub second_fits : length s < 2 ^ 64 → Fits w64 (p + 24)
  second_fits h = record { fits = omega (arith, here) }

-- `empty_pair`
pub empty-form : {f : text.Form} (s : List ℕ) (p : ℕ) {r : Option Empty} → f.radix ≡ 16 → f.width ≡ Three → EmptyPair (three f.big) s p r → EmptyPair (form_of f) s p r
empty-form s p e g w = rw (e, g) w

pub ruleset empties = (rules, empty-other, empty-is, first-long, second-long, first-in, second-in, first_fits, next_fits, second_fits, empty-form)
