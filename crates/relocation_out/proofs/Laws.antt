-- The laws of fragments and R lines written part by part.
-- Assumes nothing.
use Prim.Native.Nat.{ℕ, suc, zero, ◌%◌, ◌*◌, ◌+◌, ◌/◌, ◌^◌, ◌<◌, ◌≤◌}
use mathlib.Core.Path.{◌≡◌, ap, refl, subst, sym, ◌∙◌}
use mathlib.Core.Bool.{Bool}
use mathlib.Core.List.{List, [], append_assoc, append-nil, ◌++◌, ◌∷◌}
use native.Mathlib.Omega.{arith}
use native.Mathlib.Nat.{add-suc, add-zero, suc-add}
use lib.ListN.{get_or, length}
use lib.Seq.{length-sets}
use borrow.Author.Rules.{rules}
use borrow.Author.Tests.{le-ltb, lt-ltb}
use Rattle.format.specs.Lists.{flat}
use Rattle.format.specs.Pairs.{Fragment}
use Rattle.laws.specs.Rows.{from}
use Rattle.laws.proofs.Room.{flat_append}
use Rattle.format.specs.Header.{Form}
use Rattle.manual.specs.Each.{Each}
use Rattle.manual.specs.WrittenPairs.{Writable, fragment_bytes, shortest}
use Rattle.written.specs.Named.{NamedPair}
use Rattle.written.specs.Writing.{hex_of, line_ended, relocation_text}
use Rattle.written.specs.Shapes.{hex_bytes, relocation_bytes}
use Rattle.written.proofs.Shapes.{relocation-shape}
use Rattle.digits_out.specs.Wrote.{Wrote}
use Rattle.digits_out.proofs.Laws.{place_in, then-wrote}
use Rattle.content_out.specs.ContentOut.{low_bytes}
use Rattle.content_out.proofs.Laws.{hex-append}
use Rattle.relocation_out.specs.RelocationOut.{part_bytes, parts_of, relocation_out, row_at}

-- `put_mode`
module _ (m : ℕ) {out out₁ : List ℕ} {at r : ℕ} where
  pub mode-short : m % 2048 < 240 → Wrote (hex_bytes (m % 2048 ∷ [])) out at r out₁ → Wrote (hex_bytes (shortest (m % 2048))) out at r out₁
  mode-short h w = rw (lt-ltb (m % 2048) 240 h) w

  pub mode-long : 240 ≤ m % 2048 → Wrote (hex_bytes ((240 + m % 2048 / 256) ∷ (m % 2048 % 256) ∷ [])) out at r out₁ → Wrote (hex_bytes (shortest (m % 2048))) out at r out₁
  mode-long h w = rw (le-ltb (m % 2048) 240 h) w

pub ruleset modes = (rules, mode-short, mode-long)

-- `put_part`
pub part-wrote : (b : Bool) (m e i : ℕ) {out o₁ o₂ o₃ : List ℕ} {at p q r : ℕ} → length out < 2 ^ 64 → Wrote (hex_bytes (shortest (m % 2048))) out at p o₁ → Wrote (hex_bytes (e % 256 ∷ [])) o₁ p q o₂
    → Wrote (hex_bytes (low_bytes b 2 i)) o₂ q r o₃ → Wrote (hex_bytes (part_bytes b (record { mode = m; entry = e; index = i }))) out at r o₃
unfolding part_bytes
part-wrote b m e i {out} {o₁} {o₂} {o₃} {at} {p} {q} {r} h x y z =
    let k : hex_bytes (shortest (m % 2048)) ++ (hex_bytes (e % 256 ∷ []) ++ hex_bytes (low_bytes b 2 i)) ≡ hex_bytes (shortest (m % 2048) ++ (e % 256 ∷ low_bytes b 2 i)) =
    ap (λ (l : List ℕ). hex_bytes (shortest (m % 2048)) ++ l) (sym (hex-append (e % 256 ∷ []) (low_bytes b 2 i))) ∙ sym (hex-append (shortest (m % 2048)) (e % 256 ∷ low_bytes b 2 i)) in
    subst (λ (l : List ℕ). Wrote l out at r o₃) (append_assoc (hex_bytes (shortest (m % 2048))) (hex_bytes (e % 256 ∷ [])) (hex_bytes (low_bytes b 2 i)) ∙ k) (then-wrote h (then-wrote h x y) z)

pub ruleset partings = (rules, part-wrote)

-- `put_row`
pub row_wrote : (b : Bool) (rows : List ℕ) (i : ℕ) {m e x : ℕ} {out out₁ : List ℕ} {at r : ℕ} → m ≡ get_or rows (3 * i) 0 → e ≡ get_or rows (3 * i + 1) 0 → x ≡ get_or rows (3 * i + 2) 0
    → Wrote (hex_bytes (part_bytes b (record { mode = m; entry = e; index = x }))) out at r out₁ → Wrote (hex_bytes (part_bytes b (row_at rows i))) out at r out₁
unfolding row_at
row_wrote b rows i p q s w = rw (← p, ← q, ← s) w

pub ruleset rowing = (rules, row_wrote)

-- `put_parts`
one_more : {A : Type 0} (g : ℕ → A) (a n : ℕ) → from g a (suc n) ≡ from g a n ++ g (a + n) ∷ []
unfolding from
one_more g a zero = rw add-zero
one_more g a (suc n) = ap (λ (l : List _). g a ∷ l) (one_more g (suc a) n ∙ rw (suc-add, ← add-suc))

pub record Parts (b : Bool) (rows : List ℕ) (first : ℕ) (out₀ : List ℕ) (at i p : ℕ) (out : List ℕ) : Type 0 where
  pub wrote : Wrote (hex_bytes (parts_of b rows first i)) out₀ at p out
  pub long : length out ≡ length out₀
  pub room : length out₀ < 2 ^ 64

pub parts-start : (b : Bool) (rows : List ℕ) (first : ℕ) (out : List ℕ) (at : ℕ) → at < 2 ^ 64 → length out < 2 ^ 64 → Parts b rows first out at 0 at out
unfolding parts_of from flat hex_bytes
parts-start b rows first out at h k = record { wrote = record { place = sym (place_in (at + 0) (omega arith) ∙ add-zero at); stored = refl }; long = refl; room = k }

module _ {b : Bool} {rows : List ℕ} {first : ℕ} {out₀ out : List ℕ} {at i p : ℕ} (x : Parts b rows first out₀ at i p out) where
  parts-more-bytes : parts_of b rows first (i + 1) ≡ parts_of b rows first i ++ part_bytes b (row_at rows (first + i))
  unfolding parts_of flat
  parts-more-bytes =
      let s : i + 1 ≡ suc i = omega arith in
      ap (λ (n : ℕ). flat (part_bytes b) (from (row_at rows) first n)) s
      ∙ (ap (flat (part_bytes b)) (one_more (row_at rows) first i) ∙ (flat_append (part_bytes b) (from (row_at rows) first i) (row_at rows (first + i) ∷ []) ∙ ap (λ (l : List ℕ). flat (part_bytes b) (from (row_at rows) first i) ++ l) (flat-one (row_at rows (first + i)))))
    where
      flat-one : (f : Fragment) → flat (part_bytes b) (f ∷ []) ≡ part_bytes b f
      flat-one f = append-nil (part_bytes b f)

  pub parts_more : {out₁ : List ℕ} {q : ℕ} → Wrote (hex_bytes (part_bytes b (row_at rows (first + i)))) out p q out₁ → Parts b rows first out₀ at (i + 1) q out₁
  parts_more {out₁} {q} y =
      let e : hex_bytes (parts_of b rows first i) ++ hex_bytes (part_bytes b (row_at rows (first + i))) ≡ hex_bytes (parts_of b rows first (i + 1)) =
      sym (hex-append (parts_of b rows first i) (part_bytes b (row_at rows (first + i)))) ∙ ap hex_bytes (sym parts-more-bytes) in
      record {
        wrote = subst (λ (l : List ℕ). Wrote l out₀ at q out₁) e (then-wrote x.room x.wrote y);
        long = ap length y.stored ∙ (length-sets out p (hex_bytes (part_bytes b (row_at rows (first + i)))) ∙ x.long);
        room = x.room;
      }

pub parts-end : {b : Bool} {rows : List ℕ} {first n : ℕ} {out₀ out : List ℕ} {at i p : ℕ} → Parts b rows first out₀ at i p out → i ≤ n → n ≤ i → Wrote (hex_bytes (parts_of b rows first n)) out₀ at p out
parts-end {b} {rows} {first} {n} {out₀} {out} {at} {i} {p} x h k = let e : i ≡ n = omega arith in subst (λ (m : ℕ). Wrote (hex_bytes (parts_of b rows first m)) out₀ at p out) e x.wrote

pub ruleset looping = (rules, parts-start, parts_more, parts-end)

-- `put_relocation`
pub relocation-wrote : (b : Bool) (area : ℕ) (rows : List ℕ) (first n : ℕ) {out o₁ o₂ o₃ o₄ : List ℕ} {at p q r e : ℕ} → length out < 2 ^ 64 → Wrote (82 ∷ 32 ∷ 48 ∷ 48 ∷ 32 ∷ 48 ∷ 48 ∷ []) out at p o₁
    → Wrote (hex_bytes (low_bytes b 2 area)) o₁ p q o₂ → Wrote (hex_bytes (parts_of b rows first n)) o₂ q r o₃ → Wrote (10 ∷ []) o₃ r e o₄ → Wrote (relocation_out b area rows first n) out at e o₄
unfolding relocation_out hex_bytes
relocation-wrote b area rows first n {out} {o₁} {o₂} {o₃} {o₄} {at} {p} {q} {r} {e} h x y z v =
    subst (λ (l : List ℕ). Wrote l out at e o₄) (ap (λ (l : List ℕ). (82 ∷ 32 ∷ 48 ∷ 48 ∷ 32 ∷ 48 ∷ 48 ∷ l) ++ 10 ∷ []) (sym (hex-append (low_bytes b 2 area) (parts_of b rows first n)))) (then-wrote h (then-wrote h (then-wrote h x y) z) v)

pub ruleset relocating = (rules, relocation-wrote)

-- the line is that of `written`, for fragments that can be written
part_same : (f : Form) (x : Fragment) → Writable 2048 x → part_bytes f.big x ≡ fragment_bytes (hex_of f) shortest x
unfolding part_bytes low_bytes hex_of
part_same f x w =
    let m : x.mode % 2048 ≡ x.mode = omega (arith, w.mode-below) in
    let e : x.entry % 256 ≡ x.entry = omega (arith, w.entry-below) in
    rw (m, e)

parts_same : (f : Form) (xs : List Fragment) → Each (Writable 2048) xs → flat (part_bytes f.big) xs ≡ flat (fragment_bytes (hex_of f) shortest) xs
unfolding flat
parts_same f [] h = refl
parts_same f (x ∷ xs) h = ap (λ (l : List ℕ). l ++ flat (part_bytes f.big) xs) (part_same f x h.0) ∙ ap (λ (l : List ℕ). fragment_bytes (hex_of f) shortest x ++ l) (parts_same f xs h.1)

pub relocation-of-form : (f : Form) (rows : List ℕ) (first n : ℕ) (p : NamedPair) → p.relocation.fragments ≡ from (row_at rows) first n → Each (Writable 2048) p.relocation.fragments
    → relocation_out f.big p.relocation.area rows first n ≡ line_ended (relocation_text (hex_of f) p)
unfolding relocation_out parts_of low_bytes relocation_bytes hex_of
relocation-of-form f rows first n p e h =
    let s : flat (part_bytes f.big) (from (row_at rows) first n) ≡ flat (fragment_bytes (hex_of f) shortest) p.relocation.fragments = ap (flat (part_bytes f.big)) (sym e) ∙ parts_same f p.relocation.fragments h in
    ap (λ (l : List ℕ). line_ended (82 ∷ hex_bytes (0 ∷ 0 ∷ (low_bytes f.big 2 p.relocation.area ++ l)))) s ∙ ap line_ended (sym (relocation-shape f p h))
