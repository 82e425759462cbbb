-- No second answer fits a contract: what an answer tells is told by no other.
-- Assumes nothing.
use Prim.Native.Nat.{ℕ}
use mathlib.Core.Path.{◌≡◌, ap, sym, ◌∙◌}
use mathlib.Core.Bool.{Bool}
use mathlib.Core.List.{List}
use native.Mathlib.Omega.{arith}
use Rattle.std.specs.Prelude.{Result, Ok, Err}
use Rattle.format.specs.Pairs as pairs
use Rattle.lists.specs.declared.Run.{Run}
use Rattle.fragments.specs.Fragments.{FragmentsRead, Rows, told_fragment}
use Rattle.numbers.specs.Told.{told, code}
use Rattle.numbers.specs.declared.Halt.{Halt}
use Rattle.numbers.specs.declared.Read.{Read}
use Rattle.numbers.proofs.Unique.{one_number}
use Rattle.usual_fragment.specs.Usual.{seen}
use Rattle.usual_fragment.specs.declared.Fragment.{Fragment}

-- three columns
pub one-row : (fs : List pairs.Fragment) (ms es xs ms' es' xs' ms'' es'' xs'' : List ℕ) → Rows fs ms es xs ms' es' xs' → Rows fs ms es xs ms'' es'' xs'' → (ms' ≡ ms'') × (es' ≡ es'') × (xs' ≡ xs'')
one-row fs ms es xs ms' es' xs' ms'' es'' xs'' a b = (a.of-modes ∙ sym b.of-modes, a.of-entries ∙ sym b.of-entries, a.of-indexes ∙ sym b.of-indexes)

-- `parse_reloc_frag`
pub one-fragments : (radix : ℕ) (big : Bool) (s : List ℕ) (at : ℕ) (r r' : Run) (ms es xs ms' es' xs' ms'' es'' xs'' : List ℕ) → FragmentsRead radix big s at r ms es xs ms' es' xs' → FragmentsRead radix big s at r' ms es xs ms'' es'' xs''
    → (r ≡ r') × ((ms' ≡ ms'') × (es' ≡ es'') × (xs' ≡ xs''))
one-fragments radix big s at r r' ms es xs ms' es' xs' ms'' es'' xs'' a b =
    (same (a.ran.counted ∙ sym b.ran.counted) (a.ran.reached ∙ sym b.ran.reached), one-row _ ms es xs ms' es' xs' ms'' es'' xs'' a.stored b.stored)
  where
    same : r.count ≡ r'.count → r.end ≡ r'.end → r ≡ r'
    same p q = ap (λ (n : ℕ). record { count = n; end = r.end }) p ∙ ap (λ (n : ℕ). record { count = r'.count; end = n }) q

-- two halts that are told alike are one
one-halt : (h k : Halt) → code h.reason ≡ code k.reason → h.at ≡ k.at → h ≡ k
one-halt h k c p =
    let e : told (Err h) ≡ told (Err k) = rw (c, p) in
    let same : ◌≡◌ {A = Result (Read ℕ) Halt} (Err h) (Err k) = one_number (Err h) (Err k) e in
    cc

-- `fragment_at`
pub one-fragment : (a b : Result (Read Fragment) Halt) → told_fragment a ≡ told_fragment b → a ≡ b
one-fragment (Ok r) (Ok q) h =
    all (ap (λ (k : pairs.Fragment). k.mode) same) (ap (λ (k : pairs.Fragment). k.entry) same) (ap (λ (k : pairs.Fragment). k.index) same) (cc)
  where
    same : seen r.value ≡ seen q.value
    same = cc

    all : r.value.mode ≡ q.value.mode → r.value.entry ≡ q.value.entry → r.value.index ≡ q.value.index → r.next ≡ q.next → ◌≡◌ {A = Result (Read Fragment) Halt} (Ok r) (Ok q)
    all w x y z = rw (w, x, y, z)
one-fragment (Ok r) (Err h) e = absurd (let z : ◌≡◌ {A = ℕ} 0 1 = cc in omega arith)
one-fragment (Err h) (Ok r) e = absurd (let z : ◌≡◌ {A = ℕ} 0 1 = cc in omega arith)
one-fragment (Err h) (Err k) e =
    let c : code h.reason ≡ code k.reason = cc in
    let p : h.at ≡ k.at = cc in
    let same = one-halt h k c p in
    rw same
