-- No second answer fits a contract: what an answer tells is told by no other.
-- Assumes nothing.
use Prim.Native.Nat.{ℕ}
use mathlib.Core.Path.{◌≡◌, sym, ◌∙◌}
use mathlib.Core.List.{List}
use native.Mathlib.Omega.{arith}
use Rattle.std.specs.Prelude.{Result, Ok, Err}
use Rattle.format.specs.Got.{Got}
use Rattle.format.specs.Pairs as pairs
use Rattle.fragments.proofs.Unique.{one-row}
use Rattle.pair_line.specs.Pairs.{told_content, told_relocation, Contents, Relocations}
use Rattle.numbers.specs.Told.{code}
use Rattle.numbers.specs.declared.Halt.{Halt}
use Rattle.fields.proofs.Unique.{one_halt}
use Rattle.pair_line.specs.declared.content.Content.{Content}
use Rattle.pair_line.specs.declared.relocations.Relocation.{Relocation}

one-content-line : (a b : Result Content Halt) → told_content a ≡ told_content b → a ≡ b
one-content-line (Ok c) (Ok d) e =
    let p : c.address ≡ d.address = cc in
    let q : c.count ≡ d.count = cc in
    let r : c.used ≡ d.used = cc in
    rw (p, q, r)
one-content-line (Ok c) (Err h) e = absurd (let z : ◌≡◌ {A = ℕ} 0 1 = cc in omega arith)
one-content-line (Err h) (Ok c) e = absurd (let z : ◌≡◌ {A = ℕ} 0 1 = cc in omega arith)
one-content-line (Err h) (Err k) e =
    let c : code h.reason ≡ code k.reason = cc in
    let p : h.at ≡ k.at = cc in
    rw (one_halt h k c p)

-- `parse_content`, `whole_content`
pub one-content : (m read : Got pairs.Content) (room : List ℕ) (r r' : Result Content Halt) (left left' : List ℕ) → Contents m read room r left → Contents m read room r' left' → (r ≡ r') × (left ≡ left')
one-content m read room r r' left left' a b = (one-content-line r r' (a.answered ∙ sym b.answered), a.stored ∙ sym b.stored)

one-relocation-line : (a b : Result Relocation Halt) → told_relocation a ≡ told_relocation b → a ≡ b
one-relocation-line (Ok c) (Ok d) e =
    let p : c.area ≡ d.area = cc in
    let q : c.count ≡ d.count = cc in
    let r : c.used ≡ d.used = cc in
    rw (p, q, r)
one-relocation-line (Ok c) (Err h) e = absurd (let z : ◌≡◌ {A = ℕ} 0 1 = cc in omega arith)
one-relocation-line (Err h) (Ok c) e = absurd (let z : ◌≡◌ {A = ℕ} 0 1 = cc in omega arith)
one-relocation-line (Err h) (Err k) e =
    let c : code h.reason ≡ code k.reason = cc in
    let p : h.at ≡ k.at = cc in
    rw (one_halt h k c p)

-- `parse_reloc_line`
pub one-relocation : (m : Got pairs.Relocation) (r r' : Result Relocation Halt) (ms es xs ms' es' xs' ms'' es'' xs'' : List ℕ) → Relocations m r ms es xs ms' es' xs' → Relocations m r' ms es xs ms'' es'' xs''
    → (r ≡ r') × ((ms' ≡ ms'') × (es' ≡ es'') × (xs' ≡ xs''))
one-relocation m r r' ms es xs ms' es' xs' ms'' es'' xs'' a b = (one-relocation-line r r' (a.answered ∙ sym b.answered), one-row _ ms es xs ms' es' xs' ms'' es'' xs'' a.stored b.stored)
