-- No second answer fits a contract: what an answer tells is told by no other.
-- Assumes nothing.
use Prim.Native.Nat.{ℕ}
use mathlib.Core.Path.{◌≡◌, refl, ap}
use native.Mathlib.Omega.{arith}
use Rattle.std.specs.Prelude.{Option, Some, None, Result, Ok, Err}
use Rattle.format.specs.Number as the
use Rattle.numbers.specs.Told.{code as reason_code}
use Rattle.numbers.specs.declared.Halt.{Halt}
use Rattle.numbers.specs.declared.Read.{Read}
use Rattle.fields.proofs.Unique.{one_halt}
use Rattle.entry_line.specs.Told.{name_of, addr_of, entry_of, told_entry}
use Rattle.entry_line.specs.declared.Entry as code
use Rattle.entry_line.specs.declared.Entry.TheVariants.{Area, Symbol, Ignored}

one_addr : (a b : Option ℕ) → addr_of a ≡ addr_of b → a ≡ b
one_addr (Some v) (Some w) e = let p : v ≡ w = cc in rw p
one_addr (Some v) None e = absurd (let z : ◌≡◌ {A = ℕ} 0 1 = cc in omega arith)
one_addr None (Some w) e = absurd (let z : ◌≡◌ {A = ℕ} 0 1 = cc in omega arith)
one_addr None None e = refl

one_entry : (a b : code.Entry) → entry_of a ≡ entry_of b → a ≡ b
one_entry (Area a n z g x) (Area b m y f w) e = all (ap (λ (k : the.Name). k.at) names) (ap (λ (k : the.Name). k.length) names) (cc) (cc) (one_addr x w (cc))
  where
    names : name_of a n ≡ name_of b m
    names = cc

    all : a ≡ b → n ≡ m → z ≡ y → g ≡ f → x ≡ w → Area a n z g x ≡ Area b m y f w
    all p q r s t = rw (p, q, r, s, t)
one_entry (Area a n z g x) (Symbol b m r v) e = absurd (let z : ◌≡◌ {A = ℕ} 0 1 = cc in omega arith)
one_entry (Area a n z g x) Ignored e = absurd (let z : ◌≡◌ {A = ℕ} 0 1 = cc in omega arith)
one_entry (Symbol a n r v) (Area b m y f w) e = absurd (let z : ◌≡◌ {A = ℕ} 0 1 = cc in omega arith)
one_entry (Symbol a n r v) (Symbol b m s w) e = all (ap (λ (k : the.Name). k.at) names) (ap (λ (k : the.Name). k.length) names) (cc) (cc)
  where
    names : name_of a n ≡ name_of b m
    names = cc

    all : a ≡ b → n ≡ m → r ≡ s → v ≡ w → Symbol a n r v ≡ Symbol b m s w
    all p q t u = rw (p, q, t, u)
one_entry (Symbol a n r v) Ignored e = absurd (let z : ◌≡◌ {A = ℕ} 0 1 = cc in omega arith)
one_entry Ignored (Area b m y f w) e = absurd (let z : ◌≡◌ {A = ℕ} 0 1 = cc in omega arith)
one_entry Ignored (Symbol b m s w) e = absurd (let z : ◌≡◌ {A = ℕ} 0 1 = cc in omega arith)
one_entry Ignored Ignored e = refl

-- `parse_area`, `parse_symdefref`, `parse_entry`
pub one-entry-line : (a b : Result (Read code.Entry) Halt) → told_entry a ≡ told_entry b → a ≡ b
one-entry-line (Ok x) (Ok y) e =
    let p : x.value ≡ y.value = one_entry x.value y.value cc in
    let q : x.next ≡ y.next = cc in
    rw (p, q)
one-entry-line (Ok x) (Err h) e = absurd (let z : ◌≡◌ {A = ℕ} 0 1 = cc in omega arith)
one-entry-line (Err h) (Ok y) e = absurd (let z : ◌≡◌ {A = ℕ} 0 1 = cc in omega arith)
one-entry-line (Err h) (Err k) e =
    let c : reason_code h.reason ≡ reason_code k.reason = cc in
    let a : h.at ≡ k.at = cc in
    let s : h ≡ k = one_halt h k c a in
    rw s
