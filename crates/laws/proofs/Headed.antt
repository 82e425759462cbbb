-- A header that the reading takes: what 18 leaves of what was parsed.
-- Assumes nothing.
use Prim.Native.Nat.{ℕ}
use mathlib.Core.Path.{◌≡◌, ap, refl, sym, ◌∙◌}
use mathlib.Core.Bool.{Bool, false, true}
use mathlib.Core.List.{List}
use lib.Dec.{eqb}
use borrow.Author.Tests.{eqb-true, eq-eqb}
use Rattle.format.specs.Header.{Form}
use Rattle.format.specs.Lists.{pick}
use Rattle.format.specs.Outcome.{Outcome, and_then, fine, refused}
use Rattle.format.specs.Records.{Parsed, parsed}
use Rattle.format.specs.Reading.{headed, only_x, takes}
use Rattle.laws.proofs.Outcomes.{chain, follow, passed}

-- what was taken was parsed, and its radix is one that the reading takes
pub record Headed (ended : Bool) (text : List ℕ) (p : Parsed) : Type 0 where
  pub parses : parsed ended text ≡ fine p
  pub taken : takes ended p.form.radix ≡ true

pub was-headed : (ended : Bool) (text : List ℕ) (p : Parsed) → headed ended text ≡ fine p → Headed ended text p
unfolding headed only_x
was-headed ended text p h =
    let one = chain (parsed ended text) (only_x ended) p h in
    let two = passed (takes ended one.value.form.radix) (fine one.value) 18 0 p one.second in
    let same : one.value ≡ p = cc two.1 in
    record {
      parses = one.first ∙ ap {B = Outcome Parsed} fine same;
      taken = ap (λ (x : Parsed). takes ended x.form.radix) (sym same) ∙ two.0;
    }

pub headed-parsed : (ended : Bool) (text : List ℕ) (p : Parsed) → headed ended text ≡ fine p → parsed ended text ≡ fine p
headed-parsed ended text p h = (was-headed ended text p h).parses

-- a text that is parsed is taken where its radix is
pub is-headed : (ended : Bool) (text : List ℕ) (p : Parsed) → parsed ended text ≡ fine p → takes ended p.form.radix ≡ true → headed ended text ≡ fine p
unfolding headed only_x
is-headed ended text p h t = follow (parsed ended text) (only_x ended) h (rw t)

-- so another text with a form that was taken is taken
pub headed-alike : (ended : Bool) (text other : List ℕ) (p q : Parsed) → headed ended text ≡ fine p → parsed ended other ≡ fine q → p.form ≡ q.form → headed ended other ≡ fine q
headed-alike ended text other p q h k e =
    is-headed ended other q k (ap (λ (f : Form). takes ended f.radix) (sym e) ∙ (was-headed ended text p h).taken)

-- the ended reading takes X
pub x-is-headed : (ended : Bool) (text : List ℕ) (p : Parsed) → parsed ended text ≡ fine p → p.form.radix ≡ 16 → headed ended text ≡ fine p
unfolding takes
x-is-headed ended text p h e = is-headed ended text p h (go ended p.form.radix e)
  where
    go : (t : Bool) (r : ℕ) → r ≡ 16 → takes t r ≡ true
    go true r i = rw i
    go false r i = refl

-- and nothing else
pub headed-is-x : (text : List ℕ) (p : Parsed) → headed true text ≡ fine p → p.form.radix ≡ 16
unfolding takes
headed-is-x text p h = eqb-true p.form.radix 16 (was-headed true text p h).taken

-- 4 goes before 18
pub headed-refused : (ended : Bool) (text : List ℕ) (n place : ℕ) → parsed ended text ≡ refused n place → headed ended text ≡ refused n place
unfolding headed
headed-refused ended text n place h = ap (λ (o : Outcome Parsed). and_then o (only_x ended)) h

-- an otherwise good header of another radix is refused with 18
pub headed-18 : (text : List ℕ) (p : Parsed) → parsed true text ≡ fine p → eqb p.form.radix 16 ≡ false → headed true text ≡ refused 18 0
unfolding headed only_x takes
headed-18 text p h e = follow (parsed true text) (only_x true) h (rw e)
