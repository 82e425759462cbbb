-- What the fast way of a fragment finds: a fragment that the definition reads, where it answers one.
-- Assumes nothing.
use Rattle.std.specs.Prelude.{ℕ, ◌+◌, ◌≡◌, Bool, List, eqb, get_or, Option, Some, None}
use Rattle.format.specs.Lists.{pick}
use Rattle.format.specs.Got.{is}
use Rattle.format.specs.Number.{next_byte}
use Rattle.format.specs.Pairs.{next_index, fragment}
use Rattle.digits.specs.Capitals.{capitals}
use Rattle.format.specs.Pairs as the
use Rattle.numbers.specs.declared.Read.{Read}
use Rattle.usual_fragment.specs.declared.Fragment.{Fragment}

-- three bytes as one space and two capital digits: what the digits are worth; 256 where anything else stands there
unfoldable pub triple : List ℕ → ℕ → ℕ
triple s p = pick (eqb (get_or s p 0) 32) (capitals (get_or s (p + 1) 0) (get_or s (p + 2) 0)) 256

-- the code's fragment as the definition's
abbrev pub seen : Fragment → the.Fragment
seen f = record { mode = f.mode; entry = f.entry; index = f.index }

-- entry and index behind a mode
abbrev pub TailSays : Bool → List ℕ → (p mode : ℕ) → Option (Read Fragment) → Type 0
TailSays big s p mode (Some r) = (r.value.mode ≡ mode) × (get_or s p 0 ≡ 32) × (next_byte 16 s p ≡ is r.value.entry (p + 3)) × (next_index 16 big s (p + 3) ≡ is r.value.index r.next)
TailSays big s p mode None = Unit {0}

pub record TailIs (big : Bool) (s : List ℕ) (p mode : ℕ) (r : Option (Read Fragment)) : Type 0 where
  pub says : TailSays big s p mode r

-- the whole fragment
abbrev pub UsualSays : ℕ → Bool → List ℕ → ℕ → Option (Read Fragment) → Type 0
UsualSays radix big s at (Some r) = fragment radix big s at ≡ is (seen r.value) r.next
UsualSays radix big s at None = Unit {0}

pub record UsualIs (radix : ℕ) (big : Bool) (s : List ℕ) (at : ℕ) (r : Option (Read Fragment)) : Type 0 where
  pub says : UsualSays radix big s at r
