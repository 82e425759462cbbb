-- The header: any blanks, CR and LF; one of X D Q, one of H L, one of 2 3 4; then blanks.
-- Assumes nothing.
use Rattle.std.specs.Prelude.{suc, ℕ, ◌-◌, Bool, false, ◌||◌, List, [], ◌∷◌, length, eqb, leb, ltb}
use Rattle.std.proofs.Math.Option.{Option, none, some}
use Rattle.format.specs.Lists.{pick, run}
use Rattle.format.specs.Bytes.{is_blank, is_white}

-- radix, order of bytes (big or little), and the address length A
pub record Form : Type 0 where
  pub radix : ℕ
  pub big : Bool
  pub address_length : ℕ

-- a form, and the place behind it
pub record Head : Type 0 where
  pub form : Form
  pub next : ℕ

-- X, D, Q; 0 for any other byte
unfoldable pub radix_of : ℕ → ℕ
radix_of b = pick (eqb b 88) 16 (pick (eqb b 68) 10 (pick (eqb b 81) 8 0))

-- H or L
unfoldable pub is_order : ℕ → Bool
is_order b = eqb b 72 || eqb b 76

-- 2, 3 or 4
unfoldable pub is_length : ℕ → Bool
is_length c = pick (ltb c 50) false (leb c 52)

-- the three letters of a header
unfoldable pub is_form : ℕ → ℕ → ℕ → Bool
is_form a b c = pick (eqb (radix_of a) 0) false (pick (is_order b) (is_length c) false)

-- what the three letters say
unfoldable pub form_of : ℕ → ℕ → ℕ → Form
form_of a b c = record { radix = radix_of a; big = eqb b 72; address_length = c - 48 }

-- the header's letters at the start of a text
unfoldable pub letters : List ℕ → Option Head
letters [] = none
letters (a ∷ []) = none
letters (a ∷ b ∷ []) = none
letters (a ∷ b ∷ c ∷ rest) =
    pick (is_form a b c) (some (record { form = form_of a b c; next = suc (suc (suc (length (run is_blank rest)))) })) none

-- the same behind one more byte
unfoldable pub later : Option Head → Option Head
later none = none
later (some h) = some (record { form = h.form; next = suc h.next })

-- the header, and the place behind its blanks
unfoldable pub header : List ℕ → Option Head
header [] = none
header (b ∷ bs) = let r = later (header bs) in pick (is_white b) r (letters (b ∷ bs))
