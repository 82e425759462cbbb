-- The conditions on a module whose code is laid, over the rows of its records.
-- Assumes nothing.
use Rattle.std.specs.Prelude.{ℕ, zero, suc, min, ◌+◌, ◌*◌, Bool, true, false, not, ◌&&◌, List, get_or, eqb, ltb, leb}
use Rattle.format.specs.Header.{Form}
use Rattle.laws.specs.Rows.{from}
use Rattle.homes.specs.Home.{home_at}
use Rattle.record_rows.specs.RecordRows.{pair_columns}
use Rattle.record_parts.specs.Parts.{fragment_from}
use Rattle.laid.specs.Fit.{fit_fragments}

-- the conditions go by the address length alone
abbrev pub form_by : ℕ → Form
form_by width = record { radix = 0; big = false; address_length = width }

-- the fragments of the k-th row of pairs
unfoldable pub body_at : (width : ℕ) (pairs fragments : List ℕ) (k : ℕ) → Bool
body_at width pairs fragments k = fit_fragments (form_by width) (from (fragment_from fragments) (get_or pairs (pair_columns * k + 5) 0) (get_or pairs (pair_columns * k + 6) 0))

-- those of n rows from the k-th on
unfoldable pub bodies_from : (width : ℕ) (pairs fragments : List ℕ) (k n : ℕ) → Bool
bodies_from width pairs fragments k zero = true
bodies_from width pairs fragments k (suc n) = body_at width pairs fragments k && bodies_from width pairs fragments (suc k) n

-- the j-th row's bytes and the positions from s up to e of an area have one in common
unfoldable pub meets : (pairs : List ℕ) (area s e j : ℕ) → Bool
meets pairs area s e j =
    let b = get_or pairs (pair_columns * j + 1) 0 in
    let d = b + get_or pairs (pair_columns * j + 4) 0 in
    eqb (get_or pairs (pair_columns * j + 2) 0) area && (ltb s e && (ltb s d && (ltb b e && ltb b d)))

-- none of n rows from the j-th on has
unfoldable pub clear_from : (pairs : List ℕ) (area s e j n : ℕ) → Bool
clear_from pairs area s e j zero = true
clear_from pairs area s e j (suc n) = not (meets pairs area s e j) && clear_from pairs area s e (suc j) n

-- where the k-th row's bytes end in its area's image
unfoldable pub end_at : (areas : List ℕ) (na : ℕ) (pairs : List ℕ) (k : ℕ) → ℕ
end_at areas na pairs k = min (get_or pairs (pair_columns * k + 1) 0 + get_or pairs (pair_columns * k + 4) 0) (home_at areas na (get_or pairs (pair_columns * k + 2) 0)).size

-- the k-th row writes no position in common with the n behind it
unfoldable pub apart_at : (areas : List ℕ) (na : ℕ) (pairs : List ℕ) (k n : ℕ) → Bool
apart_at areas na pairs k n = clear_from pairs (get_or pairs (pair_columns * k + 2) 0) (get_or pairs (pair_columns * k + 1) 0) (end_at areas na pairs k) (suc k) n

-- of n rows from the k-th on no two write a common position
unfoldable pub apart_from : (areas : List ℕ) (na : ℕ) (pairs : List ℕ) (k n : ℕ) → Bool
apart_from areas na pairs k zero = true
apart_from areas na pairs k (suc n) = apart_at areas na pairs k n && apart_from areas na pairs (suc k) n

-- both, of the first n rows; there are no more than 4,096
unfoldable pub fits_rows : (areas : List ℕ) (na : ℕ) (pairs fragments : List ℕ) (n width : ℕ) → Bool
fits_rows areas na pairs fragments n width = leb n 4096 && (bodies_from width pairs fragments 0 n && apart_from areas na pairs 0 n)
