-- What the theorems do not say: where two lines write a common position, their order matters. The smallest module that shows it, and one like it in
-- which they write no common position.
-- Assumes nothing.
use Rattle.std.specs.Prelude.{ℕ, ◌*◌, ◌≡◌, refl, true, List, [], ◌∷◌, get_or}
use Rattle.std.proofs.Common.{sym, ap, ◌∙◌, arith}
use Rattle.format.specs.Reading.{Lent, reading}
use Rattle.format.specs.Text.{bytes_of}
use Rattle.format.specs.Evaluate.{evaluate}
use Rattle.order.specs.Texts.{exchanged}

-- buffers of just their bounds
pub lent : Lent
lent = record { areas = 64 * 7; symbols = 1024 * 5; values = 65536; masks = 65536; fixups = 1024 * 9 }

-- 1 at position 0, and then 2
pub one-order : List ℕ
unfolding bytes_of
one-order = bytes_of "XH2\nA C size 1 flags 20\nT 0 0 1\nR 0 0 0 0\nT 0 0 2\nR 0 0 0 0\n"

-- the same with the bytes of the two pairs exchanged
pub other-order : List ℕ
unfolding bytes_of
other-order = bytes_of "XH2\nA C size 1 flags 20\nT 0 0 2\nR 0 0 0 0\nT 0 0 1\nR 0 0 0 0\n"

pub is-exchanged : exchanged 24 42 60 one-order ≡ other-order
unfolding bytes_of exchanged one-order other-order
is-exchanged = refl

pub one-image : (reading true lent one-order).values ≡ 2 ∷ []
unfolding evaluate bytes_of lent one-order
one-image = refl

pub other-image : (reading true lent other-order).values ≡ 1 ∷ []
unfolding evaluate bytes_of lent other-order
other-image = refl

-- another image
pub order-matters : (reading true lent one-order).values ≡ (reading true lent other-order).values → ⊥
order-matters e =
    let z : ◌≡◌ {A = ℕ} 2 1 = ap (λ (xs : List ℕ). get_or xs 0 0) (sym one-image ∙ (e ∙ other-image)) in
    omega arith

-- 1 at position 0 and 2 at position 1, and the other way round: the same image
pub apart-one : List ℕ
unfolding bytes_of
apart-one = bytes_of "XH2\nA C size 2 flags 20\nT 0 0 1\nR 0 0 0 0\nT 0 1 2\nR 0 0 0 0\n"

pub apart-same : ((reading true lent apart-one).values ≡ 1 ∷ 2 ∷ []) × ((reading true lent (exchanged 24 42 60 apart-one)).values ≡ 1 ∷ 2 ∷ [])
unfolding evaluate bytes_of exchanged lent apart-one
apart-same = (refl, refl)
