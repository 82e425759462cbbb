-- The format specifier at the head of a module, read back.
-- Assumes nothing.
use Prim.Native.Nat.{ℕ, ◌-◌}
use mathlib.Core.Path.{◌≡◌, refl}
use mathlib.Core.Bool.{false, true}
use mathlib.Core.List.{List, [], ◌++◌}
use mathlib.Core.Option.{some}
use lib.Dec.{eqb}
use Rattle.format.specs.Lists.{run}
use Rattle.format.specs.Bytes.{is_blank, is_cr_or_lf, is_white}
use Rattle.format.specs.Header.{form_of as form_by, header, is_form, is_length, is_order, letters, radix_of}
use Rattle.manual.specs.Specifier.{Addressing, D, H, L, Order, Q, Radix, Specifier, X, address_bytes, addressing_letter, base, bits16, bits24, bits32, form_of, is_big, order_letter, radix_letter, write_specifier}

radix-read : (r : Radix) → radix_of (radix_letter r) ≡ base r
unfolding radix_of
radix-read X = refl
radix-read D = refl
radix-read Q = refl

radix-some : (r : Radix) → eqb (base r) 0 ≡ false
radix-some X = refl
radix-some D = refl
radix-some Q = refl

radix-black : (r : Radix) → is_white (radix_letter r) ≡ false
unfolding is_white is_blank is_cr_or_lf
radix-black X = refl
radix-black D = refl
radix-black Q = refl

order-read : (o : Order) → is_order (order_letter o) ≡ true
unfolding is_order
order-read H = refl
order-read L = refl

order-big : (o : Order) → eqb (order_letter o) 72 ≡ is_big o
order-big H = refl
order-big L = refl

addressing-read : (a : Addressing) → is_length (addressing_letter a) ≡ true
unfolding is_length
addressing-read bits16 = refl
addressing-read bits24 = refl
addressing-read bits32 = refl

addressing-length : (a : Addressing) → addressing_letter a - 48 ≡ address_bytes a
addressing-length bits16 = refl
addressing-length bits24 = refl
addressing-length bits32 = refl

-- [XDQ][HL][234] at the start of a text, with no blank behind: the form, and the place behind its three letters
pub a-written-specifier-reads-back : (f : Specifier) (rest : List ℕ) → run is_blank rest ≡ [] → header (write_specifier f ++ rest) ≡ some (record { form = form_of f; next = 3 })
unfolding header write_specifier letters is_form form_by
a-written-specifier-reads-back f rest h =
    rw (
      radix-black f.radix,
      radix-read f.radix,
      radix-some f.radix,
      order-read f.order,
      addressing-read f.addressing,
      order-big f.order,
      addressing-length f.addressing,
      h,
    )
