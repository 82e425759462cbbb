-- From an answer about a header or a target to its numbers.
-- Assumes nothing.
use Prim.Native.Nat.{suc, ℕ}
use mathlib.Core.Path.{◌≡◌, refl, ap, sym}
use borrow.Author.Rules.{rules}
use Rattle.format.specs.Rows.{flag}
use Rattle.header.specs.Told.{told_head, more_of}
use Rattle.header.specs.declared.Form.{Form}
use Rattle.header.specs.declared.Width.{Width}
use Rattle.header.specs.declared.Width.TheVariants.{Four, Three, Two}
use Rattle.header.specs.declared.Head.{Head}
use Rattle.header.specs.declared.Head.TheVariants.{Found, Missing}
use Rattle.target_asked.specs.Asked as targets
use Rattle.std.specs.Prelude.{Result, Ok, Err}
use Rattle.target_asked.specs.declared.Refusal.{Refusal}
use Rattle.answer_numbers.specs.Numbers.{header_numbers, target_numbers}

pub at-numbers : {a : Result ℕ Refusal} {t : ℕ} → a ≡ Ok t → target_numbers (targets.told (Ok t)) ≡ target_numbers (targets.told a)
at-numbers e = sym (ap (λ (x : Result ℕ Refusal). target_numbers (targets.told x)) e)

pub refused-target : {a : Result ℕ Refusal} {r : Refusal} → a ≡ Err r → target_numbers (targets.told (Err r)) ≡ target_numbers (targets.told a)
refused-target e = sym (ap (λ (x : Result ℕ Refusal). target_numbers (targets.told x)) e)

pub header-numbers : {head : Head} {form : Form} {next radix big width : ℕ}
    → head ≡ Found form next → radix ≡ form.radix → big ≡ flag form.big → width ≡ suc (more_of form.width)
    → record { refusal = 0; radix = radix; big = big; width = width } ≡ header_numbers (told_head head)
header-numbers e r b w = rw (e, r, b, w) refl

pub no_header : {head : Head} → head ≡ Missing → record { refusal = 4; radix = 0; big = 0; width = 0 } ≡ header_numbers (told_head head)
no_header e = rw e refl

-- an address has so many bytes
pub two_bytes : {w : Width} → w ≡ Two → 2 ≡ suc (more_of w)
two_bytes e = rw e refl

pub three-bytes : {w : Width} → w ≡ Three → 3 ≡ suc (more_of w)
three-bytes e = rw e refl

pub four_bytes : {w : Width} → w ≡ Four → 4 ≡ suc (more_of w)
four_bytes e = rw e refl

pub ruleset numbers = (rules, at-numbers, refused-target, two_bytes, three-bytes, four_bytes, header-numbers, no_header)
