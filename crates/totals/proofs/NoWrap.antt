-- No sum wraps for up to 10,000 modules: each total is the exact sum of what the modules have.
-- Assumes nothing.
use Rattle.std.proofs.Common.{◌≡◌, ℕ, zero, suc, ◌+◌, ◌*◌, ◌%◌, ◌^◌, ◌<◌, ◌≤◌, List, [], ◌∷◌, length, sym, refl, ap, ◌∙◌, arith}
use Rattle.format.specs.Target.{wrap_add}
use Rattle.totals.specs.declared.Totals.{Totals}
use Rattle.totals.specs.Totals.{of_none, plus, plus_classes, plus_figures, plus_verdicts}
use Rattle.totals.specs.Many.{added, AllLow, byte, end_of_totals, exactly, finished, fixups, kept, known, modules, most_modules, most_of_one, number, Number, positions, refused, stopped, unequal, unwritten, addr11, addr16, addr19, addr24}

-- each number is added by itself
pub plus-number : (k : Number) (a b : Totals) → number k (plus a b) ≡ wrap_add (number k a) (number k b)
unfolding plus plus_verdicts plus_figures plus_classes
plus-number modules a b = refl
plus-number refused a b = refl
plus-number finished a b = refl
plus-number stopped a b = refl
plus-number unequal a b = refl
plus-number kept a b = refl
plus-number positions a b = refl
plus-number unwritten a b = refl
plus-number known a b = refl
plus-number fixups a b = refl
plus-number addr19 a b = refl
plus-number addr11 a b = refl
plus-number addr24 a b = refl
plus-number addr16 a b = refl
plus-number byte a b = refl

small : (a b : ℕ) → a + b < end_of_totals → wrap_add a b ≡ a + b
unfolding wrap_add
small a b h = omega arith

exact-low : (g : Totals → ℕ) (ms : List Totals) → AllLow g ms → exactly g ms ≤ most_of_one * length ms
unfolding exactly
exact-low g [] h = omega arith
exact-low g (m ∷ ms) h = omega (arith, h.0, exact-low g ms h.1)

exact-from : (k : Number) (t : Totals) (ms : List Totals) → number k t + exactly (number k) ms < end_of_totals → number k (added t ms) ≡ number k t + exactly (number k) ms
unfolding added exactly
exact-from k t [] h = omega arith
exact-from k t (m ∷ ms) h =
    let e : number k (plus t m) ≡ number k t + number k m = plus-number k t m ∙ small (number k t) (number k m) (omega arith) in
    exact-from k (plus t m) ms (omega arith) ∙ omega arith

none_yet : (k : Number) → number k of_none ≡ 0
none_yet modules = refl
none_yet refused = refl
none_yet finished = refl
none_yet stopped = refl
none_yet unequal = refl
none_yet kept = refl
none_yet positions = refl
none_yet unwritten = refl
none_yet known = refl
none_yet fixups = refl
none_yet addr19 = refl
none_yet addr11 = refl
none_yet addr24 = refl
none_yet addr16 = refl
none_yet byte = refl

-- every total of up to 10,000 modules is exact
pub no-sum-wraps : (k : Number) (ms : List Totals) → length ms ≤ most_modules → AllLow (number k) ms → number k (added of_none ms) ≡ exactly (number k) ms
no-sum-wraps k ms few low = exact-from k of_none ms (omega (arith, none_yet k, exact-low (number k) ms low)) ∙ omega (arith, none_yet k)
