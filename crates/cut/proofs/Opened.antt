-- A cut text that keeps its header line: what the ended reading opens with, and that refusals 1 to 3 do not come up.
-- Assumes nothing.
use Prim.Native.Nat.{ℕ, zero, suc, ◌+◌, ◌-◌, ◌≤◌}
use mathlib.Core.Path.{◌≡◌, refl, sym, ap, ◌∙◌}
use mathlib.Core.List.{List, [], ◌∷◌}
use mathlib.Core.Option.{Option, none, some}
use mathlib.Core.Bool.{Bool, true, false}
use native.Mathlib.Omega.{arith}
use native.Mathlib.Nat.{zero-add, suc-add}
use lib.ListN.{length, take, drop, length-take}
use lib.Seq.{take-nil}
use lib.Dec.{leb}
use borrow.Author.Tests.{leb-true, le-leb}
use Rattle.format.specs.Lists.{pick}
use Rattle.format.specs.Header.{Head, header}
use Rattle.format.specs.Lines.{lines}
use Rattle.format.specs.Outcome.{fine, refused}
use Rattle.format.specs.Records.{Records, records, Parsed, parsed_at, parsed_from, parsed}
use Rattle.format.specs.Reading.{Lent, lent_room, first_high, no_high, allowed}
use Rattle.cut.proofs.Lines.{lines-take}
use Rattle.cut.specs.Cut.{cut_records}
use Rattle.cut.proofs.Records.{records-cut}
use Rattle.cut.proofs.Header.{Lost, gone, open-ended}
use Rattle.laws.proofs.Outcomes.{passed, unlike}
unfoldable pub use Rattle.laws.proofs.Opened.{opened}
pub use Rattle.laws.proofs.Opened.{Opened, opens, parsed-at}

high-step : (b at : ℕ) (rest rest' : Option ℕ) (t : Bool) → (rest ≡ none → rest' ≡ none) → pick t (some at) rest ≡ none → pick t (some at) rest' ≡ none
high-step b at rest rest' true ih h = h
high-step b at rest rest' false ih h = ih h

high-take : (text : List ℕ) (n at : ℕ) → first_high at text ≡ none → first_high at (take n text) ≡ none
unfolding first_high
high-take text zero at h = refl
high-take [] (suc n) at h = refl
high-take (b ∷ bs) (suc n) at h = high-step b at (first_high (suc at) bs) (first_high (suc at) (take n bs)) (leb 128 b) (high-take bs n (suc at)) h

pub no-high : (o : Option ℕ) (k : ℕ) → no_high o ≡ fine k → o ≡ none
no-high none k h = refl
no-high (some at) k h = unlike 3 at k h

pub allowed-take : (b : Lent) (text : List ℕ) (n k : ℕ) → allowed b text ≡ fine k → allowed b (take n text) ≡ fine 0
unfolding allowed
allowed-take b text n k h =
    let one = passed (lent_room b) _ 1 0 k h in
    let two = passed (leb (length text) 65536) _ 2 0 k one.1 in
    let short : leb (length (take n text)) 65536 ≡ true = le-leb (length (take n text)) 65536 (simp length-take (omega (arith, leb-true (length text) 65536 two.0))) in
    rw (one.0, short, high-take text n 0 (no-high (first_high 0 text) k two.1))

pub lost-parsed : (text : List ℕ) → Lost text → parsed true text ≡ refused 4 0
unfolding parsed parsed_from parsed_at
lost-parsed text (gone p) = rw p
lost-parsed text (open-ended h p q) = rw (p, q)

drop-take : (k m : ℕ) (xs : List ℕ) → drop k (take (k + m) xs) ≡ take m (drop k xs)
drop-take zero m xs = rw zero-add
drop-take (suc k) m [] = rw (suc-add, take-nil)
drop-take (suc k) m (b ∷ bs) = rw suc-add (drop-take k m bs)

unfoldable pub cut_parsed : ℕ → Parsed → Parsed
cut_parsed n p = record { form = p.form; head = p.head; records = cut_records n p.records }

pub opened-cut : (h : Head) (e n : ℕ) (text : List ℕ) → h.next + suc e ≤ n → opened h e (take n text) ≡ cut_parsed n (opened h e text)
unfolding opened cut_parsed
opened-cut h e n text l =
    let at : ℕ = h.next + suc e in
    let m : ℕ = n - at in
    let same : at + m ≡ n = omega arith in
    let cut : drop at (take n text) ≡ take m (drop at text) = (ap (λ (k : ℕ). drop at (take k text)) (sym same)) ∙ drop-take at m text in
    ap (λ (r : Records). record { form = h.form; head = h.next + suc e; records = r })
    (ap (λ (x : List ℕ). records true h.form at (lines x)) cut
    ∙ ap (records true h.form at) (lines-take (drop at text) m)
    ∙ records-cut h.form at m (lines (drop at text))
    ∙ ap (λ (k : ℕ). cut_records k (records true h.form at (lines (drop at text)))) same)
