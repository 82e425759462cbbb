-- Demand 3 over the contract of the public functions: what CutBuffers of specs/ says, for every accepted text and every cut of it.
-- Assumes nothing.
use Prim.Native.Nat.{ℕ, ◌≤◌}
use mathlib.Core.Path.{◌≡◌, refl, ap, ◌∙◌}
use mathlib.Core.Bool.{Bool, true, false}
use mathlib.Core.List.{List}
use native.Mathlib.Omega.{arith}
use lib.ListN.{length, take}
use lib.Dec.{eqb}
use Rattle.format.specs.Lists.{pick}
use Rattle.format.specs.Outcome.{Outcome, fine, refused}
use Rattle.format.specs.Records.{Parsed, Verdict, ends, finished, last_of, parsed, stop, stopped, verdict}
use Rattle.format.specs.Reading.{Answer, Counts, Lent, Read, accepted, read, reading, reading_of, refusal}
use Rattle.format.specs.Held.{Held, Meets, lengths}
use Rattle.laws.proofs.WasRead.{what-was-read}
use Rattle.laws.proofs.Unique.{laid, meets-laid, nothing-laid}
use Rattle.cut.specs.Cut.{CutRead, cut_records}
use Rattle.cut.specs.CutBuffers.{CutHeld, CutMeets, edges, last_edge}
use Rattle.cut.proofs.Theorem.{a-cut-gives-the-records-inside-it}

-- an accepted answer comes of a reading that is fine
record IsRead (b : Lent) (text : List ℕ) : Type 0 where
  whole : Read
  is-fine : read true b text ≡ fine whole

was_read : (b : Lent) (text : List ℕ) (c : Counts) (v : Verdict) → accepted c v ≡ (reading true b text).answer → IsRead b text
unfolding reading
was_read b text c v h = go (read true b text) refl h
  where
    go : (o : Outcome Read) → read true b text ≡ o → accepted c v ≡ (reading_of text o).answer → IsRead b text
    go (fine r) e g = record { whole = r; is-fine = e }
    go (refused n p) e g = let z : ◌≡◌ {A = ℕ} 0 1 = cc in let y : ⊥ = omega arith in absurd y

-- a verdict that is not finished tells where the reading stopped
not-finished : (t : Bool) (place : ℕ) → (pick t finished (stopped place) ≡ finished → ⊥) → pick t finished (stopped place) ≡ stopped place
not-finished true place h = absurd (h refl)
not-finished false place h = refl

stopped-else : (text : List ℕ) (p : Parsed) → (verdict text p ≡ finished → ⊥) → verdict text p ≡ stopped (stop p)
unfolding verdict
stopped-else text p h = not-finished (eqb (stop p) (length text)) (stop p) h

module _ (text : List ℕ) (n : ℕ) (old : Held) (answer : Answer) (new : Held) (meets : Meets true (take n text) old answer new) where
  -- what the call did, where the reading of the cut text is known
  module _ (o : Outcome Read) (known : read true (lengths old) (take n text) ≡ o) where
    says-known : answer ≡ (reading_of (take n text) o).answer
    unfolding reading
    says-known = meets.says ∙ ap (λ (x : Outcome Read). (reading_of (take n text) x).answer) known

    laid-known : new ≡ laid (reading_of (take n text) o) old
    unfolding reading
    laid-known = meets-laid meets ∙ ap (λ (x : Outcome Read). laid (reading_of (take n text) x) old) known

  cut-refused : read true (lengths old) (take n text) ≡ refused 4 0 → (answer ≡ refusal 4 0) × (new ≡ old)
  cut-refused h = (says-known (refused 4 0) h, laid-known (refused 4 0) h ∙ nothing-laid (take n text) 4 0 old)

  cut-held : (whole : Read) → CutRead (lengths old) text n whole → CutHeld whole.parsed n old answer new
  unfolding edges last_edge stop laid
  cut-held whole k =
      let New-is = laid-known (fine k.cut) k.accepted in
      let last : stop k.cut.parsed ≡ last_of whole.parsed.head (ends (cut_records n whole.parsed.records)) =
      rw (k.same_head, k.its-records) in
      record {
        built = k.cut.built;
        of-those-records = k.its-images;
        told = verdict (take n text) k.cut.parsed;
        accepts = says-known (fine k.cut) k.accepted;
        finished-at-an-edge = k.its-verdict;
        else-stopped = λ h. stopped-else (take n text) k.cut.parsed (λ e. h (k.its-verdict.0 e)) ∙ ap stopped last;
        areas = ap (λ (x : Held). x.areas) New-is;
        symbols = ap (λ (x : Held). x.symbols) New-is;
        values = ap (λ (x : Held). x.values) New-is;
        masks = ap (λ (x : Held). x.masks) New-is;
        fixups = ap (λ (x : Held). x.fixups) New-is;
      }

-- demand 3, down to the buffers
pub a-cut-leaves-the-rows-inside-it : (text : List ℕ) (old : Held) (c : Counts) (v : Verdict) (new : Held) → Meets true text old (accepted c v) new
    → (n : ℕ) → n ≤ length text
    → (old₂ : Held) (answer₂ : Answer) (new₂ : Held) → lengths old₂ ≡ lengths old → Meets true (take n text) old₂ answer₂ new₂
    → CutMeets text n old₂ answer₂ new₂
a-cut-leaves-the-rows-inside-it text old c v new m n l old₂ answer₂ new₂ same m₂ =
    let w = was_read (lengths old) text c v m.says in
    let is-fine : read true (lengths old₂) text ≡ fine w.whole = rw same w.is-fine in
    let k = a-cut-gives-the-records-inside-it (lengths old₂) text n w.whole l is-fine in
    record {
      whole = w.whole.parsed;
      of-the-text = (what-was-read true (lengths old) text w.whole w.is-fine).parses;
      before = λ h. cut-refused text n old₂ answer₂ new₂ m₂ (k.before h);
      from-there = λ h. cut-held text n old₂ answer₂ new₂ m₂ w.whole (k.from-there h);
    }
