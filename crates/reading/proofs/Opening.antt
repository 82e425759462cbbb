-- The laws of the whole reading of a text.
-- Assumes nothing.
use Prim.Native.Nat.{ℕ, zero, suc, ◌+◌, ◌≤◌}
use mathlib.Core.Path.{◌≡◌, refl, ap, sym, subst, ◌∙◌}
use mathlib.Core.Bool.{Bool, true, false}
use mathlib.Core.List.{List}
use mathlib.Core.Option.{Option, none, some}
use native.Mathlib.Omega.{arith}
use lib.ListN.{length, drop, length-drop}
use borrow.Author.Rules.{rules}
use Rattle.format.specs.Lists.{pick, over, flat}
use Rattle.format.specs.Header.{Form, Head, header}
use Rattle.format.specs.Lines.{end_length}
use Rattle.format.specs.Outcome.{Outcome, fine, and_then, fold}
use Rattle.format.specs.Records.{Parsed, parsed, parsed_from, parsed_at, ends, stop}
use Rattle.format.specs.Tables.{tables, counted, total, kept_count, room}
use Rattle.format.specs.Fixups.{by_area}
use Rattle.format.specs.Placing.{placing}
use Rattle.format.specs.Rows.{area_table}
use Rattle.format.specs.Reading as paper
use Rattle.format.specs.Held.{Held, lengths}
use Rattle.laws.specs.Places.{records_at}
use Rattle.laws.proofs.Outcomes.{follow}
use Rattle.halt.proofs.Stop.{end-in}
use Rattle.header.specs.Told.{form_of}
use Rattle.header.specs.declared.Form as text
use Rattle.std.specs.Prelude.{Result, Ok, Err}
use Rattle.answer.specs.Answer.{Answer, told, held}
use Rattle.answer.specs.declared.Refusal.{Refusal}
use Rattle.way_in.specs.WayIn.{Rooms, GateIs, takes_by}
use Rattle.way_in.proofs.Laws.{says-fits-from}
use Rattle.opening.specs.Opening.{answered, behind_header, header_alone, lines, opening, opening_from, told_opening}
use Rattle.opening.specs.declared.Opening.{Opening}
use Rattle.opening.specs.declared.Opening.TheVariants.{Answered, Lines}
use Rattle.reading_lines.specs.Laid.{whole_of, whole_lines, Laid, lent_in, lines_from}
use Rattle.reading.specs.Whole.{headed_by, only_taken, read_by, whole_by, whole_text}

-- a text that is answered at once
module _ (every ended : Bool) (s : List ℕ) (a : Answer) (old : Held) where
  abbrev Stays : Type 0
  Stays = Laid (length s) (whole_text every ended s) old a old

  no_header : header s ≡ none → told a ≡ paper.refusal 4 0 → Stays
  unfolding whole_text headed_by parsed parsed_from over
  no_header e q = rw e (record { says = q; areas = refl; symbols = refl; values = refl; masks = refl; fixups = refl })

  -- a header and no line end
  alone : (f : Form) (n : ℕ) (v b : Bool) → told a ≡ header_alone b (length s) n → Laid (length s) (and_then (and_then (and_then (parsed_at b f n 0 s) (only_taken v b)) paper.read_of) (λ r. fine (whole_of r))) old a old
  unfolding only_taken takes_by paper.takes parsed_at paper.read_of paper.build paper.counts_of paper.fixups_of tables counted fold room total kept_count placing by_area stop ends flat area_table over
  alone f n v true q = record { says = q; areas = refl; symbols = refl; values = refl; masks = refl; fixups = refl }
  alone f n true false q = record { says = q; areas = refl; symbols = refl; values = refl; masks = refl; fixups = refl }
  alone f n false false q = record { says = q; areas = refl; symbols = refl; values = refl; masks = refl; fixups = refl }

  module _ (h : Head) (e : header s ≡ some h) where
    parsed-here : (k : ℕ) → end_length (drop h.next s) ≡ k → parsed ended s ≡ parsed_at ended h.form h.next k s
    unfolding parsed parsed_from
    parsed-here k i = rw (e, i)

    only : end_length (drop h.next s) ≡ 0 → told a ≡ header_alone ended (length s) h.next → Stays
    unfolding whole_text headed_by
    only i q =
        subst (λ (o : Outcome Parsed). Laid (length s) (and_then (and_then (and_then o (only_taken every ended)) paper.read_of) (λ r. fine (whole_of r))) old a old)
        (sym (parsed-here 0 i)) (alone h.form h.next every ended q)

    -- a header that is not taken
    not_taken : (k : ℕ) → end_length (drop h.next s) ≡ suc k → takes_by every ended h.form.radix ≡ false → told a ≡ paper.refusal 18 0 → Stays
    unfolding whole_text headed_by only_taken parsed_at over
    not_taken k i t q = rw (parsed-here (suc k) i, t) (record { says = q; areas = refl; symbols = refl; values = refl; masks = refl; fixups = refl })

  at_once : answered (told a) ≡ opening every ended s → Stays
  unfolding opening opening_from behind_header
  at_once q = go (header s) refl q
    where
      said : {x : paper.Answer} → answered (told a) ≡ answered x → told a ≡ x
      said z = cc

      taken : (h : Head) → header s ≡ some h → (k : ℕ) → end_length (drop h.next s) ≡ suc k → (t : Bool) → takes_by every ended h.form.radix ≡ t
          → answered (told a) ≡ pick t (lines h.form (h.next + suc k) (pick ended (h.next + suc k) h.next)) (answered (paper.refusal 18 0)) → Stays
      taken h e k i true x z = let y : ◌≡◌ {A = ℕ} 0 1 = cc in let w : ⊥ = omega arith in absurd w
      taken h e k i false x z = not_taken h e k i x (said z)

      ending : (h : Head) → header s ≡ some h → (k : ℕ) → end_length (drop h.next s) ≡ k → answered (told a) ≡ behind_header every ended (length s) h.form h.next k → Stays
      ending h e zero i z = only h e i (said z)
      ending h e (suc k) i z = taken h e k i (takes_by every ended h.form.radix) refl z

      go : (o : Option Head) → header s ≡ o → answered (told a) ≡ opening_from every ended s o → Stays
      go none e z = no_header e (said z)
      go (some h) e z = ending h e (end_length (drop h.next s)) refl z

-- a text whose lines are read
record Begins (every ended : Bool) (s : List ℕ) (f : Form) (at head : ℕ) : Type 0 where
  is-parsed : headed_by every ended s ≡ fine (record { form = f; head = head; records = records_at ended f s at })
  inside : at ≤ length s

module _ (every ended : Bool) (s : List ℕ) (f : Form) (at head : ℕ) where
  parses : (h : Head) → header s ≡ some h → (k : ℕ) → end_length (drop h.next s) ≡ suc k
      → parsed ended s ≡ fine (record { form = h.form; head = pick ended (h.next + suc k) h.next; records = records_at ended h.form s (h.next + suc k) })
  unfolding parsed parsed_from parsed_at records_at
  parses h e k i = rw (e, i)

  begins : lines f at head ≡ opening every ended s → Begins every ended s f at head
  unfolding opening opening_from behind_header headed_by only_taken
  begins q = go (header s) refl q
    where
      same : (g : Form) (x y : ℕ) → lines f at head ≡ lines g x y → Begins every ended s g x y → Begins every ended s f at head
      same g x y z b =
          let i : g ≡ f = cc in
          let j : x ≡ at = cc in
          let k : y ≡ head = cc in
          subst (λ (u : Form). Begins every ended s u at head) i (subst (λ (u : ℕ). Begins every ended s g u head) j (subst (λ (u : ℕ). Begins every ended s g x u) k b))

      other : {x : paper.Answer} → lines f at head ≡ answered x → Begins every ended s f at head
      other z = let y : ◌≡◌ {A = ℕ} 0 1 = cc in let w : ⊥ = omega arith in absurd w

      taken : (h : Head) → header s ≡ some h → (k : ℕ) → end_length (drop h.next s) ≡ suc k → (t : Bool) → takes_by every ended h.form.radix ≡ t
          → lines f at head ≡ pick t (lines h.form (h.next + suc k) (pick ended (h.next + suc k) h.next)) (answered (paper.refusal 18 0)) → Begins every ended s f at head
      taken h e k i true x z =
          same h.form (h.next + suc k) (pick ended (h.next + suc k) h.next) z
          (record { is-parsed = follow (parsed ended s) (only_taken every ended) (parses h e k i) (rw x); inside = omega (arith, i, end-in (drop h.next s), length-drop h.next s) })
      taken h e k i false x z = other z

      ending : (h : Head) → header s ≡ some h → (k : ℕ) → end_length (drop h.next s) ≡ k → lines f at head ≡ behind_header every ended (length s) h.form h.next k → Begins every ended s f at head
      ending h e zero i z = other z
      ending h e (suc k) i z = taken h e k i (takes_by every ended h.form.radix) refl z

      go : (o : Option Head) → header s ≡ o → lines f at head ≡ opening_from every ended s o → Begins every ended s f at head
      go none e z = other z
      go (some h) e z = ending h e (end_length (drop h.next s)) refl z

  behind-it : lines f at head ≡ opening every ended s → {old new : Held} {r : Answer} → Laid (length s) (whole_lines ended f s at head) old r new → Laid (length s) (whole_text every ended s) old r new
  unfolding whole_text whole_lines
  behind-it q {old} {new} {r} w =
      subst (λ (o : Outcome Parsed). Laid (length s) (and_then (and_then o paper.read_of) (λ r. fine (whole_of r))) old r new) (sym (begins q).is-parsed) w

-- `read_text`
module _ (every ended : Bool) (s : List ℕ) {o : Opening} (e : told_opening o ≡ opening every ended s) where
  pub text-answered : {a : Answer} → o ≡ Answered a → (old : Held) → Laid (length s) (whole_text every ended s) old a old
  text-answered {a} g old = at_once every ended s a old (ap told_opening (sym g) ∙ e)

  pub text-lines : {f : text.Form} {at head : ℕ} → o ≡ Lines f at head → length s ≤ 65536 → (xs ys vs ms fs : List ℕ) → Rooms (length xs) (length ys) (length vs) (length ms) (length fs) → {new : Held} {r : Answer}
      → Laid (length s) (lines_from ended (form_of f) s at head (held xs ys vs ms fs)) (held xs ys vs ms fs) r new → Laid (length s) (whole_text every ended s) (held xs ys vs ms fs) r new
  unfolding lines_from
  text-lines {f} {at} {head} g l xs ys vs ms fs rooms {new} {r} w =
      let q : lines (form_of f) at head ≡ opening every ended s = ap told_opening (sym g) ∙ e in
      behind-it every ended s (form_of f) at head q (rw (says-fits-from at (length s) (lent_in (held xs ys vs ms fs)) (begins every ended s (form_of f) at head q).inside l rooms) at w)

pub ruleset texts = (rules, text-answered, text-lines)

-- `read`
module _ (every ended : Bool) (s xs ys vs ms fs : List ℕ) {g : Result (Unit {0}) Refusal}
    (w : GateIs (record { areas = length xs; symbols = length ys; values = length vs; masks = length ms; fixups = length fs }) s g) where
  pub read-shut : {z : Refusal} → g ≡ Err z → {r : Answer} → r ≡ Err z → Laid (length s) (whole_by every ended (lengths (held xs ys vs ms fs)) s) (held xs ys vs ms fs) r (held xs ys vs ms fs)
  unfolding whole_by read_by lengths over
  read-shut e i = rw (← w.answered, e, i) (record { says = refl; areas = refl; symbols = refl; values = refl; masks = refl; fixups = refl })

  module _ {u : Unit {0}} (e : g ≡ Ok u) where
    passed : (length s ≤ 65536) × (Rooms (length xs) (length ys) (length vs) (length ms) (length fs))
    passed = rw e at w.passed

    read_short : length s ≤ 65536
    read_short = passed.0

    read-rooms : Rooms (length xs) (length ys) (length vs) (length ms) (length fs)
    read-rooms = passed.1

    pub read-open : {new : Held} {r : Answer} → (length s ≤ 65536 → Rooms (length xs) (length ys) (length vs) (length ms) (length fs) → Laid (length s) (whole_text every ended s) (held xs ys vs ms fs) r new) → Laid (length s) (whole_by every ended (lengths (held xs ys vs ms fs)) s) (held xs ys vs ms fs) r new
    unfolding whole_by read_by whole_text lengths
    read-open v = rw (← w.answered, e) (v read_short read-rooms)

pub ruleset opens = (rules, read-shut, read-open)
