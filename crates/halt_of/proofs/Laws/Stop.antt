-- The halt of the lines at a place of the text: where they lie, that the place fits, and one law for each return.
-- Assumes nothing.
use Prim.Native.Nat.{ℕ, ◌+◌, ◌-◌, ◌<◌, ◌≤◌, ◌^◌}
use mathlib.Core.Path.{◌≡◌, refl, sym, ap, ◌∙◌}
use mathlib.Core.Bool.{Bool, true, false, ◌||◌}
use mathlib.Core.List.{List, []}
use native.Mathlib.Omega.{arith}
use native.Mathlib.Nat.{add-zero, le_of_lt}
use lib.ListN.{length, take, drop, get_or, drop_of_length-le, length-drop}
use lib.Seq.{length-take-le, take-nil}
use lib.Dec.{eqb}
use mir.Val.{Fits}
use mir.Syntax.{w64}
use borrow.Author.Rules.{rules}
use Rattle.format.specs.Lists.{run, starts}
use Rattle.format.specs.Number.{behind, past, word}
use Rattle.format.specs.Lines.{Line, end_length, width}
use Rattle.format.specs.Header.{Form}
use Rattle.format.specs.Entries.{entry_line, ignored_line, is_ignored, lead, letter_and_more}
use Rattle.format.specs.Pairs.{address_part, content_line, whole_content}
use Rattle.laws.specs.Places.{end_at, line_at, line_end, next_line}
use Rattle.text_lines.specs.Lines.{LineIs}
use Rattle.text_lines.specs.declared.LineAt.{LineAt}
use Rattle.halt.specs.Halt.{Halt, entry_halt, halt_at, lines_halt, pair_halt}
use Rattle.halt.proofs.HaltSpans.{entry-halt-in, pair-halt-in}
use Rattle.line_halt.specs.Told.{told_halt}
use Rattle.halt_of.specs.Told.{further, line_with}
use Rattle.line_halt.specs.declared.Halt as code
use Rattle.line_halt.proofs.Laws.GroupOne.{halt}

-- past the end of the text there is an empty line without a line end
line-past : (text : List ℕ) (p : ℕ) → length text < p → line_at text p ≡ line_with [] 0
unfolding line_at end_at line_end past run end_length
line-past text p h =
    let e : drop p text ≡ [] = drop_of_length-le text (le_of_lt h) in
    rw (e, add-zero, e, take-nil)

empty-halt : (f : Form) (paired : Bool) (r : Line) → lines_halt f paired (line_with [] 0) r ≡ halt 4 0
unfolding lines_halt pair_halt whole_content content_line address_part lead word behind starts entry_halt entry_line ignored_line letter_and_more is_ignored
empty-halt f true r = refl
empty-halt f false r = refl

pub stop-past : (f : Form) (paired : Bool) (text : List ℕ) (p : ℕ) → length text < p → halt 4 p ≡ halt_at f paired text p
unfolding halt_at
stop-past f paired text p h = rw (line-past text p h, empty-halt f paired (line_at text (next_line text p)), add-zero)

-- where the line at a place lies
module _ (text : List ℕ) {p : ℕ} {l : LineAt} (w : LineIs text p l) where
  pub end-in : p ≤ length text → l.end ≤ length text
  end-in h = omega (arith, w.width, w.inside h)

  pub next-in : p ≤ length text → l.next ≤ length text
  next-in h = w.inside h

  line-is : line_at text p ≡ line_with (take (l.end - p) (drop p text)) l.ends
  unfolding line_at
  line-is = rw (← w.ends_at, ← w.line-end)

  part_length : p ≤ length text → length (take (l.end - p) (drop p text)) ≡ l.end - p
  part_length h = length-take-le (l.end - p) (drop p text) (omega (arith, length-drop p text, end-in h))

-- any length of the second line's end does
any-ends : (f : Form) (t : Line) (s : List ℕ) (e : ℕ) → pair_halt f t (line_with s 0) ≡ pair_halt f t (line_with s e)
unfolding pair_halt
any-ends f t s e = refl

-- `entry_at`, `pair_at`
module _ (f : Form) (text : List ℕ) {p : ℕ} {l : LineAt} (w : LineIs text p l) where
  pub entry-at : {h : code.Halt} → told_halt h ≡ entry_halt f (take (l.end - p) (drop p text)) → halt h.reason (p + h.at) ≡ further p (entry_halt f (line_at text p).bytes)
  entry-at i = ap (further p) (i ∙ sym (ap (λ (x : Line). entry_halt f x.bytes) (line-is text w)))

  pub pair-at : {k : LineAt} → LineIs text l.next k → {h : code.Halt}
      → told_halt h ≡ pair_halt f (line_with (take (l.end - p) (drop p text)) l.ends) (line_with (take (k.end - l.next) (drop l.next text)) 0)
      → halt h.reason (p + h.at) ≡ further p (pair_halt f (line_at text p) (line_at text (next_line text p)))
  pair-at {k} v i =
      let a = line-is text w in
      let b : line_at text (next_line text p) ≡ line_with (take (k.end - l.next) (drop l.next text)) k.ends = ap (line_at text) (sym w.behind) ∙ line-is text v in
      ap (further p) (i ∙ any-ends f _ _ k.ends ∙ rw (a, b))

  module _ (o : p ≤ length text) (z : length text < 2 ^ 64) where
    pub entry-fits : {h : code.Halt} → told_halt h ≡ entry_halt f (take (l.end - p) (drop p text)) → Fits w64 (p + h.at)
    entry-fits {h} k =
        let e : h.at ≡ (entry_halt f (take (l.end - p) (drop p text))).place = ap (λ (x : Halt). x.place) k in
        record { fits = omega (arith, e, (entry-halt-in f (take (l.end - p) (drop p text))).inside, part_length text w o, end-in text w o, w.from) }

    pub pair_fits : {k : LineAt} → LineIs text l.next k → {h : code.Halt}
        → told_halt h ≡ pair_halt f (line_with (take (l.end - p) (drop p text)) l.ends) (line_with (take (k.end - l.next) (drop l.next text)) 0)
        → Fits w64 (p + h.at)
    unfolding width
    pair_fits {k} v {h} i =
        let n : l.next ≤ length text = next-in text w o in
        let t : Line = line_with (take (l.end - p) (drop p text)) l.ends in
        let r : Line = line_with (take (k.end - l.next) (drop l.next text)) 0 in
        let e : h.at ≡ (pair_halt f t r).place = ap (λ (x : Halt). x.place) i in
        record { fits = omega (arith, e, (pair-halt-in f t r).inside, part_length text w o, part_length text v n, end-in text v n, w.from, w.width, v.from) }

-- the two lines lie in the text
pub pair-room : (text : List ℕ) {p : ℕ} {l : LineAt} → LineIs text p l → p ≤ length text → length text < 2 ^ 64 → {k : LineAt} → LineIs text l.next k
    → length (take (l.end - p) (drop p text)) + l.ends + length (take (k.end - l.next) (drop l.next text)) < 2 ^ 64
pair-room text w o z v =
    let n = next-in text w o in
    omega (arith, part_length text w o, part_length text v n, end-in text v n, w.from, w.width, v.from)

-- `halt_at`
module _ (f : Form) (paired : Bool) (text : List ℕ) (p : ℕ) {b : Bool} (here : b ≡ (paired || eqb (get_or (line_at text p).bytes 0 0) 84)) where
  pub stop-pair : b ≡ true → {x : Halt} → x ≡ further p (pair_halt f (line_at text p) (line_at text (next_line text p))) → x ≡ halt_at f paired text p
  unfolding halt_at lines_halt
  stop-pair c i = rw (sym here ∙ c) i

  pub stop-entry : b ≡ false → {x : Halt} → x ≡ further p (entry_halt f (line_at text p).bytes) → x ≡ halt_at f paired text p
  unfolding halt_at lines_halt
  stop-entry c i = rw (sym here ∙ c) i

pub ruleset entering = (rules, end-in, next-in, entry-at, entry-fits)

pub ruleset pairing = (rules, end-in, next-in, pair-at, pair_fits, pair-room)

pub ruleset stops = (rules, stop-past, stop-pair, stop-entry)
