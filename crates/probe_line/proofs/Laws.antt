-- One law for each return: a row tells what the definition answers.
-- Assumes nothing.
use Prim.Native.Nat.{ℕ, suc}
use mir.Val.{bool_byte}
use mathlib.Core.Path.{◌≡◌, refl, subst, ap, ◌∙◌}
use mathlib.Core.Bool.{Bool, true, false}
use mathlib.Core.List.{List}
use mathlib.Core.Option.{Option}
use borrow.Author.Rules.{rules}
use Rattle.format.specs.Got.{Got}
use Rattle.format.specs.Number.{joined}
use Rattle.format.specs.Header as the
use Rattle.format.specs.Entries.{area_line, symbol_line, entry_line}
use Rattle.format.specs.Pairs as pairs
use Rattle.std.specs.Prelude.{Some, None, Result, Ok, Err}
use Rattle.std.specs.Prelude as std
use Rattle.numbers.specs.Told.{told, code}
use Rattle.header.specs.Told.{more_of, form_of, told_head}
use Rattle.text_lines.specs.Lines.{LineIs}
use Rattle.text_lines.specs.declared.LineAt.{LineAt}
use Rattle.numbers.specs.declared.Halt.{Halt}
use Rattle.numbers.specs.declared.Read.{Read}
use Rattle.header.specs.declared.Width.{Width}
use Rattle.header.specs.declared.Width.TheVariants.{Two, Three, Four}
use Rattle.header.specs.declared.Form.{Form}
use Rattle.header.specs.declared.Head.{Head}
use Rattle.header.specs.declared.Head.TheVariants.{Found, Missing}
use Rattle.fields.specs.Told.{went}
use Rattle.entry_line.specs.Told.{addr_of, told_entry, entry_of}
use Rattle.pair_line.specs.Pairs.{Contents, Relocations, told_content, told_relocation}
use Rattle.entry_line.specs.declared.Entry as entries
use Rattle.entry_line.specs.declared.Entry.TheVariants.{Area, Symbol, Ignored}
use Rattle.pair_line.specs.declared.content.Content.{Content}
use Rattle.pair_line.specs.declared.relocations.Relocation.{Relocation}
use Rattle.probe_form.specs.Forms.{width_of, form_from}
use Rattle.probe_line.specs.Rows.{row_of, value_row, halt_row, flag, number_row, place_row, head_row, given_addr, addr_value, taken_row, entry_row, sized_row, ContentRow, RelocationRow, LineRow}
use Rattle.probe_line.specs.declared.Row.{Row}

-- small numbers out
pub flag-is : (b : Bool) → bool_byte b ≡ flag b
unfolding flag
flag-is true = refl
flag-is false = refl

module _ {a : std.Option ℕ} where
  pub given-1 : {v : ℕ} → a ≡ Some v → 1 ≡ given_addr (addr_of a)
  unfolding given_addr
  given-1 g = rw g

  pub given-0 : a ≡ None → 0 ≡ given_addr (addr_of a)
  unfolding given_addr
  given-0 g = rw g

  pub value-1 : {v : ℕ} → a ≡ Some v → v ≡ addr_value (addr_of a)
  unfolding addr_value
  value-1 g = rw g

  pub value-0 : a ≡ None → 0 ≡ addr_value (addr_of a)
  unfolding addr_value
  value-0 g = rw g

module _ {w : Width} where
  pub length-2 : w ≡ Two → 2 ≡ suc (more_of w)
  length-2 g = rw g

  pub length-3 : w ≡ Three → 3 ≡ suc (more_of w)
  length-3 g = rw g

  pub length-4 : w ≡ Four → 4 ≡ suc (more_of w)
  length-4 g = rw g

pub ruleset small = (rules, given-1, given-0, value-1, value-0, length-2, length-3, length-4)

-- the rows of an answer, by its case
module _ {r : Row} where
  module _ {n : Result (Read ℕ) Halt} where
    pub number_is : {v : Read ℕ} → n ≡ Ok v → r ≡ value_row v.next v.value 0 0 → r ≡ number_row (told n)
    unfolding number_row
    number_is g e = rw g e

    pub number-no : {k : Halt} → n ≡ Err k → r ≡ halt_row (code k.reason) k.at → r ≡ number_row (told n)
    unfolding number_row
    number-no g e = rw g e

  module _ {n : Result ℕ Halt} where
    pub place_is : {q : ℕ} → n ≡ Ok q → r ≡ value_row q 0 0 0 → r ≡ place_row (went n)
    unfolding place_row
    place_is g e = rw g e

    pub place-no : {k : Halt} → n ≡ Err k → r ≡ halt_row (code k.reason) k.at → r ≡ place_row (went n)
    unfolding place_row
    place-no g e = rw g e

  module _ {h : Head} where
    pub head-is : {f : Form} {q b w : ℕ} → h ≡ Found f q → b ≡ flag f.big → w ≡ suc (more_of f.width) → r ≡ value_row q f.radix b w → r ≡ head_row (told_head h)
    unfolding head_row
    head-is g i j e = rw (g, ← i, ← j) e

    pub head-no : h ≡ Missing → r ≡ halt_row 4 0 → r ≡ head_row (told_head h)
    unfolding head_row
    head-no g e = rw g e

  module _ {x : entries.Entry} (u : ℕ) where
    pub taken-1 : x ≡ Ignored → r ≡ row_of u 1 0 0 0 0 0 0 → r ≡ taken_row (entry_of x) u
    unfolding taken_row
    taken-1 g e = rw g e

    pub taken-2 : {a n z f : ℕ} {y : std.Option ℕ} → x ≡ Area a n z f y → {b c : ℕ} → b ≡ given_addr (addr_of y) → c ≡ addr_value (addr_of y) → r ≡ row_of u 2 a n z f b c → r ≡ taken_row (entry_of x) u
    unfolding taken_row
    taken-2 g i j e = rw (g, ← i, ← j) e

    pub taken-3 : {a n v : ℕ} {b : Bool} → x ≡ Symbol a n b v → {c : ℕ} → c ≡ flag b → r ≡ row_of u 3 a n c v 0 0 → r ≡ taken_row (entry_of x) u
    unfolding taken_row
    taken-3 g i e = rw (g, ← i) e

  module _ {l : Result (Read entries.Entry) Halt} where
    pub entry-is : {x : Read entries.Entry} → l ≡ Ok x → r ≡ taken_row (entry_of x.value) x.next → r ≡ entry_row (told_entry l)
    unfolding entry_row
    entry-is g e = rw g e

    pub entry-no : {k : Halt} → l ≡ Err k → r ≡ halt_row (code k.reason) k.at → r ≡ entry_row (told_entry l)
    unfolding entry_row
    entry-no g e = rw g e

  module _ {l : Result Content Halt} where
    pub content-is : {c : Content} → l ≡ Ok c → r ≡ value_row c.used c.address c.count 0 → r ≡ sized_row (told_content l)
    unfolding sized_row
    content-is g e = rw g e

    pub content-no : {k : Halt} → l ≡ Err k → r ≡ halt_row (code k.reason) k.at → r ≡ sized_row (told_content l)
    unfolding sized_row
    content-no g e = rw g e

  module _ {l : Result Relocation Halt} where
    pub relocation-is : {c : Relocation} → l ≡ Ok c → r ≡ value_row c.used c.area c.count 0 → r ≡ sized_row (told_relocation l)
    unfolding sized_row
    relocation-is g e = rw g e

    pub relocation-no : {k : Halt} → l ≡ Err k → r ≡ halt_row (code k.reason) k.at → r ≡ sized_row (told_relocation l)
    unfolding sized_row
    relocation-no g e = rw g e

pub line-is : (s : List ℕ) (p : ℕ) {l : LineAt} {r : Row} → LineIs s p l → r ≡ value_row l.next l.end l.ends 0 → LineRow s p r
line-is s p w e = record { answered = rw (← w.ends_at, ← w.line-end, ← w.behind) e }

pub ruleset rowing = (rules, number_is, number-no, place_is, place-no, head-is, head-no, taken-1, taken-2, taken-3, entry-is, entry-no, content-is, content-no, relocation-is, relocation-no, line-is)

-- the answer is the definition's
module _ {r : Row} where
  pub number-as : (m : Got ℕ) (n : Result (Read ℕ) Halt) → told n ≡ m → r ≡ number_row (told n) → r ≡ number_row m
  number-as m n e g = rw (← e) g

  pub address_as : (radix : ℕ) (big : Bool) (k : ℕ) (s : List ℕ) (at : ℕ) (n : Result (Read ℕ) Halt) {w : Width} → told n ≡ joined radix big (more_of w) s at → w ≡ width_of k → r ≡ number_row (told n) → r ≡ number_row (joined radix big (more_of (width_of k)) s at)
  address_as radix big k s at n e f g = rw (← f, ← e) g

  pub head_as : (m : Option the.Head) (h : Head) → told_head h ≡ m → r ≡ head_row (told_head h) → r ≡ head_row m
  head_as m h e g = rw (← e) g

  pub place-as : (m : Got Unit) (n : Result ℕ Halt) → went n ≡ m → r ≡ place_row (went n) → r ≡ place_row m
  place-as m n e g = rw (← e) g

  module _ (radix : ℕ) (big : Bool) (k : ℕ) (s : List ℕ) {f : Form} (e : f ≡ form_from radix big k) where
    pub area-as : (l : Result (Read entries.Entry) Halt) → r ≡ entry_row (told_entry l) → told_entry l ≡ area_line (form_of f) s 0 → r ≡ entry_row (area_line (form_of (form_from radix big k)) s 0)
    area-as l g h = subst (λ (x : Form). r ≡ entry_row (area_line (form_of x) s 0)) e (g ∙ ap entry_row h)

    pub symbol-as : (l : Result (Read entries.Entry) Halt) → r ≡ entry_row (told_entry l) → told_entry l ≡ symbol_line (form_of f) s 0 → r ≡ entry_row (symbol_line (form_of (form_from radix big k)) s 0)
    symbol-as l g h = subst (λ (x : Form). r ≡ entry_row (symbol_line (form_of x) s 0)) e (g ∙ ap entry_row h)

    pub entry-as : (l : Result (Read entries.Entry) Halt) → r ≡ entry_row (told_entry l) → told_entry l ≡ entry_line (form_of f) s 0 → r ≡ entry_row (entry_line (form_of (form_from radix big k)) s 0)
    entry-as l g h = subst (λ (x : Form). r ≡ entry_row (entry_line (form_of x) s 0)) e (g ∙ ap entry_row h)

    pub content-as : {l : Result Content Halt} → r ≡ sized_row (told_content l) → {room left : List ℕ} → Contents (pairs.content_line (form_of f) s 0) (pairs.content_line (form_of f) s 0) room l left
        → ContentRow (pairs.content_line (form_of (form_from radix big k)) s 0) (pairs.content_line (form_of (form_from radix big k)) s 0) room r left
    content-as g {room} {left} h =
        subst (λ (x : Form). ContentRow (pairs.content_line (form_of x) s 0) (pairs.content_line (form_of x) s 0) room r left) e
        (record { answered = g ∙ ap sized_row h.answered; stored = h.stored })

    pub whole-as : {l : Result Content Halt} → r ≡ sized_row (told_content l) → {room left : List ℕ} → Contents (pairs.whole_content (form_of f) s) (pairs.content_line (form_of f) s 0) room l left
        → ContentRow (pairs.whole_content (form_of (form_from radix big k)) s) (pairs.content_line (form_of (form_from radix big k)) s 0) room r left
    whole-as g {room} {left} h =
        subst (λ (x : Form). ContentRow (pairs.whole_content (form_of x) s) (pairs.content_line (form_of x) s 0) room r left) e
        (record { answered = g ∙ ap sized_row h.answered; stored = h.stored })

    pub relocation-as : {l : Result Relocation Halt} → r ≡ sized_row (told_relocation l) → {ms es xs ms' es' xs' : List ℕ} → Relocations (pairs.relocation_line (form_of f) s 0) l ms es xs ms' es' xs'
        → RelocationRow (pairs.relocation_line (form_of (form_from radix big k)) s 0) r ms es xs ms' es' xs'
    relocation-as g {ms} {es} {xs} {ms'} {es'} {xs'} h =
        subst (λ (x : Form). RelocationRow (pairs.relocation_line (form_of x) s 0) r ms es xs ms' es' xs') e
        (record { answered = g ∙ ap sized_row h.answered; stored = h.stored })

pub ruleset probing = (rules, number-as, address_as, head_as, place-as, area-as, symbol-as, entry-as, content-as, whole-as, relocation-as)
