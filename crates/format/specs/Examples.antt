-- The examples E1 to E12 of document 01: one table, and one statement that what the definition gives is what the document says.
-- Assumes nothing.
use Rattle.std.specs.Prelude.{ℕ, ◌+◌, ◌-◌, ◌*◌, ◌≡◌, refl, true, false, List, [], ◌∷◌, ◌++◌, map, drop}
use Rattle.std.proofs.Math.Option.{Option, none, some}
use Rattle.format.specs.Got.{Got, is, isnt}
use Rattle.format.specs.Lines.{end_length}
use Rattle.format.specs.Header.{Head, header}
use Rattle.format.specs.Number.{byte, number, joined}
use Rattle.format.specs.Pairs.{mode_of}
use Rattle.format.specs.Mode.{class_number_of}
use Rattle.format.specs.ModeStep.{step_values, step_masks, step_keeps_of, step_number}
use Rattle.format.specs.Outcome.{Outcome, fine, refused}
use Rattle.format.specs.Records.{finished, stopped}
use Rattle.format.specs.Target.{target}
use Rattle.format.specs.Reading.{Lent, Answer, refusal, accepted, Reading, reading}
use Rattle.format.specs.Text.{bytes_of}
use Rattle.format.specs.Evaluate.{evaluate}

-- what the definition gives, and what the document says, each as rows of numbers
pub record Example : Type 0 where
  pub given : List (List ℕ)
  pub said : List (List ℕ)

abbrev example : List (List ℕ) → List (List ℕ) → Example
example g s = record { given = g; said = s }

-- a reader's answer: 1, the value and the bytes used; or 0, the reason and its place
got : Got ℕ → List ℕ
got (is v used) = 1 ∷ v ∷ used ∷ []
got (isnt r at) = 0 ∷ r ∷ at ∷ []

-- a target: 1 and its value; or 0, the refusal and its place
outcome : Outcome ℕ → List ℕ
outcome (fine v) = 1 ∷ v ∷ []
outcome (refused n p) = 0 ∷ n ∷ p ∷ []

-- 1, the counts of areas, symbols, lines, kept areas, positions and fixups, and the place if it stopped; or 0, the refusal and its place
answer_of : Answer → List ℕ
answer_of (refusal n p) = 0 ∷ n ∷ p ∷ []
answer_of (accepted c finished) = 1 ∷ c.areas ∷ c.symbols ∷ c.lines ∷ c.kept ∷ c.positions ∷ c.fixups ∷ []
answer_of (accepted c (stopped at)) = 1 ∷ c.areas ∷ c.symbols ∷ c.lines ∷ c.kept ∷ c.positions ∷ c.fixups ∷ at ∷ []

-- the answer, and the rows of areas, symbols, values, masks and fixups
whole : Reading → List (List ℕ)
unfolding answer_of
whole r = answer_of r.answer ∷ r.areas ∷ r.symbols ∷ r.values ∷ r.masks ∷ r.fixups ∷ []

-- buffers of just their bounds
lent : Lent
lent = record { areas = 64 * 7; symbols = 1024 * 5; values = 65536; masks = 65536; fixups = 1024 * 9 }

-- as many bytes as an address of the text's header has, read behind the header's line end by its radix and joined in its order
under_head : Option Head → List ℕ → Got ℕ
under_head none s = isnt 4 0
under_head (some h) s = joined h.form.radix h.form.big (h.form.address_length - 1) s (h.next + end_length (drop h.next s))

under_header : List ℕ → Got ℕ
unfolding under_head
under_header s = under_head (header s) s

e1 : List ℕ
unfolding bytes_of
e1 = bytes_of "XH3\nH 1 areas 2 global symbols\nM demo\nS _put Ref0000\nA CSEG size 6 flags 20 addr 0\nS _go Def0000\nT 00 00 00 12 00 00 02 00 03\nR 00 00 00 00 02 04 00 00 00 07 00 00\n"

-- two bytes behind a header
e2 : List ℕ → List ℕ
unfolding bytes_of
e2 head = head ++ bytes_of "\n01 02"

-- one content byte, and a fragment of a mode at its entry
e10 : List ℕ → List ℕ
unfolding bytes_of
e10 m = bytes_of "XH3\nA C size 9 flags 20\nT 00 00 00 05\nR 00 00 00 00 " ++ m ++ bytes_of " 03 00 00\n"

e11 : List ℕ
unfolding bytes_of
e11 = bytes_of "XH3\nA C size 9 flags 2"

-- a second area stands behind the first, so that a byte written past the first would be seen
e12 : List ℕ
unfolding bytes_of
e12 = bytes_of "XH3\nA C size 2 flags 20\nA D size 2 flags 20\nT 00 00 01 AA BB\nR 00 00 00 00\n"

-- three areas, of which X is not kept: in C the second line overwrites a byte of the first, with a mask of 1F for one of FF
known : List ℕ
unfolding bytes_of
known = bytes_of "XH3\nA C size 3 flags 20\nA X size 5 flags 0\nA D size 3 flags 20\nT 00 00 00 AA BB\nR 00 00 00 00\nT 00 00 01 CC DD EE\nR 00 00 00 00 08 03 00 00\nT 00 00 00 11\nR 00 00 00 02\n"

-- one area behind a header, or a byte above 127
behind : List ℕ → List ℕ
unfolding bytes_of
behind head = head ++ bytes_of "\nA C size 2 flags 40\n"

high : List ℕ → List ℕ
high head = head ++ 10 ∷ 200 ∷ []

-- classes are told by their numbers: Addr19 0, Addr11 1, Addr24 2, Addr16 3, Byte 4, Other 5
pub table : List Example
unfolding evaluate bytes_of got outcome answer_of whole lent under_head under_header e1 e2 e10 e11 e12 known behind high
table =
    -- E1: the whole reading
    example (whole (reading true lent e1)) (
    (1 ∷ 1 ∷ 2 ∷ 1 ∷ 1 ∷ 6 ∷ 2 ∷ [])
    ∷ (55 ∷ 4 ∷ 6 ∷ 0x20 ∷ 1 ∷ 0 ∷ 16 ∷ [])
    ∷ (40 ∷ 4 ∷ 1 ∷ 0 ∷ 0 ∷ 85 ∷ 3 ∷ 0 ∷ 0 ∷ 1 ∷ [])
    ∷ (0x12 ∷ 0 ∷ 0 ∷ 0x02 ∷ 0 ∷ 0 ∷ [])
    ∷ (0xFF ∷ 0 ∷ 0 ∷ 0xFF ∷ 0 ∷ 0 ∷ [])
    ∷ (0 ∷ 1 ∷ 2 ∷ 0x002 ∷ 1 ∷ 40 ∷ 4 ∷ 0 ∷ 0 ∷ 0 ∷ 4 ∷ 2 ∷ 0x000 ∷ 0 ∷ 0 ∷ 0 ∷ 0 ∷ 3 ∷ [])
    ∷ [])
    -- E2: the two bytes of a text, joined as its header says, XH2 and XL2
    ∷ example (got (under_header (e2 (bytes_of "XH2"))) ∷ got (under_header (e2 (bytes_of "XL2"))) ∷ []) ((1 ∷ 0x0102 ∷ 9 ∷ []) ∷ (1 ∷ 0x0201 ∷ 9 ∷ []) ∷ [])
    -- E3: FF, 100 as bytes; FFFFFFFF, 100000000 as numbers
    ∷ example (got (byte 16 (bytes_of "FF") 0) ∷ got (byte 16 (bytes_of "100") 0) ∷ []) ((1 ∷ 0xFF ∷ 2 ∷ []) ∷ (0 ∷ 3 ∷ 0 ∷ []) ∷ [])
    ∷ example (got (number 16 (bytes_of "FFFFFFFF") 0) ∷ got (number 16 (bytes_of "100000000") 0) ∷ []) ((1 ∷ 0xFFFFFFFF ∷ 8 ∷ []) ∷ (0 ∷ 2 ∷ 0 ∷ []) ∷ [])
    -- E4: modes
    ∷ example
    (got (mode_of 16 (bytes_of "EF") 0) ∷ got (mode_of 16 (bytes_of "F0 13") 0) ∷ got (mode_of 16 (bytes_of "F7 FF") 0) ∷ got (mode_of 16 (bytes_of "F8 00") 0) ∷ [])
    ((1 ∷ 0x0EF ∷ 2 ∷ []) ∷ (1 ∷ 0x013 ∷ 5 ∷ []) ∷ (1 ∷ 0x7FF ∷ 5 ∷ []) ∷ (0 ∷ 4 ∷ 0 ∷ []) ∷ [])
    -- E5: classes
    ∷ example (map class_number_of (0x00 ∷ 0x08 ∷ 0x88 ∷ 0x80 ∷ 0x100 ∷ 0x09 ∷ 0x01 ∷ 0x81 ∷ []) ∷ []) ((3 ∷ 1 ∷ 0 ∷ 2 ∷ 5 ∷ 5 ∷ 4 ∷ 4 ∷ []) ∷ [])
    -- E6: the mode step's number, values, masks and kept flags
    ∷ example
    ((step_number true 0x08 (0x23 ∷ 0x01 ∷ 0x11 ∷ []) ∷ [])
    ∷ step_values 0x08 (0x23 ∷ 0x01 ∷ 0x11 ∷ [])
    ∷ step_masks 0x08 (0xFF ∷ 0xFF ∷ 0xFF ∷ [])
    ∷ step_keeps_of 0x08 (1 ∷ 1 ∷ 1 ∷ [])
    ∷ [])
    ((0x2301 ∷ []) ∷ (0x11 ∷ 0 ∷ 0 ∷ []) ∷ (0x1F ∷ 0 ∷ 0 ∷ []) ∷ (1 ∷ 1 ∷ 0 ∷ []) ∷ [])
    -- E7, E8, E9: targets
    ∷ example (outcome (target true 0x08 0 (0x71 ∷ 0x23 ∷ []) 0x1000) ∷ []) ((1 ∷ 0x1023 ∷ []) ∷ [])
    ∷ example (outcome (target true 0x05 0 (0x05 ∷ []) 0x10) ∷ outcome (target true 0x05 0x80 (0x05 ∷ []) 0x10) ∷ []) ((1 ∷ 0xFFF4 ∷ []) ∷ (1 ∷ 0xFF76 ∷ []) ∷ [])
    ∷ example (outcome (target true 0x00 4 (0x12 ∷ 0x34 ∷ []) 0x25678) ∷ []) ((1 ∷ 0x21230 ∷ []) ∷ [])
    -- E10: a mode that touches one entry passes, one that touches two is refused at its T
    ∷ example
    (answer_of (reading true lent (e10 (bytes_of "05"))).answer ∷ answer_of (reading true lent (e10 (bytes_of "00"))).answer ∷ [])
    ((1 ∷ 1 ∷ 0 ∷ 1 ∷ 1 ∷ 9 ∷ 1 ∷ []) ∷ (0 ∷ 10 ∷ 24 ∷ []) ∷ [])
    -- E11: plain, with its area row; ended
    ∷ example
    (answer_of (reading false lent e11).answer ∷ (reading false lent e11).areas ∷ answer_of (reading true lent e11).answer ∷ [])
    ((1 ∷ 1 ∷ 0 ∷ 0 ∷ 0 ∷ 0 ∷ 0 ∷ []) ∷ (6 ∷ 1 ∷ 9 ∷ 2 ∷ 0 ∷ 0 ∷ 0 ∷ []) ∷ (1 ∷ 0 ∷ 0 ∷ 0 ∷ 0 ∷ 0 ∷ 0 ∷ 4 ∷ []) ∷ [])
    -- E12: values and masks
    ∷ example ((reading true lent e12).values ∷ (reading true lent e12).masks ∷ []) ((0 ∷ 0xAA ∷ 0 ∷ 0 ∷ []) ∷ (0 ∷ 0xFF ∷ 0 ∷ 0 ∷ []) ∷ [])
    -- known bits: 8 for FF and 5 for 1F, none for an area that is not kept; and the masks
    ∷ example ((reading true lent known).areas ∷ (reading true lent known).masks ∷ []) (
    (6 ∷ 1 ∷ 3 ∷ 0x20 ∷ 0 ∷ 0 ∷ 13 ∷ 26 ∷ 1 ∷ 5 ∷ 0 ∷ 0 ∷ 0 ∷ 0 ∷ 45 ∷ 1 ∷ 3 ∷ 0x20 ∷ 0 ∷ 0 ∷ 8 ∷ [])
    ∷ (0xFF ∷ 0x1F ∷ 0 ∷ 0xFF ∷ 0 ∷ 0 ∷ [])
    ∷ [])
    -- 18: Q and D by the ended reading, where the header's line is ended; 4 where it is not; 3 goes first; X is taken, and all three by the plain reading
    ∷ example
    (map (λ (text : List ℕ). answer_of (reading true lent text).answer) (
    behind (bytes_of "QH3") ∷ behind (bytes_of " DL2 ") ∷ bytes_of "QH3" ∷ bytes_of "DL2 " ∷ high (bytes_of "QH3") ∷ behind (bytes_of "XH3") ∷ bytes_of "XH3" ∷ []))
    ((0 ∷ 18 ∷ 0 ∷ []) ∷ (0 ∷ 18 ∷ 0 ∷ []) ∷ (0 ∷ 4 ∷ 0 ∷ []) ∷ (0 ∷ 4 ∷ 0 ∷ []) ∷ (0 ∷ 3 ∷ 4 ∷ []) ∷ (1 ∷ 1 ∷ 0 ∷ 0 ∷ 0 ∷ 0 ∷ 0 ∷ []) ∷ (0 ∷ 4 ∷ 0 ∷ []) ∷ [])
    ∷ example
    (map (λ (text : List ℕ). answer_of (reading false lent text).answer) (behind (bytes_of "QH3") ∷ behind (bytes_of "DL2") ∷ bytes_of "QH3" ∷ []))
    ((1 ∷ 1 ∷ 0 ∷ 0 ∷ 1 ∷ 2 ∷ 0 ∷ 23 ∷ []) ∷ (1 ∷ 1 ∷ 0 ∷ 0 ∷ 1 ∷ 2 ∷ 0 ∷ 23 ∷ []) ∷ (1 ∷ 0 ∷ 0 ∷ 0 ∷ 0 ∷ 0 ∷ 0 ∷ []) ∷ [])
    ∷ []

-- every example holds
pub examples : map (λ e. e.given) table ≡ map (λ e. e.said) table
unfolding table
examples = refl
