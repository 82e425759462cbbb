-- E1 of document 01 against small changes of it: each kind of row, and each refusal.
-- Assumes nothing.
use Rattle.std.specs.Prelude.{ℕ, ◌*◌, ◌≡◌, refl, List, [], ◌∷◌, ◌++◌, map, replicate}
use Rattle.format.specs.Reading.{Lent}
use Rattle.format.specs.Text.{bytes_of}
use Rattle.format.specs.Evaluate.{evaluate}
use Rattle.row_parts.specs.Parts.{part_of}
use Rattle.difference.specs.Module.{cells, first, firsts, fixups_in, images, named, numbered, passing, same_numbers, says, sizes, split, symbols_of}
use Rattle.difference.specs.Changes.{area_change, changes, each, lacking, newer, older, paired, position_change, said_in, symbol_changes}
use Rattle.difference.specs.Rows.{change_numbers}
use Rattle.difference.specs.Told.{Listed, Told, compare, compared, listed, refusal, refused_in, told}

-- what the definition gives, and what is expected, each as rows of numbers
pub record Example : Type 0 where
  pub given : List (List ℕ)
  pub expected : List (List ℕ)

abbrev example : List (List ℕ) → List (List ℕ) → Example
example g s = record { given = g; expected = s }

-- buffers of just their bounds
lent : Lent
lent = record { areas = 64 * 7; symbols = 1024 * 5; values = 65536; masks = 65536; fixups = 1024 * 9 }

-- 1 and the count; 0 and the refusal; 2 for the older's, 3 for the newer's
answer_of : Told → List ℕ
answer_of (told n) = 1 ∷ n ∷ []
answer_of (refusal n p) = 0 ∷ n ∷ p ∷ []
answer_of (refused_in older n p) = 2 ∷ n ∷ p ∷ []
answer_of (refused_in newer n p) = 3 ∷ n ∷ p ∷ []

-- the answer, and what a list of so many rows, all numbers 77, holds afterwards
whole : Listed → List (List ℕ)
unfolding answer_of
whole l = answer_of l.answer ∷ l.list ∷ []

compare_in : ℕ → List ℕ → List ℕ → List (List ℕ)
unfolding whole lent
compare_in n s t = whole (compare lent lent s t (replicate (8 * n) 77))

-- a text by its area line, its symbol _put, what stands behind the first area, its content and its relocation
text_of : (put area rest content relocation : List ℕ) → List ℕ
unfolding bytes_of
text_of p a r c x = bytes_of "XH3\nH 1 areas 2 global symbols\nM demo\nS " ++ (p ++ (bytes_of " Ref0000\nA CSEG size " ++ (a ++ (bytes_of " flags 20 addr 0\n" ++ (r ++ (bytes_of "T 00 00 00 " ++ (c ++ (bytes_of " 00 00 02 00 03\nR 00 00 00 00 " ++ (x ++ bytes_of " 00 00 00 07 00 00\n")))))))))

put : List ℕ
unfolding bytes_of
put = bytes_of "_put"

go : List ℕ
unfolding bytes_of
go = bytes_of "S _go Def0000\n"

six : List ℕ
unfolding bytes_of
six = bytes_of "6"

load : List ℕ
unfolding bytes_of
load = bytes_of "12"

two : List ℕ
unfolding bytes_of
two = bytes_of "02 04"

e1 : List ℕ
unfolding text_of put go six load two
e1 = text_of put six go load two

pub table : List Example
unfolding evaluate bytes_of answer_of whole lent compare_in text_of put go six load two e1 part_of cells first firsts fixups_in images named numbered passing same_numbers says sizes split symbols_of area_change changes each lacking paired position_change said_in symbol_changes change_numbers compare compared listed
table =
    -- a text against itself: the list keeps its numbers
    example (compare_in 1 e1 e1) ((1 ∷ 0 ∷ []) ∷ replicate 8 77 ∷ [])
    -- a byte: behind the rows the list keeps its numbers
    ∷ example (compare_in 2 e1 (text_of put six go (bytes_of "13") two)) ((1 ∷ 1 ∷ []) ∷ (0 ∷ 0 ∷ 0 ∷ 0x12 ∷ 0xFF ∷ 0x13 ∷ 0xFF ∷ 0 ∷ 77 ∷ 77 ∷ 77 ∷ 77 ∷ 77 ∷ 77 ∷ 77 ∷ 77 ∷ []) ∷ [])
    -- a position that the newer lacks, and one that the older lacks
    ∷ example (compare_in 1 e1 (text_of put (bytes_of "5") go load two)) ((1 ∷ 1 ∷ []) ∷ (1 ∷ 0 ∷ 5 ∷ 0 ∷ 0 ∷ 0 ∷ 0 ∷ 0 ∷ []) ∷ [])
    ∷ example (compare_in 1 e1 (text_of put (bytes_of "7") go load two)) ((1 ∷ 1 ∷ []) ∷ (2 ∷ 0 ∷ 6 ∷ 0 ∷ 0 ∷ 0 ∷ 0 ∷ 0 ∷ []) ∷ [])
    -- a fragment at another entry: masks, and a fixup on each side
    ∷ example (compare_in 4 e1 (text_of put six go load (bytes_of "02 03")))
    ((1 ∷ 4 ∷ [])
    ∷ (0 ∷ 0 ∷ 0 ∷ 0x12 ∷ 0xFF ∷ 0 ∷ 0 ∷ 0 ∷ 0 ∷ 0 ∷ 2 ∷ 0 ∷ 0 ∷ 0 ∷ 0xFF ∷ 0 ∷ 3 ∷ 0 ∷ 0 ∷ 0 ∷ 0 ∷ 0 ∷ 0 ∷ 0 ∷ 4 ∷ 0 ∷ 0 ∷ 0 ∷ 0 ∷ 0 ∷ 0 ∷ 0 ∷ [])
    ∷ [])
    -- an area on one side
    ∷ example (compare_in 1 (text_of put six (go ++ bytes_of "A D size 1 flags 20\n") load two) e1) ((1 ∷ 1 ∷ []) ∷ (5 ∷ 1 ∷ 0 ∷ 0 ∷ 0 ∷ 0 ∷ 0 ∷ 0 ∷ []) ∷ [])
    ∷ example (compare_in 1 e1 (text_of put six (go ++ bytes_of "A D size 1 flags 20\n") load two)) ((1 ∷ 1 ∷ []) ∷ (6 ∷ 1 ∷ 0 ∷ 0 ∷ 0 ∷ 0 ∷ 0 ∷ 0 ∷ []) ∷ [])
    -- another value
    ∷ example (compare_in 1 e1 (text_of put six (bytes_of "S _go Def0004\n") load two)) ((1 ∷ 1 ∷ []) ∷ (7 ∷ 0 ∷ 1 ∷ 1 ∷ 0 ∷ 0 ∷ 0 ∷ 0 ∷ []) ∷ [])
    -- another name: the fixup refers to another symbol
    ∷ example (compare_in 4 e1 (text_of (bytes_of "_get") six go load two))
    ((1 ∷ 4 ∷ [])
    ∷ (3 ∷ 0 ∷ 0 ∷ 0 ∷ 0 ∷ 0 ∷ 0 ∷ 0 ∷ 4 ∷ 0 ∷ 0 ∷ 0 ∷ 0 ∷ 0 ∷ 0 ∷ 0 ∷ 8 ∷ 0 ∷ 0 ∷ 0 ∷ 0 ∷ 0 ∷ 0 ∷ 0 ∷ 9 ∷ 0 ∷ 0 ∷ 0 ∷ 0 ∷ 0 ∷ 0 ∷ 0 ∷ [])
    ∷ [])
    -- later symbols of a name are not looked at
    ∷ example (compare_in 0 e1 (text_of put six (go ++ bytes_of "S _go Def0004\nS _put Ref0001\n") load two)) ((1 ∷ 0 ∷ []) ∷ [] ∷ [])
    -- 16: no room; 19: not finished; 3 in the older, then in the newer
    ∷ example (compare_in 3 e1 (text_of (bytes_of "_get") six go load two)) ((0 ∷ 16 ∷ 0 ∷ []) ∷ replicate 24 77 ∷ [])
    ∷ example (compare_in 0 e1 (text_of (bytes_of "_get") six go load two ++ 83 ∷ [])) ((0 ∷ 19 ∷ 0 ∷ []) ∷ [] ∷ [])
    ∷ example (compare_in 1 (128 ∷ []) (200 ∷ [])) ((2 ∷ 3 ∷ 0 ∷ []) ∷ replicate 8 77 ∷ [])
    ∷ example (compare_in 1 e1 (88 ∷ 200 ∷ [])) ((3 ∷ 3 ∷ 1 ∷ []) ∷ replicate 8 77 ∷ [])
    ∷ []

-- every example holds
pub examples : map (λ e. e.given) table ≡ map (λ e. e.expected) table
unfolding table
examples = refl
