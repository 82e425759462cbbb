-- Laws for an entry laid into the book: a part, a number, its row, its body.
-- Assumes nothing.
use Prim.Native.Nat.{ℕ, ◌+◌, ◌*◌, ◌/◌, ◌%◌, ◌^◌, ◌<◌}
use mathlib.Core.Path.{◌≡◌, refl, sym, ◌∙◌}
use mathlib.Core.List.{List, [], ◌∷◌, ◌++◌}
use native.Mathlib.Omega.{arith}
use lib.ListN.{length, length-append, take}
use lib.Seq.{sets, take-take}
use borrow.Author.Rules.{rules}
use Rattle.cells.proofs.Laws.{sets-append}
use Rattle.book.specs.Entries.{body}
use Rattle.book.specs.Contents.{four, part, row_bytes, row_for}
use Rattle.book.specs.Given.{field_at, entry_at}

-- a part laid down
part-whole : (xs : List ℕ) (at n : ℕ) → take n (part xs at n) ≡ part xs at n
unfolding part
part-whole xs at n = take-take n n _ (omega arith)

pub part-laid : (xs : List ℕ) (f n to : ℕ) (out : List ℕ) {u w : ℕ} {l left : List ℕ} → u ≡ f → l ≡ part xs u n → w ≡ n → left ≡ sets out to (take w l) → left ≡ sets out to (part xs f n)
part-laid xs f n to out a b c e = e ∙ rw (b, c, a, part-whole xs f n)

-- a number laid down, byte by byte
pub four-laid : (l : List ℕ) (to v : ℕ) {d : List ℕ} → d ≡ sets l to (v % 256 ∷ v / 256 % 256 ∷ v / 256 / 256 % 256 ∷ v / 256 / 256 / 256 % 256 ∷ []) → d ≡ sets l to (four v)
unfolding four
four-laid l to v e = e

pub four-long : (v : ℕ) → length (four v) ≡ 4
unfolding four
four-long v = refl

-- a row laid down, number by number
pub row_laid : (l : List ℕ) (to a b c d : ℕ) {s t u v : List ℕ} → s ≡ sets l to (four a) → t ≡ sets s (to + 4) (four b) → u ≡ sets t (to + 8) (four c) → v ≡ sets u (to + 12) (four d)
    → v ≡ sets l to (row_bytes (record { name_at = a; name_length = b; at = c; size = d }))
unfolding row_bytes
row_laid l to a b c d e f g h =
    let two : length (four a ++ four b) ≡ 8 = length-append (four a) (four b) ∙ rw (four-long a, four-long b) in
    let three : length (four a ++ four b ++ four c) ≡ 12 = length-append (four a ++ four b) (four c) ∙ rw (two, four-long c) in
    h ∙ rw (g, f, e)
    (sym (sets-append l to (four a ++ four b ++ four c) (four d)
    ∙ rw (three, sets-append l to (four a ++ four b) (four c), two, sets-append l to (four a) (four b), four-long a)))

-- a body laid down, part by part
pub body-laid : (pool rows out : List ℕ) (to i : ℕ) {n l v m z : ℕ} {a b c : List ℕ} {p q s t : ℕ}
    → n ≡ field_at rows i 0 → l ≡ field_at rows i 1 → v ≡ field_at rows i 2 → m ≡ field_at rows i 3 → z ≡ field_at rows i 4
    → a ≡ sets out to (part pool n l) → p ≡ length (part pool n l) → s ≡ p → b ≡ sets a (to + s) (part pool v z) → q ≡ length (part pool v z) → t ≡ q → c ≡ sets b (to + s + t) (part pool m z)
    → c ≡ sets out to (body (entry_at pool rows i))
unfolding body entry_at
body-laid pool rows out to i {n} {l} {v} {m} {z} {a} {b} {c} {p} {q} {s} {t} en el ev em ez ea ep es eb eq et ec =
    let k : to + length (part pool n l ++ part pool v z) ≡ to + s + t = omega (arith, length-append (part pool n l) (part pool v z)) in
    let j : length (part pool n l) ≡ s = omega arith in
    ec ∙ rw (eb, ea, ← en, ← el, ← ev, ← em, ← ez)
    (sym (sets-append out to (part pool n l ++ part pool v z) (part pool m z) ∙ rw (k, sets-append out to (part pool n l) (part pool v z), j)))

-- an entry's row laid down
pub entry-laid : (pool rows out : List ℕ) (i row to : ℕ) {l z : ℕ} {left : List ℕ} → l ≡ length (entry_at pool rows i).name → z ≡ length (entry_at pool rows i).values
    → left ≡ sets out row (row_bytes (record { name_at = to; name_length = l; at = to + l; size = z })) → left ≡ sets out row (row_bytes (row_for to (entry_at pool rows i)))
unfolding row_for
entry-laid pool rows out i row to a b e = e ∙ rw (a, b)

pub ruleset entries = (rules, part-laid, four-laid, row_laid, body-laid, entry-laid)
