-- Why the ended reading stopped: the line at the stop, or the two lines, read once more. The reason is the line reader's own, or that of the
-- item that was due where the reader left off; where nothing was due but the line end, it is 4 at the byte that stands there instead.
-- The reasons: 1 no digit, 2 over 32 bits, 3 over 255, 4 anything else.
-- Assumes nothing.
use Rattle.std.specs.Prelude.{ℕ, ◌+◌, Bool, false, true, ◌||◌, List, [], ◌∷◌, get_or, length, eqb}
use Rattle.std.proofs.Math.Option.{Option, none, some}
use Rattle.format.specs.Lists.{pick}
use Rattle.format.specs.Got.{Got, Reader, is, isnt, many, shifted, then, ◌>>=◌, ◌>>◌}
use Rattle.format.specs.Number.{blanks}
use Rattle.format.specs.Lines.{Line, width}
use Rattle.format.specs.Header.{Form}
use Rattle.format.specs.Entries.{A, addr, entry_line, field, flags, size, spelled, titled}
use Rattle.format.specs.Pairs.{Fragment, area_part, fragment, whole_content}
use Rattle.format.specs.Outcome.{Outcome, fine, refused}
use Rattle.format.specs.Records.{Parsed, Verdict, finished, parsed, stop, stopped, verdict}
use Rattle.laws.specs.Places.{line_at, next_line}

-- a reason, and the place where it came up
pub record Halt : Type 0 where
  pub reason : ℕ
  pub place : ℕ

-- why a reader came to a halt; where it read what it reads, the line end was due
abbrev pub why : {A : Type 0} → Got A → Halt
why (is a next) = record { reason = 4; place = next }
why (isnt r p) = record { reason = r; place = p }

-- size N flags N addr N, with the addr that may stand there asked for
unfoldable pub fields_due : ℕ → Reader Unit
fields_due radix = do
  field (spelled size) radix
  field (spelled flags) radix
  field (spelled addr) radix
  blanks

-- an A line
unfoldable pub area_due : Form → Reader Unit
area_due f = do
  titled (spelled A)
  fields_due f.radix

-- an R line, with one fragment more asked for than it has
unfoldable pub fragment_due : Form → Reader Fragment
fragment_due f s at =
    let item = fragment f.radix f.big in
    then (area_part f s at) (λ a next. item s (many (length s) item s next).end)

-- a line of group one: its letter says which form it had to have
unfoldable pub entry_halt : Form → List ℕ → Halt
entry_halt f s = pick (eqb (get_or s 0 0) 65) (why (area_due f s 0)) (why (entry_line f s 0))

-- a T line by the relocated form, with the line r behind it; places count from the T
unfoldable pub pair_halt : Form → Line → Line → Halt
pair_halt f t r =
    why (then (whole_content f t.bytes) (λ c used.
    pick (eqb t.ends 0) (isnt 4 used) (shifted (width t) (λ (x : Fragment). x) (fragment_due f r.bytes 0))))

-- a line and the line behind it; once a pair was taken, only a T line has a form
unfoldable pub lines_halt : Form → Bool → Line → Line → Halt
lines_halt f paired t r = pick (paired || eqb (get_or t.bytes 0 0) 84) (pair_halt f t r) (entry_halt f t.bytes)

-- the same of the lines at a place of the text, with the halt's place in the text
unfoldable pub halt_at : Form → Bool → List ℕ → ℕ → Halt
halt_at f paired text p =
    let h = lines_halt f paired (line_at text p) (line_at text (next_line text p)) in
    record { reason = h.reason; place = p + h.place }

-- whether there is one
abbrev pub any : {A : Type 0} → List A → Bool
any [] = false
any (a ∷ rest) = true

-- told for a reading that stopped
abbrev pub told_if : Verdict → Halt → Option Halt
told_if finished h = none
told_if (stopped place) h = some h

-- why a reading stopped
unfoldable pub halt_in : List ℕ → Parsed → Option Halt
halt_in text p = told_if (verdict text p) (halt_at p.form (any p.records.pairs) text (stop p))

-- nothing where there is no header
abbrev pub halt_from : List ℕ → Outcome Parsed → Option Halt
halt_from text (fine p) = halt_in text p
halt_from text (refused n place) = none

-- why the ended reading of a text stopped
unfoldable pub halt_of : List ℕ → Option Halt
halt_of text = halt_from text (parsed true text)
