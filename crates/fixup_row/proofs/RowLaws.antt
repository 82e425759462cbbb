-- What the proof of a stored row cites.
-- Assumes nothing.
use Prim.Native.Nat.{ℕ}
use mathlib.Core.Path.{◌≡◌}
use mathlib.Core.List.{List, [], ◌∷◌}
use lib.ListN.{get_or}
use lib.Seq.{sets}
use borrow.Author.Rules.{rules}
use Rattle.format.specs.Mode.{on_site}
use Rattle.sites.specs.declared.Site.{Site}
use Rattle.references.specs.declared.Reference.{Reference}
use Rattle.fixup_row.specs.Row.{row_of}

-- `put_row`
pub row-stored : (rows : List ℕ) (to : ℕ) (s : Site) (ms ns : List ℕ) (t : Reference) (i position : ℕ) {z m n : ℕ} → z ≡ on_site m → m ≡ get_or ms i 0 → n ≡ get_or ns i 0 → {rows' : List ℕ}
    → rows' ≡ sets rows to (s.id ∷ position ∷ z ∷ m ∷ t.outside ∷ t.what ∷ t.length ∷ t.value ∷ n ∷ []) → rows' ≡ sets rows to (row_of s ms ns t i position)
unfolding row_of
row-stored rows to s ms ns t i position ez em en p = rw (← em, ← ez, ← en) p

pub ruleset storing = (rules, row-stored)
