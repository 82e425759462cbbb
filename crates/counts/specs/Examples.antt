-- Each point of the rule with its smallest text: what the definition gives, and what the rule says.
-- Assumes nothing.
use Rattle.std.specs.Prelude.{ℕ, ◌≡◌, refl, List, [], ◌∷◌, map}
use Rattle.format.specs.Text.{bytes_of}
use Rattle.counts.specs.Counts.{Counted, equal, not_equal, not_told, told_counts}
use Rattle.counts.specs.Evaluate.{evaluate_counts}

-- what is computed of a text, and what is said of it
pub record Example : Type 0 where
  pub given : Counted
  pub said : Counted

-- what stands behind a header line
abbrev counts : List ℕ → Counted → Example
counts rest c = record { given = told_counts (88 ∷ 72 ∷ 51 ∷ 10 ∷ rest); said = c }

pub table : List Example
unfolding evaluate_counts bytes_of
table =
    counts (bytes_of "H 1 areas 2 global symbols\nA x size 0 flags 0\nS a Ref0\nS b Ref0\n") equal
    ∷ counts (bytes_of "A x size 0 flags 0\nH\t 01  areas 0 global symbols \t\n") equal
    ∷ counts (bytes_of "H 2 areas 1 global symbols\nA x size 0 flags 0\nS a Ref0\nS b Ref0\n") not_equal
    ∷ counts (bytes_of "H 1 areas 1 global symbols\nA x size 0 flags 0\n") not_equal
    ∷ counts (bytes_of "M x\n") not_told
    ∷ counts (bytes_of "H 0 areas 0 global symbols x\n") not_told
    ∷ counts (bytes_of "H 0 areas 0 global symbols") not_told
    ∷ counts (bytes_of "H 0 areas 0 global\nH 1 areas 0 global symbols\nH 0 areas 0 global symbols\n") not_equal
    ∷ counts (bytes_of "H A areas 0 global symbols\n") not_equal
    ∷ []

-- every example holds
pub examples : map (λ (e : Example). e.given) table ≡ map (λ (e : Example). e.said) table
unfolding table
examples = refl
