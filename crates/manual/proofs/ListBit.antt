-- Bit 1 of the manual: the list in which the index counts.
-- Assumes nothing.
use Prim.Native.Nat.{suc, zero, ℕ, ◌+◌, ◌<◌, ◌≤◌}
use mathlib.Core.Path.{◌≡◌, ap, refl, sym, ◌∙◌}
use mathlib.Core.List.{List, [], ◌∷◌}
use mathlib.Core.Option.{none}
use native.Mathlib.Omega.{arith}
use lib.ListN.{get_elem?, length}
use Rattle.format.specs.Lists.{pick}
use Rattle.format.specs.Outcome.{fine}
use Rattle.format.specs.Tables.{Area, Symbol, Tables, kept, rank}
use Rattle.format.specs.Fixups.{reference, symbol_ref, to_area}
use Rattle.manual.specs.Meaning.{area_list, meaning, symbol_list}
use Rattle.manual.specs.Meant.{MeantList}
use Rattle.manual.proofs.ModeBits.{bit-1-is-area-or-symbol}
use Rattle.manual.proofs.MeaningBits.{bit-1, is_symbol}

-- past the end of a list there is nothing
no-area : (k : ℕ) (areas : List Area) (i : ℕ) → length areas ≤ i → rank k areas i ≡ none
unfolding rank
no-area k [] i h = refl
no-area k (a ∷ areas) zero h = absurd (omega arith)
no-area k (a ∷ areas) (suc i) h = no-area (k + pick (kept a) 1 0) areas i (omega arith)

no_symbol : (symbols : List Symbol) (i : ℕ) → length symbols ≤ i → get_elem? symbols i ≡ none
no_symbol [] i h = refl
no_symbol (s ∷ symbols) zero h = absurd (omega arith)
no_symbol (s ∷ symbols) (suc i) h = no_symbol symbols i (omega arith)

pub bit-1-is-meant : (m : ℕ) → m < 256 → MeantList m
bit-1-is-meant m below = record {
  by-area = by-area;
  by-symbol = by-symbol;
  past-areas = λ e t place entry index h. by-area e t place entry index ∙ rw (no-area 0 t.areas index h);
  past-symbols = λ e t place entry index h. by-symbol e t place entry index ∙ rw (no_symbol t.symbols index h);
}
  where
    by-area : (meaning m).listed ≡ area_list → (t : Tables) (place entry index : ℕ)
        → reference t place (record { mode = m; entry = entry; index = index }) ≡ fine (to_area (rank 0 t.areas index) 0)
    by-area e = (bit-1-is-area-or-symbol m).area (sym (bit-1 m) ∙ ap is_symbol e)

    by-symbol : (meaning m).listed ≡ symbol_list → (t : Tables) (place entry index : ℕ)
        → reference t place (record { mode = m; entry = entry; index = index }) ≡ symbol_ref t.areas place (get_elem? t.symbols index)
    by-symbol e = (bit-1-is-area-or-symbol m).symbol (sym (bit-1 m) ∙ ap is_symbol e)
