-- What is placed matches its own pattern, and its fixups reach what they refer to.
-- Assumes nothing.
use Prim.Native.Nat.{ℕ}
use mathlib.Core.Path.{◌≡◌}
use mathlib.Core.Bool.{true}
use mathlib.Core.List.{List}
use lib.Dec.{leb}
use Rattle.format.specs.Lists.{pick}
use Rattle.format.specs.Outcome.{fine, refused, and_then}
use Rattle.format.specs.Reading.{Read, read}
use Rattle.laws.proofs.Outcomes.{chain, follow, passed}
use Rattle.record_rows.specs.ReadPairs.{roomy}
use Rattle.laid.specs.Fit.{fit_read, laid_read, laid_of}
use Rattle.laid.specs.Outside.{by_index}
use Rattle.laid.specs.Well.{Well}
use Rattle.laid.proofs.Theorem.{laid-code-matches-its-own-pattern}
use Rattle.placed_code.specs.Code.{addressed, code_in, code_of}

pub record Matched (text areas outside bytes : List ℕ) : Type 0 where
  pub it : Read
  pub is_read : read true roomy text ≡ fine it
  pub well : Well true roomy (by_index it.built.tables areas outside) text bytes

module _ (text areas outside bytes : List ℕ) where
  laid-is : (w : Read) → read true roomy text ≡ fine w → pick (fit_read w) (fine (laid_read (by_index w.built.tables areas outside) w)) (refused 25 0) ≡ fine bytes
      → laid_of true roomy (by_index w.built.tables areas outside) text ≡ fine bytes
  unfolding laid_of
  laid-is w e h = follow (read true roomy text) _ e h

  pub placed-code-matches-its-own-pattern : (room : ℕ) → code_of text areas outside room ≡ fine bytes → Matched text areas outside bytes
  unfolding code_of code_in
  placed-code-matches-its-own-pattern room h =
      let a = passed (leb 65536 room) (and_then (read true roomy text) (code_in areas outside)) 1 0 bytes h in
      let k = chain (read true roomy text) (code_in areas outside) bytes a.1 in
      let w = k.value in
      let b = passed (addressed w areas outside) (pick (fit_read w) (fine (laid_read (by_index w.built.tables areas outside) w)) (refused 25 0)) 1 0 bytes k.second in
      record { it = w; is_read = k.first; well = laid-code-matches-its-own-pattern true roomy (by_index w.built.tables areas outside) text bytes (laid-is w k.first b.1) }
