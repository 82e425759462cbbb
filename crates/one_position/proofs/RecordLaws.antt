-- What the contract of `read_pairs` tells where it answers counts: there was room, the text is read, and the rows hold its records.
-- Assumes nothing.
use Prim.Native.Nat.{ℕ}
use mathlib.Core.Path.{◌≡◌, refl, ap}
use mathlib.Core.Bool.{Bool, true, false}
use mathlib.Core.List.{List}
use native.Mathlib.Omega.{arith}
use Rattle.format.specs.Lists.{pick}
use Rattle.format.specs.Outcome.{Outcome, fine, refused}
use Rattle.format.specs.Reading.{Read, read}
use Rattle.record_rows.specs.ReadPairs as paper
use Rattle.record_rows.specs.ReadPairs.{roomy}
use Rattle.pairs_answer.specs.Told.{held}
use Rattle.pairs_answer.specs.Told as rows
use Rattle.std.specs.Prelude.{Ok}
use Rattle.pairs_answer.specs.Told.{PairsAnswer}
use Rattle.pair_rows.specs.declared.PairCounts.{PairCounts}
use Rattle.admission.specs.Admits.{IsRead}
use Rattle.one_position.specs.Explain.{Rowed}

module _ (s ps₀ bs₀ fs₀ : List ℕ) (q : PairsAnswer) {ps bs fs : List ℕ} (m : paper.PairsMeet s (held ps₀ bs₀ fs₀) (rows.told q) (held ps bs fs)) where
  -- with room, the answer and the rows are those of the ended reading
  pub roomy-says : paper.pairs_room (held ps₀ bs₀ fs₀) ≡ true → rows.told q ≡ (paper.pairs_from (read true roomy s)).answer
  unfolding paper.read_pairs
  roomy-says room = rw room at m.says

  roomy-holds : paper.pairs_room (held ps₀ bs₀ fs₀) ≡ true → held ps bs fs ≡ paper.laid_over (paper.pairs_from (read true roomy s)).rows (held ps₀ bs₀ fs₀)
  unfolding paper.read_pairs
  roomy-holds room = rw room at m.held

  module _ {c : PairCounts} (e : q ≡ Ok c) where
    had-room : paper.pairs_room (held ps₀ bs₀ fs₀) ≡ true
    unfolding paper.read_pairs
    had-room = go (paper.pairs_room (held ps₀ bs₀ fs₀)) (rw e at m.says)
      where
        go : (b : Bool) → paper.accepted (rows.told_counts c) ≡ (pick b (paper.pairs_from (read true roomy s)) (paper.nothing 1 0)).answer → b ≡ true
        go true h = refl
        go false h = let z : ◌≡◌ {A = ℕ} 0 1 = cc in let y : ⊥ = omega arith in absurd y

    pub records-read : IsRead s
    records-read = go (read true roomy s) refl (rw e at (roomy-says had-room))
      where
        go : (o : Outcome Read) → read true roomy s ≡ o → paper.accepted (rows.told_counts c) ≡ (paper.pairs_from o).answer → IsRead s
        go (fine w) r h = record { as_read = w; is = r }
        go (refused a b) r h = let z : ◌≡◌ {A = ℕ} 0 1 = cc in let y : ⊥ = omega arith in absurd y

    pub records-rowed : Rowed s ps bs fs c.pairs
    unfolding paper.counts_of paper.rows_of
    records-rowed = record {
      old-pairs = ps₀;
      old-content = bs₀;
      old-fragments = fs₀;
      holds = λ w r.
          let a : paper.accepted (rows.told_counts c) ≡ paper.accepted (paper.counts_of w.parsed.records.pairs) = rw (e, r) at (roomy-says had-room) in
          let b : held ps bs fs ≡ paper.laid_over (paper.rows_of w.parsed.records.pairs) (held ps₀ bs₀ fs₀) = rw r at (roomy-holds had-room) in
          let n : rows.told_counts c ≡ paper.counts_of w.parsed.records.pairs = cc in
          record {
            pairs-are = ap (λ (x : paper.HeldPairs). x.pairs) b;
            content-is = ap (λ (x : paper.HeldPairs). x.content) b;
            fragments-are = ap (λ (x : paper.HeldPairs). x.fragments) b;
            counted = ap (λ (x : paper.PairCounts). x.pairs) n;
          };
    }

    -- the same of lists and a count that are these
    pub rowed-as : {ps' bs' fs' : List ℕ} {n : ℕ} → ps' ≡ ps → bs' ≡ bs → fs' ≡ fs → n ≡ c.pairs → Rowed s ps' bs' fs' n
    rowed-as x y z w = rw (x, y, z, w) records-rowed
