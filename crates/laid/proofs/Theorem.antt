-- The whole in one: what is laid matches its own pattern and its fixups reach what they refer to; and what is refused, and how.
-- Assumes nothing.
use Prim.Native.Nat.{ℕ}
use mathlib.Core.Path.{◌≡◌, refl, subst}
use mathlib.Core.Bool.{Bool, true, false}
use mathlib.Core.List.{List}
use Rattle.format.specs.Lists.{pick}
use Rattle.format.specs.Outcome.{fine, refused}
use Rattle.format.specs.Reading.{Lent, Read, read}
use Rattle.laws.proofs.Outcomes.{follow}
use Rattle.laid.specs.Laid.{Chosen}
use Rattle.laid.specs.Words.{Fits}
use Rattle.laid.specs.Fit.{fit, fit_read, laid_read, laid_of}
use Rattle.laid.specs.Well.{Well}
use Rattle.laid.proofs.Words.{what-passes-fits, what-fits-passes}
use Rattle.laid.proofs.Pattern.{what-was-laid, as-many-laid-bytes-as-positions, laid-bytes-match-the-pattern, laid-bits-match-the-pattern}
use Rattle.laid.proofs.Fixups.{given-fixups-have-an-area, given-fixups-reach-what-they-refer-to}

module _ (ended : Bool) (b : Lent) (ch : Chosen) (text : List ℕ) where
  well-read : (w : Read) → read ended b text ≡ fine w → fit_read w ≡ true → Well ended b ch text (laid_read ch w)
  unfolding fit_read
  well-read w e h = record {
    it = w;
    accepted = e;
    fits = what-passes-fits w.parsed.form w.built.tables w.parsed.records.pairs h;
    as_many = as-many-laid-bytes-as-positions w ch;
    agrees = laid-bytes-match-the-pattern ended b text w ch e h;
    bits = laid-bits-match-the-pattern ended b text w ch e h;
    housed = given-fixups-have-an-area ended b text w ch e h;
    reaches = given-fixups-reach-what-they-refer-to ended b text w ch e h;
  }

  -- what is laid
  pub laid-code-matches-its-own-pattern : (bytes : List ℕ) → laid_of ended b ch text ≡ fine bytes → Well ended b ch text bytes
  laid-code-matches-its-own-pattern bytes h =
      let k = what-was-laid ended b ch text bytes h in
      subst (λ (xs : List ℕ). Well ended b ch text xs) k.bytes-are (well-read k.module-read k.accepted k.is-fit)

  -- an accepted module that fits is laid
  pub what-fits-is-laid : (w : Read) → read ended b text ≡ fine w → Fits w.parsed.form w.built.tables w.parsed.records.pairs → laid_of ended b ch text ≡ fine (laid_read ch w)
  unfolding laid_of fit_read
  what-fits-is-laid w e f = follow (read ended b text) _ e (rw (what-fits-passes w.parsed.form w.built.tables w.parsed.records.pairs f))

  -- 25 for one that does not
  pub what-does-not-fit-is-25 : (w : Read) → read ended b text ≡ fine w → (Fits w.parsed.form w.built.tables w.parsed.records.pairs → ⊥) → laid_of ended b ch text ≡ refused 25 0
  unfolding laid_of fit_read
  what-does-not-fit-is-25 w e f = follow (read ended b text) _ e (go (fit w.parsed.form w.built.tables w.parsed.records.pairs) refl)
    where
      go : (t : Bool) → fit w.parsed.form w.built.tables w.parsed.records.pairs ≡ t → pick t (fine (laid_read ch w)) (refused 25 0) ≡ refused 25 0
      go true h = absurd (f (what-passes-fits w.parsed.form w.built.tables w.parsed.records.pairs h))
      go false h = refl

  -- the module's own refusals first
  pub a-refused-module-is-refused : (n p : ℕ) → read ended b text ≡ refused n p → laid_of ended b ch text ≡ refused n p
  unfolding laid_of
  a-refused-module-is-refused n p h = rw h
