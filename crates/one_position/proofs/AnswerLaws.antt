-- What the proof of the answer cites: a law for each return.
-- Assumes nothing.
use Prim.Native.Nat.{ℕ, ◌+◌, ◌≤◌, ◌<◌}
use mathlib.Core.Path.{◌≡◌, refl, ap, sym, ◌∙◌}
use mathlib.Core.Bool.{Bool, true, false}
use mathlib.Core.List.{List}
use mathlib.Core.Option.{Option, none, some}
use native.Mathlib.Omega.{arith}
use borrow.Author.Rules.{rules}
use borrow.Author.Tests.{lt-ltb, le-ltb}
use Rattle.format.specs.Header.{Form}
use Rattle.format.specs.Outcome.{Outcome, fine, refused, and_then}
use Rattle.format.specs.Pairs.{Pair}
use Rattle.format.specs.Placing.{extent}
use Rattle.format.specs.Records.{Taken}
use Rattle.format.specs.Tables.{Area, Tables, offset, rank, total}
use Rattle.laws.specs.Rows.{areas_in}
use Rattle.homes.specs.declared.Home.{Home}
use Rattle.homes.specs.Home.{home_by_of}
use Rattle.last_writer.specs.LastWriter.{Span, last_writer, position_in, span_from, writer_of}
use Rattle.position_answer.specs.declared.Explained.{Explained}
use Rattle.position_answer.specs.declared.Explained.TheVariants.{Refused}
use Rattle.one_position.specs.Pair.{Asked}
use Rattle.one_position.specs.Back.{LastIs, RowsAre}
use Rattle.position_answer.specs.Answer.{told}
use Rattle.position_home.specs.Homed.{home_for, HomeForIs}
use Rattle.position_home.proofs.Use.{the-home-for}
use Rattle.one_position.specs.Answer.{Held, AnswerIs}

module _ (areas : List ℕ) (n : ℕ) (pairs content fragments : List ℕ) (many : ℕ) (big : Bool) (width id position : ℕ) (few : n ≤ 64) {h : Home} (e : h ≡ home_for areas n id position) where
  home-is : HomeForIs areas n id position h
  home-is = the-home-for areas n id position few e

  -- no kept area has the id, or its image ends before the position
  pub answer-none : h.id ≡ 0 → AnswerIs areas n pairs content fragments many big width id position (Refused 20 0)
  unfolding writer_of
  answer-none z = record { answer = λ fm t qs k r. rw (← k.areas-are, home-is.twenty z) }

  module _ (f : h.id ≡ 0 → ⊥) where
    size_is : h.size ≡ extent (areas_in areas n) h.area
    size_is = ap (λ (x : Home). x.size) (home-is.present f).home

    -- the last that wrote it
    pub answer-last : {s : Explained} → LastIs pairs content fragments many big width h position s
        → AnswerIs areas n pairs content fragments many big width id position s
    unfolding writer_of
    answer-last {s} a = record {
      answer = λ fm t qs k r.
          let inside : position < extent (areas_in areas n) h.area = omega (arith, size_is, home-is.inside f) in
          let p = home-is.present f in
          let asked : Asked fm t h.area big width h = record {
            order = k.order;
            address = k.address;
            narrow = k.narrow;
            id = id;
            ranked = ap (λ (x : List Area). rank 0 x h.area) (sym k.areas-are) ∙ p.ranked;
            home = p.home ∙ ap (λ (x : List Area). home_by_of h.area (offset x h.area) (extent x h.area) (some id)) k.areas-are;
            sizes = k.sizes;
          } in
          let found : told s ≡ fine (last_writer fm t qs (offset t.areas h.area + position)) = a.last fm t h.area qs asked r (rw (← k.areas-are) inside) in
          let span : span_from 0 t.areas id ≡ some (record { start = offset t.areas h.area; size = extent t.areas h.area }) = rw k.areas-are at p.span in
          found ∙ rw (span, lt-ltb position (extent t.areas h.area) (rw k.areas-are at inside));
    }

pub ruleset answering = (rules, answer-none, answer-last)
