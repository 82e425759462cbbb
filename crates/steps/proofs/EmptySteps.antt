-- An empty pair in the usual form: what it does to group two, and that it leaves what was lent as it is.
-- Assumes nothing.
use Prim.Native.Nat.{ℕ, ◌+◌, ◌-◌, ◌<◌, ◌≤◌, ◌^◌}
use mathlib.Core.Path.{◌≡◌, refl}
use mathlib.Core.Bool.{Bool, true}
use mathlib.Core.List.{List, []}
use native.Mathlib.Omega.{arith}
use lib.ListN.{length, take, drop}
use mir.Val.{Fits}
use mir.Syntax.{w64}
use borrow.Author.Rules.{rules}
use Rattle.format.specs.Lists.{pick}
use Rattle.format.specs.Got.{is}
use Rattle.format.specs.Header.{Form}
use Rattle.format.specs.Pairs.{pair_of, placed_of}
use Rattle.format.specs.Pairs as the
use Rattle.pair_line.proofs.Laws.Content.{whole_is}
use Rattle.text_lines.specs.Lines as scan
use Rattle.text_lines.specs.declared.LineAt.{LineAt}
use Rattle.empty_pair.specs.Empty.{EmptyAt, EmptyPair}
use Rattle.empty_pair.specs.declared.Empty.{Empty}
use Rattle.steps.specs.Entries.{LineIs}
use Rattle.steps.specs.PairLines.{PairIs, PairStepIs, LeftAt}
use Rattle.steps.specs.declared.pair.Body.TheVariants.{Placed}
use Rattle.std.specs.Prelude.{Option, Some}
use Rattle.steps.specs.declared.pair.PairStep.TheVariants.{Takes}
use Rattle.steps.proofs.PairSteps.{pair_here, pstep-1, left-some}

line-within : {s : List ℕ} {p : ℕ} {l : LineAt} → scan.LineIs s p l → p ≤ length s → LineIs s p l
line-within w h = record { ends_at = w.ends_at; line-end = w.line-end; behind = w.behind; from = w.from; width = w.width; inside = w.inside h }

module _ (f : Form) (s : List ℕ) (p : ℕ) {a r : ℕ} (w : EmptyAt f s p a r) where
  one : LineAt
  one = record { end = p + 10; ends = 1; next = p + 11 }

  two : LineAt
  two = record { end = p + 24; ends = 1; next = p + 25 }

  first : LineIs s p (record { end = p + 10; ends = 1; next = p + 11 })
  first = line-within w.first (omega (arith, w.inside))

  second : LineIs s (p + 11) (record { end = p + 24; ends = 1; next = p + 25 })
  second = line-within w.second (omega (arith, w.inside))

  some_end : ◌≡◌ {A = ℕ} 1 0 → ⊥
  some_end e = omega arith

  x : p + 10 - p ≡ 10
  x = omega arith

  y : p + 24 - (p + 11) ≡ 13
  y = omega arith

  z : p + 11 - p ≡ 11
  z = omega arith

  read : pair_of f (p + 11 - p) (take (p + 10 - p) (drop p s)) (take (p + 24 - (p + 11)) (drop (p + 11) s)) ≡ is (the.placed (record { address = a; bytes = [] }) (record { area = r; fragments = [] })) 24
  unfolding pair_of placed_of
  read = rw (x, y, z, w.content, w.relocation)

  module _ (b ms es xs : List ℕ) where
    pair_is : PairIs (pair_here f s p one two) (Some (record { body = Placed a 0 r 0; used = 24 })) b ms es xs b ms es xs
    unfolding one two
    pair_is = record {
      says = record {
        pair = the.placed (record { address = a; bytes = [] }) (record { area = r; fragments = [] });
        read = read;
        body_is = record { address = refl; count = refl; area = refl; fragments = refl; bytes = refl; rows = record { of-modes = refl; of-entries = refl; of-indexes = refl } };
      };
    }

    left_is : LeftAt f s p b ms es xs b ms es xs
    left_is =
        left-some f s first some_end second
        (record {
          bytes = rw (x, whole_is f (take 10 (drop p s)) w.content);
          rows = rw (x, y, w.content, w.relocation) (record { of-modes = refl; of-entries = refl; of-indexes = refl });
        })

    step_is : (ended : Bool) {n : ℕ} → n ≡ pick ended (p + 25) (p + 24) → PairStepIs ended f s p (Takes (Placed a 0 r 0) n (p + 25) true) b ms es xs b ms es xs
    unfolding one two
    step_is ended e = let o : p + 24 - p ≡ 24 = omega arith in pstep-1 ended f s p first some_end second pair_is (rw (o, e))

-- `pair_step`
module _ {f : Form} {s : List ℕ} {p : ℕ} {o : Option Empty} (w : EmptyPair f s p o) {x : Empty} (e : o ≡ Some x) where
  here : EmptyAt f s p x.address x.area
  here = rw e at w.says

  pub empty-step : (ended : Bool) {n : ℕ} → n ≡ pick ended (p + 25) (p + 24) → (b ms es xs : List ℕ) → PairStepIs ended f s p (Takes (Placed x.address 0 x.area 0) n (p + 25) true) b ms es xs b ms es xs
  empty-step ended g b ms es xs = step_is f s p here b ms es xs ended g

  pub empty_left : (b ms es xs : List ℕ) → LeftAt f s p b ms es xs b ms es xs
  empty_left b ms es xs = left_is f s p here b ms es xs

  pub empty-ends : length s < 2 ^ 64 → Fits w64 (p + 24)
  empty-ends h = record { fits = omega (arith, here.inside) }

  pub empty-next : length s < 2 ^ 64 → Fits w64 (p + 25)
  empty-next h = record { fits = omega (arith, here.inside) }

pub ruleset empties = (rules, empty-step, empty_left, empty-ends, empty-next)
