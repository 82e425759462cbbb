-- No second answer fits the contract of `work_line`.
-- Assumes nothing.
use Prim.Native.Nat.{ℕ}
use mathlib.Core.Path.{◌≡◌, refl, sym, ap, ◌∙◌}
use mathlib.Core.Bool.{Bool, true, false}
use mathlib.Core.List.{List, [], ◌++◌}
use lib.ListN.{length, take, drop, take-append-drop}
use Rattle.std.specs.Prelude.{Option as Answer, Some, None}
use Rattle.sites.specs.declared.Line.{Line}
use Rattle.sites.specs.Site.{line_fits}
use Rattle.format.specs.WorkLine as defs
use Rattle.work.specs.Work.{line_of, Reach, Reached, WorkIs}

-- numbers that begin alike and are alike behind are the same
joined : (k : ℕ) {xs ys zs : List ℕ} → take k xs ≡ take k ys → drop k xs ≡ zs → drop k ys ≡ zs → xs ≡ ys
joined k {xs} {ys} t d e = sym (take-append-drop k xs) ∙ (rw (t, d, ← e) (take-append-drop k ys))

module _ {o : (xs : List ℕ) → Reach} {c : ℕ} {ns : List ℕ} {r r' : Answer ℕ} {a b k n a' b' k' n' : List ℕ} (x : Reached o c ns r a b k n) (y : Reached o c ns r' a' b' k' n') where
  one-reach : (r ≡ r') × ((a ≡ a') × ((b ≡ b') × ((k ≡ k') × (n ≡ n'))))
  unfolding line_of
  one-reach =
      let m = length (o []).line.numbers in
      let e : line_of a b k n m ≡ line_of a' b' k' n' m = sym (x.line []) ∙ y.line [] in (
        x.answer [] ∙ sym (y.answer []),
        (
          ap (λ (w : defs.Worked). w.work.values) e,
          (ap (λ (w : defs.Worked). w.work.masks) e, (ap (λ (w : defs.Worked). w.work.keeps) e, joined m (ap (λ (w : defs.Worked). w.numbers) e) (x.behind []) (y.behind []))),
        ),
      )

pub one-work-line : {l : Line} {bs ms es wv wm wk ns : List ℕ} {r r' : Answer ℕ} {a b k n a' b' k' n' : List ℕ} → WorkIs l bs ms es wv wm wk ns r a b k n → WorkIs l bs ms es wv wm wk ns r' a' b' k' n'
    → (r ≡ r') × ((a ≡ a') × ((b ≡ b') × ((k ≡ k') × (n ≡ n'))))
one-work-line {l} {bs} {r = r} {r'} {a} {b} {k} {n} {a'} {b'} {k'} {n'} x y = go (line_fits l (length bs)) refl
  where
    go : (c : Bool) → line_fits l (length bs) ≡ c → (r ≡ r') × ((a ≡ a') × ((b ≡ b') × ((k ≡ k') × (n ≡ n'))))
    go true e = one-reach (x.says e) (y.says e)
    go false e =
        let p = x.unfit e in
        let q = y.unfit e in
        (p.0 ∙ sym q.0, (p.1.0 ∙ sym q.1.0, (p.1.1.0 ∙ sym q.1.1.0, (p.1.1.1.0 ∙ sym q.1.1.1.0, p.1.1.1.1 ∙ sym q.1.1.1.1))))
