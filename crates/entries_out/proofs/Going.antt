-- A text written part by part.
-- Assumes nothing.
use Prim.Native.Nat.{ℕ, ◌+◌, ◌<◌, ◌^◌}
use mathlib.Core.Path.{◌≡◌, ap, refl, subst, sym, ◌∙◌}
use mathlib.Core.List.{List, [], append_assoc, append-nil, ◌++◌}
use native.Mathlib.Omega.{arith}
use native.Mathlib.Nat.{add-zero}
use lib.ListN.{length}
use lib.Seq.{length-sets}
use Rattle.digits_out.specs.Wrote.{Wrote}
use Rattle.digits_out.proofs.Laws.{place_in, then-wrote}

-- some of a text is written, and the rest is left
pub record Going (whole out₀ : List ℕ) (at p : ℕ) (out rest : List ℕ) : Type 0 where
  pub done : List ℕ
  pub wrote : Wrote done out₀ at p out
  pub both : whole ≡ done ++ rest
  pub long : length out ≡ length out₀
  pub room : length out₀ < 2 ^ 64

pub go-start : (whole out : List ℕ) (at : ℕ) → at < 2 ^ 64 → length out < 2 ^ 64 → Going whole out at at out whole
go-start whole out at h k = record { done = []; wrote = record { place = sym (place_in (at + 0) (omega arith) ∙ add-zero at); stored = refl }; both = refl; long = refl; room = k }

pub go-as : {whole out₀ out rest rest' : List ℕ} {at p : ℕ} → rest ≡ rest' → Going whole out₀ at p out rest → Going whole out₀ at p out rest'
go-as {whole} {out₀} {out} {rest} {rest'} {at} {p} e g = subst (λ (l : List ℕ). Going whole out₀ at p out l) e g

pub go-more : {whole out₀ out out₁ x rest : List ℕ} {at p q : ℕ} → Going whole out₀ at p out (x ++ rest) → Wrote x out p q out₁ → Going whole out₀ at q out₁ rest
go-more {whole} {out₀} {out} {out₁} {x} {rest} {at} {p} {q} g y = record {
  done = g.done ++ x;
  wrote = then-wrote g.room g.wrote y;
  both = g.both ∙ sym (append_assoc g.done x rest);
  long = ap length y.stored ∙ (length-sets out p x ∙ g.long);
  room = g.room;
}

pub go-last : {whole out₀ out out₁ rest : List ℕ} {at p q : ℕ} → Going whole out₀ at p out rest → Wrote rest out p q out₁ → Wrote whole out₀ at q out₁
go-last {whole} {out₀} {out} {out₁} {rest} {at} {p} {q} g y = subst (λ (l : List ℕ). Wrote l out₀ at q out₁) (sym g.both) (then-wrote g.room g.wrote y)

pub go-end : {whole out₀ out : List ℕ} {at p : ℕ} → Going whole out₀ at p out [] → Wrote whole out₀ at p out
go-end {whole} {out₀} {out} {at} {p} g = subst (λ (l : List ℕ). Wrote l out₀ at p out) (sym (g.both ∙ append-nil g.done)) g.wrote
