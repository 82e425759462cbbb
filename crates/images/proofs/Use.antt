-- For a caller with a site within the bounds: both images are written.
-- Assumes nothing.
use Prim.Native.Nat.{ℕ, ◌≤◌}
use mathlib.Core.Path.{◌≡◌}
use mathlib.Core.Bool.{◌&&◌}
use mathlib.Core.List.{List}
use lib.Dec.{leb}
use lib.ListN.{length}
use borrow.Author.Tests.{le-leb}
use Rattle.sites.specs.declared.Site.{Site}
use Rattle.sites.specs.Site.{Ready, is_ready}
use Rattle.sites.proofs.Fitting.{ready-true}
use Rattle.images.specs.Image.{image_of, plain_values, plain_masks, Written}

-- the images of a work line
pub record Walked (s : Site) (wv wm wk vs ms vs' ms' : List ℕ) : Type 0 where
  pub values : vs' ≡ image_of s wv wk vs
  pub masks : ms' ≡ image_of s wm wk ms

-- those of a pair without fragments
pub record Laid (s : Site) (bs vs ms vs' ms' : List ℕ) : Type 0 where
  pub values : vs' ≡ plain_values s bs vs
  pub masks : ms' ≡ plain_masks s ms

module _ {s : Site} (q : Ready s) where
  pub imaged-when : {wv wm wk : List ℕ} {known : ℕ} {vs ms vs' ms' : List ℕ} {r : ℕ} → Written (is_ready s) (image_of s wv wk vs) (image_of s wm wk ms) known vs ms r vs' ms'
      → Walked s wv wm wk vs ms vs' ms'
  imaged-when w = record { values = rw (ready-true q) at w.values; masks = rw (ready-true q) at w.masks }

  pub plain-when : (bs : List ℕ) → s.line.bytes ≤ length bs → {known : ℕ} {vs ms vs' ms' : List ℕ} {r : ℕ}
      → Written (is_ready s && leb s.line.bytes (length bs)) (plain_values s bs vs) (plain_masks s ms) known vs ms r vs' ms' → Laid s bs vs ms vs' ms'
  plain-when bs h w = let e = le-leb s.line.bytes (length bs) h in record { values = rw (ready-true q, e) at w.values; masks = rw (ready-true q, e) at w.masks }
