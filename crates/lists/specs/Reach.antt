-- How far the bytes of a list may be read in the usual form.
-- Assumes nothing.
use Rattle.std.specs.Prelude.{◌≡◌, ℕ, ◌+◌, ◌-◌, ◌<◌, ◌≤◌, List, length, slice_index}

-- a place before which spaced bytes may stand from another place on, or 0: three bytes of the text are behind any place before it, and 256 spaced bytes go no further
pub record Reach (radix : ℕ) (s : List ℕ) (at last : ℕ) : Type 0 where
  pub sixteen : 0 < last → radix ≡ 16
  pub space : 0 < last → slice_index s at ≡ 32
  pub inside : last ≤ length s - 3
  pub few : last ≤ at + 768
