-- What a target may be asked of, and its answer.
-- Assumes nothing.
use Rattle.std.specs.Prelude.{ℕ, ◌^◌, Bool, ◌&&◌, Result, Ok, Err, leb, ltb}
use Rattle.format.specs.Mode.{Class, size_of}
use Rattle.format.specs.Outcome.{Outcome, fine, refused}
use Rattle.target_asked.specs.declared.Refusal.{Refusal}

-- the target, or the refusal with its number and place
abbrev pub told : Result ℕ Refusal → Outcome ℕ
told (Ok t) = fine t
told (Err r) = refused r.number r.place

-- whether a mode of a class, a number and so many bytes have a target; else 14
unfoldable pub allowed : Class → (m n len : ℕ) → Bool
allowed c m n len = ltb m 2048 && ltb n (2 ^ 24) && leb (size_of c) len
