use Rattle.std.proofs.Common.{◌≡◌, length}
use Rattle.replay_books.proofs.all.Given as goal

abbrev pub invariant-loop : goal.invariant-loop
invariant-loop l = length l.room ≡ length l.initial.room
