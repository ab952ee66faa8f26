-- `scripts::mixes::playing` is safe: there are no more mixes than numbers.
use Rattle.std.proofs.Common.{◌≤◌}
use Rattle.scripts.proofs.mixes.playing.Given as goal

abbrev pub invariant-loop-mix : goal.invariant-loop-mix
invariant-loop-mix g l = l.mixes ≤ l.mix
