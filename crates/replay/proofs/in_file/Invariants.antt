use Rattle.std.proofs.Common.{◌-◌}
use Rattle.replay.proofs.in_file.Given as goal

abbrev pub decreases-loop-at : goal.decreases-loop-at
decreases-loop-at g l = 1000000000 - l.at
