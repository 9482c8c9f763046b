use Rattle.std.proofs.Common.{◌≤◌, length}
use Rattle.bench.proofs.input.Input.lines.Given as goal

abbrev pub invariant-loop-end : goal.invariant-loop-end
invariant-loop-end l = length l.rest ≤ l.have

abbrev pub decreases-loop-end : goal.decreases-loop-end
decreases-loop-end l = length l.rest
