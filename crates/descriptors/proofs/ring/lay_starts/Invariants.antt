use Rattle.descriptors.specs.Stores.{lay_start}
use Rattle.descriptors.specs.Record.{up_to}
use Rattle.std.proofs.Common.{◌≡◌}
use Rattle.descriptors.proofs.ring.lay_starts.Given as goal

abbrev pub invariant-loop-i : goal.invariant-loop-i
invariant-loop-i l =
    l.s ≡ up_to (lay_start l.n l.len) l.i l.initial.s
