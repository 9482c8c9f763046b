use Rattle.descriptors.specs.Stores.{lay_cells}
use Rattle.descriptors.specs.Record.{up_to}
use Rattle.std.proofs.Common.{◌≡◌}
use Rattle.descriptors.proofs.ring.lay_sizes.Given as goal

abbrev pub invariant-loop-i : goal.invariant-loop-i
invariant-loop-i l =
    l.w ≡ up_to (lay_cells l.dir l.n l.len) l.i l.initial.w
