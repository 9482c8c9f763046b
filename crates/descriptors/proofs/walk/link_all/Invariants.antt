use Rattle.std.proofs.Common.{◌≡◌}
use Rattle.descriptors.specs.Stores.{link_cells}
use Rattle.descriptors.specs.Record.{up_to}
use Rattle.descriptors.proofs.walk.link_all.Given as goal

abbrev pub invariant-loop-i : goal.invariant-loop-i
invariant-loop-i l =
    l.w ≡ up_to (link_cells l.dir l.n) l.i l.initial.w
