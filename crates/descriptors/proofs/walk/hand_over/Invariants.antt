use Rattle.std.proofs.Common.{◌≡◌, ◌-◌}
use Rattle.descriptors.specs.Stores.{hand_cells}
use Rattle.descriptors.specs.Place.{turns}
use Rattle.descriptors.proofs.walk.hand_over.Given as goal

abbrev pub invariant-loop-handed : goal.invariant-loop-handed
invariant-loop-handed l =
    turns (hand_cells l.dir l.n) l.n (l.g - l._handed) l.at l.w ≡ turns (hand_cells l.dir l.n) l.n l.g l.i l.initial.w
