-- DEMAND 3, proved.
use Rattle.both_ends.specs.Demand3.{Demand3}
use Rattle.both_ends.proofs.receive.Theorem.{receive-holds}
use Rattle.both_ends.proofs.transmit.Theorem.{transmit-holds}

pub demand3 : Demand3
demand3 = record { receive = receive-holds; transmit = transmit-holds }
