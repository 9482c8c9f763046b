use Rattle.bench.specs.Pairs.{digits_of}
use Rattle.std.proofs.Common.{◌≡◌, ◌*◌, ◌++◌, take, drop}
use Rattle.bench.proofs.pairs.spell.Given as goal

abbrev pub invariant-loop-i : goal.invariant-loop-i
invariant-loop-i l = take (2 * l.i) l.room ++ digits_of (drop l.i l.part) ≡ digits_of l.part
