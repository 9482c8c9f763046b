use Rattle.std.proofs.Common.{◌≡◌}
use Rattle.lent.proofs.Lists.{placed}
use Rattle.lent.proofs.list.new_over.Given as goal

-- the first i records are at their places
abbrev pub invariant-loop-i : goal.invariant-loop-i
invariant-loop-i l = record { so_far : l.ds ≡ placed l.dir l.len l.fn.ds l.i }
