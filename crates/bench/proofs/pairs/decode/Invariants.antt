use Rattle.bench.specs.Pairs.{pair_at}
use Rattle.std.proofs.Common.{ℕ, ◌≡◌, ◌<◌, get_or, Some}
use Rattle.bench.proofs.pairs.decode.Given as goal

abbrev pub invariant-loop-i : goal.invariant-loop-i
invariant-loop-i l = (j : ℕ) → j < l.i → Some (get_or l.data j 0) ≡ pair_at l.word j
