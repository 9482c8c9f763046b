use Rattle.bench.specs.Number.{most, numeral_of}
use Rattle.std.proofs.Common.{◌≡◌, ◌≤◌, drop}
use Rattle.bench.proofs.number.numeral.Given as goal

abbrev pub invariant-loop-b : goal.invariant-loop-b
invariant-loop-b l =
    record { small : l.value ≤ most; same : numeral_of l.base 0 l.digits ≡ numeral_of l.base l.value (drop l.b-index l.digits) }
