-- What an output holds.
use Rattle.std.specs.Prelude.{ℕ, List, take}
use Rattle.bench.specs.declared.output.Output.{Output}

abbrev pub held : Output → List ℕ
held o = take o.end o.bytes
