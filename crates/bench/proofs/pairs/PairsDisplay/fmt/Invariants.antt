use Rattle.bench.specs.Pairs.{digits_of}
use Rattle.bench.specs.declared.pairs.TheConstants.{SPELLED}
use Rattle.std.proofs.Common.{◌≡◌, List, ℕ, ◌++◌}
use Rattle.std.specs.Fmt.{HasWritten, IsPlainFormatter}
use Rattle.std.specs.Slice.Iter.{chunks_rest, chunks_size}
use Rattle.bench.proofs.pairs.PairsDisplay.fmt.Given as goal

abbrev pub invariant-loop-part : goal.invariant-loop-part
invariant-loop-part g l =
    (goal.iterator-loop-part g).can_next l.part-iterator
    × (goal.iterator-loop-part g).is_finite l.part-iterator
    × (chunks_size l.part-iterator ≡ SPELLED)
    × (IsPlainFormatter l.initial.f → (before : List ℕ) × HasWritten g.W.Write.write_str_gives l.initial.f before l.f
    × (before ++ digits_of (chunks_rest l.part-iterator) ≡ digits_of l.fn.self.0.now))
