use Rattle.descriptors.specs.laws.Walks.{moved-rest}
use Rattle.descriptors.specs.declared.walk.Moved.{Moved}
use Rattle.descriptors.specs.declared.record.TransferDirection.TheVariants.{In}
use Rattle.rx_stream.specs.Faces.{took_by}
use Rattle.std.proofs.Common.{ap}
use Rattle.rx_stream.proofs.in_place.take_in.Goals as goal

pub overflow_sub-result : goal.overflow_sub-result
overflow_sub-result c =
    let a = c.args in
    rw (ap (λ (m : Moved). m.rest) c.advance-m.ensures.value) (moved-rest In a.w.now a.h.now a.k)

pub returns-clause-value : goal.returns-clause-value
returns-clause-value c = ap (took_by c.args.k) c.advance-m.ensures.value
