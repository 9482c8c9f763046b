use Rattle.descriptors.specs.Ring.{ring_of}
use Rattle.device.specs.laws.Steps.{stand-judged, stand-refused}
use Rattle.std.proofs.lemmas.Result.{err_from_is_err_and}
use Rattle.device.proofs.stand.find.Goals as goal

pub returns-in_err-judge : goal.returns-in_err-judge
returns-in_err-judge c =
    let a = c.args in
    let p = err_from_is_err_and c.from_residual.result c.from_residual.ensures.1 in
    rw (p.1, p.2) (stand-refused a.dir (ring_of a.s.now a.w.now a.h) a.len a.device _ _ c.judge.ensures c.in_err-judge.was)

pub returns : goal.returns
returns c =
    let a = c.args in
    stand-judged a.dir (ring_of a.s.now a.w.now a.h) a.len a.device _ _ _ c.judge.ensures c.in_ok-judge.was c.on_record.ensures
