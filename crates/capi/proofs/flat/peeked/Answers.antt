use Rattle.std.proofs.lemmas.Result.{err_from_is_err_and}
use Rattle.capi.specs.Parts.{peek_said}
use Rattle.descriptors.specs.laws.Sound.{ready-split}
use Rattle.rx_stream.specs.laws.Takes.{unsound}
use Rattle.rx_stream.specs.laws.Parts.{part-read}
use Rattle.std.proofs.Common.{arith}
use Rattle.capi.proofs.flat.peeked.Goals as goal

pub returns-in_err-judge : goal.returns-in_err-judge
unfolding peek_said
returns-in_err-judge c =
    let p = err_from_is_err_and c.from_residual.result c.from_residual.ensures.1 in
    let u = unsound _ c.judge.ensures c.in_err-judge.was in
    rw (p.1, p.2, u.1, u.0)

pub overflow_add-result : goal.overflow_add-result
overflow_add-result c =
    let a = c.args in
    let p = part-read a.s.now a.w.now a.h a.len (ready-split _ _ _ c.judge.ensures c.in_ok-judge.was) a.until_eof c.start_of-start.ensures c.flat_bytes-bytes.ensures in
    record { fits = omega (arith, p.forward, p.inside) }

pub overflow_sub-result : goal.overflow_sub-result
overflow_sub-result c =
    let a = c.args in
    let p = part-read a.s.now a.w.now a.h a.len (ready-split _ _ _ c.judge.ensures c.in_ok-judge.was) a.until_eof c.start_of-start.ensures c.flat_bytes-bytes.ensures in
    omega (arith, p.forward)

pub returns : goal.returns
unfolding peek_said
returns c =
    let a = c.args in
    let passed = ready-split _ _ _ c.judge.ensures c.in_ok-judge.was in
    let p = part-read a.s.now a.w.now a.h a.len passed a.until_eof c.start_of-start.ensures c.flat_bytes-bytes.ensures in
    rw passed (simp (p.starts, p.flats))
