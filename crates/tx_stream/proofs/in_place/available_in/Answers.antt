use Rattle.std.proofs.lemmas.Result.{err_from_is_err_and}
use Rattle.std.proofs.Common.{sym, ap, ◌∙◌, Ok}
use Rattle.descriptors.specs.laws.Sound.{ready-split}
use Rattle.tx_stream.specs.laws.Accepts.{room-is}
use Rattle.tx_stream.specs.laws.Rules.{unsound, available-no, available-yes}
use Rattle.tx_stream.proofs.in_place.available_in.Goals as goal

pub returns-in_err-judge : goal.returns-in_err-judge
returns-in_err-judge c =
    let p = err_from_is_err_and c.from_residual.result c.from_residual.ensures.1 in
    let q = unsound _ _ _ c.judge.ensures c.in_err-judge.was in
    rw (p.1, p.2, q.1) (sym (available-no _ _ q.0))

pub returns : goal.returns
returns c =
    let a = c.args in
    let sure = ready-split _ _ _ c.judge.ensures c.in_ok-judge.was in
    ap Ok (c.available.ensures ∙ room-is a.s.now a.w.now a.h a.len sure) ∙ sym (available-yes _ _ sure)
