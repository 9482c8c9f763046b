use Rattle.std.proofs.lemmas.Result.{err_from_is_err_and}
use Rattle.std.proofs.Common.{refl, ◌∙◌}
use Rattle.descriptors.specs.laws.Words.{cells_same}
use Rattle.descriptors.specs.laws.Sound.{ready-split}
use Rattle.tx_stream.specs.Transmit.{advance_of}
use Rattle.tx_stream.specs.laws.Accepts.{room-is, up_to}
use Rattle.tx_stream.specs.laws.Rules.{unsound, advance-no}
use Rattle.tx_stream.proofs.in_place.advance_in.Goals as goal

pub returns-in_err-judge : goal.returns-in_err-judge
returns-in_err-judge c =
    let p = err_from_is_err_and c.from_residual.result c.from_residual.ensures.1 in
    let q = unsound _ _ _ c.judge.ensures c.in_err-judge.was in
    rw (p.1, p.2, q.1, advance-no _ _ q.0 c.args.k) record { w_after = cells_same c.args.s.now c.args.w.now; h_after = refl; value = refl }

pub returns : goal.returns
unfolding advance_of
returns c =
    let a = c.args in
    let sure = ready-split _ _ _ c.judge.ensures c.in_ok-judge.was in
    let u = up_to a.s.now a.w.now a.h.now a.len sure _ _ a.k (c.available-bound.ensures ∙ room-is a.s.now a.w.now a.h.now a.len sure) in
    record { w_after = c.accept_up_to.ensures.w_after ∙ u.0; h_after = c.accept_up_to.ensures.h_after ∙ u.1; value = c.accept_up_to.ensures.value ∙ u.2 }
