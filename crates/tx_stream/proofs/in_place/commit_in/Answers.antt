use Rattle.std.proofs.lemmas.Result.{err_from_is_err_and}
use Rattle.std.proofs.Common.{refl, ◌∙◌, arith}
use Rattle.descriptors.specs.laws.Words.{cells_same}
use Rattle.descriptors.specs.laws.Sound.{ready-split}
use Rattle.tx_stream.specs.Transmit.{commit_of}
use Rattle.tx_stream.specs.laws.Room.{offset-fits}
use Rattle.tx_stream.specs.laws.Accepts.{place-within, part-is, up_to}
use Rattle.tx_stream.specs.laws.Rules.{unsound, commit-no}
use Rattle.tx_stream.proofs.in_place.commit_in.Goals as goal

pub returns-in_err-judge : goal.returns-in_err-judge
returns-in_err-judge c =
    let p = err_from_is_err_and c.from_residual.result c.from_residual.ensures.1 in
    let q = unsound _ _ _ c.judge.ensures c.in_err-judge.was in
    rw (p.1, p.2, q.1, commit-no _ _ q.0 c.args.k) record { w_after = cells_same c.args.s.now c.args.w.now; h_after = refl; value = refl }

pub write_position-at-requires : goal.write_position-at-requires
write_position-at-requires c = offset-fits _ _ (ready-split _ _ _ c.judge.ensures c.in_ok-judge.was)

pub offered-part-requires : goal.offered-part-requires
offered-part-requires c =
    let a = c.args in
    omega (arith, c.write_position-at.ensures, place-within a.s.now a.w.now a.h.now a.len (ready-split _ _ _ c.judge.ensures c.in_ok-judge.was))

pub returns : goal.returns
unfolding commit_of
returns c =
    let a = c.args in
    let sure = ready-split _ _ _ c.judge.ensures c.in_ok-judge.was in
    let e = c.offered-part.ensures ∙ part-is a.s.now a.w.now a.h.now a.len sure _ c.write_position-at.ensures in
    let u = up_to a.s.now a.w.now a.h.now a.len sure _ _ a.k e in
    record { w_after = c.accept_up_to.ensures.w_after ∙ u.0; h_after = c.accept_up_to.ensures.h_after ∙ u.1; value = c.accept_up_to.ensures.value ∙ u.2 }
