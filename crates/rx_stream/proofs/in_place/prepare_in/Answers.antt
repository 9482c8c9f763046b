use Rattle.std.proofs.lemmas.Result.{err_from_is_err_and}
use Rattle.rx_stream.specs.laws.Answers.{prepare-refused, prepare-done}
use Rattle.rx_stream.specs.laws.Takes.{unsound, linked-cells}
use Rattle.descriptors.specs.laws.Words.{cells_same}
use Rattle.descriptors.specs.laws.Sound.{ready-split}
use Rattle.descriptors.specs.Ring.{ring_of}
use Rattle.std.proofs.Common.{refl, ◌∙◌}
use Rattle.rx_stream.proofs.in_place.prepare_in.Goals as goal

pub returns-in_err-judge_split : goal.returns-in_err-judge_split
returns-in_err-judge_split c =
    let a = c.args in
    let p = err_from_is_err_and c.from_residual.result c.from_residual.ensures.1 in
    let u = unsound _ c.judge_split.ensures c.in_err-judge_split.was in
    rw (prepare-refused (ring_of a.s.now a.w.now a.h.now) a.len u.0) (record { w_after = cells_same a.s.now a.w.now; h_after = refl; value = rw (p.1, p.2, u.1) refl })

pub returns : goal.returns
returns c =
    let a = c.args in
    let passed = ready-split _ _ _ c.judge_split.ensures c.in_ok-judge_split.was in
    rw (prepare-done (ring_of a.s.now a.w.now a.h.now) a.len passed) (record { w_after = c.link_all.ensures ∙ linked-cells a.s.now a.w.now a.h.now a.len passed; h_after = refl; value = refl })
