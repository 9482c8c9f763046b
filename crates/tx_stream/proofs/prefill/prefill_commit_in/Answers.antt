use Rattle.std.proofs.lemmas.Result.{err_from_is_err_and}
use Rattle.std.proofs.Common.{refl, le-leb}
use borrow.Author.Tests.{lt-leb}
use Rattle.descriptors.specs.laws.Sound.{ready-split, split-facts}
use Rattle.tx_stream.specs.laws.Rules.{unsound, prefill-commit-no, prefill-commit-much, prefill-commit-yes}
use Rattle.tx_stream.proofs.prefill.prefill_commit_in.Goals as goal

pub returns-in_err-judge_split : goal.returns-in_err-judge_split
returns-in_err-judge_split c =
    let p = err_from_is_err_and c.from_residual.result c.from_residual.ensures.1 in
    let q = unsound _ _ _ c.judge_split.ensures c.in_err-judge_split.was in
    rw (p.1, p.2, q.1, prefill-commit-no _ _ q.0 c.args.k) record { h_after = refl; value = refl }

pub overflow_sub-len : goal.overflow_sub-len
overflow_sub-len c = (split-facts _ _ (ready-split _ _ _ c.judge_split.ensures c.in_ok-judge_split.was)).prefilled

pub returns-then-len-h : goal.returns-then-len-h
returns-then-len-h c =
    let sure = ready-split _ _ _ c.judge_split.ensures c.in_ok-judge_split.was in
    rw (prefill-commit-much _ _ sure c.args.k (lt-leb _ _ c.if-len-h.true)) record { h_after = refl; value = refl }

pub returns : goal.returns
returns c =
    let sure = ready-split _ _ _ c.judge_split.ensures c.in_ok-judge_split.was in
    rw (prefill-commit-yes _ _ sure c.args.k (le-leb _ _ c.if-len-h.false)) record { h_after = c.prefilled_by.ensures; value = refl }
