use Rattle.std.proofs.lemmas.Result.{err_from_is_err_and}
use Rattle.std.proofs.Common.{ℕ, refl, ap, ◌∙◌, arith}
use Rattle.descriptors.specs.declared.record.TransferDirection.TheVariants.{Out}
use Rattle.descriptors.specs.laws.Stores.{link-in}
use Rattle.descriptors.specs.laws.Words.{cells_same}
use Rattle.descriptors.specs.laws.Sound.{ready-split, split-facts}
use Rattle.tx_stream.specs.Faces.{marked_cells, marked_cursor}
use Rattle.tx_stream.specs.laws.Prepares.{prepared_head, prepared}
use Rattle.tx_stream.specs.laws.Rules.{unsound, prepare-no}
use Rattle.tx_stream.proofs.prepare.prepare_in.Goals as goal

pub returns-in_err-judge_split : goal.returns-in_err-judge_split
returns-in_err-judge_split c =
    let p = err_from_is_err_and c.from_residual.result c.from_residual.ensures.1 in
    let q = unsound _ _ _ c.judge_split.ensures c.in_err-judge_split.was in
    rw (p.1, p.2, q.1, prepare-no _ _ q.0) record { w_after = cells_same c.args.s.now c.args.w.now; h_after = refl; value = refl }

pub mark_tx_stream_descriptors_ready-cursor-requires : goal.mark_tx_stream_descriptors_ready-cursor-requires
mark_tx_stream_descriptors_ready-cursor-requires c =
    omega (arith, (split-facts _ _ (ready-split _ _ _ c.judge_split.ensures c.in_ok-judge_split.was)).parts.few)

pub returns : goal.returns
returns c =
    let a = c.args in
    let n : ℕ = a.h.now.count in
    let b : ℕ = a.h.now.pre_filled in
    let sure = ready-split _ _ _ c.judge_split.ensures c.in_ok-judge_split.was in
    let e = c.link_all.ensures ∙ link-in Out n a.w.now (split-facts _ _ sure).parts.many in
    let p = prepared a.s.now a.w.now a.h.now a.len sure in record {
      w_after = c.mark_tx_stream_descriptors_ready-cursor.ensures.0 ∙ ap (marked_cells n b) e ∙ p.0;
      h_after = ap (prepared_head a.h.now) (c.mark_tx_stream_descriptors_ready-cursor.ensures.1 ∙ ap (marked_cursor n b) e) ∙ p.1;
      value = p.2;
    }
