use Rattle.std.proofs.lemmas.Result.{err_from_is_err_and}
use Rattle.std.proofs.Common.{ℕ, List, length, refl, sym, ap, ◌∙◌, arith, length-take-le, Ok}
use lib.Seq.{paste}
use Rattle.descriptors.specs.laws.Sound.{ready-split, split-facts}
use Rattle.tx_stream.specs.Faces.{prefilled_head}
use Rattle.tx_stream.specs.laws.Pastes.{paste-front}
use Rattle.tx_stream.specs.laws.Rules.{unsound, prefill-no, prefill-yes, into-no, into-yes}
use Rattle.tx_stream.proofs.prefill.prefill_in.Goals as goal

pub returns-in_err-judge_split : goal.returns-in_err-judge_split
returns-in_err-judge_split c =
    let a = c.args in
    let p = err_from_is_err_and c.from_residual.result c.from_residual.ensures.1 in
    let q = unsound _ _ _ c.judge_split.ensures c.in_err-judge_split.was in
    rw (p.1, p.2, q.1, prefill-no _ _ q.0 (length a.«data».now)) record { h_after = refl; value = refl; buffer_after = sym (into-no _ a.buffer.now a.«data».now q.0) }

pub overflow_sub-buffer : goal.overflow_sub-buffer
overflow_sub-buffer c = (split-facts _ _ (ready-split _ _ _ c.judge_split.ensures c.in_ok-judge_split.was)).prefilled

pub copy_to-requires : goal.copy_to-requires
copy_to-requires c =
    let bytes : List ℕ = c.args.«data».now in
    omega (arith, length-take-le c.min-accepted.result bytes (omega (arith, c.min-accepted.ensures)), c.min-accepted.ensures, (split-facts _ _ (ready-split _ _ _ c.judge_split.ensures c.in_ok-judge_split.was)).prefilled)

pub returns : goal.returns
returns c =
    let a = c.args in
    let b : List ℕ = a.buffer.now in
    let bytes : List ℕ = a.«data».now in
    let sure = ready-split _ _ _ c.judge_split.ensures c.in_ok-judge_split.was in
    rw (prefill-yes _ _ sure (length bytes)) record {
      h_after = c.prefilled_by.ensures ∙ ap (prefilled_head a.h.now) c.min-accepted.ensures;
      value = ap Ok c.min-accepted.ensures;
      buffer_after = c.copy_to.ensures ∙ paste-front b a.h.now.pre_filled c.min-accepted.result bytes (omega (arith, c.min-accepted.ensures))
          ∙ ap (paste b a.h.now.pre_filled bytes) c.min-accepted.ensures ∙ sym (into-yes _ b bytes sure);
    }
