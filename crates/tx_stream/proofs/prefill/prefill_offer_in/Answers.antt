use Rattle.std.proofs.Common.{ℕ, ◌-◌, List, length, drop, sym, ap, ◌∙◌, arith, length-drop, take_all}
use Rattle.descriptors.specs.Part.{part_from, as_read}
use Rattle.descriptors.specs.laws.Sound.{ready-split, split-facts}
use Rattle.tx_stream.specs.laws.Rules.{unsound, prefill-offer-no, prefill-offer-yes, prefill-offer-at, prefill-place-no}
use Rattle.tx_stream.proofs.prefill.prefill_offer_in.Goals as goal

pub returns-in_default : goal.returns-in_default
returns-in_default c =
    let lent : List ℕ = c.args.buffer.now in
    let q = unsound _ _ _ c.judge_split.ensures c.in_default.is in
    record { result_value = sym (prefill-offer-no _ lent q.0); ref_ptr_value = sym (prefill-place-no _ lent (as_read c.args.buffer) q.0) }

pub slice_bounds-result-count : goal.slice_bounds-result-count
slice_bounds-result-count c = (split-facts _ _ (ready-split _ _ _ c.judge_split.ensures c.in-Ok.is)).prefilled

pub slice_bounds-buffer-start : goal.slice_bounds-buffer-start
slice_bounds-buffer-start c = (split-facts _ _ (ready-split _ _ _ c.judge_split.ensures c.in-Ok.is)).prefilled

pub returns : goal.returns
returns c =
    let at : ℕ = c.args.h.pre_filled in
    let lent : List ℕ = c.args.buffer.now in
    let sure = ready-split _ _ _ c.judge_split.ensures c.in-Ok.is in record {
      result_value = take_all (length lent - at) (drop at lent) (omega (arith, length-drop at lent)) ∙ sym (prefill-offer-yes _ lent sure);
      ref_ptr_value = ap (part_from (as_read c.args.buffer)) (sym (prefill-offer-at _ lent sure));
    }
