use Rattle.std.proofs.lemmas.Result.{err_from_is_err_and}
use Rattle.capi.specs.laws.Calls.{prefill-offer-no, prefill-offer-yes}
use Rattle.capi.specs.Parts.{prefill_offer_said}
use Rattle.descriptors.specs.laws.Sound.{split-facts}
use Rattle.descriptors.specs.Ring.{ring_of}
use Rattle.std.proofs.Common.{sym, ◌∙◌, arith}
use Rattle.capi.proofs.offer.prefill_offered.Goals as goal

pub returns-in_err-prefill_offer_refusal_in : goal.returns-in_err-prefill_offer_refusal_in
returns-in_err-prefill_offer_refusal_in c =
    let a = c.args in
    let p = err_from_is_err_and c.from_residual.result c.from_residual.ensures.1 in
    rw (p.1, p.2) (sym (prefill-offer-no (ring_of a.s.now a.w.now a.h) a.len _ (sym c.prefill_offer_refusal_in.ensures ∙ c.in_err-prefill_offer_refusal_in.was)))

pub overflow_sub-result : goal.overflow_sub-result
overflow_sub-result c =
    let a = c.args in
    omega (arith, (split-facts (ring_of a.s.now a.w.now a.h) a.len (prefill-offer-yes (ring_of a.s.now a.w.now a.h) a.len (sym c.prefill_offer_refusal_in.ensures ∙ c.in_ok-prefill_offer_refusal_in.was))).prefilled)

pub returns : goal.returns
unfolding prefill_offer_said
returns c =
    let a = c.args in
    sym (simp (prefill-offer-yes (ring_of a.s.now a.w.now a.h) a.len (sym c.prefill_offer_refusal_in.ensures ∙ c.in_ok-prefill_offer_refusal_in.was)))
