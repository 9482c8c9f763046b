use Rattle.std.proofs.lemmas.Result.{err_from_is_err_and}
use Rattle.capi.specs.laws.Calls.{offer-no, offer-yes, offer-words}
use Rattle.tx_stream.specs.laws.Accepts.{place_is}
use Rattle.tx_stream.specs.laws.Room.{offset-fits, place_in}
use Rattle.descriptors.specs.Ring.{ring_of}
use Rattle.std.proofs.Common.{ℕ, ◌+◌, ◌-◌, min, sym, ap, ◌∙◌, arith}
use Rattle.capi.proofs.offer.offered.Goals as goal

pub returns-in_err-free : goal.returns-in_err-free
returns-in_err-free c =
    let a = c.args in
    let p = err_from_is_err_and c.from_residual.result c.from_residual.ensures.1 in
    rw (p.1, p.2) (sym (offer-no (ring_of a.s.now a.w.now a.h) a.len _ (sym c.available_in.ensures ∙ c.in_err-free.was)))

pub overflow_add-at : goal.overflow_add-at
overflow_add-at c =
    let a = c.args in
    let y = offer-yes (ring_of a.s.now a.w.now a.h) a.len _ (sym c.available_in.ensures ∙ c.in_ok-free.was) in
    record { fits = omega (arith, offset-fits (ring_of a.s.now a.w.now a.h) a.len y.0) }

pub overflow_sub-len : goal.overflow_sub-len
overflow_sub-len c =
    let a = c.args in
    let y = offer-yes (ring_of a.s.now a.w.now a.h) a.len _ (sym c.available_in.ensures ∙ c.in_ok-free.was) in
    omega (arith, c.start_of.ensures, place_is a.s.now a.w.now a.h a.len y.0, place_in (ring_of a.s.now a.w.now a.h) a.len y.0)

pub returns : goal.returns
returns c =
    let a = c.args in
    let y = offer-yes (ring_of a.s.now a.w.now a.h) a.len _ (sym c.available_in.ensures ∙ c.in_ok-free.was) in
    offer-words (ring_of a.s.now a.w.now a.h) a.len y.0 _ _ (ap (λ (k : ℕ). k + a.h.descriptor_offset) c.start_of.ensures ∙ place_is a.s.now a.w.now a.h a.len y.0) (c.min.ensures ∙ ap (λ (k : ℕ). min k (a.len - (c.start_of.result + a.h.descriptor_offset))) y.1)
