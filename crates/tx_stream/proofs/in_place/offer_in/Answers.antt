use Rattle.std.proofs.Common.{◌≡◌, ℕ, ◌+◌, ◌-◌, List, length, sym, ap, ◌∙◌, arith}
use Rattle.descriptors.specs.Part.{part_from, as_read}
use Rattle.descriptors.specs.Ring.{Ring, ring_of}
use Rattle.descriptors.specs.laws.Sound.{ready-split}
use Rattle.tx_stream.specs.Transmit.{write_at, offered}
use Rattle.tx_stream.specs.laws.Room.{offset-fits}
use Rattle.tx_stream.specs.laws.Accepts.{place_is, place-within, part-is}
use Rattle.tx_stream.specs.laws.Rules.{unsound, offer-no, offer-yes, offer-at, offer-place-no}
use Rattle.tx_stream.proofs.in_place.offer_in.Goals as goal

pub returns-in_default : goal.returns-in_default
returns-in_default c =
    let lent : List ℕ = c.args.buffer.now in
    let q = unsound _ _ _ c.judge.ensures c.in_default.is in
    record { result_value = sym (offer-no _ lent q.0); ref_ptr_value = sym (offer-place-no _ lent (as_read c.args.buffer) q.0) }

pub write_position-at-requires : goal.write_position-at-requires
write_position-at-requires c = offset-fits _ _ (ready-split _ _ _ c.judge.ensures c.in-Ok.is)

pub offered-requires : goal.offered-requires
offered-requires c =
    let a = c.args in
    omega (arith, c.write_position-at.ensures, place-within a.s.now a.w.now a.h (length a.buffer.now) (ready-split _ _ _ c.judge.ensures c.in-Ok.is))

pub overflow_add-end : goal.overflow_add-end
overflow_add-end c =
    let a = c.args in
    omega (arith, c.offered.ensures, c.write_position-at.ensures, place-within a.s.now a.w.now a.h (length a.buffer.now) (ready-split _ _ _ c.judge.ensures c.in-Ok.is))

pub slice_bounds-buffer-end : goal.slice_bounds-buffer-end
slice_bounds-buffer-end c =
    let a = c.args in
    omega (arith, c.offered.ensures, c.write_position-at.ensures, place-within a.s.now a.w.now a.h (length a.buffer.now) (ready-split _ _ _ c.judge.ensures c.in-Ok.is))

pub returns : goal.returns
returns c =
    let a = c.args in
    let lent : List ℕ = a.buffer.now in
    let ring : Ring = ring_of a.s.now a.w.now a.h in
    let sure = ready-split _ _ _ c.judge.ensures c.in-Ok.is in
    let place : c.write_position-at.result ≡ write_at ring = c.write_position-at.ensures ∙ place_is a.s.now a.w.now a.h (length lent) sure in
    let free : c.offered.result ≡ offered ring (length lent) = c.offered.ensures ∙ part-is a.s.now a.w.now a.h (length lent) sure _ c.write_position-at.ensures in
    let k : c.write_position-at.result + c.offered.result - c.write_position-at.result ≡ offered ring (length lent) = omega (arith, free) in record {
      result_value = rw (k, place) (sym (offer-yes ring lent sure));
      ref_ptr_value = ap (part_from (as_read a.buffer)) (place ∙ sym (offer-at ring lent sure));
    }
