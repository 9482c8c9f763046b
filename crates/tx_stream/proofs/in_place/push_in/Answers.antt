use Rattle.std.proofs.lemmas.Result.{err_from_is_err_and}
use Rattle.std.proofs.Common.{◌≡◌, ℕ, min, List, length, take, refl, sym, ap, ◌∙◌, arith, Ok}
use Rattle.descriptors.specs.Ring.{Ring, ring_of}
use Rattle.descriptors.specs.Walk.{available_in}
use Rattle.descriptors.specs.laws.Words.{cells_same}
use Rattle.descriptors.specs.laws.Sound.{ready-split}
use Rattle.descriptors.specs.declared.record.TransferDirection.TheVariants.{Out}
use Rattle.tx_stream.specs.Faces.{filled_cells, filled_head}
use Rattle.tx_stream.specs.Transmit.{paste_round, write_at}
use Rattle.tx_stream.specs.laws.Room.{offset-fits, room_fits}
use Rattle.tx_stream.specs.laws.Accepts.{room-is, place_is, place-within, filled-cells, filled-head}
use Rattle.tx_stream.specs.laws.Rules.{unsound, push-no, push-yes, push-into-no, push-into-yes}
use Rattle.tx_stream.proofs.in_place.push_in.Goals as goal

pub returns-in_err-judge : goal.returns-in_err-judge
returns-in_err-judge c =
    let a = c.args in
    let p = err_from_is_err_and c.from_residual.result c.from_residual.ensures.1 in
    let q = unsound _ _ _ c.judge.ensures c.in_err-judge.was in
    let no = push-no _ _ q.0 (length a.«data».now) in
    rw (p.1, p.2, q.1, no) record { w_after = cells_same a.s.now a.w.now; h_after = refl; value = refl; buffer_after = sym (push-into-no _ a.buffer.now a.«data».now q.0) }

pub write_position-requires : goal.write_position-requires
write_position-requires c = offset-fits _ _ (ready-split _ _ _ c.judge.ensures c.in_ok-judge.was)

pub copy_round-requires : goal.copy_round-requires
copy_round-requires c =
    let a = c.args in
    let judged = ready-split _ _ _ c.judge.ensures c.in_ok-judge.was in
    let free = c.available-free.ensures ∙ room-is a.s.now a.w.now a.h.now (length a.buffer.now) judged in
    let place = place-within a.s.now a.w.now a.h.now (length a.buffer.now) judged in
    (omega (arith, c.write_position.ensures, place), omega (arith, c.min-k.ensures, free, room_fits _ _ judged), omega (arith, c.min-k.ensures))

pub returns : goal.returns
returns c =
    let a = c.args in
    let size : ℕ = length a.buffer.now in
    let bytes : List ℕ = a.«data».now in
    let ring : Ring = ring_of a.s.now a.w.now a.h.now in
    let sure = ready-split _ _ _ c.judge.ensures c.in_ok-judge.was in
    let taken : c.min-k.result ≡ min (length bytes) (available_in Out ring) = c.min-k.ensures ∙ ap (min (length bytes)) (c.available-free.ensures ∙ room-is a.s.now a.w.now a.h.now size sure) in
    let place : c.write_position.result ≡ write_at ring = c.write_position.ensures ∙ place_is a.s.now a.w.now a.h.now size sure in
    let k : ℕ = min (length bytes) (available_in Out ring) in
    rw (push-yes ring size sure (length bytes)) record {
      w_after = c.accept_in.ensures.0 ∙ ap (filled_cells a.w.now a.h.now) taken ∙ filled-cells a.s.now a.w.now a.h.now size sure k;
      h_after = c.accept_in.ensures.1 ∙ ap (filled_head a.w.now a.h.now) taken ∙ filled-head a.s.now a.w.now a.h.now size sure k;
      value = ap Ok taken;
      buffer_after =
          c.copy_round.ensures ∙ ap (λ (p : ℕ). paste_round a.buffer.now p (take c.min-k.result bytes)) place
          ∙ ap (λ (k : ℕ). paste_round a.buffer.now (write_at ring) (take k bytes)) taken
          ∙ sym (push-into-yes ring a.buffer.now bytes sure);
    }
