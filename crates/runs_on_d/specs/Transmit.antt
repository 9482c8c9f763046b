-- Document 01's transmit run on D (n = 4, 14 bytes), computed in the world of demand 3: "prefill 2: record 0 length 2, cursor (1,0),
-- available 11. Prefill 3: (1,0), 11. Prefill 4: (1,1), 10; push 5 then gives (3,0). Prefill 14: (0,0), 0."
use Rattle.std.specs.Prelude.{◌≡◌, refl, true, List, [], ◌∷◌, ℕ, ◌<◌, length, replicate, Ok, Some, None}
use Rattle.std.proofs.Common.{arith}
use Rattle.descriptors.specs.Record.{up_to}
use Rattle.descriptors.specs.Place.{turns}
use Rattle.descriptors.specs.Split.{split_of, start_of, size_of, laid_out}
use Rattle.descriptors.specs.Ring.{record_of, split_sound, sound, new_of, linked_all}
use Rattle.descriptors.specs.Walk.{run_bytes, available_in, run_data, standing, walk, hand_over, planned, moved_to}
use Rattle.descriptors.specs.declared.record.Owner.TheVariants.{Cpu}
use Rattle.descriptors.specs.declared.record.DmaDescriptor.{DmaDescriptor}
use Rattle.descriptors.specs.declared.record.TransferDirection.TheVariants.{Out}
use Rattle.tx_stream.specs.Transmit.{prefill_of, prefill_into, prefill_offer_of, prefill_commit_of, reached, filled_to, cut_at, marked_ready, prepare_of, push_of, push_into, offer_of, advance_of, commit_of}
use Rattle.device.specs.Device.{transmit_of, transmit_over}
use Rattle.both_ends.specs.Demand3.{World, run, built, prepared, Prefill, pre_push, pre_write, pre_commit, prefill, TxAction, push, commit, write, send, tx_step, dma_data, queued_in, pending_in, Transmit}
use Rattle.both_ends.proofs.Theorem.{demand3}

-- records as they may be lent
abbrev lent : DmaDescriptor
lent = record { buffer = 77; size = 5; length = 900; suc_eof = true; owner = Cpu; next = Some 9 }

abbrev ring_d : List Prefill → World
ring_d before = prepared prepare_of (run prefill (built Out (replicate 64 lent) 4 (replicate 14 0)) before)

pub prefill-2 : ((ring_d (pre_push (1 ∷ 2 ∷ []) ∷ [])).ring.idx ≡ 1) × ((ring_d (pre_push (1 ∷ 2 ∷ []) ∷ [])).ring.offset ≡ 0)
    × ((record_of (ring_d (pre_push (1 ∷ 2 ∷ []) ∷ [])).ring 0).length ≡ 2) × (available_in Out (ring_d (pre_push (1 ∷ 2 ∷ []) ∷ [])).ring ≡ 11)
unfolding prefill prefill_of prefill_into reached filled_to cut_at marked_ready prepare_of up_to split_of start_of size_of laid_out split_sound new_of linked_all run_bytes available_in
prefill-2 = (refl, refl, refl, refl)

pub prefill-3 : ((ring_d (pre_push (1 ∷ 2 ∷ 3 ∷ []) ∷ [])).ring.idx ≡ 1) × ((ring_d (pre_push (1 ∷ 2 ∷ 3 ∷ []) ∷ [])).ring.offset ≡ 0) × (available_in Out (ring_d (pre_push (1 ∷ 2 ∷ 3 ∷ []) ∷ [])).ring ≡ 11)
unfolding prefill prefill_of prefill_into reached filled_to cut_at marked_ready prepare_of up_to split_of start_of size_of laid_out split_sound new_of linked_all run_bytes available_in
prefill-3 = (refl, refl, refl)

pub prefill-14 : ((ring_d (pre_commit 14 ∷ [])).ring.idx ≡ 0) × ((ring_d (pre_commit 14 ∷ [])).ring.offset ≡ 0) × (available_in Out (ring_d (pre_commit 14 ∷ [])).ring ≡ 0)
unfolding prefill prefill_commit_of prefill_offer_of reached filled_to cut_at marked_ready prepare_of up_to split_of start_of size_of laid_out split_sound new_of linked_all run_bytes available_in
prefill-14 = (refl, refl, refl)

-- "Prefill 4: (1,1), 10; push 5 then gives (3,0)": two of the four bytes by push, two by an offered part and commit
abbrev four_bytes : List Prefill
four_bytes = pre_push (1 ∷ 2 ∷ []) ∷ pre_write 0 (3 ∷ 4 ∷ 9 ∷ []) ∷ pre_commit 2 ∷ []

abbrev four : World
four = ring_d four_bytes

pub prefill-4 : (four.ring.idx ≡ 1) × (four.ring.offset ≡ 1) × (available_in Out four.ring ≡ 10) × (four.by_calls ≡ 1 ∷ 2 ∷ 3 ∷ 4 ∷ [])
    × (queued_in four.ring four.bytes ≡ 1 ∷ 2 ∷ 3 ∷ []) × (pending_in four.ring four.bytes ≡ 4 ∷ [])
unfolding dma_data queued_in pending_in prefill prefill_of prefill_into prefill_offer_of prefill_commit_of reached filled_to cut_at marked_ready prepare_of up_to split_of start_of size_of laid_out split_sound new_of linked_all run_bytes available_in
prefill-4 = (refl, refl, refl, refl, refl, refl)

abbrev out : List ℕ
out = replicate 5 0

abbrev sends : World
sends = run tx_step four (push (5 ∷ 6 ∷ 7 ∷ 8 ∷ 9 ∷ []) ∷ send out ∷ send out ∷ write 1 (11 ∷ []) ∷ write 0 (10 ∷ []) ∷ commit 2 ∷ send out ∷ send out ∷ [])

-- after it record 3 waits with two bytes: the device, which found nothing queued behind record 2, is stopped
pub in-the-end : (sends.ring.idx ≡ 3) × (sends.ring.offset ≡ 2) × (sends.device ≡ None)
    × (sends.visited ≡ 0 ∷ 1 ∷ 2 ∷ []) × (sends.by_steps ≡ 1 ∷ 2 ∷ 3 ∷ 4 ∷ 5 ∷ 6 ∷ 7 ∷ 8 ∷ 9 ∷ []) × (sends.by_calls ≡ 1 ∷ 2 ∷ 3 ∷ 4 ∷ 5 ∷ 6 ∷ 7 ∷ 8 ∷ 9 ∷ 10 ∷ 11 ∷ [])
    × (queued_in sends.ring sends.bytes ≡ []) × (pending_in sends.ring sends.bytes ≡ 10 ∷ 11 ∷ []) × (sends.ring.tally ≡ 11)
unfolding tx_step dma_data queued_in pending_in prefill prefill_of prefill_into prefill_offer_of prefill_commit_of reached filled_to cut_at marked_ready prepare_of up_to split_of start_of size_of laid_out split_sound new_of linked_all run_bytes available_in turns sound run_data standing walk hand_over planned moved_to push_of push_into offer_of advance_of commit_of transmit_of transmit_over
in-the-end = (refl, refl, refl, refl, refl, refl, refl, refl, refl)

-- the premises of the demand are met by this ring
d-is-built : (new_of Out (replicate 64 lent) 4 14).answer ≡ Ok tt
unfolding new_of split_of laid_out up_to
d-is-built = refl

d-has-bytes : 0 < length (run prefill (built Out (replicate 64 lent) 4 (replicate 14 0)) four_bytes).by_calls
unfolding prefill prefill_of prefill_into prefill_offer_of prefill_commit_of up_to split_of start_of size_of laid_out split_sound new_of
d-has-bytes = omega arith

pub on-d : (acts : List TxAction) → Transmit 4 (run tx_step four acts)
on-d acts = demand3.transmit (replicate 64 lent) 4 (replicate 14 0) d-is-built four_bytes d-has-bytes acts
