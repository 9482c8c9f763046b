-- Module 4, "Transmit". A ring's rules ask for its buffer's length, or for the buffer's bytes.
use Rattle.std.specs.Prelude.{ℕ, zero, suc, ◌+◌, ◌-◌, ◌%◌, ◌^◌, min, true, cond, List, [], length, take, drop, ◌==◌, nat_le, nat_lt, Ok, Err, None}
use Rattle.std.proofs.Math.Seq.{paste}
use Rattle.descriptors.specs.Record.{record_in, update, up_to, with_owner, with_length, with_eof, with_next}
use Rattle.descriptors.specs.Ring.{Ring, Outcome, refused, record_of, sound, split_sound, judged, linked_all}
use Rattle.descriptors.specs.Walk.{available_in, advanced}
use Rattle.descriptors.specs.declared.record.Owner.TheVariants.{Cpu}
use Rattle.descriptors.specs.declared.record.DmaDescriptor.{DmaDescriptor}
use Rattle.descriptors.specs.declared.record.TransferDirection.TheVariants.{Out}
use Rattle.descriptors.specs.Refusal.{Answer}
use Rattle.descriptors.specs.declared.refusal.DmaBufError.TheVariants.{BadState, TooMuch}

-- ---- before `prepare`

-- k bytes more are prefilled; the tally counts every accepted byte once
abbrev pub prefilled_by : Ring → ℕ → Ring
prefilled_by r k =
    record {
      descriptors = r.descriptors;
      count = r.count;
      idx = r.idx;
      offset = r.offset;
      tally = (r.tally + k) % 2 ^ 32;
      prefilled = r.prefilled + k;
    }

-- "Before `prepare`, push copies behind the prefilled bytes."
unfoldable pub prefill_of : Ring → ℕ → ℕ → Outcome (Answer ℕ)
prefill_of r len k =
    cond (split_sound r len) record { ring = prefilled_by r (min k (len - r.prefilled)); answer = Ok (min k (len - r.prefilled)) }
    (refused r (Err BadState))

unfoldable pub prefill_into : Ring → List ℕ → List ℕ → List ℕ
prefill_into r bytes bs =
    cond (split_sound r (length bytes)) (paste bytes r.prefilled bs (min (length bs) (length bytes - r.prefilled))) bytes

-- an offered writable part: "before `prepare`, all behind the prefilled"
unfoldable pub prefill_offer_of : Ring → List ℕ → List ℕ
prefill_offer_of r bytes = cond (split_sound r (length bytes)) (drop r.prefilled bytes) []

unfoldable pub prefill_offer_refusal_of : Ring → ℕ → Answer Unit
prefill_offer_refusal_of r len = judged (split_sound r len)

-- "then a commit of a count": 8 "above the length of the part then on offer"
unfoldable pub prefill_commit_of : Ring → ℕ → ℕ → Outcome (Answer ℕ)
prefill_commit_of r len k =
    cond (split_sound r len)
    (cond (nat_le k (len - r.prefilled)) record { ring = prefilled_by r k; answer = Ok k } (refused r (Err TooMuch)))
    (refused r (Err BadState))

-- ---- `prepare`

-- where b bytes end, of the next k records from record i on: the record, and how many bytes are inside it
pub record Reached : Type 0 where
  pub at : ℕ
  pub rest : ℕ

unfoldable pub reached : (ℕ → DmaDescriptor) → ℕ → ℕ → ℕ → Reached
reached f zero i b = record { at = i; rest = b }
reached f (suc k) i b = cond (nat_lt b (f i).size) record { at = i; rest = b } (reached f k (i + 1) (b - (f i).size))

-- "records filled whole get length = size and EOF"
abbrev pub filled : ℕ → DmaDescriptor → DmaDescriptor
filled k d = with_eof true (with_length k d)

unfoldable pub filled_to : ℕ → List DmaDescriptor → List DmaDescriptor
filled_to d ds = up_to (λ i s. update s i (λ r. filled r.size r)) d ds

-- "the record before the cursor gets next none and the cursor's record and all after it become CPU"
abbrev pub cut : ℕ → ℕ → DmaDescriptor → DmaDescriptor
cut c i d = cond (nat_le c i) (with_owner Cpu d) (cond (i + 1 == c) (with_next None d) d)

unfoldable pub cut_at : ℕ → ℕ → List DmaDescriptor → List DmaDescriptor
cut_at n c ds = up_to (λ i s. update s i (cut c i)) n ds

pub record Marked : Type 0 where
  pub descriptors : List DmaDescriptor
  pub at : ℕ
  pub offset : ℕ

-- "All filled: cursor (0,0)." "If the bytes end inside record 0, it is sent short with EOF, cursor (1,0)." "If they end at the start
-- of, or inside, record d > 0, the cursor is (d, rest)."
abbrev pub marked_at : ℕ → ℕ → List DmaDescriptor → Reached → Marked
marked_at n b ds p =
    cond (p.at == n) record { descriptors = filled_to n ds; at = 0; offset = 0 }
    (cond (p.at == 0) record { descriptors = cut_at n 1 (update ds 0 (filled b)); at = 1; offset = 0 }
    record { descriptors = cut_at n p.at (filled_to p.at ds); at = p.at; offset = p.rest })

-- "b = 0: cursor (0,0), nothing else changed."
unfoldable pub marked_ready : ℕ → ℕ → List DmaDescriptor → Marked
marked_ready n b ds = cond (b == 0) record { descriptors = ds; at = 0; offset = 0 } (marked_at n b ds (reached (record_in ds) n 0 b))

abbrev pub prepared_as : Ring → Marked → Ring
prepared_as r m =
    record { descriptors = m.descriptors; count = r.count; idx = m.at; offset = m.offset; tally = r.tally; prefilled = 0 }

-- "`prepare` links as above, all DMA, then `mark_tx_stream_descriptors_ready` with the prefilled count b gives the cursor; the count
-- is then 0"
unfoldable pub prepare_of : Ring → ℕ → Outcome (Answer Unit)
prepare_of r len =
    cond (split_sound r len)
    record { ring = prepared_as r (marked_ready r.count r.prefilled (linked_all Out r.count r.descriptors)); answer = Ok tt }
    (refused r (Err BadState))

-- ---- after it

-- "`available_bytes`: sizes of the CPU-owned run from the cursor, less offset"
unfoldable pub available_of : Ring → ℕ → Answer ℕ
available_of r len = cond (sound Out r len) (Ok (available_in Out r)) (Err BadState)

-- "`push` accepts min(data, available)"
unfoldable pub push_of : Ring → ℕ → ℕ → Outcome (Answer ℕ)
push_of r len k =
    cond (sound Out r len)
    record { ring = advanced Out r (min k (available_in Out r)); answer = Ok (min k (available_in Out r)) }
    (refused r (Err BadState))

-- where the next byte goes
abbrev pub write_at : Ring → ℕ
write_at r = (record_of r r.idx).buffer + r.offset

-- v from place p of b on, round b's end
abbrev pub paste_round : List ℕ → ℕ → List ℕ → List ℕ
paste_round b p v =
    paste (paste b p v (min (length v) (length b - p))) 0 (drop (length b - p) v) (length v - (length b - p))

unfoldable pub push_into : Ring → List ℕ → List ℕ → List ℕ
push_into r bytes bs =
    cond (sound Out r (length bytes)) (paste_round bytes (write_at r) (take (min (length bs) (available_in Out r)) bs)) bytes

-- the offered writable part: "the available bytes from the cursor to the buffer's end"
abbrev pub offered : Ring → ℕ → ℕ
offered r len = min (available_in Out r) (len - write_at r)

unfoldable pub offer_of : Ring → List ℕ → List ℕ
offer_of r bytes = cond (sound Out r (length bytes)) (take (offered r (length bytes)) (drop (write_at r) bytes)) []

unfoldable pub offer_refusal_of : Ring → ℕ → Answer Unit
offer_refusal_of r len = judged (sound Out r len)

-- "Advance and commit accept the bytes then standing there." 8: "advance above available; commit above the length of the part then
-- on offer"
abbrev pub accepted_up_to : ℕ → Ring → ℕ → ℕ → Outcome (Answer ℕ)
accepted_up_to bound r len k =
    cond (sound Out r len)
    (cond (nat_le k bound) record { ring = advanced Out r k; answer = Ok k } (refused r (Err TooMuch)))
    (refused r (Err BadState))

unfoldable pub advance_of : Ring → ℕ → ℕ → Outcome (Answer ℕ)
advance_of r len k = accepted_up_to (available_in Out r) r len k

unfoldable pub commit_of : Ring → ℕ → ℕ → Outcome (Answer ℕ)
commit_of r len k = accepted_up_to (offered r len) r len k
