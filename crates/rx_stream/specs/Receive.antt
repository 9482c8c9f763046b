-- Module 3, "Receive". A ring's rules ask for its buffer's length, or for the buffer's bytes.
use Rattle.std.specs.Prelude.{ℕ, zero, suc, ◌+◌, ◌-◌, Bool, false, cond, ◌&&◌, ◌||◌, List, [], ◌++◌, length, take, drop, ◌==◌, nat_lt, Ok, Err}
use Rattle.descriptors.specs.Record.{record_in, is_cpu}
use Rattle.descriptors.specs.Ring.{Ring, Outcome, refused, record_of, sound, split_sound, judged, linked_all}
use Rattle.descriptors.specs.Walk.{available_in, standing, advanced, taken_in, planned}
use Rattle.descriptors.specs.declared.record.DmaDescriptor.{DmaDescriptor}
use Rattle.descriptors.specs.declared.record.TransferDirection.TheVariants.{In}
use Rattle.descriptors.specs.declared.refusal.DmaBufError.TheVariants.{BadState}
use Rattle.descriptors.specs.Refusal.{Answer}
use Rattle.rx_stream.specs.declared.Took.{Took}

-- "`prepare`: next i+1, last none; all DMA, EOF off, length 0 ..; cursor (0,0)"; "`prepare` leaves the tally alone"
abbrev pub prepared_ring : Ring → Ring
prepared_ring r =
    record {
      descriptors = linked_all In r.count r.descriptors;
      count = r.count;
      idx = 0;
      offset = 0;
      tally = r.tally;
      prefilled = r.prefilled;
    }

unfoldable pub prepare_of : Ring → ℕ → Outcome (Answer Unit)
prepare_of r len = cond (split_sound r len) record { ring = prepared_ring r; answer = Ok tt } (refused r (Err BadState))

-- "`available_bytes`: lengths from the cursor round the ring up to the first DMA-owned record, less offset"
unfoldable pub available_of : Ring → ℕ → Answer ℕ
available_of r len = cond (sound In r len) (Ok (available_in In r)) (Err BadState)

-- ---- peek

-- "through records while each is full, ending with the first short one"; "`peek_until_eof` also ends at the first EOF record"
abbrev pub ends_with : Bool → DmaDescriptor → Bool
ends_with until_eof d = nat_lt d.length d.size || (until_eof && d.suc_eof)

-- the bytes in one piece from record i on, of the next k records: "before a DMA-owned one"
unfoldable pub flat_bytes : Bool → (ℕ → DmaDescriptor) → ℕ → ℕ → ℕ
flat_bytes until_eof f zero i = 0
flat_bytes until_eof f (suc k) i =
    cond (is_cpu (f i).owner) ((f i).length + cond (ends_with until_eof (f i)) 0 (flat_bytes until_eof f k (i + 1))) 0

-- whether the piece ends at an EOF record: "at a DMA-owned record, no"
unfoldable pub flat_eof : (ℕ → DmaDescriptor) → ℕ → ℕ → Bool
flat_eof f zero i = false
flat_eof f (suc k) i = cond (is_cpu (f i).owner) ((f i).suc_eof || cond (nat_lt (f i).length (f i).size) false (flat_eof f k (i + 1))) false

-- where the part starts, and how long it is: "the bytes from the cursor on", "or at record n-1"
abbrev pub peek_from : Ring → ℕ
peek_from r = (record_of r r.idx).buffer + r.offset

abbrev pub peek_bytes : Bool → Ring → ℕ
peek_bytes until_eof r = flat_bytes until_eof (record_in r.descriptors) (r.count - r.idx) r.idx - r.offset

-- "peek hands back the very part of the lent buffer", which begins at its place; "on a refusal the part is empty"
unfoldable pub peek_of : Bool → Ring → List ℕ → List ℕ
peek_of until_eof r bytes = cond (sound In r (length bytes)) (take (peek_bytes until_eof r) (drop (peek_from r) bytes)) []

unfoldable pub peek_place : Ring → List ℕ → ℕ
peek_place r bytes = cond (sound In r (length bytes)) (peek_from r) 0

-- "a companion call on the same inputs gives the refusal's number or, for `peek_until_eof`, the yes or no"
unfoldable pub peek_refusal_of : Ring → ℕ → Answer Unit
peek_refusal_of r len = judged (sound In r len)

unfoldable pub peek_eof_of : Ring → ℕ → Answer Bool
peek_eof_of r len =
    cond (sound In r len) (Ok (flat_eof (record_in r.descriptors) (r.count - r.idx) r.idx)) (Err BadState)

-- ---- consume and pop

-- "`consume(k)` takes min(k, available)." "It reports the bytes taken and the records gone back."
unfoldable pub consume_of : Ring → ℕ → ℕ → Outcome (Answer Took)
consume_of r len k =
    cond (sound In r len) record { ring = advanced In r k; answer = Ok (record { taken = taken_in In r k; back = (planned In r k).back }) }
    (refused r (Err BadState))

-- "`pop(k)`: 0 for k = 0, and 0 while the cursor's record is CPU-owned with length 0"
abbrev pub idle : Ring → ℕ → Bool
idle r k = k == 0 || (is_cpu (record_of r r.idx).owner && (record_of r r.idx).length == 0)

-- "otherwise it takes, as consume does, the next min(k, available) bytes"
unfoldable pub pop_of : Ring → ℕ → ℕ → Outcome (Answer ℕ)
pop_of r len k =
    cond (sound In r len)
    (cond (idle r k) record { ring = r; answer = Ok 0 } record { ring = advanced In r k; answer = Ok (taken_in In r k) })
    (refused r (Err BadState))

-- s over the front of d: "the destination's rest is untouched"
abbrev pub over : List ℕ → List ℕ → List ℕ
over s d = take (length d) s ++ drop (length s) d

unfoldable pub popped_over : Ring → List ℕ → List ℕ → List ℕ
popped_over r bytes dst = cond (sound In r (length bytes)) (cond (idle r (length dst)) dst (over (standing In r bytes) dst)) dst
