-- The CPU-owned run from the cursor, in ring order: what is available, how a number of bytes goes through it, and the records that are
-- handed to the device on the way. Both directions: on receive a record counts for its length and is given back, on transmit it
-- counts for its size and is queued.
use Rattle.std.specs.Prelude.{ℕ, zero, suc, ◌+◌, ◌-◌, ◌%◌, ◌^◌, cond, List, [], ◌++◌, take, drop, nat_le, nat_lt, Some}
use Rattle.descriptors.specs.Record.{limit, record_in, update, is_cpu, with_next, span_of, handed}
use Rattle.descriptors.specs.Place.{after, before, turns}
use Rattle.descriptors.specs.Ring.{Ring}
use Rattle.descriptors.specs.declared.record.DmaDescriptor.{DmaDescriptor}
use Rattle.descriptors.specs.declared.record.TransferDirection.{TransferDirection}
use Rattle.descriptors.specs.declared.walk.Moved.{Moved}

-- the bytes of the CPU-owned records from record i on, of the next k records round a ring of n; f shows a record by its number
unfoldable pub run_bytes : TransferDirection → (ℕ → DmaDescriptor) → ℕ → ℕ → ℕ → ℕ
run_bytes dir f n zero i = 0
run_bytes dir f n (suc k) i = cond (is_cpu (f i).owner) (span_of dir (f i) + run_bytes dir f n k (after n i)) 0

-- receive: "lengths from the cursor round the ring up to the first DMA-owned record, less offset"; transmit: "sizes of the CPU-owned
-- run from the cursor, less offset"
unfoldable pub available_in : TransferDirection → Ring → ℕ
available_in dir r = run_bytes dir (record_in r.descriptors) r.count r.count r.idx - r.offset

-- the bytes themselves: on receive the unread ones, on transmit those that stand in the free records
unfoldable pub run_data : TransferDirection → (ℕ → DmaDescriptor) → List ℕ → ℕ → ℕ → ℕ → List ℕ
run_data dir f bytes n zero i = []
run_data dir f bytes n (suc k) i =
    cond (is_cpu (f i).owner) (take (span_of dir (f i)) (drop (f i).buffer bytes) ++ run_data dir f bytes n k (after n i)) []

unfoldable pub standing : TransferDirection → Ring → List ℕ → List ℕ
standing dir r bytes = drop r.offset (run_data dir (record_in r.descriptors) bytes r.count r.count r.idx)

-- ---- the walk

-- the record is used up, and the walk goes on at the next; or the bytes end inside it
abbrev pub past : TransferDirection → (ℕ → DmaDescriptor) → ℕ → Moved → Moved
past dir f n m = record { at = after n m.at; offset = 0; rest = m.rest - (span_of dir (f m.at) - m.offset); back = m.back + 1 }

abbrev pub inside : Moved → Moved
inside m = record { at = m.at; offset = m.offset + m.rest; rest = 0; back = m.back }

-- where `rest` bytes lead, over at most k records: a DMA-owned record ends the walk, and so does one that counts for more than is
-- left. An empty CPU-owned record reached with nothing left is used up as well.
unfoldable pub walk : TransferDirection → (ℕ → DmaDescriptor) → ℕ → ℕ → Moved → Moved
walk dir f n zero m = m
walk dir f n (suc k) m =
    cond (is_cpu (f m.at).owner)
    (cond (nat_lt m.rest (span_of dir (f m.at) - m.offset)) (inside m) (walk dir f n k (past dir f n m)))
    m

-- the walk round a ring of n; more records than a ring can have are not walked over
unfoldable pub walk_in : TransferDirection → (ℕ → DmaDescriptor) → ℕ → Moved → Moved
walk_in dir f n m = cond (nat_le n limit) (walk dir f n n m) m

-- a record handed to the device, "then the previous record's next is set to it"
unfoldable pub hand_over : TransferDirection → ℕ → ℕ → List DmaDescriptor → List DmaDescriptor
hand_over dir n i ds = update (update ds i (handed dir)) (before n i) (with_next (Some i))

-- ---- k bytes taken (receive) or accepted (transmit) from the cursor on

abbrev pub begun : Ring → ℕ → Moved
begun r k = record { at = r.idx; offset = r.offset; rest = k; back = 0 }

unfoldable pub planned : TransferDirection → Ring → ℕ → Moved
planned dir r k = walk dir (record_in r.descriptors) r.count r.count (begun r k)

-- the ring after a walk that began at the cursor with k bytes and ended at m; the tally "goes round at 4,294,967,296"
unfoldable pub moved_to : TransferDirection → Ring → ℕ → Moved → Ring
moved_to dir r k m =
    record {
      descriptors = turns (hand_over dir r.count) r.count m.back r.idx r.descriptors;
      count = r.count;
      idx = m.at;
      offset = m.offset;
      tally = (r.tally + (k - m.rest)) % 2 ^ 32;
      prefilled = r.prefilled;
    }

abbrev pub advanced : TransferDirection → Ring → ℕ → Ring
advanced dir r k = moved_to dir r k (planned dir r k)

abbrev pub taken_in : TransferDirection → Ring → ℕ → ℕ
taken_in dir r k = k - (planned dir r k).rest
