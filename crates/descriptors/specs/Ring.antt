-- "A ring has n records .., one lent byte buffer, and a cursor (record, offset). The ring also keeps a 32-bit tally" and a prefilled
-- count. The buffer stands beside it: a rule asks for its length, or for its bytes.
use Rattle.std.specs.Prelude.{◌≡◌, ℕ, ◌+◌, ◌-◌, ◌%◌, ◌^◌, Bool, true, false, cond, ◌&&◌, ◌||◌, leb, List, length, ◌==◌, nat_eq, nat_le, nat_lt, Ok, Err, Some, None, Option}
use Rattle.descriptors.specs.Record.{record_in, is_cpu, up_to, update, linked}
use Rattle.descriptors.specs.Cells.{records_of, starts_now, cells_now, all_below}
use Rattle.descriptors.specs.Split.{split_of, accepts, start_of, size_of, laid_out}
use Rattle.descriptors.specs.declared.record.DmaDescriptor.{DmaDescriptor}
use Rattle.descriptors.specs.declared.record.TransferDirection.{TransferDirection}
use Rattle.descriptors.specs.declared.record.TransferDirection.TheVariants.{In, Out}
use Rattle.descriptors.specs.declared.refusal.DmaBufError.TheVariants.{BadState}
use Rattle.descriptors.specs.declared.split.Split.{Split}
use Rattle.descriptors.specs.declared.ring.Head.{Head}
use Rattle.descriptors.specs.declared.ring.Kept.{Kept}
use Rattle.descriptors.specs.Refusal.{Answer}

pub record Ring : Type 0 where
  pub descriptors : List DmaDescriptor
  pub count : ℕ
  pub idx : ℕ
  pub offset : ℕ
  pub tally : ℕ
  pub prefilled : ℕ

-- what a call answers, and the ring that it leaves
pub record Outcome (A : Type 0) : Type 0 where
  pub ring : Ring
  pub answer : A

-- the ring that the words and the head are, and the head of a ring
abbrev pub ring_of : List ℕ → List ℕ → Head → Ring
ring_of st ws h =
    record {
      descriptors = records_of st ws;
      count = h.count;
      idx = h.descriptor_idx;
      offset = h.descriptor_offset;
      tally = h.tally;
      prefilled = h.pre_filled;
    }

abbrev pub head_of : Ring → Head
head_of r =
    record { count = r.count; descriptor_idx = r.idx; descriptor_offset = r.offset; tally = r.tally; pre_filled = r.prefilled }

-- by value: what a call answers, and the ring that it leaves, in the form `by`
abbrev pub kept_of : {R A : Type 0} → (Ring → R) → Outcome (Answer A) → Kept R A
kept_of by o = record { ring = by o.ring; answer = o.answer }

abbrev pub with_records : Ring → List DmaDescriptor → Ring
with_records r ds =
    record { descriptors = ds; count = r.count; idx = r.idx; offset = r.offset; tally = r.tally; prefilled = r.prefilled }

abbrev pub record_of : Ring → ℕ → DmaDescriptor
record_of r i = record_in r.descriptors i

-- ---- sound

-- "starts and sizes are that split"
abbrev pub starts_ok : List DmaDescriptor → ℕ → ℕ → Bool
starts_ok ds n len = all_below (λ i. nat_eq (record_in ds i).buffer (start_of n len i)) n

abbrev pub sizes_ok : List DmaDescriptor → ℕ → ℕ → Bool
sizes_ok ds n len = all_below (λ i. nat_eq (record_in ds i).size (size_of n len i)) n

-- "each length is at most its size"
abbrev pub lengths_ok : List DmaDescriptor → ℕ → Bool
lengths_ok ds n = all_below (λ i. leb (record_in ds i).length (record_in ds i).size) n

-- "each next is none or below n"
abbrev pub below : ℕ → Option ℕ → Bool
below n None = true
below n (Some j) = nat_lt j n

abbrev pub nexts_ok : List DmaDescriptor → ℕ → Bool
nexts_ok ds n = all_below (λ i. below n (record_in ds i).next) n

-- "Receive: offset is 0, or that record is CPU-owned and offset is below its length. Transmit: offset is below size, and 0 unless
-- that record is CPU-owned."
abbrev pub offset_ok : TransferDirection → DmaDescriptor → ℕ → Bool
offset_ok In d o = o == 0 || (is_cpu d.owner && nat_lt o d.length)
offset_ok Out d o = nat_lt o d.size && (o == 0 || is_cpu d.owner)

-- "`prepare`, and the push before it, ask only for the split and the prefilled count": "`new` accepts n and the buffer's length;
-- starts and sizes are that split", "The prefilled count is at most the buffer length."
unfoldable pub split_sound : Ring → ℕ → Bool
split_sound r len =
    accepts r.count len
    && (starts_ok r.descriptors r.count len && (sizes_ok r.descriptors r.count len && nat_le r.prefilled len))

-- "each length is at most its size; each next is none or below n; the cursor's record is below n", and the offset's rule
unfoldable pub sound : TransferDirection → Ring → ℕ → Bool
sound dir r len =
    split_sound r len
    && (lengths_ok r.descriptors r.count
    && (nexts_ok r.descriptors r.count && (nat_lt r.idx r.count && offset_ok dir (record_of r r.idx) r.offset)))

-- 5, BadState: "ring not sound"
abbrev pub judged : Bool → Answer Unit
judged true = Ok tt
judged false = Err BadState

-- "A refusal returns its number and changes nothing."
abbrev pub refused : {A : Type 0} → Ring → A → Outcome A
refused r a = record { ring = r; answer = a }

-- ---- `new`, and the links of `prepare`

abbrev pub fresh : List DmaDescriptor → ℕ → Ring
fresh ds n = record { descriptors = ds; count = n; idx = 0; offset = 0; tally = 0; prefilled = 0 }

-- "`new` gives cursor (0,0), tally 0 and prefilled count 0." Fewer than n records, as where the words hold none, are refused
-- last, with 5.
abbrev pub new_by : TransferDirection → List DmaDescriptor → ℕ → ℕ → Answer Split → Outcome (Answer Unit)
new_by dir ds n len (Ok x) =
    cond (nat_lt (length ds) n) (refused (fresh ds n) (Err BadState)) record { ring = fresh (laid_out dir n len ds) n; answer = Ok tt }
new_by dir ds n len (Err e) = refused (fresh ds n) (Err e)

unfoldable pub new_of : TransferDirection → List DmaDescriptor → ℕ → ℕ → Outcome (Answer Unit)
new_of dir ds n len = new_by dir ds n len (split_of n len)

abbrev pub split_done : Answer Split → Answer Unit
split_done (Ok x) = Ok tt
split_done (Err e) = Err e

-- what `new` makes of lent words: every word and the head are those of the ring that comes back
pub record NewIn (dir : TransferDirection) (st ws : List ℕ) (n len : ℕ) (st' ws' : List ℕ) (h : Head) (a : Answer Unit) : Type 0 where
  pub starts : st' ≡ starts_now st ws (new_of dir (records_of st ws) n len).ring.descriptors
  pub cells : ws' ≡ cells_now st ws (new_of dir (records_of st ws) n len).ring.descriptors
  pub head : h ≡ head_of (new_of dir (records_of st ws) n len).ring
  pub answer : a ≡ (new_of dir (records_of st ws) n len).answer

-- "wrapping subtract between two readings"
abbrev pub between_of : ℕ → ℕ → ℕ
between_of earlier later = (later + (2 ^ 32 - earlier)) % 2 ^ 32

unfoldable pub linked_all : TransferDirection → ℕ → List DmaDescriptor → List DmaDescriptor
linked_all dir n ds = up_to (λ i s. update s i (linked dir n i)) n ds
