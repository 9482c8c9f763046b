-- A ring as one struct, words and head, that goes in and comes back by value.
use Rattle.std.specs.Prelude.{ℕ, List, Ok, Err}
use Rattle.std.specs.Result.{result_unwrap_or}
use Rattle.descriptors.specs.Cells.{cells_now}
use Rattle.descriptors.specs.Ring.{Outcome, ring_of, head_of}
use Rattle.descriptors.specs.Ring as rule
use Rattle.descriptors.specs.declared.ring.Head.{Head}
use Rattle.rx_stream.specs.declared.Took.{Took}
use Rattle.rx_stream.specs.declared.view.DmaRxStreamBufView.{DmaRxStreamBufView}
use Rattle.tx_stream.specs.declared.view.DmaTxStreamBufView.{DmaTxStreamBufView}
use Rattle.by_value.specs.declared.Ring.{Ring}
use Rattle.descriptors.specs.Refusal.{Answer}
use Rattle.by_value.specs.declared.Answered.{Answered}

abbrev pub head_in : Ring → Head
head_in r =
    record { count = r.count; descriptor_idx = r.«record»; descriptor_offset = r.offset; tally = r.tally; pre_filled = r.prefilled }

-- the ring that the struct is, for the rules; and as a view of either direction
abbrev pub given : Ring → rule.Ring
given r = ring_of r.starts r.cells (head_in r)

abbrev pub rx_of : Ring → DmaRxStreamBufView
rx_of r = record { starts = r.starts; cells = r.cells; head = head_in r }

abbrev pub tx_of : Ring → DmaTxStreamBufView
tx_of r = record { starts = r.starts; cells = r.cells; head = head_in r }

-- words and head in one struct
abbrev pub whole : List ℕ → List ℕ → Head → Ring
whole st ws h =
    record {
      starts = st;
      cells = ws;
      count = h.count;
      «record» = h.descriptor_idx;
      offset = h.descriptor_offset;
      tally = h.tally;
      prefilled = h.pre_filled;
    }

-- the bytes of an answer: a refusal has none
abbrev pub bytes_of : Answer ℕ → ℕ
bytes_of a = result_unwrap_or a 0

abbrev pub taken_of : Answer Took → ℕ
taken_of (Ok x) = x.taken
taken_of (Err _) = 0

-- the struct once the ring has become what a rule leaves: no call changes a start
abbrev pub left : Ring → rule.Ring → Ring
left r after = whole r.starts (cells_now r.starts r.cells after.descriptors) (head_of after)

abbrev pub counted_of : Ring → Outcome (Answer ℕ) → Answered
counted_of r o = record { ring = left r o.ring; bytes = bytes_of o.answer }

abbrev pub took_of : Ring → Outcome (Answer Took) → Answered
took_of r o = record { ring = left r o.ring; bytes = taken_of o.answer }
