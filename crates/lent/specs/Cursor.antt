-- "the receive cursor lent and changed in place by consume": the by-value consume, with the ring's cursor beside it.
use Rattle.std.specs.Prelude.{ℕ, Ok, Err}
use Rattle.descriptors.specs.Ring.{kept_of, ring_of}
use Rattle.descriptors.specs.declared.ring.Head.{Head}
use Rattle.rx_stream.specs.Receive.{consume_of}
use Rattle.rx_stream.specs.Faces.{view_now}
use Rattle.rx_stream.specs.declared.view.DmaRxStreamBufView.{DmaRxStreamBufView}
use Rattle.descriptors.specs.declared.ring.Kept.{Kept}
use Rattle.rx_stream.specs.declared.Took.{Took}
use Rattle.lent.specs.declared.cursor.Cursor.{Cursor}
use Rattle.descriptors.specs.Refusal.{Answer}
use Rattle.lent.specs.declared.cursor.Stepped.{Stepped}

-- the ring with its cursor at c
abbrev pub standing_at : DmaRxStreamBufView → Cursor → DmaRxStreamBufView
standing_at v c =
    record {
      starts = v.starts;
      cells = v.cells;
      head = record { count = v.head.count; descriptor_idx = c.«record»; descriptor_offset = c.offset; tally = v.head.tally; pre_filled = v.head.pre_filled };
    }

-- where a ring's cursor stands
abbrev pub cursor_of : Head → Cursor
cursor_of h = record { «record» = h.descriptor_idx; offset = h.descriptor_offset }

-- a consume by value
abbrev pub consume_by : DmaRxStreamBufView → ℕ → ℕ → Kept DmaRxStreamBufView Took
consume_by v len k = kept_of (view_now v) (consume_of (ring_of v.starts v.cells v.head) len k)

-- "A refusal returns its number and changes nothing": the ring v then comes back as it was given, and the cursor c stays. Otherwise the
-- ring that the consume d leaves comes back, and the cursor is that ring's
abbrev pub stepped_by : DmaRxStreamBufView → Cursor → Kept DmaRxStreamBufView Took → Answer Took → Stepped
stepped_by v c d (Ok x) = record { cursor = cursor_of d.ring.head; done = d }
stepped_by v c d (Err e) = record { cursor = c; done = record { ring = v; answer = Err e } }

-- a consume by the ring v from the lent cursor c on: v's own cursor is not read
unfoldable pub consume_from : DmaRxStreamBufView → Cursor → ℕ → ℕ → Stepped
consume_from v c len k = stepped_by v c (consume_by (standing_at v c) len k) (consume_by (standing_at v c) len k).answer
