-- The two faces of a ring: words lent with a head, and all of it by value. What a call leaves in place is the outcome's ring, by
-- head_of and cells_now, and what it answers is the outcome's answer; by value one struct holds both.
use Rattle.std.specs.Prelude.{ℕ, ◌-◌, List}
use Rattle.descriptors.specs.Cells.{starts_now, cells_now}
use Rattle.descriptors.specs.Ring.{Ring, head_of}
use Rattle.descriptors.specs.declared.cells.Words.{Words}
use Rattle.descriptors.specs.declared.ring.Head.{Head}
use Rattle.descriptors.specs.declared.walk.Moved.{Moved}
use Rattle.rx_stream.specs.declared.Took.{Took}
use Rattle.rx_stream.specs.declared.buf.DmaRxStreamBuf.{DmaRxStreamBuf}
use Rattle.rx_stream.specs.declared.view.DmaRxStreamBufView.{DmaRxStreamBufView}

-- ---- by value: the cells show the outcome's records, and the starts do where they change, in `new`

abbrev pub buf_new : List ℕ → List ℕ → Ring → DmaRxStreamBuf
buf_new st ws r = record { starts = starts_now st ws r.descriptors; cells = cells_now st ws r.descriptors; head = head_of r }

abbrev pub buf_now : DmaRxStreamBuf → Ring → DmaRxStreamBuf
buf_now b r = record { starts = b.starts; cells = cells_now b.starts b.cells r.descriptors; head = head_of r }

abbrev pub view_now : DmaRxStreamBufView → Ring → DmaRxStreamBufView
view_now v r = record { starts = v.starts; cells = cells_now v.starts v.cells r.descriptors; head = head_of r }

-- ---- a buf and its view: a transfer starts at cursor (0,0)

abbrev pub begins : Head → Head
begins h =
    record { count = h.count; descriptor_idx = 0; descriptor_offset = 0; tally = h.tally; pre_filled = h.pre_filled }

abbrev pub view_of : DmaRxStreamBuf → DmaRxStreamBufView
view_of b = record { starts = b.starts; cells = b.cells; head = begins b.head }

abbrev pub buf_of : DmaRxStreamBufView → DmaRxStreamBuf
buf_of v = record { starts = v.starts; cells = v.cells; head = v.head }

abbrev pub words_of : DmaRxStreamBuf → Words
words_of b = record { starts = b.starts; cells = b.cells }

-- ---- what a walk from the cursor takes

abbrev pub took_by : ℕ → Moved → Took
took_by k m = record { taken = k - m.rest; back = m.back }
