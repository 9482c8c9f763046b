-- The rings by value: the ring that the words and the head are, and the value that an outcome is.
use Rattle.std.specs.Prelude.{ℕ, List}
use Rattle.descriptors.specs.Cells.{starts_now, cells_now}
use Rattle.descriptors.specs.Ring.{Ring, ring_of, head_of}
use Rattle.tx_stream.specs.declared.buf.DmaTxStreamBuf.{DmaTxStreamBuf}
use Rattle.tx_stream.specs.declared.view.DmaTxStreamBufView.{DmaTxStreamBufView}

abbrev pub buf_ring : DmaTxStreamBuf → Ring
buf_ring b = ring_of b.starts b.cells b.head

abbrev pub view_ring : DmaTxStreamBufView → Ring
view_ring v = ring_of v.starts v.cells v.head

-- the words' ring once it has become r: no call but `new` changes a start
abbrev pub buf_by : DmaTxStreamBuf → Ring → DmaTxStreamBuf
buf_by b r = record { starts = b.starts; cells = cells_now b.starts b.cells r.descriptors; head = head_of r }

abbrev pub view_by : DmaTxStreamBufView → Ring → DmaTxStreamBufView
view_by v r = record { starts = v.starts; cells = cells_now v.starts v.cells r.descriptors; head = head_of r }

-- `new`'s, on words that were given
abbrev pub built_by : List ℕ → List ℕ → Ring → DmaTxStreamBuf
built_by st ws r = record { starts = starts_now st ws r.descriptors; cells = cells_now st ws r.descriptors; head = head_of r }
