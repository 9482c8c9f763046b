-- What the walk does to lent words and a head, whatever they hold: where k bytes lead from the cursor on, the head there, and what is
-- left to move over. On a sound ring these are `planned`, `advanced` and `available_in` of specs/Walk.antt.
use Rattle.std.specs.Prelude.{ℕ, ◌+◌, ◌-◌, ◌%◌, ◌^◌, cond, List, [], nat_le}
use Rattle.descriptors.specs.Record.{limit}
use Rattle.descriptors.specs.Cells.{record_at}
use Rattle.descriptors.specs.Walk.{run_bytes, walk_in}
use Rattle.descriptors.specs.declared.record.TransferDirection.{TransferDirection}
use Rattle.descriptors.specs.declared.ring.Head.{Head}
use Rattle.descriptors.specs.declared.walk.Moved.{Moved}

unfoldable pub moved_in : TransferDirection → List ℕ → Head → ℕ → Moved
moved_in dir ws h k =
    walk_in dir (record_at [] ws) h.count
    (record { at = h.descriptor_idx; offset = h.descriptor_offset; rest = k; back = 0 })

-- the head at m; the tally "goes round at 4,294,967,296"
abbrev pub head_moved : Head → ℕ → Moved → Head
head_moved h k m =
    record {
      count = h.count;
      descriptor_idx = m.at;
      descriptor_offset = m.offset;
      tally = (h.tally + (k - m.rest)) % 2 ^ 32;
      pre_filled = h.pre_filled;
    }

unfoldable pub room_in : TransferDirection → List ℕ → Head → ℕ
room_in dir ws h = cond (nat_le h.count limit) (run_bytes dir (record_at [] ws) h.count h.count h.descriptor_idx) 0 - h.descriptor_offset
