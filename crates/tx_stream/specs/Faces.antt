-- Where the parts on offer begin, and what the parts of the calls do to the words and the head.
use Rattle.std.specs.Prelude.{ℕ, ◌+◌, ◌%◌, ◌^◌, true, cond, List, [], length, ◌==◌, nat_le, None}
use Rattle.descriptors.specs.Record.{up_to}
use Rattle.descriptors.specs.Cells.{cell, record_at, put_length, put_eof, put_owner, put_next}
use Rattle.descriptors.specs.Stores.{hand_all}
use Rattle.descriptors.specs.Ring.{Ring, sound, split_sound}
use Rattle.descriptors.specs.Moves.{moved_in, head_moved}
use Rattle.descriptors.specs.declared.record.Owner.TheVariants.{Cpu}
use Rattle.descriptors.specs.declared.record.TransferDirection.TheVariants.{Out}
use Rattle.descriptors.specs.declared.ring.Head.{Head}
use Rattle.tx_stream.specs.Transmit.{Reached, reached, write_at}
use Rattle.tx_stream.specs.declared.prepare.Cursor.{Cursor}

-- ---- the parts on offer: each is the very part of the lent buffer that begins at a place

unfoldable pub prefill_place : Ring → List ℕ → ℕ
prefill_place r bytes = cond (split_sound r (length bytes)) r.prefilled 0

unfoldable pub offer_place : Ring → List ℕ → ℕ
offer_place r bytes = cond (sound Out r (length bytes)) (write_at r) 0

-- ---- bytes accepted

unfoldable pub filled_cells : List ℕ → Head → ℕ → List ℕ
filled_cells ws h k = hand_all Out h.count (moved_in Out ws h k).back h.descriptor_idx ws

unfoldable pub filled_head : List ℕ → Head → ℕ → Head
filled_head ws h k = head_moved h k (moved_in Out ws h k)

-- ---- bytes prefilled

abbrev pub prefilled_head : Head → ℕ → Head
prefilled_head h k =
    record {
      count = h.count;
      descriptor_idx = h.descriptor_idx;
      descriptor_offset = h.descriptor_offset;
      tally = (h.tally + k) % 2 ^ 32;
      pre_filled = h.pre_filled + k;
    }

-- ---- `prepare`

-- record i filled whole
unfoldable pub fill_cells : ℕ → List ℕ → List ℕ
fill_cells i ws = put_eof (put_length ws i (cell 0 ws i)) i true

-- record i, where the list ends before record c
unfoldable pub cut_cells : ℕ → ℕ → List ℕ → List ℕ
cut_cells c i ws = cond (nat_le c i) (put_owner ws i Cpu) (cond (i + 1 == c) (put_next ws i None) ws)

abbrev pub marked_cells_at : ℕ → ℕ → List ℕ → ℕ → List ℕ
marked_cells_at n b ws at =
    cond (at == n) (up_to fill_cells n ws)
    (cond (at == 0) (up_to (cut_cells 1) n (put_eof (put_length ws 0 b) 0 true)) (up_to (cut_cells at) n (up_to fill_cells at ws)))

unfoldable pub marked_cells : ℕ → ℕ → List ℕ → List ℕ
marked_cells n b ws = cond (b == 0) ws (marked_cells_at n b ws (reached (record_at [] ws) n 0 b).at)

abbrev pub cursor_at : ℕ → Reached → Cursor
cursor_at n p =
    cond (p.at == n) record { at = 0; offset = 0 } (cond (p.at == 0) record { at = 1; offset = 0 } record { at = p.at; offset = p.rest })

unfoldable pub marked_cursor : ℕ → ℕ → List ℕ → Cursor
marked_cursor n b ws = cond (b == 0) record { at = 0; offset = 0 } (cursor_at n (reached (record_at [] ws) n 0 b))
