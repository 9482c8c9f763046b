-- The list of records that the pieces of a range are given to.
use Rattle.std.specs.Prelude.{ℕ, zero, suc, ◌+◌, min, ◌≡◌, not, List, eqb, length, Ok, Err, Some}
use Rattle.descriptors.specs.Record.{update, up_to, with_buffer, with_size, with_next}
use Rattle.descriptors.specs.Cells.{records_of, starts_now, cells_now, put_start, put_size, put_next}
use Rattle.descriptors.specs.declared.record.DmaDescriptor.{DmaDescriptor}
use Rattle.psram.specs.Cut.{plan_for}
use Rattle.psram.specs.Piece.{pieces_of, piece_of, start_in, size_in, ready_of}
use Rattle.psram.specs.declared.chip.Chip.{Chip}
use Rattle.psram.specs.declared.plan.Plan.{Plan}
use Rattle.psram.specs.declared.held.Held.{Held}
use Rattle.psram.specs.declared.held.DescriptorSet.{DescriptorSet}
use Rattle.descriptors.specs.declared.ring.Kept.{Kept}
use Rattle.descriptors.specs.Refusal.{Answer}
use Rattle.psram.specs.declared.held.Listed.{Listed}

-- "Each record gets size and start (within the store or range that holds it), and the one before it its link"
abbrev pub link_before : ℕ → List DmaDescriptor → List DmaDescriptor
link_before zero ds = ds
link_before (suc j) ds = update ds j (with_next (Some (suc j)))

abbrev pub laid : Answer Held → DmaDescriptor → DmaDescriptor
laid h d = with_buffer (start_in h) (with_size (size_in h) d)

unfoldable pub listed_at : Plan → ℕ → List DmaDescriptor → List DmaDescriptor
listed_at p i ds = update (link_before i ds) i (laid (piece_of p i))

-- "fewer records give a smaller count"
abbrev pub used_of : ℕ → Plan → ℕ
used_of n p = min n (pieces_of p)

-- the bytes of the first k pieces
unfoldable pub covered_of : Plan → ℕ → ℕ
covered_of p zero = 0
covered_of p (suc k) = covered_of p k + size_in (piece_of p k)

-- what the call answers, and the records that it leaves: "The last record's next stays as lent."
pub record Listing : Type 0 where
  pub descriptors : List DmaDescriptor
  pub answer : Answer Listed

abbrev pub listing_by : Answer Unit → List DmaDescriptor → ℕ → Plan → Listing
listing_by (Ok tt) ds n p =
    record { descriptors = up_to (listed_at p) (used_of n p) ds; answer = Ok (record { covered = covered_of p (used_of n p); used = used_of n p }) }
listing_by (Err e) ds n p = record { descriptors = ds; answer = Err e }

unfoldable pub list_of : List DmaDescriptor → ℕ → ℕ → ℕ → Chip → ℕ → Listing
list_of ds n address len chip store =
    listing_by (ready_of (not (eqb (length ds) 0)) n address len chip store) ds n (plan_for chip address len)

-- what the call answers, and the words that it leaves of the starts st and the cells ws
abbrev pub Leaves : List ℕ → List ℕ → List ℕ → List ℕ → Answer Listed → Listing → Type 0
Leaves st ws st' ws' r l = (r ≡ l.answer) × ((st' ≡ starts_now st ws l.descriptors) × (ws' ≡ cells_now st ws l.descriptors))

-- the same over records by value
unfoldable pub built_of : DescriptorSet → ℕ → ℕ → Chip → ℕ → Kept DescriptorSet Listed
built_of d address len chip store =
    let l = list_of (records_of d.starts d.cells) d.count address len chip store in
    record {
      ring =
          record {
            starts = starts_now d.starts d.cells l.descriptors;
            cells = cells_now d.starts d.cells l.descriptors;
            count = d.count;
          };
      answer = l.answer;
    }

-- ---- the same, store by store

abbrev pub link_cells : ℕ → List ℕ → List ℕ
link_cells zero ws = ws
link_cells (suc j) ws = put_next ws j (Some (suc j))

unfoldable pub list_start : Plan → ℕ → List ℕ → List ℕ
list_start p i st = put_start st i (start_in (piece_of p i))

unfoldable pub list_cells : Plan → ℕ → List ℕ → List ℕ
list_cells p i ws = put_size (link_cells i ws) i (size_in (piece_of p i))
