-- A part that is handed back of a lent slice: "the very part of the lent buffer" that begins at place p of it.
use Rattle.std.specs.Prelude.{ℕ, ◌+◌, List}
use Rattle.std.specs.Borrow.{Bor, MutBor}

abbrev pub part_from : Bor (List ℕ) → ℕ → ℕ × ℕ
part_from slice p = (slice.ref_ptr.0, p + slice.ref_ptr.1)

-- a slice lent to be written, as one lent to be read: the same place, and the bytes that it has now
abbrev pub as_read : MutBor (List ℕ) → Bor (List ℕ)
as_read slice = record { ref_ptr = slice.ref_ptr; now = slice.now }
