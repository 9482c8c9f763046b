-- Module 1, "Alignment".
use Rattle.std.specs.Prelude.{ℕ, ◌+◌, ◌%◌, max, Bool, cond, ◌&&◌, ◌||◌, eqb, leb, ltb, Ok, Err}
use Rattle.std.specs.Int.Count.{ones}
use Rattle.descriptors.specs.Record.{top}
use Rattle.descriptors.specs.declared.record.TransferDirection.{TransferDirection}
use Rattle.descriptors.specs.declared.record.TransferDirection.TheVariants.{In, Out}
use Rattle.descriptors.specs.declared.refusal.DmaAlignmentError.TheVariants.{Address, Size}
use Rattle.descriptors.specs.declared.refusal.DmaBufError.TheVariants.{UnsupportedMemoryRegion, InvalidAlignment, BadAlignment}
use Rattle.descriptors.specs.Refusal.{Answer}
use Rattle.burst.specs.declared.Region.{Region}

abbrev pub widest : ℕ
widest = 64

-- "An alignment is good when exactly one of its bits is set and it is at most 64."
unfoldable pub is_good : ℕ → Bool
is_good a = leb a widest && eqb (ones a) 1

-- the region holds every address from `start` up to `end`
abbrev pub holds : Region → ℕ → ℕ → Bool
holds r start end = leb r.start start && leb end r.end

abbrev pub contains : Region → ℕ → Bool
contains r address = leb r.start address && ltb address r.end

-- not "range in neither region, or past 2^32"
unfoldable pub supported : ℕ → ℕ → Region → Region → Bool
supported start end internal external = leb end top && (holds internal start end || holds external start end)

-- "The larger alignment holds where the address is external."
unfoldable pub alignment_at : ℕ → Region → ℕ → ℕ → ℕ
alignment_at address external ai ae =
    cond (contains external address) (max ai ae) ai

-- "then 10 if the address is no multiple; then, for In only, 11 if the length is none"
abbrev pub sized_of : ℕ → TransferDirection → ℕ → Answer Unit
sized_of length In a = cond (eqb (length % a) 0) (Ok tt) (Err (InvalidAlignment Size))
sized_of length Out a = Ok tt

unfoldable pub aligned_of : ℕ → ℕ → TransferDirection → ℕ → Answer Unit
aligned_of address length dir a = cond (eqb (address % a) 0) (sized_of length dir a) (Err (InvalidAlignment Address))

-- "12 first; an empty buffer passes; then 9; then 10 ..; then .. 11"
unfoldable pub compatible_of : ℕ → ℕ → TransferDirection → Region → Region → ℕ → ℕ → Answer Unit
compatible_of address length dir internal external ai ae =
    cond (is_good ai && is_good ae)
    (cond (eqb length 0) (Ok tt)
    (cond (supported address (address + length) internal external)
    (aligned_of address length dir (alignment_at address external ai ae))
    (Err UnsupportedMemoryRegion)))
    (Err BadAlignment)
