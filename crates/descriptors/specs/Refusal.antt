-- What the counter clerk says no to.
use Rattle.std.specs.Prelude.{ℕ, Result}
use Rattle.descriptors.specs.declared.refusal.DmaAlignmentError.TheVariants.{Address, Size}
use Rattle.descriptors.specs.declared.refusal.DmaBufError.{DmaBufError}
use Rattle.descriptors.specs.declared.refusal.DmaBufError.TheVariants.{InsufficientDescriptors, InvalidChunkSize, UnevenSplit, TooManyDescriptors, BadState, BadStep, Stopped, TooMuch, UnsupportedMemoryRegion, InvalidAlignment, BadAlignment}

-- what a call answers: a value, or why there is none
abbrev pub Answer : Type 0 → Type 0
Answer A = Result A DmaBufError

-- "No. | Name": the number of each refusal
abbrev pub number_of : DmaBufError → ℕ
number_of InsufficientDescriptors = 1
number_of InvalidChunkSize = 2
number_of UnevenSplit = 3
number_of TooManyDescriptors = 4
number_of BadState = 5
number_of BadStep = 6
number_of Stopped = 7
number_of TooMuch = 8
number_of UnsupportedMemoryRegion = 9
number_of (InvalidAlignment Address) = 10
number_of (InvalidAlignment Size) = 11
number_of BadAlignment = 12
