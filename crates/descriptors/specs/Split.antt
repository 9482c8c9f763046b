-- "Split (both `new`s). chunk = len div n, r = len mod n."
use Rattle.std.specs.Prelude.{ℕ, ◌+◌, ◌*◌, ◌/◌, ◌%◌, Bool, true, false, cond, List, ◌==◌, nat_le, nat_lt, Ok, Err}
use Rattle.descriptors.specs.Record.{least, limit, most, update, up_to, with_buffer, with_size, with_length}
use Rattle.descriptors.specs.declared.record.DmaDescriptor.{DmaDescriptor}
use Rattle.descriptors.specs.declared.record.TransferDirection.{TransferDirection}
use Rattle.descriptors.specs.declared.record.TransferDirection.TheVariants.{In, Out}
use Rattle.descriptors.specs.declared.refusal.DmaBufError.TheVariants.{InsufficientDescriptors, InvalidChunkSize, UnevenSplit, TooManyDescriptors}
use Rattle.descriptors.specs.Refusal.{Answer}
use Rattle.descriptors.specs.declared.split.Split.{Split}

-- "`new` checks in this order: n < 4; n > 64; chunk > 4095; chunk = 0; r >= chunk; last size."
unfoldable pub split_of : ℕ → ℕ → Answer Split
split_of n len =
    cond (nat_lt n least) (Err InsufficientDescriptors)
    (cond (nat_lt limit n) (Err TooManyDescriptors)
    (cond (nat_lt most (len / n)) (Err InsufficientDescriptors)
    (cond (len / n == 0) (Err InvalidChunkSize)
    (cond (nat_le (len / n) (len % n)) (Err UnevenSplit)
    (cond (nat_lt most (len / n + len % n)) (Err InsufficientDescriptors) (Ok (record { chunk = len / n; rest = len % n })))))))

abbrev pub is_parts : Answer Split → Bool
is_parts (Ok x) = true
is_parts (Err e) = false

-- "`new` accepts n and the buffer's length"
abbrev pub accepts : ℕ → ℕ → Bool
accepts n len = is_parts (split_of n len)

-- "Record i starts at i*chunk; sizes are chunk, the last chunk + r."
unfoldable pub start_of : ℕ → ℕ → ℕ → ℕ
start_of n len i = i * (len / n)

unfoldable pub size_of : ℕ → ℕ → ℕ → ℕ
size_of n len i = cond (i + 1 == n) (len / n + len % n) (len / n)

-- "Transmit also sets every length to chunk, the last included. Other fields stay as lent."
abbrev pub length_as : TransferDirection → ℕ → ℕ → DmaDescriptor → DmaDescriptor
length_as In n len d = d
length_as Out n len d = with_length (len / n) d

abbrev pub laid : TransferDirection → ℕ → ℕ → ℕ → DmaDescriptor → DmaDescriptor
laid dir n len i d = length_as dir n len (with_size (size_of n len i) (with_buffer (start_of n len i) d))

unfoldable pub laid_out : TransferDirection → ℕ → ℕ → List DmaDescriptor → List DmaDescriptor
laid_out dir n len ds = up_to (λ i s. update s i (laid dir n len i)) n ds
