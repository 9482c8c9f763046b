-- "A record has: start (offset into the byte buffer), size, length, EOF mark, owner (CPU or DMA), next (a record number or none)."
use Rattle.std.specs.Prelude.{ℕ, zero, suc, ◌+◌, Bool, true, false, cond, List, ◌==◌, slice_index_or, slice_set, Some, None, Option}
use Rattle.descriptors.specs.declared.record.Owner.{Owner}
use Rattle.descriptors.specs.declared.record.Owner.TheVariants.{Cpu, Dma}
use Rattle.descriptors.specs.declared.record.DmaDescriptor.{DmaDescriptor}
use Rattle.descriptors.specs.declared.record.TransferDirection.{TransferDirection}
use Rattle.descriptors.specs.declared.record.TransferDirection.TheVariants.{In, Out}

-- "A ring has n records, 4 to 64", and a record covers at most 4095 bytes
abbrev pub least : ℕ
least = 4

abbrev pub limit : ℕ
limit = 64

abbrev pub most : ℕ
most = 4095

-- one past the last address
abbrev pub top : ℕ
top = 4294967296

-- what `get_or` answers past the end of a list of records: no rule reads it
abbrev pub blank : DmaDescriptor
blank = record { buffer = 0; size = 0; length = 0; suc_eof = false; owner = Cpu; next = None }

abbrev pub record_in : List DmaDescriptor → ℕ → DmaDescriptor
record_in ds i = slice_index_or ds i blank

-- record i changed by f
abbrev pub update : List DmaDescriptor → ℕ → (DmaDescriptor → DmaDescriptor) → List DmaDescriptor
update ds i f = slice_set ds i (f (record_in ds i))

-- f at 0, 1, .., k - 1 in turn
unfoldable pub up_to : {S : Type 0} → (ℕ → S → S) → ℕ → S → S
up_to f zero s = s
up_to f (suc k) s = f k (up_to f k s)

abbrev pub is_cpu : Owner → Bool
is_cpu Cpu = true
is_cpu Dma = false

-- ---- one store

abbrev pub with_buffer : ℕ → DmaDescriptor → DmaDescriptor
with_buffer v d = record { buffer = v; size = d.size; length = d.length; suc_eof = d.suc_eof; owner = d.owner; next = d.next }

abbrev pub with_size : ℕ → DmaDescriptor → DmaDescriptor
with_size v d = record { buffer = d.buffer; size = v; length = d.length; suc_eof = d.suc_eof; owner = d.owner; next = d.next }

abbrev pub with_length : ℕ → DmaDescriptor → DmaDescriptor
with_length v d = record { buffer = d.buffer; size = d.size; length = v; suc_eof = d.suc_eof; owner = d.owner; next = d.next }

abbrev pub with_eof : Bool → DmaDescriptor → DmaDescriptor
with_eof b d = record { buffer = d.buffer; size = d.size; length = d.length; suc_eof = b; owner = d.owner; next = d.next }

abbrev pub with_owner : Owner → DmaDescriptor → DmaDescriptor
with_owner o d = record { buffer = d.buffer; size = d.size; length = d.length; suc_eof = d.suc_eof; owner = o; next = d.next }

abbrev pub with_next : Option ℕ → DmaDescriptor → DmaDescriptor
with_next x d = record { buffer = d.buffer; size = d.size; length = d.length; suc_eof = d.suc_eof; owner = d.owner; next = x }

-- ---- the transitions of a record

-- "Each record used up goes back: owner DMA, EOF off, length 0, next none"
abbrev pub given : DmaDescriptor → DmaDescriptor
given d = record { buffer = d.buffer; size = d.size; length = 0; suc_eof = false; owner = Dma; next = None }

-- "each record filled gets owner DMA, length = size, EOF on, next none"
abbrev pub queued : DmaDescriptor → DmaDescriptor
queued d = record { buffer = d.buffer; size = d.size; length = d.size; suc_eof = true; owner = Dma; next = None }

-- a receive step "sets length and EOF, makes it CPU"
abbrev pub closed : ℕ → Bool → DmaDescriptor → DmaDescriptor
closed k e d = record { buffer = d.buffer; size = d.size; length = k; suc_eof = e; owner = Cpu; next = d.next }

-- a transmit step "keeps length and EOF, makes it CPU"
abbrev pub sent : DmaDescriptor → DmaDescriptor
sent d = with_owner Cpu d

-- "next i+1, last none"
abbrev pub following : ℕ → ℕ → Option ℕ
following n i = cond (i + 1 == n) None (Some (i + 1))

-- `prepare`, receive: "next i+1, last none; all DMA, EOF off, length 0"; transmit: "links as above, all DMA"
abbrev pub linked : TransferDirection → ℕ → ℕ → DmaDescriptor → DmaDescriptor
linked In n i d = with_next (following n i) (given d)
linked Out n i d = with_next (following n i) (with_owner Dma d)

-- ---- what the directions differ in

abbrev pub is_in : TransferDirection → Bool
is_in In = true
is_in Out = false

-- what a CPU-owned record counts for: on receive the bytes that it holds, on transmit those that it has room for
abbrev pub span_of : TransferDirection → DmaDescriptor → ℕ
span_of In d = d.length
span_of Out d = d.size

-- a record handed to the device
abbrev pub handed : TransferDirection → DmaDescriptor → DmaDescriptor
handed In d = given d
handed Out d = queued d
