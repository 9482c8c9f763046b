-- "over a lent list of plain descriptor records": `new` where the number of records is the list's length.
use Rattle.std.specs.Prelude.{ℕ, cond, List, ◌++◌, ltb, length, take, drop, Err}
use Rattle.descriptors.specs.Ring.{Outcome, new_of}
use Rattle.descriptors.specs.declared.record.DmaDescriptor.{DmaDescriptor}
use Rattle.descriptors.specs.declared.record.TransferDirection.{TransferDirection}
use Rattle.descriptors.specs.declared.refusal.DmaBufError.TheVariants.{TooManyDescriptors}
use Rattle.descriptors.specs.declared.ring.Kept.{Kept}
use Rattle.descriptors.specs.Refusal.{Answer}
use Rattle.lent.specs.declared.list.Records.{Records}

abbrev pub new_over : TransferDirection → List DmaDescriptor → ℕ → Outcome (Answer Unit)
new_over dir ds len = new_of dir ds (length ds) len

abbrev pub room : ℕ
room = 65

-- the same over the first n of some records by value; more than there are is 4
abbrev pub new_first : TransferDirection → Records → ℕ → ℕ → Kept Records Unit
new_first dir ds n len =
    record {
      ring = record { list = (new_over dir (take n ds.list) len).ring.descriptors ++ drop n ds.list };
      answer = (new_over dir (take n ds.list) len).answer;
    }

abbrev pub new_with : TransferDirection → Records → ℕ → ℕ → Kept Records Unit
new_with dir ds n len = cond (ltb room n) record { ring = ds; answer = Err TooManyDescriptors } (new_first dir ds n len)
