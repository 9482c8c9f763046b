-- What the lent list holds, in the document's words. No proof of the code cites it.
use Prim.Native.Nat.{ℕ, ◌<◌}
use mathlib.Core.Path.{◌≡◌, ◌∙◌, ap}
use mathlib.Core.List.{List}
use native.Mathlib.Omega.{arith}
use lib.ListN.{length}
use Rattle.descriptors.specs.Record.{record_in}
use Rattle.descriptors.specs.Split.{split_of, laid}
use Rattle.descriptors.specs.Ring.{Outcome, split_done}
use Rattle.descriptors.specs.laws.Updates.{each_at}
use Rattle.descriptors.specs.declared.record.DmaDescriptor.{DmaDescriptor}
use Rattle.descriptors.specs.declared.record.TransferDirection.{TransferDirection}
use Rattle.descriptors.specs.declared.refusal.DmaBufError.{DmaBufError}
use Rattle.lent.specs.List.{new_over}
use Rattle.descriptors.specs.Refusal.{Answer}
use Rattle.std.specs.Prelude.{Ok, Err}
use Rattle.lent.proofs.Lists.{new-ready, new-refused}

abbrev left : Outcome (Answer Unit) → List DmaDescriptor
left out = out.ring.descriptors

-- where `new` accepts, every record of the list has its part of the split, and its other fields as lent
pub written : (dir : TransferDirection) (ds : List DmaDescriptor) (len j : ℕ) → (Ok tt) ≡ split_done (split_of (length ds) len) → j < length ds
    → record_in (left (new_over dir ds len)) j ≡ laid dir (length ds) len j (record_in ds j)
written dir ds len j e l = ap (λ (out : Outcome (Answer Unit)). record_in (left out) j) (new-ready dir ds len e) ∙ each_at (laid dir (length ds) len) (length ds) ds j l (omega arith)

-- where it refuses, every record is as it was
pub as_lent : (dir : TransferDirection) (ds : List DmaDescriptor) (len : ℕ) (x : DmaBufError) → Err x ≡ split_done (split_of (length ds) len) → left (new_over dir ds len) ≡ ds
as_lent dir ds len x e = ap left (new-refused dir ds len x e)
