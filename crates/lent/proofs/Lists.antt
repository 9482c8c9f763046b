-- Laws of `new` over a list, which the proof of `list::new_over` cites.
use Prim.Native.Nat.{ℕ, ◌+◌, ◌/◌, ◌%◌, ◌≤◌}
use mathlib.Core.Path.{◌≡◌, refl, sym, ap}
use mathlib.Core.Bool.{Bool, true, false}
use mathlib.Core.List.{List}
use native.Mathlib.Omega.{arith}
use borrow.Author.Tests.{le-ltb}
use lib.ListN.{length}
use Rattle.descriptors.specs.Record.{limit, most}
use Rattle.descriptors.specs.Split.{split_of, laid, laid_out}
use Rattle.descriptors.specs.Ring.{fresh, refused, new_of, new_by, split_done}
use Rattle.descriptors.specs.laws.Tests.{not-both}
use Rattle.descriptors.specs.laws.Updates.{each}
use Rattle.descriptors.specs.laws.Splits.{parts-known}
use Rattle.descriptors.specs.declared.record.DmaDescriptor.{DmaDescriptor}
use Rattle.descriptors.specs.declared.record.TransferDirection.{TransferDirection}
use Rattle.descriptors.specs.declared.refusal.DmaBufError.{DmaBufError}
use Rattle.descriptors.specs.declared.split.Split.{Split}
use Rattle.descriptors.specs.Refusal.{Answer}
use Rattle.std.specs.Prelude.{Ok, Err}
use Rattle.lent.specs.List.{new_over}

abbrev is_ready : Answer Unit → Bool
is_ready (Ok tt) = true
is_ready (Err e) = false

-- the records, the first k of them with their parts
abbrev pub placed : TransferDirection → ℕ → List DmaDescriptor → ℕ → List DmaDescriptor
placed dir len ds k = each (laid dir (length ds) len) k ds

pub ready-known : (n len : ℕ) → (Ok tt) ≡ split_done (split_of n len) → (n ≤ limit) × (len / n + len % n ≤ most)
ready-known n len h = go (split_of n len) refl h
  where
    go : (s : Answer Split) → split_of n len ≡ s → (Ok tt) ≡ split_done s → (n ≤ limit) × (len / n + len % n ≤ most)
    go (Ok x) e p = let k = parts-known n len x e in (k.facts.many, k.facts.last)
    go (Err x) e p = not-both (sym (ap is_ready p))

-- where the split is answered, every record has its part
pub new-ready : (dir : TransferDirection) (ds : List DmaDescriptor) (len : ℕ) → (Ok tt) ≡ split_done (split_of (length ds) len)
    → new_over dir ds len ≡ record { ring = fresh (placed dir len ds (length ds)) (length ds); answer = Ok tt }
unfolding new_of laid_out
new-ready dir ds len h = go (split_of (length ds) len) refl h
  where
    go : (s : Answer Split) → split_of (length ds) len ≡ s → (Ok tt) ≡ split_done s → new_by dir ds (length ds) len s ≡ record { ring = fresh (placed dir len ds (length ds)) (length ds); answer = Ok tt }
    go (Ok x) e p = rw (le-ltb (length ds) (length ds) (omega arith)) refl
    go (Err x) e p = not-both (sym (ap is_ready p))

-- where it is refused, every record is as it was
pub new-refused : (dir : TransferDirection) (ds : List DmaDescriptor) (len : ℕ) (x : DmaBufError) → Err x ≡ split_done (split_of (length ds) len)
    → new_over dir ds len ≡ record { ring = fresh ds (length ds); answer = Err x }
unfolding new_of
new-refused dir ds len x h = go (split_of (length ds) len) h
  where
    go : (s : Answer Split) → Err x ≡ split_done s → new_by dir ds (length ds) len s ≡ record { ring = fresh ds (length ds); answer = Err x }
    go (Ok x) p = not-both (ap is_ready p)
    go (Err y) p = ap (refused (fresh ds (length ds))) (sym p)
