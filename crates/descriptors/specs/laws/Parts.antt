-- The place of a part.
use Rattle.std.specs.Prelude.{◌≡◌, ℕ, ◌+◌, List}
use Rattle.std.proofs.Common.{ap, arith}
use Rattle.std.specs.Borrow.{Bor}
use Rattle.descriptors.specs.Part.{part_from}

-- a part from the front on begins where the slice does
pub front-place : (b : Bor (List ℕ)) (p : ℕ) → p ≡ 0 → part_from b p ≡ b.ref_ptr
front-place b p z = let e : p + b.ref_ptr.1 ≡ b.ref_ptr.1 = omega arith in ap (λ (k : ℕ). (b.ref_ptr.0, k)) e
