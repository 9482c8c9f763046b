-- How the records of a sound ring lie in the buffer: one behind another, none past its end.
use Rattle.std.specs.Prelude.{◌≡◌, ℕ, ◌+◌, ◌*◌, ◌/◌, ◌%◌, ◌<◌, ◌≤◌, Bool, true, false, cond, ◌==◌, refl}
use Rattle.std.proofs.Common.{ap, arith, mul-le-mul_right, eqb-true, ne_eqb}
use Rattle.std.proofs.Math.Nat.{div-add-mod, mul-div-le}
use Rattle.std.proofs.lemmas.Bool.{eqb-false}
use Rattle.descriptors.specs.Record.{record_in}
use Rattle.descriptors.specs.Split.{start_of, size_of}
use Rattle.descriptors.specs.Ring.{Ring}
use Rattle.descriptors.specs.laws.Splits.{next_start}
use Rattle.descriptors.specs.laws.Sound.{Facts}
use Rattle.descriptors.specs.declared.record.DmaDescriptor.{DmaDescriptor}
use Rattle.descriptors.specs.declared.record.TransferDirection.{TransferDirection}

pub record Layout (f : ℕ → DmaDescriptor) (n len : ℕ) : Type 0 where
  pub fits : (i : ℕ) → i < n → (f i).length ≤ (f i).size
  pub joined : (i : ℕ) → i + 1 < n → (f (i + 1)).buffer ≡ (f i).buffer + (f i).size
  pub within : (i : ℕ) → i < n → (f i).buffer + (f i).size ≤ len

split-joined : (n len i : ℕ) → i + 1 < n → start_of n len (i + 1) ≡ start_of n len i + size_of n len i
unfolding start_of size_of
split-joined n len i h = rw (ne_eqb (i + 1) n (λ z. omega arith)) (next_start i (len / n))

split-within : (n len i : ℕ) → i < n → start_of n len i + size_of n len i ≤ len
unfolding start_of size_of
split-within n len i h = go (i + 1 == n) refl
  where
    go : (b : Bool) → (i + 1 == n) ≡ b → i * (len / n) + cond b (len / n + len % n) (len / n) ≤ len
    go true e =
        let z : n ≡ i + 1 = omega (arith, eqb-true (i + 1) n e) in
        omega (arith, ap (λ (m : ℕ). m * (len / n)) z, next_start i (len / n), div-add-mod len n)
    go false e =
        omega (arith, next_start i (len / n), mul-div-le len n, mul-le-mul_right {m = i + 1} {n = n} (len / n) (omega (arith, eqb-false (i + 1) n e)))

pub layout : (dir : TransferDirection) (r : Ring) (len : ℕ) → Facts dir r len → Layout (record_in r.descriptors) r.count len
layout dir r len s =
    record {
      fits = s.fits;
      joined = λ i h. omega (arith, s.split.start (i + 1) h, split-joined r.count len i h, s.split.start i (omega arith), s.split.size i (omega arith));
      within = λ i h. omega (arith, s.split.start i h, s.split.size i h, split-within r.count len i h);
    }
