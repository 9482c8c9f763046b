-- What a cell says of a mark, a next and an owner.
use Rattle.std.specs.Prelude.{◌≡◌, ℕ, zero, suc, ◌-◌, ◌≤◌, Bool, true, false, ◌≢◌, refl, Some, None, Option}
use Rattle.std.proofs.Common.{arith, add-one}
use Rattle.descriptors.specs.Cells.{owner_of, eof_of, next_of, owner_cell, eof_cell, next_cell}
use Rattle.descriptors.specs.declared.record.Owner.{Owner}
use Rattle.descriptors.specs.declared.record.Owner.TheVariants.{Cpu, Dma}

pub owner-some : (x : ℕ) → (x ≢ 0) → Dma ≡ owner_of x
owner-some zero h = absurd (h refl)
owner-some (suc k) h = refl

pub eof-some : (x : ℕ) → (x ≢ 0) → true ≡ eof_of x
eof-some zero h = absurd (h refl)
eof-some (suc k) h = refl

pub next-some : (x : ℕ) → (x ≢ 0) → Some (x - 1) ≡ next_of x
next-some zero h = absurd (h refl)
next-some (suc k) h = let e : suc k - 1 ≡ k = omega arith in rw e

-- a cell that was written reads as what was written
pub owner-read : (o : Owner) → owner_of (owner_cell o) ≡ o
owner-read Cpu = refl
owner-read Dma = refl

pub eof-read : (e : Bool) → eof_of (eof_cell e) ≡ e
eof-read true = refl
eof-read false = refl

pub next-read : (x : Option ℕ) → next_of (next_cell x) ≡ x
next-read None = refl
next-read (Some j) = rw (add-one j) refl

-- and a cell that was read is written again as it was
pub owner-kept : (x : ℕ) → x ≤ 1 → owner_cell (owner_of x) ≡ x
owner-kept zero h = refl
owner-kept (suc k) h = omega arith

pub eof-kept : (x : ℕ) → x ≤ 1 → eof_cell (eof_of x) ≡ x
eof-kept zero h = refl
eof-kept (suc k) h = omega arith

pub next-kept : (x : ℕ) → next_cell (next_of x) ≡ x
next-kept zero = refl
next-kept (suc j) = add-one j
