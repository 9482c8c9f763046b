-- What tests tell: of two tests, and of the owner.
use Rattle.std.specs.Prelude.{◌≡◌, refl, Bool, true, false, ◌||◌, ◌⊎◌, ℕ}
use Rattle.std.proofs.Common.{ap, inl, inr, arith}
use Rattle.descriptors.specs.Record.{is_cpu}
use Rattle.descriptors.specs.declared.record.Owner.{Owner}
use Rattle.descriptors.specs.declared.record.Owner.TheVariants.{Cpu, Dma}

pub bool_cases : (b : Bool) → (b ≡ true) ⊎ (b ≡ false)
bool_cases true = inl refl
bool_cases false = inr refl

pub true-not-false : (b : Bool) → b ≡ true → b ≡ false → ⊥
true-not-false b p q = let z : ◌≡◌ {A = ℕ} 0 1 = cc in omega arith

pub or-out : (a b : Bool) → (a || b) ≡ true → (a ≡ true) ⊎ (b ≡ true)
or-out true b e = inl refl
or-out false b e = inr e

pub or_left : (a b : Bool) → a ≡ true → (a || b) ≡ true
or_left true b p = refl
or_left false b p = absurd (true-not-false false p refl)

pub or_right : (a b : Bool) → b ≡ true → (a || b) ≡ true
or_right true b p = refl
or_right false b p = p

-- ---- the owner

pub cpu-test : (o : Owner) → o ≡ Cpu → is_cpu o ≡ true
cpu-test o e = ap is_cpu e

pub dma-test : (o : Owner) → o ≡ Dma → is_cpu o ≡ false
dma-test o e = ap is_cpu e

pub test-cpu : (o : Owner) → is_cpu o ≡ true → o ≡ Cpu
test-cpu Cpu e = refl
test-cpu Dma e = absurd (true-not-false false e refl)

pub test-dma : (o : Owner) → is_cpu o ≡ false → o ≡ Dma
test-dma Cpu e = absurd (true-not-false true refl e)
test-dma Dma e = refl

pub cpu-not-dma : (o : Owner) → o ≡ Cpu → o ≡ Dma → ⊥
cpu-not-dma o p q = let z : ◌≡◌ {A = ℕ} 0 1 = cc in omega arith
