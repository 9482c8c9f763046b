-- Places stay on the ring.
use Rattle.std.specs.Prelude.{◌≡◌, ℕ, ◌+◌, ◌-◌, ◌<◌, Bool, true, false, cond, ◌==◌, nat_lt, refl}
use Rattle.std.proofs.Common.{arith, ltb-true}
use Rattle.descriptors.specs.Place.{after, before}

pub after-lt : (n i : ℕ) → i < n → after n i < n
after-lt n i h = go (nat_lt (i + 1) n) refl
  where
    go : (b : Bool) → nat_lt (i + 1) n ≡ b → cond b (i + 1) 0 < n
    go true e = ltb-true (i + 1) n e
    go false e = omega arith

pub before-lt : (n i : ℕ) → i < n → before n i < n
before-lt n i h = go (i == 0) refl
  where
    go : (b : Bool) → (i == 0) ≡ b → cond b (n - 1) (i - 1) < n
    go true e = omega arith
    go false e = omega arith
