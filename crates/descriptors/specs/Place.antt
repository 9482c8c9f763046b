-- Places round a ring of n records.
use Rattle.std.specs.Prelude.{ℕ, zero, suc, ◌+◌, ◌-◌, cond, ◌==◌, nat_lt}

-- the record after i, and the one before it
abbrev pub after : ℕ → ℕ → ℕ
after n i = cond (nat_lt (i + 1) n) (i + 1) 0

abbrev pub before : ℕ → ℕ → ℕ
before n i = cond (i == 0) (n - 1) (i - 1)

-- g records from i on, round the ring, each changed by `hand`
unfoldable pub turns : {S : Type 0} → (ℕ → S → S) → ℕ → ℕ → ℕ → S → S
turns hand n zero i s = s
turns hand n (suc g) i s = turns hand n g (after n i) (hand i s)
