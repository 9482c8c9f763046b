-- How many of the records have a property, counted from record 0 or from the cursor round the ring.
use Rattle.std.specs.Prelude.{ℕ, zero, suc, ◌+◌, ◌-◌, ◌≤◌, ◌<◌, ◌≡◌, refl, Bool, true, false, ltb}
use Rattle.std.proofs.Common.{sym, ◌∙◌, ap, arith, lt-ltb, le-ltb}
use Rattle.std.proofs.Math.Decide.{dec_lt}
use Rattle.ring_order.specs.Places.{place}

abbrev pub one : Bool → ℕ
one true = 1
one false = 0

-- how many numbers below k pass the test
abbrev pub count_below : (ℕ → Bool) → ℕ → ℕ
count_below p zero = 0
count_below p (suc k) = count_below p k + one (p k)

pub count_same : (p q : ℕ → Bool) (k : ℕ) → ((j : ℕ) → j < k → p j ≡ q j) → count_below p k ≡ count_below q k
count_same p q zero e = refl
count_same p q (suc k) e = rw (count_same p q k (λ j l. e j (omega arith)), e k (omega arith)) refl

count-split : (p : ℕ → Bool) (a b : ℕ) → count_below p (a + b) ≡ count_below p a + count_below (λ j. p (a + j)) b
count-split p a zero = let z : a + 0 ≡ a = omega arith in rw z (omega arith)
count-split p a (suc b) =
    let z : a + suc b ≡ suc (a + b) = omega arith in
    rw z (omega (arith, count-split p a b))

-- the numbers below g, of those below k
pub count-first : (g k : ℕ) → g ≤ k → count_below (λ d. ltb d g) k ≡ g
count-first g zero h = omega arith
count-first g (suc k) h = go (dec_lt k g) (λ l. count-first g k l)
  where
    all : (j : ℕ) → j ≤ g → count_below (λ d. ltb d g) j ≡ j
    all zero l = refl
    all (suc j) l = rw (lt-ltb j g (omega arith)) (omega (arith, all j (omega arith)))

    go : Dec (k < g) → (g ≤ k → count_below (λ d. ltb d g) k ≡ g) → count_below (λ d. ltb d g) k + one (ltb k g) ≡ g
    go (yes l) ih = rw (lt-ltb k g l) (omega (arith, all k (omega arith)))
    go (no l) ih = rw (le-ltb k g (omega arith)) (omega (arith, ih (omega arith)))

-- round the ring from c on, or from 0: the same
pub count-round : (p : ℕ → Bool) (n c : ℕ) → c < n → count_below (λ d. p (place n c d)) n ≡ count_below p n
unfolding place
count-round p n c h =
    let q : ℕ → Bool = λ d. p (place n c d) in
    let behind : ℕ = n - c in
    let a : n ≡ behind + c = omega arith in
    let b : n ≡ c + behind = omega arith in
    ap (count_below q) a
    ∙ count-split q behind c
    ∙ ap (λ (k : ℕ). k + count_below (λ j. q (behind + j)) c) (count_same q (λ j. p (c + j)) behind (λ j l. rw (lt-ltb (c + j) n (omega arith)) refl))
    ∙ ap (λ (k : ℕ). count_below (λ j. p (c + j)) behind + k) (count_same (λ j. q (behind + j)) p c (λ j l.
    let z : c + (behind + j) - n ≡ j = omega arith in
    rw (le-ltb (c + (behind + j)) n (omega arith), z) refl))
    ∙ omega arith
    ∙ sym (ap (count_below p) b ∙ count-split p c behind)
