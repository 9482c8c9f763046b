-- Tests that are joined, and tests of every number below a bound.
use Rattle.std.specs.Prelude.{◌≡◌, ℕ, zero, suc, ◌+◌, ◌-◌, ◌<◌, Bool, true, false, cond, ◌&&◌, refl}
use Rattle.std.proofs.Common.{sym, ap, ◌∙◌, arith, add-one}
use Rattle.std.proofs.Math.Decide.{dec_lt}
use Rattle.descriptors.specs.Cells.{all_below}

pub not-both : {A : Type 0} → false ≡ true → A
not-both e = absurd (let z : ◌≡◌ {A = ℕ} 0 1 = cc in omega arith)

pub and_split : (a b : Bool) → (a && b) ≡ true → (a ≡ true) × (b ≡ true)
and_split true b h = (refl, h)
and_split false b h = not-both h

pub and-join : {a b : Bool} → a ≡ true → b ≡ true → (a && b) ≡ true
and-join p q = rw (p, q) refl

pub and_right : (a : Bool) → (a && true) ≡ a
and_right true = refl
and_right false = refl

pub and-never : (a : Bool) → (a && false) ≡ false
and-never true = refl
and-never false = refl

-- a chain of tests: one passed, and the rest decide; or one failed
pub and-go : {a b x : Bool} → a ≡ true → x ≡ b → x ≡ (a && b)
and-go p q = rw p q

pub and-stop : (a b : Bool) → a ≡ false → false ≡ (a && b)
and-stop a b p = rw p refl

pub and-pass : (a b : Bool) → a ≡ true → (a && b) ≡ b
and-pass a b p = rw p refl

pub and-fail : (a b : Bool) → a ≡ false → (a && b) ≡ false
and-fail a b p = rw p refl

-- ---- every number below a bound

pub all-at : (p : ℕ → Bool) (n i : ℕ) → all_below p n ≡ true → i < n → p i ≡ true
all-at p zero i h l = absurd (omega arith)
all-at p (suc n) i h l = go (dec_lt i n) (and_split (all_below p n) (p n) h) (all-at p n i)
  where
    go : Dec (i < n) → (all_below p n ≡ true) × (p n ≡ true) → (all_below p n ≡ true → i < n → p i ≡ true) → p i ≡ true
    go (yes k) s ih = ih s.0 k
    go (no k) s ih = let e : i ≡ n = omega arith in rw e s.1

pub all_of : (p : ℕ → Bool) (n : ℕ) → ((i : ℕ) → i < n → p i ≡ true) → all_below p n ≡ true
all_of p zero h = refl
all_of p (suc n) h = and-join (all_of p n (λ i l. h i (omega arith))) (h n (omega arith))

pub all_same : (p q : ℕ → Bool) (n : ℕ) → ((i : ℕ) → i < n → p i ≡ q i) → all_below p n ≡ all_below q n
all_same p q zero e = refl
all_same p q (suc n) e = rw (all_same p q n (λ i l. e i (omega arith)), e n (omega arith)) refl

-- a flag that is cleared at the first number that fails, and kept at one that passes
pub flag_cleared : (p : ℕ → Bool) (i : ℕ) → p i ≡ false → false ≡ all_below p (i + 1)
flag_cleared p i e = rw (add-one, e) (sym (and-never (all_below p i)))

pub flag-kept : (p : ℕ → Bool) (i : ℕ) (ok : Bool) → ok ≡ all_below p i → p i ≡ true → ok ≡ all_below p (i + 1)
flag-kept p i ok h e = rw (add-one, e) (h ∙ sym (and_right (all_below p i)))

pub ruleset flags = (flag_cleared, flag-kept)

-- a scan of all or of all but the last, before a test of the last
pub but_last : (p : ℕ → Bool) (n : ℕ) (b y : Bool) → 0 < n → (b ≡ true → y ≡ true → p (n - 1) ≡ true)
    → (all_below p (cond b n (n - 1)) && y) ≡ (all_below p (n - 1) && y)
but_last p n false y h g = refl
but_last p n true false h g = and-never (all_below p n) ∙ sym (and-never (all_below p (n - 1)))
but_last p n true true h g =
    let e : n - 1 + 1 ≡ n = omega arith in
    ap (λ (b : Bool). b && true) (sym (flag-kept p (n - 1) (all_below p (n - 1)) refl (g refl refl) ∙ ap (all_below p) e))
