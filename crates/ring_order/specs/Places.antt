-- Places round a ring of n: the place d steps after c, against the next and the previous place. No remainder stands in a proof: each
-- place has two cases, and every fact is one line of arithmetic for each combination of cases.
use Rattle.std.specs.Prelude.{◌≡◌, refl, Bool, true, false, cond, ◌≢◌, ℕ, zero, suc, ◌+◌, ◌-◌, ◌%◌, ◌≤◌, ◌<◌, ltb, eqb}
use Rattle.std.proofs.Common.{sym, ◌∙◌, ap, mod-lt, mod-eq_of_lt, arith, ltb-true, ltb-false, eqb-true}
use Rattle.std.proofs.Math.Nat.{zero-mod, mod_self, suc-mod}
use Rattle.std.proofs.Math.Decide.{dec_le}
use Rattle.std.proofs.lemmas.Bool.{eqb-false}
use Rattle.descriptors.specs.Place.{after, before}
use Rattle.descriptors.specs.laws.Places as laws

-- d places after c, round a ring of n: c is below n, and d at most n
unfoldable pub place : ℕ → ℕ → ℕ → ℕ
place n c d = cond (ltb (c + d) n) (c + d) (c + d - n)

data Placed (n c d p : ℕ) : Type 0 where
  low : c + d < n → p ≡ c + d → Placed n c d p
  high : n ≤ c + d → p + n ≡ c + d → Placed n c d p

placed : (n c d : ℕ) → Placed n c d (place n c d)
unfolding place
placed n c d = go (ltb (c + d) n) refl
  where
    go : (b : Bool) → ltb (c + d) n ≡ b → Placed n c d (cond b (c + d) (c + d - n))
    go true e = low (ltb-true (c + d) n e) refl
    go false e =
        let h : n ≤ c + d = ltb-false (c + d) n e in
        high h (omega arith)

data Followed (n c p : ℕ) : Type 0 where
  round : n ≤ c + 1 → p ≡ 0 → Followed n c p
  on : c + 1 < n → p ≡ c + 1 → Followed n c p

followed : (n c : ℕ) → Followed n c (after n c)
followed n c = go (ltb (c + 1) n) refl
  where
    go : (b : Bool) → ltb (c + 1) n ≡ b → Followed n c (cond b (c + 1) 0)
    go true e = on (ltb-true (c + 1) n e) refl
    go false e = round (ltb-false (c + 1) n e) refl

data Preceded (n c p : ℕ) : Type 0 where
  last : c ≡ 0 → p ≡ n - 1 → Preceded n c p
  back : c ≢ 0 → p ≡ c - 1 → Preceded n c p

preceded : (n c : ℕ) → Preceded n c (before n c)
preceded n c = go (eqb c 0) refl
  where
    go : (b : Bool) → eqb c 0 ≡ b → Preceded n c (cond b (n - 1) (c - 1))
    go true e = last (eqb-true c 0 e) refl
    go false e = back (eqb-false c 0 e) refl

-- ---- places

place-lt-at : {n c d p : ℕ} → Placed n c d p → c < n → d ≤ n → p < n
place-lt-at (low h e) hc hd = omega arith
place-lt-at (high h e) hc hd = omega arith

pub place-lt : (n c d : ℕ) → c < n → d ≤ n → place n c d < n
place-lt n c d = place-lt-at (placed n c d)

place-inj-at : {n c d e p q : ℕ} → Placed n c d p → Placed n c e q → d < n → e < n → p ≡ q → d ≡ e
place-inj-at (low h x) (low k y) hd he q = omega arith
place-inj-at (low h x) (high k y) hd he q = omega arith
place-inj-at (high h x) (low k y) hd he q = omega arith
place-inj-at (high h x) (high k y) hd he q = omega arith

pub place-inj : (n c d e : ℕ) → d < n → e < n → place n c d ≡ place n c e → d ≡ e
place-inj n c d e = place-inj-at (placed n c d) (placed n c e)

place-zero-at : {n c p : ℕ} → Placed n c 0 p → c < n → p ≡ c
place-zero-at (low h e) hc = omega arith
place-zero-at (high h e) hc = omega arith

pub place-zero : (n c : ℕ) → c < n → place n c 0 ≡ c
place-zero n c = place-zero-at (placed n c 0)

from-zero-at : {n d p : ℕ} → Placed n 0 d p → d < n → p ≡ d
from-zero-at (low h e) hd = omega arith
from-zero-at (high h e) hd = omega arith

pub place-from-zero : (n d : ℕ) → d < n → place n 0 d ≡ d
place-from-zero n d = from-zero-at (placed n 0 d)

-- each place is some way after c
onto : (n c j : ℕ) → c < n → j < n → Dec (c ≤ j) → (d : ℕ) × (d < n) × (place n c d ≡ j)
onto n c j hc hj (yes l) = (j - c, omega arith, onto-low (placed n c (j - c)))
  where
    onto-low : {p : ℕ} → Placed n c (j - c) p → p ≡ j
    onto-low (low h e) = omega arith
    onto-low (high h e) = omega arith
onto n c j hc hj (no l) = (j + n - c, omega arith, onto-high (placed n c (j + n - c)))
  where
    onto-high : {p : ℕ} → Placed n c (j + n - c) p → p ≡ j
    onto-high (low h e) = omega arith
    onto-high (high h e) = omega arith

pub place-onto : (n c j : ℕ) → c < n → j < n → (d : ℕ) × (d < n) × (place n c d ≡ j)
place-onto n c j hc hj = onto n c j hc hj (dec_le c j)

-- ---- the next place

pub after-lt : (n c : ℕ) → c < n → after n c < n
after-lt n c = laws.after-lt n c

place-after-at : {n c d p q r : ℕ} → Followed n c p → Placed n p d q → Placed n c (suc d) r → c < n → d < n → q ≡ r
place-after-at (round h e) (low a x) (low b y) hc hd = omega arith
place-after-at (round h e) (low a x) (high b y) hc hd = omega arith
place-after-at (round h e) (high a x) (low b y) hc hd = omega arith
place-after-at (round h e) (high a x) (high b y) hc hd = omega arith
place-after-at (on h e) (low a x) (low b y) hc hd = omega arith
place-after-at (on h e) (low a x) (high b y) hc hd = omega arith
place-after-at (on h e) (high a x) (low b y) hc hd = omega arith
place-after-at (on h e) (high a x) (high b y) hc hd = omega arith

pub place_after : (n c d : ℕ) → c < n → d < n → place n (after n c) d ≡ place n c (suc d)
place_after n c d = place-after-at (followed n c) (placed n (after n c) d) (placed n c (suc d))

after-place-at : {n c d p q r : ℕ} → Placed n c d p → Followed n p q → Placed n c (suc d) r → c < n → d < n → q ≡ r
after-place-at (low a x) (round h e) (low b y) hc hd = omega arith
after-place-at (low a x) (round h e) (high b y) hc hd = omega arith
after-place-at (high a x) (round h e) (low b y) hc hd = omega arith
after-place-at (high a x) (round h e) (high b y) hc hd = omega arith
after-place-at (low a x) (on h e) (low b y) hc hd = omega arith
after-place-at (low a x) (on h e) (high b y) hc hd = omega arith
after-place-at (high a x) (on h e) (low b y) hc hd = omega arith
after-place-at (high a x) (on h e) (high b y) hc hd = omega arith

pub after-place : (n c d : ℕ) → c < n → d < n → after n (place n c d) ≡ place n c (suc d)
after-place n c d = after-place-at (placed n c d) (followed n (place n c d)) (placed n c (suc d))

place-after-last-at : {n c p q : ℕ} → Followed n c p → Placed n p (n - 1) q → c < n → q ≡ c
place-after-last-at (round h e) (low a x) hc = omega arith
place-after-last-at (round h e) (high a x) hc = omega arith
place-after-last-at (on h e) (low a x) hc = omega arith
place-after-last-at (on h e) (high a x) hc = omega arith

pub place-after-last : (n c : ℕ) → c < n → place n (after n c) (n - 1) ≡ c
place-after-last n c = place-after-last-at (followed n c) (placed n (after n c) (n - 1))

-- ---- the previous place

before-place-at : {n c p q : ℕ} → Preceded n c p → Placed n c (n - 1) q → c < n → p ≡ q
before-place-at (last h e) (low a x) hc = omega arith
before-place-at (last h e) (high a x) hc = omega arith
before-place-at (back h e) (low a x) hc = omega arith
before-place-at (back h e) (high a x) hc = omega arith

pub before-place : (n c : ℕ) → c < n → before n c ≡ place n c (n - 1)
before-place n c = before-place-at (preceded n c) (placed n c (n - 1))

pub before-lt : (n c : ℕ) → c < n → before n c < n
before-lt n c = laws.before-lt n c

before-ne-at : {n c p : ℕ} → Preceded n c p → 2 ≤ n → p ≢ c
before-ne-at (last h e) hn q = omega arith
before-ne-at (back h e) hn q = omega arith

pub before-ne : (n c : ℕ) → 2 ≤ n → before n c ≢ c
before-ne n c = before-ne-at (preceded n c)

-- ---- round and round: where k steps from record 0 lead

unfoldable pub turn : ℕ → ℕ → ℕ
turn n zero = 0
turn n (suc k) = after n (turn n k)

pub turn_suc : (n k : ℕ) → turn n (suc k) ≡ after n (turn n k)
unfolding turn
turn_suc n k = refl

after-mod-at : (n k : ℕ) {p : ℕ} → Followed n (k % n) p → 0 < n → p ≡ suc k % n
after-mod-at n k (round h e) hn =
    let r : k % n < n = mod-lt k hn in
    let q : suc (k % n) ≡ n = omega arith in
    e ∙ sym (suc-mod k n ∙ ap (λ (m : ℕ). m % n) q ∙ mod_self n)
after-mod-at n k {p} (on h e) hn =
    let q : suc (k % n) < n = omega arith in
    let z : p ≡ suc (k % n) = omega arith in
    z ∙ sym (suc-mod k n ∙ mod-eq_of_lt q)

-- round and round k times is k mod n
pub turn-mod : (n k : ℕ) → 0 < n → turn n k ≡ k % n
unfolding turn
turn-mod n zero h = sym (zero-mod n)
turn-mod n (suc k) h = ap (after n) (turn-mod n k h) ∙ after-mod-at n k (followed n (k % n)) h
