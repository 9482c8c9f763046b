-- What a good alignment is.
use Rattle.std.specs.Prelude.{ℕ, zero, suc, ◌^◌, ◌<◌, ◌≤◌, max, ◌≡◌, refl, Bool, true, false, cond, ◌&&◌, ◌||◌, eqb, leb, ltb}
use Rattle.std.proofs.Common.{sym, ◌∙◌, ap, arith, leb-true, leb-false, ltb-true, ltb-false, eqb-true, eq-eqb, ne_eqb}
use Rattle.std.proofs.Math.Path.{subst⁻¹}
use Rattle.std.specs.Int.Count.{ones, ones_in}
use Rattle.burst.specs.Burst.{is_good, contains, alignment_at}
use Rattle.burst.specs.declared.Region.{Region}

-- a number is one of the first k powers of two
abbrev pub is_power : ℕ → ℕ → Bool
is_power zero a = false
is_power (suc k) a = is_power k a || eqb a (2 ^ k)

abbrev same : Bool → Bool → Bool
same true b = b
same false true = false
same false false = true

same-eq : (b e : Bool) → same b e ≡ true → b ≡ e
same-eq true e h = sym h
same-eq false true h = h
same-eq false false h = refl

and_left : (b e : Bool) → b && e ≡ true → b ≡ true
and_left true e h = refl
and_left false e h = h

and_right : (b e : Bool) → b && e ≡ true → e ≡ true
and_right true e h = h
and_right false e h = cc

never : false ≡ true → ⊥
never h = let z : ◌≡◌ {A = ℕ} 0 1 = cc in omega arith

or-false : (b : Bool) → b || false ≡ true → b ≡ true
or-false true h = refl
or-false false h = h

or-true : (b : Bool) → b || true ≡ true
or-true true = refl
or-true false = refl

-- the two tests agree on every number below k
abbrev agree : ℕ → Bool
agree zero = true
agree (suc k) = agree k && same (is_good k) (is_power 7 k)

agree_at : (k a : ℕ) → a < k → agree k ≡ true → is_good a ≡ is_power 7 a
agree_at zero a h e = absurd (omega arith)
agree_at (suc k) a h e = go (ltb a k) refl (λ l. agree_at k a l (and_left (agree k) _ e)) (and_right (agree k) _ e)
  where
    go : (b : Bool) → ltb a k ≡ b → (a < k → is_good a ≡ is_power 7 a) → same (is_good k) (is_power 7 k) ≡ true → is_good a ≡ is_power 7 a
    go true l below here = below (ltb-true a k l)
    go false l below here =
        let q : a ≡ k = omega (arith, ltb-false a k l) in subst⁻¹ (λ (x : ℕ). is_good x ≡ is_power 7 x) q (same-eq (is_good k) (is_power 7 k) here)

all-agree : agree 65 ≡ true
unfolding is_good ones ones_in
all-agree = refl

is-power-at : (n k : ℕ) → k < n → is_power n (2 ^ k) ≡ true
is-power-at zero k h = absurd (omega arith)
is-power-at (suc n) k h = go (ltb k n) refl (λ l. is-power-at n k l)
  where
    go : (b : Bool) → ltb k n ≡ b → (k < n → is_power n (2 ^ k) ≡ true) → is_power n (2 ^ k) || eqb (2 ^ k) (2 ^ n) ≡ true
    go true l below = rw (below (ltb-true k n l))
    go false l below =
        let q : k ≡ n = omega (arith, ltb-false k n l) in rw (eq-eqb (2 ^ k) (2 ^ n) (ap (λ (x : ℕ). 2 ^ x) q)) (or-true (is_power n (2 ^ k)))

exponent-of : (n a : ℕ) → is_power n a ≡ true → (k : ℕ) × ((k < n) × (a ≡ 2 ^ k))
exponent-of zero a h = absurd (never h)
exponent-of (suc n) a h = go (eqb a (2 ^ n)) refl (exponent-of n a)
  where
    go : (b : Bool) → eqb a (2 ^ n) ≡ b → (is_power n a ≡ true → (k : ℕ) × ((k < n) × (a ≡ 2 ^ k)))
        → (k : ℕ) × ((k < suc n) × (a ≡ 2 ^ k))
    go true e below = (n, (omega arith, eqb-true a (2 ^ n) e))
    go false e below = let r = below (or-false (is_power n a) (rw e at h)) in (r.0, (omega arith, r.1.1))

-- "an alignment is accepted by the language's count of ones being 1, related to powers of two up to 64"
pub good-is-power : (a : ℕ) → is_good a ≡ is_power 7 a
unfolding is_good
good-is-power a = go (leb a 64) refl
  where
    off : (v : ℕ) → v ≤ 64 → leb a 64 ≡ false → eqb a v ≡ false
    off v h l = ne_eqb a v (λ q. omega (arith, leb-false a 64 l))

    go : (b : Bool) → leb a 64 ≡ b → is_good a ≡ is_power 7 a
    go true l = agree_at 65 a (omega (arith, leb-true a 64 l)) all-agree
    go false l =
        simp
        (l, off 1 (omega arith) l, off 2 (omega arith) l, off 4 (omega arith) l, off 8 (omega arith) l, off 16 (omega arith) l, off 32 (omega arith) l, off 64 (omega arith) l)

pub power-good : (k : ℕ) → k ≤ 6 → is_good (2 ^ k) ≡ true
power-good k h = good-is-power (2 ^ k) ∙ is-power-at 7 k (omega arith)

pub good-power : (a : ℕ) → is_good a ≡ true → (k : ℕ) × ((k ≤ 6) × (a ≡ 2 ^ k))
good-power a g = let e = exponent-of 7 a (sym (good-is-power a) ∙ g) in (e.0, (omega arith, e.1.1))

pub good-pos : (a : ℕ) → is_good a ≡ true → 0 < a
good-pos zero g = absurd (never (sym (good-is-power 0) ∙ g))
good-pos (suc a) g = omega arith

pub alignment-pos : (address : ℕ) (external : Region) (ai ae : ℕ) → is_good ai ≡ true → 0 < alignment_at address external ai ae
unfolding alignment_at
alignment-pos address external ai ae g = go (contains external address) (good-pos ai g)
  where
    go : (b : Bool) → 0 < ai → 0 < cond b (max ai ae) ai
    go true h = omega arith
    go false h = h
