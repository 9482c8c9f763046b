-- What the split of a buffer gives, once `new` accepts n and the buffer's length: each record has a part of its own, and the parts
-- stand one behind the other. Nothing else of the split is used above this file.
use Rattle.std.specs.Prelude.{◌≡◌, refl, Bool, true, false, cond, ◌⊎◌, ◌≢◌, ℕ, zero, suc, ◌+◌, ◌-◌, ◌*◌, ◌/◌, ◌%◌, ◌≤◌, ◌<◌, eqb}
use Rattle.std.proofs.Common.{sym, ap, inl, inr, suc-mul, zero-mul, arith, eqb-true}
use Rattle.std.proofs.Math.Nat.{div-add-mod}
use Rattle.std.proofs.Math.Decide.{dec_lt}
use Rattle.std.proofs.lemmas.Bool.{eqb-false}
use Rattle.descriptors.specs.Record.{least, limit, most}
use Rattle.descriptors.specs.Split.{accepts, start_of, size_of}
use Rattle.descriptors.specs.laws.Splits.{Accepted, accepted}

pub record Geometry (n len : ℕ) : Type 0 where
  pub many : least ≤ n
  pub few : n ≤ limit
  pub some : (i : ℕ) → i < n → 0 < size_of n len i
  pub small : (i : ℕ) → i < n → size_of n len i ≤ most
  pub first : start_of n len 0 ≡ 0
  pub joined : (i : ℕ) → suc i < n → start_of n len (suc i) ≡ start_of n len i + size_of n len i
  pub end : (i : ℕ) → suc i ≡ n → start_of n len i + size_of n len i ≡ len

-- ---- from the tests to the parts

data Sized (n len i s : ℕ) : Type 0 where
  last : suc i ≡ n → s ≡ len / n + len % n → Sized n len i s
  inner : suc i ≢ n → s ≡ len / n → Sized n len i s

sized : (n len i : ℕ) → Sized n len i (size_of n len i)
unfolding size_of
sized n len i = go (eqb (i + 1) n) refl
  where
    go : (b : Bool) → eqb (i + 1) n ≡ b → Sized n len i (cond b (len / n + len % n) (len / n))
    go true e = let h : i + 1 ≡ n = eqb-true (i + 1) n e in last (omega arith) refl
    go false e = let h : i + 1 ≢ n = eqb-false (i + 1) n e in inner (λ q. h (omega arith)) refl

start-suc : (n len i : ℕ) → start_of n len (suc i) ≡ start_of n len i + len / n
unfolding start_of
start-suc n len i = let e : suc i * (len / n) ≡ i * (len / n) + len / n = suc-mul i (len / n) in omega arith

start-end : (n len i : ℕ) → suc i ≡ n → start_of n len i + (len / n + len % n) ≡ len
unfolding start_of
start-end n len i e =
    let p : n * (len / n) + len % n ≡ len = div-add-mod len n in
    let q : suc i * (len / n) ≡ i * (len / n) + len / n = suc-mul i (len / n) in
    let r : n * (len / n) ≡ suc i * (len / n) = ap (λ (m : ℕ). m * (len / n)) (sym e) in
    omega arith

some_at : {n len i s : ℕ} → Sized n len i s → Accepted n len → 0 < s
some_at (last h e) t = omega arith
some_at (inner h e) t = omega arith

small_at : {n len i s : ℕ} → Sized n len i s → Accepted n len → s ≤ most
small_at (last h e) t = omega arith
small_at (inner h e) t = omega arith

joined_at : {n len i s : ℕ} → Sized n len i s → suc i < n → start_of n len (suc i) ≡ start_of n len i + s
joined_at {n} {len} {i} (last h e) l = absurd (omega arith)
joined_at {n} {len} {i} (inner h e) l = omega (arith, start-suc n len i)

end-at : {n len i s : ℕ} → Sized n len i s → suc i ≡ n → start_of n len i + s ≡ len
end-at {n} {len} {i} (last h e) l = omega (arith, start-end n len i l)
end-at {n} {len} {i} (inner h e) l = absurd (h l)

start_first : (n len : ℕ) → start_of n len 0 ≡ 0
unfolding start_of
start_first n len = zero-mul (len / n)

pub geometry : (n len : ℕ) → accepts n len ≡ true → Geometry n len
geometry n len h =
    let t : Accepted n len = accepted n len h in
    record {
      many = t.few;
      few = t.many;
      some = λ i l. some_at (sized n len i) t;
      small = λ i l. small_at (sized n len i) t;
      first = start_first n len;
      joined = λ i l. joined_at (sized n len i) l;
      end = λ i l. end-at (sized n len i) l;
    }

-- ---- the parts do not meet, and lie in the buffer

module _ (n len : ℕ) (G : Geometry n len) where
  -- k records further on
  further : (i k : ℕ) → suc (i + k) < n → start_of n len i + size_of n len i ≤ start_of n len (suc (i + k))
  further i zero h = let e : suc (i + 0) ≡ suc i = omega arith in rw e (omega (arith, G.joined i (omega arith)))
  further i (suc k) h =
      let e : suc (i + suc k) ≡ suc (suc (i + k)) = omega arith in
      rw e (omega (arith, further i k (omega arith), G.joined (suc (i + k)) (omega arith)))

  pub apart : (i j : ℕ) → i < j → j < n → start_of n len i + size_of n len i ≤ start_of n len j
  apart i j h l =
      let e : j ≡ suc (i + (j - suc i)) = omega arith in
      rw e (further i (j - suc i) (omega arith))

  pub within : (i : ℕ) → i < n → start_of n len i + size_of n len i ≤ len
  within i h = go (dec_lt (suc i) n)
    where
      go : Dec (suc i < n) → start_of n len i + size_of n len i ≤ len
      go (yes l) =
          let e : suc (n - 1) ≡ n = omega arith in
          omega (arith, apart i (n - 1) (omega arith) (omega arith), G.end (n - 1) e)
      go (no l) = let e : suc i ≡ n = omega arith in omega (arith, G.end i e)

  -- two parts do not meet: k places from a on in the part of j, m places from s on in that of i
  pub disjoint : (i j : ℕ) → i < n → j < n → j ≢ i → (a k s m : ℕ) → start_of n len j ≤ a → a + k ≤ start_of n len j + size_of n len j → start_of n len i ≤ s
      → s + m ≤ start_of n len i + size_of n len i → (a + k ≤ s) ⊎ (s + m ≤ a)
  disjoint i j hi hj ne a k s m ha hk hs hm = go (dec_lt i j)
    where
      go : Dec (i < j) → (a + k ≤ s) ⊎ (s + m ≤ a)
      go (yes l) = inr (omega (arith, apart i j l hj))
      go (no l) = inl (omega (arith, apart j i (omega arith) hi))
