-- The split: its starts, and what `new` accepts.
use Rattle.std.specs.Prelude.{◌≡◌, ℕ, ◌+◌, ◌*◌, ◌/◌, ◌%◌, ◌<◌, ◌≤◌, Bool, true, false, cond, ◌==◌, nat_le, nat_lt, refl, Ok, Err}
use Rattle.std.proofs.Common.{◌∙◌, ap, sym, arith, one-mul, add-mul, mul-le-mul_right, ltb-false}
use Rattle.std.proofs.Math.Nat.{div-add-mod}
use Rattle.std.proofs.lemmas.Bool.{eqb-false}
use Rattle.descriptors.specs.Record.{limit, least, most}
use Rattle.descriptors.specs.Split.{split_of, is_parts, accepts, start_of, size_of}
use Rattle.descriptors.specs.laws.Tests.{not-both}
use Rattle.descriptors.specs.declared.split.Split.{Split}
use Rattle.descriptors.specs.Refusal.{Answer}
use Rattle.descriptors.specs.declared.refusal.DmaBufError.{DmaBufError}

pub next_start : (i q : ℕ) → (i + 1) * q ≡ i * q + q
next_start i q = omega (arith, add-mul i 1 q, one-mul q)

pub start_small : (i n q : ℕ) → i < n → n ≤ limit → q ≤ 4095 → i * q + q ≤ limit * 4095 + 4095
start_small i n q h l m = omega (arith, mul-le-mul_right {m = i} {n = limit} q (omega arith))

-- what `new` accepts: r < chunk is in none of these
pub record Accepted (n len : ℕ) : Type 0 where
  pub few : least ≤ n
  pub many : n ≤ limit
  pub some : 0 < len / n
  pub chunk : len / n ≤ most
  pub last : len / n + len % n ≤ most
  pub parts : split_of n len ≡ Ok (record { chunk = len / n; rest = len % n })

-- a test that is passed over
skip : (b : Bool) (e : DmaBufError) (x : Answer Split) → is_parts (cond b (Err e) x) ≡ true → (b ≡ false) × (is_parts x ≡ true) × (cond b (Err e) x ≡ x)
skip true e x h = not-both h
skip false e x h = (refl, h, refl)

pub accepted : (n len : ℕ) → accepts n len ≡ true → Accepted n len
unfolding split_of
accepted n len h =
    let a = skip (nat_lt n least) _ _ h in
    let b = skip (nat_lt limit n) _ _ a.1 in
    let c = skip (nat_lt most (len / n)) _ _ b.1 in
    let d = skip (len / n == 0) _ _ c.1 in
    let e = skip (nat_le (len / n) (len % n)) _ _ d.1 in
    let f = skip (nat_lt most (len / n + len % n)) _ _ e.1 in
    record {
      few = ltb-false n least a.0;
      many = ltb-false limit n b.0;
      some = omega (arith, eqb-false (len / n) 0 d.0);
      chunk = ltb-false most (len / n) c.0;
      last = ltb-false most (len / n + len % n) f.0;
      parts = a.2 ∙ b.2 ∙ c.2 ∙ d.2 ∙ e.2 ∙ f.2;
    }

-- the numbers of an answer
chunk_in : Answer Split → ℕ
chunk_in (Ok x) = x.chunk
chunk_in (Err e) = 0

rest_in : Answer Split → ℕ
rest_in (Ok x) = x.rest
rest_in (Err e) = 0

pub record Known (n len chunk rest : ℕ) : Type 0 where
  pub takes : accepts n len ≡ true
  pub facts : Accepted n len
  pub chunk-is : chunk ≡ len / n
  pub rest-is : rest ≡ len % n

-- what the answer of `split_of` tells
pub parts-known : (n len : ℕ) (s : Split) → split_of n len ≡ Ok s → Known n len s.chunk s.rest
unfolding chunk_in rest_in
parts-known n len s e =
    let t : accepts n len ≡ true = ap is_parts e in
    let a = accepted n len t in
    let q = a.parts in
    record { takes = t; facts = a; chunk-is = ap chunk_in (sym e ∙ q); rest-is = ap rest_in (sym e ∙ q) }

-- record i's part lies in the buffer
pub place-fits : (n len i : ℕ) → i < n → start_of n len i + size_of n len i ≤ len
unfolding start_of size_of
place-fits n len i h = go (i + 1 == n) refl
  where
    whole : n * (len / n) + len % n ≡ len
    whole = div-add-mod len n

    up : (i + 1) * (len / n) ≤ n * (len / n)
    up = mul-le-mul_right {m = i + 1} {n = n} (len / n) (omega arith)

    go : (b : Bool) → (i + 1 == n) ≡ b → i * (len / n) + cond b (len / n + len % n) (len / n) ≤ len
    go true e = omega (arith, up, whole, next_start i (len / n))
    go false e = omega (arith, up, whole, next_start i (len / n))

-- and is a record's at most
pub size-most : (n len i : ℕ) → Accepted n len → size_of n len i ≤ most
unfolding size_of
size-most n len i a = go (i + 1 == n)
  where
    go : (b : Bool) → cond b (len / n + len % n) (len / n) ≤ most
    go true = a.last
    go false = a.chunk

pub size-some : (n len i : ℕ) → Accepted n len → 0 < size_of n len i
unfolding size_of
size-some n len i a = go (i + 1 == n)
  where
    go : (b : Bool) → 0 < cond b (len / n + len % n) (len / n)
    go true = omega (arith, a.some)
    go false = a.some
