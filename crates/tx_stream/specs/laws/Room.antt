-- The free run from the cursor lies in the buffer: it is no longer than the buffer, and the cursor stands before the buffer's end.
use Rattle.std.specs.Prelude.{◌≡◌, ℕ, zero, suc, ◌+◌, ◌*◌, ◌/◌, ◌<◌, ◌≤◌, Bool, true, false, cond, nat_lt, refl}
use Rattle.std.proofs.Common.{sym, ◌∙◌}
use Rattle.std.proofs.Math.Path.{ap}
use native.Mathlib.Omega.{arith}
use Rattle.std.proofs.Math.Decide.{dec_lt}
use Rattle.std.proofs.Math.Nat.{div-add-mod}
use borrow.Author.Tests.{lt-ltb, le-ltb, ltb-true, eq-eqb, ne_eqb}
use Rattle.descriptors.specs.Record.{record_in, is_cpu}
use Rattle.descriptors.specs.Place.{after}
use Rattle.descriptors.specs.Split.{start_of, size_of}
use Rattle.descriptors.specs.Ring.{Ring, record_of, sound, offset_ok}
use Rattle.descriptors.specs.Walk.{run_bytes, available_in}
use Rattle.descriptors.specs.laws.Tests.{and_split}
use Rattle.descriptors.specs.laws.Places.{after-lt}
use Rattle.descriptors.specs.laws.Splits.{next_start, place-fits, size-most}
use Rattle.descriptors.specs.laws.Sound.{facts}
use Rattle.descriptors.specs.declared.record.DmaDescriptor.{DmaDescriptor}
use Rattle.descriptors.specs.declared.record.TransferDirection.TheVariants.{Out}
use Rattle.tx_stream.specs.Transmit.{write_at}

after_next : (n i : ℕ) → i + 1 < n → after n i ≡ i + 1
after_next n i h = rw (lt-ltb (i + 1) n h)

after_last : (n i : ℕ) → i + 1 ≡ n → after n i ≡ 0
after_last n i h = rw (le-ltb (i + 1) n (omega arith))

module _ (n len : ℕ) where
  -- where record i's part begins, and the buffer's end past the last
  edge : ℕ → ℕ
  edge i = cond (nat_lt i n) (start_of n len i) len

  edge_in : (i : ℕ) → i < n → edge i ≡ start_of n len i
  unfolding edge
  edge_in i h = rw (lt-ltb i n h)

  edge-end : edge n ≡ len
  unfolding edge
  edge-end = rw (le-ltb n n (omega arith))

  edge-first : 0 < n → edge 0 ≡ 0
  unfolding start_of
  edge-first h = edge_in 0 h ∙ omega arith

  edge-next : (i : ℕ) → i < n → edge i + size_of n len i ≡ edge (i + 1)
  unfolding start_of size_of
  edge-next i h = go (dec_lt (i + 1) n)
    where
      go : Dec (i + 1 < n) → edge i + size_of n len i ≡ edge (i + 1)
      go (yes l) =
          rw (edge_in i h, edge_in (i + 1) l, ne_eqb (i + 1) n (λ z. omega arith))
          (sym (next_start i (len / n)))
      go (no l) =
          let e : i + 1 ≡ n = omega arith in
          rw (edge_in i h, eq-eqb (i + 1) n e)
          (omega (arith, ap edge e, edge-end, next_start i (len / n), ap (λ (k : ℕ). k * (len / n)) e, div-add-mod len n))

  -- the sizes of k records from record i on
  total : ℕ → ℕ → ℕ
  total zero i = 0
  total (suc k) i = size_of n len i + total k (after n i)

  total-up : (k i : ℕ) → i + k ≤ n → edge i + total k i ≡ edge (i + k)
  unfolding total
  total-up zero i h = omega (arith, ap edge {x = i + 0} {y = i} (omega arith))
  total-up (suc k) i h = go (dec_lt (i + 1) n) (total-up k (i + 1) (omega arith))
    where
      go : Dec (i + 1 < n) → edge (i + 1) + total k (i + 1) ≡ edge (i + 1 + k) → edge i + (size_of n len i + total k (after n i)) ≡ edge (i + suc k)
      go (yes l) ih =
          rw (after_next n i l) (omega (arith, edge-next i (omega arith), ap edge {x = i + 1 + k} {y = i + suc k} (omega arith)))
      go (no l) ih = last k (omega arith)
        where
          last : (k : ℕ) → k ≡ 0 → edge i + (size_of n len i + total k (after n i)) ≡ edge (i + suc k)
          last k z = rw z (omega (arith, edge-next i (omega arith)))

  -- round the end
  total-round : (k i j : ℕ) → i < n → j < n → k + i ≡ n + j → edge i + total k i ≡ len + edge j
  unfolding total
  total-round zero i j hi hj e = absurd (omega arith)
  total-round (suc k) i j hi hj e = go (dec_lt (i + 1) n) (λ l. total-round k (i + 1) j l hj (omega arith))
    where
      go : Dec (i + 1 < n) → (i + 1 < n → edge (i + 1) + total k (i + 1) ≡ len + edge j) → edge i + (size_of n len i + total k (after n i)) ≡ len + edge j
      go (yes l) ih = rw (after_next n i l) (omega (arith, edge-next i hi, ih l))
      go (no l) ih =
          let p : i + 1 ≡ n = omega arith in
          let q : k ≡ j = omega arith in
          rw (after_last n i p)
          (omega (
            arith,
            edge-next i hi,
            ap edge p,
            edge-end,
            total-up k 0 (omega arith),
            edge-first (omega arith),
            ap edge {x = 0 + k} {y = j} (omega arith),
          ))

  total-all : (i : ℕ) → i < n → total n i ≡ len
  total-all i h = omega (arith, total-round n i i h h refl)

  run-total : (f : ℕ → DmaDescriptor) → ((i : ℕ) → i < n → (f i).size ≡ size_of n len i) → (k i : ℕ) → i < n → run_bytes Out f n k i ≤ total k i
  unfolding run_bytes total
  run-total f e zero i h = omega arith
  run-total f e (suc k) i h = go (is_cpu (f i).owner) (run-total f e k (after n i) (after-lt n i h))
    where
      go : (b : Bool) → run_bytes Out f n k (after n i) ≤ total k (after n i)
          → cond b ((f i).size + run_bytes Out f n k (after n i)) 0 ≤ size_of n len i + total k (after n i)
      go true ih = omega (arith, e i h)
      go false ih = omega arith

module _ (r : Ring) (len : ℕ) (s : sound Out r len ≡ true) where
  -- no more is free than the buffer has
  pub room_fits : available_in Out r ≤ len
  unfolding available_in
  room_fits =
      let f = facts Out r len s in
      omega (
        arith,
        run-total r.count len (record_in r.descriptors) f.split.size r.count r.idx f.within,
        total-all r.count len r.idx f.within,
      )

  offset-small : r.offset < size_of r.count len r.idx
  offset-small =
      let f = facts Out r len s in
      omega (arith, f.split.size r.idx f.within, below f.offset)
    where
      below : offset_ok Out (record_of r r.idx) r.offset ≡ true → r.offset < (record_of r r.idx).size
      below o = ltb-true r.offset (record_of r r.idx).size (and_split (nat_lt r.offset (record_of r r.idx).size) _ o).0

  pub offset-fits : r.offset < 65536
  offset-fits = omega (arith, offset-small, size-most r.count len r.idx (facts Out r len s).split.parts)

  pub place_in : write_at r < len
  place_in =
      let f = facts Out r len s in
      omega (arith, offset-small, f.split.start r.idx f.within, place-fits r.count len r.idx f.within)
