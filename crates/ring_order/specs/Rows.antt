-- The records in ring order as a plain list, in document 01's words: what is available, of either direction.
use Prim.Native.Nat.{ℕ, zero, suc, ◌+◌, ◌-◌, ◌≤◌, ◌<◌}
use Rattle.std.specs.Prelude.{◌≡◌, Bool, List, [], ◌∷◌, ◌++◌, ltb, take, drop}
use Rattle.std.proofs.Math.Path.{refl}
use Rattle.std.proofs.Common.{sym, ◌∙◌, ap, arith, ltb-true, ltb-false, length-append, length-take, length-drop, drop-cons, get_or-drop, get_or-take, get_or-append-add, length-take-le}
use Rattle.std.proofs.Math.Bool.{true, false, cond}
use Rattle.std.proofs.Math.ListN.{length, get_or-append}
use Rattle.std.proofs.Math.Seq.{drop-length}
use Rattle.descriptors.specs.Record.{blank, record_in, is_cpu, span_of}
use Rattle.descriptors.specs.Place.{after}
use Rattle.descriptors.specs.Walk.{run_bytes, available_in}
use Rattle.descriptors.specs.Ring.{Ring}
use Rattle.descriptors.specs.declared.record.DmaDescriptor.{DmaDescriptor}
use Rattle.descriptors.specs.declared.record.TransferDirection.{TransferDirection}
use Rattle.ring_order.specs.Places.{place, place-zero, after-place}

-- "lengths" on receive, and "sizes" on transmit
abbrev pub total : TransferDirection → List DmaDescriptor → ℕ
total dir [] = 0
total dir (d ∷ ds) = span_of dir d + total dir ds

-- "from the cursor round the ring": the n records, from record i on
abbrev pub turned : List DmaDescriptor → ℕ → ℕ → List DmaDescriptor
turned ds n i = drop i (take n ds) ++ take i (take n ds)

-- "up to the first DMA-owned record", "the CPU-owned run"
abbrev pub cpu_owned : List DmaDescriptor → List DmaDescriptor
cpu_owned [] = []
cpu_owned (d ∷ ds) = cond (is_cpu d.owner) (d ∷ cpu_owned ds) []

turned-length : (ds : List DmaDescriptor) (n i : ℕ) → n ≤ length ds → i < n → length (turned ds n i) ≡ n
turned-length ds n i l h =
    let w : length (take n ds) ≡ n = length-take-le n ds l in
    rw (length-append, length-drop, length-take i (take n ds), w) (omega arith)

turned-at : (ds : List DmaDescriptor) (n i j : ℕ) → n ≤ length ds → i < n → j < n → record_in (turned ds n i) j ≡ record_in ds (place n i j)
unfolding place
turned-at ds n i j l hi hj = go (ltb (i + j) n) refl
  where
    w : length (take n ds) ≡ n
    w = length-take-le n ds l

    ld : length (drop i (take n ds)) ≡ n - i
    ld = length-drop i (take n ds) ∙ ap (λ (m : ℕ). m - i) w

    go : (b : Bool) → ltb (i + j) n ≡ b → record_in (turned ds n i) j ≡ record_in ds (cond b (i + j) (i + j - n))
    go true e =
        get_or-append (drop i (take n ds)) (take i (take n ds)) blank j (omega (arith, ld, ltb-true (i + j) n e))
        ∙ get_or-drop i (take n ds) j blank
        ∙ get_or-take n ds (i + j) blank (ltb-true (i + j) n e)
    go false e =
        let m : n ≤ i + j = ltb-false (i + j) n e in
        let z : j ≡ length (drop i (take n ds)) + (i + j - n) = omega (arith, ld) in
        ap (λ (m : ℕ). record_in (turned ds n i) m) z
        ∙ get_or-append-add (drop i (take n ds)) (take i (take n ds)) (i + j - n) blank
        ∙ get_or-take i (take n ds) (i + j - n) blank (omega arith)
        ∙ get_or-take n ds (i + j - n) blank (omega arith)

module _ (dir : TransferDirection) (ds : List DmaDescriptor) (n i : ℕ) (l : n ≤ length ds) (hi : i < n) where
  from : (k j : ℕ) → j + k ≡ n → run_bytes dir (record_in ds) n k (place n i j) ≡ total dir (cpu_owned (drop j (turned ds n i)))
  unfolding run_bytes
  from zero j e =
      let z : j ≡ length (turned ds n i) = omega (arith, turned-length ds n i l hi) in
      rw (z, drop-length (turned ds n i)) refl
  from (suc k) j e =
      rw (drop-cons (turned ds n i) j blank (omega (arith, turned-length ds n i l hi)), turned-at ds n i j l hi (omega arith))
      (go (is_cpu (record_in ds (place n i j)).owner) (rw (after-place n i j hi (omega arith)) (from k (suc j) (omega arith))))
    where
      go : (b : Bool) → run_bytes dir (record_in ds) n k (after n (place n i j)) ≡ total dir (cpu_owned (drop (suc j) (turned ds n i)))
          → cond b (span_of dir (record_in ds (place n i j)) + run_bytes dir (record_in ds) n k (after n (place n i j))) 0
          ≡ total dir (cond b (record_in ds (place n i j) ∷ cpu_owned (drop (suc j) (turned ds n i))) [])
      go true h = rw h refl
      go false h = refl

  in-ring-order : run_bytes dir (record_in ds) n n i ≡ total dir (cpu_owned (turned ds n i))
  in-ring-order = ap (run_bytes dir (record_in ds) n n) (sym (place-zero n i hi)) ∙ from n 0 (omega arith)

-- AVAILABLE: "lengths from the cursor round the ring up to the first DMA-owned record, less offset", "sizes of the CPU-owned run from
-- the cursor, less offset"
pub available-row : (dir : TransferDirection) (r : Ring) → r.count ≤ length r.descriptors → r.idx < r.count
    → available_in dir r ≡ total dir (cpu_owned (turned r.descriptors r.count r.idx)) - r.offset
unfolding available_in
available-row dir r l h = ap (λ (k : ℕ). k - r.offset) (in-ring-order dir r.descriptors r.count r.idx l h)
