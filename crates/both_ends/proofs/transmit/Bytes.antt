-- What is queued, what is pending and what stands free, read off the ring seen from its cursor: on every sound ring.
use Rattle.std.specs.Prelude.{◌≡◌, Bool, true, ◌||◌, ◌⊎◌, eqb, ltb, length, take, drop}
use Rattle.std.proofs.Math.Path.{refl, ap}
use Rattle.std.proofs.Common.{sym, ◌∙◌, inl, inr, arith, ltb-true, eqb-true, length-append, take-take}
use Rattle.std.proofs.Math.Bool.{cond}
use mathlib.Core.List.{List, [], ◌∷◌, ◌++◌, append_assoc, map, map-append}
use Prim.Native.Nat.{ℕ, zero, suc, ◌-◌, ◌<◌}
use Rattle.std.proofs.lemmas.List.{take-append-le}
use Rattle.descriptors.specs.Record.{record_in, is_cpu}
use Rattle.descriptors.specs.Place.{after}
use Rattle.descriptors.specs.Ring.{Ring, offset_ok}
use Rattle.descriptors.specs.Walk.{standing, available_in}
use Rattle.descriptors.specs.declared.record.Owner.TheVariants.{Cpu}
use Rattle.descriptors.specs.declared.record.DmaDescriptor.{DmaDescriptor}
use Rattle.descriptors.specs.declared.record.TransferDirection.TheVariants.{Out}
use Rattle.descriptors.specs.laws.Tests.{and_split}
use Rattle.ring_order.specs.Places.{after-lt}
use Rattle.ring_order.specs.Shape.{Shape, Sound}
use Rattle.ring_order.specs.Tests.{or-out, cpu-test, test-cpu}
use Rattle.ring_order.specs.View.{Cell, cell_in, round, view, hand_c, own, cursor-cell, view-some}
use Rattle.ring_order.specs.Queue.{owners, join, join-append, cat, Cpus, cpu_run, spans, data-run, bytes_run, Stored, exact, bares, same-bare}
use Rattle.both_ends.specs.Demand3.{dma_data, queued_in, pending_in}
use Rattle.ring_order.specs.Walking.{Into}

-- ---- the bytes that a list of cells sends: those of the DMA-owned records

abbrev pub sent_by : Cell → List ℕ
sent_by x = cond (is_cpu x.desc.owner) [] (take x.desc.length x.held)

abbrev pub sends : List Cell → List ℕ
sends xs = join (map sent_by xs)

pub sends-append : (xs ys : List Cell) → sends (xs ++ ys) ≡ sends xs ++ sends ys
sends-append xs ys = ap join (map-append sent_by xs ys) ∙ join-append (map sent_by xs) (map sent_by ys)

pub sends-same : (xs ys : List Cell) → bares xs ≡ bares ys → sends xs ≡ sends ys
sends-same xs ys e = ap join (same-bare sent_by (λ x. refl) xs ys e)

pub sends-cpus : (xs : List Cell) → Cpus (owners xs) → sends xs ≡ []
sends-cpus [] a = refl
sends-cpus (x ∷ xs) a =
    ap (λ (t : Bool). cond t [] (take x.desc.length x.held) ++ sends xs) (cpu-test x.desc.owner a.0) ∙ sends-cpus xs a.1

module _ (n len : ℕ) (ds : List DmaDescriptor) (b : List ℕ) (s : Shape n len ds) where
  pub dma-sends : (k i : ℕ) → i < n → dma_data (record_in ds) b n k i ≡ sends (round (cell_in Out ds b) n k i)
  unfolding dma_data round
  dma-sends zero i h = refl
  dma-sends (suc k) i h =
      let d : DmaDescriptor = record_in ds i in
      ap (λ (l : List ℕ). cond (is_cpu d.owner) [] l ++ dma_data (record_in ds) b n k (after n i)) (sym (take-take d.length d.size (drop d.buffer b) (s.lengths i h)))
      ∙ ap (λ (l : List ℕ). sent_by (cell_in Out ds b i) ++ l) (dma-sends k (after n i) (after-lt n i h))

-- ---- the offset

-- "Transmit: offset is below size, and 0 unless that record is CPU-owned."
pub offset-out : (d : DmaDescriptor) (o : ℕ) → offset_ok Out d o ≡ true → (o < d.size) × ((o ≡ 0) ⊎ (d.owner ≡ Cpu))
offset-out d o h = (ltb-true o d.size (and_split (ltb o d.size) (eqb o 0 || is_cpu d.owner) h).0, go (or-out (eqb o 0) (is_cpu d.owner) (and_split (ltb o d.size) (eqb o 0 || is_cpu d.owner) h).1))
  where
    go : (eqb o 0 ≡ true) ⊎ (is_cpu d.owner ≡ true) → (o ≡ 0) ⊎ (d.owner ≡ Cpu)
    go (inl e) = inl (eqb-true o 0 e)
    go (inr e) = inr (test-cpu d.owner e)

into-cursor : (d : DmaDescriptor) (o : ℕ) → (o < d.size) × ((o ≡ 0) ⊎ (d.owner ≡ Cpu)) → (o ≡ 0) ⊎ ((d.owner ≡ Cpu) × (o < d.size))
into-cursor d o (h, inl e) = inl e
into-cursor d o (h, inr c) = inr (c, h)

-- ---- a stored ring, from its cursor

module _ (n len : ℕ) (ds : List DmaDescriptor) (b : List ℕ) (c : ℕ) (s : Stored n len ds b c) where
  abbrev seen_from : List Cell
  seen_from = view Out n ds b c

  into-view : (o : ℕ) (vs : List Cell) → seen_from ≡ vs → (o ≡ 0) ⊎ (((record_in ds c).owner ≡ Cpu) × (o < (record_in ds c).size)) → Into Out o vs
  into-view o [] v h = absurd (view-some Out n ds b c s.cursor v)
  into-view o (x ∷ vs) v h = rw (cursor-cell Out n ds b c s.cursor vs x v) h

  pub offset-into : (o : ℕ) → offset_ok Out (record_in ds c) o ≡ true → Into Out o seen_from
  offset-into o h = into-view o seen_from refl (into-cursor (record_in ds c) o (offset-out (record_in ds c) o h))

  -- a cell's bytes are as many as it counts for
  pub spans-cat : (p xs q : List Cell) → seen_from ≡ p ++ (xs ++ q) → spans Out xs ≡ length (cat xs)
  spans-cat p [] q v = refl
  spans-cat p (x ∷ xs) q v =
      simp length-append
      (omega (arith, exact Out n len ds b c s p (xs ++ q) x v, spans-cat (p ++ (x ∷ [])) xs q (v ∙ sym (append_assoc p (x ∷ []) (xs ++ q)))))

  -- what is pending is the front of the run
  pending-of : (o : ℕ) (vs : List Cell) → seen_from ≡ vs → Into Out o vs → take o (drop (record_in ds c).buffer b) ≡ take o (cat (cpu_run vs))
  pending-of o [] v h = absurd (view-some Out n ds b c s.cursor v)
  pending-of o (x ∷ vs) v (inl e) = rw e
  pending-of o (x ∷ vs) v (inr (k, l)) =
      let q : x ≡ cell_in Out ds b c = cursor-cell Out n ds b c s.cursor vs x v in
      let e : length x.held ≡ x.desc.size = exact Out n len ds b c s [] vs x v in
      sym
      (ap (λ (t : Bool). take o (cat (cond t (x ∷ cpu_run vs) []))) (cpu-test x.desc.owner k)
      ∙ take-append-le o x.held (cat (cpu_run vs)) (omega arith)
      ∙ ap (λ (y : Cell). take o y.held) q
      ∙ take-take o (record_in ds c).size (drop (record_in ds c).buffer b) (omega (arith, ap (λ (y : Cell). y.desc.size) q)))

  pub pending-run : (o : ℕ) → Into Out o seen_from → take o (drop (record_in ds c).buffer b) ≡ take o (cat (cpu_run seen_from))
  pending-run o h = pending-of o seen_from refl h

  -- once a record is queued, its bytes are its whole part
  pub sends-handed : (p xs q : List Cell) → seen_from ≡ p ++ (xs ++ q) → sends (map (hand_c Out b) xs) ≡ cat xs
  sends-handed p [] q v = refl
  sends-handed p (x ∷ xs) q v =
      let e : x ≡ cell_in Out ds b x.idx = (own Out n ds b c s.cursor p (xs ++ q) x v).1 in
      let d : DmaDescriptor = x.desc in
      ap (λ (l : List ℕ). l ++ sends (map (hand_c Out b) xs))
      (take-take d.size d.size (drop d.buffer b) (omega arith) ∙ sym (ap (λ (y : Cell). y.held) e ∙ ap (λ (y : Cell). take y.desc.size (drop y.desc.buffer b)) (sym e)))
      ∙ ap (λ (l : List ℕ). x.held ++ l) (sends-handed (p ++ (x ∷ [])) xs q (v ∙ sym (append_assoc p (x ∷ []) (xs ++ q))))

-- ---- a sound ring

pub stored_of : (r : Ring) (b : List ℕ) → Sound Out r (length b) → Stored r.count (length b) r.descriptors b r.idx
stored_of r b s = record { shape = s.shape; whole = refl; cursor = s.cursor }

module _ (r : Ring) (b : List ℕ) (s : Sound Out r (length b)) where
  -- the ring seen from its cursor
  abbrev pub seen : List Cell
  seen = view Out r.count r.descriptors b r.idx

  pub into : Into Out r.offset seen
  into = offset-into r.count (length b) r.descriptors b r.idx (stored_of r b s) r.offset s.offset

  pub queued-is : queued_in r b ≡ sends seen
  unfolding queued_in
  queued-is = dma-sends r.count (length b) r.descriptors b s.shape r.count r.idx s.cursor

  pub pending-is : pending_in r b ≡ take r.offset (cat (cpu_run seen))
  unfolding pending_in
  pending-is = pending-run r.count (length b) r.descriptors b r.idx (stored_of r b s) r.offset into

  pub standing-is : standing Out r b ≡ drop r.offset (cat (cpu_run seen))
  unfolding standing
  standing-is = ap (drop r.offset) (data-run Out r.descriptors b r.count r.count r.idx)

  pub available-is : available_in Out r ≡ spans Out (cpu_run seen) - r.offset
  unfolding available_in
  available-is = ap (λ (m : ℕ). m - r.offset) (bytes_run Out r.descriptors b r.count r.count r.idx)
