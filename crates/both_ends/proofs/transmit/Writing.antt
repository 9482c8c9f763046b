-- Bytes written behind what is pending, into the records that the CPU owns from the cursor on: what is queued and what is pending stays.
-- So for push, and for an offered part.
use Rattle.std.specs.Prelude.{◌≡◌, Bool, true, false, ◌⊎◌, take}
use Rattle.std.proofs.Math.Path.{refl, sym, ap, subst}
use Rattle.std.proofs.Common.{◌∙◌, inl, inr, arith, length-take, length-drop, take-take, drop-drop}
use Rattle.std.proofs.Math.Bool.{cond}
use mathlib.Core.List.{List, [], ◌∷◌, ◌++◌, append-nil}
use Prim.Native.Nat.{ℕ, zero, suc, ◌+◌, ◌-◌, ◌≤◌, ◌<◌}
use Rattle.std.proofs.Math.ListN.{length, drop}
use Rattle.std.proofs.Math.Seq.{paste, take-append_seam, drop-append_seam, drop-append-add, take-append-add}
use Rattle.std.proofs.lemmas.List.Edits.{drop-paste}
use Rattle.descriptors.specs.Record.{record_in, is_cpu}
use Rattle.descriptors.specs.Place.{after}
use Rattle.descriptors.specs.Split.{start_of}
use Rattle.descriptors.specs.Ring.{Ring, record_of}
use Rattle.descriptors.specs.Walk.{run_bytes, available_in, standing}
use Rattle.descriptors.specs.declared.record.DmaDescriptor.{DmaDescriptor}
use Rattle.descriptors.specs.declared.record.TransferDirection.TheVariants.{Out}
use Rattle.ring_order.specs.Places.{after-lt}
use Rattle.ring_order.specs.Geometry.{within}
use Rattle.ring_order.specs.Lists.{paste-here, paste-far}
use Rattle.ring_order.specs.Shape.{Laid, grounds, Sound}
use Rattle.ring_order.specs.Tests.{bool_cases}
use Rattle.ring_order.specs.View.{Cell, held_by, cell_in, round}
use Rattle.ring_order.specs.Queue.{cat, cpu_run, spans, bytes_run, exact}
use Rattle.tx_stream.specs.Transmit.{paste_round, write_at}
use Rattle.both_ends.specs.Demand3.{queued_in, pending_in}
use Rattle.both_ends.specs.transmit.Turned.{turned, turned-length, turned-paste}
use Rattle.both_ends.specs.transmit.Blocks.{cat-view, part_in}
use Rattle.both_ends.proofs.transmit.Bytes.{sends, offset-out, spans-cat, stored_of, seen, into, queued-is, pending-is, standing-is, available-is}
use Rattle.both_ends.proofs.transmit.Accepting.{into-run}

-- ---- two parts of a list, cut at the same place

cut-first : (h h' t t' : List ℕ) → length h ≡ length h' → h ++ t ≡ h' ++ t' → h ≡ h'
cut-first h h' t t' l e = sym (take-append_seam h t) ∙ ap (take (length h)) e ∙ ap (λ (m : ℕ). take m (h' ++ t')) l ∙ take-append_seam h' t'

cut-second : (h h' t t' : List ℕ) → length h ≡ length h' → h ++ t ≡ h' ++ t' → t ≡ t'
cut-second h h' t t' l e = sym (drop-append_seam h t) ∙ ap (drop (length h)) e ∙ ap (λ (m : ℕ). drop m (h' ++ t')) l ∙ drop-append_seam h' t'

-- ---- the same records over two buffers

module _ (n len : ℕ) (ds : List DmaDescriptor) (l : Laid n len ds) (b b' : List ℕ) (w : length b ≡ len) (w' : length b' ≡ len) where
  part_length : (c : List ℕ) → length c ≡ len → (i : ℕ) → i < n → length (held_by Out c (record_in ds i)) ≡ (record_in ds i).size
  part_length c e i h = simp (length-take, length-drop) (omega (arith, l.start i h, l.room i h, within n len (grounds n len ds l) i h))

  -- all bytes are the same: so is each cell
  same-cells : (k i : ℕ) → i < n → cat (round (cell_in Out ds b) n k i) ≡ cat (round (cell_in Out ds b') n k i) → round (cell_in Out ds b) n k i ≡ round (cell_in Out ds b') n k i
  unfolding round
  same-cells zero i h e = refl
  same-cells (suc k) i h e =
      let z : length (held_by Out b (record_in ds i)) ≡ length (held_by Out b' (record_in ds i)) = part_length b w i h ∙ sym (part_length b' w' i h) in
      let p = cut-first (held_by Out b (record_in ds i)) (held_by Out b' (record_in ds i)) _ _ z e in
      let q = cut-second (held_by Out b (record_in ds i)) (held_by Out b' (record_in ds i)) _ _ z e in
      λ j. record { idx = i; desc = record_in ds i; held = p j } ∷ same-cells k (after n i) (after-lt n i h) q j

  cpu-step : (k i : ℕ) → i < n → is_cpu (record_in ds i).owner ≡ true
      → drop (cond (is_cpu (record_in ds i).owner) ((record_in ds i).size + run_bytes Out (record_in ds) n k (after n i)) 0) (held_by Out b (record_in ds i) ++ cat (round (cell_in Out ds b) n k (after n i)))
      ≡ drop (cond (is_cpu (record_in ds i).owner) ((record_in ds i).size + run_bytes Out (record_in ds) n k (after n i)) 0) (held_by Out b' (record_in ds i) ++ cat (round (cell_in Out ds b') n k (after n i)))
      → drop (run_bytes Out (record_in ds) n k (after n i)) (cat (round (cell_in Out ds b) n k (after n i))) ≡ drop (run_bytes Out (record_in ds) n k (after n i)) (cat (round (cell_in Out ds b') n k (after n i)))
  cpu-step k i h c e =
      let u : ℕ = run_bytes Out (record_in ds) n k (after n i) in
      let d : DmaDescriptor = record_in ds i in
      let T : List ℕ = cat (round (cell_in Out ds b) n k (after n i)) in
      let T' : List ℕ = cat (round (cell_in Out ds b') n k (after n i)) in
      let e₁ : drop (d.size + u) (held_by Out b d ++ T) ≡ drop (d.size + u) (held_by Out b' d ++ T') =
      subst (λ (t : Bool). drop (cond t (d.size + u) 0) (held_by Out b d ++ T) ≡ drop (cond t (d.size + u) 0) (held_by Out b' d ++ T')) c e in
      sym (drop-append-add (held_by Out b d) T u)
      ∙ ap (λ (m : ℕ). drop (m + u) (held_by Out b d ++ T)) (part_length b w i h)
      ∙ e₁
      ∙ ap (λ (m : ℕ). drop (m + u) (held_by Out b' d ++ T')) (sym (part_length b' w' i h))
      ∙ drop-append-add (held_by Out b' d) T' u

  sends_step : (k i : ℕ) → i < n
      → (drop (run_bytes Out (record_in ds) n k (after n i)) (cat (round (cell_in Out ds b) n k (after n i))) ≡ drop (run_bytes Out (record_in ds) n k (after n i)) (cat (round (cell_in Out ds b') n k (after n i)))
      → sends (round (cell_in Out ds b) n k (after n i)) ≡ sends (round (cell_in Out ds b') n k (after n i)))
      → drop (run_bytes Out (record_in ds) n (suc k) i) (cat (round (cell_in Out ds b) n (suc k) i)) ≡ drop (run_bytes Out (record_in ds) n (suc k) i) (cat (round (cell_in Out ds b') n (suc k) i))
      → (is_cpu (record_in ds i).owner ≡ true) ⊎ (is_cpu (record_in ds i).owner ≡ false) → sends (round (cell_in Out ds b) n (suc k) i) ≡ sends (round (cell_in Out ds b') n (suc k) i)
  unfolding round run_bytes
  sends_step k i h ih e (inl c) =
      let d : DmaDescriptor = record_in ds i in
      subst (λ (t : Bool). cond t [] (take d.length (held_by Out b d)) ++ sends (round (cell_in Out ds b) n k (after n i)) ≡ cond t [] (take d.length (held_by Out b' d)) ++ sends (round (cell_in Out ds b') n k (after n i)))
      (sym c) (ih (cpu-step k i h c e))
  sends_step k i h ih e (inr c) =
      let u : ℕ = (record_in ds i).size + run_bytes Out (record_in ds) n k (after n i) in
      ap sends
      (same-cells (suc k) i h
      (subst (λ (t : Bool). drop (cond t u 0) (cat (round (cell_in Out ds b) n (suc k) i)) ≡ drop (cond t u 0) (cat (round (cell_in Out ds b') n (suc k) i))) c e))

  -- behind the run all bytes are the same: so is what the DMA-owned records send
  same-sends : (k i : ℕ) → i < n → drop (run_bytes Out (record_in ds) n k i) (cat (round (cell_in Out ds b) n k i)) ≡ drop (run_bytes Out (record_in ds) n k i) (cat (round (cell_in Out ds b') n k i))
      → sends (round (cell_in Out ds b) n k i) ≡ sends (round (cell_in Out ds b') n k i)
  same-sends zero i h e = unfold round in refl
  same-sends (suc k) i h e = sends_step k i h (same-sends k (after n i) (after-lt n i h)) e (bool_cases (is_cpu (record_in ds i).owner))

-- ---- the run is the front of all records

run-less : (xs : List Cell) → spans Out (cpu_run xs) ≤ spans Out xs
run-less [] = omega arith
run-less (x ∷ xs) = go (is_cpu x.desc.owner) (run-less xs)
  where
    go : (t : Bool) → spans Out (cpu_run xs) ≤ spans Out xs → spans Out (cond t (x ∷ cpu_run xs) []) ≤ x.desc.size + spans Out xs
    go true h = omega arith
    go false h = omega arith

-- the bytes of the run, of cells that have as many bytes as they count for
run-front : (xs : List Cell) → ((p q : List Cell) (x : Cell) → xs ≡ p ++ x ∷ q → length x.held ≡ x.desc.size) → cat (cpu_run xs) ≡ take (spans Out (cpu_run xs)) (cat xs)
run-front [] e = refl
run-front (x ∷ xs) e = go (is_cpu x.desc.owner) (run-front xs (λ p q y v. e (x ∷ p) q y (ap (λ (l : List Cell). x ∷ l) v))) (e [] xs x refl)
  where
    go : (t : Bool) → cat (cpu_run xs) ≡ take (spans Out (cpu_run xs)) (cat xs) → length x.held ≡ x.desc.size
        → cat (cond t (x ∷ cpu_run xs) []) ≡ take (spans Out (cond t (x ∷ cpu_run xs) [])) (x.held ++ cat xs)
    go true h z =
        ap (λ (l : List ℕ). x.held ++ l) h
        ∙ sym (take-append-add x.held (cat xs) (spans Out (cpu_run xs)))
        ∙ ap (λ (m : ℕ). take (m + spans Out (cpu_run xs)) (x.held ++ cat xs)) z
    go false h z = refl

-- ---- where the next byte goes, and how far the run reaches

module _ (r : Ring) (b : List ℕ) (s : Sound Out r (length b)) where
  abbrev from : ℕ
  from = start_of r.count (length b) r.idx

  abbrev cats : List ℕ
  cats = cat (seen r b s)

  cats-are : cats ≡ turned b from
  cats-are = cat-view r.count (length b) r.descriptors b s.shape.laid r.idx s.cursor refl

  pub write-at : write_at r ≡ from + r.offset
  write-at = ap (λ (x : ℕ). x + r.offset) (s.shape.laid.start r.idx s.cursor)

  pub write-in : from + r.offset < length b
  write-in =
      omega (arith, (offset-out (record_of r r.idx) r.offset s.offset).0, s.shape.laid.room r.idx s.cursor, within r.count (length b) (grounds r.count (length b) r.descriptors s.shape.laid) r.idx s.cursor)

  -- the bytes of the run, as the rules count them
  abbrev runs : ℕ
  runs = run_bytes Out (record_in r.descriptors) r.count r.count r.idx

  run-count : spans Out (cpu_run (seen r b s)) ≡ runs
  run-count = sym (bytes_run Out r.descriptors b r.count r.count r.idx)

  pub run-available : r.offset + available_in Out r ≡ runs
  run-available = omega (arith, available-is r b s, into-run r.offset (seen r b s) (into r b s), run-count)

  run_room : runs ≤ length cats
  run_room =
      omega (
        arith,
        run-less (seen r b s),
        run-count,
        spans-cat r.count (length b) r.descriptors b r.idx (stored_of r b s) [] (seen r b s) [] (sym (append-nil (seen r b s))),
      )

  pub run_in : runs ≤ length b
  run_in = omega (arith, run_room, ap length cats-are ∙ turned-length b from)

  run-cats : cat (cpu_run (seen r b s)) ≡ take runs cats
  run-cats =
      run-front (seen r b s) (λ p q x v. exact Out r.count (length b) r.descriptors b r.idx (stored_of r b s) p q x v) ∙ ap (λ (m : ℕ). take m cats) run-count

  -- u written from q bytes behind the cursor on, round the buffer's end, no further than what is available
  pub turned-written : (q : ℕ) (u : List ℕ) → from + (r.offset + q) ≤ length b → q + length u ≤ available_in Out r
      → turned (paste_round b (write_at r + q) u) from ≡ paste (turned b from) (r.offset + q) u (length u)
  turned-written q u h l =
      let e : write_at r + q ≡ from + (r.offset + q) = omega (arith, write-at) in
      ap (λ (x : ℕ). turned (paste_round b x u) from) e ∙ turned-paste b from (r.offset + q) u h (omega (arith, run-available, run_in))

-- ---- the same ring over b and over b', in which the bytes u stand p bytes behind where the cursor's record starts

module _ (r : Ring) (b b' u : List ℕ) (s : Sound Out r (length b)) (e : length b' ≡ length b) (p : ℕ) (hp : r.offset ≤ p) (hu : p + length u ≤ r.offset + available_in Out r)
    (z : turned b' (start_of r.count (length b) r.idx) ≡ paste (turned b (start_of r.count (length b) r.idx)) p u (length u)) where
  there : Sound Out r (length b')
  there = rw e s

  cats-then : cats r b' there ≡ paste (cats r b s) p u (length u)
  cats-then =
      cat-view r.count (length b) r.descriptors b' s.shape.laid r.idx s.cursor e
      ∙ z
      ∙ ap (λ (l : List ℕ). paste l p u (length u)) (sym (cats-are r b s))

  reach : p + length u ≤ runs r b s
  reach = omega (arith, run-available r b s)

  fits : p + length u ≤ length (cats r b s)
  fits = omega (arith, reach, run_room r b s)

  -- WHAT IS QUEUED stays
  pub written-queued : queued_in r b' ≡ queued_in r b
  written-queued =
      let t : ℕ = runs r b s in
      let m : ℕ = p + length u in
      let d : m + (t - m) ≡ t = omega (arith, reach) in
      let k : drop m (paste (cats r b s) p u (length u)) ≡ drop m (cats r b s) = drop-paste (cats r b s) p u (length u) (omega (arith, fits)) (omega arith) in
      queued-is r b' there
      ∙ sym (same-sends r.count (length b) r.descriptors s.shape.laid b b' refl e r.count r.idx s.cursor
      (sym (ap (drop t) cats-then
      ∙ ap (λ (x : ℕ). drop x (paste (cats r b s) p u (length u))) (sym d)
      ∙ sym (drop-drop (t - m) m (paste (cats r b s) p u (length u)))
      ∙ ap (drop (t - m)) k
      ∙ drop-drop (t - m) m (cats r b s)
      ∙ ap (λ (x : ℕ). drop x (cats r b s)) d)))
      ∙ sym (queued-is r b s)

  -- WHAT IS PENDING stays
  pub written-pending : pending_in r b' ≡ pending_in r b
  written-pending =
      let o : ℕ = r.offset in
      let h : o ≤ runs r b s = omega (arith, reach) in
      pending-is r b' there
      ∙ ap (take o) (run-cats r b' there)
      ∙ take-take o (runs r b s) (cats r b' there) h
      ∙ ap (take o) cats-then
      ∙ paste-far (cats r b s) p u 0 o fits (inl (omega arith))
      ∙ sym (take-take o (runs r b s) (cats r b s) h)
      ∙ ap (take o) (sym (run-cats r b s))
      ∙ sym (pending-is r b s)

  -- what was written at the cursor stands there
  pub written_stands : p ≡ r.offset → take (length u) (standing Out r b') ≡ u
  written_stands q =
      ap (take (length u)) (standing-is r b' there ∙ ap (drop r.offset) (run-cats r b' there))
      ∙ part_in (cats r b' there) r.offset (length u) (runs r b s) (omega (arith, reach))
      ∙ ap (λ (l : List ℕ). take (length u) (drop r.offset l)) cats-then
      ∙ ap (λ (x : ℕ). take (length u) (drop x (paste (cats r b s) p u (length u)))) (sym q)
      ∙ paste-here (cats r b s) p u fits
