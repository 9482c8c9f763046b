-- What the walk and the stores on the words are to the ring, where it is sound.
use Rattle.std.specs.Prelude.{◌≡◌, ℕ, ◌+◌, ◌-◌, ◌%◌, ◌^◌, min, ◌<◌, ◌≤◌, Bool, true, false, cond, List, [], nat_le, refl, Ok, Err}
use Rattle.std.proofs.Common.{sym, ◌∙◌, arith, le-leb}
use Rattle.std.proofs.Math.Path.{ap}
use Rattle.descriptors.specs.Record.{limit, record_in}
use Rattle.descriptors.specs.Place.{turns}
use Rattle.descriptors.specs.Cells.{are_records, records_of, record_at, start_at, cells_now}
use Rattle.descriptors.specs.Ring.{Outcome, ring_of, head_of, refused, sound}
use Rattle.descriptors.specs.Walk.{available_in, hand_over, planned, moved_to, advanced}
use Rattle.descriptors.specs.laws.Lifts.{record_is}
use Rattle.descriptors.specs.laws.Words.{cells_are, cells_same}
use Rattle.descriptors.specs.laws.Stores.{run-lifts, hand_in}
use Rattle.descriptors.specs.laws.Sound.{facts, sound-split, split-records}
use Rattle.descriptors.specs.laws.Walks.{run-alike, walk-alike, walk-in, cells-alike, planned-few}
use Rattle.descriptors.specs.declared.record.DmaDescriptor.{DmaDescriptor}
use Rattle.descriptors.specs.declared.record.TransferDirection.TheVariants.{Out}
use Rattle.descriptors.specs.declared.refusal.DmaBufError.TheVariants.{TooMuch}
use Rattle.descriptors.specs.declared.ring.Head.{Head}
use Rattle.descriptors.specs.declared.walk.Moved.{Moved}
use Rattle.descriptors.specs.Refusal.{Answer}
use Rattle.tx_stream.specs.Transmit.{accepted_up_to, write_at, offered}
use Rattle.tx_stream.specs.laws.Room.{place_in}
use Rattle.descriptors.specs.Moves.{moved_in, room_in}
use Rattle.tx_stream.specs.Faces.{filled_cells, filled_head}

module _ (st ws : List ℕ) (h : Head) (len : ℕ) (s : sound Out (ring_of st ws h) len ≡ true) where
  pub held : are_records st ws ≡ true
  held = split-records st ws h len (sound-split Out (ring_of st ws h) len s)

  many : h.count ≤ limit
  many = (facts Out (ring_of st ws h) len s).split.parts.many

  pub room-is : room_in Out ws h ≡ available_in Out (ring_of st ws h)
  unfolding room_in available_in
  room-is =
      rw (le-leb h.count limit many)
      (ap (λ (k : ℕ). k - h.descriptor_offset)
      (run-alike Out (record_at [] ws) (record_in (records_of st ws)) h.count (cells-alike Out st ws held) h.count h.descriptor_idx))

  pub place_is : start_at st h.descriptor_idx + h.descriptor_offset ≡ write_at (ring_of st ws h)
  place_is = sym (ap (λ (d : DmaDescriptor). d.buffer + h.descriptor_offset) (record_is st ws held h.descriptor_idx))

  pub place-within : start_at st h.descriptor_idx + h.descriptor_offset < len
  place-within = omega (arith, place_is, place_in (ring_of st ws h) len s)

  -- the part on offer from the place where the next byte goes
  pub part-is : (p : ℕ) → p ≡ start_at st h.descriptor_idx + h.descriptor_offset → min (room_in Out ws h) (len - p) ≡ offered (ring_of st ws h) len
  part-is p e = rw (e, place_is, room-is) refl

  walked-is : (k : ℕ) → moved_in Out ws h k ≡ planned Out (ring_of st ws h) k
  unfolding moved_in planned
  walked-is k = walk-in Out (record_at [] ws) h.count _ many ∙ walk-alike Out (record_at [] ws) (record_in (records_of st ws)) h.count (cells-alike Out st ws held) h.count _

  pub filled-head : (k : ℕ) → filled_head ws h k ≡ head_of (advanced Out (ring_of st ws h) k)
  unfolding filled_head moved_to
  filled-head k =
      ap (λ (m : Moved).
      record {
        count = h.count;
        descriptor_idx = m.at;
        descriptor_offset = m.offset;
        tally = (h.tally + (k - m.rest)) % 2 ^ 32;
        pre_filled = h.pre_filled;
      })
      (walked-is k)

  pub filled-cells : (k : ℕ) → filled_cells ws h k ≡ cells_now st ws (advanced Out (ring_of st ws h) k).descriptors
  unfolding filled_cells moved_to
  filled-cells k =
      let i : ℕ = h.descriptor_idx in
      let b = run-lifts Out st h.count (moved_in Out ws h k).back i many (facts Out (ring_of st ws h) len s).within ws held in
      let few : (moved_in Out ws h k).back ≤ limit = omega (arith, ap (λ (m : Moved). m.back) (walked-is k), planned-few Out (ring_of st ws h) k many) in
      hand_in Out h.count (moved_in Out ws h k).back i ws few
      ∙ cells_are st ws _ _ held b.0
      (b.1 ∙ ap (λ (m : Moved). turns (hand_over Out h.count) h.count m.back i (records_of st ws)) (walked-is k))

  -- what is accepted up to a bound
  abbrev taken : Bool → ℕ → Outcome (Answer ℕ)
  taken t k = cond t (record { ring = advanced Out (ring_of st ws h) k; answer = Ok k }) (refused (ring_of st ws h) (Err TooMuch))

  pub up_to : (b bound k : ℕ) → b ≡ bound
      → (cond (nat_le k b) (filled_cells ws h k) ws ≡ cells_now st ws (accepted_up_to bound (ring_of st ws h) len k).ring.descriptors)
      × (cond (nat_le k b) (filled_head ws h k) h ≡ head_of (accepted_up_to bound (ring_of st ws h) len k).ring)
      × (◌≡◌ {A = Answer ℕ} (cond (nat_le k b) (Ok k) (Err TooMuch)) (accepted_up_to bound (ring_of st ws h) len k).answer)
  up_to b bound k e = rw (e, s) (go (nat_le k bound))
    where
      go : (t : Bool)
          → (cond t (filled_cells ws h k) ws ≡ cells_now st ws (taken t k).ring.descriptors)
          × (cond t (filled_head ws h k) h ≡ head_of (taken t k).ring)
          × (◌≡◌ {A = Answer ℕ} (cond t (Ok k) (Err TooMuch)) (taken t k).answer)
      go true = (filled-cells k, filled-head k, refl)
      go false = (cells_same st ws, refl, refl)
