-- DOCUMENT 01'S SENTENCES ON MODULE 3, over plain lists; and what holds of every sound receive ring, whatever its owners and links.
use Rattle.std.specs.Prelude.{ℕ, ◌+◌, ◌-◌, ◌≤◌, ◌<◌, min, ◌≡◌, refl, Bool, true, false, ◌⊎◌, List, ◌++◌, length, take, drop, Ok}
use Rattle.std.proofs.Common.{sym, ◌∙◌, ap, arith, drop_of_length-le, take_all}
use Rattle.std.proofs.Math.Decide.{dec_le}
use Rattle.descriptors.specs.Record.{is_cpu}
use Rattle.descriptors.specs.Ring.{Ring, record_of, sound}
use Rattle.descriptors.specs.Walk.{available_in, standing, advanced, planned}
use Rattle.descriptors.specs.declared.record.TransferDirection.TheVariants.{In}
use Rattle.rx_stream.specs.Receive.{available_of, peek_of, peek_from, peek_eof_of, consume_of, idle, pop_of, over, popped_over}
use Rattle.rx_stream.specs.laws.Answers.{available-done, peek-done, peek-eof-done, consume-done, pop-idle, pop-done, popped-idle, popped-done}
use Rattle.ring_order.specs.Shape.{Sound, sound-of}
use Rattle.ring_order.specs.Rows.{total, turned, cpu_owned, available-row}
use Rattle.sound_ring.specs.Counts.{count_below}
use Rattle.sound_ring.specs.Laws.{went_over, as_many, takes-min, stands-less, as-many-went, device-or-more, still-sound}
use Rattle.rx_meaning.specs.Words.{one_piece, last_eof}
use Rattle.rx_meaning.specs.Pieces.{piece_bytes, piece-eof}

-- the bytes put over the front of a destination
over-min : (s d : List ℕ) → over s d ≡ take (min (length d) (length s)) s ++ drop (min (length d) (length s)) d
over-min s d = go (dec_le (length d) (length s))
  where
    go : Dec (length d ≤ length s) → over s d ≡ take (min (length d) (length s)) s ++ drop (min (length d) (length s)) d
    go (yes h) =
        let z : min (length d) (length s) ≡ length d = omega arith in
        rw (z, drop_of_length-le d {i = length s} h, drop_of_length-le d {i = length d} (omega arith)) refl
    go (no h) =
        let z : min (length d) (length s) ≡ length s = omega arith in
        rw (z, take_all (length d) s (omega arith), take_all (length s) s (omega arith)) refl

module _ (r : Ring) (len : ℕ) (s : sound In r len ≡ true) where
  facts : Sound In r len
  facts = sound-of In r len s

  enough : r.count ≤ length r.descriptors
  enough = facts.shape.laid.enough

  -- "`available_bytes`: lengths from the cursor round the ring up to the first DMA-owned record, less offset"
  pub available-bytes : available_of r len ≡ Ok (total In (cpu_owned (turned r.descriptors r.count r.idx)) - r.offset)
  available-bytes = available-done r len s ∙ ap Ok (available-row In r enough facts.cursor)

  -- "`peek`: .. the bytes from the cursor on, through records while each is full, ending with the first short one, before a DMA-owned
  -- one, or at record n-1"
  pub peek : (until_eof : Bool) (b : List ℕ) → length b ≡ len
      → peek_of until_eof r b
      ≡ take (total In (one_piece until_eof (drop r.idx (take r.count r.descriptors))) - r.offset) (drop ((record_of r r.idx).buffer + r.offset) b)
  peek u b w =
      peek-done r b u (ap (λ (m : ℕ). sound In r m) w ∙ s)
      ∙ ap (λ (k : ℕ). take (k - r.offset) (drop (peek_from r) b)) (piece_bytes r.descriptors r.count enough u (r.count - r.idx) r.idx (omega (arith, facts.cursor)))

  -- "says whether it did": the mark of the last record that it covers
  pub peek-eof : peek_eof_of r len ≡ Ok (last_eof (one_piece true (drop r.idx (take r.count r.descriptors))))
  peek-eof =
      peek-eof-done r len s ∙ ap Ok (piece-eof r.descriptors r.count enough (r.count - r.idx) r.idx (omega (arith, facts.cursor)))

  module _ (k : ℕ) where
    taking : (consume_of r len k).ring ≡ advanced In r k
    taking = ap (λ o. o.ring) (consume-done r len k s)

    -- "`consume(k)` takes min(k, available)." "It reports the bytes taken and the records gone back": those whose owner went to DMA
    pub consume-reports : (consume_of r len k).answer ≡ Ok (record { taken = min k (available_in In r); back = count_below (went_over r (consume_of r len k).ring) r.count })
    consume-reports =
        ap (λ o. o.answer) (consume-done r len k s)
        ∙ ap (λ (t : ℕ). Ok (record { taken = t; back = (planned In r k).back })) (takes-min In r len s k)
        ∙ ap (λ (z1 : ℕ). Ok (record { taken = min k (available_in In r); back = z1 })) (as-many-went In r len s k ∙ ap (λ (q : Ring). count_below (went_over r q) r.count) (sym taking))

    -- unread after consume(k) is unread less its first min(k, available) bytes
    pub consume-unread : (b : List ℕ) → length b ≡ len → standing In (consume_of r len k).ring b ≡ drop (min k (available_in In r)) (standing In r b)
    consume-unread b w = ap (λ (q : Ring). standing In q b) taking ∙ stands-less In r len s k b w

    pub consume-sound : sound In (consume_of r len k).ring len ≡ true
    consume-sound = ap (λ (q : Ring). sound In q len) taking ∙ still-sound In r len s k

    -- after a consume the cursor's record is DMA-owned or holds an unread byte
    pub consume-live : let q = (consume_of r len k).ring in (is_cpu (record_of q q.idx).owner ≡ false) ⊎ (q.offset < (record_of q q.idx).length)
    consume-live = rw taking (device-or-more In r len s k)

    -- "`pop(k)`: 0 for k = 0, and 0 while the cursor's record is CPU-owned with length 0"
    pub pop-nothing : idle r k ≡ true → ((pop_of r len k).answer ≡ Ok 0) × ((pop_of r len k).ring ≡ r)
    pop-nothing i = let e = pop-idle r len k s i in (ap (λ o. o.answer) e, ap (λ o. o.ring) e)

    -- "otherwise it takes, as consume does, the next min(k, available) bytes"
    pub pop-takes : idle r k ≡ false → ((pop_of r len k).answer ≡ Ok (min k (available_in In r))) × ((pop_of r len k).ring ≡ (consume_of r len k).ring)
    pop-takes i =
        let e = pop-done r len k s i in
        (ap (λ o. o.answer) e ∙ ap Ok (takes-min In r len s k), ap (λ o. o.ring) e ∙ sym taking)

  -- what pop writes is those bytes: "the destination's rest is untouched"
  pub pop-writes : (b dst : List ℕ) → length b ≡ len → idle r (length dst) ≡ false
      → popped_over r b dst ≡ take (min (length dst) (available_in In r)) (standing In r b) ++ drop (min (length dst) (available_in In r)) dst
  pop-writes b dst w i =
      popped-done r b dst (ap (λ (m : ℕ). sound In r m) w ∙ s) i
      ∙ over-min (standing In r b) dst
      ∙ ap (λ (m : ℕ). take (min (length dst) m) (standing In r b) ++ drop (min (length dst) m) dst) (as_many In r len s b w)

  pub pop-writes-nothing : (b dst : List ℕ) → length b ≡ len → idle r (length dst) ≡ true → popped_over r b dst ≡ dst
  pop-writes-nothing b dst w i = popped-idle r b dst (ap (λ (m : ℕ). sound In r m) w ∙ s) i
