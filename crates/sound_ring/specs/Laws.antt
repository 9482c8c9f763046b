-- THE LAWS OF A CALL ON EVERY SOUND RING, whatever its owners and links: k bytes taken (receive) or accepted (transmit).
use Rattle.std.specs.Prelude.{ℕ, ◌<◌, min, ◌≡◌, Bool, true, false, not, ◌&&◌, ◌⊎◌, List, length, drop, replicate}
use Rattle.std.proofs.Common.{sym, ◌∙◌, ap}
use Rattle.std.proofs.lemmas.List.{length-replicate}
use Rattle.descriptors.specs.Record.{is_cpu, span_of}
use Rattle.descriptors.specs.Ring.{Ring, record_of, sound}
use Rattle.descriptors.specs.Walk.{available_in, standing, planned, advanced, taken_in}
use Rattle.descriptors.specs.declared.record.TransferDirection.{TransferDirection}
use Rattle.sound_ring.specs.Counts.{count_below}
use Rattle.sound_ring.specs.Calls as calls

-- record j went from the CPU to the device between r and r'
abbrev pub went_over : Ring → Ring → ℕ → Bool
went_over r r' j = is_cpu (record_of r j).owner && not (is_cpu (record_of r' j).owner)

module _ (dir : TransferDirection) (r : Ring) (len : ℕ) (s : sound dir r len ≡ true) where
  -- AS MANY BYTES STAND THERE AS ARE AVAILABLE
  pub as_many : (b : List ℕ) → length b ≡ len → length (standing dir r b) ≡ available_in dir r
  as_many = calls.standing-length dir r len s

  module _ (k : ℕ) where
    -- "takes min(k, available)"
    pub takes-min : taken_in dir r k ≡ min k (available_in dir r)
    takes-min = calls.takes dir r len s (replicate len 0) (length-replicate len 0) k

    -- WHAT STANDS THERE AFTERWARDS is what stood there, less its first min(k, available) bytes; the buffer is the same one
    pub stands-less : (b : List ℕ) → length b ≡ len → standing dir (advanced dir r k) b ≡ drop (min k (available_in dir r)) (standing dir r b)
    stands-less b w = calls.stands dir r len s b w k ∙ ap (λ (j : ℕ). drop j (standing dir r b)) (calls.takes dir r len s b w k)

    -- THE RECORDS REPORTED are as many as those whose owner went to the device
    pub as-many-went : (planned dir r k).back ≡ count_below (went_over r (advanced dir r k)) r.count
    as-many-went = sym (calls.counted dir r len s (replicate len 0) (length-replicate len 0) k)

    -- THE CURSOR'S RECORD is then the device's, or it holds a byte (receive), has room for one (transmit), behind the cursor
    pub device-or-more : (is_cpu (record_of (advanced dir r k) (advanced dir r k).idx).owner ≡ false)
        ⊎ ((advanced dir r k).offset < span_of dir (record_of (advanced dir r k) (advanced dir r k).idx))
    device-or-more = calls.live dir r len s (replicate len 0) (length-replicate len 0) k

    -- THE RING IS STILL SOUND
    pub still-sound : sound dir (advanced dir r k) len ≡ true
    still-sound = calls.kept-sound dir r len s (replicate len 0) (length-replicate len 0) k
