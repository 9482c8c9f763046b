-- The part that peek hands back lies in the buffer.
use Rattle.std.specs.Prelude.{◌≡◌, ℕ, zero, suc, ◌+◌, ◌-◌, ◌<◌, ◌≤◌, Bool, true, false, cond, ◌||◌, List, [], nat_le, nat_lt, refl}
use Rattle.std.proofs.Common.{sym, ◌∙◌, ap, arith, ltb-true, ltb-false, le-leb}
use Rattle.descriptors.specs.Record.{limit, record_in, is_cpu}
use Rattle.descriptors.specs.Cells.{records_of, record_at, start_at}
use Rattle.descriptors.specs.Ring.{Ring, ring_of, record_of, sound}
use Rattle.descriptors.specs.laws.Lifts.{record_is}
use Rattle.descriptors.specs.laws.Sound.{Facts, offset-least, offset-dma}
use Rattle.descriptors.specs.declared.record.DmaDescriptor.{DmaDescriptor}
use Rattle.descriptors.specs.declared.record.TransferDirection.TheVariants.{In}
use Rattle.rx_stream.specs.Receive.{ends_with, flat_bytes, flat_eof}
use Rattle.rx_stream.specs.laws.Flats.{flat-none, flat-stop, flat-ends, flat-go, flat-least, flat-like, eof-like, cells-like}
use Rattle.rx_stream.specs.laws.Layout.{Layout, layout}
use Rattle.rx_stream.specs.laws.Takes.{known, held}
use Rattle.descriptors.specs.declared.ring.Head.{Head}

-- a piece goes on past full records only
goes-full : (a b : Bool) → (a || b) ≡ false → a ≡ false
goes-full true b h = h
goes-full false b h = refl

module _ (u : Bool) (f : ℕ → DmaDescriptor) (n len : ℕ) (lay : Layout f n len) where
  pub flat-within : (k i : ℕ) → i < n → i + k ≤ n → (f i).buffer + flat_bytes u f k i ≤ len
  flat-within zero i h l = omega (arith, flat-none u f i, lay.within i h)
  flat-within (suc k) i h l = go (is_cpu (f i).owner) (ends_with u (f i)) (nat_lt (i + 1) n) refl refl refl (λ p. flat-within k (i + 1) p (omega arith))
    where
      go : (a e t : Bool) → is_cpu (f i).owner ≡ a → ends_with u (f i) ≡ e → nat_lt (i + 1) n ≡ t
          → (i + 1 < n → (f (i + 1)).buffer + flat_bytes u f k (i + 1) ≤ len) → (f i).buffer + flat_bytes u f (suc k) i ≤ len
      go false e t p q s ih = omega (arith, flat-stop u f (suc k) i p, lay.within i h)
      go true true t p q s ih = omega (arith, flat-ends u f (suc k) i (omega arith) p q, lay.within i h, lay.fits i h)
      go true false true p q s ih =
          let m : suc k - 1 ≡ k = omega arith in
          let x = ltb-true (i + 1) n s in
          omega (
            arith,
            rw m at (flat-go u f (suc k) i (omega arith) p q),
            ih x,
            lay.joined i x,
            lay.fits i h,
            ltb-false (f i).length (f i).size (goes-full (nat_lt (f i).length (f i).size) _ q),
          )
      go true false false p q s ih =
          let m : suc k - 1 ≡ k = omega arith in
          let z : k ≡ 0 = omega (arith, ltb-false (i + 1) n s) in
          omega (
            arith,
            rw m at (flat-go u f (suc k) i (omega arith) p q),
            ap (λ (j : ℕ). flat_bytes u f j (i + 1)) z,
            flat-none u f (i + 1),
            lay.within i h,
            lay.fits i h,
          )

-- from the cursor, which is not past the part's end, to an end within
pub record Part (u : Bool) (r : Ring) (len : ℕ) : Type 0 where
  pub forward : r.offset ≤ flat_bytes u (record_in r.descriptors) (r.count - r.idx) r.idx
  pub inside : (record_of r r.idx).buffer + flat_bytes u (record_in r.descriptors) (r.count - r.idx) r.idx ≤ len

pub part : (u : Bool) (r : Ring) (len : ℕ) → Facts In r len → Part u r len
part u r len s =
    record {
      forward = go (is_cpu (record_of r r.idx).owner) refl;
      inside = flat-within u (record_in r.descriptors) r.count len (layout In r len s) (r.count - r.idx) r.idx s.within (omega (arith, s.within));
    }
  where
    go : (a : Bool) → is_cpu (record_of r r.idx).owner ≡ a → r.offset ≤ flat_bytes u (record_in r.descriptors) (r.count - r.idx) r.idx
    go true e = omega (arith, offset-least In (record_of r r.idx) r.offset s.offset, flat-least u (record_in r.descriptors) (r.count - r.idx) r.idx (omega (arith, s.within)) e)
    go false e = omega (arith, offset-dma In (record_of r r.idx) r.offset s.offset e)

-- what the code reads of the words: the part's first place, the bytes in one piece from the cursor's record on, and the mark behind them
module _ (st ws : List ℕ) (h : Head) (len : ℕ) (s : sound In (ring_of st ws h) len ≡ true) where
  pub record Read (u : Bool) (start bytes : ℕ) : Type 0 where
    pub starts : start ≡ (record_of (ring_of st ws h) h.descriptor_idx).buffer
    pub flats : bytes ≡ flat_bytes u (record_in (records_of st ws)) (h.count - h.descriptor_idx) h.descriptor_idx
    pub forward : h.descriptor_offset ≤ bytes
    pub inside : start + bytes ≤ len

  pub part-read : (u : Bool) {start bytes : ℕ} → start ≡ start_at st h.descriptor_idx
      → bytes ≡ cond (nat_le h.count limit) (flat_bytes u (record_at [] ws) (h.count - h.descriptor_idx) h.descriptor_idx) 0 → Read u start bytes
  part-read u {start = start} {bytes = bytes} p q =
      let k = known st ws h len s in
      let w = held st ws h len s in
      let starts : start ≡ (record_of (ring_of st ws h) h.descriptor_idx).buffer = p ∙ sym (ap (λ (d : DmaDescriptor). d.buffer) (record_is st ws w h.descriptor_idx)) in
      let flats : bytes ≡ flat_bytes u (record_in (records_of st ws)) (h.count - h.descriptor_idx) h.descriptor_idx =
      q
      ∙ rw (le-leb h.count limit k.split.parts.many)
      (flat-like (record_at [] ws) (record_in (records_of st ws)) (cells-like st ws w) u (h.count - h.descriptor_idx) h.descriptor_idx) in
      let f = part u (ring_of st ws h) len k in
      record { starts = starts; flats = flats; forward = omega (arith, flats, f.forward); inside = omega (arith, starts, flats, f.inside) }

  pub eof-read : {ends : Bool} → ends ≡ cond (nat_le h.count limit) (flat_eof (record_at [] ws) (h.count - h.descriptor_idx) h.descriptor_idx) false
      → ends ≡ flat_eof (record_in (records_of st ws)) (h.count - h.descriptor_idx) h.descriptor_idx
  eof-read e =
      e
      ∙ rw (le-leb h.count limit (known st ws h len s).split.parts.many)
      (eof-like (record_at [] ws) (record_in (records_of st ws)) (cells-like st ws (held st ws h len s)) (h.count - h.descriptor_idx) h.descriptor_idx)

pub part_length : (s f o : ℕ) → s + f - (s + o) ≡ f - o
part_length s f o = omega arith
