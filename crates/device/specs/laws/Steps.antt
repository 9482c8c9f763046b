-- Where a step finds the device, and what is then known of its record.
use Rattle.std.specs.Prelude.{ℕ, ◌+◌, ◌≤◌, ◌<◌, ◌≡◌, refl, Bool, true, false, cond, List, ltb, Ok, Err, Some, None, Option}
use Rattle.std.proofs.Common.{sym, ◌∙◌, ap, ltb-true}
use Rattle.descriptors.specs.Record.{most}
use Rattle.descriptors.specs.Cells.{are_records, record_at}
use Rattle.descriptors.specs.Ring.{Ring, ring_of, record_of, sound, judged}
use Rattle.descriptors.specs.laws.Tests.{not-both}
use Rattle.descriptors.specs.laws.Lifts.{record_is}
use Rattle.descriptors.specs.laws.Splits.{place-fits, size-most}
use Rattle.descriptors.specs.laws.Sound.{ready-split, facts, sound-split, split-records}
use Rattle.device.specs.Device.{stands_on, stand_of}
use Rattle.descriptors.specs.declared.record.TransferDirection.{TransferDirection}
use Rattle.descriptors.specs.declared.refusal.DmaBufError.{DmaBufError}
use Rattle.descriptors.specs.declared.refusal.DmaBufError.TheVariants.{BadState}
use Rattle.descriptors.specs.Refusal.{Answer}
use Rattle.descriptors.specs.declared.ring.Head.{Head}

-- what the judge's answer tells
pub stand-judged : (dir : TransferDirection) (r : Ring) (len : ℕ) (dev : Option ℕ) (d : Answer Unit) (u : Unit) (x : Answer ℕ) → d ≡ judged (sound dir r len) → d ≡ Ok u → x ≡ stands_on r.count dev
    → x ≡ stand_of dir r len dev
stand-judged dir r len dev d u x p q e = let s : sound dir r len ≡ true = ready-split (sound dir r len) d u p q in rw s e

refused-judged : (b : Bool) (d : Answer Unit) (e : DmaBufError) → d ≡ judged b → d ≡ Err e → b ≡ false
refused-judged true d e p q = not-both (let z : judged true ≡ Err e = sym p ∙ q in cc)
refused-judged false d e p q = refl

-- the refusal of an answer
error_in : Answer Unit → DmaBufError
error_in (Ok u) = BadState
error_in (Err e) = e

pub stand-refused : (dir : TransferDirection) (r : Ring) (len : ℕ) (dev : Option ℕ) (d : Answer Unit) (e : DmaBufError) → d ≡ judged (sound dir r len) → d ≡ Err e
    → ◌≡◌ {A = Answer ℕ} (Err e) (stand_of dir r len dev)
unfolding error_in
stand-refused dir r len dev d e p q =
    let s : sound dir r len ≡ false = refused-judged (sound dir r len) d e p q in
    let z : e ≡ BadState = ap error_in (sym q ∙ p ∙ ap judged s) in
    rw (s, z) refl

-- a device that was found on record i stands there, and the ring is sound
pub record Found (dir : TransferDirection) (r : Ring) (len : ℕ) (dev : Option ℕ) (i : ℕ) : Type 0 where
  pub sound-is : sound dir r len ≡ true
  pub below : i < r.count

pub found : (dir : TransferDirection) (r : Ring) (len : ℕ) (dev : Option ℕ) (i : ℕ) → stand_of dir r len dev ≡ Ok i → Found dir r len dev i
found dir r len dev i e = go (sound dir r len) refl e
  where
    on : (dev : Option ℕ) → stands_on r.count dev ≡ Ok i → i < r.count
    on None e = not-both (let z : stands_on r.count None ≡ Ok i = e in cc)
    on (Some j) e = at (ltb j r.count) refl e
      where
        at : (b : Bool) → ltb j r.count ≡ b → cond b (Ok j) (Err BadState) ≡ Ok i → i < r.count
        at true h e = let z : j ≡ i = cc in rw (← z) (ltb-true j r.count h)
        at false h e = not-both (cc)

    go : (b : Bool) → sound dir r len ≡ b → cond b (stands_on r.count dev) (Err BadState) ≡ Ok i → Found dir r len dev i
    go true h e = record { sound-is = h; below = on dev e }
    go false h e = not-both (cc)

-- the record's part of the buffer
pub part-fits : (dir : TransferDirection) (r : Ring) (len : ℕ) (dev : Option ℕ) (i : ℕ) → Found dir r len dev i → (record_of r i).buffer + (record_of r i).size ≤ len
part-fits dir r len dev i f =
    let s = (facts dir r len f.sound-is).split in
    rw (s.start i f.below, s.size i f.below) (place-fits r.count len i f.below)

pub part_small : (dir : TransferDirection) (r : Ring) (len : ℕ) (dev : Option ℕ) (i : ℕ) → Found dir r len dev i → (record_of r i).size ≤ most
part_small dir r len dev i f =
    let s = (facts dir r len f.sound-is).split in
    rw (s.size i f.below) (size-most r.count len i s.parts)

-- the words hold records, and show the one on which the device stands
pub words-held : (dir : TransferDirection) (st ws : List ℕ) (h : Head) (len : ℕ) (dev : Option ℕ) (i : ℕ) → stand_of dir (ring_of st ws h) len dev ≡ Ok i → are_records st ws ≡ true
words-held dir st ws h len dev i e = split-records st ws h len (sound-split dir (ring_of st ws h) len (found dir (ring_of st ws h) len dev i e).sound-is)

pub seen : (dir : TransferDirection) (st ws : List ℕ) (h : Head) (len : ℕ) (dev : Option ℕ) (i : ℕ) → stand_of dir (ring_of st ws h) len dev ≡ Ok i
    → record_of (ring_of st ws h) i ≡ record_at st ws i
seen dir st ws h len dev i e = record_is st ws (words-held dir st ws h len dev i e) i
