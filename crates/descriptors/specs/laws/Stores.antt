-- The transitions on the cells are those of the records.
use Rattle.std.specs.Prelude.{◌≡◌, ℕ, zero, suc, ◌+◌, ◌/◌, ◌<◌, ◌≤◌, Bool, true, false, cond, List, ◌==◌, refl, Some, None}
use Rattle.std.proofs.Common.{sym, ◌∙◌, ap, arith, lt-ltb, le-leb}
use Rattle.descriptors.specs.Record.{limit, is_in, update, up_to, with_owner, with_eof, with_length, with_next, with_size, with_buffer, given, queued, following, linked, handed}
use Rattle.descriptors.specs.Place.{before, turns}
use Rattle.descriptors.specs.Cells.{cell, are_records, records_of, numbered, put_size, put_length, put_eof, put_owner, put_next}
use Rattle.descriptors.specs.Split.{start_of, size_of, length_as, laid_out}
use Rattle.descriptors.specs.Stores.{handed_cells, hand_cells, hand_all, link_cells, link_all, lay_start, lay_size, lay_cells}
use Rattle.descriptors.specs.Ring.{linked_all}
use Rattle.descriptors.specs.Walk.{hand_over}
use Rattle.descriptors.specs.laws.Tests.{not-both}
use Rattle.descriptors.specs.laws.Updates.{update_twice, each, two-passes}
use Rattle.descriptors.specs.laws.Lifts.{Lifts, record_is, records-length, size-lifts, length-lifts, eof-lifts, owner-lifts, next-lifts, start-changes, lifts-then, lifts-as, lifts-up, lifts-turns}
use Rattle.descriptors.specs.declared.record.Owner.TheVariants.{Dma}
use Rattle.descriptors.specs.declared.record.DmaDescriptor.{DmaDescriptor}
use Rattle.descriptors.specs.declared.record.TransferDirection.{TransferDirection}
use Rattle.descriptors.specs.declared.record.TransferDirection.TheVariants.{In, Out}

-- two stores to one record are one change of it
pub lifts-more : (st : List ℕ) (F G : List ℕ → List ℕ) (i : ℕ) (f g : DmaDescriptor → DmaDescriptor) → Lifts st F (λ ds. update ds i f) → Lifts st G (λ ds. update ds i g)
    → Lifts st (λ ws. G (F ws)) (λ ds. update ds i (λ d. g (f d)))
lifts-more st F G i f g p q =
    lifts-as st (λ ws. G (F ws)) (λ ds. update (update ds i f) i g) (λ ds. update ds i (λ d. g (f d))) (λ ds. update_twice ds i f g)
    (lifts-then st F G (λ ds. update ds i f) (λ ds. update ds i g) p q)

-- ---- a record handed to the device

handed-in : (st : List ℕ) (i : ℕ) → Lifts st (handed_cells In i) (λ ds. update ds i given)
handed-in st i =
    lifts-more st (λ ws. put_length (put_eof (put_owner ws i Dma) i false) i 0) (λ ws. put_next ws i None) i (λ d. with_length 0 (with_eof false (with_owner Dma d))) (with_next None)
    (lifts-more st (λ ws. put_eof (put_owner ws i Dma) i false) (λ ws. put_length ws i 0) i (λ d. with_eof false (with_owner Dma d)) (with_length 0)
    (lifts-more st (λ ws. put_owner ws i Dma) (λ ws. put_eof ws i false) i (with_owner Dma) (with_eof false) (owner-lifts st i Dma) (eof-lifts st i false)) (length-lifts st i 0))
    (next-lifts st i None refl)

-- the length is the size that the record shows
full-length : (st : List ℕ) (i : ℕ) → Lifts st (λ ws. put_length (put_owner ws i Dma) i (cell 0 ws i)) (λ ds. update ds i (λ d. with_length d.size (with_owner Dma d)))
full-length st i ws a =
    let b = lifts-more st (λ ws. put_owner ws i Dma) (λ vs. put_length vs i (cell 0 ws i)) i (with_owner Dma) (with_length (cell 0 ws i)) (owner-lifts st i Dma) (length-lifts st i (cell 0 ws i)) ws a in
    (b.0, b.1 ∙ ap (λ (k : ℕ). update (records_of st ws) i (λ d. with_length k (with_owner Dma d))) (sym (ap (λ (d : DmaDescriptor). d.size) (record_is st ws a i))))

handed_out : (st : List ℕ) (i : ℕ) → Lifts st (handed_cells Out i) (λ ds. update ds i queued)
handed_out st i =
    lifts-more st (λ ws. put_eof (put_length (put_owner ws i Dma) i (cell 0 ws i)) i true) (λ ws. put_next ws i None) i (λ d. with_eof true (with_length d.size (with_owner Dma d))) (with_next None)
    (lifts-more st (λ ws. put_length (put_owner ws i Dma) i (cell 0 ws i)) (λ ws. put_eof ws i true) i (λ d. with_length d.size (with_owner Dma d)) (with_eof true) (full-length st i) (eof-lifts st i true))
    (next-lifts st i None refl)

pub handed-lifts : (dir : TransferDirection) (st : List ℕ) (i : ℕ) → Lifts st (handed_cells dir i) (λ ds. update ds i (handed dir))
handed-lifts In st i = handed-in st i
handed-lifts Out st i = handed_out st i

small-number : (i : ℕ) → i < 65535 → numbered (Some i) ≡ true
small-number i h = lt-ltb i 65535 h

pub hand-lifts : (dir : TransferDirection) (st : List ℕ) (n i : ℕ) → i < 65535 → Lifts st (hand_cells dir n i) (hand_over dir n i)
unfolding hand_cells hand_over
hand-lifts dir st n i h =
    lifts-then st (handed_cells dir i) (λ ws. put_next ws (before n i) (Some i)) (λ ds. update ds i (handed dir)) (λ ds. update ds (before n i) (with_next (Some i)))
    (handed-lifts dir st i) (next-lifts st (before n i) (Some i) (small-number i h))

-- g records handed over, from record i on
pub run-lifts : (dir : TransferDirection) (st : List ℕ) (n g i : ℕ) → n ≤ limit → i < n → Lifts st (turns (hand_cells dir n) n g i) (turns (hand_over dir n) n g i)
run-lifts dir st n g i m h = lifts-turns st (hand_cells dir n) (hand_over dir n) n (λ j l. hand-lifts dir st n j (omega arith)) g i h

-- ---- links

following-small : (n i : ℕ) → i < n → n ≤ limit → numbered (following n i) ≡ true
following-small n i h m = go (i + 1 == n)
  where
    go : (b : Bool) → numbered (cond b None (Some (i + 1))) ≡ true
    go true = refl
    go false = lt-ltb (i + 1) 65535 (omega arith)

pub link-lifts : (dir : TransferDirection) (st : List ℕ) (n i : ℕ) → i < n → n ≤ limit → Lifts st (link_cells dir n i) (λ ds. update ds i (linked dir n i))
unfolding link_cells
link-lifts In st n i h m =
    lifts-more st (λ ws. put_eof (put_owner (put_next ws i (following n i)) i Dma) i false) (λ ws. put_length ws i 0) i (λ d. with_eof false (with_owner Dma (with_next (following n i) d))) (with_length 0)
    (lifts-more st (λ ws. put_owner (put_next ws i (following n i)) i Dma) (λ ws. put_eof ws i false) i (λ d. with_owner Dma (with_next (following n i) d)) (with_eof false)
    (lifts-more st (λ ws. put_next ws i (following n i)) (λ ws. put_owner ws i Dma) i (with_next (following n i)) (with_owner Dma) (next-lifts st i (following n i) (following-small n i h m)) (owner-lifts st i Dma))
    (eof-lifts st i false))
    (length-lifts st i 0)
link-lifts Out st n i h m =
    lifts-more st (λ ws. put_next ws i (following n i)) (λ ws. put_owner ws i Dma) i (with_next (following n i)) (with_owner Dma) (next-lifts st i (following n i) (following-small n i h m)) (owner-lifts st i Dma)

pub all-linked : (dir : TransferDirection) (st : List ℕ) (n : ℕ) → n ≤ limit → Lifts st (up_to (link_cells dir n) n) (linked_all dir n)
unfolding linked_all
all-linked dir st n m = lifts-up st (link_cells dir n) (λ i s. update s i (linked dir n i)) n (λ i h. link-lifts dir st n i h m)

-- ---- the split laid out: the starts in one pass, the other cells in another

starts-laid : (st ws : List ℕ) (n len k : ℕ) → are_records st ws ≡ true
    → (are_records (up_to (lay_start n len) k st) ws ≡ true) × (records_of (up_to (lay_start n len) k st) ws ≡ each (λ i. with_buffer (start_of n len i)) k (records_of st ws))
unfolding up_to lay_start
starts-laid st ws n len zero a = (a, refl)
starts-laid st ws n len (suc k) a =
    let b = starts-laid st ws n len k a in
    let d = start-changes (up_to (lay_start n len) k st) ws k (start_of n len k) b.0 in
    (d.0, d.1 ∙ ap (λ (ds : List DmaDescriptor). update ds k (with_buffer (start_of n len k))) b.1)

lay-lifts : (dir : TransferDirection) (st : List ℕ) (n len i : ℕ) → Lifts st (lay_cells dir n len i) (λ ds. update ds i (λ d. length_as dir n len (with_size (size_of n len i) d)))
unfolding lay_cells
lay-lifts In st n len i = size-lifts st i (size_of n len i)
lay-lifts Out st n len i =
    lifts-more st (λ ws. put_size ws i (size_of n len i)) (λ ws. put_length ws i (len / n)) i (with_size (size_of n len i)) (with_length (len / n)) (size-lifts st i (size_of n len i)) (length-lifts st i (len / n))

pub all_laid : (dir : TransferDirection) (st ws : List ℕ) (n len : ℕ) → are_records st ws ≡ true → n ≤ limit
    → (are_records (up_to (lay_start n len) n st) (up_to (lay_cells dir n len) n ws) ≡ true)
    × (records_of (up_to (lay_start n len) n st) (up_to (lay_cells dir n len) n ws) ≡ laid_out dir n len (records_of st ws))
unfolding laid_out
all_laid dir st ws n len a m =
    let st' : List ℕ = up_to (lay_start n len) n st in
    let b = starts-laid st ws n len n a in
    let c = lifts-up st' (lay_cells dir n len) (λ i s. update s i (λ d. length_as dir n len (with_size (size_of n len i) d))) n (λ i l. lay-lifts dir st' n len i) ws b.0 in (
      c.0,
      c.1 ∙ ap (each (λ i d. length_as dir n len (with_size (size_of n len i) d)) n) b.1
          ∙ two-passes (λ i. with_buffer (start_of n len i)) (λ i d. length_as dir n len (with_size (size_of n len i) d)) n (records_of st ws) (omega (arith, records-length st ws a)),
    )

pub lay-in : (dir : TransferDirection) (i size chunk : ℕ) (ws : List ℕ) → is_in dir ≡ true → put_size ws i size ≡ lay_size dir i size chunk ws
lay-in In i size chunk ws h = refl
lay-in Out i size chunk ws h = not-both h

pub lay-out : (dir : TransferDirection) (i size chunk : ℕ) (ws : List ℕ) → is_in dir ≡ false → put_length (put_size ws i size) i chunk ≡ lay_size dir i size chunk ws
lay-out In i size chunk ws h = not-both (sym h)
lay-out Out i size chunk ws h = refl

-- no more records than a ring can have: all are handed over, all are linked
pub hand_in : (dir : TransferDirection) (n g i : ℕ) (ws : List ℕ) → g ≤ limit → hand_all dir n g i ws ≡ turns (hand_cells dir n) n g i ws
unfolding hand_all
hand_in dir n g i ws h = rw (le-leb g limit h)

pub link-in : (dir : TransferDirection) (n : ℕ) (ws : List ℕ) → n ≤ limit → link_all dir n ws ≡ up_to (link_cells dir n) n ws
unfolding link_all
link-in dir n ws h = rw (le-leb n limit h)
