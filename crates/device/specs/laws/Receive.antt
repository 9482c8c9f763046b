-- The three ways of a receive step.
use Rattle.std.specs.Prelude.{ℕ, ◌+◌, ◌≤◌, ◌≡◌, Bool, List, ltb, length, Ok, Err, Option}
use Rattle.std.proofs.Math.Path.{refl, sym, ap}
use Rattle.std.proofs.Common.{◌∙◌, arith, leb-true}
use Rattle.std.proofs.Math.Bool.{true, false}
use Rattle.std.proofs.Math.Seq.{paste}
use Rattle.descriptors.specs.Record.{most, update, closed, with_owner, with_length, with_eof}
use Rattle.descriptors.specs.Cells.{cell, start_at, next_of, records_of, record_at, put_owner, put_eof, put_length}
use Rattle.descriptors.specs.Ring.{Ring, ring_of, record_of, with_records}
use Rattle.descriptors.specs.laws.Tests.{and_split}
use Rattle.descriptors.specs.laws.Lifts.{Lifts, length-lifts, eof-lifts, owner-lifts}
use Rattle.descriptors.specs.laws.Stores.{lifts-more}
use Rattle.descriptors.specs.laws.Words.{cells_are, cells_same}
use Rattle.device.specs.Device.{Stepped, stand_of, fits, receive_by, receive_of, receive_into_by, receive_into}
use Rattle.device.specs.Faces.{close_cells, ReceivedIn}
use Rattle.device.specs.laws.Steps.{found, part-fits, part_small, words-held, seen}
use Rattle.descriptors.specs.declared.record.Owner.TheVariants.{Cpu}
use Rattle.descriptors.specs.declared.record.DmaDescriptor.{DmaDescriptor}
use Rattle.descriptors.specs.declared.record.TransferDirection.TheVariants.{In}
use Rattle.descriptors.specs.declared.refusal.DmaBufError.{DmaBufError}
use Rattle.descriptors.specs.declared.refusal.DmaBufError.TheVariants.{BadStep}
use Rattle.descriptors.specs.declared.ring.Head.{Head}
use Rattle.descriptors.specs.Refusal.{Answer}

-- a record closed, by its three stores
pub close-stores : (i k : ℕ) (eof : Bool) (ws a b c : List ℕ) → a ≡ put_length ws i k → b ≡ put_eof a i eof → c ≡ put_owner b i Cpu → c ≡ close_cells i k eof ws
close-stores i k eof ws a b c p q r = r ∙ ap (λ (vs : List ℕ). put_owner vs i Cpu) (q ∙ ap (λ (vs : List ℕ). put_eof vs i eof) p)

pub close-lifts : (st : List ℕ) (i k : ℕ) (eof : Bool) → Lifts st (close_cells i k eof) (λ ds. update ds i (closed k eof))
close-lifts st i k eof =
    lifts-more st (λ ws. put_eof (put_length ws i k) i eof) (λ ws. put_owner ws i Cpu) i (λ d. with_eof eof (with_length k d)) (with_owner Cpu)
    (lifts-more st (λ ws. put_length ws i k) (λ ws. put_eof ws i eof) i (with_length k) (with_eof eof) (length-lifts st i k) (eof-lifts st i eof)) (owner-lifts st i Cpu)

module _ (st ws : List ℕ) (h : Head) (dev : Option ℕ) (bytes bs : List ℕ) (eof : Bool) where
  -- an outcome that leaves the words and the bytes as they are
  kept : (dev' : Option ℕ) (an : Answer Unit) (o : Stepped (Answer Unit)) → receive_of (ring_of st ws h) dev (length bytes) (length bs) eof ≡ o → o.ring.descriptors ≡ records_of st ws
      → receive_into (ring_of st ws h) dev bytes bs ≡ bytes → dev' ≡ o.device → an ≡ o.answer → ReceivedIn st ws h dev bytes bs eof ws bytes dev' an
  kept dev' an o e d b x a =
      record {
        cells = rw (e, d) (cells_same st ws);
        buffer = sym b;
        device = rw e x;
        answer = rw e a;
      }

  pub receive-refused : (x : Answer ℕ) (e : DmaBufError) → x ≡ stand_of In (ring_of st ws h) (length bytes) dev → x ≡ Err e
      → ReceivedIn st ws h dev bytes bs eof ws bytes dev (Err e)
  unfolding receive_of receive_into
  receive-refused x e ex p =
      let s : stand_of In (ring_of st ws h) (length bytes) dev ≡ Err e = sym ex ∙ p in
      kept dev (Err e) (record { ring = ring_of st ws h; device = dev; answer = Err e })
      (ap (receive_by (ring_of st ws h) dev (length bs) eof) s) refl (ap (receive_into_by (ring_of st ws h) bytes bs) s) refl refl

  module _ (i : ℕ) (p : stand_of In (ring_of st ws h) (length bytes) dev ≡ Ok i) where
    shown : record_of (ring_of st ws h) i ≡ record_at st ws i
    shown = seen In st ws h (length bytes) dev i p

    pub receive-unfit : fits (length bs) (record_at st ws i) ≡ false → ReceivedIn st ws h dev bytes bs eof ws bytes dev (Err BadStep)
    unfolding receive_of receive_into
    receive-unfit f =
        let x : fits (length bs) (record_of (ring_of st ws h) i) ≡ false = ap (fits (length bs)) shown ∙ f in
        kept dev (Err BadStep) (record { ring = ring_of st ws h; device = dev; answer = Err BadStep })
        (ap (receive_by (ring_of st ws h) dev (length bs) eof) p ∙ rw x) refl (ap (receive_into_by (ring_of st ws h) bytes bs) p ∙ rw x) refl refl

    module _ (f : fits (length bs) (record_at st ws i) ≡ true) where
      fits-size : length bs ≤ cell 0 ws i
      fits-size = leb-true _ _ (and_split (ltb 0 (length bs)) _ f).1

      -- the bytes lie inside the buffer, and their number in a length
      pub receive_inside : start_at st i + length bs ≤ length bytes
      receive_inside = omega (arith, fits-size, rw shown at (part-fits In (ring_of st ws h) (length bytes) dev i (found In (ring_of st ws h) (length bytes) dev i p)))

      pub receive-small : length bs ≤ most
      receive-small = omega (arith, fits-size, rw shown at (part_small In (ring_of st ws h) (length bytes) dev i (found In (ring_of st ws h) (length bytes) dev i p)))

      pub receive-done : (x : Option ℕ) (at : ℕ) (ws' bytes' : List ℕ) → x ≡ next_of (cell 2 ws i) → at ≡ start_at st i → bytes' ≡ paste bytes at bs (length bs) → ws' ≡ close_cells i (length bs) eof ws
          → ReceivedIn st ws h dev bytes bs eof ws' bytes' x (Ok tt)
      unfolding receive_of receive_into
      receive-done x at ws' bytes' ex ea eb ew =
          let r : Ring = ring_of st ws h in
          let g : fits (length bs) (record_of r i) ≡ true = ap (fits (length bs)) shown ∙ f in
          let o : receive_by r dev (length bs) eof (stand_of In r (length bytes) dev)
          ≡ record { ring = with_records r (update (records_of st ws) i (closed (length bs) eof)); device = (record_of r i).next; answer = Ok tt } =
          ap (receive_by r dev (length bs) eof) p ∙ rw g in
          let w = words-held In st ws h (length bytes) dev i p in
          let c = close-lifts st i (length bs) eof ws w in
          record {
            cells = rw (ew, o) (cells_are st ws (close_cells i (length bs) eof ws) (update (records_of st ws) i (closed (length bs) eof)) w c.0 c.1);
            buffer = eb ∙ sym (ap (receive_into_by r bytes bs) p ∙ (rw g) ∙ ap (λ (k : ℕ). paste bytes k bs (length bs)) (ap (λ (d : DmaDescriptor). d.buffer) shown ∙ sym ea));
            device = rw o (ex ∙ sym (ap (λ (d : DmaDescriptor). d.next) shown));
            answer = rw o;
          }
