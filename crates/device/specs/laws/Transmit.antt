-- The three ways of a transmit step.
use Rattle.std.specs.Prelude.{ℕ, ◌+◌, ◌≤◌, ◌<◌, ◌≡◌, List, ◌++◌, length, take, drop, Ok, Err, Option}
use Rattle.std.proofs.Math.Path.{refl, sym, ap}
use Rattle.std.proofs.Common.{◌∙◌, arith, le-leb}
use Rattle.std.proofs.Math.Bool.{true, false}
use Rattle.std.proofs.lemmas.Bool.{lt-leb}
use Rattle.std.proofs.Math.Dec.{leb}
use Rattle.descriptors.specs.Record.{update, sent}
use Rattle.descriptors.specs.Cells.{cell, start_at, next_of, records_of, record_at, put_owner}
use Rattle.descriptors.specs.Ring.{Ring, ring_of, record_of, with_records}
use Rattle.descriptors.specs.laws.Lifts.{owner-lifts}
use Rattle.descriptors.specs.laws.Sound.{facts}
use Rattle.descriptors.specs.laws.Words.{cells_are, cells_same}
use Rattle.device.specs.Device.{Stepped, stand_of, transmit_by, transmit_of, transmit_over_by, transmit_over}
use Rattle.device.specs.Faces.{SentIn}
use Rattle.device.specs.laws.Steps.{found, part-fits, words-held, seen}
use Rattle.descriptors.specs.declared.record.Owner.TheVariants.{Cpu}
use Rattle.descriptors.specs.declared.record.DmaDescriptor.{DmaDescriptor}
use Rattle.descriptors.specs.declared.record.TransferDirection.TheVariants.{Out}
use Rattle.descriptors.specs.declared.refusal.DmaBufError.{DmaBufError}
use Rattle.descriptors.specs.declared.refusal.DmaBufError.TheVariants.{BadState}
use Rattle.descriptors.specs.declared.ring.Head.{Head}
use Rattle.descriptors.specs.Refusal.{Answer}

module _ (st ws : List ℕ) (h : Head) (dev : Option ℕ) (bytes out : List ℕ) where
  -- an outcome that leaves the words and the output as they are
  kept : (dev' : Option ℕ) (an : Answer ℕ) (o : Stepped (Answer ℕ)) → transmit_of (ring_of st ws h) dev (length bytes) (length out) ≡ o → o.ring.descriptors ≡ records_of st ws
      → transmit_over (ring_of st ws h) dev bytes out ≡ out → dev' ≡ o.device → an ≡ o.answer → SentIn st ws h dev bytes out ws out dev' an
  kept dev' an o e d b x a =
      record {
        cells = rw (e, d) (cells_same st ws);
        output = sym b;
        device = rw e x;
        answer = rw e a;
      }

  pub transmit-refused : (x : Answer ℕ) (e : DmaBufError) → x ≡ stand_of Out (ring_of st ws h) (length bytes) dev → x ≡ Err e
      → SentIn st ws h dev bytes out ws out dev (Err e)
  unfolding transmit_of transmit_over
  transmit-refused x e ex p =
      let s : stand_of Out (ring_of st ws h) (length bytes) dev ≡ Err e = sym ex ∙ p in
      kept dev (Err e) (record { ring = ring_of st ws h; device = dev; answer = Err e })
      (ap (transmit_by (ring_of st ws h) dev (length out)) s) refl (ap (transmit_over_by (ring_of st ws h) bytes out) s) refl refl

  module _ (i : ℕ) (p : stand_of Out (ring_of st ws h) (length bytes) dev ≡ Ok i) (k : ℕ) (ek : k ≡ cell 1 ws i) where
    shown : record_of (ring_of st ws h) i ≡ record_at st ws i
    shown = seen Out st ws h (length bytes) dev i p

    stands : (record_of (ring_of st ws h) i).length ≡ k
    stands = ap (λ (d : DmaDescriptor). d.length) shown ∙ sym ek

    -- the record's bytes lie inside the buffer
    pub transmit-inside : start_at st i + k ≤ length bytes
    transmit-inside =
        let f = found Out (ring_of st ws h) (length bytes) dev i p in
        let g = (facts Out (ring_of st ws h) (length bytes) f.sound-is).fits i f.below in
        omega (arith, ek, rw shown at g, rw shown at (part-fits Out (ring_of st ws h) (length bytes) dev i f))

    pub transmit-short : length out < k → SentIn st ws h dev bytes out ws out dev (Err BadState)
    unfolding transmit_of transmit_over
    transmit-short l =
        let x : leb (record_of (ring_of st ws h) i).length (length out) ≡ false = rw stands (lt-leb k (length out) l) in
        kept dev (Err BadState) (record { ring = ring_of st ws h; device = dev; answer = Err BadState })
        (ap (transmit_by (ring_of st ws h) dev (length out)) p ∙ rw x) refl (ap (transmit_over_by (ring_of st ws h) bytes out) p ∙ rw x) refl refl

    pub transmit-done : k ≤ length out → (x : Option ℕ) (at : ℕ) (ws' out' : List ℕ) → x ≡ next_of (cell 2 ws i) → at ≡ start_at st i → out' ≡ take k (drop at bytes) ++ drop k out → ws' ≡ put_owner ws i Cpu
        → SentIn st ws h dev bytes out ws' out' x (Ok k)
    unfolding transmit_of transmit_over
    transmit-done l x at ws' out' ex ea eo ew =
        let r : Ring = ring_of st ws h in
        let g : leb (record_of r i).length (length out) ≡ true = rw stands (le-leb k (length out) l) in
        let o : transmit_by r dev (length out) (stand_of Out r (length bytes) dev)
        ≡ record { ring = with_records r (update (records_of st ws) i sent); device = (record_of r i).next; answer = Ok (record_of r i).length } =
        ap (transmit_by r dev (length out)) p ∙ rw g in
        let w = words-held Out st ws h (length bytes) dev i p in
        let c = owner-lifts st i Cpu ws w in
        record {
          cells = rw (ew, o) (cells_are st ws (put_owner ws i Cpu) (update (records_of st ws) i sent) w c.0 c.1);
          output = eo ∙ sym (ap (transmit_over_by r bytes out) p ∙ rw (g, stands, ap (λ (d : DmaDescriptor). d.buffer) shown ∙ sym ea));
          device = rw o (ex ∙ sym (ap (λ (d : DmaDescriptor). d.next) shown));
          answer = rw (o, stands);
        }
