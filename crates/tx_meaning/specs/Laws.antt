-- The laws of transmit's calls, by the definitions that their contracts cite, on EVERY sound ring, whatever its owners.
use Rattle.std.specs.Prelude.{◌≡◌, refl, true, List, ◌++◌, ℕ, ◌+◌, ◌%◌, ◌^◌, ◌≤◌, ◌<◌, min, length, take, drop, Ok, None}
use Rattle.std.proofs.Common.{sym, ◌∙◌, ap, subst, arith, le-leb, length-take-le}
use Rattle.std.proofs.Math.Seq.{paste}
use Rattle.descriptors.specs.Record.{with_next}
use Rattle.descriptors.specs.Ring.{Ring, Outcome, record_of, sound}
use Rattle.descriptors.specs.Walk.{available_in, standing, advanced}
use Rattle.descriptors.specs.declared.record.Owner.TheVariants.{Cpu}
use Rattle.descriptors.specs.declared.record.TransferDirection.TheVariants.{Out}
use Rattle.ring_order.specs.Shape.{Sound, sound-of, of-sound}
use Rattle.tx_stream.specs.Transmit.{write_at, offered, offer_of, push_of, push_into, accepted_up_to, advance_of, commit_of}
use Rattle.both_ends.specs.Demand3.{queued_in, pending_in}
use Rattle.both_ends.specs.transmit.Turned.{turned}
use Rattle.both_ends.proofs.transmit.Accepting.{advanced-sound, advanced-tally, advanced-outgoing, advanced-waits}
use Rattle.sound_ring.specs.Laws.{as_many}
use Rattle.descriptors.specs.Refusal.{Answer}
use Rattle.both_ends.proofs.transmit.Calls.{Kept, accepted-up-to, offer-length, offer-kept, push-is, push-sound, push-outgoing, push-elsewhere, taken-length}

-- a call that answered k, and the ring r' and buffer b' that it left of r and b: the bytes `new` were accepted
pub record Accepted (r : Ring) (b : List ℕ) (o : Outcome (Answer ℕ)) (b' new : List ℕ) : Type 0 where
  pub answer : o.answer ≡ Ok (length new)
  -- what goes out afterwards is what went out before, followed by them
  pub outgoing : queued_in o.ring b' ++ pending_in o.ring b' ≡ (queued_in r b ++ pending_in r b) ++ new
  -- the ring stays sound
  pub kept : sound Out o.ring (length b') ≡ true
  -- "a partly filled one waits as CPU": only its link may have changed
  pub waits : 0 < o.ring.offset
      → ((record_of r o.ring.idx).owner ≡ Cpu) × (with_next None (record_of o.ring o.ring.idx) ≡ with_next None (record_of r o.ring.idx))
  -- "which goes round at 4,294,967,296"
  pub tally : o.ring.tally ≡ (r.tally + length new) % 2 ^ 32

module _ (r : Ring) (b : List ℕ) (h : sound Out r (length b) ≡ true) where
  s : Sound Out r (length b)
  s = sound-of Out r (length b) h

  up_to : (bound k : ℕ) → k ≤ bound → k ≤ available_in Out r → Accepted r b (accepted_up_to bound r (length b) k) b (take k (standing Out r b))
  up_to bound k l m =
      let e : length (take k (standing Out r b)) ≡ k = length-take-le k (standing Out r b) (omega (arith, as_many Out r (length b) h b refl)) in
      subst (λ (o : Outcome (Answer ℕ)). Accepted r b o b (take k (standing Out r b))) (sym (accepted-up-to r b s bound k true (le-leb k bound l))) record {
        answer = ap Ok (sym e);
        outgoing = advanced-outgoing r b s k m;
        kept = of-sound Out (advanced Out r k) (length b) (advanced-sound r b s k m);
        waits = advanced-waits r b s k m;
        tally = advanced-tally r b s k m ∙ ap (λ (x : ℕ). (r.tally + x) % 2 ^ 32) (sym e);
      }

  -- "Advance and commit accept the bytes then standing there."
  pub advance-law : (k : ℕ) → k ≤ available_in Out r → Accepted r b (advance_of r (length b) k) b (take k (standing Out r b))
  unfolding advance_of
  advance-law k l = up_to (available_in Out r) k l l

  pub commit-law : (k : ℕ) → k ≤ length (offer_of r b) → Accepted r b (commit_of r (length b) k) b (take k (standing Out r b))
  unfolding commit_of
  commit-law k l = up_to (offered r (length b)) k (omega (arith, offer-length r b s)) (omega (arith, offer-length r b s))

  -- "`push` accepts min(data, available)"
  pub push-law : (bs : List ℕ) → Accepted r b (push_of r (length b) (length bs)) (push_into r b bs) (take (min (length bs) (available_in Out r)) bs)
  push-law bs =
      let k : ℕ = min (length bs) (available_in Out r) in
      let l : k ≤ available_in Out r = omega arith in
      let p : Sound Out r (length (push_into r b bs)) = push-sound r b s bs in
      let e : length (take k bs) ≡ k = taken-length r b s bs in
      subst (λ (o : Outcome (Answer ℕ)). Accepted r b o (push_into r b bs) (take k bs)) (sym (push-is r b s bs)) record {
        answer = ap Ok (sym e);
        outgoing = push-outgoing r b s bs;
        kept = of-sound Out (advanced Out r k) (length (push_into r b bs)) (advanced-sound r (push_into r b bs) p k l);
        waits = advanced-waits r (push_into r b bs) p k l;
        tally = advanced-tally r (push_into r b bs) p k l ∙ ap (λ (x : ℕ). (r.tally + x) % 2 ^ 32) (sym e);
      }

  -- no byte elsewhere changes: round the buffer from the cursor on, the bytes accepted stand first, and the others are as they were
  pub push-only : (bs : List ℕ) → turned (push_into r b bs) (write_at r) ≡ take (min (length bs) (available_in Out r)) bs ++ drop (min (length bs) (available_in Out r)) (turned b (write_at r))
  push-only bs = push-elsewhere r b s bs

  -- whatever is written into the part on offer, what is queued and what is pending stays
  pub offer-law : (p : ℕ) (u : List ℕ) → p + length u ≤ length (offer_of r b) → Kept r b (paste b (write_at r + p) u (length u))
  offer-law p u l = offer-kept r b s p u l
