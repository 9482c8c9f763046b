-- The laws of push, advance, commit and the offered part, on every sound ring, whatever its owners.
use Rattle.std.specs.Prelude.{◌≡◌, Bool, true, List, [], ◌++◌, ℕ, ◌+◌, ◌-◌, ◌≤◌, min, leb, take, drop, Ok, Err}
use Rattle.std.proofs.Common.{sym, ◌∙◌, subst, add-zero, zero-add, arith, length-take, length-drop, length-take-le}
use Rattle.std.proofs.Math.Path.{ap}
use Rattle.std.proofs.Math.Bool.{cond}
use Rattle.std.proofs.Math.ListN.{length}
use Rattle.std.proofs.Math.Seq.{paste, take-length}
use Rattle.descriptors.specs.Ring.{Ring, refused, sound}
use Rattle.descriptors.specs.Walk.{available_in, standing, advanced}
use Rattle.descriptors.specs.declared.record.TransferDirection.TheVariants.{Out}
use Rattle.descriptors.specs.declared.refusal.DmaBufError.TheVariants.{BadState, TooMuch}
use Rattle.ring_order.specs.Shape.{Sound, of-sound}
use Rattle.tx_stream.specs.Transmit.{paste_round, write_at, offered, offer_of, push_of, push_into, accepted_up_to}
use Rattle.both_ends.specs.Demand3.{queued_in, pending_in}
use Rattle.both_ends.specs.transmit.Turned.{turned, turned-paste, round-low, round-length}
use Rattle.both_ends.proofs.transmit.Accepting.{advanced-outgoing}
use Rattle.both_ends.proofs.transmit.Writing.{write-at, write-in, run_in, run-available, turned-written, written-queued, written-pending, written_stands}

-- bytes were written, and what is queued and what is pending stayed
pub record Kept (r : Ring) (b b' : List ℕ) : Type 0 where
  pub whole : length b' ≡ length b
  pub queued : queued_in r b' ≡ queued_in r b
  pub pending : pending_in r b' ≡ pending_in r b

module _ (r : Ring) (b : List ℕ) (s : Sound Out r (length b)) where
  passes : sound Out r (length b) ≡ true
  passes = of-sound Out r (length b) s

  pub available-in : r.offset + available_in Out r ≤ length b
  available-in = omega (arith, run-available r b s, run_in r b s)

  -- ---- advance and commit; 8: "advance above available; commit above the length of the part then on offer"

  pub accepted-up-to : (bound k : ℕ) (t : Bool) → leb k bound ≡ t
      → accepted_up_to bound r (length b) k ≡ cond t record { ring = advanced Out r k; answer = Ok k } (refused r (Err TooMuch))
  accepted-up-to bound k t e =
      ap (λ (c : Bool). cond c (cond (leb k bound) record { ring = advanced Out r k; answer = Ok k } (refused r (Err TooMuch))) (refused r (Err BadState))) passes
      ∙ ap (λ (c : Bool). cond c record { ring = advanced Out r k; answer = Ok k } (refused r (Err TooMuch))) e

  -- ---- bytes written behind the cursor, no further than what is available

  kept-round : (q : ℕ) (u : List ℕ) → write_at r + q ≤ length b → q + length u ≤ available_in Out r → Kept r b (paste_round b (write_at r + q) u)
  kept-round q u h l =
      let e : length (paste_round b (write_at r + q) u) ≡ length b = round-length b (write_at r + q) u h (omega (arith, available-in)) in
      let p : r.offset ≤ r.offset + q = omega arith in
      let m : r.offset + q + length u ≤ r.offset + available_in Out r = omega arith in
      let z = turned-written r b s q u (omega (arith, write-at r b s)) l in
      record {
        whole = e;
        queued = written-queued r b (paste_round b (write_at r + q) u) u s e (r.offset + q) p m z;
        pending = written-pending r b (paste_round b (write_at r + q) u) u s e (r.offset + q) p m z;
      }

  -- ---- the offered part

  pub offer-length : length (offer_of r b) ≡ offered r (length b)
  unfolding offer_of
  offer-length =
      ap (λ (t : Bool). length (cond t (take (offered r (length b)) (drop (write_at r) b)) [])) passes ∙ rw (length-take, length-drop) (omega arith)

  -- whatever is written into the part on offer, what is queued and what is pending stays
  pub offer-kept : (p : ℕ) (u : List ℕ) → p + length u ≤ length (offer_of r b) → Kept r b (paste b (write_at r + p) u (length u))
  offer-kept p u h =
      let w : write_at r ≤ length b = omega (arith, write-at r b s, write-in r b s) in
      let m : p + length u ≤ length b - write_at r = omega (arith, offer-length) in
      let a : p + length u ≤ available_in Out r = omega (arith, offer-length) in
      subst (Kept r b) (round-low b (write_at r + p) u (omega arith)) (kept-round p u (omega arith) a)

  -- ---- push

  module _ (bs : List ℕ) where
    abbrev pub many : ℕ
    many = min (length bs) (available_in Out r)

    -- "`push` accepts min(data, available)"
    pub push-is : push_of r (length b) (length bs) ≡ record { ring = advanced Out r many; answer = Ok many }
    unfolding push_of
    push-is = ap (λ (t : Bool). cond t record { ring = advanced Out r many; answer = Ok many } (refused r (Err BadState))) passes

    pub push-into : push_into r b bs ≡ paste_round b (write_at r) (take many bs)
    unfolding push_into
    push-into = ap (λ (t : Bool). cond t (paste_round b (write_at r) (take many bs)) b) passes

    pub taken-length : length (take many bs) ≡ many
    taken-length = length-take-le many bs (omega arith)

    -- NO BYTE ELSEWHERE CHANGES: round the buffer from the cursor on, those accepted stand first, and the others are as they were
    pub push-elsewhere : turned (push_into r b bs) (write_at r) ≡ take many bs ++ drop many (turned b (write_at r))
    push-elsewhere =
        let v : List ℕ = take many bs in
        ap (λ (c : List ℕ). turned c (write_at r)) (push-into ∙ ap (λ (x : ℕ). paste_round b x v) (sym (add-zero (write_at r))))
        ∙ turned-paste b (write_at r) 0 v (omega (arith, write-at r b s, write-in r b s)) (omega (arith, taken-length, available-in))
        ∙ ap (λ (x : ℕ). take (length v) v ++ drop x (turned b (write_at r))) (zero-add (length v) ∙ taken-length)
        ∙ ap (λ (l : List ℕ). l ++ drop many (turned b (write_at r))) (take-length v)

    pub push_kept : Kept r b (push_into r b bs)
    push_kept =
        subst (Kept r b) (ap (λ (x : ℕ). paste_round b x (take many bs)) (add-zero (write_at r)) ∙ sym push-into)
        (kept-round 0 (take many bs) (omega (arith, write-at r b s, write-in r b s)) (omega (arith, taken-length)))

    pub push-sound : Sound Out r (length (push_into r b bs))
    push-sound = rw push_kept.whole s

    -- the bytes accepted stand where the ring accepts them from
    pub push-stands : take many (standing Out r (push_into r b bs)) ≡ take many bs
    push-stands =
        let v : List ℕ = take many bs in
        let l : 0 + length v ≤ available_in Out r = omega (arith, taken-length) in
        let z = turned-written r b s 0 v (omega (arith, write-in r b s)) l in
        let q : paste_round b (write_at r + 0) v ≡ push_into r b bs = ap (λ (x : ℕ). paste_round b x v) (add-zero (write_at r)) ∙ sym push-into in
        let e : length (paste_round b (write_at r + 0) v) ≡ length b = ap length q ∙ push_kept.whole in
        let h : r.offset ≤ r.offset + 0 = omega arith in
        ap (λ (c : List ℕ). take many (standing Out r c)) (sym q)
        ∙ ap (λ (m : ℕ). take m (standing Out r (paste_round b (write_at r + 0) v))) (sym taken-length)
        ∙ written_stands r b (paste_round b (write_at r + 0) v) v s e (r.offset + 0) h (omega arith) z (omega arith)

    -- WHAT GOES OUT is what went out, followed by the data accepted
    pub push-outgoing : queued_in (advanced Out r many) (push_into r b bs) ++ pending_in (advanced Out r many) (push_into r b bs) ≡ (queued_in r b ++ pending_in r b) ++ take many bs
    push-outgoing =
        advanced-outgoing r (push_into r b bs) push-sound many (omega arith)
        ∙ ap (λ (l : List ℕ). (queued_in r (push_into r b bs) ++ pending_in r (push_into r b bs)) ++ l) push-stands
        ∙ ap (λ (l : List ℕ). (l ++ pending_in r (push_into r b bs)) ++ take many bs) push_kept.queued
        ∙ ap (λ (l : List ℕ). (queued_in r b ++ l) ++ take many bs) push_kept.pending
