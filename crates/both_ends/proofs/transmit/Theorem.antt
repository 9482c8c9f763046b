-- DEMAND 3, transmit: proved.
use Rattle.std.specs.Prelude.{◌≡◌, refl, ◌↔◌, List, [], ◌∷◌, ℕ, ◌≤◌, ◌<◌, length, take, Ok, Some, None}
use Rattle.std.proofs.Common.{sym, ◌∙◌, ap, subst, inl, inr, append-nil, arith, length-append}
use Rattle.descriptors.specs.declared.record.DmaDescriptor.{DmaDescriptor}
use Rattle.descriptors.specs.declared.record.TransferDirection.TheVariants.{Out}
use Rattle.tx_stream.specs.Transmit.{prepare_of}
use Rattle.ring_order.specs.Lists.{Somes}
use Rattle.ring_order.specs.Shape.{grounds}
use Rattle.ring_order.specs.View.{Cell}
use Rattle.ring_order.specs.Queue.{idxs, loads, join}
use Rattle.ring_order.specs.Skeleton.{InTurn, stopped-not, Move, steps, gives, goes_on, no-skip}
use Rattle.ring_order.specs.Order.{Stands, stands-below}
use Rattle.device.specs.Device.{Stepped, transmit_over}
use Rattle.descriptors.specs.Ring.{new_of}
use Rattle.both_ends.specs.Demand3.{World, run, built, prepared, Prefill, prefill, TxAction, tx_look, push, advance, commit, write, send, tx_step, queued_in, Transmit}
use Rattle.both_ends.proofs.Shared.{Keeps, life, agrees}
use Rattle.both_ends.proofs.transmit.Prefilling.{Filling, built-fills}
use Rattle.both_ends.specs.transmit.Sending.{send-stopped}
use Rattle.both_ends.proofs.transmit.Trace.{Fine, fine-passes, order-queued, sends_by, Made, step-made}
use Rattle.descriptors.specs.Refusal.{Answer}
use Rattle.both_ends.proofs.transmit.Start.{start_fine}

-- ---- nothing is queued exactly when the queue has no record

join-none : (xs : List Cell) → Somes (loads xs) → join (loads xs) ≡ [] → length xs ≡ 0
join-none [] h e = refl
join-none (x ∷ xs) h e =
    absurd (omega (arith, h.0, sym (length-append (take x.desc.length x.held) (join (loads xs))) ∙ ap length e))

none-join : (xs : List Cell) → length xs ≡ 0 → join (loads xs) ≡ []
none-join [] e = refl
none-join (x ∷ xs) e = absurd (omega arith)

module _ (n q : ℕ) (w : World) (g : Fine n q w) where
  queued-of : queued_in w.ring w.bytes ≡ join (loads g.queue)
  queued-of = order-queued w.ring w.bytes w.device (length w.visited) g.front g.queue g.order

  queued-none : queued_in w.ring w.bytes ≡ [] → q ≡ 0
  queued-none e = sym g.size ∙ join-none g.queue g.somes (sym queued-of ∙ e)

  none-queued : q ≡ 0 → queued_in w.ring w.bytes ≡ []
  none-queued e = queued-of ∙ none-join g.queue (g.size ∙ e)

  -- a device stands at the queue's head
  none-stopped : (xs : List Cell) → length xs ≡ 0 → Stands w.device (idxs xs) → w.device ≡ None
  none-stopped xs e (inl h) = h
  none-stopped [] e (inr h) = h
  none-stopped (x ∷ xs) e (inr h) = absurd (omega arith)

-- ---- the device stops

module _ (n q : ℕ) (w : World) (i : ℕ) (on : w.device ≡ Some i) (w' : World) (m : Made n q w w') where
  stops_then : Move n q w.device w.visited m.more w'.device w'.visited → w'.device ≡ None → m.more ≡ 0
  stops_then (steps a b c d) e = d e
  stops_then (gives a b c) e = absurd (stopped-not w.device i on (sym c ∙ e))

  stops : (w'.device ≡ None) ↔ (queued_in w'.ring w'.bytes ≡ [])
  stops = (
    λ e. none-queued n m.more w' m.fine (stops_then m.move e),
    λ e. none-stopped n m.more w' m.fine m.fine.queue (m.fine.size ∙ queued-none n m.more w' m.fine e) m.fine.order.stands,
  )

-- ---- a stopped device sends nothing, and calls only add to what was accepted

sent-still : (n q : ℕ) (w : World) → Fine n q w → w.device ≡ None → (a : TxAction) → (tx_step w a).by_steps ≡ w.by_steps
unfolding tx_step
sent-still n q w g d (tx_look l) = refl
sent-still n q w g d (push bs) = refl
sent-still n q w g d (advance k) = refl
sent-still n q w g d (commit k) = refl
sent-still n q w g d (write p v) = refl
sent-still n q w g d (send out) =
    ap (λ (s : Stepped (Answer ℕ)). (sends_by w s (transmit_over w.ring w.device w.bytes out)).by_steps)
    (send-stopped w.ring w.device (length w.bytes) (fine-passes n q w g) (length out) d)
    ∙ append-nil w.by_steps

accepts-by : (w : World) (a : TxAction) → length w.by_calls ≤ length (tx_step w a).by_calls
unfolding tx_step
accepts-by w (tx_look l) = omega arith
accepts-by w (push bs) = rw length-append (omega arith)
accepts-by w (advance k) = rw length-append (omega arith)
accepts-by w (commit k) = rw length-append (omega arith)
accepts-by w (write p v) = omega arith
accepts-by w (send out) = omega arith

-- ---- every clause

module _ (n : ℕ) (hn : 0 < n) where
  keeps : Keeps Out tx_step n (Fine n)
  keeps =
      record {
        some = hn;
        law = λ q w g a. let m : Made n q w (tx_step w a) = step-made n q w g a in (m.more, m.fine, m.move);
        passes = fine-passes n;
        below = λ q w g i d.
            subst (λ (m : ℕ). i < m) g.count (stands-below Out (length w.bytes) w.ring w.bytes w.device (length w.visited) g.front g.queue g.order i d);
        tally = λ q w g. g.counts;
        still = sent-still n;
        adds = accepts-by;
      }

  transmits : (q : ℕ) (w : World) → Fine n q w → InTurn n w.visited → Transmit n w
  transmits q w g turns =
      record {
        both = agrees keeps q w g turns;
        ends = g.ends;
        stop = λ i e a. stops n q w i e (tx_step w a) (step-made n q w g a);
        refused = λ e out. ap (λ (s : Stepped (Answer ℕ)). s.answer) (send-stopped w.ring w.device (length w.bytes) (fine-passes n q w g) (length out) e);
      }

-- TRANSMIT
pub transmit-holds : (ds : List DmaDescriptor) (n : ℕ) (bytes : List ℕ) → (new_of Out ds n (length bytes)).answer ≡ Ok tt → (before : List Prefill)
    → 0 < length (run prefill (built Out ds n bytes) before).by_calls → (acts : List TxAction)
    → Transmit n (run tx_step (prepared prepare_of (run prefill (built Out ds n bytes) before)) acts)
transmit-holds ds n bytes new before h acts =
    let v : World = run prefill (built Out ds n bytes) before in
    let f : Filling n v = built-fills ds n bytes new before h in
    let hn : 0 < n = omega (arith, f.count, (grounds v.ring.count (length v.bytes) v.ring.descriptors f.laid).many) in
    let (q, g) = start_fine n v f h in
    let (p, k) = goes_on (life (keeps n hn)) q (prepared prepare_of v) g acts in
    transmits n hn p (run tx_step (prepared prepare_of v) acts) k (no-skip (life (keeps n hn)) q (prepared prepare_of v) g refl acts)
