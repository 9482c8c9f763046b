-- Consume and pop.
use Rattle.std.specs.Prelude.{◌≡◌, Bool, true, false, cond, drop, Ok, Err}
use Rattle.std.proofs.Math.Path.{refl, ap, subst}
use Rattle.std.proofs.Common.{sym, ◌∙◌, arith, length-append, length-take, take-append-drop, length-take-le, take-take}
use mathlib.Core.List.{List, [], ◌++◌, append_assoc, append-nil, map-append}
use Prim.Native.Nat.{ℕ, ◌+◌, ◌%◌, ◌^◌, ◌≤◌}
use Rattle.std.proofs.Math.ListN.{length, take}
use Rattle.std.proofs.lemmas.List.{take-append-le}
use Rattle.descriptors.specs.Ring.{Ring, refused}
use Rattle.descriptors.specs.Walk.{standing, planned, moved_to, advanced, taken_in}
use Rattle.descriptors.specs.declared.record.TransferDirection.TheVariants.{In}
use Rattle.descriptors.specs.declared.refusal.DmaBufError.TheVariants.{BadState}
use Rattle.rx_stream.specs.Receive.{consume_of, pop_of, popped_over, over}
use Rattle.rx_stream.specs.Receive as receive
use Rattle.ring_order.specs.Lists.{Somes, somes-rest}
use Rattle.ring_order.specs.View.{Cell}
use Rattle.ring_order.specs.Queue.{helds, same-helds}
use Rattle.ring_order.specs.Give.{standing-rest, taken-standing, queue-length}
use Rattle.ring_order.specs.Order.{order-gives, order-give}
use Rattle.ring_order.specs.Skeleton.{gives}
use Rattle.both_ends.specs.Demand3.{World, world, told, told_took, rx_step, consume, pop}
use Rattle.ring_order.specs.Tally.{goes-round}
use Rattle.both_ends.proofs.receive.Good.{Good, Leads, good-sound, good-ends, idle}

-- the ring moves on, and bs are taken
abbrev takes : World → Ring → List ℕ → World
takes w r bs = world r w.bytes w.device (w.by_calls ++ bs) w.by_steps w.visited

-- bytes that move from the unread to the taken
ends-take : (t s : List ℕ) (k : ℕ) → t ++ s ≡ (t ++ take k s) ++ drop k s
ends-take t s k = ap (λ (l : List ℕ). t ++ l) (sym (take-append-drop k s)) ∙ sym (append_assoc t (take k s) (drop k s))

-- the front of a destination that the bytes s were put over
over-take : (s d : List ℕ) (k : ℕ) → k ≤ length d → k ≤ length s → take k (over s d) ≡ take k s
over-take s d k h l =
    take-append-le k (take (length d) s) (drop (length s) d) (rw (length-take (length d) s) (omega arith)) ∙ take-take k (length d) s h

module _ (n len q : ℕ) (w : World) (g : Good n len q w) where
  -- k bytes, or all that there are: the ring moves on over them
  taken-good : (k : ℕ) → Leads n len q w (takes w (advanced In w.ring k) (take (taken_in In w.ring k) (standing In w.ring w.bytes)))
  unfolding moved_to
  taken-good k =
      let r : Ring = w.ring in
      let s : List ℕ = standing In r w.bytes in
      let v = order-gives In len r w.bytes w.device (length w.visited) g.front g.queue g.order k in
      let l : taken_in In r k ≤ length s = taken-standing In len r w.bytes g.front g.queue g.order.parted k v in (
        length v.rest',
        record {
          count = g.count;
          front = v.run';
          queue = v.rest';
          size = refl;
          order = order-give In len r w.bytes w.device (length w.visited) g.front g.queue g.order k v;
          some = somes-rest (helds v.used) (helds v.run')
              (subst Somes (same-helds g.front (v.used ++ v.run') v.parts ∙ map-append (λ (x : Cell). x.held) v.used v.run') g.some);
          ends = good-ends n len q w g ∙ ends-take w.by_calls s (taken_in In r k)
              ∙ ap (λ (u : List ℕ). (w.by_calls ++ take (taken_in In r k) s) ++ u) (sym (standing-rest In len r w.bytes g.front g.queue g.order.parted k v));
          tally = goes-round r.tally (length w.by_calls) (taken_in In r k) (2 ^ 32) g.tally
              ∙ ap (λ (m : ℕ). m % 2 ^ 32) (sym (length-append w.by_calls (take (taken_in In r k) s) ∙ ap (λ (m : ℕ). length w.by_calls + m) (length-take-le (taken_in In r k) s l)));
        },
        gives refl (omega (arith, g.size, queue-length In len r w.bytes g.front g.queue g.order.parted k v)) refl,
      )

  -- the call takes nothing, and the ring stays
  none-good : (bs : List ℕ) → bs ≡ [] → Leads n len q w (takes w w.ring bs)
  none-good bs e =
      let t : w.by_calls ++ bs ≡ w.by_calls = ap (λ (l : List ℕ). w.by_calls ++ l) e ∙ append-nil w.by_calls in
      subst (λ (l : List ℕ). Leads n len q w (world w.ring w.bytes w.device l w.by_steps w.visited)) (sym t)
      (idle n len q w g)

  -- what consume and pop leave, by the tests that they make
  abbrev consumed : ℕ → Bool → World
  consumed k t =
      let r : Ring = w.ring in
      let o = cond t record { ring = advanced In r k; answer = Ok (record { taken = taken_in In r k; back = (planned In r k).back }) } (refused r (Err BadState)) in
      takes w o.ring (told_took o.answer (standing In r w.bytes))

  pub consume-good : (k : ℕ) → Leads n len q w (rx_step w (consume k))
  unfolding rx_step consume_of
  consume-good k = subst (λ (t : Bool). Leads n len q w (consumed k t)) (sym (good-sound n len q w g)) (taken-good k)

  abbrev popped : List ℕ → Bool → Bool → World
  popped d t i =
      let r : Ring = w.ring in
      let k : ℕ = length d in
      let o =
      cond t (cond i record { ring = r; answer = Ok 0 } record { ring = advanced In r k; answer = Ok (taken_in In r k) })
      (refused r (Err BadState)) in
      takes w o.ring (told o.answer (cond t (cond i d (over (standing In r w.bytes) d)) d))

  pop-by : (d : List ℕ) (i : Bool) → Leads n len q w (popped d true i)
  pop-by d true = none-good [] refl
  pop-by d false =
      let r : Ring = w.ring in
      let v = order-gives In len r w.bytes w.device (length w.visited) g.front g.queue g.order (length d) in
      let l = taken-standing In len r w.bytes g.front g.queue g.order.parted (length d) v in
      subst (λ (u : List ℕ). Leads n len q w (takes w (advanced In r (length d)) u)) (sym (over-take (standing In r w.bytes) d (taken_in In r (length d)) (omega arith) l))
      (taken-good (length d))

  pub pop-good : (d : List ℕ) → Leads n len q w (rx_step w (pop d))
  unfolding rx_step pop_of popped_over
  pop-good d = subst (λ (t : Bool). Leads n len q w (popped d t (receive.idle w.ring (length d)))) (sym (good-sound n len q w g)) (pop-by d (receive.idle w.ring (length d)))
