-- DEMAND 3, receive, proved: clause by clause, and all together.
use Rattle.std.specs.Prelude.{◌≡◌, Bool, ◌⊎◌, ◌↔◌, List, [], ◌∷◌, ◌++◌, ℕ, ◌+◌, ◌≤◌, ◌<◌, length, take, drop, Ok, Err, Some, None, Option}
use Rattle.std.proofs.Math.Path.{refl}
use Rattle.std.proofs.Common.{sym, ◌∙◌, ap, subst, inl, inr, take_all}
use native.Mathlib.Omega.{arith}
use Rattle.std.proofs.Math.Decide.{dec_le}
use Rattle.std.proofs.Math.ListN.{length-append}
use Rattle.std.proofs.Math.Seq.{drop-nil}
use Rattle.descriptors.specs.Ring.{Ring, record_of, new_of}
use Rattle.descriptors.specs.Walk.{standing}
use Rattle.descriptors.specs.declared.record.Owner.TheVariants.{Cpu, Dma}
use Rattle.descriptors.specs.declared.record.DmaDescriptor.{DmaDescriptor}
use Rattle.descriptors.specs.declared.record.TransferDirection.TheVariants.{In}
use Rattle.descriptors.specs.declared.refusal.DmaBufError.TheVariants.{Stopped}
use Rattle.rx_stream.specs.Receive.{prepare_of, peek_of}
use Rattle.device.specs.Device.{receive_by, receive_of}
use Rattle.ring_order.specs.Places.{turn}
use Rattle.ring_order.specs.Lists.{Somes}
use Rattle.ring_order.specs.Tests.{cpu-test, cpu-not-dma}
use Rattle.ring_order.specs.View.{Cell, cell_in, cursor-cell}
use Rattle.ring_order.specs.Queue.{idxs, helds, cat, first, ground}
use Rattle.ring_order.specs.Order.{Order, Stands, stands-below, queued-iff, queue-turn, none-queued}
use Rattle.ring_order.specs.Skeleton.{Among, stopped-not, Move, steps, gives, InTurn, goes_on, no-skip, within-n, before-stop}
use Rattle.both_ends.specs.Demand3.{World, run, built, prepared, RxAction, rx_look, consume, pop, fill, rx_step, unread_at, fills, Receive}
use Rattle.both_ends.proofs.Shared.{Keeps, life, agrees}
use Rattle.both_ends.proofs.receive.Good.{Good, Leads, good-sound, good-standing, good-ends, good-available, idle}
use Rattle.both_ends.proofs.receive.Take.{consume-good, pop-good}
use Rattle.both_ends.proofs.receive.Fill.{fill-good, stands-stopped, step-stopped}
use Rattle.both_ends.specs.receive.Peek.{peek-front, peek-some}
use Rattle.both_ends.proofs.receive.Start.{start-good}
use Rattle.descriptors.specs.Refusal.{Answer}
use Rattle.both_ends.proofs.receive.Reach.{mem-of, inside-cursor, Holds, unread, free, bridge, reach-exact}

-- every action leads from a good world to a good one, by one of the two moves
step-good : (n len q : ℕ) (w : World) → Good n len q w → (a : RxAction) → Leads n len q w (rx_step w a)
step-good n len q w g (rx_look l) = unfold rx_step in idle n len q w g
step-good n len q w g (consume k) = consume-good n len q w g k
step-good n len q w g (pop d) = pop-good n len q w g d
step-good n len q w g (fill bs eof) = fill-good n len q w g bs eof

-- ---- peek shows something, where something is unread

module _ (n len q : ℕ) (w : World) (g : Good n len q w) (u : Bool) where
  at-cursor : (front : List Cell) → Order In len w.ring w.bytes w.device (length w.visited) front g.queue → Somes (helds front)
      → 0 < length (drop w.ring.offset (cat front)) → 0 < length (peek_of u w.ring w.bytes)
  at-cursor [] o f h = absurd (omega (arith, h, ap length (drop-nil {A = ℕ} w.ring.offset)))
  at-cursor (x ∷ front) o f h =
      let r : Ring = w.ring in
      let e : x ≡ cell_in In r.descriptors w.bytes r.idx = cursor-cell In r.count r.descriptors w.bytes r.idx o.parted.stored.cursor (front ++ g.queue) x o.parted.seen in
      peek-some r w.bytes u (good-sound n len q w g)
      (cpu-test (record_of r r.idx).owner (ap (λ (y : Cell). y.desc.owner) (sym e) ∙ o.parted.cpus.0))
      (inside-cursor len r w.bytes w.device (length w.visited) (x ∷ front) g.queue o f x.idx (inl refl))

peek-shows : (n len q : ℕ) (w : World) → Good n len q w → (u : Bool) → 0 < length (standing In w.ring w.bytes) → 0 < length (peek_of u w.ring w.bytes)
peek-shows n len q w g u h = at-cursor n len q w g u g.front g.order g.some (subst (λ (l : List ℕ). 0 < length l) (good-standing n len q w g) h)

-- ---- the stop

same-record : (d : Option ℕ) (i j : ℕ) → d ≡ Some i → d ≡ Some j → j ≡ i
same-record d i j e f = cc

stopped-at : (d : Option ℕ) (is : List ℕ) → Stands d is → first is ≡ None → d ≡ None
stopped-at d is (inl e) f = e
stopped-at d is (inr e) f = e ∙ f

empty-first : (xs : List Cell) → length xs ≡ 0 → first (idxs xs) ≡ None
empty-first [] e = refl
empty-first (x ∷ xs) e = absurd (omega arith)

module _ (n len q : ℕ) (w : World) (g : Good n len q w) where
  -- nothing is queued exactly when every record holds unread bytes
  holds-all : q ≡ 0 → (j : ℕ) → j < n → 0 < length (unread_at w j)
  holds-all e j h = go (bridge n len q w g j h)
    where
      cpu : (record_of w.ring j).owner ≡ Cpu
      cpu = (none-queued In len w.ring w.bytes w.device (length w.visited) g.front g.queue g.order).0 (empty-first g.queue (g.size ∙ e)) j
          (subst (λ (m : ℕ). j < m) (sym g.count) h)

      go : Holds w j → 0 < length (unread_at w j)
      go (unread c l) = l
      go (free c l) = absurd (cpu-not-dma (record_of w.ring j).owner cpu c)

  all_hold : ((j : ℕ) → j < n → 0 < length (unread_at w j)) → w.device ≡ None
  all_hold f =
      stopped-at w.device (idxs g.queue) g.order.stands
      ((none-queued In len w.ring w.bytes w.device (length w.visited) g.front g.queue g.order).1
      (λ j h. let k : j < n = subst (λ (m : ℕ). j < m) g.count h in cpu j (bridge n len q w g j k) (f j k)))
    where
      cpu : (j : ℕ) → Holds w j → 0 < length (unread_at w j) → (record_of w.ring j).owner ≡ Cpu
      cpu j (unread c l) h = c
      cpu j (free c l) h = absurd (omega (arith, ap length l))

-- STOP
stop-by : (n len q p i : ℕ) (w v : World) → w.device ≡ Some i → Good n len p v → Move n q w.device w.visited p v.device v.visited
    → (v.device ≡ None) ↔ ((v.visited ≡ w.visited ++ (i ∷ [])) × ((j : ℕ) → j < n → 0 < length (unread_at v j)))
stop-by n len q p i w v d g (steps s e f h) =
    let k : turn n (length w.visited) ≡ i = same-record w.device i (turn n (length w.visited)) d s in
    (λ x. (e ∙ ap (λ (j : ℕ). w.visited ++ (j ∷ [])) k, holds-all n len p v g (h x)), λ x. all_hold n len p v g x.1)
stop-by n len q p i w v d g (gives e f h) = (
  λ x. absurd (stopped-not v.device i (h ∙ d) x),
  λ x. absurd (omega (arith, ap length x.0 ∙ length-append w.visited (i ∷ []), ap length e)),
)

-- ---- a stopped device receives nothing, and calls only add to what was taken

refusal-7 : (n len q : ℕ) (w : World) → Good n len q w → w.device ≡ None → (bs : List ℕ) (eof : Bool)
    → (receive_of w.ring w.device (length w.bytes) (length bs) eof).answer ≡ Err Stopped
unfolding receive_of
refusal-7 n len q w g d bs eof = ap (λ (s : Answer ℕ). (receive_by w.ring w.device (length bs) eof s).answer) (stands-stopped w bs eof (good-sound n len q w g) d)

received-still : (n len q : ℕ) (w : World) → Good n len q w → w.device ≡ None → (a : RxAction) → (rx_step w a).by_steps ≡ w.by_steps
received-still n len q w g d (rx_look l) = unfold rx_step in refl
received-still n len q w g d (consume k) = unfold rx_step in refl
received-still n len q w g d (pop b) = unfold rx_step in refl
received-still n len q w g d (fill bs eof) = ap (λ (v : World). v.by_steps) (step-stopped w bs eof (good-sound n len q w g) d)

takes-by : (w : World) (a : RxAction) → length w.by_calls ≤ length (rx_step w a).by_calls
takes-by w (rx_look l) = unfold rx_step in omega arith
takes-by w (consume k) = unfold rx_step in simp length-append (omega arith)
takes-by w (pop d) = unfold rx_step in simp length-append (omega arith)
takes-by w (fill bs eof) = unfold rx_step in omega arith

module _ (n len : ℕ) (hn : 0 < n) where
  keeps : Keeps In rx_step n (Good n len)
  keeps =
      record {
        some = hn;
        law = step-good n len;
        passes = good-sound n len;
        below = λ q w g i d.
            subst (λ (m : ℕ). i < m) g.count (stands-below In len w.ring w.bytes w.device (length w.visited) g.front g.queue g.order i d);
        tally = λ q w g. g.tally;
        still = received-still n len;
        adds = takes-by;
      }

  module _ (q : ℕ) (w : World) (g : Good n len q w) (turns : InTurn n w.visited) where
    -- WITHIN N, and not after a stop
    soon : (i : ℕ) → w.device ≡ Some i → (j : ℕ) → j < n → (record_of w.ring j).owner ≡ Dma → (more : List RxAction) → (n ≤ length (fills w more)) ⊎ ((run rx_step w more).device ≡ None)
        → Among j (take n (fills w more))
    soon i d j h o more (inl l) = within-n (life keeps) q w g turns more j h l
    soon i d j h o more (inr s) = go (dec_le n (length (fills w more)))
      where
        before : Among j (fills w more)
        before =
            let k = (queued-iff In len w.ring w.bytes w.device (length w.visited) g.front g.queue g.order j (subst (λ (m : ℕ). j < m) (sym g.count) h)).1 o in
            let (e, l, t) = queue-turn In len w.ring w.bytes w.device (length w.visited) g.front g.queue g.order j k in
            before-stop (life keeps) q w g turns i d more s e j (subst (λ (m : ℕ). e < m) g.size l)
            (t ∙ ap (λ (m : ℕ). turn m (length w.visited + e)) g.count)

        go : Dec (n ≤ length (fills w more)) → Among j (take n (fills w more))
        go (yes l) = within-n (life keeps) q w g turns more j h l
        go (no l) = subst (Among j) (sym (take_all n (fills w more) (omega arith))) before

    pub receives : Receive n w
    receives =
        record {
          both = agrees keeps q w g turns;
          ends = good-ends n len q w g;
          unread = good-available n len q w g;
          shown = λ u. peek-front w.ring w.bytes u (good-sound n len q w g);
          shows = peek-shows n len q w g;
          reach = reach-exact n len q w g;
          soon = λ i d j h o more l. mem-of j (take n (fills w more)) (soon i d j h o more l);
          stop = λ i d a. let (p, v, m) = step-good n len q w g a in stop-by n len q p i w (rx_step w a) d v m;
          refused = refusal-7 n len q w g;
        }

some-records : (n len q : ℕ) (w : World) → Good n len q w → 0 < n
some-records n len q w g =
    let s = g.order.parted.stored in
    omega (arith, g.count, (ground In w.ring.count len w.ring.descriptors w.bytes w.ring.idx s).many)

-- RECEIVE
pub receive-holds : (ds : List DmaDescriptor) (n : ℕ) (bytes : List ℕ) → (new_of In ds n (length bytes)).answer ≡ Ok tt
    → (acts : List RxAction) → Receive n (run rx_step (prepared prepare_of (built In ds n bytes)) acts)
receive-holds ds n bytes new acts =
    let len : ℕ = length bytes in
    let w : World = prepared prepare_of (built In ds n bytes) in
    let (q, g) = start-good ds n bytes new in
    let hn = some-records n len q w g in
    let (p, v) = goes_on (life (keeps n len hn)) q w g acts in
    receives n len hn p (run rx_step w acts) v (no-skip (life (keeps n len hn)) q w g refl acts)
