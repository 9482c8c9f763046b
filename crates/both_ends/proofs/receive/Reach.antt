-- What the links reach, and whose a record with unread bytes is.
use Rattle.std.specs.Prelude.{◌≡◌, Bool, true, false, ◌⊎◌, ◌↔◌, eqb, drop, Some, Option}
use Rattle.std.proofs.Math.Path.{refl, sym, ap, subst}
use Rattle.std.proofs.Common.{◌∙◌, inl, inr, arith, eqb-true, length-drop}
use Rattle.std.proofs.Math.Bool.{cond}
use mathlib.Core.List.Memᴰ
use mathlib.Core.List.{List, [], ◌∷◌, ◌++◌, append_assoc, Memᴰ}
use Prim.Native.Nat.{ℕ, zero, suc, ◌≤◌, ◌<◌}
use Rattle.std.proofs.Math.ListN.{length}
use Rattle.descriptors.specs.Ring.{Ring, record_of}
use Rattle.descriptors.specs.declared.record.Owner.TheVariants.{Cpu, Dma}
use Rattle.descriptors.specs.declared.record.TransferDirection.TheVariants.{In}
use Rattle.ring_order.specs.Tests.{cpu-test, dma-test}
use Rattle.ring_order.specs.Lists.{Somes}
use Rattle.ring_order.specs.View.{Cell, held_by, view, own, cursor-cell}
use Rattle.ring_order.specs.Queue.{idxs, helds, first, Linked, Inside, parts-length}
use Rattle.ring_order.specs.Order.{Order, Stands, run-cell, run-cpu, queue-below, queue-dma, queued-iff, locate}
use Rattle.ring_order.specs.Skeleton.{Among, stopped-not}
use Rattle.both_ends.specs.Demand3.{World, reached, unread_at}
use Rattle.both_ends.proofs.receive.Good.{Good}

-- ---- the library's word for a member of a list, and the one that goes by cases

pub mem-of : (j : ℕ) (is : List ℕ) → Among j is → Memᴰ j is
mem-of j [] h = absurd h
mem-of j (i ∷ is) (inl e) = Memᴰ.head e
mem-of j (i ∷ is) (inr h) = Memᴰ.tail (mem-of j is h)

of_mem : (j : ℕ) (is : List ℕ) → Memᴰ j is → Among j is
of_mem j [] h = absurd (Memᴰ.not-nil h)
of_mem j (i ∷ is) h = go (Memᴰ.cases_cons h) (of_mem j is)
  where
    go : (j ≡ i) ⊎ Memᴰ j is → (Memᴰ j is → Among j is) → (j ≡ i) ⊎ Among j is
    go (inl e) k = inl e
    go (inr m) k = inr (k m)

-- ---- the links lead through the queue

module _ (r : Ring) (b : List ℕ) (hc : r.idx < r.count) where
  reach-from : (k : ℕ) (p q : List Cell) → view In r.count r.descriptors b r.idx ≡ p ++ q → Linked q → length q ≤ k → reached r k (first (idxs q)) ≡ idxs q
  unfolding reached
  reach-from zero p [] v l h = refl
  reach-from zero p (y ∷ ys) v l h = absurd (omega arith)
  reach-from (suc k) p [] v l h = refl
  reach-from (suc k) p (y ∷ ys) v l h =
      let o : (record_of r y.idx).next ≡ first (idxs ys) = ap (λ (c : Cell). c.desc.next) (sym (own In r.count r.descriptors b r.idx hc p ys y v).1) ∙ l.1 in
      ap (λ (t : List ℕ). y.idx ∷ t) (ap (reached r k) o ∙ reach-from k (p ++ (y ∷ [])) ys (v ∙ sym (append_assoc p (y ∷ []) ys)) l.2 (omega arith))

stands-first : (d : Option ℕ) (is : List ℕ) → Stands d is → (i : ℕ) → d ≡ Some i → d ≡ first is
stands-first d is (inl e) i q = absurd (stopped-not d i q e)
stands-first d is (inr e) i q = e

reach-queue : (len : ℕ) (r : Ring) (b : List ℕ) (dev : Option ℕ) (t : ℕ) (front queue : List Cell) → Order In len r b dev t front queue → (i : ℕ) → dev ≡ Some i → reached r r.count dev ≡ idxs queue
reach-queue len r b dev t front queue o i d =
    ap (reached r r.count) (stands-first dev (idxs queue) o.stands i d)
    ∙ reach-from r b o.parted.stored.cursor r.count front queue o.parted.seen o.parted.linked
    (omega (arith, parts-length In r.count len r.descriptors b r.idx r.offset front queue o.parted))

-- ---- THE BRIDGE: a record is the CPU's and holds an unread byte, or it is the DMA's and holds none

pub data Holds (w : World) (j : ℕ) : Type 0 where
  unread : (record_of w.ring j).owner ≡ Cpu → 0 < length (unread_at w j) → Holds w j
  free : (record_of w.ring j).owner ≡ Dma → unread_at w j ≡ [] → Holds w j

filled_at : (a : List Cell) (x : Cell) (d : List Cell) → Somes (helds (a ++ x ∷ d)) → 0 < length x.held
filled_at [] x d f = f.0
filled_at (y ∷ a) x d f = filled_at a x d f.1

-- the offset is inside the cursor's record, if that is in the run
pub inside-cursor : (len : ℕ) (r : Ring) (b : List ℕ) (dev : Option ℕ) (t : ℕ) (front queue : List Cell) → Order In len r b dev t front queue → Somes (helds front) → (j : ℕ) → Among j (idxs front)
    → r.offset < length (held_by In b (record_of r r.idx))
inside-cursor len r b dev t [] queue o f j h = absurd h
inside-cursor len r b dev t (x ∷ front) queue o f j h =
    subst (λ (y : Cell). r.offset < length y.held) (cursor-cell In r.count r.descriptors b r.idx o.parted.stored.cursor (front ++ queue) x o.parted.seen) (go o.parted.offset)
  where
    go : Inside r.offset (x ∷ front) → r.offset < length x.held
    go (inl e) = let z = f.0 in omega arith
    go (inr l) = l

module _ (w : World) (j : ℕ) where
  abbrev held : List ℕ
  held = held_by In w.bytes (record_of w.ring j)

  unread-dma : (record_of w.ring j).owner ≡ Dma → unread_at w j ≡ []
  unfolding unread_at
  unread-dma e = ap (λ (t : Bool). cond t (drop (cond (eqb j w.ring.idx) w.ring.offset 0) held) []) (dma-test (record_of w.ring j).owner e)

  from-cursor : (t : Bool) → eqb j w.ring.idx ≡ t → (j ≡ w.ring.idx → w.ring.offset < length held) → 0 < length held → 0 < length (drop (cond t w.ring.offset 0) held)
  from-cursor true e o h = let l = o (eqb-true j w.ring.idx e) in simp length-drop (omega arith)
  from-cursor false e o h = h

  unread-cpu : (record_of w.ring j).owner ≡ Cpu → (j ≡ w.ring.idx → w.ring.offset < length held) → 0 < length held → 0 < length (unread_at w j)
  unfolding unread_at
  unread-cpu e o h =
      subst (λ (t : Bool). 0 < length (cond t (drop (cond (eqb j w.ring.idx) w.ring.offset 0) held) [])) (sym (cpu-test (record_of w.ring j).owner e))
      (from-cursor (eqb j w.ring.idx) refl o h)

module _ (n len q : ℕ) (w : World) (g : Good n len q w) (j : ℕ) (hj : j < n) where
  on-ring : j < w.ring.count
  on-ring = subst (λ (m : ℕ). j < m) (sym g.count) hj

  ahead : Among j (idxs g.front) → Holds w j
  ahead h =
      let t : ℕ = length w.visited in
      let (a, x, d, e, i, o, l) = run-cell In len w.ring w.bytes w.device t g.front g.queue g.order j h in
      let c : (record_of w.ring j).owner ≡ Cpu = run-cpu In len w.ring w.bytes w.device t g.front g.queue g.order j h in
      let s : 0 < length (held w j) = subst (λ (y : Cell). 0 < length y.held) o (filled_at a x d (subst (λ (l : List Cell). Somes (helds l)) e g.some)) in
      let f : w.ring.offset < length (held_by In w.bytes (record_of w.ring w.ring.idx)) = inside-cursor len w.ring w.bytes w.device t g.front g.queue g.order g.some j h in
      unread c (unread-cpu w j c (λ k. subst (λ (m : ℕ). w.ring.offset < length (held w m)) (sym k) f) s)

  behind : Among j (idxs g.queue) → Holds w j
  behind h =
      let c = queue-dma In len w.ring w.bytes w.device (length w.visited) g.front g.queue g.order j h in
      free c (unread-dma w j c)

  pub bridge : Holds w j
  bridge = go (locate In len w.ring w.bytes w.device (length w.visited) g.front g.queue g.order j on-ring)
    where
      go : Among j (idxs g.front) ⊎ Among j (idxs g.queue) → Holds w j
      go (inl h) = ahead h
      go (inr h) = behind h

  none-dma : Holds w j → unread_at w j ≡ [] → (record_of w.ring j).owner ≡ Dma
  none-dma (unread c h) e = absurd (omega (arith, ap length e))
  none-dma (free c h) e = c

-- REACH
pub reach-exact : (n len q : ℕ) (w : World) → Good n len q w → (i : ℕ) → w.device ≡ Some i → (j : ℕ) → Memᴰ j (reached w.ring n w.device) ↔ ((j < n) × (unread_at w j ≡ []))
reach-exact n len q w g i d j =
    let t : ℕ = length w.visited in
    let e : reached w.ring n w.device ≡ idxs g.queue =
    ap (λ (m : ℕ). reached w.ring m w.device) (sym g.count) ∙ reach-queue len w.ring w.bytes w.device t g.front g.queue g.order i d in (
      λ h. let k = subst (Among j) e (of_mem j (reached w.ring n w.device) h) in (
        subst (λ (m : ℕ). j < m) g.count (queue-below In len w.ring w.bytes w.device t g.front g.queue g.order j k),
        unread-dma w j (queue-dma In len w.ring w.bytes w.device t g.front g.queue g.order j k),
      ),
      λ (h, u). mem-of j (reached w.ring n w.device) (subst (Among j) (sym e)
          ((queued-iff In len w.ring w.bytes w.device t g.front g.queue g.order j (subst (λ (m : ℕ). j < m) (sym g.count) h)).1 (none-dma n len q w g j h (bridge n len q w g j h) u))),
    )
