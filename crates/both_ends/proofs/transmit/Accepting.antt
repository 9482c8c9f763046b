-- "Advance and commit accept the bytes then standing there": on every sound ring, whatever its owners, what goes out afterwards is what
-- went out before, followed by those bytes; the ring stays sound; a record that is partly filled waits as it was.
use Rattle.std.specs.Prelude.{◌≡◌, Bool, true, false, cond, ℕ, ◌+◌, ◌-◌, ◌%◌, ◌^◌, ◌≤◌, ◌<◌, length, take, drop, None}
use Rattle.std.proofs.Math.Path.{refl, ap, subst}
use Rattle.std.proofs.Common.{sym, ◌∙◌, inl, inr, arith, take-add}
use mathlib.Core.List.{List, [], ◌∷◌, ◌++◌, append_assoc, map}
use Rattle.std.proofs.Math.Nat.{zero-add}
use Rattle.std.proofs.Math.Seq.{take-append-add}
use Rattle.descriptors.specs.Record.{record_in, is_cpu, with_next}
use Rattle.descriptors.specs.Place.{turns}
use Rattle.descriptors.specs.Ring.{Ring, record_of, sound}
use Rattle.descriptors.specs.Walk.{available_in, standing, hand_over, begun, planned, moved_to, advanced}
use Rattle.descriptors.specs.declared.record.Owner.TheVariants.{Cpu}
use Rattle.descriptors.specs.declared.record.DmaDescriptor.{DmaDescriptor}
use Rattle.descriptors.specs.declared.record.TransferDirection.TheVariants.{Out}
use Rattle.descriptors.specs.declared.walk.Moved.{Moved}
use Rattle.descriptors.specs.laws.Walks.{walk-rest}
use Rattle.ring_order.specs.Shape.{Sound, sound-of, of-sound}
use Rattle.sound_ring.specs.Laws.{takes-min, still-sound}
use Rattle.ring_order.specs.Tests.{cpu-test}
use Rattle.ring_order.specs.View.{Cell, cell_in, view, hand_c, own, cursor-cell, view-some}
use Rattle.ring_order.specs.Queue.{cat, cat-append, join, cpu_run, spans, bare, bares, same-helds}
use Rattle.both_ends.specs.Demand3.{queued_in, pending_in}
use Rattle.ring_order.specs.Handing.{Shows, shows-turned}
use Rattle.ring_order.specs.Walking.{run-append, Into, Halts, Reaches, reaches}
use Rattle.both_ends.proofs.transmit.Bytes.{sends, sends-append, sends-same, sends-cpus, sends-handed, spans-cat, stored_of, seen, into, queued-is, pending-is, standing-is}

-- ---- cells but for their links, and cells handed over

bare-cond : (t : Bool) (x : Cell) (xs : List Cell) → bares (cond t (x ∷ xs) []) ≡ cond t (bare x ∷ bares xs) []
bare-cond true x xs = refl
bare-cond false x xs = refl

run-bares : (xs : List Cell) → bares (cpu_run xs) ≡ cpu_run (bares xs)
run-bares [] = refl
run-bares (x ∷ xs) = bare-cond (is_cpu x.desc.owner) x (cpu_run xs) ∙ ap (λ (l : List Cell). cond (is_cpu x.desc.owner) (bare x ∷ l) []) (run-bares xs)

run-same : (xs ys : List Cell) → bares xs ≡ bares ys → cat (cpu_run xs) ≡ cat (cpu_run ys)
run-same xs ys e = ap join (same-helds (cpu_run xs) (cpu_run ys) (run-bares xs ∙ ap cpu_run e ∙ sym (run-bares ys)))

run-handed : (b : List ℕ) (xs us : List Cell) → cpu_run (xs ++ map (hand_c Out b) us) ≡ cpu_run xs
run-handed b [] [] = refl
run-handed b [] (u ∷ us) = refl
run-handed b (x ∷ xs) us = ap (λ (l : List Cell). cond (is_cpu x.desc.owner) (x ∷ l) []) (run-handed b xs us)

pub into-run : (o : ℕ) (xs : List Cell) → Into Out o xs → o ≤ spans Out (cpu_run xs)
into-run o [] h = omega arith
into-run o (x ∷ xs) (inl e) = omega arith
into-run o (x ∷ xs) (inr (c, h)) = subst (λ (t : Bool). o ≤ spans Out (cond t (x ∷ cpu_run xs) [])) (sym (cpu-test x.desc.owner c)) (omega arith)

-- ---- k bytes accepted

pub advanced-count : (r : Ring) (k : ℕ) → (advanced Out r k).count ≡ r.count
unfolding moved_to
advanced-count r k = refl

module _ (r : Ring) (b : List ℕ) (s : Sound Out r (length b)) (k : ℕ) (h : k ≤ available_in Out r) where
  abbrev plan : Moved
  plan = planned Out r k

  walked : Reaches Out r.count (begun r k) (planned Out r k) (seen r b s)
  unfolding planned
  walked = reaches Out r.descriptors b r.count r.count (begun r k) (into r b s)

  abbrev used : List Cell
  used = walked.used

  abbrev left : List Cell
  left = walked.rest

  run-parts : cpu_run (seen r b s) ≡ used ++ cpu_run left
  run-parts = ap cpu_run walked.parts ∙ run-append used left walked.cpus

  passes : sound Out r (length b) ≡ true
  passes = of-sound Out r (length b) s

  pub all-taken : (planned Out r k).rest ≡ 0
  unfolding planned
  all-taken = omega (arith, takes-min Out r (length b) passes k, walk-rest Out (record_in r.descriptors) r.count r.count (begun r k))

  used-length : spans Out used ≡ length (cat used)
  used-length = spans-cat r.count (length b) r.descriptors b r.idx (stored_of r b s) [] used left walked.parts

  -- the k bytes behind what is pending fill the used records, and go on into the next
  filled-up : take (r.offset + k) (cat (cpu_run (seen r b s))) ≡ cat used ++ take plan.offset (cat (cpu_run left))
  filled-up =
      let e : r.offset + k ≡ length (cat used) + plan.offset = omega (arith, walked.counted, all-taken, used-length) in
      ap (λ (m : ℕ). take m (cat (cpu_run (seen r b s)))) e
      ∙ ap (λ (l : List ℕ). take (length (cat used) + plan.offset) l) (ap cat run-parts ∙ cat-append used (cpu_run left))
      ∙ take-append-add (cat used) (cat (cpu_run left)) plan.offset

  -- ---- the ring afterwards

  shown : Shows Out r.count (length b) b (advanced Out r k).descriptors (advanced Out r k).idx (left ++ map (hand_c Out b) used)
  unfolding moved_to
  shown =
      subst (λ (g : ℕ). Shows Out r.count (length b) b (turns (hand_over Out r.count) r.count g r.idx r.descriptors) plan.at (left ++ map (hand_c Out b) used)) (sym (walked.back ∙ zero-add (length used)))
      (subst (λ (a : ℕ). Shows Out r.count (length b) b (turns (hand_over Out r.count) r.count (length used) r.idx r.descriptors) a (left ++ map (hand_c Out b) used)) (sym walked.at)
      (shows-turned Out r.count (length b) b used r.descriptors r.idx left record { stored = stored_of r b s; seen = ap bares walked.parts }))

  -- SOUND IS KEPT
  pub advanced-sound : Sound Out (advanced Out r k) (length b)
  advanced-sound = sound-of Out (advanced Out r k) (length b) (still-sound Out r (length b) passes k)

  pub advanced-tally : (advanced Out r k).tally ≡ (r.tally + k) % 2 ^ 32
  unfolding moved_to
  advanced-tally = ap (λ (m : ℕ). (r.tally + m) % 2 ^ 32) {x = k - plan.rest} {y = k} (omega (arith, all-taken))

  queued-then : queued_in (advanced Out r k) b ≡ sends left ++ cat used
  unfolding moved_to
  queued-then =
      queued-is (advanced Out r k) b advanced-sound
      ∙ sends-same (seen (advanced Out r k) b advanced-sound) (left ++ map (hand_c Out b) used) shown.seen
      ∙ sends-append left (map (hand_c Out b) used)
      ∙ ap (λ (l : List ℕ). sends left ++ l) (sends-handed r.count (length b) r.descriptors b r.idx (stored_of r b s) [] used left walked.parts)

  pending-then : pending_in (advanced Out r k) b ≡ take plan.offset (cat (cpu_run left))
  unfolding moved_to
  pending-then =
      pending-is (advanced Out r k) b advanced-sound
      ∙ ap (take plan.offset) (run-same (seen (advanced Out r k) b advanced-sound) (left ++ map (hand_c Out b) used) shown.seen ∙ ap cat (run-handed b left used))

  queued-now : queued_in r b ≡ sends left
  queued-now = queued-is r b s ∙ ap sends walked.parts ∙ sends-append used left ∙ ap (λ (l : List ℕ). l ++ sends left) (sends-cpus used walked.cpus)

  -- WHAT GOES OUT is what went out, followed by the k bytes then standing there
  pub advanced-outgoing : queued_in (advanced Out r k) b ++ pending_in (advanced Out r k) b ≡ (queued_in r b ++ pending_in r b) ++ take k (standing Out r b)
  advanced-outgoing =
      let L : List ℕ = cat (cpu_run (seen r b s)) in
      ap (λ (l : List ℕ). l ++ pending_in (advanced Out r k) b) queued-then
      ∙ ap (λ (l : List ℕ). (sends left ++ cat used) ++ l) pending-then
      ∙ append_assoc (sends left) (cat used) (take plan.offset (cat (cpu_run left)))
      ∙ ap (λ (l : List ℕ). sends left ++ l) (sym filled-up ∙ take-add r.offset k L)
      ∙ sym (append_assoc (sends left) (take r.offset L) (take k (drop r.offset L)))
      ∙ ap (λ (l : List ℕ). (l ++ take r.offset L) ++ take k (drop r.offset L)) (sym queued-now)
      ∙ ap (λ (l : List ℕ). (queued_in r b ++ l) ++ take k (drop r.offset L)) (sym (pending-is r b s))
      ∙ ap (λ (l : List ℕ). (queued_in r b ++ pending_in r b) ++ take k l) (sym (standing-is r b s))

  -- ---- "a partly filled one waits as CPU": its owner, its length and its EOF mark stay

  waits-at : (xs vs : List Cell) → Halts Out plan.offset plan.rest xs → seen r b s ≡ used ++ xs → view Out r.count (advanced Out r k).descriptors b (advanced Out r k).idx ≡ vs
      → bares vs ≡ bares (xs ++ map (hand_c Out b) used) → 0 < plan.offset
      → ((record_of r (advanced Out r k).idx).owner ≡ Cpu) × (with_next None (record_in (advanced Out r k).descriptors (advanced Out r k).idx) ≡ with_next None (record_of r (advanced Out r k).idx))
  waits-at [] vs z v w e l = absurd (omega arith)
  waits-at (y ∷ ys) [] z v w e l = absurd (view-some Out r.count (advanced Out r k).descriptors b (advanced Out r k).idx shown.stored.cursor w)
  waits-at (y ∷ ys) (x ∷ vs) (inr (d, z)) v w e l = absurd (omega arith)
  waits-at (y ∷ ys) (x ∷ vs) (inl (c, q, z)) v w e l =
      let p : bare x ≡ bare y = cc in
      let i : x ≡ cell_in Out (advanced Out r k).descriptors b (advanced Out r k).idx = cursor-cell Out r.count (advanced Out r k).descriptors b (advanced Out r k).idx shown.stored.cursor vs x w in
      let j : y ≡ cell_in Out r.descriptors b y.idx = (own Out r.count r.descriptors b r.idx s.cursor used ys y v).1 in
      let m : y.idx ≡ (advanced Out r k).idx = ap (λ (t : Cell). t.idx) (sym p) ∙ ap (λ (t : Cell). t.idx) i in
      let n : y.desc ≡ record_of r (advanced Out r k).idx = ap (λ (t : Cell). t.desc) j ∙ ap (record_of r) m in (
        ap (λ (t : DmaDescriptor). t.owner) (sym n) ∙ c,
        ap (λ (t : Cell). with_next None t.desc) (sym i) ∙ ap (λ (t : Cell). t.desc) p ∙ ap (with_next None) n,
      )

  pub advanced-waits : 0 < (advanced Out r k).offset
      → ((record_of r (advanced Out r k).idx).owner ≡ Cpu) × (with_next None (record_of (advanced Out r k) (advanced Out r k).idx) ≡ with_next None (record_of r (advanced Out r k).idx))
  unfolding moved_to
  advanced-waits l = waits-at left (view Out r.count (advanced Out r k).descriptors b (advanced Out r k).idx) walked.halts walked.parts refl shown.seen l
