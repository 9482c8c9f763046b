-- k bytes taken (receive) or accepted (transmit) on a sound ring, by what the walk did.
use Rattle.std.specs.Prelude.{ℕ, ◌+◌, ◌-◌, ◌≤◌, ◌<◌, min, ◌≡◌, refl, Bool, false, not, ◌&&◌, ◌||◌, ◌⊎◌, eqb, length}
use Rattle.std.proofs.Math.Path.{sym, ap, subst}
use Rattle.std.proofs.Common.{◌∙◌, arith, lt-ltb, le-ltb}
use Rattle.std.proofs.Math.Bool.{true}
use Rattle.std.proofs.Math.Logic.{inl, inr}
use mathlib.Core.List.{List}
use Rattle.std.proofs.Math.Decide.{dec_lt}
use Rattle.std.proofs.Math.Dec.{ltb}
use Rattle.std.proofs.Math.ListN.{drop, length-drop}
use Rattle.descriptors.specs.Record.{record_in, is_cpu, span_of}
use Rattle.descriptors.specs.Place.{turns}
use Rattle.descriptors.specs.Ring.{Ring, record_of, sound, offset_ok}
use Rattle.descriptors.specs.Walk.{run_data, available_in, standing, hand_over, begun, planned, moved_to, advanced, taken_in}
use Rattle.descriptors.specs.laws.Sound.{offset-least, offset-dma}
use Rattle.descriptors.specs.declared.record.DmaDescriptor.{DmaDescriptor}
use Rattle.descriptors.specs.declared.record.TransferDirection.{TransferDirection}
use Rattle.descriptors.specs.declared.record.TransferDirection.TheVariants.{In, Out}
use Rattle.ring_order.specs.Places.{place, place-lt, place-zero}
use Rattle.ring_order.specs.Geometry.{Geometry, within}
use Rattle.ring_order.specs.Shape.{Sound, Shape, sound-of, of-sound, grounds}
use Rattle.sound_ring.specs.Counts.{count_below, count_same, count-first, count-round}
use Rattle.sound_ring.specs.Given.{bare, bare-owner, bare-span, gone, kept, turns-shape, data-after, place-round}
use Rattle.sound_ring.specs.Walks.{Walked, Whole, Halts, all, barred, within as ends-within, walked, data-length}

or-true : (a : Bool) → (a || true) ≡ true
or-true true = refl
or-true false = refl

span-size : (dir : TransferDirection) (d : DmaDescriptor) → d.length ≤ d.size → span_of dir d ≤ d.size
span-size In d h = h
span-size Out d h = omega arith

offset-start : (dir : TransferDirection) (d : DmaDescriptor) → 0 < d.size → offset_ok dir d 0 ≡ true
offset-start In d h = refl
offset-start Out d h = rw (lt-ltb 0 d.size h) refl

offset-inside : (dir : TransferDirection) (d : DmaDescriptor) (o : ℕ) → is_cpu d.owner ≡ true → o < span_of dir d → offset_ok dir d o ≡ true
offset-inside In d o c h = rw (c, lt-ltb o d.length h) (or-true (eqb o 0))
offset-inside Out d o c h = rw (c, lt-ltb o d.size h) (or-true (eqb o 0))

never : (a : Bool) → (a && not a) ≡ false
never true = refl
never false = refl

module _ (dir : TransferDirection) (r : Ring) (len : ℕ) (s : sound dir r len ≡ true) where
  facts : Sound dir r len
  facts = sound-of dir r len s

  ground : Geometry r.count len
  ground = grounds r.count len r.descriptors facts.shape.laid

  two : 2 ≤ r.count
  two = omega (arith, ground.many)

  room : (b : List ℕ) → length b ≡ len → (i : ℕ) → i < r.count → (record_of r i).buffer + span_of dir (record_of r i) ≤ length b
  room b w i h =
      omega (arith, span-size dir (record_of r i) (facts.shape.lengths i h), facts.shape.laid.start i h, facts.shape.laid.room i h, within r.count len ground i h)

  -- as many bytes stand there as are available
  pub standing-length : (b : List ℕ) → length b ≡ len → length (standing dir r b) ≡ available_in dir r
  unfolding standing available_in
  standing-length b w =
      length-drop r.offset _ ∙ ap (λ (k : ℕ). k - r.offset) (data-length dir (record_in r.descriptors) b r.count (room b w) r.count r.idx facts.cursor)

  module _ (b : List ℕ) (w : length b ≡ len) (k : ℕ) where
    goes : Walked dir (record_in r.descriptors) b r.count r.count (begun r k) (planned dir r k)
    unfolding planned
    goes =
        walked dir (record_in r.descriptors) b r.count (room b w) r.count (begun r k) facts.cursor (omega arith)
        (offset-least dir (record_of r r.idx) r.offset facts.offset)

    g : ℕ
    g = goes.used

    back : (planned dir r k).back ≡ g
    unfolding g
    back = omega (arith, goes.back)

    after-all : List DmaDescriptor
    after-all = turns (hand_over dir r.count) r.count g r.idx r.descriptors

    records : (advanced dir r k).descriptors ≡ after-all
    unfolding after-all moved_to
    records = ap (λ (j : ℕ). turns (hand_over dir r.count) r.count j r.idx r.descriptors) back

    enough : r.count ≤ length r.descriptors
    enough = facts.shape.laid.enough

    -- "takes min(k, available)"
    pub takes : taken_in dir r k ≡ min k (available_in dir r)
    unfolding available_in
    takes = goes.taken

    -- what stands there afterwards is what stood there, less the bytes taken
    pub stands : standing dir (advanced dir r k) b ≡ drop (taken_in dir r k) (standing dir r b)
    unfolding standing moved_to after-all g
    stands =
        ap (λ (ds : List DmaDescriptor). drop (planned dir r k).offset (run_data dir (record_in ds) b r.count r.count (planned dir r k).at)) records
        ∙ ap (λ (i : ℕ). drop (planned dir r k).offset (run_data dir (record_in after-all) b r.count r.count i)) goes.at
        ∙ ap (drop (planned dir r k).offset) (data-after dir r.count b r.idx facts.cursor r.descriptors g two goes.few enough)
        ∙ ap (λ (i : ℕ). drop (planned dir r k).offset (run_data dir (record_in r.descriptors) b r.count (r.count - g) i)) (sym goes.at)
        ∙ sym goes.bytes

    -- the first g records from the cursor on were the CPU's and are the device's; the others are what they were, but for their links
    passed : (d : ℕ) → d < g → is_cpu (record_of r (place r.count r.idx d)).owner ≡ true
    unfolding g
    passed = goes.cpus

    given : (d : ℕ) → d < g → is_cpu (record_of (advanced dir r k) (place r.count r.idx d)).owner ≡ false
    unfolding g after-all
    given d l =
        ap (λ (ds : List DmaDescriptor). is_cpu (record_in ds (place r.count r.idx d)).owner) records
        ∙ gone dir r.count two g r.idx r.descriptors facts.cursor goes.few enough d l

    left : (d : ℕ) → g ≤ d → d < r.count → bare (record_of (advanced dir r k) (place r.count r.idx d)) ≡ bare (record_of r (place r.count r.idx d))
    unfolding g after-all
    left d l h =
        ap (λ (ds : List DmaDescriptor). bare (record_in ds (place r.count r.idx d))) records
        ∙ kept dir r.count two g r.idx r.descriptors facts.cursor goes.few enough d l h

    -- the records whose owner went to the device
    abbrev pub went : ℕ → Bool
    went j = is_cpu (record_of r j).owner && not (is_cpu (record_of (advanced dir r k) j).owner)

    went-at : (d : ℕ) → d < r.count → went (place r.count r.idx d) ≡ ltb d g
    went-at d h = go (dec_lt d g)
      where
        go : Dec (d < g) → (is_cpu (record_of r (place r.count r.idx d)).owner && not (is_cpu (record_of (advanced dir r k) (place r.count r.idx d)).owner)) ≡ ltb d g
        go (yes l) = rw (passed d l, given d l, lt-ltb d g l) refl
        go (no l) = rw (bare-owner (record_of (advanced dir r k) (place r.count r.idx d)) (record_of r (place r.count r.idx d)) (left d (omega arith) h), le-ltb d g (omega arith)) (never (is_cpu (record_of r (place r.count r.idx d)).owner))

    pub counted : count_below went r.count ≡ (planned dir r k).back
    unfolding g
    counted =
        sym (count-round went r.count r.idx facts.cursor) ∙ count_same (λ d. went (place r.count r.idx d)) (λ d. ltb d g) r.count went-at ∙ count-first g r.count goes.few
        ∙ sym back

    -- where the cursor then stands: at the start of a record of the device's, or inside one of the CPU's
    at : (advanced dir r k).idx ≡ place r.count r.idx g
    unfolding g moved_to
    at = goes.at

    abbrev Stood : Type 0
    Stood =
        ((is_cpu (record_of (advanced dir r k) (advanced dir r k).idx).owner ≡ false) × ((advanced dir r k).offset ≡ 0))
        ⊎ ((is_cpu (record_of (advanced dir r k) (advanced dir r k).idx).owner ≡ true) × ((advanced dir r k).offset < span_of dir (record_of (advanced dir r k) (advanced dir r k).idx)))

    -- all the records went: the cursor has come round to the first of them
    all-gone : g ≡ r.count → is_cpu (record_of (advanced dir r k) (advanced dir r k).idx).owner ≡ false
    all-gone e =
        ap (λ (i : ℕ). is_cpu (record_of (advanced dir r k) i).owner) (at ∙ ap (place r.count r.idx) e ∙ place-round r.count r.idx facts.cursor ∙ sym (place-zero r.count r.idx facts.cursor))
        ∙ given 0 (omega (arith, two))

    whole-start : (g ≡ 0 → ⊥) → Whole g (begun r k) (planned dir r k) → (planned dir r k).offset ≡ 0
    whole-start ne (inl z) = z
    whole-start ne (inr z) = absurd (ne z.0)

    -- some did not: the cursor's record is what it was
    here : g < r.count → bare (record_of (advanced dir r k) (advanced dir r k).idx) ≡ bare (record_of r (planned dir r k).at)
    unfolding g
    here h =
        ap (λ (i : ℕ). bare (record_of (advanced dir r k) i)) at ∙ left g (omega arith) h
        ∙ ap (λ (i : ℕ). bare (record_of r i)) (sym goes.at)

    whole-dma : is_cpu (record_of r (planned dir r k).at).owner ≡ false → Whole g (begun r k) (planned dir r k) → (planned dir r k).offset ≡ 0
    unfolding g
    whole-dma e (inl z) = z
    whole-dma e (inr z) =
        z.1
        ∙ offset-dma dir (record_of r r.idx) r.offset facts.offset
        (ap (λ (i : ℕ). is_cpu (record_of r i).owner) (sym (goes.at ∙ ap (place r.count r.idx) z.0 ∙ place-zero r.count r.idx facts.cursor)) ∙ e)

    stood : Stood
    unfolding g moved_to
    stood = go goes.halts (dec_lt g r.count)
      where
        go : Halts dir (record_in r.descriptors) r.count g (begun r k) (planned dir r k) → Dec (g < r.count) → Stood
        go (all e w) (yes h) = absurd (omega arith)
        go (barred e w) (yes h) = inl (ap is_cpu (bare-owner (record_of (advanced dir r k) (advanced dir r k).idx) (record_of r (planned dir r k).at) (here h)) ∙ e, whole-dma e w)
        go (ends-within x e l) (yes h) = inr (ap is_cpu (bare-owner (record_of (advanced dir r k) (advanced dir r k).idx) (record_of r (planned dir r k).at) (here h)) ∙ e, rw (bare-span dir (record_of (advanced dir r k) (advanced dir r k).idx) (record_of r (planned dir r k).at) (here h)) l)
        go (all e w) (no h) = inl (all-gone e, whole-start (λ z. omega (arith, two)) w)
        go (barred e w) (no h) = inl (all-gone (omega (arith, goes.few)), whole-start (λ z. omega (arith, two)) w)
        go (ends-within x e l) (no h) = absurd (omega arith)

    pub live : (is_cpu (record_of (advanced dir r k) (advanced dir r k).idx).owner ≡ false) ⊎ ((advanced dir r k).offset < span_of dir (record_of (advanced dir r k) (advanced dir r k).idx))
    live = go stood
      where
        go : Stood → (is_cpu (record_of (advanced dir r k) (advanced dir r k).idx).owner ≡ false) ⊎ ((advanced dir r k).offset < span_of dir (record_of (advanced dir r k) (advanced dir r k).idx))
        go (inl h) = inl h.0
        go (inr h) = inr h.1

    pub kept-sound : sound dir (advanced dir r k) len ≡ true
    unfolding moved_to g after-all
    kept-sound =
        let shape : Shape r.count len (advanced dir r k).descriptors =
        subst (Shape r.count len) (sym records) (turns-shape dir r.count two len g r.idx r.descriptors facts.cursor facts.shape) in
        let here : (advanced dir r k).idx < r.count = rw at (place-lt r.count r.idx g facts.cursor goes.few) in
        of-sound dir (advanced dir r k) len record {
          shape = shape;
          prefilled = facts.prefilled;
          cursor = here;
          offset = go (omega (arith, shape.laid.room (advanced dir r k).idx here, ground.some (advanced dir r k).idx here)) stood;
        }
      where
        go : 0 < (record_of (advanced dir r k) (advanced dir r k).idx).size → Stood → offset_ok dir (record_of (advanced dir r k) (advanced dir r k).idx) (advanced dir r k).offset ≡ true
        go z (inl h) = rw h.1 (offset-start dir (record_of (advanced dir r k) (advanced dir r k).idx) z)
        go z (inr h) = offset-inside dir (record_of (advanced dir r k) (advanced dir r k).idx) (advanced dir r k).offset h.0 h.1
