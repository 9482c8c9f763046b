-- A ring that was built and prepared: every record is queued, in order.
use Rattle.std.specs.Prelude.{◌≡◌, refl, true, List, [], ℕ, zero, suc, ◌^◌, ◌<◌, length, Ok, Some}
use Rattle.std.proofs.Common.{sym, ◌∙◌, ap, subst, inr, arith}
use Rattle.std.proofs.Math.Nat.{zero-mod}
use Rattle.descriptors.specs.Record.{record_in}
use Rattle.descriptors.specs.Split.{laid_out}
use Rattle.descriptors.specs.Ring.{Ring, fresh, new_of, split_sound, linked_all}
use Rattle.descriptors.specs.declared.record.DmaDescriptor.{DmaDescriptor}
use Rattle.descriptors.specs.declared.record.TransferDirection.TheVariants.{In}
use Rattle.rx_stream.specs.Receive.{prepared_ring, prepare_of}
use Rattle.ring_order.specs.Places.{place, place-zero, turn}
use Rattle.ring_order.specs.Lists.{tab}
use Rattle.ring_order.specs.Shape.{Laid, Shape, grounds, laid_of}
use Rattle.ring_order.specs.Stores.{Fits, shape-keeps}
use Rattle.ring_order.specs.View.{Cell, cell_in, view}
use Rattle.ring_order.specs.Queue.{idxs, first}
use Rattle.ring_order.specs.Order.{Order}
use Rattle.ring_order.specs.Begin.{new-ready, new_split, linked-record, linked-length, linked-view, view-zero, following-below}
use Rattle.both_ends.specs.Demand3.{World, world, built, prepared}
use Rattle.both_ends.proofs.receive.Good.{Good}

-- ---- `prepare`

prepare-ring : (r : Ring) (len : ℕ) → split_sound r len ≡ true → (prepare_of r len).ring ≡ prepared_ring r
unfolding prepare_of
prepare-ring r len e = rw e refl

-- ---- all records are queued

prepared-shape : (n len : ℕ) (ds : List DmaDescriptor) → Laid n len ds → Shape n len (linked_all In n ds)
prepared-shape n len ds l = shape-keeps n len ds (linked_all In n ds) l (linked-length In n ds l.enough) (λ i h. go i h)
  where
    go : (i : ℕ) → i < n → Fits n (record_in ds i) (record_in (linked_all In n ds) i)
    go i h = subst (Fits n (record_in ds i)) (sym (linked-record In n ds l.enough i h)) record { start = refl; room = refl; length = omega arith; next = following-below n i h }

first-tab : (n : ℕ) (f : ℕ → Cell) → 0 < n → first (idxs (tab n f)) ≡ Some (f 0).idx
first-tab zero f h = absurd (omega arith)
first-tab (suc n) f h = refl

turn-none : (n : ℕ) → 0 < n → place n 0 0 ≡ turn n 0
unfolding turn
turn-none n h = place-zero n 0 h

prepared-order : (r : Ring) (len : ℕ) (b : List ℕ) → length b ≡ len → split_sound r len ≡ true
    → Order In len (prepared_ring r) b (Some 0) 0 [] (view In r.count (linked_all In r.count r.descriptors) b 0)
prepared-order r len b e h =
    let (l, p) = laid_of r len h in
    let n : ℕ = r.count in
    let hn : 0 < r.count = omega (arith, (grounds r.count len r.descriptors l).many) in
    let es : List DmaDescriptor = linked_all In n r.descriptors in
    record {
      prefilled = p;
      parted = record {
        stored = record { shape = prepared-shape n len r.descriptors l; whole = e; cursor = hn };
        seen = refl;
        cpus = tt;
        linked = linked-view In n r.descriptors b hn l.enough;
        offset = refl;
      };
      stands = inr (sym (ap (λ (v : List Cell). first (idxs v)) (view-zero In n es b hn) ∙ first-tab n (cell_in In es b) hn));
      turned = turn-none n hn;
    }

-- ---- the world at the start

module _ (ds : List DmaDescriptor) (n : ℕ) (bytes : List ℕ) where
  abbrev made : Ring
  made = (new_of In ds n (length bytes)).ring

  abbrev world_of : Ring → World
  world_of r = world r bytes (Some 0) [] [] []

  pub start-good : (new_of In ds n (length bytes)).answer ≡ Ok tt → (q : ℕ) × Good n (length bytes) q (prepared prepare_of (built In ds n bytes))
  start-good new =
      let h = new_split In ds n (length bytes) new in
      let e = prepare-ring made (length bytes) h in
      let m : made ≡ fresh (laid_out In n (length bytes) ds) n = (new-ready In ds n (length bytes) new).ring in (
        length (view In made.count (linked_all In made.count made.descriptors) bytes 0),
        subst (λ (r : Ring). Good n (length bytes) (length (view In made.count (linked_all In made.count made.descriptors) bytes 0)) (world_of r)) (sym e) record {
          count = ap (λ (r : Ring). r.count) m;
          front = [];
          queue = view In made.count (linked_all In made.count made.descriptors) bytes 0;
          size = refl;
          order = prepared-order made (length bytes) bytes refl h;
          some = tt;
          ends = refl;
          tally = ap (λ (r : Ring). r.tally) m ∙ sym (zero-mod (2 ^ 32));
        },
      )
