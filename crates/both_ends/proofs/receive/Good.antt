-- What holds of the world after every action: the ring in its order, every record of the run with a byte at least, and both ends.
use Rattle.std.specs.Prelude.{◌≡◌, refl, Bool, true, List, ◌++◌, ℕ, ◌%◌, ◌^◌, length, drop, Ok, Err}
use Rattle.std.proofs.Common.{sym, ◌∙◌, subst, arith}
use Rattle.std.proofs.Math.Path.{ap}
use Rattle.std.proofs.Math.Bool.{cond}
use Rattle.descriptors.specs.Ring.{sound}
use Rattle.descriptors.specs.Walk.{standing, available_in}
use Rattle.descriptors.specs.declared.record.TransferDirection.TheVariants.{In}
use Rattle.descriptors.specs.declared.refusal.DmaBufError.TheVariants.{BadState}
use Rattle.rx_stream.specs.Receive.{available_of}
use Rattle.ring_order.specs.Lists.{Somes}
use Rattle.ring_order.specs.View.{Cell}
use Rattle.ring_order.specs.Queue.{helds, cat}
use Rattle.ring_order.specs.Give.{standing-run, available-run}
use Rattle.ring_order.specs.Order.{Order, order-sound}
use Rattle.ring_order.specs.Skeleton.{Move, gives}
use Rattle.both_ends.specs.Demand3.{World}

-- of a ring of n records with a buffer of len bytes, when q records are queued; "a receive step fills 1 to size bytes", so that each
-- record of the run holds a byte at least
pub record Good (n len q : ℕ) (w : World) : Type 0 where
  pub count : w.ring.count ≡ n
  pub front : List Cell
  pub queue : List Cell
  pub size : length queue ≡ q
  pub order : Order In len w.ring w.bytes w.device (length w.visited) front queue
  pub some : Somes (helds front)
  pub ends : w.by_steps ≡ w.by_calls ++ drop w.ring.offset (cat front)
  pub tally : w.ring.tally ≡ length w.by_calls % 2 ^ 32

-- an action leads from w to a world that is good again, by one of the two moves
abbrev pub Leads : ℕ → ℕ → ℕ → World → World → Type 0
Leads n len q w v = (p : ℕ) × Good n len p v × Move n q w.device w.visited p v.device v.visited

module _ (n len q : ℕ) (w : World) (g : Good n len q w) where
  pub good-sound : sound In w.ring (length w.bytes) ≡ true
  good-sound =
      subst (λ (l : ℕ). sound In w.ring l ≡ true) (sym g.order.parted.stored.whole)
      (order-sound In len w.ring w.bytes w.device (length w.visited) g.front g.queue g.order)

  pub good-standing : standing In w.ring w.bytes ≡ drop w.ring.offset (cat g.front)
  good-standing = standing-run In len w.ring w.bytes g.front g.queue g.order.parted

  pub good-ends : w.by_steps ≡ w.by_calls ++ standing In w.ring w.bytes
  good-ends = g.ends ∙ ap (λ (l : List ℕ). w.by_calls ++ l) (sym good-standing)

  pub good-available : available_of w.ring (length w.bytes) ≡ Ok (length (standing In w.ring w.bytes))
  unfolding available_of
  good-available =
      ap (λ (t : Bool). cond t (Ok (available_in In w.ring)) (Err BadState)) good-sound
      ∙ ap Ok (available-run In len w.ring w.bytes g.front g.queue g.order.parted)

  -- nothing happens
  pub idle : Leads n len q w w
  idle = (q, g, gives refl (omega arith) refl)
