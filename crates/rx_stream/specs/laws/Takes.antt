-- What is taken from the words is what is taken from the records that they show.
use Rattle.std.specs.Prelude.{◌≡◌, ℕ, ◌≤◌, Bool, true, false, ◌&&◌, ◌||◌, List, [], ◌==◌, refl, Err}
use Rattle.std.proofs.Common.{sym, ◌∙◌, arith, le-leb}
use Rattle.std.proofs.Math.Path.{ap}
use Rattle.descriptors.specs.Record.{limit, record_in, is_cpu, up_to}
use Rattle.descriptors.specs.Place.{turns}
use Rattle.descriptors.specs.Cells.{are_records, records_of, record_at, cells_now}
use Rattle.descriptors.specs.Stores.{hand_cells, hand_all, link_cells, link_all}
use Rattle.descriptors.specs.Ring.{Ring, ring_of, head_of, record_of, sound, split_sound, linked_all, judged}
use Rattle.descriptors.specs.Walk.{begun, planned, moved_to, advanced, taken_in, run_bytes, available_in}
use Rattle.descriptors.specs.laws.Stores.{run-lifts, all-linked, hand_in, link-in}
use Rattle.descriptors.specs.laws.Walks.{cells-alike, walk-alike, run-alike, run-go, walk-in, planned-few}
use Rattle.descriptors.specs.laws.Words.{cells_are}
use Rattle.descriptors.specs.laws.Sound.{Facts, facts, split-facts, split-records, sound-split, offset-least, offset-dma}
use Rattle.descriptors.specs.laws.Tests.{not-both}
use Rattle.descriptors.specs.declared.record.TransferDirection.TheVariants.{In}
use Rattle.descriptors.specs.declared.refusal.DmaBufError.{DmaBufError}
use Rattle.descriptors.specs.declared.refusal.DmaBufError.TheVariants.{BadState}
use Rattle.descriptors.specs.declared.ring.Head.{Head}
use Rattle.descriptors.specs.declared.walk.Moved.{Moved}
use Rattle.rx_stream.specs.Receive.{idle}
use Rattle.descriptors.specs.Moves.{moved_in, head_moved, room_in}
use Rattle.rx_stream.specs.Faces.{took_by}
use Rattle.descriptors.specs.Refusal.{Answer}
use Rattle.rx_stream.specs.laws.Flats.{cells-like}

-- what a refusal of the judge tells
pub unsound : (b : Bool) {d : Answer Unit} {e : DmaBufError} → d ≡ judged b → d ≡ Err e → (b ≡ false) × (e ≡ BadState)
unsound true {e = e} p q = not-both (let z : judged true ≡ Err e = sym p ∙ q in cc)
unsound false {e = e} p q = (refl, (let z : judged false ≡ Err e = sym p ∙ q in cc))

-- the words of a sound ring
module _ (st ws : List ℕ) (h : Head) (len : ℕ) (s : sound In (ring_of st ws h) len ≡ true) where
  pub known : Facts In (ring_of st ws h) len
  known = facts In (ring_of st ws h) len s

  pub held : are_records st ws ≡ true
  held = split-records st ws h len (sound-split In (ring_of st ws h) len s)

  pub step-planned : (k : ℕ) → moved_in In ws h k ≡ planned In (ring_of st ws h) k
  unfolding moved_in planned
  step-planned k =
      walk-in In (record_at [] ws) h.count _ known.split.parts.many
      ∙ walk-alike In (record_at [] ws) (record_in (records_of st ws)) h.count (cells-alike In st ws held) h.count (begun (ring_of st ws h) k)

  pub taken-cells : (k : ℕ) → hand_all In h.count (moved_in In ws h k).back h.descriptor_idx ws ≡ cells_now st ws (advanced In (ring_of st ws h) k).descriptors
  unfolding moved_to
  taken-cells k =
      let g : ℕ = (planned In (ring_of st ws h) k).back in
      let b = run-lifts In st h.count g h.descriptor_idx known.split.parts.many known.within ws held in
      ap (λ (m : Moved). hand_all In h.count m.back h.descriptor_idx ws) (step-planned k)
      ∙ hand_in In h.count g h.descriptor_idx ws (planned-few In (ring_of st ws h) k known.split.parts.many)
      ∙ cells_are st ws (turns (hand_cells In h.count) h.count g h.descriptor_idx ws) _ held b.0 b.1

  -- the head then, and what is reported
  pub moved-head : (k : ℕ) → head_moved h k (moved_in In ws h k) ≡ head_of (advanced In (ring_of st ws h) k)
  unfolding moved_to
  moved-head k = ap (head_moved h k) (step-planned k)

  pub took-known : (k : ℕ) → took_by k (moved_in In ws h k) ≡ record { taken = taken_in In (ring_of st ws h) k; back = (planned In (ring_of st ws h) k).back }
  took-known k = ap (took_by k) (step-planned k)

  -- the offset is one of the run's bytes
  pub offset-run : h.descriptor_offset ≤ run_bytes In (record_in (records_of st ws)) h.count h.count h.descriptor_idx
  offset-run = go (is_cpu (record_of r r.idx).owner) refl
    where
      r : Ring
      r = ring_of st ws h

      go : (a : Bool) → is_cpu (record_of r r.idx).owner ≡ a → r.offset ≤ run_bytes In (record_in r.descriptors) r.count r.count r.idx
      go true e =
          omega (
            arith,
            offset-least In (record_of r r.idx) r.offset known.offset,
            run-go In (record_in r.descriptors) r.count r.count r.idx (omega (arith, known.within)) e,
          )
      go false e = omega (arith, offset-dma In (record_of r r.idx) r.offset known.offset e)

  pub idle-shown : (k : ℕ) → (k == 0 || (is_cpu (record_at [] ws h.descriptor_idx).owner && (record_at [] ws h.descriptor_idx).length == 0)) ≡ idle (ring_of st ws h) k
  idle-shown k = let s = cells-like st ws held in rw (s.owner h.descriptor_idx, s.length h.descriptor_idx) refl

  pub run-shown : run_bytes In (record_at [] ws) h.count h.count h.descriptor_idx ≡ run_bytes In (record_in (records_of st ws)) h.count h.count h.descriptor_idx
  run-shown = run-alike In (record_at [] ws) (record_in (records_of st ws)) h.count (cells-alike In st ws held) h.count h.descriptor_idx

  -- what the code reads of the words: what is available
  pub room-known : room_in In ws h ≡ available_in In (ring_of st ws h)
  unfolding room_in available_in
  room-known = rw (le-leb h.count limit known.split.parts.many, run-shown) refl

pub linked-cells : (st ws : List ℕ) (h : Head) (len : ℕ) → split_sound (ring_of st ws h) len ≡ true
    → link_all In h.count ws ≡ cells_now st ws (linked_all In h.count (records_of st ws))
linked-cells st ws h len s =
    let a = split-records st ws h len s in
    let b = all-linked In st h.count (split-facts (ring_of st ws h) len s).parts.many ws a in
    link-in In h.count ws (split-facts (ring_of st ws h) len s).parts.many ∙ cells_are st ws (up_to (link_cells In h.count) h.count ws) _ a b.0 b.1
