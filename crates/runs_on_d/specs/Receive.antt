-- Document 01's receive run on D (n = 4, 14 bytes), computed in the world of demand 3 from records and bytes that hold anything. "Run and
-- compared, on D, bytes in hex: the device fills 01 02 03, then 04 05 with EOF. Available 5; peek and peek_until_eof give all five, the
-- latter with yes. Pop 4: 01 02 03 04, cursor (1,1), next of 3 is 0, next of 0 none. Pop 4: 05, cursor (2,0). Fill 06 07 08, then
-- 09 0A 0B 0C 0D. Pop 5 leaves (3,2). peek: 0B 0C 0D .."
use Rattle.std.specs.Prelude.{Bool, ◌≡◌, refl, true, false, List, [], ◌∷◌, ℕ, length, replicate, Ok, Some, None, Option}
use Rattle.descriptors.specs.Place.{turns}
use Rattle.descriptors.specs.Record.{up_to}
use Rattle.descriptors.specs.Split.{split_of, start_of, size_of, laid_out}
use Rattle.descriptors.specs.Ring.{record_of, new_of, linked_all, split_sound, sound}
use Rattle.descriptors.specs.Walk.{run_bytes, available_in, run_data, standing, walk, hand_over, planned, moved_to}
use Rattle.descriptors.specs.declared.record.Owner.TheVariants.{Cpu}
use Rattle.descriptors.specs.declared.record.DmaDescriptor.{DmaDescriptor}
use Rattle.descriptors.specs.declared.record.TransferDirection.TheVariants.{In}
use Rattle.rx_stream.specs.Receive.{prepare_of, available_of, flat_bytes, flat_eof, peek_of, peek_eof_of, consume_of, pop_of, popped_over}
use Rattle.device.specs.Device.{receive_of, receive_into}
use Rattle.both_ends.specs.Demand3.{World, run, built, prepared, RxAction, pop, fill, rx_step, reached, Receive}
use Rattle.descriptors.specs.Refusal.{Answer}
use Rattle.both_ends.proofs.Theorem.{demand3}

-- lent: records and bytes that hold anything
abbrev lent : DmaDescriptor
lent = record { buffer = 77; size = 5; length = 9; suc_eof = true; owner = Cpu; next = Some 2 }

abbrev records : List DmaDescriptor
records = lent ∷ lent ∷ lent ∷ lent ∷ lent ∷ []

abbrev ready : World
ready = prepared prepare_of (built In records 4 (replicate 14 255))

abbrev filled : World
filled = run rx_step ready (fill (1 ∷ 2 ∷ 3 ∷ []) false ∷ fill (4 ∷ 5 ∷ []) true ∷ [])

abbrev popped : World
popped = run rx_step filled (pop (replicate 4 0) ∷ [])

abbrev again : World
again = run rx_step popped (pop (replicate 4 0) ∷ [])

abbrev end : World
end = run rx_step again (fill (6 ∷ 7 ∷ 8 ∷ []) false ∷ fill (9 ∷ 10 ∷ 11 ∷ 12 ∷ 13 ∷ []) false ∷ pop (replicate 5 0) ∷ [])

-- what is seen on the way
pub record Seen : Type 0 where
  pub available : Answer ℕ
  pub peeked : List ℕ
  pub until_eof : List ℕ
  pub ended : Answer Bool
  pub taken₁ : List ℕ
  pub cursor₁ : List ℕ
  pub next₃ : Option ℕ
  pub next₀ : Option ℕ
  pub taken₂ : List ℕ
  pub cursor₂ : List ℕ
  pub cursor₃ : List ℕ
  pub peeked₃ : List ℕ
  pub reached₃ : List ℕ
  pub received₃ : List ℕ
  pub taken₃ : List ℕ
  pub filled₃ : List ℕ
  pub tally₃ : ℕ

abbrev cursor_of : World → List ℕ
cursor_of w = w.ring.idx ∷ w.ring.offset ∷ []

abbrev seen : Seen
seen =
    record {
      available = available_of filled.ring (length filled.bytes);
      peeked = peek_of false filled.ring filled.bytes;
      until_eof = peek_of true filled.ring filled.bytes;
      ended = peek_eof_of filled.ring (length filled.bytes);
      taken₁ = popped.by_calls;
      cursor₁ = cursor_of popped;
      next₃ = (record_of popped.ring 3).next;
      next₀ = (record_of popped.ring 0).next;
      taken₂ = again.by_calls;
      cursor₂ = cursor_of again;
      cursor₃ = cursor_of end;
      peeked₃ = peek_of false end.ring end.bytes;
      reached₃ = reached end.ring 4 end.device;
      received₃ = end.by_steps;
      taken₃ = end.by_calls;
      filled₃ = end.visited;
      tally₃ = end.ring.tally;
    }

run-on-d : seen
    ≡ record {
      available = Ok 5;
      peeked = 1 ∷ 2 ∷ 3 ∷ 4 ∷ 5 ∷ [];
      until_eof = 1 ∷ 2 ∷ 3 ∷ 4 ∷ 5 ∷ [];
      ended = Ok true;
      taken₁ = 1 ∷ 2 ∷ 3 ∷ 4 ∷ [];
      cursor₁ = 1 ∷ 1 ∷ [];
      next₃ = Some 0;
      next₀ = None;
      taken₂ = 1 ∷ 2 ∷ 3 ∷ 4 ∷ 5 ∷ [];
      cursor₂ = 2 ∷ 0 ∷ [];
      cursor₃ = 3 ∷ 2 ∷ [];
      peeked₃ = 11 ∷ 12 ∷ 13 ∷ [];
      reached₃ = 0 ∷ 1 ∷ 2 ∷ [];
      received₃ = 1 ∷ 2 ∷ 3 ∷ 4 ∷ 5 ∷ 6 ∷ 7 ∷ 8 ∷ 9 ∷ 10 ∷ 11 ∷ 12 ∷ 13 ∷ [];
      taken₃ = 1 ∷ 2 ∷ 3 ∷ 4 ∷ 5 ∷ 6 ∷ 7 ∷ 8 ∷ 9 ∷ 10 ∷ [];
      filled₃ = 0 ∷ 1 ∷ 2 ∷ 3 ∷ [];
      tally₃ = 10;
    }
unfolding rx_step new_of split_of start_of size_of laid_out up_to linked_all split_sound sound prepare_of available_of available_in run_bytes peek_of flat_bytes peek_eof_of flat_eof consume_of pop_of popped_over standing run_data planned walk moved_to turns hand_over receive_of receive_into reached
run-on-d = refl

-- the demand's premise is met by this ring
built-ready : (new_of In records 4 14).answer ≡ Ok tt
unfolding new_of split_of laid_out up_to
built-ready = refl

pub on-d : (acts : List RxAction) → Receive 4 (run rx_step ready acts)
on-d = demand3.receive records 4 (replicate 14 255) built-ready
