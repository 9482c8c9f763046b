-- The steps of the run, of the walk and of the records handed over, which the loops of the code go by; and what they read of a ring:
-- owners and spans.
use Rattle.std.specs.Prelude.{◌≡◌, ℕ, zero, suc, ◌+◌, ◌-◌, ◌<◌, ◌%◌, ◌^◌, ◌≤◌, Bool, true, false, cond, List, [], nat_le, nat_lt}
use Rattle.std.proofs.Math.Path.{refl}
use Rattle.std.proofs.Common.{sym, ap}
use native.Mathlib.Omega.{arith}
use borrow.Author.Tests.{lt-ltb, le-ltb, le-leb, lt-leb}
use Rattle.descriptors.specs.Record.{limit, record_in, is_cpu, span_of}
use Rattle.descriptors.specs.Place.{after, turns}
use Rattle.descriptors.specs.Cells.{are_records, records_of, record_at}
use Rattle.descriptors.specs.Walk.{run_bytes, walk, walk_in, past, inside, begun, planned}
use Rattle.descriptors.specs.Moves.{moved_in}
use Rattle.descriptors.specs.Ring.{Ring}
use Rattle.descriptors.specs.laws.Lifts.{record_is}
use Rattle.descriptors.specs.declared.record.Owner.{Owner}
use Rattle.descriptors.specs.declared.record.DmaDescriptor.{DmaDescriptor}
use Rattle.descriptors.specs.declared.record.TransferDirection.{TransferDirection}
use Rattle.descriptors.specs.declared.record.TransferDirection.TheVariants.{In, Out}
use Rattle.descriptors.specs.declared.ring.Head.{Head}
use Rattle.descriptors.specs.declared.walk.Moved.{Moved}

module _ (dir : TransferDirection) (f : ℕ → DmaDescriptor) (n : ℕ) where
  pub run_none : (i : ℕ) → run_bytes dir f n 0 i ≡ 0
  unfolding run_bytes
  run_none i = refl

  pub run_done : (k j i : ℕ) → k ≤ j → run_bytes dir f n (k - j) i ≡ 0
  run_done k j i h = let e : k - j ≡ 0 = omega arith in rw e (run_none i)

  pub run-stop : (k i : ℕ) → is_cpu (f i).owner ≡ false → run_bytes dir f n k i ≡ 0
  unfolding run_bytes
  run-stop zero i e = refl
  run-stop (suc k) i e = rw e

  pub run-go : (k i : ℕ) → 0 < k → is_cpu (f i).owner ≡ true → run_bytes dir f n k i ≡ span_of dir (f i) + run_bytes dir f n (k - 1) (after n i)
  unfolding run_bytes
  run-go zero i h e = omega arith
  run-go (suc k) i h e = let p : suc k - 1 ≡ k = omega arith in rw (e, p)

  pub walk_none : (m : Moved) → walk dir f n 0 m ≡ m
  unfolding walk
  walk_none m = refl

  pub walk_done : (k j : ℕ) (m : Moved) → k ≤ j → walk dir f n (k - j) m ≡ m
  walk_done k j m h = let e : k - j ≡ 0 = omega arith in rw e (walk_none m)

  pub walk-stop : (k : ℕ) (m : Moved) → is_cpu (f m.at).owner ≡ false → walk dir f n k m ≡ m
  unfolding walk
  walk-stop zero m e = refl
  walk-stop (suc k) m e = rw e

  pub walk-part : (k : ℕ) (m : Moved) → 0 < k → is_cpu (f m.at).owner ≡ true → m.rest < span_of dir (f m.at) - m.offset
      → walk dir f n k m ≡ inside m
  unfolding walk
  walk-part zero m h e l = absurd (omega arith)
  walk-part (suc k) m h e l = rw (e, lt-ltb _ _ l)

  pub walk-go : (k : ℕ) (m : Moved) → 0 < k → is_cpu (f m.at).owner ≡ true → span_of dir (f m.at) - m.offset ≤ m.rest
      → walk dir f n k m ≡ walk dir f n (k - 1) (past dir f n m)
  unfolding walk
  walk-go zero m h e l = absurd (omega arith)
  walk-go (suc k) m h e l = let p : suc k - 1 ≡ k = omega arith in rw (e, le-ltb _ _ l, p)

  -- a walk takes no more than is asked
  pub walk-rest : (k : ℕ) (m : Moved) → (walk dir f n k m).rest ≤ m.rest
  unfolding walk
  walk-rest zero m = omega arith
  walk-rest (suc k) m = go (is_cpu (f m.at).owner) (nat_lt m.rest (span_of dir (f m.at) - m.offset)) (walk-rest k (past dir f n m))
    where
      go : (a b : Bool) → (walk dir f n k (past dir f n m)).rest ≤ (past dir f n m).rest
          → (cond a (cond b (inside m) (walk dir f n k (past dir f n m))) m).rest ≤ m.rest
      go true true h = omega arith
      go true false h = omega arith
      go false b h = omega arith

  -- and uses up no more records than it may
  pub walk-back : (k : ℕ) (m : Moved) → (walk dir f n k m).back ≤ m.back + k
  unfolding walk
  walk-back zero m = omega arith
  walk-back (suc k) m = go (is_cpu (f m.at).owner) (nat_lt m.rest (span_of dir (f m.at) - m.offset)) (walk-back k (past dir f n m))
    where
      go : (a b : Bool) → (walk dir f n k (past dir f n m)).back ≤ (past dir f n m).back + k
          → (cond a (cond b (inside m) (walk dir f n k (past dir f n m))) m).back ≤ m.back + suc k
      go true true h = omega arith
      go true false h = omega arith
      go false b h = omega arith

  -- the walk round a whole ring, and more records than one can have
  pub walk-in : (m : Moved) → n ≤ limit → walk_in dir f n m ≡ walk dir f n n m
  unfolding walk_in
  walk-in m h = rw (le-leb n limit h)

  pub walk-out : (m : Moved) → limit < n → walk_in dir f n m ≡ m
  unfolding walk_in
  walk-out m h = rw (lt-leb n limit h)

  pub walk-in-rest : (m : Moved) → (walk_in dir f n m).rest ≤ m.rest
  unfolding walk_in
  walk-in-rest m = go (nat_le n limit)
    where
      go : (a : Bool) → (cond a (walk dir f n n m) m).rest ≤ m.rest
      go true = walk-rest n m
      go false = omega arith

  -- what records handed over, one after another
  pub turns-none : {S : Type 0} (hand : ℕ → S → S) (i : ℕ) (s : S) → turns hand n 0 i s ≡ s
  unfolding turns
  turns-none hand i s = refl

  pub turns_done : {S : Type 0} (hand : ℕ → S → S) (g j i : ℕ) (s : S) → g ≤ j → turns hand n (g - j) i s ≡ s
  turns_done hand g j i s h = let e : g - j ≡ 0 = omega arith in rw e (turns-none hand i s)

  pub turns_go : {S : Type 0} (hand : ℕ → S → S) (g i : ℕ) (s : S) → 0 < g → turns hand n g i s ≡ turns hand n (g - 1) (after n i) (hand i s)
  unfolding turns
  turns_go hand zero i s h = absurd (omega arith)
  turns_go hand (suc g) i s h = let p : suc g - 1 ≡ g = omega arith in rw p

-- the steps of the run, and of the walk
pub ruleset run_steps = (run_done, run-stop, run-go)

pub ruleset walk_steps = (walk_done, walk-stop, walk-part, walk-go, walk-in, walk-out)

-- two readings of the records that agree in owner and span at every place
pub record Alike (dir : TransferDirection) (f g : ℕ → DmaDescriptor) : Type 0 where
  pub owner : (i : ℕ) → (f i).owner ≡ (g i).owner
  pub span : (i : ℕ) → span_of dir (f i) ≡ span_of dir (g i)

run_step : (o o' : Owner) (a a' b b' : ℕ) → o ≡ o' → a ≡ a' → b ≡ b' → cond (is_cpu o) (a + b) 0 ≡ cond (is_cpu o') (a' + b') 0
run_step o o' a a' b b' p q r = rw (p, q, r) refl

walk_step : (o o' : Owner) (a a' : ℕ) (m : Moved) (X Y : ℕ → Moved) → o ≡ o' → a ≡ a' → ((a : ℕ) → X a ≡ Y a)
    → cond (is_cpu o) (cond (nat_lt m.rest (a - m.offset)) (inside m) (X a)) m
    ≡ cond (is_cpu o') (cond (nat_lt m.rest (a' - m.offset)) (inside m) (Y a')) m
walk_step o o' a a' m X Y p q h = rw (p, q, h a') refl

module _ (dir : TransferDirection) (f g : ℕ → DmaDescriptor) (n : ℕ) (s : Alike dir f g) where
  pub run-alike : (k i : ℕ) → run_bytes dir f n k i ≡ run_bytes dir g n k i
  unfolding run_bytes
  run-alike zero i = refl
  run-alike (suc k) i = run_step (f i).owner (g i).owner (span_of dir (f i)) (span_of dir (g i)) _ _ (s.owner i) (s.span i) (run-alike k (after n i))

  pub walk-alike : (k : ℕ) (m : Moved) → walk dir f n k m ≡ walk dir g n k m
  unfolding walk
  walk-alike zero m = refl
  walk-alike (suc k) m =
      walk_step (f m.at).owner (g m.at).owner (span_of dir (f m.at)) (span_of dir (g m.at)) m
      (λ a. walk dir f n k (record { at = after n m.at; offset = 0; rest = m.rest - (a - m.offset); back = m.back + 1 }))
      (λ a. walk dir g n k (record { at = after n m.at; offset = 0; rest = m.rest - (a - m.offset); back = m.back + 1 }))
      (s.owner m.at) (s.span m.at) (λ a. walk-alike k _)

-- the cells by themselves show owners and spans
pub cells-alike : (dir : TransferDirection) (st ws : List ℕ) → are_records st ws ≡ true → Alike dir (record_at [] ws) (record_in (records_of st ws))
cells-alike dir st ws a =
    record {
      owner = λ i. sym (ap (λ (d : DmaDescriptor). d.owner) (record_is st ws a i));
      span = λ i. go dir i;
    }
  where
    go : (dir : TransferDirection) (i : ℕ) → span_of dir (record_at [] ws i) ≡ span_of dir (record_in (records_of st ws) i)
    go In i = sym (ap (λ (d : DmaDescriptor). d.length) (record_is st ws a i))
    go Out i = sym (ap (λ (d : DmaDescriptor). d.size) (record_is st ws a i))

-- a ring's walk hands over no more records than the ring has
pub planned-few : (dir : TransferDirection) (r : Ring) (k : ℕ) → r.count ≤ limit → (planned dir r k).back ≤ limit
unfolding planned
planned-few dir r k h = omega (arith, walk-back dir (record_in r.descriptors) r.count r.count (begun r k))

-- the tally's last 32 bits are counted, and no others
pub tally-wraps : (a b : ℕ) → (a + b % 4294967296) % 2 ^ 32 ≡ (a + b) % 2 ^ 32
tally-wraps a b = omega arith

-- what is left to move over is no more than there was
pub moved-rest : (dir : TransferDirection) (ws : List ℕ) (h : Head) (k : ℕ) → (moved_in dir ws h k).rest ≤ k
unfolding moved_in
moved-rest dir ws h k = walk-in-rest dir (record_at [] ws) h.count (record { at = h.descriptor_idx; offset = h.descriptor_offset; rest = k; back = 0 })
