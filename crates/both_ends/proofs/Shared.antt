-- What holds of both directions alike, proved once: from what every action keeps to the clauses of `Agrees`.
use Rattle.std.specs.Prelude.{◌≡◌, refl, true, List, [], ◌∷◌, ◌++◌, ℕ, ◌+◌, ◌-◌, ◌%◌, ◌^◌, ◌≤◌, ◌<◌, length, Some, None}
use Rattle.std.proofs.Common.{◌∙◌, ap, append-nil, arith}
use Rattle.descriptors.specs.Ring.{sound, between_of}
use Rattle.descriptors.specs.declared.record.TransferDirection.{TransferDirection}
use Rattle.ring_order.specs.Places.{turn-mod}
use Rattle.ring_order.specs.Tally.{differs}
use Rattle.ring_order.specs.Skeleton as skeleton
use Rattle.ring_order.specs.Skeleton.{Move, Life, InTurn, in-turn, goes_on}
use Rattle.both_ends.specs.Demand3.{World, world, run, Agrees}

-- the world over other bytes
abbrev pub with_bytes : World → List ℕ → World
with_bytes w b = world w.ring b w.device w.by_calls w.by_steps w.visited

-- a refused step leaves the world alone
pub alone : (w : World) → world w.ring w.bytes w.device w.by_calls (w.by_steps ++ []) (w.visited ++ []) ≡ w
alone w = λ i. world w.ring w.bytes w.device w.by_calls (append-nil w.by_steps i) (append-nil w.visited i)

-- what a direction keeps: `Good q w` holds of every world w that its actions lead to, with q records queued
pub record Keeps {A : Type 0} (dir : TransferDirection) (step : World → A → World) (n : ℕ) (Good : ℕ → World → Type 0) : Type 0 where
  pub some : 0 < n
  pub law : (q : ℕ) (w : World) → Good q w → (a : A)
      → (p : ℕ) × Good p (step w a) × Move n q w.device w.visited p (step w a).device (step w a).visited
  pub passes : (q : ℕ) (w : World) → Good q w → sound dir w.ring (length w.bytes) ≡ true
  pub below : (q : ℕ) (w : World) → Good q w → (i : ℕ) → w.device ≡ Some i → i < n
  pub tally : (q : ℕ) (w : World) → Good q w → w.ring.tally ≡ length w.by_calls % 2 ^ 32
  pub still : (q : ℕ) (w : World) → Good q w → w.device ≡ None → (a : A) → (step w a).by_steps ≡ w.by_steps
  pub adds : (w : World) (a : A) → length w.by_calls ≤ length (step w a).by_calls

module _ {A : Type 0} {dir : TransferDirection} {step : World → A → World} {n : ℕ} {Good : ℕ → World → Type 0} (K : Keeps dir step n Good) where
  abbrev pub life : Life World A
  life =
      record {
        step = step;
        device = λ (w : World). w.device;
        done = λ (w : World). w.visited;
        n = n;
        some = K.some;
        Good = Good;
        law = K.law;
      }

  halts : (q : ℕ) (w : World) → Good q w → w.device ≡ None → (more : List A) → ((run step w more).device ≡ None) × ((run step w more).by_steps ≡ w.by_steps)
  halts q w g d [] = (d, refl)
  halts q w g d (a ∷ more) =
      let (p, v, m) = K.law q w g a in
      let (e, s) = halts p (step w a) v (skeleton.still life q w g d (a ∷ [])).1 more in
      (e, s ∙ K.still q w g d a)

  adds-all : (w : World) (acts : List A) → length w.by_calls ≤ length (run step w acts).by_calls
  adds-all w [] = omega arith
  adds-all w (a ∷ more) = omega (arith, K.adds w a, adds-all (step w a) more)

  module _ (q : ℕ) (w : World) (g : Good q w) where
    readings : (more : List A) → length (run step w more).by_calls - length w.by_calls < 2 ^ 32
        → between_of w.ring.tally (run step w more).ring.tally ≡ length (run step w more).by_calls - length w.by_calls
    readings more l =
        let (p, v) = goes_on life q w g more in
        let d : ℕ = length (run step w more).by_calls - length w.by_calls in
        let e : length (run step w more).by_calls ≡ length w.by_calls + d = omega (arith, adds-all w more) in
        let t : (run step w more).ring.tally ≡ (length w.by_calls + d) % 2 ^ 32 = K.tally p (run step w more) v ∙ ap (λ (m : ℕ). m % 2 ^ 32) e in
        (λ i. between_of (K.tally q w g i) (t i)) ∙ differs (length w.by_calls) d (2 ^ 32) l

    pub agrees : InTurn n w.visited → Agrees dir step n w
    agrees turns =
        record {
          halted = halts q w g;
          order = λ k h. in-turn n w.visited turns k h ∙ turn-mod n k K.some;
          fit = K.passes q w g;
          stood = K.below q w g;
          counts = K.tally q w g;
          between = readings;
        }
