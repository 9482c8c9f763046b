-- The steps of the bytes of the CPU-owned run.
use Rattle.std.specs.Prelude.{◌≡◌, ℕ, zero, suc, ◌+◌, ◌-◌, ◌<◌, ◌≤◌, true, false, List, [], ◌++◌, length, take, drop}
use Rattle.std.proofs.Math.Path.{refl}
use Rattle.std.proofs.Common.{◌∙◌, ap, length-drop, drop-drop, length-take-le}
use native.Mathlib.Omega.{arith}
use Rattle.std.proofs.lemmas.List.{drop-append-le}
use Rattle.descriptors.specs.Record.{is_cpu, span_of}
use Rattle.descriptors.specs.Place.{after}
use Rattle.descriptors.specs.Walk.{run_data}
use Rattle.descriptors.specs.declared.record.DmaDescriptor.{DmaDescriptor}
use Rattle.descriptors.specs.declared.record.TransferDirection.{TransferDirection}
use Rattle.rx_stream.specs.laws.Lists.{drop-take}

module _ (dir : TransferDirection) (f : ℕ → DmaDescriptor) (b : List ℕ) (n : ℕ) where
  pub data-none : (i : ℕ) → run_data dir f b n 0 i ≡ []
  unfolding run_data
  data-none i = refl

  pub data-stop : (k i : ℕ) → is_cpu (f i).owner ≡ false → run_data dir f b n k i ≡ []
  unfolding run_data
  data-stop zero i e = refl
  data-stop (suc k) i e = rw e

  pub data-go : (k i : ℕ) → 0 < k → is_cpu (f i).owner ≡ true
      → run_data dir f b n k i ≡ take (span_of dir (f i)) (drop (f i).buffer b) ++ run_data dir f b n (k - 1) (after n i)
  unfolding run_data
  data-go zero i h e = absurd (omega arith)
  data-go (suc k) i h e = let p : suc k - 1 ≡ k = omega arith in rw (e, p)

  -- from byte o of the record on
  pub data-from : (k i o : ℕ) → 0 < k → is_cpu (f i).owner ≡ true → o ≤ span_of dir (f i) → (f i).buffer + span_of dir (f i) ≤ length b
      → drop o (run_data dir f b n k i) ≡ take (span_of dir (f i) - o) (drop ((f i).buffer + o) b) ++ run_data dir f b n (k - 1) (after n i)
  data-from k i o h e l r =
      let s : ℕ = span_of dir (f i) in
      let whole : length (take s (drop (f i).buffer b)) ≡ s = length-take-le s (drop (f i).buffer b) (rw length-drop (omega arith)) in
      ap (drop o) (data-go k i h e)
      ∙ drop-append-le o (take s (drop (f i).buffer b)) (run_data dir f b n (k - 1) (after n i)) (rw whole l)
      ∙ ap (λ t. t ++ run_data dir f b n (k - 1) (after n i)) (drop-take o s (drop (f i).buffer b) ∙ ap (take (s - o)) (drop-drop o (f i).buffer b))
