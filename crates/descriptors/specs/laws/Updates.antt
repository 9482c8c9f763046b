-- Changes of one record after another, and changes at 0, 1, .., k - 1 in turn.
use Rattle.std.specs.Prelude.{◌≡◌, ℕ, zero, suc, ◌+◌, ◌<◌, ◌≤◌, List, length, ◌≢◌}
use Rattle.std.proofs.Math.Path.{refl, ap}
use Rattle.std.proofs.Common.{sym, ◌∙◌, add-one, length-set, get_or-set_same, get_or-set_other, set-set, ext_get_or}
use native.Mathlib.Omega.{arith}
use Rattle.std.proofs.Math.Decide.{dec_lt}
use Rattle.std.proofs.Math.Seq.{set_out}
use Rattle.descriptors.specs.Record.{blank, record_in, update, up_to}
use Rattle.descriptors.specs.declared.record.DmaDescriptor.{DmaDescriptor}

pub update-length : (ds : List DmaDescriptor) (i : ℕ) (f : DmaDescriptor → DmaDescriptor) → length (update ds i f) ≡ length ds
update-length ds i f = length-set ds i _

pub update_same : (ds : List DmaDescriptor) (i : ℕ) (f : DmaDescriptor → DmaDescriptor) → i < length ds
    → record_in (update ds i f) i ≡ f (record_in ds i)
update_same ds i f h = get_or-set_same ds i (f (record_in ds i)) blank h

pub update_other : (ds : List DmaDescriptor) (i j : ℕ) (f : DmaDescriptor → DmaDescriptor) → (j ≢ i)
    → record_in (update ds i f) j ≡ record_in ds j
update_other ds i j f ne = get_or-set_other ds i j (f (record_in ds i)) blank ne

-- two changes of one record are one
pub update_twice : (ds : List DmaDescriptor) (i : ℕ) (f g : DmaDescriptor → DmaDescriptor)
    → update (update ds i f) i g ≡ update ds i (λ d. g (f d))
update_twice ds i f g = go (dec_lt i (length ds))
  where
    go : Dec (i < length ds) → update (update ds i f) i g ≡ update ds i (λ d. g (f d))
    go (yes h) = rw (get_or-set_same ds i (f (record_in ds i)) blank h) (set-set ds i _ _)
    go (no h) = set_out (update ds i f) i _ (rw (update-length ds i f) (omega arith)) ∙ set_out ds i _ (omega arith) ∙ sym (set_out ds i _ (omega arith))

-- ---- in turn

pub up_none : {S : Type 0} (f : ℕ → S → S) (s : S) → up_to f 0 s ≡ s
unfolding up_to
up_none f s = refl

pub up_more : {S : Type 0} (f : ℕ → S → S) (k : ℕ) (s : S) → up_to f (k + 1) s ≡ f k (up_to f k s)
unfolding up_to
up_more f k s = rw (add-one k) refl

-- each record changed by itself
module _ (f : ℕ → DmaDescriptor → DmaDescriptor) where
  abbrev pub each : ℕ → List DmaDescriptor → List DmaDescriptor
  each n ds = up_to (λ i s. update s i (f i)) n ds

  pub each-length : (n : ℕ) (ds : List DmaDescriptor) → length (each n ds) ≡ length ds
  unfolding up_to
  each-length zero ds = refl
  each-length (suc n) ds = update-length (each n ds) n (f n) ∙ each-length n ds

  pub each-above : (n : ℕ) (ds : List DmaDescriptor) (j : ℕ) → n ≤ j → record_in (each n ds) j ≡ record_in ds j
  unfolding up_to
  each-above zero ds j h = refl
  each-above (suc n) ds j h = update_other (each n ds) n j (f n) (λ e. omega arith) ∙ each-above n ds j (omega arith)

  pub each_at : (n : ℕ) (ds : List DmaDescriptor) (j : ℕ) → j < n → n ≤ length ds → record_in (each n ds) j ≡ f j (record_in ds j)
  unfolding up_to
  each_at zero ds j h l = absurd (omega arith)
  each_at (suc n) ds j h l = go (dec_lt j n) (λ k. each_at n ds j k (omega arith))
    where
      go : Dec (j < n) → (j < n → record_in (each n ds) j ≡ f j (record_in ds j)) → record_in (update (each n ds) n (f n)) j ≡ f j (record_in ds j)
      go (yes k) ih = update_other (each n ds) n j (f n) (λ e. omega arith) ∙ ih k
      go (no k) ih =
          let e : j ≡ n = omega arith in
          rw e (update_same (each n ds) n (f n) (omega (arith, each-length n ds)) ∙ ap (f n) (each-above n ds n (omega arith)))

-- two passes over the records are one
pub two-passes : (f g : ℕ → DmaDescriptor → DmaDescriptor) (n : ℕ) (ds : List DmaDescriptor) → n ≤ length ds
    → each g n (each f n ds) ≡ each (λ i d. g i (f i d)) n ds
two-passes f g n ds h =
    ext_get_or blank (each g n (each f n ds)) (each (λ i d. g i (f i d)) n ds)
    (each-length g n (each f n ds) ∙ each-length f n ds ∙ sym (each-length (λ i d. g i (f i d)) n ds))
    (λ j p. at j (dec_lt j n))
  where
    at : (j : ℕ) → Dec (j < n) → record_in (each g n (each f n ds)) j ≡ record_in (each (λ i d. g i (f i d)) n ds) j
    at j (yes l) =
        each_at g n (each f n ds) j l (omega (arith, each-length f n ds)) ∙ ap (g j) (each_at f n ds j l h) ∙ sym (each_at (λ i d. g i (f i d)) n ds j l h)
    at j (no l) =
        let m : n ≤ j = omega arith in
        each-above g n (each f n ds) j m ∙ each-above f n ds j m ∙ sym (each-above (λ i d. g i (f i d)) n ds j m)
