-- The rules of `prepare` that go through the records one after another, record by record.
use Rattle.std.specs.Prelude.{◌≡◌, List, ℕ, ◌≤◌, ◌<◌, length}
use Rattle.descriptors.specs.Record.{record_in}
use Rattle.descriptors.specs.declared.record.DmaDescriptor.{DmaDescriptor}
use Rattle.descriptors.specs.laws.Updates.{each-length, each-above, each_at}
use Rattle.tx_stream.specs.Transmit.{filled, filled_to, cut, cut_at}

module _ (d : ℕ) (ds : List DmaDescriptor) where
  pub filled-length : length (filled_to d ds) ≡ length ds
  unfolding filled_to
  filled-length = each-length (λ i r. filled r.size r) d ds

  pub filled-below : (j : ℕ) → j < d → d ≤ length ds → record_in (filled_to d ds) j ≡ filled (record_in ds j).size (record_in ds j)
  unfolding filled_to
  filled-below j h l = each_at (λ i r. filled r.size r) d ds j h l

  pub filled-above : (j : ℕ) → d ≤ j → record_in (filled_to d ds) j ≡ record_in ds j
  unfolding filled_to
  filled-above j h = each-above (λ i r. filled r.size r) d ds j h

module _ (n c : ℕ) (ds : List DmaDescriptor) where
  pub cut-length : length (cut_at n c ds) ≡ length ds
  unfolding cut_at
  cut-length = each-length (cut c) n ds

  pub cut-at : (j : ℕ) → j < n → n ≤ length ds → record_in (cut_at n c ds) j ≡ cut c j (record_in ds j)
  unfolding cut_at
  cut-at j h l = each_at (cut c) n ds j h l
