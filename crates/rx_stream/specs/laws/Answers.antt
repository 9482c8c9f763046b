-- What each rule answers, once the judge has spoken.
use Rattle.std.specs.Prelude.{◌≡◌, ℕ, ◌-◌, Bool, true, false, List, [], length, take, drop, Ok, Err}
use Rattle.descriptors.specs.Record.{record_in}
use Rattle.descriptors.specs.Ring.{Ring, refused, sound, split_sound}
use Rattle.descriptors.specs.Walk.{available_in, standing, advanced, taken_in, planned}
use Rattle.descriptors.specs.declared.record.TransferDirection.TheVariants.{In}
use Rattle.descriptors.specs.declared.refusal.DmaBufError.TheVariants.{BadState}
use Rattle.rx_stream.specs.Receive.{prepared_ring, prepare_of, available_of, flat_eof, peek_place, peek_from, peek_bytes, peek_of, peek_eof_of, consume_of, idle, pop_of, over, popped_over}

module _ (r : Ring) (len : ℕ) where
  pub prepare-refused : split_sound r len ≡ false → prepare_of r len ≡ refused r (Err BadState)
  unfolding prepare_of
  prepare-refused e = rw e

  pub prepare-done : split_sound r len ≡ true → prepare_of r len ≡ record { ring = prepared_ring r; answer = Ok tt }
  unfolding prepare_of
  prepare-done e = rw e

  pub available-refused : sound In r len ≡ false → available_of r len ≡ Err BadState
  unfolding available_of
  available-refused e = rw e

  pub available-done : sound In r len ≡ true → available_of r len ≡ Ok (available_in In r)
  unfolding available_of
  available-done e = rw e

  pub peek-eof-refused : sound In r len ≡ false → peek_eof_of r len ≡ Err BadState
  unfolding peek_eof_of
  peek-eof-refused e = rw e

  pub peek-eof-done : sound In r len ≡ true → peek_eof_of r len ≡ Ok (flat_eof (record_in r.descriptors) (r.count - r.idx) r.idx)
  unfolding peek_eof_of
  peek-eof-done e = rw e

  pub consume-refused : (k : ℕ) → sound In r len ≡ false → consume_of r len k ≡ refused r (Err BadState)
  unfolding consume_of
  consume-refused k e = rw e

  pub consume-done : (k : ℕ) → sound In r len ≡ true
      → consume_of r len k ≡ record { ring = advanced In r k; answer = Ok (record { taken = taken_in In r k; back = (planned In r k).back }) }
  unfolding consume_of
  consume-done k e = rw e

  pub pop-refused : (k : ℕ) → sound In r len ≡ false → pop_of r len k ≡ refused r (Err BadState)
  unfolding pop_of
  pop-refused k e = rw e

  pub pop-idle : (k : ℕ) → sound In r len ≡ true → idle r k ≡ true → pop_of r len k ≡ record { ring = r; answer = Ok 0 }
  unfolding pop_of
  pop-idle k e i = rw (e, i)

  pub pop-done : (k : ℕ) → sound In r len ≡ true → idle r k ≡ false
      → pop_of r len k ≡ record { ring = advanced In r k; answer = Ok (taken_in In r k) }
  unfolding pop_of
  pop-done k e i = rw (e, i)

module _ (r : Ring) (bytes : List ℕ) where
  pub peek-refused : (u : Bool) → sound In r (length bytes) ≡ false → peek_of u r bytes ≡ []
  unfolding peek_of
  peek-refused u e = rw e

  pub peek-done : (u : Bool) → sound In r (length bytes) ≡ true → peek_of u r bytes ≡ take (peek_bytes u r) (drop (peek_from r) bytes)
  unfolding peek_of
  peek-done u e = rw e

  pub place-refused : sound In r (length bytes) ≡ false → peek_place r bytes ≡ 0
  unfolding peek_place
  place-refused e = rw e

  pub place-done : sound In r (length bytes) ≡ true → peek_place r bytes ≡ peek_from r
  unfolding peek_place
  place-done e = rw e

  pub popped-refused : (dst : List ℕ) → sound In r (length bytes) ≡ false → popped_over r bytes dst ≡ dst
  unfolding popped_over
  popped-refused dst e = rw e

  pub popped-idle : (dst : List ℕ) → sound In r (length bytes) ≡ true → idle r (length dst) ≡ true → popped_over r bytes dst ≡ dst
  unfolding popped_over
  popped-idle dst e i = rw (e, i)

  pub popped-done : (dst : List ℕ) → sound In r (length bytes) ≡ true → idle r (length dst) ≡ false → popped_over r bytes dst ≡ over (standing In r bytes) dst
  unfolding popped_over
  popped-done dst e i = rw (e, i)
