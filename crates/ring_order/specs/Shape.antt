-- What the test of soundness tells of a ring, with names, and back: the split alone, and the whole.
use Rattle.std.specs.Prelude.{◌≡◌, true, List, ℕ, ◌-◌, ◌≤◌, ◌<◌, ltb, length}
use Rattle.std.proofs.Common.{ap, arith, ltb-true, leb-true, eqb-true, lt-ltb, le-leb, eq-eqb}
use Rattle.std.proofs.Math.Decide.{dec_le}
use Rattle.std.proofs.Math.ListN.{get_or-eq_default}
use Rattle.descriptors.specs.Record.{blank, record_in}
use Rattle.descriptors.specs.Split.{accepts, start_of, size_of}
use Rattle.descriptors.specs.Ring.{Ring, record_of, starts_ok, sizes_ok, lengths_ok, below, nexts_ok, offset_ok, split_sound, sound}
use Rattle.descriptors.specs.laws.Tests.{and_split, and-join, all-at, all_of}
use Rattle.descriptors.specs.declared.record.DmaDescriptor.{DmaDescriptor}
use Rattle.descriptors.specs.declared.record.TransferDirection.{TransferDirection}
use Rattle.ring_order.specs.Geometry.{Geometry, geometry, apart}

-- "starts and sizes are that split"
pub record Laid (n len : ℕ) (ds : List DmaDescriptor) : Type 0 where
  pub accepted : accepts n len ≡ true
  pub enough : n ≤ length ds
  pub start : (i : ℕ) → i < n → (record_in ds i).buffer ≡ start_of n len i
  pub room : (i : ℕ) → i < n → (record_in ds i).size ≡ size_of n len i

-- and "each length is at most its size; each next is none or below n"
pub record Shape (n len : ℕ) (ds : List DmaDescriptor) : Type 0 where
  pub laid : Laid n len ds
  pub lengths : (i : ℕ) → i < n → (record_in ds i).length ≤ (record_in ds i).size
  pub nexts : (i : ℕ) → i < n → below n (record_in ds i).next ≡ true

pub record Sound (dir : TransferDirection) (r : Ring) (len : ℕ) : Type 0 where
  pub shape : Shape r.count len r.descriptors
  pub prefilled : r.prefilled ≤ len
  pub cursor : r.idx < r.count
  pub offset : offset_ok dir (record_of r r.idx) r.offset ≡ true

pub grounds : (n len : ℕ) (ds : List DmaDescriptor) → Laid n len ds → Geometry n len
grounds n len ds l = geometry n len l.accepted

-- a list that is too short shows blank records, which start at 0
enough-at : (n len : ℕ) (ds : List DmaDescriptor) → Geometry n len → ((i : ℕ) → i < n → (record_in ds i).buffer ≡ start_of n len i) → Dec (n ≤ length ds) → n ≤ length ds
enough-at n len ds G s (yes h) = h
enough-at n len ds G s (no h) =
    let e : record_in ds (n - 1) ≡ blank = get_or-eq_default ds blank (omega arith) in
    let z : (record_in ds (n - 1)).buffer ≡ 0 = ap (λ (d : DmaDescriptor). d.buffer) e in
    absurd (omega (arith, s (n - 1) (omega (arith, G.many)), apart n len G 0 (n - 1) (omega (arith, G.many)) (omega (arith, G.many)), G.some 0 (omega (arith, G.many)), G.many))

pub laid_of : (r : Ring) (len : ℕ) → split_sound r len ≡ true → Laid r.count len r.descriptors × (r.prefilled ≤ len)
unfolding split_sound
laid_of r len h =
    let (a, h₁) = and_split (accepts r.count len) _ h in
    let (s, h₂) = and_split (starts_ok r.descriptors r.count len) _ h₁ in
    let (z, p) = and_split (sizes_ok r.descriptors r.count len) _ h₂ in
    let start : (i : ℕ) → i < r.count → (record_in r.descriptors i).buffer ≡ start_of r.count len i =
    λ i l. eqb-true _ _ (all-at _ r.count i s l) in (
      record {
        accepted = a;
        enough = enough-at r.count len r.descriptors (geometry r.count len a) start (dec_le r.count (length r.descriptors));
        start = start;
        room = λ i l. eqb-true _ _ (all-at _ r.count i z l);
      },
      leb-true r.prefilled len p,
    )

pub of-laid : (r : Ring) (len : ℕ) → Laid r.count len r.descriptors → r.prefilled ≤ len → split_sound r len ≡ true
unfolding split_sound
of-laid r len l p =
    and-join l.accepted
    (and-join (all_of _ r.count (λ i h. eq-eqb _ _ (l.start i h)))
    (and-join (all_of _ r.count (λ i h. eq-eqb _ _ (l.room i h))) (le-leb r.prefilled len p)))

pub sound-of : (dir : TransferDirection) (r : Ring) (len : ℕ) → sound dir r len ≡ true → Sound dir r len
unfolding sound
sound-of dir r len h =
    let (s, h₁) = and_split (split_sound r len) _ h in
    let (l, h₂) = and_split (lengths_ok r.descriptors r.count) _ h₁ in
    let (x, h₃) = and_split (nexts_ok r.descriptors r.count) _ h₂ in
    let (c, o) = and_split (ltb r.idx r.count) _ h₃ in
    let (d, p) = laid_of r len s in
    record {
      shape = record { laid = d; lengths = λ i m. leb-true _ _ (all-at _ r.count i l m); nexts = λ i m. all-at _ r.count i x m };
      prefilled = p;
      cursor = ltb-true r.idx r.count c;
      offset = o;
    }

pub of-sound : (dir : TransferDirection) (r : Ring) (len : ℕ) → Sound dir r len → sound dir r len ≡ true
unfolding sound
of-sound dir r len s =
    and-join (of-laid r len s.shape.laid s.prefilled)
    (and-join (all_of _ r.count (λ i m. le-leb _ _ (s.shape.lengths i m)))
    (and-join (all_of _ r.count s.shape.nexts)
    (and-join (lt-ltb r.idx r.count s.cursor) s.offset)))
