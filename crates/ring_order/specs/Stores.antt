-- One record changed, or the cursor's record handed over: what the other records are afterwards, and that the shape stays.
use Rattle.std.specs.Prelude.{◌≡◌, refl, true, ◌≢◌, List, ℕ, ◌≤◌, ◌<◌, length, Some, None}
use Rattle.std.proofs.Common.{sym, ◌∙◌, le_refl, arith, lt-ltb}
use Rattle.std.proofs.Math.Path.{ap}
use Rattle.std.proofs.Math.Decide.{ℕ_discrete}
use Rattle.descriptors.specs.Record.{record_in, update, with_next, handed}
use Rattle.descriptors.specs.Place.{before}
use Rattle.descriptors.specs.Ring.{below}
use Rattle.descriptors.specs.Walk.{hand_over}
use Rattle.descriptors.specs.laws.Updates.{update_same, update_other, update-length}
use Rattle.descriptors.specs.declared.record.Owner.TheVariants.{Dma}
use Rattle.descriptors.specs.declared.record.DmaDescriptor.{DmaDescriptor}
use Rattle.descriptors.specs.declared.record.TransferDirection.{TransferDirection}
use Rattle.descriptors.specs.declared.record.TransferDirection.TheVariants.{In, Out}
use Rattle.ring_order.specs.Places.{before-lt, before-ne}
use Rattle.ring_order.specs.Shape.{Laid, Shape}

-- e may stand where d stood
pub record Fits (n : ℕ) (d e : DmaDescriptor) : Type 0 where
  pub start : e.buffer ≡ d.buffer
  pub room : e.size ≡ d.size
  pub length : e.length ≤ e.size
  pub next : below n e.next ≡ true

-- records that all fit where others stood
pub laid-keeps : (n len : ℕ) (ds es : List DmaDescriptor) → Laid n len ds → length es ≡ length ds
    → ((i : ℕ) → i < n → ((record_in es i).buffer ≡ (record_in ds i).buffer) × ((record_in es i).size ≡ (record_in ds i).size)) → Laid n len es
laid-keeps n len ds es l e h =
    record {
      accepted = l.accepted;
      enough = omega (arith, l.enough);
      start = λ i m. (h i m).0 ∙ l.start i m;
      room = λ i m. (h i m).1 ∙ l.room i m;
    }

pub shape-keeps : (n len : ℕ) (ds es : List DmaDescriptor) → Laid n len ds → length es ≡ length ds → ((i : ℕ) → i < n → Fits n (record_in ds i) (record_in es i)) → Shape n len es
shape-keeps n len ds es l e h =
    record {
      laid = laid-keeps n len ds es l e (λ i m. ((h i m).start, (h i m).room));
      lengths = λ i m. (h i m).length;
      nexts = λ i m. (h i m).next;
    }

pub fits-itself : (n len : ℕ) (ds : List DmaDescriptor) → Shape n len ds → (i : ℕ) → i < n → Fits n (record_in ds i) (record_in ds i)
fits-itself n len ds s i h = record { start = refl; room = refl; length = s.lengths i h; next = s.nexts i h }

pub shape-update : (n len : ℕ) (ds : List DmaDescriptor) (i : ℕ) (f : DmaDescriptor → DmaDescriptor) → Shape n len ds → i < n → Fits n (record_in ds i) (f (record_in ds i))
    → Shape n len (update ds i f)
shape-update n len ds i f s hi h = shape-keeps n len ds (update ds i f) s.laid (update-length ds i f) (λ j hj. go j hj (ℕ_discrete j i))
  where
    go : (j : ℕ) → j < n → Dec (j ≡ i) → Fits n (record_in ds j) (record_in (update ds i f) j)
    go j hj (yes e) = rw (e, update_same ds i f (omega (arith, s.laid.enough))) h
    go j hj (no ne) = rw (update_other ds i j f ne) (fits-itself n len ds s j hj)

pub handed-fits : (dir : TransferDirection) (n : ℕ) (d : DmaDescriptor) → Fits n d (handed dir d)
handed-fits In n d = record { start = refl; room = refl; length = omega arith; next = refl }
handed-fits Out n d = record { start = refl; room = refl; length = le_refl d.size; next = refl }

pub handed-dma : (dir : TransferDirection) (d : DmaDescriptor) → (handed dir d).owner ≡ Dma
handed-dma In d = refl
handed-dma Out d = refl

pub handed-last : (dir : TransferDirection) (d : DmaDescriptor) → (handed dir d).next ≡ None
handed-last In d = refl
handed-last Out d = refl

-- ---- a record handed to the device, and the one before it linked to it

module _ (dir : TransferDirection) (n : ℕ) (ds : List DmaDescriptor) (c : ℕ) (hc : c < n) (hl : n ≤ length ds) (two : 2 ≤ n) where
  pub hand-same : record_in (hand_over dir n c ds) c ≡ handed dir (record_in ds c)
  unfolding hand_over
  hand-same =
      update_other (update ds c (handed dir)) (before n c) c (with_next (Some c)) (λ q. before-ne n c two (sym q)) ∙ update_same ds c (handed dir) (omega arith)

  pub hand-before : record_in (hand_over dir n c ds) (before n c) ≡ with_next (Some c) (record_in ds (before n c))
  unfolding hand_over
  hand-before =
      update_same (update ds c (handed dir)) (before n c) (with_next (Some c)) (omega (arith, before-lt n c hc, update-length ds c (handed dir)))
      ∙ ap (with_next (Some c)) (update_other ds c (before n c) (handed dir) (before-ne n c two))

  pub hand-other : (j : ℕ) → j ≢ c → j ≢ before n c → record_in (hand_over dir n c ds) j ≡ record_in ds j
  unfolding hand_over
  hand-other j nc nb = update_other (update ds c (handed dir)) (before n c) j (with_next (Some c)) nb ∙ update_other ds c j (handed dir) nc

pub hand-length : (dir : TransferDirection) (n c : ℕ) (ds : List DmaDescriptor) → length (hand_over dir n c ds) ≡ length ds
unfolding hand_over
hand-length dir n c ds = update-length (update ds c (handed dir)) (before n c) (with_next (Some c)) ∙ update-length ds c (handed dir)

pub shape-hand : (dir : TransferDirection) (n len : ℕ) (ds : List DmaDescriptor) (c : ℕ) → Shape n len ds → c < n → Shape n len (hand_over dir n c ds)
unfolding hand_over
shape-hand dir n len ds c s hc =
    let s₁ : Shape n len (update ds c (handed dir)) = shape-update n len ds c (handed dir) s hc (handed-fits dir n (record_in ds c)) in
    let hb = before-lt n c hc in
    shape-update n len (update ds c (handed dir)) (before n c) (with_next (Some c)) s₁ hb
    record { start = refl; room = refl; length = s₁.lengths (before n c) hb; next = lt-ltb c n hc }
