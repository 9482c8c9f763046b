-- "Each record gets size and start .., and the one before it its link"; "The last record's next stays as lent."
use Rattle.std.specs.Prelude.{ℕ, zero, suc, ◌+◌, ◌<◌, ◌≤◌, ◌≡◌, refl, cond, List, ltb, length, Some}
use Rattle.std.proofs.Common.{sym, ◌∙◌, ap, arith, add-one, lt-ltb, le-ltb}
use Rattle.std.proofs.Math.Decide.{ℕ_discrete}
use Rattle.descriptors.specs.Record.{record_in, update, up_to, with_next}
use Rattle.descriptors.specs.laws.Updates.{update-length, update_same, update_other}
use Rattle.descriptors.specs.declared.record.DmaDescriptor.{DmaDescriptor}
use Rattle.psram.specs.Piece.{piece_of}
use Rattle.psram.specs.List.{link_before, laid, listed_at}
use Rattle.psram.specs.declared.plan.Plan.{Plan}

-- record j of k that are used: it leads to the next one, and the last keeps its next
abbrev pub leading : ℕ → ℕ → DmaDescriptor → DmaDescriptor
leading k j d = cond (ltb (j + 1) k) (with_next (Some (j + 1)) d) d

link-length : (i : ℕ) (ds : List DmaDescriptor) → length (link_before i ds) ≡ length ds
link-length zero ds = refl
link-length (suc j) ds = update-length ds j (with_next (Some (suc j)))

link-other : (i j : ℕ) (ds : List DmaDescriptor) → i ≤ j → record_in (link_before i ds) j ≡ record_in ds j
link-other zero j ds h = refl
link-other (suc i) j ds h = update_other ds i j (with_next (Some (suc i))) (λ e. omega arith)

listed-length : (p : Plan) (k : ℕ) (ds : List DmaDescriptor) → length (up_to (listed_at p) k ds) ≡ length ds
unfolding up_to listed_at
listed-length p zero ds = refl
listed-length p (suc k) ds =
    update-length (link_before k (up_to (listed_at p) k ds)) k (laid (piece_of p k)) ∙ link-length k (up_to (listed_at p) k ds) ∙ listed-length p k ds

-- a record that is not used stays as lent
pub unlisted : (p : Plan) (k : ℕ) (ds : List DmaDescriptor) (j : ℕ) → k ≤ j → record_in (up_to (listed_at p) k ds) j ≡ record_in ds j
unfolding up_to listed_at
unlisted p zero ds j h = refl
unlisted p (suc k) ds j h =
    update_other (link_before k (up_to (listed_at p) k ds)) k j (laid (piece_of p k)) (λ e. omega arith)
    ∙ link-other k j (up_to (listed_at p) k ds) (omega arith)
    ∙ unlisted p k ds j (omega arith)

-- the link of the record before, on records that have their pieces already
linked_on : (p : Plan) (k j : ℕ) (s ds : List DmaDescriptor) → j < k → k < length s
    → record_in s j ≡ leading k j (laid (piece_of p j) (record_in ds j))
    → record_in (link_before k s) j ≡ leading (suc k) j (laid (piece_of p j) (record_in ds j))
linked_on p zero j s ds h l e = absurd (omega arith)
linked_on p (suc k) j s ds h l e = go (ℕ_discrete j k)
  where
    at : record_in s k ≡ leading (suc k) k (laid (piece_of p k) (record_in ds k))
        → record_in (link_before (suc k) s) k ≡ leading (suc (suc k)) k (laid (piece_of p k) (record_in ds k))
    at e =
        update_same s k (with_next (Some (suc k))) (omega arith)
        ∙ ap (with_next (Some (suc k))) (rw (le-ltb (k + 1) (suc k) (omega arith)) at e)
        ∙ sym (rw (lt-ltb (k + 1) (suc (suc k)) (omega arith), add-one k) refl)

    go : Dec (j ≡ k) → record_in (link_before (suc k) s) j ≡ leading (suc (suc k)) j (laid (piece_of p j) (record_in ds j))
    go (yes q) = rw q (at (rw q at e))
    go (no q) =
        update_other s k j (with_next (Some (suc k))) q ∙ e
        ∙ rw (lt-ltb (j + 1) (suc k) (omega arith), lt-ltb (j + 1) (suc (suc k)) (omega arith)) refl

pub listed-record : (p : Plan) (k : ℕ) (ds : List DmaDescriptor) → k ≤ length ds → (j : ℕ) → j < k
    → record_in (up_to (listed_at p) k ds) j ≡ leading k j (laid (piece_of p j) (record_in ds j))
unfolding up_to listed_at
listed-record p zero ds l j h = absurd (omega arith)
listed-record p (suc k) ds l j h = go (ℕ_discrete j k) (λ m. listed-record p k ds (omega arith) j m)
  where
    go : Dec (j ≡ k) → (j < k → record_in (up_to (listed_at p) k ds) j ≡ leading k j (laid (piece_of p j) (record_in ds j)))
        → record_in (update (link_before k (up_to (listed_at p) k ds)) k (laid (piece_of p k))) j ≡ leading (suc k) j (laid (piece_of p j) (record_in ds j))
    go (yes q) ih =
        rw q
        (update_same (link_before k (up_to (listed_at p) k ds)) k (laid (piece_of p k)) (omega (arith, link-length k (up_to (listed_at p) k ds), listed-length p k ds))
        ∙ ap (laid (piece_of p k)) (link-other k k (up_to (listed_at p) k ds) (omega arith) ∙ unlisted p k ds k (omega arith))
        ∙ sym (rw (le-ltb (k + 1) (suc k) (omega arith)) refl))
    go (no q) ih =
        update_other (link_before k (up_to (listed_at p) k ds)) k j (laid (piece_of p k)) q
        ∙ linked_on p k j (up_to (listed_at p) k ds) ds (omega arith) (omega (arith, listed-length p k ds)) (ih (omega arith))
