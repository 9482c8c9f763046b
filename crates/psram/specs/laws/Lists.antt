-- The stores of a list of pieces, as changes of the records that the words show.
use Rattle.std.specs.Prelude.{ℕ, zero, suc, ◌+◌, ◌-◌, ◌≤◌, ◌≡◌, Bool, true, false, not, List, eqb, length, Ok, Err, Some}
use Rattle.std.proofs.Math.Path.{refl}
use Rattle.std.proofs.Common.{sym, ◌∙◌, ap, arith, add-one, lt-ltb}
use Rattle.descriptors.specs.Record.{limit, update, up_to, with_buffer, with_size}
use Rattle.descriptors.specs.Cells.{are_records, records_of, put_size, put_next}
use Rattle.descriptors.specs.laws.Lifts.{Lifts, size-lifts, next-lifts, start-changes, lifts-then, records-length, records-none}
use Rattle.descriptors.specs.laws.Updates.{update_twice}
use Rattle.descriptors.specs.laws.Words.{words_are, starts-same, cells_same}
use Rattle.descriptors.specs.declared.record.DmaDescriptor.{DmaDescriptor}
use Rattle.descriptors.specs.declared.refusal.DmaBufError.{DmaBufError}
use Rattle.psram.specs.Cut.{plan_for}
use Rattle.psram.specs.Piece.{piece_of, start_of, size_of, start_in, size_in, ready_of}
use Rattle.psram.specs.List.{Leaves, link_before, listed_at, link_cells, list_start, list_cells, covered_of, used_of, listing_by, list_of}
use Rattle.psram.specs.laws.Pieces.{ready}
use Rattle.psram.specs.declared.chip.Chip.{Chip}
use Rattle.descriptors.specs.Refusal.{Answer}
use Rattle.std.specs.Result.{result_unwrap_or}
use Rattle.psram.specs.declared.held.Held.{Held}
use Rattle.psram.specs.declared.held.Held.TheVariants.{InStore}
use Rattle.psram.specs.declared.plan.Plan.{Plan}

pub link-some : (i : ℕ) (ws : List ℕ) → (i ≡ 0 → ⊥) → link_cells i ws ≡ put_next ws (i - 1) (Some i)
link-some zero ws h = absurd (h refl)
link-some (suc j) ws h = let e : suc j - 1 ≡ j = omega arith in rw e refl

-- a piece that is there is listed as it is, and one that is not as no bytes at 0
pub held-size : (a : Answer Held) (h : Held) (size : ℕ) (b : Answer Held) → a ≡ b → h ≡ result_unwrap_or a (InStore 0 0) → size ≡ size_of h → size ≡ size_in b
held-size (Ok x) h size b e g f = f ∙ ap size_of g ∙ ap size_in e
held-size (Err x) h size b e g f = f ∙ ap size_of g ∙ ap size_in e

pub held-start : (a : Answer Held) (h : Held) (start : ℕ) (b : Answer Held) → a ≡ b → h ≡ result_unwrap_or a (InStore 0 0) → start ≡ start_of h → start ≡ start_in b
held-start (Ok x) h start b e g f = f ∙ ap start_of g ∙ ap start_in e
held-start (Err x) h start b e g f = f ∙ ap start_of g ∙ ap start_in e

pub covered_none : (p : Plan) → covered_of p 0 ≡ 0
unfolding covered_of
covered_none p = refl

pub covered_more : (p : Plan) (i : ℕ) → covered_of p (i + 1) ≡ covered_of p i + size_in (piece_of p i)
unfolding covered_of
covered_more p i = rw (add-one i) refl

link-lifts : (st : List ℕ) (i : ℕ) → i ≤ limit → Lifts st (link_cells i) (link_before i)
link-lifts st zero h = λ ws a. (a, refl)
link-lifts st (suc j) h = next-lifts st j (Some (suc j)) (lt-ltb (suc j) 65535 (omega arith))

cells-lift : (p : Plan) (st : List ℕ) (i : ℕ) → i ≤ limit → Lifts st (list_cells p i) (λ ds. update (link_before i ds) i (with_size (size_in (piece_of p i))))
unfolding list_cells
cells-lift p st i h =
    lifts-then st (link_cells i) (λ ws. put_size ws i (size_in (piece_of p i))) (link_before i) (λ ds. update ds i (with_size (size_in (piece_of p i)))) (link-lifts st i h)
    (size-lifts st i (size_in (piece_of p i)))

-- the words after the stores of the first k records hold records again, and these are changed as the rule says
abbrev pub Gets : Plan → List ℕ → List ℕ → ℕ → Type 0
Gets p st ws k =
    (are_records (up_to (list_start p) k st) (up_to (list_cells p) k ws) ≡ true)
    × (records_of (up_to (list_start p) k st) (up_to (list_cells p) k ws) ≡ up_to (listed_at p) k (records_of st ws))

-- one more record
gets-one : (p : Plan) (st ws : List ℕ) (i : ℕ) → i ≤ limit → are_records st ws ≡ true
    → (are_records (list_start p i st) (list_cells p i ws) ≡ true) × (records_of (list_start p i st) (list_cells p i ws) ≡ listed_at p i (records_of st ws))
unfolding list_start listed_at
gets-one p st ws i h a =
    let b = cells-lift p st i h ws a in
    let d = start-changes st (list_cells p i ws) i (start_in (piece_of p i)) b.0 in
    (d.0, d.1 ∙ ap (λ (ds : List DmaDescriptor). update ds i (with_buffer (start_in (piece_of p i)))) b.1 ∙ update_twice (link_before i (records_of st ws)) i (with_size (size_in (piece_of p i))) (with_buffer (start_in (piece_of p i))))

pub list-gets : (p : Plan) (st ws : List ℕ) → are_records st ws ≡ true → (k : ℕ) → k ≤ limit → Gets p st ws k
unfolding up_to
list-gets p st ws a zero h = (a, refl)
list-gets p st ws a (suc k) h =
    let b = list-gets p st ws a k (omega arith) in
    let d = gets-one p (up_to (list_start p) k st) (up_to (list_cells p) k ws) k (omega arith) b.0 in
    (d.0, d.1 ∙ ap (listed_at p k) b.1)

-- words that hold no records show none
held-is : (st ws : List ℕ) → not (eqb (length (records_of st ws)) 0) ≡ are_records st ws
held-is st ws = go (are_records st ws) refl
  where
    go : (b : Bool) → are_records st ws ≡ b → not (eqb (length (records_of st ws)) 0) ≡ b
    go true e = rw (records-length st ws e) refl
    go false e = rw (records-none st ws e) refl

module _ (st ws : List ℕ) (n address len : ℕ) (chip : Chip) (store : ℕ) where
  judged : (d : Answer Unit) → ready_of (are_records st ws) n address len chip store ≡ d
      → list_of (records_of st ws) n address len chip store ≡ listing_by d (records_of st ws) n (plan_for chip address len)
  unfolding list_of
  judged d e = rw (held-is st ws, e) refl

  -- the same of what the call found the words and the range to be
  pub heard : (held : Bool) (r d : Answer Unit) → held ≡ are_records st ws → r ≡ ready_of held n address len chip store → r ≡ d
      → ready_of (are_records st ws) n address len chip store ≡ d
  heard held r d e f g = rw (← e) (sym f ∙ g)

  pub leaves-refused : (e : DmaBufError) → ready_of (are_records st ws) n address len chip store ≡ Err e
      → Leaves st ws st ws (Err e) (list_of (records_of st ws) n address len chip store)
  leaves-refused e h = rw (judged (Err e) h) (refl, (starts-same st ws, cells_same st ws))

  pub leaves-ready : ready_of (are_records st ws) n address len chip store ≡ (Ok tt) → let p = plan_for chip address len in
      Leaves st ws (up_to (list_start p) (used_of n p) st) (up_to (list_cells p) (used_of n p) ws) (Ok (record { covered = covered_of p (used_of n p); used = used_of n p }))
      (list_of (records_of st ws) n address len chip store)
  leaves-ready h =
      let p = plan_for chip address len in
      let r = ready (are_records st ws) n address len chip store h in
      let g = list-gets p st ws r.0 (used_of n p) (omega (arith, r.1.few)) in
      rw (judged (Ok tt) h)
      (refl, words_are st ws (up_to (list_start p) (used_of n p) st) (up_to (list_cells p) (used_of n p) ws) (up_to (listed_at p) (used_of n p) (records_of st ws)) r.0 g.0 g.1)
