-- Where the pieces of a plan lie.
use Rattle.std.specs.Prelude.{ℕ, ◌+◌, ◌-◌, ◌*◌, ◌%◌, ◌<◌, ◌≤◌, ◌≡◌, refl, Bool, true, false, cond, ◌&&◌, ◌⊎◌, eqb, leb, ltb, Ok, Err}
use Rattle.std.proofs.Common.{inl, inr, ⊎_elim, arith, ltb-true, ltb-false, leb-true}
use Rattle.descriptors.specs.Record.{limit, top}
use Rattle.descriptors.specs.declared.refusal.DmaBufError.TheVariants.{TooManyDescriptors, BadState, TooMuch, UnsupportedMemoryRegion}
use Rattle.psram.specs.Cut.{piece, least_of, bounce_of, plan_for}
use Rattle.psram.specs.Piece.{Small, bytes_of, some, directs, direct_of, piece_of, start_in, size_in, ready_of, numbered_by, numbered_of}
use Rattle.psram.specs.laws.Parts.{Parted, parted, bounce-is, sides}
use Rattle.psram.specs.declared.chip.Chip.{Chip}
use Rattle.psram.specs.declared.plan.Plan.{Plan}
use Rattle.psram.specs.declared.held.Held.TheVariants.{InStore, InRange}
use Rattle.descriptors.specs.Refusal.{Answer}
use Rattle.psram.specs.declared.held.Held.{Held}

pub some-le : (size : ℕ) → some size ≤ 1
some-le size = go (eqb size 0)
  where
    go : (b : Bool) → cond b 0 1 ≤ 1
    go true = omega arith
    go false = omega arith

-- a piece of a plan: the head at 0 of the store, the tail at the bounce size; or a part of the middle
abbrev pub Lies : Plan → Answer Held → Type 0
Lies p (Ok (InStore start size)) = ((start ≡ 0) × (size ≡ p.head)) ⊎ ((start ≡ p.bounce) × (size ≡ p.tail))
Lies p (Ok (InRange start size)) = (p.head ≤ start) × ((start + size ≤ p.head + p.middle) × (((start - p.head) % piece ≡ 0) × ((0 < size) × (size ≤ piece))))
Lies p (Err e) = Unit {0}

pub lies : (p : Plan) (i : ℕ) → Lies p (piece_of p i)
unfolding piece_of
lies p i =
    go (ltb i (some p.head))
    (ltb (i - some p.head) (directs p.middle)) refl
    (ltb (i - some p.head - directs p.middle) (some p.tail))
  where
    go : (a b : Bool) → ltb (i - some p.head) (directs p.middle) ≡ b → (c : Bool)
        → Lies p (cond a (Ok (InStore 0 p.head)) (cond b (Ok (direct_of p (i - some p.head))) (cond c (Ok (InStore p.bounce p.tail)) (Err TooMuch))))
    go true b e c = inl (refl, refl)
    go false true e c =
        let h = ltb-true (i - some p.head) (directs p.middle) e in (omega arith, (omega arith, (omega arith, (omega arith, omega arith))))
    go false false e true = inr (refl, refl)
    go false false e false = tt

abbrev chosen : Bool → Bool → Bool → Bool → Answer Unit
chosen many held room past =
    cond many (Err TooManyDescriptors)
    (cond (held && room) (cond past (Err UnsupportedMemoryRegion) (Ok tt)) (Err BadState))

-- what a list that is not refused was asked for
pub record Ready (n address len : ℕ) (chip : Chip) (store : ℕ) : Type 0 where
  pub few : n ≤ limit
  pub room : 2 * bounce_of chip ≤ store
  pub below : address + len ≤ top

pub ready : (held : Bool) (n address len : ℕ) (chip : Chip) (store : ℕ) → ready_of held n address len chip store ≡ (Ok tt)
    → (held ≡ true) × Ready n address len chip store
unfolding ready_of
ready held n address len chip store h = go (ltb limit n) refl held refl (leb (2 * bounce_of chip) store) refl (ltb top (address + len)) refl h
  where
    go : (a : Bool) → ltb limit n ≡ a → (b : Bool) → held ≡ b → (c : Bool) → leb (2 * bounce_of chip) store ≡ c → (d : Bool) → ltb top (address + len) ≡ d
        → chosen a b c d ≡ (Ok tt) → (held ≡ true) × Ready n address len chip store
    go true p b q c r d t h = absurd (cc)
    go false p true q true r true t h = absurd (cc)
    go false p true q true r false t h = (q, record { few = ltb-false limit n p; room = leb-true (2 * bounce_of chip) store r; below = ltb-false top (address + len) t })
    go false p true q false r d t h = absurd (cc)
    go false p false q c r d t h = absurd (cc)

-- a plan of a range that ends by the last address
pub bytes_le : (n address len : ℕ) (chip : Chip) (store : ℕ) → Ready n address len chip store → bytes_of (plan_for chip address len) ≤ top
bytes_le n address len chip store r =
    omega (arith, (parted (least_of chip) (bounce_of chip) address len (sides chip)).whole, r.below)

-- the part that a numbered piece shows is there
abbrev pub Within : ℕ → ℕ → Answer Held → Type 0
Within store len (Ok (InStore start size)) = start + size ≤ store
Within store len (Ok (InRange start size)) = start + size ≤ len
Within store len (Err e) = Unit {0}

pub within : (n address len : ℕ) (chip : Chip) (store i : ℕ) → Within store len (numbered_of n address len chip store i)
unfolding numbered_of
within n address len chip store i = go (ready_of true n address len chip store) refl
  where
    parts : Parted address len (plan_for chip address len)
    parts = parted (least_of chip) (bounce_of chip) address len (sides chip)

    same : (plan_for chip address len).bounce ≡ bounce_of chip
    same = bounce-is (least_of chip) (bounce_of chip) address len

    part : Ready n address len chip store → (h : Answer Held) → Lies (plan_for chip address len) h → Within store len h
    part r (Ok (InStore start size)) l =
        ⊎_elim (λ q. omega (arith, parts.head-held, same, r.room)) (λ q. omega (arith, parts.tail-held, same, r.room)) l
    part r (Ok (InRange start size)) l = omega (arith, parts.whole)
    part r (Err e) l = tt

    numbered : (b : Bool) (h : Answer Held) → Within store len h → Within store len (cond b h (Err TooMuch))
    numbered true h w = w
    numbered false h w = tt

    go : (d : Answer Unit) → ready_of true n address len chip store ≡ d → Within store len (numbered_by d n (plan_for chip address len) i)
    go (Ok tt) e =
        numbered (ltb i n) (piece_of (plan_for chip address len) i)
        (part (ready true n address len chip store e).1 (piece_of (plan_for chip address len) i) (lies (plan_for chip address len) i))
    go (Err r) e = tt

pub there : (n address len : ℕ) (chip : Chip) (store i : ℕ) (a : Answer Held) (h g : Held) → a ≡ numbered_of n address len chip store i → a ≡ Ok h → h ≡ g
    → Within store len (Ok g)
there n address len chip store i a h g e f d = rw (← e, f, d) at (within n address len chip store i)

-- the length of a part that is given by its start and its end
pub span : (start size : ℕ) → start + size - start ≡ size
span start size = omega arith

-- a record can hold where a piece of a small plan starts, and its size
pub small-fits : (p : Plan) → Small p → (i : ℕ) → (size_in (piece_of p i) ≤ piece) × (start_in (piece_of p i) < top)
small-fits p s i = go (piece_of p i) (lies p i)
  where
    go : (h : Answer Held) → Lies p h → (size_in h ≤ piece) × (start_in h < top)
    go (Ok (InStore start size)) l = ⊎_elim (λ q. (omega arith, omega arith)) (λ q. (omega arith, omega arith)) l
    go (Ok (InRange start size)) l = (omega arith, omega arith)
    go (Err e) l = (omega arith, omega arith)

pub small : (n address len : ℕ) (chip : Chip) (store : ℕ) → Ready n address len chip store → Small (plan_for chip address len)
small n address len chip store r =
    let q = parted (least_of chip) (bounce_of chip) address len (sides chip) in
    let b = bounce-is (least_of chip) (bounce_of chip) address len in
    record {
      bytes = bytes_le n address len chip store r;
      head = omega (arith, q.head-held, b, (sides chip).small);
      tail = omega (arith, q.tail-held, b, (sides chip).small);
      bounce = omega (arith, b, (sides chip).small);
    }
