-- Words one by one, and numbers that name a direction, a chip or a place.
use Rattle.std.specs.Prelude.{ℕ, zero, suc, ◌≤◌, ◌<◌, ◌≡◌, refl, Bool, true, List, [], ◌∷◌, eqb, leb, ltb, get_or, length, set, drop}
use Rattle.std.proofs.Common.{arith, eqb-true, ltb-true, leb-true, eq-eqb}
use Rattle.descriptors.specs.Record.{limit}
use Rattle.descriptors.specs.laws.Tests.{and_split}
use Rattle.descriptors.specs.declared.record.TransferDirection.TheVariants.{Out}
use Rattle.descriptors.specs.declared.ring.Head.{Head}
use Rattle.psram.specs.declared.chip.Chip.TheVariants.{S2}
use Rattle.capi.specs.Words.{is_head, head_made, head_now, is_place}
use Rattle.capi.specs.Pieces.{direction_of, chip_of}

pub direction-some : (x : ℕ) → (x ≡ 0 → ⊥) → Out ≡ direction_of x
direction-some zero h = absurd (h refl)
direction-some (suc k) h = refl

pub chip-some : (x : ℕ) → (x ≡ 0 → ⊥) → S2 ≡ chip_of x
chip-some zero h = absurd (h refl)
chip-some (suc k) h = refl

-- ---- a head's words

pub five-stored : (hw : List ℕ) (a b c d e : ℕ) → length hw ≡ 5
    → set (set (set (set (set hw 0 a) 1 b) 2 c) 3 d) 4 e ≡ a ∷ (b ∷ (c ∷ (d ∷ (e ∷ []))))
five-stored [] a b c d e h = absurd (omega arith)
five-stored (v ∷ []) a b c d e h = absurd (omega arith)
five-stored (v ∷ (w ∷ [])) a b c d e h = absurd (omega arith)
five-stored (v ∷ (w ∷ (x ∷ []))) a b c d e h = absurd (omega arith)
five-stored (v ∷ (w ∷ (x ∷ (y ∷ [])))) a b c d e h = absurd (omega arith)
five-stored (v ∷ (w ∷ (x ∷ (y ∷ (z ∷ []))))) a b c d e h = refl
five-stored (v ∷ (w ∷ (x ∷ (y ∷ (z ∷ (u ∷ s)))))) a b c d e h = absurd (omega arith)

pub head-five : (hw : List ℕ) → is_head hw ≡ true → length hw ≡ 5
unfolding is_head
head-five hw h = eqb-true _ _ (and_split (eqb (length hw) 5) (ltb (get_or hw 3 0) 4294967296) h).0

pub head-round : (hw : List ℕ) → is_head hw ≡ true → get_or hw 3 0 < 4294967296
unfolding is_head
head-round hw h = ltb-true _ _ (and_split (eqb (length hw) 5) (ltb (get_or hw 3 0) 4294967296) h).1

pub head-made : (hw : List ℕ) (h : Head) (ready : Bool) → ready ≡ true → is_head hw ≡ true → head_made hw h ≡ head_now ready hw h
unfolding head_made head_now
head-made hw h ready p q = rw (p, q, eq-eqb _ _ (head-five hw q))

-- what a test of the words tells
pub ruleset of_head = (head-five, head-round, head-made)

-- ---- an answer's words

pub three-stored : (an : List ℕ) (a b c : ℕ) → 3 ≤ length an → set (set (set an 0 a) 1 b) 2 c ≡ a ∷ (b ∷ (c ∷ drop 3 an))
three-stored [] a b c h = absurd (omega arith)
three-stored (v ∷ []) a b c h = absurd (omega arith)
three-stored (v ∷ (w ∷ [])) a b c h = absurd (omega arith)
three-stored (v ∷ (w ∷ (x ∷ s))) a b c h = refl

-- ---- a device's word

pub one-stored : (dw : List ℕ) (a : ℕ) → length dw ≡ 1 → set dw 0 a ≡ a ∷ []
one-stored [] a h = absurd (omega arith)
one-stored (v ∷ []) a h = refl
one-stored (v ∷ (w ∷ s)) a h = absurd (omega arith)

pub place-one : (dw : List ℕ) → is_place dw ≡ true → length dw ≡ 1
unfolding is_place
place-one dw h = eqb-true _ _ (and_split (eqb (length dw) 1) (leb (get_or dw 0 0) limit) h).0

pub place-small : (dw : List ℕ) → is_place dw ≡ true → get_or dw 0 0 ≤ limit
unfolding is_place
place-small dw h = leb-true _ _ (and_split (eqb (length dw) 1) (leb (get_or dw 0 0) limit) h).1

pub ruleset of_place = (place-one, place-small, one-stored)
