-- Each rule where the ring is refused, and where it is sound; and what the judge's answer tells of it.
use Rattle.std.specs.Prelude.{◌≡◌, ℕ, ◌+◌, ◌-◌, ◌%◌, ◌^◌, min, Bool, true, false, List, [], length, take, drop, nat_le, refl, Ok, Err}
use Rattle.std.proofs.Common.{sym, ◌∙◌, arith}
use Rattle.std.proofs.Math.Seq.{paste}
use Rattle.std.specs.Borrow.{Bor}
use Rattle.descriptors.specs.Ring.{Ring, refused, sound, split_sound, judged}
use Rattle.descriptors.specs.Walk.{available_in, advanced}
use Rattle.descriptors.specs.laws.Tests.{not-both}
use Rattle.descriptors.specs.declared.record.TransferDirection.TheVariants.{Out}
use Rattle.descriptors.specs.declared.refusal.DmaBufError.{DmaBufError}
use Rattle.descriptors.specs.declared.refusal.DmaBufError.TheVariants.{BadState, TooMuch}
use Rattle.descriptors.specs.Ring.{linked_all}
use Rattle.tx_stream.specs.Transmit.{prefilled_by, prefill_of, prefill_into, prefill_offer_of, prefill_commit_of, marked_ready, prepared_as, prepare_of, available_of, push_of, push_into, paste_round, write_at, offered, offer_of, accepted_up_to, commit_of, advance_of}
use Rattle.descriptors.specs.Part.{part_from}
use Rattle.descriptors.specs.laws.Parts.{front-place}
use Rattle.descriptors.specs.Refusal.{Answer}
use Rattle.tx_stream.specs.Faces.{prefill_place, offer_place}

-- what the judge refuses is not sound, and the refusal is 5
pub unsound : (b : Bool) (d : Answer Unit) (e : DmaBufError) → d ≡ judged b → d ≡ Err e → (b ≡ false) × (e ≡ BadState)
unsound true d e p q = not-both (let z : judged true ≡ Err e = sym p ∙ q in cc)
unsound false d e p q = let z : judged false ≡ Err e = sym p ∙ q in (refl, cc)

-- ---- before `prepare`

module _ (r : Ring) (len : ℕ) (e : split_sound r len ≡ false) where
  pub prefill-no : (k : ℕ) → prefill_of r len k ≡ refused r (Err BadState)
  unfolding prefill_of
  prefill-no k = rw e

  pub prefill-commit-no : (k : ℕ) → prefill_commit_of r len k ≡ refused r (Err BadState)
  unfolding prefill_commit_of
  prefill-commit-no k = rw e

  pub prepare-no : prepare_of r len ≡ refused r (Err BadState)
  unfolding prepare_of
  prepare-no = rw e

module _ (r : Ring) (len : ℕ) (e : split_sound r len ≡ true) where
  pub prefill-yes : (k : ℕ)
      → prefill_of r len k ≡ record { ring = prefilled_by r (min k (len - r.prefilled)); answer = Ok (min k (len - r.prefilled)) }
  unfolding prefill_of
  prefill-yes k = rw e

  pub prefill-commit-yes : (k : ℕ) → nat_le k (len - r.prefilled) ≡ true
      → prefill_commit_of r len k ≡ record { ring = prefilled_by r k; answer = Ok k }
  unfolding prefill_commit_of
  prefill-commit-yes k l = rw (e, l)

  pub prefill-commit-much : (k : ℕ) → nat_le k (len - r.prefilled) ≡ false → prefill_commit_of r len k ≡ refused r (Err TooMuch)
  unfolding prefill_commit_of
  prefill-commit-much k l = rw (e, l)

  pub prepare-yes : prepare_of r len
      ≡ record { ring = prepared_as r (marked_ready r.count r.prefilled (linked_all Out r.count r.descriptors)); answer = Ok tt }
  unfolding prepare_of
  prepare-yes = rw e

pub into-no : (r : Ring) (bytes bs : List ℕ) → split_sound r (length bytes) ≡ false → prefill_into r bytes bs ≡ bytes
unfolding prefill_into
into-no r bytes bs e = rw e

pub into-yes : (r : Ring) (bytes bs : List ℕ) → split_sound r (length bytes) ≡ true
    → prefill_into r bytes bs ≡ paste bytes r.prefilled bs (min (length bs) (length bytes - r.prefilled))
unfolding prefill_into
into-yes r bytes bs e = rw e

pub prefill-offer-no : (r : Ring) (bytes : List ℕ) → split_sound r (length bytes) ≡ false → prefill_offer_of r bytes ≡ []
unfolding prefill_offer_of
prefill-offer-no r bytes e = rw e

pub prefill-offer-yes : (r : Ring) (bytes : List ℕ) → split_sound r (length bytes) ≡ true → prefill_offer_of r bytes ≡ drop r.prefilled bytes
unfolding prefill_offer_of
prefill-offer-yes r bytes e = rw e

-- ---- after it

module _ (r : Ring) (len : ℕ) (e : sound Out r len ≡ false) where
  pub available-no : available_of r len ≡ Err BadState
  unfolding available_of
  available-no = rw e

  pub push-no : (k : ℕ) → push_of r len k ≡ refused r (Err BadState)
  unfolding push_of
  push-no k = rw e

  pub up-to-no : (bound k : ℕ) → accepted_up_to bound r len k ≡ refused r (Err BadState)
  up-to-no bound k = rw e

  pub advance-no : (k : ℕ) → advance_of r len k ≡ refused r (Err BadState)
  unfolding advance_of
  advance-no k = up-to-no (available_in Out r) k

  pub commit-no : (k : ℕ) → commit_of r len k ≡ refused r (Err BadState)
  unfolding commit_of
  commit-no k = up-to-no (offered r len) k

module _ (r : Ring) (len : ℕ) (e : sound Out r len ≡ true) where
  pub available-yes : available_of r len ≡ Ok (available_in Out r)
  unfolding available_of
  available-yes = rw e

  pub push-yes : (k : ℕ)
      → push_of r len k ≡ record { ring = advanced Out r (min k (available_in Out r)); answer = Ok (min k (available_in Out r)) }
  unfolding push_of
  push-yes k = rw e

pub push-into-no : (r : Ring) (bytes bs : List ℕ) → sound Out r (length bytes) ≡ false → push_into r bytes bs ≡ bytes
unfolding push_into
push-into-no r bytes bs e = rw e

pub push-into-yes : (r : Ring) (bytes bs : List ℕ) → sound Out r (length bytes) ≡ true
    → push_into r bytes bs ≡ paste_round bytes (write_at r) (take (min (length bs) (available_in Out r)) bs)
unfolding push_into
push-into-yes r bytes bs e = rw e

pub offer-no : (r : Ring) (bytes : List ℕ) → sound Out r (length bytes) ≡ false → offer_of r bytes ≡ []
unfolding offer_of
offer-no r bytes e = rw e

pub offer-yes : (r : Ring) (bytes : List ℕ) → sound Out r (length bytes) ≡ true
    → offer_of r bytes ≡ take (offered r (length bytes)) (drop (write_at r) bytes)
unfolding offer_of
offer-yes r bytes e = rw e

-- ---- where the parts on offer begin

pub offer-at : (r : Ring) (bytes : List ℕ) → sound Out r (length bytes) ≡ true → offer_place r bytes ≡ write_at r
unfolding offer_place
offer-at r bytes e = rw e

pub offer-place-no : (r : Ring) (bytes : List ℕ) (b : Bor (List ℕ)) → sound Out r (length bytes) ≡ false → part_from b (offer_place r bytes) ≡ b.ref_ptr
unfolding offer_place
offer-place-no r bytes b e = rw e (front-place b 0 refl)

pub prefill-offer-at : (r : Ring) (bytes : List ℕ) → split_sound r (length bytes) ≡ true → prefill_place r bytes ≡ r.prefilled
unfolding prefill_place
prefill-offer-at r bytes e = rw e

pub prefill-place-no : (r : Ring) (bytes : List ℕ) (b : Bor (List ℕ)) → split_sound r (length bytes) ≡ false → part_from b (prefill_place r bytes) ≡ b.ref_ptr
unfolding prefill_place
prefill-place-no r bytes b e = rw e (front-place b 0 refl)

-- the tally goes round, whether or not what is added has gone round before
pub tally-wraps : (a b : ℕ) → (a + b % 4294967296) % 2 ^ 32 ≡ (a + b) % 2 ^ 32
tally-wraps a b = omega arith
