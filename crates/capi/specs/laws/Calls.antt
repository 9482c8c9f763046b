-- What the calls without a loop of their own answer, case by case.
use Rattle.std.specs.Prelude.{ℕ, ◌+◌, ◌-◌, ◌≤◌, min, Bool, List, length, Ok, Err}
use Rattle.std.proofs.Math.Path.{◌≡◌, refl, ap}
use Rattle.std.proofs.Common.{◌∙◌, arith, ne_eqb, ltb-false}
use Rattle.std.proofs.Math.Bool.{true, false, cond}
use Rattle.std.proofs.Math.Dec.{ltb}
use Rattle.descriptors.specs.Record.{record_in, top}
use Rattle.descriptors.specs.Cells.{eof_cell}
use Rattle.descriptors.specs.Ring.{Ring, sound, split_sound}
use Rattle.descriptors.specs.laws.Sound.{ready-split}
use Rattle.rx_stream.specs.laws.Takes.{unsound}
use Rattle.descriptors.specs.Walk.{available_in}
use Rattle.descriptors.specs.declared.record.TransferDirection.TheVariants.{In, Out}
use Rattle.descriptors.specs.declared.refusal.DmaBufError.{DmaBufError}
use Rattle.descriptors.specs.declared.refusal.DmaBufError.TheVariants.{BadState, UnsupportedMemoryRegion}
use Rattle.descriptors.specs.declared.ring.Head.{Head}
use Rattle.rx_stream.specs.Receive.{flat_eof}
use Rattle.tx_stream.specs.Transmit.{available_of, write_at, prefill_offer_refusal_of}
use Rattle.psram.specs.Cut.{least_of, bounce_of, plan_of, plan_for, cut_of}
use Rattle.psram.specs.Piece.{bytes_of}
use Rattle.psram.specs.laws.Parts.{parted, sides}
use Rattle.psram.specs.declared.chip.Chip.{Chip}
use Rattle.psram.specs.declared.plan.Plan.{Plan}
use Rattle.psram.specs.declared.plan.Cut.{Cut}
use Rattle.capi.specs.Words.{head_made}
use Rattle.capi.specs.Answer.{said_number, said_in}
use Rattle.capi.specs.New.{head_if}
use Rattle.capi.specs.Parts.{peek_said, until_eof_said, offer_said, prefill_offer_said}
use Rattle.capi.specs.Pieces.{ready_said}
use Rattle.descriptors.specs.Refusal.{Answer}
use Rattle.capi.specs.declared.answer.Said.{Said}

-- ---- `new`: no five words, no store

pub head-if-not : (d : Answer Unit) (hw : List ℕ) (h : Head) → (length hw ≡ 5 → ⊥) → head_if d hw h ≡ hw
unfolding head_made
head-if-not (Ok tt) hw h n = rw (ne_eqb _ _ n)
head-if-not (Err e) hw h n = refl

-- ---- a value where a test holds, else 5

pub if-ok : {A : Type 0} (b : Bool) (x y : A) → cond {A = Answer A} b (Ok x) (Err BadState) ≡ Ok y → (b ≡ true) × (y ≡ x)
if-ok true x y h = (refl, cc)
if-ok false x y h = absurd (cc)

pub if-err : {A : Type 0} (b : Bool) (x : A) (e : DmaBufError) → cond {A = Answer A} b (Ok x) (Err BadState) ≡ Err e → (b ≡ false) × (e ≡ BadState)
if-err true x e h = absurd (cc)
if-err false x e h = (refl, cc)

-- ---- the offers

module _ (r : Ring) (len : ℕ) where
  pub offer-no : (e : DmaBufError) → available_of r len ≡ Err e → offer_said r len ≡ Err e
  unfolding available_of offer_said
  offer-no e h = let p = if-err (sound Out r len) _ e h in rw (p.0, p.1)

  pub offer-yes : (k : ℕ) → available_of r len ≡ Ok k → (sound Out r len ≡ true) × (k ≡ available_in Out r)
  unfolding available_of
  offer-yes k h = if-ok (sound Out r len) _ k h

  pub offer-words : sound Out r len ≡ true → (x y : ℕ) → x ≡ write_at r → y ≡ min (available_in Out r) (len - x) → Ok (record { first = x; second = y; third = 0 }) ≡ offer_said r len
  unfolding offer_said
  offer-words s x y p q = rw s (ap (λ (z : ℕ). Ok (record { first = x; second = z; third = 0 })) q ∙ ap (λ (z : ℕ). Ok (record { first = z; second = min (available_in Out r) (len - z); third = 0 })) p)

  pub prefill-offer-no : (e : DmaBufError) → prefill_offer_refusal_of r len ≡ Err e → prefill_offer_said r len ≡ Err e
  unfolding prefill_offer_refusal_of prefill_offer_said
  prefill-offer-no e h = let p = unsound (split_sound r len) refl h in rw (p.0, p.1)

  pub prefill-offer-yes : prefill_offer_refusal_of r len ≡ Ok tt → split_sound r len ≡ true
  unfolding prefill_offer_refusal_of
  prefill-offer-yes h = ready-split (split_sound r len) _ _ refl h

-- ---- peek_until_eof

pub record Until (r : Ring) (len x y : ℕ) : Type 0 where
  pub sound : sound In r len ≡ true
  pub words : (z : ℕ) → z ≡ eof_cell (flat_eof (record_in r.descriptors) (r.count - r.idx) r.idx) → Ok (record { first = x; second = y; third = z }) ≡ until_eof_said r len

module _ (r : Ring) (len : ℕ) where
  pub until-no : (e : DmaBufError) → peek_said true r len ≡ Err e → peek_said true r len ≡ until_eof_said r len
  unfolding peek_said until_eof_said
  until-no e h = let p = if-err (sound In r len) _ e h in rw p.0

  pub until-yes : (s : Said) → peek_said true r len ≡ Ok s → Until r len s.first s.second
  unfolding peek_said until_eof_said
  until-yes s h =
      let p = if-ok (sound In r len) _ s h in record { sound = p.0; words = λ z k. rw (p.0, p.1, k) }

-- ---- a range cut

module _ (chip : Chip) (address len : ℕ) where
  abbrev plan : Plan
  plan = plan_for chip address len

  pub cut_parts : (h m t : ℕ) → cut_of chip address len ≡ Ok (record { head = h; middle = m; tail = t })
      → (ltb top (address + len) ≡ false) × (record { head = h; middle = m; tail = t; bounce = bounce_of chip } ≡ plan)
  unfolding cut_of plan_of
  cut_parts h m t = go (ltb top (address + len)) refl
    where
      go : (b : Bool) → ltb top (address + len) ≡ b
          → cond {A = Answer Cut} b (Err UnsupportedMemoryRegion) (Ok (record { head = plan.head; middle = plan.middle; tail = plan.tail })) ≡ Ok (record { head = h; middle = m; tail = t })
          → (ltb top (address + len) ≡ false) × (record { head = h; middle = m; tail = t; bounce = bounce_of chip } ≡ plan)
      go true e k = absurd (cc)
      go false e k =
          let p : record { head = h; middle = m; tail = t } ≡ record { head = plan.head; middle = plan.middle; tail = plan.tail } = cc in
          (e, ap (λ (c : Cut). record { head = c.head; middle = c.middle; tail = c.tail; bounce = bounce_of chip }) p)

  pub cut-past : (e : DmaBufError) → cut_of chip address len ≡ Err e → (ltb top (address + len) ≡ true) × (e ≡ UnsupportedMemoryRegion)
  unfolding cut_of
  cut-past e = go (ltb top (address + len)) refl
    where
      go : (b : Bool) → ltb top (address + len) ≡ b
          → cond {A = Answer Cut} b (Err UnsupportedMemoryRegion) (Ok (record { head = plan.head; middle = plan.middle; tail = plan.tail })) ≡ Err e
          → (ltb top (address + len) ≡ true) × (e ≡ UnsupportedMemoryRegion)
      go true f k = (f, cc)
      go false f k = absurd (cc)

  pub cut-whole : ltb top (address + len) ≡ false → bytes_of plan ≤ top
  cut-whole e = omega (arith, (parted (least_of chip) (bounce_of chip) address len (sides chip)).whole, ltb-false top (address + len) e)

-- ---- a call that is refused first of all, or goes on

pub said-not : (b : Bool) (an : List ℕ) (s : Answer Said) → b ≡ false → (5 ≡ said_number (ready_said b s)) × (an ≡ said_in an (ready_said b s))
said-not b an s n = (rw n, rw n)

pub said-ready : (b : Bool) (an : List ℕ) (s said : Answer Said) (k : ℕ) (an' : List ℕ) → b ≡ true → said ≡ s → k ≡ said_number said → an' ≡ said_in an said
    → (k ≡ said_number (ready_said b s)) × (an' ≡ said_in an (ready_said b s))
said-ready b an s said k an' y p q r = (rw y (q ∙ ap said_number p), rw y (r ∙ ap (said_in an) p))
