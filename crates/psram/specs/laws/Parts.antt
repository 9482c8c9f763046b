-- What head, middle and tail have to do with each other, over least and bounce.
use Rattle.std.specs.Prelude.{ℕ, ◌+◌, ◌-◌, ◌%◌, ◌<◌, ◌≤◌, ◌≡◌, refl, Bool, true, false, cond, ◌&&◌, ◌⊎◌, leb, ltb}
use Rattle.std.proofs.Common.{inl, inr, ⊎_elim, arith, ltb-true, ltb-false, leb-true, leb-false, lt-ltb, le-ltb}
use Rattle.std.proofs.lemmas.Bool.{lt-leb}
use Rattle.psram.specs.Cut.{line, least_of, bounce_of, Sides, grown, head_of, tail_of, plan_of}
use Rattle.psram.specs.declared.chip.Chip.{Chip}
use Rattle.psram.specs.declared.chip.Chip.TheVariants.{Ordinary, S2}
use Rattle.psram.specs.declared.plan.Plan.{Plan}

pub sides : (chip : Chip) → Sides (least_of chip) (bounce_of chip)
sides Ordinary = record { some = omega arith; short = omega arith; room = omega arith; small = omega arith }
sides S2 = record { some = omega arith; short = omega arith; room = omega arith; small = omega arith }

-- an outer part grows by a line where it is below least, or stays
grown-by : (least size : ℕ) → (grown least size ≡ size) ⊎ ((grown least size ≡ size + line) × ((0 < size) × (size < least)))
grown-by least size = go (ltb 0 size) refl (ltb size least) refl
  where
    go : (z : Bool) → ltb 0 size ≡ z → (b : Bool) → ltb size least ≡ b
        → (cond (z && b) (size + line) size ≡ size) ⊎ ((cond (z && b) (size + line) size ≡ size + line) × ((0 < size) × (size < least)))
    go true p true e = inr (refl, (ltb-true 0 size p, ltb-true size least e))
    go true p false e = inl refl
    go false p b e = inl refl

-- the cut of a range of len bytes at the address, into p
pub record Parted (address len : ℕ) (p : Plan) : Type 0 where
  pub whole : p.head + p.middle + p.tail ≡ len
  pub head-held : p.head ≤ p.bounce
  pub tail-held : p.tail ≤ p.bounce
  pub lines : p.middle % line ≡ 0
  pub on_line : 0 < p.middle → (address + p.head) % line ≡ 0

-- the head leaves a range above the bounce size at least what the tail needs
head-room : (least bounce address len : ℕ) → Sides least bounce → bounce < len
    → (head_of least bounce address len + least ≤ len) × ((head_of least bounce address len ≤ bounce) × ((address + head_of least bounce address len) % line ≡ 0))
unfolding head_of
head-room least bounce address len s h =
    rw (lt-leb len bounce h)
    (⊎_elim (λ g. (omega arith, (omega arith, omega arith))) (λ g. (omega arith, (omega arith, omega arith))) (grown-by least ((line - address % line) % line)))

pub head-le : (least bounce address len : ℕ) → Sides least bounce → head_of least bounce address len ≤ len
unfolding head_of
head-le least bounce address len s = go (leb len bounce) refl
  where
    go : (b : Bool) → leb len bounce ≡ b → head_of least bounce address len ≤ len
    go true e = rw e (omega arith)
    go false e = omega (arith, (head-room least bounce address len s (leb-false len bounce e)).0)

-- the tail of the r bytes that the head leaves
tail-fits : (least bounce r : ℕ) → Sides least bounce → (r ≡ 0) ⊎ (least ≤ r)
    → (grown least (r % line) ≤ r) × ((grown least (r % line) ≤ bounce) × ((r - grown least (r % line)) % line ≡ 0))
tail-fits least bounce r s h =
    ⊎_elim (λ g. (omega arith, (omega arith, omega arith)))
    (λ g. ⊎_elim (λ z. (omega arith, (omega arith, omega arith))) (λ z. (omega arith, (omega arith, omega arith))) h) (grown-by least (r % line))

-- what a head leaves: nothing, or what the tail needs
left_by : (least bounce address len : ℕ) → Sides least bounce
    → (len - head_of least bounce address len ≡ 0) ⊎ (least ≤ len - head_of least bounce address len)
unfolding head_of
left_by least bounce address len s = go (leb len bounce) refl
  where
    go : (b : Bool) → leb len bounce ≡ b → (len - head_of least bounce address len ≡ 0) ⊎ (least ≤ len - head_of least bounce address len)
    go true e = inl (rw e (omega arith))
    go false e = inr (omega (arith, (head-room least bounce address len s (leb-false len bounce e)).0))

pub tail-le : (least bounce address len : ℕ) → Sides least bounce
    → tail_of least bounce address len ≤ len - head_of least bounce address len
unfolding tail_of
tail-le least bounce address len s =
    (tail-fits least bounce (len - head_of least bounce address len) s (left_by least bounce address len s)).0

pub parted : (least bounce address len : ℕ) → Sides least bounce → Parted address len (plan_of least bounce address len)
unfolding plan_of head_of tail_of
parted least bounce address len s =
    record {
      whole = omega (arith, h, t.0);
      head-held = held (leb len bounce) refl;
      tail-held = t.1.0;
      lines = t.1.1;
      on_line = λ m. (head-room least bounce address len s (above (leb len bounce) refl m)).1.1;
    }
  where
    h : head_of least bounce address len ≤ len
    h = head-le least bounce address len s

    t : (tail_of least bounce address len ≤ len - head_of least bounce address len)
        × ((tail_of least bounce address len ≤ bounce) × ((len - head_of least bounce address len - tail_of least bounce address len) % line ≡ 0))
    t = tail-fits least bounce (len - head_of least bounce address len) s (left_by least bounce address len s)

    held : (b : Bool) → leb len bounce ≡ b → head_of least bounce address len ≤ bounce
    held true e = rw e (omega (arith, leb-true len bounce e))
    held false e = (head-room least bounce address len s (leb-false len bounce e)).1.0

    all : leb len bounce ≡ true → head_of least bounce address len ≡ len
    all e = rw e

    above : (b : Bool) → leb len bounce ≡ b → 0 < len - head_of least bounce address len - tail_of least bounce address len → bounce < len
    above true e m = absurd (omega (arith, all e))
    above false e m = leb-false len bounce e

pub bounce-is : (least bounce address len : ℕ) → (plan_of least bounce address len).bounce ≡ bounce
unfolding plan_of
bounce-is least bounce address len = refl

-- the test for a range past the last address, without a sum that could go round
pub past-test : (most address len : ℕ) → len ≤ most → ltb (most - len) address ≡ ltb most (address + len)
past-test most address len h = go (ltb most (address + len)) refl
  where
    go : (b : Bool) → ltb most (address + len) ≡ b → ltb (most - len) address ≡ b
    go true e = lt-ltb (most - len) address (omega (arith, ltb-true most (address + len) e))
    go false e = le-ltb (most - len) address (omega (arith, ltb-false most (address + len) e))
