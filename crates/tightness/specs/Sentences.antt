-- Three sentences of document 01 that rule out what "must not pass", on every sound ring, whoever owns its records: what is taken or
-- accepted is the least of what is asked and what is available; the number of records gone back is the count of those whose owner went
-- to DMA; and `new` accepts exactly what the table of refusals leaves.
use Rattle.std.specs.Prelude.{ℕ, ◌+◌, ◌/◌, ◌%◌, min, ◌≤◌, ◌<◌, ◌≡◌, ◌↔◌, Bool, true, false, leb, Ok}
use Rattle.std.proofs.Math.Path.{refl}
use Rattle.std.proofs.Common.{sym, ◌∙◌, ap, arith}
use borrow.Author.Tests.{le-ltb, lt-leb, ne_eqb, leb-false}
use Rattle.descriptors.specs.Record.{least, limit, most}
use Rattle.descriptors.specs.Split.{split_of, accepts}
use Rattle.descriptors.specs.Ring.{Ring, sound}
use Rattle.descriptors.specs.Walk.{available_in, planned, advanced}
use Rattle.descriptors.specs.laws.Splits.{Accepted, accepted}
use Rattle.descriptors.specs.laws.Tests.{not-both}
use Rattle.descriptors.specs.declared.record.TransferDirection.{TransferDirection}
use Rattle.descriptors.specs.declared.record.TransferDirection.TheVariants.{In}
use Rattle.sound_ring.specs.Counts.{count_below}
use Rattle.sound_ring.specs.Laws.{went_over, takes-min, as-many-went}
use Rattle.rx_stream.specs.Receive.{idle, consume_of, pop_of}

-- "`consume(k)` takes min(k, available)", and so does pop, but for "0 while the cursor's record is CPU-owned with length 0"
pub pop-answers : (r : Ring) (len k : ℕ) → sound In r len ≡ true → idle r k ≡ false → (pop_of r len k).answer ≡ Ok (min k (available_in In r))
unfolding pop_of
pop-answers r len k h e = rw (h, e) (ap Ok (takes-min In r len h k))

-- BOTH DIRECTIONS: the number of records gone back, or queued, is "the count of records whose owner went to DMA"
pub back-is-count : (dir : TransferDirection) (r : Ring) (len k : ℕ) → sound dir r len ≡ true
    → (planned dir r k).back ≡ count_below (went_over r (advanced dir r k)) r.count
back-is-count dir r len k h = as-many-went dir r len h k

-- consume, whole: "It reports the bytes taken and the records gone back."
pub consume-answers : (r : Ring) (len k : ℕ) → sound In r len ≡ true
    → (consume_of r len k).answer ≡ Ok (record { taken = min k (available_in In r); back = count_below (went_over r (consume_of r len k).ring) r.count })
unfolding consume_of
consume-answers r len k h =
    rw h (ap (λ (x : ℕ). Ok (record { taken = x; back = (planned In r k).back })) (takes-min In r len h k) ∙ ap (λ (x : ℕ). Ok (record { taken = min k (available_in In r); back = x })) (back-is-count In r len k h))

-- ---- `new` accepts exactly what no row of the table refuses

pub accepts-exactly : (n len : ℕ) → (accepts n len ≡ true) ↔ ((4 ≤ n) × (n ≤ 64) × (0 < len / n) × (len % n < len / n) × (len / n + len % n ≤ 4095))
accepts-exactly n len = (to, from)
  where
    uneven : Accepted n len → leb (len / n) (len % n) ≡ true → accepts n len ≡ false
    uneven a e =
        unfold split_of in rw (le-ltb n least a.few, le-ltb limit n a.many, le-ltb most (len / n) a.chunk, ne_eqb (len / n) 0 (λ z. absurd (omega (arith, a.some))), e) refl

    even : Accepted n len → accepts n len ≡ true → (b : Bool) → leb (len / n) (len % n) ≡ b → len % n < len / n
    even a h false e = leb-false (len / n) (len % n) e
    even a h true e = not-both (sym (uneven a e) ∙ h)

    to : accepts n len ≡ true → (4 ≤ n) × (n ≤ 64) × (0 < len / n) × (len % n < len / n) × (len / n + len % n ≤ 4095)
    to h = let a = accepted n len h in (a.few, a.many, a.some, even a h (leb (len / n) (len % n)) refl, a.last)

    from : (4 ≤ n) × (n ≤ 64) × (0 < len / n) × (len % n < len / n) × (len / n + len % n ≤ 4095) → accepts n len ≡ true
    from (a, b, c, d, e) =
        unfold split_of in rw (le-ltb n least a, le-ltb limit n b, le-ltb most (len / n) (omega arith), ne_eqb (len / n) 0 (λ z. absurd (omega arith)), lt-leb (len / n) (len % n) d, le-ltb most (len / n + len % n) e) refl
