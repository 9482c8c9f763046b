-- What a consume from a lent cursor leaves, in document 01's words.
use Rattle.std.specs.Prelude.{ℕ, ◌≡◌, refl, Bool, true, false, Err}
use Rattle.descriptors.specs.Ring.{ring_of, sound}
use Rattle.descriptors.specs.laws.Words.{cells_same}
use Rattle.descriptors.specs.declared.record.TransferDirection.TheVariants.{In}
use Rattle.descriptors.specs.declared.refusal.DmaBufError.TheVariants.{BadState}
use Rattle.rx_stream.specs.Receive.{consume_of}
use Rattle.rx_stream.specs.declared.view.DmaRxStreamBufView.{DmaRxStreamBufView}
use Rattle.lent.specs.Cursor.{standing_at, cursor_of, consume_by, consume_from}
use Rattle.lent.specs.declared.cursor.Cursor.{Cursor}

-- whether a consume from c is accepted
abbrev pub accepts : DmaRxStreamBufView → Cursor → ℕ → Bool
accepts v c len = sound In (ring_of v.starts v.cells (standing_at v c).head) len

-- refused, it changes nothing: the ring is as given, and the cursor as lent
pub refused-same : (v : DmaRxStreamBufView) (c : Cursor) (len k : ℕ) → accepts v c len ≡ false
    → consume_from v c len k ≡ record { cursor = c; done = record { ring = v; answer = Err BadState } }
unfolding consume_of consume_from
refused-same v c len k e = rw e refl

-- accepted, it is the by-value consume of the ring at the lent cursor, and the cursor is where that ring's now stands
pub accepted-moves : (v : DmaRxStreamBufView) (c : Cursor) (len k : ℕ) → accepts v c len ≡ true
    → consume_from v c len k ≡ record { cursor = cursor_of (consume_by (standing_at v c) len k).ring.head; done = consume_by (standing_at v c) len k }
unfolding consume_of consume_from
accepted-moves v c len k e = rw e refl

-- a lent cursor that is the ring's own makes it the by-value consume, refusals too
pub own-cursor : (v : DmaRxStreamBufView) → standing_at v (cursor_of v.head) ≡ v
own-cursor v = refl

pub by_value : (v : DmaRxStreamBufView) (len k : ℕ)
    → ((consume_from v (cursor_of v.head) len k).done ≡ consume_by v len k) × ((consume_from v (cursor_of v.head) len k).cursor ≡ cursor_of (consume_by v len k).ring.head)
unfolding consume_of consume_from
by_value v len k = go (sound In (ring_of v.starts v.cells v.head) len) refl
  where
    go : (b : Bool) → sound In (ring_of v.starts v.cells v.head) len ≡ b
        → ((consume_from v (cursor_of v.head) len k).done ≡ consume_by v len k) × ((consume_from v (cursor_of v.head) len k).cursor ≡ cursor_of (consume_by v len k).ring.head)
    go true e = (rw e refl, rw e refl)
    go false e = (rw (e, ← cells_same v.starts v.cells) refl, rw e refl)
