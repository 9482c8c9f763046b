-- The parts of a buffer that peek and the offers hand back, as a place and a length.
use Rattle.std.specs.Prelude.{ℕ, ◌-◌, Bool, true, cond, Ok, Err}
use Rattle.descriptors.specs.Record.{record_in}
use Rattle.descriptors.specs.Cells.{eof_cell}
use Rattle.descriptors.specs.Ring.{Ring, sound, split_sound}
use Rattle.descriptors.specs.declared.record.TransferDirection.TheVariants.{In, Out}
use Rattle.descriptors.specs.declared.refusal.DmaBufError.TheVariants.{BadState}
use Rattle.rx_stream.specs.Receive.{peek_from, peek_bytes, flat_eof}
use Rattle.tx_stream.specs.Transmit.{write_at, offered}
use Rattle.descriptors.specs.Refusal.{Answer}
use Rattle.capi.specs.declared.answer.Said.{Said}

unfoldable pub peek_said : Bool → Ring → ℕ → Answer Said
peek_said until_eof r len = cond (sound In r len) (Ok (record { first = peek_from r; second = peek_bytes until_eof r; third = 0 })) (Err BadState)

-- with the yes or no
unfoldable pub until_eof_said : Ring → ℕ → Answer Said
until_eof_said r len =
    cond (sound In r len)
    (Ok (record { first = peek_from r; second = peek_bytes true r; third = eof_cell (flat_eof (record_in r.descriptors) (r.count - r.idx) r.idx) }))
    (Err BadState)

unfoldable pub offer_said : Ring → ℕ → Answer Said
offer_said r len = cond (sound Out r len) (Ok (record { first = write_at r; second = offered r len; third = 0 })) (Err BadState)

unfoldable pub prefill_offer_said : Ring → ℕ → Answer Said
prefill_offer_said r len = cond (split_sound r len) (Ok (record { first = r.prefilled; second = len - r.prefilled; third = 0 })) (Err BadState)
