-- What a step with the ring by value gives back, by the outcome that its rule has.
use Rattle.std.specs.Prelude.{ℕ}
use Rattle.rx_stream.specs.Faces.{view_now}
use Rattle.rx_stream.specs.declared.view.DmaRxStreamBufView.{DmaRxStreamBufView}
use Rattle.tx_stream.specs.Values.{view_by}
use Rattle.tx_stream.specs.declared.view.DmaTxStreamBufView.{DmaTxStreamBufView}
use Rattle.device.specs.Device.{Stepped}
use Rattle.device.specs.declared.by_value.Step.{Step}
use Rattle.descriptors.specs.Refusal.{Answer}

abbrev pub received_of : DmaRxStreamBufView → Stepped (Answer Unit) → Step DmaRxStreamBufView Unit
received_of v o = record { ring = view_now v o.ring; device = o.device; answer = o.answer }

abbrev pub sent_of : DmaTxStreamBufView → Stepped (Answer ℕ) → Step DmaTxStreamBufView ℕ
sent_of v o = record { ring = view_by v o.ring; device = o.device; answer = o.answer }
