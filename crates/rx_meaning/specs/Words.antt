-- The words of document 01's sentences, over plain lists of records.
use Rattle.std.specs.Prelude.{Bool, false, cond, List, [], ◌∷◌}
use Rattle.descriptors.specs.Record.{is_cpu}
use Rattle.descriptors.specs.declared.record.DmaDescriptor.{DmaDescriptor}
use Rattle.rx_stream.specs.Receive.{ends_with}

-- "through records while each is full, ending with the first short one, before a DMA-owned one"; peek_until_eof "also ends at the
-- first EOF record"
abbrev pub one_piece : Bool → List DmaDescriptor → List DmaDescriptor
one_piece until_eof [] = []
one_piece until_eof (d ∷ ds) = cond (is_cpu d.owner) (d ∷ cond (ends_with until_eof d) [] (one_piece until_eof ds)) []

-- the mark of the last one
abbrev pub last_eof : List DmaDescriptor → Bool
last_eof [] = false
last_eof (d ∷ []) = d.suc_eof
last_eof (d ∷ e ∷ ds) = last_eof (e ∷ ds)
