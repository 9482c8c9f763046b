-- The machine values of a ring, of a cursor, of an answer and of both, for both walks over a cursor.
use mathlib.Core.Path.{subst}
use mathlib.Core.List.{[], ◌∷◌, List}
use mir.Val.{Val}
use denote.Laws.{Is}
use denote.RattleType.{RattleType}
use denote.Struct.Declared.{Declared}
use denote.Struct.Laws as LL
use Rattle.descriptors.specs.declared.ring.Kept.{Kept}
use Rattle.descriptors.specs.contracts.ring.Kept as Ke
use Rattle.descriptors.proofs.ring.Kept.TheLaws as Ke'
use Rattle.rx_stream.specs.declared.Took.{Took}
use Rattle.rx_stream.specs.contracts.Took as To
use Rattle.rx_stream.proofs.Took.TheLaws as To'
use Rattle.rx_stream.specs.declared.view.DmaRxStreamBufView.{DmaRxStreamBufView}
use Rattle.rx_stream.specs.contracts.view.DmaRxStreamBufView as Ri
use Rattle.rx_stream.proofs.view.DmaRxStreamBufView.TheLaws as Ri'
use Rattle.lent.specs.declared.cursor.Cursor.{Cursor}
use Rattle.lent.specs.declared.cursor.Stepped.{Stepped}
use Rattle.lent.specs.contracts.cursor.Cursor as Cu
use Rattle.lent.proofs.cursor.Cursor.TheLaws as Cu'
use Rattle.lent.specs.contracts.cursor.Stepped as St
use Rattle.lent.proofs.cursor.Stepped.TheLaws as St'

abbrev pub view : DmaRxStreamBufView → Val
view = LL.val Ri.the_type Ri'.the_laws

abbrev pub cursor : Cursor → Val
cursor = LL.val Cu.the_type Cu'.the_laws

-- a consume's answer with the ring that it leaves: its type, its row and its laws
abbrev Co : Declared
Co = Ke.the_type Ri.the_row To.the_row

abbrev pub answers : RattleType
answers = Ke.the_row Ri.the_row To.the_row

abbrev its-laws : LL.Laws Co
its-laws = Ke'.the_laws Ri.the_row To.the_row Ri'.the_row_laws To'.the_row_laws Ri'.the_told To'.the_told

abbrev pub answer : Kept DmaRxStreamBufView Took → Val
answer = LL.val Co its-laws

abbrev pub both : Stepped → Val
both = LL.val St.the_type St'.the_laws

pub spelled : (r : Kept DmaRxStreamBufView Took) (vs : List Val) → Is answers r vs → Is answers r (answer r ∷ [])
spelled r vs g = subst (Is answers r) (LL.tells Co its-laws r vs g) g

pub spelled-both : (m : Stepped) (vs : List Val) → Is St.the_row m vs → Is St.the_row m (both m ∷ [])
spelled-both m vs g = subst (Is St.the_row m) (LL.tells St.the_type St'.the_laws m vs g) g
