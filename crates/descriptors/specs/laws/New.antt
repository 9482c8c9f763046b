-- The three ways of `new`.
use Rattle.std.specs.Prelude.{◌≡◌, ℕ, ◌≤◌, true, false, List, [], length, nat_lt, refl, Ok, Err}
use Rattle.std.proofs.Common.{◌∙◌, ap, arith, lt-ltb, le-ltb}
use Rattle.descriptors.specs.Record.{limit, up_to}
use Rattle.descriptors.specs.Cells.{are_records, records_of}
use Rattle.descriptors.specs.Split.{split_of, laid_out}
use Rattle.descriptors.specs.Stores.{lay_start, lay_cells}
use Rattle.descriptors.specs.Ring.{Outcome, fresh, head_of, new_of, new_by, NewIn}
use Rattle.descriptors.specs.laws.Lifts.{records-none, records-length}
use Rattle.descriptors.specs.laws.Words.{starts-same, cells_same, words_are}
use Rattle.descriptors.specs.laws.Stores.{all_laid}
use Rattle.descriptors.specs.laws.Splits.{parts-known}
use Rattle.descriptors.specs.declared.record.TransferDirection.{TransferDirection}
use Rattle.descriptors.specs.declared.refusal.DmaBufError.{DmaBufError}
use Rattle.descriptors.specs.declared.refusal.DmaBufError.TheVariants.{BadState}
use Rattle.descriptors.specs.declared.split.Split.{Split}
use Rattle.descriptors.specs.declared.ring.Head.{Head}
use Rattle.descriptors.specs.Refusal.{Answer}

-- an outcome that leaves the lent records as they are
kept : (dir : TransferDirection) (st ws : List ℕ) (n len : ℕ) (h : Head) (d : Answer Unit) (o : Outcome (Answer Unit)) → new_of dir (records_of st ws) n len ≡ o
    → o.ring.descriptors ≡ records_of st ws → h ≡ head_of o.ring → d ≡ o.answer → NewIn dir st ws n len st ws h d
kept dir st ws n len h d o e q p a =
    record {
      starts = rw (e, q) (starts-same st ws);
      cells = rw (e, q) (cells_same st ws);
      head = rw e p;
      answer = rw e a;
    }

pub new-refused : (dir : TransferDirection) (st ws : List ℕ) (n len : ℕ) (e : DmaBufError) (h : Head) (d : Answer Unit) → split_of n len ≡ Err e
    → h ≡ head_of (fresh [] n) → d ≡ Err e → NewIn dir st ws n len st ws h d
unfolding new_of
new-refused dir st ws n len e h d p q s =
    kept dir st ws n len h d (record { ring = fresh (records_of st ws) n; answer = Err e }) (ap (new_by dir (records_of st ws) n len) p) refl q s

pub new-no-records : (dir : TransferDirection) (st ws : List ℕ) (n len : ℕ) (s : Split) (h : Head) → split_of n len ≡ Ok s → are_records st ws ≡ false
    → h ≡ head_of (fresh [] n) → NewIn dir st ws n len st ws h (Err BadState)
unfolding new_of
new-no-records dir st ws n len s h p a q =
    kept dir st ws n len h (Err BadState) (record { ring = fresh (records_of st ws) n; answer = Err BadState })
    (ap (new_by dir (records_of st ws) n len) p ∙ rw (records-none st ws a, lt-ltb 0 n (omega (arith, (parts-known n len s p).facts.few))) refl) refl q refl

enough : (k n : ℕ) → k ≡ limit → n ≤ limit → nat_lt k n ≡ false
enough k n e m = le-ltb k n (omega arith)

pub new-ready : (dir : TransferDirection) (st ws st' ws' : List ℕ) (n len : ℕ) (s : Split) (h : Head) → split_of n len ≡ Ok s → n ≤ limit → are_records st ws ≡ true
    → st' ≡ up_to (lay_start n len) n st → ws' ≡ up_to (lay_cells dir n len) n ws → h ≡ head_of (fresh [] n)
    → NewIn dir st ws n len st' ws' h (Ok tt)
unfolding new_of
new-ready dir st ws st' ws' n len s h p m a es ew q =
    let o : new_by dir (records_of st ws) n len (split_of n len) ≡ record { ring = fresh (laid_out dir n len (records_of st ws)) n; answer = Ok tt } =
    ap (new_by dir (records_of st ws) n len) p ∙ rw (enough (length (records_of st ws)) n (records-length st ws a) m) refl in
    let l = all_laid dir st ws n len a m in
    let w = words_are st ws (up_to (lay_start n len) n st) (up_to (lay_cells dir n len) n ws) (laid_out dir n len (records_of st ws)) a l.0 l.1 in
    record {
      starts = rw (es, o) w.0;
      cells = rw (ew, o) w.1;
      head = rw o q;
      answer = rw o refl;
    }
