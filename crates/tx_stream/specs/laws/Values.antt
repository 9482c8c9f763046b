-- Before `prepare`, prefilling leaves the records as they are.
use Rattle.std.specs.Prelude.{◌≡◌, ℕ, ◌-◌, Bool, true, false, List, nat_le, refl}
use Rattle.std.proofs.Common.{sym, ◌∙◌, ap}
use Rattle.descriptors.specs.Cells.{records_of, cells_now}
use Rattle.descriptors.specs.Refusal.{Answer}
use Rattle.descriptors.specs.Ring.{Ring, Outcome, split_sound}
use Rattle.descriptors.specs.laws.Words.{cells_same}
use Rattle.descriptors.specs.declared.record.DmaDescriptor.{DmaDescriptor}
use Rattle.tx_stream.specs.Transmit.{prefill_of, prefill_commit_of}
use Rattle.tx_stream.specs.laws.Rules.{prefill-no, prefill-yes, prefill-commit-no, prefill-commit-much, prefill-commit-yes}

pub prefill-keeps : (r : Ring) (len k : ℕ) → (prefill_of r len k).ring.descriptors ≡ r.descriptors
prefill-keeps r len k = go (split_sound r len) refl
  where
    go : (b : Bool) → split_sound r len ≡ b → (prefill_of r len k).ring.descriptors ≡ r.descriptors
    go true e = ap (λ (o : Outcome (Answer ℕ)). o.ring.descriptors) (prefill-yes r len e k)
    go false e = ap (λ (o : Outcome (Answer ℕ)). o.ring.descriptors) (prefill-no r len e k)

pub commit-keeps : (r : Ring) (len k : ℕ) → (prefill_commit_of r len k).ring.descriptors ≡ r.descriptors
commit-keeps r len k = go (split_sound r len) (nat_le k (len - r.prefilled)) refl refl
  where
    go : (b t : Bool) → split_sound r len ≡ b → nat_le k (len - r.prefilled) ≡ t → (prefill_commit_of r len k).ring.descriptors ≡ r.descriptors
    go true true e l = ap (λ (o : Outcome (Answer ℕ)). o.ring.descriptors) (prefill-commit-yes r len e k l)
    go true false e l = ap (λ (o : Outcome (Answer ℕ)). o.ring.descriptors) (prefill-commit-much r len e k l)
    go false t e l = ap (λ (o : Outcome (Answer ℕ)). o.ring.descriptors) (prefill-commit-no r len e k)

-- and so the words
pub cells-kept : (st ws : List ℕ) (ds : List DmaDescriptor) → ds ≡ records_of st ws → ws ≡ cells_now st ws ds
cells-kept st ws ds e = cells_same st ws ∙ ap (cells_now st ws) (sym e)
