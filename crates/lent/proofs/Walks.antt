-- What the walks share.
use mathlib.Core.List.{[], ◌∷◌, List}
use seplogic.Ra.Ura.{Ura}
use mir.Val.{Val}
use base.Logic.{SProp, ent, id⊢}
use base.Fml.{ftrue}
use types.Logic.{Logic}
use contract.Monad.{fact}
use types.Kit.{Goal, Soaks, Item, ‵, raw, some, later, ◌⊛◌, mean, Seq, ◌$◌, move, drop, use1, split, pick, await}
use denote.RattleType.{RattleType}
use denote.Laws.{Is, shows}
use denote.Steps.{facts, heard}

module _ {M : Type 1} {𝓤 : Ura M} {𝓛 : Logic 𝓤} {K : Type 0} {Γ : List (Item 𝓤)} {G : Goal 𝓤 𝓛.H} where
  -- a callee of plain parameters has returned: its answer r, what its contract says of r, and that v is r's machine value
  pub answers : K → Soaks G → (R : RattleType) (v : Val) (F : R.Denot → SProp 𝓤) (φ : R.Denot → Type 0) → ((r : R.Denot) → ent 𝓤 (F r) (fact 𝓤 (φ r)))
      → ((r : R.Denot) → φ r → Is R r (v ∷ []) → Seq K 𝓛 Γ G) → Seq K 𝓛 (raw (mean 𝓛 (later (some (λ (r : R.Denot). (‵ ftrue ⊛ ‵ (R.own_val r (v ∷ []))) ⊛ raw (F r))))) ∷ Γ) G
  answers t z R v F φ tells k =
      use1 𝓛 (later (some (λ (r : R.Denot). (‵ ftrue ⊛ ‵ (R.own_val r (v ∷ []))) ⊛ raw (F r)))) (id⊢ 𝓤 _) $ await t z $ pick t (λ r.
      split t $ move t (1 ∷ []) $ use1 𝓛 (raw (fact 𝓤 (φ r))) (tells r) $ heard t (φ r) (λ e. split t $ drop t $ facts t R (Is R) (shows 𝓛 R) r (v ∷ []) (λ is. k r e is)))
