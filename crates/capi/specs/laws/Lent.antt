-- What a call does to a ring whose head was read from words, said of the words.
use Rattle.std.specs.Prelude.{ℕ, ◌≡◌, Bool, List, Option}
use Rattle.std.proofs.Common.{◌∙◌, ap}
use Rattle.descriptors.specs.Ring.{Ring, ring_of}
use Rattle.descriptors.specs.declared.ring.Head.{Head}
use Rattle.capi.specs.Words.{head_in, head_now, lent_ring, next_in, place_now}
use Rattle.capi.specs.Answer.{said_number, said_in}
use Rattle.descriptors.specs.Refusal.{Answer}
use Rattle.capi.specs.declared.answer.Said.{Said}

module _ (st ws hw : List ℕ) (test ready : Bool) (h : Head) (e : ready ≡ test) (eh : h ≡ head_in ready hw) where
  pub ring-lent : ring_of st ws h ≡ lent_ring test hw st ws
  ring-lent = ap (ring_of st ws) (eh ∙ ap (λ (b : Bool). head_in b hw) e)

  pub lent : {B : Type 0} (f : Ring → B) (x : B) → x ≡ f (ring_of st ws h) → x ≡ f (lent_ring test hw st ws)
  lent f x p = p ∙ ap f ring-lent

  pub head-lent : (f : Ring → Head) (after : Head) (hw' : List ℕ) → after ≡ f (ring_of st ws h) → hw' ≡ head_now ready hw after
      → hw' ≡ head_now test hw (f (lent_ring test hw st ws))
  head-lent f after hw' p q = q ∙ ap (λ (b : Bool). head_now b hw after) e ∙ ap (head_now test hw) (lent f after p)

  pub said-lent : (f : Ring → (Answer Said)) (an : List ℕ) (said : Answer Said) (n : ℕ) (an' : List ℕ) → said ≡ f (ring_of st ws h)
      → n ≡ said_number said → an' ≡ said_in an said
      → (n ≡ said_number (f (lent_ring test hw st ws))) × (an' ≡ said_in an (f (lent_ring test hw st ws)))
  said-lent f an said n an' p q r = (q ∙ ap said_number (lent f said p), r ∙ ap (said_in an) (lent f said p))

-- ---- a step: the device's place is read from a word as well

module _ (st ws hw dw : List ℕ) (test ready : Bool) (h : Head) (d : Option ℕ) (e : ready ≡ test) (eh : h ≡ head_in ready hw) (ed : d ≡ next_in ready dw) where
  pub step-lent : {B : Type 0} (f : Ring → Option ℕ → B) (x : B) → x ≡ f (ring_of st ws h) d → x ≡ f (lent_ring test hw st ws) (next_in test dw)
  step-lent f x p =
      p ∙ ap (λ (r : Ring). f r d) (ring-lent st ws hw test ready h e eh) ∙ ap (f (lent_ring test hw st ws)) (ed ∙ ap (λ (b : Bool). next_in b dw) e)

  pub place-lent : (f : Ring → Option ℕ → (Option ℕ)) (after : Option ℕ) (dw' : List ℕ) → after ≡ f (ring_of st ws h) d → dw' ≡ place_now ready dw after
      → dw' ≡ place_now test dw (f (lent_ring test hw st ws) (next_in test dw))
  place-lent f after dw' p q = q ∙ ap (λ (b : Bool). place_now b dw after) e ∙ ap (place_now test dw) (step-lent f after p)

  pub step-said : (f : Ring → Option ℕ → (Answer Said)) (an : List ℕ) (said : Answer Said) (n : ℕ) (an' : List ℕ) → said ≡ f (ring_of st ws h) d
      → n ≡ said_number said → an' ≡ said_in an said
      → (n ≡ said_number (f (lent_ring test hw st ws) (next_in test dw))) × (an' ≡ said_in an (f (lent_ring test hw st ws) (next_in test dw)))
  step-said f an said n an' p q r = (q ∙ ap said_number (step-lent f said p), r ∙ ap (said_in an) (step-lent f said p))
