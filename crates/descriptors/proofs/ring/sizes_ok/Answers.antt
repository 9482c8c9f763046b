use Rattle.descriptors.specs.laws.Tests.{but_last}
use Rattle.descriptors.specs.Cells.{all_below}
use Rattle.std.proofs.Common.{◌≡◌, ℕ, Bool, ◌-◌, ◌==◌, ◌&&◌, cond, nat_eq, slice_index, sym, ap, ◌∙◌, arith, rules, eqb-true}
use Rattle.descriptors.proofs.ring.sizes_ok.Goals.{After-all_below}
use Rattle.descriptors.proofs.ring.sizes_ok.Goals as goal

settled : (c : After-all_below) (r : Bool) → c.all_below.result ≡ r
    → (r && slice_index c.args.w.now (c.args.n - 1) == c.args.last)
    ≡ (all_below (λ i. nat_eq (slice_index c.args.w.now i) c.args.chunk) (c.args.n - 1) && slice_index c.args.w.now (c.args.n - 1) == c.args.last)
settled c r e =
    let a = c.args in
    let p : ℕ → Bool = λ i. nat_eq (slice_index a.w.now i) a.chunk in
    let y : Bool = slice_index a.w.now (a.n - 1) == a.last in
    let scanned : c.all_below.result ≡ all_below p (cond (nat_eq a.last a.chunk) a.n (a.n - 1)) =
    c.all_below.ensures p (λ i b h q. search rules) ∙ ap (all_below p) c.scan_end.ensures in
    ap (λ (b : Bool). b && y) (sym e ∙ scanned) ∙ but_last p a.n (nat_eq a.last a.chunk) y (omega arith) (λ s t. rw (eqb-true a.last a.chunk s) at t)

pub returns-then-all_below : goal.returns-then-all_below
returns-then-all_below c = settled (goal.at.returns-then-all_below c).After-all_below _ c.if-all_below.true

pub returns-else-all_below : goal.returns-else-all_below
returns-else-all_below c = c.if-all_below.false ∙ settled (goal.at.returns-else-all_below c).After-all_below _ c.if-all_below.false
