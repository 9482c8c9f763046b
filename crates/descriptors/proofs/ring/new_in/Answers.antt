use Rattle.descriptors.specs.laws.New.{new-refused, new-no-records, new-ready}
use Rattle.descriptors.specs.laws.Splits.{Known, parts-known}
use Rattle.descriptors.specs.Split.{split_of}
use Rattle.std.proofs.Common.{◌≡◌, sym, refl, ◌∙◌, arith, Ok}
use Rattle.descriptors.proofs.ring.new_in.Goals.{In-Ok}
use Rattle.descriptors.proofs.ring.new_in.Goals as goal

-- the split, and what is known of it
told : (c : In-Ok) → split_of c.args.n c.args.len ≡ Ok c.in-Ok.field-0
told c = sym c.split_of-parts.ensures ∙ c.in-Ok.is

known : (c : In-Ok) → Known c.args.n c.args.len c.in-Ok.field-0.chunk c.in-Ok.field-0.rest
known c = parts-known _ _ _ (told c)

pub returns-in_default : goal.returns-in_default
returns-in_default c =
    let a = c.args in
    new-refused a.dir a.s.now a.w.now a.n a.len _ _ _ (sym c.split_of-parts.ensures ∙ c.in_default.is) c.fresh-ring.ensures (c.and.ensures ∙ rw c.in_default.is refl)

pub returns-then-not-are_records : goal.returns-then-not-are_records
returns-then-not-are_records c =
    let a = c.args in
    new-no-records a.dir a.s.now a.w.now a.n a.len _ _ (told (goal.at.returns-then-not-are_records c).In-Ok) (sym c.are_records.ensures ∙ c.if-not-are_records.true) c.fresh-ring.ensures

pub lay_starts-requires : goal.lay_starts-requires
lay_starts-requires c =
    let k = known (goal.at.lay_starts-requires c).In-Ok in
    (k.facts.many, omega (arith, k.chunk-is, k.facts.chunk), k.chunk-is)

pub lay_sizes-requires : goal.lay_sizes-requires
lay_sizes-requires c =
    let k = known (goal.at.lay_sizes-requires c).In-Ok in
    (k.facts.many, omega (arith, k.chunk-is, k.rest-is, k.facts.last), k.chunk-is, k.rest-is)

pub returns : goal.returns
returns c =
    let a = c.args in
    let i = (goal.at.returns c).In-Ok in
    new-ready a.dir a.s.now a.w.now _ _ a.n a.len _ _ (told i) (known i).facts.many (sym c.are_records.ensures ∙ c.if-not-are_records.false) c.lay_starts.ensures c.lay_sizes.ensures c.fresh-ring.ensures
