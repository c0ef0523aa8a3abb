use Rattle.std.proofs.Common.{◌≡◌, ◌∷◌, ◌++◌, length, ap, ◌∙◌, arith}
use Rattle.records.specs.Unique.{list_is}
use Rattle.records.proofs.forms.RouteRecord.write.Goals as goal

pub returns : goal.returns
returns c =
    let r = c.args.self.now in
    let twelve : length r.links ≡ 12 = omega (arith, ap length c.copy_from_slice-2.ensures.after) in
    ap (λ l. l ++ c.copy_from_slice-2.new.self) c.copy_from_slice.ensures.after
    ∙ ap (λ l. r.from ∷ r.to ∷ r.length ∷ 0 ∷ l) (c.copy_from_slice-2.ensures.after ∙ list_is 12 r.links twelve)
