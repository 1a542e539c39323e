use Rattle.std.proofs.Common.{◌≡◌, subst}
use Rattle.std.proofs.lemmas.Int.{to_z-of_z}
use Rattle.written_atoms.specs.Sum.{IsMultiple}
use Rattle.written_atoms.proofs.SharedSums.{multiple_begun}
use Rattle.written_atoms.proofs.sum.WholeSum.multiple.Goals as goal

pub returns : goal.returns
returns c x e =
    let k = c.ranges.factor in
    let a = simp to_z-of_z at c.in_ok-add.ensures in
    let m = multiple_begun c.args.self.now c.of-multiple.result c.add.new.self c.args.factor c.in_ok-form.form c.in_ok-form.ensures.0 c.of-multiple.ensures a in
    let same : c.add.new.self ≡ x = cc in
    subst (IsMultiple c.args.factor c.args.self.now) same m
