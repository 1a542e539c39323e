use Rattle.std.proofs.Common.{◌≡◌, ap, ◌∙◌}
use Rattle.normal_atoms.specs.Atoms.{context_of}
use Rattle.logic_meaning.specs.Measured.{done, then_of}
use Rattle.logic_meaning.specs.Reference.{branches}
use Rattle.nnf_trees.specs.Nnfs.{nnf_of}
use Rattle.reference_engine.specs.Told.{numbers, formulas_of, all_bare}
use Rattle.reference_engine.proofs.Standing.{tells_of}
use Rattle.reference_engine.proofs.Chaining.{begun_bare}
use Rattle.reference_engine.proofs.chain.begun.Goals as goal

pub returns-clause-told : goal.returns-clause-told
returns-clause-told c =
    let o = context_of c.args.setting.context in
    let names = numbers c.args.names.items in
    let f = nnf_of c.args.f.now in
    let fs = formulas_of c.in_ok-formulas.formulas.items in
    let is : branches o c.args.setting.limit names c.args.sign f c.args.cost.now ≡ done (all_bare fs, c.branches.new.cost)
    = begun_bare o c.args.setting.limit names c.args.sign f c.args.cost.now c.requires.begins ∙ ap (λ q. then_of q (λ r. done (all_bare r.0, r.1))) c.in_ok-formulas.ensures.told in
    tells_of c.in_ok-without_points.field-0.items (all_bare fs) c.branches.new.cost (branches o c.args.setting.limit names c.args.sign f c.args.cost.now) is c.in_ok-without_points.ensures.stand
