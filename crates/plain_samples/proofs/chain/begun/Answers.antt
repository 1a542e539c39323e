use Rattle.std.proofs.Common.{◌≡◌, List, ap, ◌∙◌}
use Rattle.normal_atoms.specs.Atoms.{context_of}
use Rattle.logic_meaning.specs.Measured.{done, then_of}
use Rattle.logic_meaning.specs.Reference.{branches}
use Rattle.nnf_trees.specs.declared.nnf.Nnf.{Nnf}
use Rattle.nnf_trees.specs.Nnfs.{nnf_of}
use Rattle.reference_engine.specs.Told.{numbers, formulas_of, all_bare}
use Rattle.reference_engine.proofs.Chaining.{begun_bare}
use Rattle.plain_samples.specs.Rooted.{first_or_yes}
use Rattle.plain_samples.proofs.Rooting.{begun_told}
use Rattle.plain_samples.proofs.chain.begun.Goals as goal

pub returns-clause-told : goal.returns-clause-told
returns-clause-told c =
    let o = context_of c.args.setting.context in
    let limit = c.args.setting.limit in
    let names = numbers c.args.names.items in
    let f = nnf_of c.args.f.now in
    let fs = formulas_of c.in_ok-formulas.formulas.items in
    let is : branches o limit names c.args.sign f c.args.cost.now ≡ done (all_bare fs, c.branches.new.cost)
    = begun_bare o limit names c.args.sign f c.args.cost.now c.requires.begins ∙ ap (λ q. then_of q (λ r. done (all_bare r.0, r.1))) c.in_ok-formulas.ensures.told in
    let root : nnf_of c.in_ok-root.root ≡ first_or_yes fs = c.in_ok-root.ensures.formula ∙ ap (λ (xs : List Nnf). first_or_yes (formulas_of xs)) c.deref.ensures.value in
    begun_told o limit names c.args.sign f c.args.cost.now c.branches.new.cost fs (record { root = c.in_ok-root.root; leaves = c.in_ok-leaves.leaves }) is c.in_ok-leaves.ensures.stand root
