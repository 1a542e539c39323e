use Rattle.std.proofs.Common.{rules, ◌≡◌, ◌∷◌, [], List, ℕ, ap, subst}
use Rattle.normal_atoms.specs.Atoms.{context_of}
use Rattle.linear_forms.specs.Values.{point_of}
use Rattle.nnf_trees.specs.Nnfs.{nnf_of}
use Rattle.reference_engine.specs.Put.{around, IsTreePut}
use Rattle.plain_samples.proofs.SampleValuesLeasts.{next_found}
use Rattle.plain_samples.proofs.critical.PlainBranchBranch.next_critical.Goals as goal

pub returns : goal.returns
returns c =
    let o = context_of c.args.self.now.context in
    let p = point_of c.args.at.now in
    let f = nnf_of c.args.self.now.formula.now in
    let g = nnf_of c.in_ok-put.put in
    let x = c.args.x in
    let alone : c.in_ok-names.names.items ≡ x ∷ [] = search rules in
    let put : IsTreePut o p (x.number ∷ []) f g = subst (λ (xs : List ℕ). IsTreePut o p xs f g) (ap around alone) c.in_ok-put.ensures.put in
    next_found o c.args.side x.number f g p _ c.least_in.result put c.least_in.ensures
