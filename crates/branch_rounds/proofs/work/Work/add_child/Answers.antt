use Rattle.std.proofs.Common.{rules, ◌≡◌, ◌++◌, [], ◌∷◌, Option, Some, map, subst}
use Rattle.normal_atoms.specs.Atoms.{context_of, atom_of}
use Rattle.formula_store.specs.declared.id.FormulaId.{FormulaId}
use Rattle.formula_store.specs.Nodes.{tree}
use Rattle.test_points.specs.Points.{place_of}
use Rattle.branch_rounds.specs.declared.children.Child.{Child}
use Rattle.branch_rounds.specs.Worked.{IsLeft, guarded}
use Rattle.branch_rounds.proofs.work.Work.add_child.Goals as goal

pub returns-clause-added : goal.returns-clause-added
returns-clause-added c =
    let o = context_of c.args.self.now.context in
    let child : Child = record { point = c.in_ok-point.point; formula = c.in-Some.formula } in
    let same : c.in_ok-point.point ≡ c.args.point.now = search rules in
    let longer : c.push.new.self.items ≡ c.args.children.now.items ++ child ∷ [] = search rules in
    record {
      added = Some child;
      left = subst (λ (r : Option FormulaId). IsLeft o (map atom_of c.args.self.now.assumed.now) (guarded o (place_of c.args.point.now) (tree c.args.store.now c.args.put)) c.left_at.new.store r) c.in-Some.is c.in_ok-formula.ensures.left;
      point = same;
      is = longer;
      settled = λ t. c.is_true.ensures.0 t;
    }
