use Rattle.std.proofs.Common.{rules, ◌≡◌, List, [], ◌∷◌, ◌++◌, All, sym, refl, subst}
use Rattle.std.proofs.lemmas.List.Elements.{All-from_recursion}
use Rattle.nnf_trees.specs.declared.nnf.Nnf.{Nnf}
use Rattle.nnf_trees.specs.Nnfs.{AreProper}
use Rattle.test_points.specs.Points.{IsTestPoint}
use Rattle.reference_engine.specs.declared.branch.Leaf.{Leaf}
use Rattle.reference_engine.proofs.Standing.{AreLeavesBefore, leaves_go_on, sound_pushed}
use Rattle.reference_engine.proofs.branch.without_points.Goals as goal

pub loop-formula-preserved : goal.loop-formula-preserved
loop-formula-preserved c =
    let split : c.loop-formula.formula-iterator.rest.items ≡ c.in-Some.formula ∷ c.next.new.self.rest.items = search rules in
    let leaf : Leaf = record { formula = c.in-Some.formula; points = c.new.result } in
    let pushed : c.push.new.self.items ≡ c.loop-formula.leaves.items ++ leaf ∷ [] = search rules in
    let proper : AreProper (c.in-Some.formula ∷ c.next.new.self.rest.items) = subst AreProper split c.loop-formula.invariant.rest in
    record {
      can = tt;
      finite = tt;
      leaves = leaves_go_on c.loop-formula.leaves.items c.push.new.self.items leaf c.in-Some.formula c.next.new.self.rest.items c.args.formulas.items
          (subst (λ (xs : List Nnf). AreLeavesBefore c.loop-formula.leaves.items xs c.args.formulas.items) split c.loop-formula.invariant.leaves) refl c.new.ensures.items pushed;
      sound = sound_pushed c.loop-formula.leaves.items c.push.new.self.items leaf c.loop-formula.invariant.sound (record { proper = proper.0; points = subst (All IsTestPoint) (sym c.new.ensures.items) (All-from_recursion IsTestPoint [] tt) }) pushed;
      rest = proper.1;
    }
