use Rattle.std.proofs.Common.{rules, ◌≡◌, ◌∷◌, [], ◌++◌, sym, ◌∙◌}
use Rattle.nnf_trees.specs.Nnfs.{nnf_of}
use Rattle.nnf_trees.proofs.Pieces.{itself_proper}
use Rattle.nnf_trees.proofs.ResultLaws.{kept_nothing, kept_last}
use Rattle.nnf_trees.proofs.results.keep.Goals as goal

pub returns-then-is_false-clause-formulas : goal.returns-then-is_false-clause-formulas
returns-then-is_false-clause-formulas c = kept_nothing c.args.left.now.items (nnf_of c.args.f) (sym c.is_false.ensures ∙ c.if-is_false.true)

pub returns-clause-formulas : goal.returns-clause-formulas
returns-clause-formulas c =
    let pushed : c.push.new.self.items ≡ c.args.left.now.items ++ c.args.f ∷ [] = search rules in
    kept_last c.args.left.now.items c.push.new.self.items c.args.f (sym c.is_false.ensures ∙ c.if-is_false.false) pushed

pub returns-clause-proper : goal.returns-clause-proper
returns-clause-proper c =
    let pushed : c.push.new.self.items ≡ c.args.left.now.items ++ c.args.f ∷ [] = search rules in
    itself_proper c.args.f c.args.left.now.items c.push.new.self.items c.requires.proper c.requires.formula pushed
