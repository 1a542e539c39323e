use Rattle.std.proofs.Common.{rules, ◌≡◌, [], ◌∷◌, ◌++◌, All, subst}
use Rattle.std.specs.Prelude.{IfSome}
use Rattle.test_points.specs.Points.{IsTestPoint}
use Rattle.reference_engine.specs.declared.cases.PrintedCase.{PrintedCase}
use Rattle.reference_engine.proofs.Standing.{points_pushed}
use Rattle.form_commands.proofs.guards.push_left.Goals as goal

pub returns-in_ok-push-clause-points : goal.returns-in_ok-push-clause-points
returns-in_ok-push-clause-points c =
    let k = c.in-Some.case in
    let pushed : c.push.new.self.items ≡ c.args.cases.now.items ++ k ∷ [] = search rules in
    points_pushed c.args.cases.now.items c.push.new.self.items k c.requires.points (subst (λ o. IfSome o (λ (k : PrintedCase). All IsTestPoint k.answers.items)) c.in-Some.is c.requires.more) pushed
