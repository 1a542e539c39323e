use Rattle.std.proofs.Common.{sym, subst, map, IfSome}
use Rattle.normal_atoms.specs.Atoms.{atom_of}
use Rattle.integer_shadows.specs.Solving.{IsEquation}
use Rattle.integer_shadows.proofs.Equations.{equation_at, better_is}
use Rattle.integer_shadows.proofs.solving.equation.Goals as goal
use Rattle.integer_shadows.proofs.solving.equation.Goals.{in-Some, in_default}

pub loop-atom-init : goal.loop-atom-init
loop-atom-init c = tt

pub loop-atom-preserved : goal.loop-atom-preserved
loop-atom-preserved c =
    let x = c.args.name.number in let us = c.args.atoms.now in
    elim c.match-equation_of.branch [
      | in-Some w ↦
          let h = equation_at x us c.loop-atom.atom-index c.atom-item.result w.in-Some.form.now c.loop-atom-test.true c.atom-item.is w.in-Some.ensures in
          subst (λ b. IfSome b (λ e. IsEquation x (map atom_of us) e.now)) (sym w.best-is) (better_is x (map atom_of us) c.loop-atom.best w.in-Some.form.now w.better.result.now w.better.ensures h c.loop-atom.invariant)
      | in_default w ↦ subst (λ b. IfSome b (λ e. IsEquation x (map atom_of us) e.now)) (sym w.best-is) c.loop-atom.invariant
    ]

pub returns : goal.returns
returns c = c.loop-atom.invariant
