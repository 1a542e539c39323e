use Rattle.std.proofs.Common.{◌≡◌, ℕ, ◌+◌, pos, map, take, Option, MatchOption, Bor, sym, subst}
use Rattle.logic_meaning.specs.Some.{Among, EachOf}
use Rattle.logic_meaning.specs.Form.{Form, coefficient}
use Rattle.logic_meaning.specs.Atom.{Compare, Equals}
use Rattle.linear_forms.specs.declared.form.Linear.{Linear}
use Rattle.normal_atoms.specs.Atoms.{atom_of}
use Rattle.field_shadows.specs.Equations.{IsEquation}
use Rattle.field_shadows.proofs.Listing.{each_next, each_all, each_mapped_back, among_at, among_mapped}
use Rattle.field_shadows.proofs.Steps.{not_equation, match_map, best_kept}
use Rattle.field_shadows.proofs.equation.shortest_equation.Goals as goal
use Rattle.field_shadows.proofs.equation.shortest_equation.Goals.{in-Equation, in_default}

pub loop-atom-preserved : goal.loop-atom-preserved
loop-atom-preserved c =
    let x = c.args.name.number in
    let atoms = c.args.atoms.now in
    let a = c.atom-item.result in
    let i = c.loop-atom.atom-index in
    let none = λ (k : ℕ). EachOf (λ b. ¬ (IsEquation x (atom_of b))) (take k atoms) in
    let good = λ (f : Form). Among (map atom_of atoms) (Compare Equals f) × ¬ (coefficient x f ≡ pos 0) in
    elim c.match-of.branch [
      | in-Equation w ↦
          let here : Among (map atom_of atoms) (Compare Equals w.in-Equation.form.now) =
          subst (Among (map atom_of atoms)) w.in-Equation.ensures.0 (among_mapped atom_of atoms a (among_at atoms i a c.loop-atom-test.true c.atom-item.is)) in
          let kept = best_kept good (none i) c.loop-atom.best w.shorter.result w.in-Equation.form.now c.loop-atom.invariant (here, w.in-Equation.ensures.1) w.shorter.ensures in
          subst (λ (o : Option (Bor Linear)). MatchOption o (none (i + 1)) (λ f. good f.now)) (sym w.best-is) kept
      | in_default w ↦
          subst (λ (o : Option (Bor Linear)). MatchOption o (none (i + 1)) (λ f. good f.now)) (sym w.best-is)
          (match_map c.loop-atom.best (none i) (none (i + 1)) (λ f. good f.now)
          (λ h. each_next (λ b. ¬ (IsEquation x (atom_of b))) atoms i a c.loop-atom-test.true c.atom-item.is h (not_equation x (atom_of a) c.of.result c.of.ensures w.in_default.not-Equation)) c.loop-atom.invariant)
    ]

pub returns : goal.returns
returns c =
    let x = c.args.name.number in
    let atoms = c.args.atoms.now in
    match_map c.loop-atom.best _ _ _
    (λ h. each_mapped_back (λ u. ¬ (IsEquation x u)) atom_of atoms (each_all (λ a. ¬ (IsEquation x (atom_of a))) atoms c.loop-atom.atom-index c.loop-atom-test.false h))
    c.loop-atom.invariant
