use Rattle.std.proofs.Common.{◌≡◌, pos, take, map, MatchOption}
use Rattle.logic_meaning.specs.Some.{Among, EachOf}
use Rattle.logic_meaning.specs.Form.{coefficient}
use Rattle.logic_meaning.specs.Atom.{Compare, Equals}
use Rattle.normal_atoms.specs.Atoms.{atom_of}
use Rattle.field_shadows.specs.Equations.{IsEquation}
use Rattle.field_shadows.proofs.equation.shortest_equation.Given as goal

-- the best form is one of an equation, or there is none so far
abbrev pub invariant-loop-atom : goal.invariant-loop-atom
invariant-loop-atom l =
    MatchOption l.best (EachOf (λ a. ¬ (IsEquation l.name.number (atom_of a))) (take l.atom-index l.atoms))
    (λ f. Among (map atom_of l.atoms) (Compare Equals f.now) × ¬ (coefficient l.name.number f.now ≡ pos 0))
