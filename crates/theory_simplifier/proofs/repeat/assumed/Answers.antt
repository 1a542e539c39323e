use Rattle.std.proofs.Common.{◌≡◌, [], ◌∷◌, ◌++◌, map, sym, ap, subst, ◌∙◌}
use Rattle.logic_meaning.specs.declared.junction.Junction.TheVariants.{Conjunction}
use Rattle.normal_atoms.specs.Atoms.{atom_of}
use Rattle.theory_simplifier.specs.declared.known.Frame.TheVariants.{Beside}
use Rattle.theory_simplifier.specs.Known.{known_atoms, AreNormalFrames}
use Rattle.normal_atoms.proofs.Meaning.{all_within}
use Rattle.shape_theory.proofs.Limited.{assumable}
use Rattle.theory_simplifier.proofs.Assuming.{assumed_atoms}
use Rattle.theory_simplifier.proofs.repeat.assumed.Goals as goal

frames : (c : goal.In_ok-enter) → c.enter.new.self ≡ Beside (record { junction = Conjunction; atoms = map atom_of c.args.theory.now }) ∷ []
frames c = c.in_ok-enter.ensures ∙ (λ i. c.new-known.ensures i ++ Beside (c.in_ok-of.ensures i) ∷ [])

pub returns-clause-atoms : goal.returns-clause-atoms
returns-clause-atoms c =
    ap known_atoms (frames c) ∙ assumed_atoms (map atom_of c.args.theory.now)

pub returns-clause-normal : goal.returns-clause-normal
returns-clause-normal c o h =
    subst (AreNormalFrames o) (sym (frames c)) (assumable o (map atom_of c.args.theory.now) h (all_within c.args.theory.now c.requires), tt)
