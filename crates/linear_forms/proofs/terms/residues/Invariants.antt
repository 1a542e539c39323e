use Rattle.std.proofs.Common.{◌≡◌, ◌++◌, drop}
use Rattle.linear_forms.specs.Linear.{terms_of}
use Rattle.logic_meaning.specs.Reduction.{residues}
use Rattle.linear_forms.proofs.terms.residues.Given as goal

-- what is kept, and the residues of what is to come
abbrev pub invariant-loop-term : goal.invariant-loop-term
invariant-loop-term l = terms_of l.kept.items ++ residues l.modulus (terms_of (drop l.term-index l.terms)) ≡ residues l.modulus (terms_of l.terms)
