use Rattle.std.proofs.Common.{sym, subst}
use Rattle.std.specs.Ordering.{nat_cmp}
use Rattle.std.specs.BTreeSet.{contains}
use Rattle.logic_meaning.specs.Atom.{Mentions}
use Rattle.normal_atoms.specs.declared.atoms.Atom.{Atom}
use Rattle.normal_atoms.specs.Atoms.{atom_of}
use Rattle.formula_resolving.proofs.PartLaws.{ok_map}
use Rattle.free_names.specs.Missing.{AreMissing}
use Rattle.free_names.proofs.missing.atom_missing.Goals as goal

pub returns-in-Compare : goal.returns-in-Compare
returns-in-Compare c = ok_map c.form_missing.result (λ v m. subst (λ (a : Atom). AreMissing (Mentions (atom_of a)) (contains nat_cmp c.args.valued.now) v.items) (sym c.in-Compare.is) m) c.form_missing.ensures

pub returns-in-Congruent : goal.returns-in-Congruent
returns-in-Congruent c = ok_map c.form_missing-in-Congruent.result (λ v m. subst (λ (a : Atom). AreMissing (Mentions (atom_of a)) (contains nat_cmp c.args.valued.now) v.items) (sym c.in-Congruent.is) m) c.form_missing-in-Congruent.ensures
