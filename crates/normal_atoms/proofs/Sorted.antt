-- The normal form of an atom whose form is sorted already.
use Rattle.std.proofs.Common.{◌≡◌, Bool, ap, sym, ◌∙◌, arith}
use Rattle.std.proofs.Math.IntN.{ℤ, pos}
use Rattle.std.specs.Prelude.{◌<ℤ◌, unsigned_abs}
use Rattle.std.proofs.lemmas.Int.{ints}
use Rattle.logic_meaning.specs.Context.{Context, Fields, Integers}
use Rattle.logic_meaning.specs.Form.{Form}
use Rattle.logic_meaning.specs.Sorted.{IsSorted}
use Rattle.logic_meaning.specs.Atom.{Relation, Compare, Congruent}
use Rattle.linear_forms.proofs.FromFormulaLaws.{sorted_stays}
use Rattle.logic_meaning.specs.NormalForm.{compared_in_fields, compared_over_integers, congruent, normal_atom}

pub normal_in_fields : (r : Relation) (f : Form) → IsSorted f → compared_in_fields r f.terms f.constant ≡ normal_atom Fields (Compare r f)
unfolding normal_atom
normal_in_fields r f s = sym (ap (λ (g : Form). compared_in_fields r g.terms g.constant) (sorted_stays f s))

pub normal_over_integers : (r : Relation) (f : Form) → IsSorted f → compared_over_integers r f.terms f.constant ≡ normal_atom Integers (Compare r f)
unfolding normal_atom
normal_over_integers r f s = sym (ap (λ (g : Form). compared_over_integers r g.terms g.constant) (sorted_stays f s))

pub normal_congruent : (c : Context) (b : Bool) (m : ℤ) (f : Form) → pos 0 <ℤ m → IsSorted f → congruent b m f ≡ normal_atom c (Congruent b (unsigned_abs m) f)
unfolding normal_atom
normal_congruent Fields b m f h s = ap (λ n. congruent b n f) (back m h) ∙ sym (ap (congruent b (pos (unsigned_abs m))) (sorted_stays f s))
  where
    back : (m : ℤ) → pos 0 <ℤ m → m ≡ pos (unsigned_abs m)
    back m h = omega (arith, ints)
normal_congruent Integers b m f h s = ap (λ n. congruent b n f) (back m h) ∙ sym (ap (congruent b (pos (unsigned_abs m))) (sorted_stays f s))
  where
    back : (m : ℤ) → pos 0 <ℤ m → m ≡ pos (unsigned_abs m)
    back m h = omega (arith, ints)
