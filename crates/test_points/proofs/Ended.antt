-- A verdict on a form with a name put at a form over a number, as the program reaches it.
use Rattle.std.proofs.Common.{◌≡◌, ℕ, Bool, true, false, ◌&&◌, sym, ap, ◌∙◌, refl, arith, unsigned_abs}
use Rattle.std.specs.Prelude.{◌<ℤ◌}
use Rattle.std.proofs.lemmas.Int.{ints}
use Rattle.exact_numbers.specs.Limit.{InLimit}
use Rattle.std.specs.Int.{w128, cast_signed, cast_unsigned}
use Rattle.exact_numbers.proofs.Casts.{read_back}
use Rattle.elimination_theory.proofs.LowestTerms.{natural}
use Rattle.elimination_theory.proofs.WithinTests.{combination_tested, combination_refused}
use Rattle.std.proofs.Math.IntN.{ℤ, pos}
use Rattle.logic_meaning.specs.Context.{Context, Fields, Integers}
use Rattle.logic_meaning.specs.Form.{Form, coefficient, without}
use Rattle.logic_meaning.specs.Combining.{CombinePasses}
use Rattle.logic_meaning.specs.Atom.{Relation, Compare, Congruent}
use Rattle.logic_meaning.specs.Tree.{Tree}
use Rattle.formula_laws.proofs.Same.{both_true}
use Rattle.logic_meaning.specs.Substitution.{form_at}
use Rattle.logic_meaning.specs.Limits.{combination_within}
use Rattle.logic_meaning.specs.StopLimits.{normal_within}
use Rattle.linear_forms.specs.Combinations.{IsCombination}
use Rattle.normal_atoms.specs.Atoms.{relation_of}
use Rattle.normal_atoms.specs.declared.atoms.Rel.{Rel}
use Rattle.logic_meaning.specs.NormalForm.{normal_atom, congruent, compared_in_fields, compared_over_integers}
use Rattle.logic_meaning.specs.Sorted.{gathered}
use Rattle.test_points.specs.declared.verdict.Verdict.{Verdict}
use Rattle.test_points.specs.declared.verdict.Verdict.TheVariants.{Always, Never, Holds}
use Rattle.test_points.specs.Substituted.{ended, ended_within}
use Rattle.test_points.proofs.Forms.{gathered_at}

-- atoms over forms of one sorted form have one normal form
pub normal_compare : (c : Context) (r : Relation) (f g : Form) → gathered f ≡ gathered g → normal_atom c (Compare r f) ≡ normal_atom c (Compare r g)
unfolding normal_atom
normal_compare Fields r f g e = ap (λ (s : Form). compared_in_fields r s.terms s.constant) e
normal_compare Integers r f g e = ap (λ (s : Form). compared_over_integers r s.terms s.constant) e

pub normal_congruent : (c : Context) (b : Bool) (m : ℕ) (f g : Form) → gathered f ≡ gathered g → normal_atom c (Congruent b m f) ≡ normal_atom c (Congruent b m g)
unfolding normal_atom
normal_congruent Fields b m f g e = ap (λ (s : Form). congruent b (pos m) s) e
normal_congruent Integers b m f g e = ap (λ (s : Form). congruent b (pos m) s) e

-- a comparison of the form that the program makes
pub compared_at : (c : Context) (x : ℕ) (e : Form) (d : ℕ) (f v : Form) (r : Relation) → IsCombination (coefficient x f) e (pos d) (without x f) v →
    normal_atom c (Compare r v) ≡ normal_atom c (Compare r (form_at x e d f))
compared_at c x e d f v r h = normal_compare c r v (form_at x e d f) (sym (gathered_at x e d f v h))

pub congruent_at : (c : Context) (x : ℕ) (e : Form) (d : ℕ) (f v : Form) (b : Bool) (m : ℕ) → IsCombination (coefficient x f) e (pos d) (without x f) v →
    normal_atom c (Congruent b m v) ≡ normal_atom c (Congruent b m (form_at x e d f))
congruent_at c x e d f v b m h = normal_congruent c b m v (form_at x e d f) (sym (gathered_at x e d f v h))

-- a conjunction with a false member
pub first_false : (a b : Bool) → a ≡ false → (a && b) ≡ false
first_false true b e = absurd (cc)
first_false false b e = refl

pub second_false : (a b : Bool) → b ≡ false → (a && b) ≡ false
second_false true b e = e
second_false false b e = refl

module _ (c : Context) (x : ℕ) (e : Form) (d : ℕ) (f v : Form) where
  pub always_within : IsCombination (coefficient x f) e (pos d) (without x f) v → ended_within c Always x e d f ≡ true
  always_within h = both_true (combination_within (coefficient x f) e (pos d) (without x f)) true (combination_tested (coefficient x f) e (pos d) (without x f) h.within) refl

  pub never_within : IsCombination (coefficient x f) e (pos d) (without x f) v → ended_within c Never x e d f ≡ true
  never_within h = both_true (combination_within (coefficient x f) e (pos d) (without x f)) true (combination_tested (coefficient x f) e (pos d) (without x f) h.within) refl

  pub held_tree : (r : Rel) (t : Tree) → IsCombination (coefficient x f) e (pos d) (without x f) v → t ≡ normal_atom c (Compare (relation_of r) v) → t ≡ ended c (Holds r) x e d f
  held_tree r t h k = k ∙ compared_at c x e d f v (relation_of r) h

  pub held_within : (r : Rel) → IsCombination (coefficient x f) e (pos d) (without x f) v → normal_within (normal_atom c (Compare (relation_of r) v)) ≡ true → ended_within c (Holds r) x e d f ≡ true
  held_within r h k =
      both_true (combination_within (coefficient x f) e (pos d) (without x f)) (normal_within (normal_atom c (Compare (relation_of r) (form_at x e d f)))) (combination_tested (coefficient x f) e (pos d) (without x f) h.within)
      (ap normal_within (sym (compared_at c x e d f v (relation_of r) h)) ∙ k)

  pub held_refused : (r : Rel) → IsCombination (coefficient x f) e (pos d) (without x f) v → normal_within (normal_atom c (Compare (relation_of r) v)) ≡ false → ended_within c (Holds r) x e d f ≡ false
  held_refused r h k =
      second_false (combination_within (coefficient x f) e (pos d) (without x f)) (normal_within (normal_atom c (Compare (relation_of r) (form_at x e d f))))
      (ap normal_within (sym (compared_at c x e d f v (relation_of r) h)) ∙ k)

pub end_refused : (c : Context) (v : Verdict) (x : ℕ) (e : Form) (d : ℕ) (f : Form) → CombinePasses (coefficient x f) e (pos d) (without x f) → ended_within c v x e d f ≡ false
end_refused c v x e d f h = first_false (combination_within (coefficient x f) e (pos d) (without x f)) (normal_within (ended c v x e d f)) (combination_refused (coefficient x f) e (pos d) (without x f) h)

-- a positive number of the program, as it is passed on
pub passed_over : (o : ℤ) → pos 0 <ℤ o → InLimit o → cast_signed w128 (cast_unsigned w128 o) ≡ pos (unsigned_abs o)
passed_over o h w = read_back o w ∙ natural o (omega (arith, ints))
