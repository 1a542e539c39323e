-- The first values of a sample, as the program has them.
use Rattle.std.proofs.Common.{◌≡◌, ◌<◌, ℕ, zero, suc, List, [], ◌∷◌, length, map, take, Option, Some, None, refl, sym, ap, ◌∙◌, subst}
use Rattle.std.specs.declared.vec.Vec.{Vec}
use Rattle.std.specs.declared.alloc.Global.{Global}
use Rattle.exact_numbers.specs.declared.fraction.Fraction.{Fraction}
use Rattle.exact_numbers.specs.Frac.{Frac}
use Rattle.exact_numbers.specs.Fraction.{frac_of}
use Rattle.logic_meaning.specs.Context.{Context}
use Rattle.logic_meaning.specs.Point.{Point}
use Rattle.logic_meaning.specs.Every.{Every}
use Rattle.logic_meaning.specs.Tree.{Tree, TrueAt}
use Rattle.logic_meaning.specs.NormalForm.{IsNormal}
use Rattle.logic_meaning.specs.declared.form.VarId.{VarId}
use Rattle.sample_reference.specs.Seen.{sample_of, values_of}
use Rattle.sample_reference.specs.TrueSample.{IsTrueSample}
use Rattle.logic_meaning.specs.Values.{origin}
use Rattle.sample_reference.specs.Leading.{under_names, first_values, AreWitnesses}
use Rattle.sample_reference.proofs.Witnesses.{every_under, gives_witnesses}

-- the first values without their names
abbrev pub first_of : ℕ → List (VarId × Fraction) → List Fraction
first_of n vs = map (λ (v : VarId × Fraction). v.1) (take n vs)

first_fractions : (n : ℕ) (vs : List (VarId × Fraction)) → map frac_of (first_of n vs) ≡ first_values n (values_of vs)
first_fractions zero vs = refl
first_fractions (suc n) [] = refl
first_fractions (suc n) (v ∷ vs) = ap (λ (ws : List Frac). frac_of v.1 ∷ ws) (first_fractions n vs)

first_length : (n : ℕ) (vs : List (VarId × Fraction)) → length (first_values n (values_of vs)) ≡ length (take n vs)
first_length zero vs = refl
first_length (suc n) [] = refl
first_length (suc n) (v ∷ vs) = ap suc (first_length n vs)

module _ (c : Context) (count : ℕ) (f : Tree) (n : Every (IsNormal c) f) (some : 0 < count) (body : Tree) (is : f ≡ under_names 0 count body) where
  body_normal : Every (IsNormal c) body
  body_normal = every_under (IsNormal c) 0 count body (subst (Every (IsNormal c)) is n)

  given : (vs : List (VarId × Fraction)) → IsTrueSample c f origin (Some (values_of vs)) → TrueAt c (under_names 0 count body) origin × AreWitnesses c count body (first_values count (values_of vs))
  given vs h = gives_witnesses c count body (Some (values_of vs)) some body_normal (subst (λ (g : Tree). IsTrueSample c g origin (Some (values_of vs))) is h)

  -- The sample has values of all these names.
  pub enough : (vs : List (VarId × Fraction)) → IsTrueSample c f origin (Some (values_of vs)) → count ≡ length (take count vs)
  enough vs h = sym ((given vs h).1.one_each) ∙ first_length count vs

  -- The first ones are witnesses,
  pub witnessed : (vs : List (VarId × Fraction)) (fractions : List Fraction) → IsTrueSample c f origin (Some (values_of vs)) → fractions ≡ first_of count vs →
      TrueAt c (under_names 0 count body) origin × AreWitnesses c count body (map frac_of fractions)
  witnessed vs fractions h e =
      let all = given vs h in
      (all.0, subst (AreWitnesses c count body) (sym (ap (map frac_of) e ∙ first_fractions count vs)) all.1)

  -- and without a sample the formula is false.
  pub refuted : IsTrueSample c f origin None → ¬ (TrueAt c (under_names 0 count body) origin)
  refuted h = gives_witnesses c count body None some body_normal (subst (λ (g : Tree). IsTrueSample c g origin None) is h)

-- ---- the sample that is found

module _ (c : Context) (f : Tree) (o : Option (Vec (VarId × Fraction) Global)) {p : Point ℕ} where
  pub sample_some : (v : Vec (VarId × Fraction) Global) → p ≡ origin → IsTrueSample c f p (sample_of o) → o ≡ Some v → IsTrueSample c f origin (Some (values_of v.items))
  sample_some v e h is = subst (λ (s : Option (Vec (VarId × Fraction) Global)). IsTrueSample c f origin (sample_of s)) is (subst (λ (q : Point ℕ). IsTrueSample c f q (sample_of o)) e h)

  pub sample_none : p ≡ origin → IsTrueSample c f p (sample_of o) → o ≡ None → IsTrueSample c f origin None
  sample_none e h is = subst (λ (s : Option (Vec (VarId × Fraction) Global)). IsTrueSample c f origin (sample_of s)) is (subst (λ (q : Point ℕ). IsTrueSample c f q (sample_of o)) e h)
