-- The values that are found for the branches of a case are a sample of it.
use Rattle.std.proofs.Common.{◌≡◌, ℕ, ℤ, pos, Bool, true, false, List, [], ◌∷◌, ◌++◌, map, Some, None, unwrap_or, nat_eq, refl, sym, ap, ◌∙◌, subst, cond, inl, inr}
use Rattle.std.specs.Map.{lookup, keys_of}
use Rattle.std.specs.Cmp.{unsigned_Decides}
use Rattle.std.proofs.lemmas.List.{append_cancel_left}
use Rattle.exact_numbers.specs.declared.fraction.Fraction.{Fraction}
use Rattle.logic_meaning.specs.Context.{Context}
use Rattle.logic_meaning.specs.Some.{Among}
use Rattle.logic_meaning.specs.Tree.{Tree}
use Rattle.formula_tree.specs.declared.shape.Shape.{Shape}
use Rattle.formula_store.specs.declared.id.FormulaId.{FormulaId}
use Rattle.logic_meaning.specs.declared.form.VarId.{VarId}
use Rattle.linear_forms.specs.Values.{Numbers, number_at, point_of}
use Rattle.test_points.specs.declared.points.TestPoint.{TestPoint}
use Rattle.test_points.specs.Points.{answer_of}
use Rattle.logic_meaning.specs.Calculated.{values_from}
use Rattle.sample_reference.specs.Seen.{values_of}
use Rattle.case_theory.specs.Samples.{answer_steps, IsSampleable, AreTrueAnswers}
use Rattle.case_theory.proofs.Found.{sample_of_answers}
use Rattle.case_theory.proofs.Known.{known_point}
use Rattle.engine_answers.specs.Points.{known_of}
use Rattle.engine_answers.specs.Branches.{shared_steps, AreBranches}

-- a name without an entry is at 0
nothing_found : (x : ℕ) (es : List (ℕ × ℤ)) → ¬ (Among (keys_of es) x) → lookup (nat_eq x) es ≡ None
nothing_found x [] h = refl
nothing_found x (e ∷ es) h = go (nothing_found x es (λ m. h (inr m))) (nat_eq x e.0) refl
  where
    go : lookup (nat_eq x) es ≡ None → (b : Bool) → nat_eq x e.0 ≡ b → cond (nat_eq x e.0) (Some e.1) (lookup (nat_eq x) es) ≡ None
    go rest true t = absurd (h (inl (sym ((unsigned_Decides x e.0).0 t))))
    go rest false t = ap (λ b. cond b (Some e.1) (lookup (nat_eq x) es)) t ∙ rest

zero_elsewhere : (v : Numbers) (x : ℕ) → ¬ (Among (keys_of v.entries) x) → number_at v x ≡ pos 0
zero_elsewhere v x h = ap (λ o. unwrap_or o (pos 0)) (nothing_found x v.entries h)

pub sample_found : (c : Context) (nodes : List (Shape FormulaId)) (ts : List TestPoint) (f : Tree) (ids : List FormulaId) (at : Numbers) (known values : List (VarId × Fraction)) → IsSampleable c (map answer_of ts) f (point_of at) →
    AreBranches c nodes ts f ids → values_of known ≡ known_of at → values_from c (shared_steps nodes ts ids) (values_of known) ≡ Some (values_of known ++ values_of values) → AreTrueAnswers c (map answer_of ts) f (point_of at) (values_of values)
sample_found c nodes ts f ids at known values s b k e =
    let p = point_of at in
    let found : values_from c (answer_steps c (map answer_of ts) f) (known_of at) ≡ Some (values_of known ++ values_of values)
    = ap (λ steps. values_from c steps (known_of at)) (sym b.steps) ∙ ap (values_from c (shared_steps nodes ts ids)) (sym k) ∙ e in
    let g = sample_of_answers c (map answer_of ts) f p (known_of at) (values_of known ++ values_of values) s (known_point c (keys_of at.entries) p s.of_theory (zero_elsewhere at)) found in
    let same : values_of values ≡ g.values = append_cancel_left (known_of at) (values_of values) g.values (ap (λ vs. vs ++ values_of values) (sym k) ∙ g.behind) in
    subst (AreTrueAnswers c (map answer_of ts) f p) (sym same) g.true_answers
