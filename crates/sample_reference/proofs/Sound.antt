-- The reference sample is true.
use Rattle.std.proofs.Common.{◌≡◌, ℕ, Bool, true, false, List, [], ◌∷◌, Option, Some, None, ◌⊎◌, inl, inr, ⊎_elim, refl, sym, ap, ◌∙◌, subst, nat_eq, if◌then◌else◌}
use Rattle.logic_meaning.specs.Context.{Context}
use Rattle.logic_meaning.specs.Point.{Point, Of}
use Rattle.logic_meaning.specs.Formula.{Yes, No, One, Not, And, Or, Impl, Repl, Equiv, Ex, All}
use Rattle.logic_meaning.specs.Every.{Every}
use Rattle.logic_meaning.specs.Some.{EachOf}
use Rattle.logic_meaning.specs.Sizes.{nodes}
use Rattle.logic_meaning.specs.Shape.{is_in, matrix_of, block_of}
use Rattle.logic_meaning.specs.Plain.{IsNegationNormal}
use Rattle.logic_meaning.specs.declared.quantifier.Quantifier.{Quantifier}
use Rattle.logic_meaning.specs.declared.quantifier.Quantifier.TheVariants.{Exists, ForAll}
use Rattle.logic_meaning.specs.Tree.{Tree, TrueAt, IsFree}
use Rattle.formula_laws.specs.Equivalence.{InContext}
use Rattle.formula_laws.proofs.FreeNames.{differ_names}
use Rattle.formula_laws.proofs.NormalShape.{normal_form_shape}
use Rattle.logic_meaning.specs.Answers.{Step}
use Rattle.elimination_theory.specs.AnswersTheorems.{Lead}
use Rattle.logic_meaning.specs.NormalForm.{IsNormal, normal_atom, negated_normal}
use Rattle.elimination_theory.proofs.FromNormalAtoms.{normal_atomic}
use Rattle.logic_meaning.specs.Measured.{Outcome, stopped, done, then_of, pay, within}
use Rattle.formula_laws.specs.Giving.{Gives}
use Rattle.logic_meaning.specs.Reference.{Branch, normal_tree, turned}
use Rattle.logic_meaning.specs.Cases.{case_sign, case_formula, case_names}
use Rattle.logic_meaning.specs.PutIn.{atom_put, tree_put, tree_put_within, put_in}
use Rattle.logic_meaning.specs.Sample.{if_true, first_true, branches_at}
use Rattle.elimination_theory.specs.Theorems.{IsChoice}
use Rattle.elimination_theory.proofs.Always.{always_then, always_pay, always_within}
use Rattle.elimination_theory.proofs.Branches.{step_names, IsBranch}
use Rattle.elimination_theory.proofs.PutIn.{turn_equal, putting_in_exact}
use Rattle.elimination_theory.proofs.PutMatrix.{put_shape, atomic_block, block_turned, matrix_same}
use Rattle.elimination_theory.proofs.Sample.{samples_exact}
use Rattle.elimination_theory.proofs.Sound.{Good, branches_are}
use Rattle.elimination_theory.proofs.Turning.{normal_inside, normal_tree_inside, turned_brings}
use Rattle.logic_meaning.specs.Values.{Value, value_names, with_values}
use Rattle.logic_meaning.specs.Calculated.{values_from}
use Rattle.logic_meaning.specs.ReferenceSample.{evaluated, sampled}
use Rattle.sample_reference.specs.TrueSample.{AreTrueValues, IsTrueSample}
use Rattle.sample_reference.specs.Theorems.{SampleIsTrue}
use Rattle.sample_reference.proofs.SamePoints.{some_same, none_some, values_of_theory}
use Rattle.sample_reference.proofs.Chain.{AreFound, values_true, values_anywhere, others_stay}

-- ---- the leading block

-- a point put in keeps the block
block_put : (c : Context) (p : Point ℕ) (k : Quantifier) (names chain : List ℕ) (f : Tree) → block_of nat_eq (tree_put c p names f) k chain ≡ block_of nat_eq f k chain
block_put c p k names chain Yes = refl
block_put c p k names chain No = refl
block_put c p k names chain (One a) = atomic_block (normal_atom c (atom_put p names a)) k chain (normal_atomic c (atom_put p names a))
block_put c p k names chain (Not f) = refl
block_put c p k names chain (And fs) = refl
block_put c p k names chain (Or fs) = refl
block_put c p k names chain (Impl f g) = refl
block_put c p k names chain (Repl f g) = refl
block_put c p k names chain (Equiv f g) = refl
block_put c p ForAll names chain (Ex x f) = refl
block_put c p Exists names chain (All x f) = refl
block_put c p Exists names chain (Ex x f) = ap (λ ns. if is_in nat_eq x chain then [] else x ∷ ns) (block_put c p Exists (x ∷ names) (x ∷ chain) f)
block_put c p ForAll names chain (All x f) = ap (λ ns. if is_in nat_eq x chain then [] else x ∷ ns) (block_put c p ForAll (x ∷ names) (x ∷ chain) f)

turned_block : (c : Context) (p : Point ℕ) (o : Of c p) (f : Tree) → IsNegationNormal f → (s : Bool) → block_of nat_eq (turned s (tree_put c p [] f)) Exists [] ≡ block_of nat_eq (turned s f) Exists []
turned_block c p o f h true = block_put c p Exists [] [] f
turned_block c p o f h false = block_turned (tree_put c p [] f) [] (put_shape c p o [] f h) ∙ block_put c p ForAll [] [] f ∙ sym (block_turned f [] h)

-- a free name of the matrix is one of the formula or of the block
matrix_free : (f : Tree) (chain : List ℕ) (y : ℕ) → IsFree (matrix_of nat_eq f Exists chain) y → IsFree f y ⊎ (is_in nat_eq y (block_of nat_eq f Exists chain) ≡ true)
matrix_free Yes chain y h = inl h
matrix_free No chain y h = inl h
matrix_free (One a) chain y h = inl h
matrix_free (Not f) chain y h = inl h
matrix_free (And fs) chain y h = inl h
matrix_free (Or fs) chain y h = inl h
matrix_free (Impl f g) chain y h = inl h
matrix_free (Repl f g) chain y h = inl h
matrix_free (Equiv f g) chain y h = inl h
matrix_free (All x f) chain y h = inl h
matrix_free (Ex x f) chain y h = go (is_in nat_eq x chain) (matrix_free f (x ∷ chain) y) h
  where
    inner : (b : Bool) → nat_eq x y ≡ b → IsFree f y ⊎ (is_in nat_eq y (block_of nat_eq f Exists (x ∷ chain)) ≡ true) → IsFree (Ex x f) y ⊎ (is_in nat_eq y (x ∷ block_of nat_eq f Exists (x ∷ chain)) ≡ true)
    inner true e i = inr (ap (λ (b : Bool). if b then true else is_in nat_eq y (block_of nat_eq f Exists (x ∷ chain))) (turn_equal x y e))
    inner false e (inl free) = inl (differ_names x y e, free)
    inner false e (inr there) = inr (later (nat_eq y x) there)
      where
        later : (b : Bool) {t : Bool} → t ≡ true → (if b then true else t) ≡ true
        later true u = refl
        later false u = u

    go : (b : Bool) → (IsFree (matrix_of nat_eq f Exists (x ∷ chain)) y → IsFree f y ⊎ (is_in nat_eq y (block_of nat_eq f Exists (x ∷ chain)) ≡ true)) →
        IsFree (if b then Ex x f else matrix_of nat_eq f Exists (x ∷ chain)) y → IsFree (Ex x f) y ⊎ (is_in nat_eq y (if b then [] else x ∷ block_of nat_eq f Exists (x ∷ chain)) ≡ true)
    go true ih u = inl u
    go false ih u = inner (nat_eq x y) refl (ih u)

-- ---- the first true branch

-- the steps are those of a branch that is true
pub record IsChosen (c : Context) (matrix : Tree) (names : List ℕ) (steps : List Step) : Type 0 where
  pub lead : Lead c steps matrix Yes
  pub in_order : step_names steps ≡ names

pub first_chosen : (c : Context) (matrix : Tree) (names : List ℕ) (bs : List Branch) (steps : List Step) → EachOf (IsBranch c matrix names) bs → first_true bs ≡ Some steps → IsChosen c matrix names steps
first_chosen c matrix names [] steps h e = none_some steps e
first_chosen c matrix names (b ∷ bs) steps h e = go b.tree refl (first_chosen c matrix names bs steps h.1) e
  where
    here : b.tree ≡ Yes → b.steps ≡ steps → IsChosen c matrix names steps
    here is same = subst (IsChosen c matrix names) same (record {
      lead = subst (Lead c b.steps matrix) is h.0.lead;
      in_order = h.0.in_order;
    })

    go : (t : Tree) → b.tree ≡ t → (first_true bs ≡ Some steps → IsChosen c matrix names steps) → if_true t b.steps (first_true bs) ≡ Some steps → IsChosen c matrix names steps
    go Yes is ih g = here is (some_same b.steps steps g)
    go No is ih g = ih g
    go (One a) is ih g = ih g
    go (Not f) is ih g = ih g
    go (And fs) is ih g = ih g
    go (Or fs) is ih g = ih g
    go (Impl f f2) is ih g = ih g
    go (Repl f f2) is ih g = ih g
    go (Equiv f f2) is ih g = ih g
    go (Ex x f) is ih g = ih g
    go (All x f) is ih g = ih g

-- ---- a sample

-- what the values of the steps are
pub gives_values : (c : Context) (cost : ℕ) (steps : List Step) (P : Option (List Value) → Type 0) → ((values : List Value) → values_from c steps [] ≡ Some values → P (Some values)) → Gives (λ r. P r.0) (sampled c cost (Some steps))
gives_values c cost steps P h = go (values_from c steps []) refl
  where
    go : (o : Option (List Value)) → values_from c steps [] ≡ o → Gives (λ (r : Option (List Value) × ℕ). P r.0) (evaluated cost o)
    go None e = tt
    go (Some values) e = h values e

module _ (c : Context) (f : Tree) (p : Point ℕ) (n : Every (IsNormal c) f) (o : Of c p) where
  sign : Bool
  sign = case_sign (normal_tree f)

  abbrev asked : Tree
  asked = turned (case_sign (normal_tree f)) (put_in c p f)

  shape : IsNegationNormal (normal_tree f)
  shape = (normal_form_shape negated_normal f).0

  inside : InContext c (put_in c p f)
  inside = normal_inside c (put_in c p f) (putting_in_exact c f p n o).normal

  asked_closed : (y : ℕ) → ¬ (IsFree asked y)
  asked_closed y t = (putting_in_exact c f p n o).closed y (turned_free (put_in c p f) (case_sign (normal_tree f)) t)
    where
      turned_free : (g : Tree) (s : Bool) → IsFree (turned s g) y → IsFree g y
      turned_free g true u = u
      turned_free g false u = (turned_brings c g y).1 u

  names_same : block_of nat_eq asked Exists [] ≡ case_names f
  names_same = turned_block c p o (normal_tree f) shape (case_sign (normal_tree f))

  values_are : (steps : List Step) (values : List Value) → TrueAt c (case_formula f) p → IsChosen c (matrix_of nat_eq asked Exists []) (block_of nat_eq asked Exists []) steps → values_from c steps [] ≡ Some values → AreTrueValues c f p values
  values_are steps values t chosen e =
      let matrix = matrix_of nat_eq asked Exists [] in
      let found : AreFound c matrix steps [] values = values_true c steps matrix Yes [] values chosen.lead tt tt e in
      let names : value_names values ≡ block_of nat_eq asked Exists [] = found.names ∙ chosen.in_order in
      let q = with_values p values in
      let there : TrueAt c matrix q = values_anywhere c matrix values p o (λ y free. ⊎_elim (λ u. absurd (asked_closed y u)) (λ u. ap (is_in nat_eq y) names ∙ u) (matrix_free asked [] y free)) found.matrix in
      record {
        asked = t;
        names = names ∙ names_same;
        each = found.each;
        matrix = (matrix_same c p o (normal_tree f) shape (normal_tree_inside c f n) inside (case_sign (normal_tree f)) q (values_of_theory c values p found.each o)
            (λ y u. others_stay c values p found.each y (ap (is_in nat_eq y) names ∙ u))).1 there;
      }

  branches_good : (limit : ℕ) (s : Bool) → Gives (λ (r : List Branch × ℕ). Good c limit [] s (put_in c p f) r.0) (branches_at c limit p s f 0)
  branches_good limit s =
      let Q = Good c limit [] s (put_in c p f) in
      always_then (λ u. Unit {0}) Q (pay limit (nodes (normal_tree f))) _ (always_pay limit (nodes (normal_tree f))) (λ u v.
      always_then (λ u. Unit {0}) Q (within (tree_put_within c p [] (normal_tree f))) _ (always_within (tree_put_within c p [] (normal_tree f))) (λ u v.
      branches_are c limit [] s (put_in c p f) (put_shape c p o [] (normal_tree f) shape) (putting_in_exact c f p n o).normal)) 0

  choice_is : (u : Option (List Step)) (cost : ℕ) → IsChoice c f p u → ((steps : List Step) → u ≡ Some steps → IsChosen c (matrix_of nat_eq asked Exists []) (block_of nat_eq asked Exists []) steps) → Gives (λ r. IsTrueSample c f p r.0) (sampled c cost u)
  choice_is None cost h k = h
  choice_is (Some steps) cost h k = gives_values c cost steps (IsTrueSample c f p) (λ values e. values_are steps values h.0 (k steps refl) e)

pub sample_true : (c : Context) → SampleIsTrue c
sample_true c limit f p n o = go (branches_at c limit p (case_sign (normal_tree f)) f 0) (branches_good c f p n o limit (case_sign (normal_tree f))) (samples_exact c limit f p n o)
  where
    go : (u : Outcome (List Branch × ℕ)) → Gives (λ (r : List Branch × ℕ). Good c limit [] (case_sign (normal_tree f)) (put_in c p f) r.0) u →
        Gives (λ (r : Option (List Step) × ℕ). IsChoice c f p r.0) (then_of u (λ r. done (first_true r.0, r.1))) →
        Gives (λ (r : Option (List Value) × ℕ). IsTrueSample c f p r.0) (then_of (then_of {B = Option (List Step) × ℕ} u (λ r. done (first_true r.0, r.1))) (λ r. sampled c r.1 r.0))
    go (stopped s) b h = tt
    go (done r) b h = choice_is c f p n o (first_true r.0) r.1 h (λ steps e. first_chosen c _ _ r.0 steps b.each e)
