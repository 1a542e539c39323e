-- With a point put in each guard is true or false, and the first true one has a sample.
use Rattle.std.proofs.Common.{◌≡◌, ℕ, ◌<◌, ◌↔◌, Bool, true, false, List, [], ◌∷◌, Option, Some, None, refl, sym, ap, ◌∙◌, subst, arith, inl, inr, ⊎_elim, nat_eq}
use Rattle.std.proofs.Math.IntN.{ℤ, pos}
use Rattle.std.specs.Prelude.{◌<ℤ◌}
use Rattle.std.proofs.lemmas.Int.{ints}
use Rattle.exact_numbers.specs.Divides.{content_of, gcd_of, euclid}
use Rattle.logic_meaning.specs.Context.{Context, Fields, Integers}
use Rattle.logic_meaning.specs.Point.{Point, Of, move}
use Rattle.logic_meaning.specs.Formula.{Yes, No, One, Not, And, Or, Impl, Repl, Equiv, Ex, All, none, also}
use Rattle.logic_meaning.specs.Truth.{SomeTrue}
use Rattle.logic_meaning.specs.Every.{Every, FreeInSome}
use Rattle.logic_meaning.specs.Some.{EachOf}
use Rattle.logic_meaning.specs.Shape.{is_in, matrix_of, block_of}
use Rattle.logic_meaning.specs.Plain.{IsPlain, IsNegationNormal}
use Rattle.logic_meaning.specs.declared.quantifier.Quantifier.TheVariants.{Exists}
use Rattle.logic_meaning.specs.Form.{Form, Term, coefficient, multiple, coefficients}
use Rattle.logic_meaning.specs.Sorted.{IsSorted, AllAbove, IsRising, AllNonzero}
use Rattle.logic_meaning.specs.Atom.{Atom, Compare, Congruent, Mentions, Says}
use Rattle.logic_meaning.specs.Tree.{Tree, Trees, TrueAt, IsFree}
use Rattle.formula_laws.specs.Equivalence.{InContext}
use Rattle.formula_laws.proofs.NormalShape.{normal_form_shape}
use Rattle.formula_laws.proofs.Sorted.{here}
use Rattle.formula_laws.proofs.TreeReplacing.{moved_of}
use Rattle.logic_meaning.specs.Answers.{Step}
use Rattle.elimination_theory.specs.AnswersTheorems.{Lead}
use Rattle.elimination_theory.proofs.Samples.{samples_true, samples_exist}
use Rattle.logic_meaning.specs.NormalForm.{IsNormal, normal_atom, negated_normal, first}
use Rattle.logic_meaning.specs.Reference.{Branch, branch_trees, together, normal_tree, turned}
use Rattle.logic_meaning.specs.Cases.{case_sign, case_formula, case_matrix}
use Rattle.logic_meaning.specs.PutIn.{tree_put_within, put_in}
use Rattle.logic_meaning.specs.Measured.{pay, within}
use Rattle.logic_meaning.specs.Sizes.{nodes}
use Rattle.formula_laws.proofs.Iff.{both_ways}
use Rattle.logic_meaning.specs.Sample.{if_true, first_true, branches_at}
use Rattle.elimination_theory.specs.Sampled.{IsSampled}
use Rattle.elimination_theory.specs.Theorems.{IsProper, IsBranching, IsTidy, IsAnswerTo, IsTold, TruthIsTold, IsChoice, SamplesAreExact}
use Rattle.elimination_theory.proofs.Always.{Always, gives_then, always_then, always_pay, always_within}
use Rattle.elimination_theory.proofs.Tidy.{normaliser}
use Rattle.elimination_theory.proofs.Turning.{normal_inside, normal_tree_inside, turned_brings}
use Rattle.elimination_theory.proofs.Branches.{step_names, IsBranch, AreBranches, together_is}
use Rattle.elimination_theory.proofs.PutMatrix.{put_shape, Same, formula_put, matrix_same, samples_same}
use Rattle.elimination_theory.proofs.Sound.{Good, branches_are}
use Rattle.elimination_theory.proofs.Periods.{normal_keeps_periods}
use Rattle.elimination_theory.proofs.PutIn.{putting_in_exact}

-- ---- a tidy formula that is not a constant has a name

first_stands : (t : Term) (ts : List Term) → AllAbove t.name ts → ¬ (t.times ≡ pos 0) → ¬ (multiple t.name (t ∷ ts) ≡ pos 0)
first_stands t ts above n e = n (sym (here t.name t ts refl above) ∙ e)

positive_stands : (z : ℤ) → pos 0 <ℤ z → ¬ (z ≡ pos 0)
positive_stands z h e = absurd (omega (arith, ints))

oriented_name : (f : Form) → IsRising f.terms → pos 0 <ℤ first f.terms → (x : ℕ) × ¬ (coefficient x f ≡ pos 0)
unfolding coefficient
oriented_name f rising h = go f.terms rising h
  where
    go : (ts : List Term) → IsRising ts → pos 0 <ℤ first ts → (x : ℕ) × ¬ (multiple x ts ≡ pos 0)
    go [] r p = absurd (omega (arith, ints))
    go (t ∷ ts) r p = (t.name, first_stands t ts r.0 (positive_stands t.times p))

alone_content : (m : ℕ) → content_of (pos m ∷ []) ≡ pos m
unfolding content_of gcd_of euclid
alone_content m = refl

congruence_name : (m : ℕ) (f : Form) → 1 < m → IsSorted f → content_of (pos m ∷ coefficients f.terms) ≡ pos 1 → (x : ℕ) × ¬ (coefficient x f ≡ pos 0)
unfolding coefficient
congruence_name m f h s e = go f.terms s.rising s.nonzero e
  where
    go : (ts : List Term) → IsRising ts → AllNonzero ts → content_of (pos m ∷ coefficients ts) ≡ pos 1 → (x : ℕ) × ¬ (multiple x ts ≡ pos 0)
    go [] r n e = let k = sym (alone_content m) ∙ e in absurd (omega (arith, ints))
    go (t ∷ ts) r n e = (t.name, first_stands t ts r.0 n.0)

pub normal_name : (c : Context) (a : Atom) → IsNormal c a → (x : ℕ) × Mentions a x
normal_name Fields (Compare r f) n = oriented_name f n.oriented.sorted.rising n.oriented.positive
normal_name Integers (Compare r f) n = oriented_name f n.oriented.sorted.rising n.oriented.positive
normal_name Fields (Congruent b m f) n = absurd n
normal_name Integers (Congruent b m f) n = congruence_name m f n.above_one n.sorted n.coprime

pub has_name : (c : Context) (f : Tree) → IsPlain f → Every (IsNormal c) f → IsBranching f → IsProper f → (x : ℕ) × IsFree f x
has_name c Yes p n b h = absurd h
has_name c No p n b h = absurd h
has_name c (One a) p n b h = normal_name c a n
has_name c (Not f) p n b h = absurd p
has_name c (And none) p n b h = absurd b.0
has_name c (And (also f fs)) p n b h = let i = has_name c f p.0 n.0 b.1.1 b.1.0 in (i.0, inl i.1)
has_name c (Or none) p n b h = absurd b.0
has_name c (Or (also f fs)) p n b h = let i = has_name c f p.0 n.0 b.1.1 b.1.0 in (i.0, inl i.1)
has_name c (Impl f g) p n b h = absurd p
has_name c (Repl f g) p n b h = absurd p
has_name c (Equiv f g) p n b h = absurd p
has_name c (Ex x f) p n b h = absurd p
has_name c (All x f) p n b h = absurd p

-- ---- the first true branch

module _ (c : Context) (matrix : Tree) (names : List ℕ) (p : Point ℕ) where
  -- what is chosen of branches
  abbrev pub Chosen : Trees → Option (List Step) → Type 0
  Chosen ts None = ¬ (SomeTrue Says (move nat_eq) c ts p)
  Chosen ts (Some steps) = Lead c steps matrix Yes × SomeTrue Says (move nat_eq) c ts p × (step_names steps ≡ names)

  one_more : (f : Tree) (ts : Trees) (o : Option (List Step)) → ¬ (TrueAt c f p) → Chosen ts o → Chosen (also f ts) o
  one_more f ts None n h = ⊎_elim n h
  one_more f ts (Some steps) n h = (h.0, inr h.1, h.2)

  choose : (f : Tree) (steps : List Step) (ts : Trees) (o : Option (List Step)) → IsTidy c f → ((y : ℕ) → ¬ (IsFree f y)) → Lead c steps matrix f → step_names steps ≡ names → Chosen ts o → Chosen (also f ts) (if_true f steps o)
  choose Yes steps ts o tidy n l e h = (l, inl tt, e)
  choose No steps ts o tidy n l e h = one_more No ts o (λ t. t) h
  choose (One a) steps ts o tidy n l e h = let i = has_name c (One a) tidy.is_plain tidy.normal tidy.two_members tt in absurd (n i.0 i.1)
  choose (And fs) steps ts o tidy n l e h = let i = has_name c (And fs) tidy.is_plain tidy.normal tidy.two_members tt in absurd (n i.0 i.1)
  choose (Or fs) steps ts o tidy n l e h = let i = has_name c (Or fs) tidy.is_plain tidy.normal tidy.two_members tt in absurd (n i.0 i.1)
  choose (Not f) steps ts o tidy n l e h = absurd tidy.is_plain
  choose (Impl f g) steps ts o tidy n l e h = absurd tidy.is_plain
  choose (Repl f g) steps ts o tidy n l e h = absurd tidy.is_plain
  choose (Equiv f g) steps ts o tidy n l e h = absurd tidy.is_plain
  choose (Ex x f) steps ts o tidy n l e h = absurd tidy.is_plain
  choose (All x f) steps ts o tidy n l e h = absurd tidy.is_plain

  -- where steps are found a branch is true, else none is
  pub found : (bs : List Branch) → EachOf (IsBranch c matrix names) bs → ((y : ℕ) → ¬ (FreeInSome Mentions (branch_trees bs) y)) → Chosen (branch_trees bs) (first_true bs)
  found [] h n = λ t. t
  found (b ∷ bs) h n = choose b.tree b.steps (branch_trees bs) (first_true bs) h.0.tidy (λ y t. n y (inl t)) h.0.lead h.0.in_order (found bs h.1 (λ y t. n y (inr t)))

-- samples are points of the theory
samples_of : (c : Context) (steps : List Step) (p q : Point ℕ) → Of c p → IsSampled c p steps q → Of c q
samples_of c [] p q o s = subst (Of c) s o
samples_of c (s ∷ steps) p q o r = samples_of c steps (move nat_eq p s.name r.0 r.1) q (moved_of c p s.name r.0 r.1 o r.2) r.4

module _ (c : Context) (f : Tree) (p : Point ℕ) (n : Every (IsNormal c) f) (o : Of c p) where
  -- the cases of the formula with the point put in, in words of the formula's own negation normal form
  shape : IsNegationNormal (normal_tree f)
  shape = (normal_form_shape negated_normal f).0

  put_in_shape : IsNegationNormal (put_in c p f)
  put_in_shape = put_shape c p o [] (normal_tree f) shape

  sign : Bool
  sign = case_sign (normal_tree f)

  -- the formula whose cases are asked, with the point put in
  asked : Tree
  asked = turned sign (put_in c p f)

  inside : InContext c (put_in c p f)
  inside = normal_inside c (put_in c p f) (putting_in_exact c f p n o).normal

  formula_true : TrueAt c (case_formula f) p ↔ TrueAt c asked p
  unfolding asked sign
  formula_true = formula_put c p o (normal_tree f) shape (normal_tree_inside c f n) inside sign

  matrix_true : (q : Point ℕ) → Of c q → ((y : ℕ) → is_in nat_eq y (block_of nat_eq asked Exists []) ≡ false → Same c p o q y) → TrueAt c (matrix_of nat_eq asked Exists []) q → TrueAt c (case_matrix f) q
  unfolding asked sign
  matrix_true q u h t = (matrix_same c p o (normal_tree f) shape (normal_tree_inside c f n) inside sign q u h).1 t

  choice : (bs : List Branch) → AreBranches c asked (matrix_of nat_eq asked Exists []) (block_of nat_eq asked Exists []) bs → (u : Option (List Step)) →
      Chosen c (matrix_of nat_eq asked Exists []) (block_of nat_eq asked Exists []) p (branch_trees bs) u → IsChoice c f p u
  choice bs b None h = λ t. h ((b.equivalent p o).0 (formula_true.0 t))
  choice bs b (Some steps) h =
      let matrix = matrix_of nat_eq asked Exists [] in
      let norm = normaliser c in let keeps = normal_keeps_periods c in (
        formula_true.1 ((b.equivalent p o).1 h.1),
        (let e = samples_exist c (normal_atom c) steps matrix Yes p norm keeps h.0 o tt in (e.0, e.2)),
        λ q s.
            let u = samples_of c steps p q o s in
            (u, matrix_true q u (λ y e. samples_same c steps p q s y (ap (is_in nat_eq y) h.2 ∙ e)) (samples_true c (normal_atom c) steps matrix Yes p q norm keeps h.0 o tt s)),
      )

  branches_at_are : (limit : ℕ) (s : Bool) → Always (Good c limit [] s (put_in c p f)) (branches_at c limit p s f)
  branches_at_are limit s =
      let Q = Good c limit [] s (put_in c p f) in
      always_then (λ u. Unit {0}) Q (pay limit (nodes (normal_tree f))) _ (always_pay limit (nodes (normal_tree f))) (λ u v.
      always_then (λ u. Unit {0}) Q (within (tree_put_within c p [] (normal_tree f))) _ (always_within (tree_put_within c p [] (normal_tree f))) (λ u v.
      branches_are c limit [] s (put_in c p f) put_in_shape (putting_in_exact c f p n o).normal))

  told : (g : Tree) → IsAnswerTo c (put_in c p f) g → IsTold c f p g
  told g a = go g a.tidy (λ y t. (putting_in_exact c f p n o).closed y (a.eliminated.names y t)) (both_ways ((putting_in_exact c f p n o).truth p o) (a.eliminated.equivalent p o))
    where
      go : (g : Tree) → IsTidy c g → ((y : ℕ) → ¬ (IsFree g y)) → TrueAt c f p ↔ TrueAt c g p → IsTold c f p g
      go Yes tidy h e = inl (refl, e.1 tt)
      go No tidy h e = inr (refl, e.0)
      go (One a) tidy h e = let i = has_name c (One a) tidy.is_plain tidy.normal tidy.two_members tt in absurd (h i.0 i.1)
      go (And fs) tidy h e = let i = has_name c (And fs) tidy.is_plain tidy.normal tidy.two_members tt in absurd (h i.0 i.1)
      go (Or fs) tidy h e = let i = has_name c (Or fs) tidy.is_plain tidy.normal tidy.two_members tt in absurd (h i.0 i.1)
      go (Not f) tidy h e = absurd tidy.is_plain
      go (Impl f g) tidy h e = absurd tidy.is_plain
      go (Repl f g) tidy h e = absurd tidy.is_plain
      go (Equiv f g) tidy h e = absurd tidy.is_plain
      go (Ex x f) tidy h e = absurd tidy.is_plain
      go (All x f) tidy h e = absurd tidy.is_plain

pub truth_told : (c : Context) → TruthIsTold c
truth_told c limit f p n o =
    let g = put_in c p f in
    gives_then (λ (r : List Branch × ℕ). AreBranches c g (matrix_of nat_eq g Exists []) (block_of nat_eq g Exists []) r.0) (λ (r : Tree × ℕ). IsTold c f p r.0) (branches_at c limit p true f 0) _
    (branches_at_are c f p n o limit true 0)
    (λ r b. told c f p n o (together r.0) (together_is c g (matrix_of nat_eq g Exists []) (block_of nat_eq g Exists []) r.0 b))

pub samples_exact : (c : Context) → SamplesAreExact c
unfolding asked sign
samples_exact c limit f p n o =
    let s = case_sign (normal_tree f) in
    let g = turned s (put_in c p f) in
    let matrix = matrix_of nat_eq g Exists [] in
    let names = block_of nat_eq g Exists [] in
    gives_then (λ (r : List Branch × ℕ). AreBranches c g matrix names r.0) (λ (r : Option (List Step) × ℕ). IsChoice c f p r.0) (branches_at c limit p s f 0) _
    (branches_at_are c f p n o limit s 0)
    (λ r b. choice c f p n o r.0 b (first_true r.0) (found c matrix names p r.0 b.each (λ y t. (putting_in_exact c f p n o).closed y (turned_free (put_in c p f) s y (b.free y t)))))
  where
    turned_free : (g : Tree) (s : Bool) (y : ℕ) → IsFree (turned s g) y → IsFree g y
    turned_free g true y t = t
    turned_free g false y t = (turned_brings c g y).1 t
