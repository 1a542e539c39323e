-- What a step leaves at a place and at a list of places, from its parts.
use Rattle.std.proofs.Common.{◌≡◌, ℕ, Bool, true, false, not, ◌&&◌, List, [], ◌∷◌, ◌++◌, refl, sym, ap, ◌∙◌, subst, unsigned_abs}
use Rattle.std.proofs.Math.IntN.{ℤ, pos}
use Rattle.std.specs.Ordering.{int_eq}
use Rattle.std.specs.Prelude.{if◌then◌else◌, Result as Outcome, IfOk, IfErr, MatchResult}
use Rattle.logic_meaning.specs.Shape.{quantified}
use Rattle.logic_meaning.specs.declared.quantifier.Quantifier.TheVariants.{Exists, ForAll}
use Rattle.logic_meaning.specs.Context.{Context, Fields, Integers}
use Rattle.logic_meaning.specs.Formula.{Yes, No, One, none, also}
use Rattle.logic_meaning.specs.Form.{coefficient}
use Rattle.logic_meaning.specs.Atom.{Atom, form_of}
use Rattle.logic_meaning.specs.Fold.{joined, append, folded, fold_list}
use Rattle.logic_meaning.specs.declared.junction.Junction.TheVariants.{Conjunction, Disjunction}
use Rattle.logic_meaning.specs.NegationNormal.{both}
use Rattle.logic_meaning.specs.Distinct.{without_same, distinct}
use Rattle.logic_meaning.specs.Same.{same_atom}
use Rattle.logic_meaning.specs.Answer as meaning
use Rattle.logic_meaning.specs.Tree.{Tree, Trees}
use Rattle.formula_laws.proofs.Same.{atom_same, both_true}
use Rattle.test_points.specs.FromEliminationTheory.{trees_left}
use Rattle.logic_meaning.specs.Atoms.{atoms_in, atoms_of}
use Rattle.logic_meaning.specs.BothTheories.{guard_of, IsPlaceIn}
use Rattle.logic_meaning.specs.Steps.{Result, normalised, kept, results, result_at}
use Rattle.logic_meaning.specs.Overflow.{FormWithin, PlaceWithin}
use Rattle.logic_meaning.specs.Limits.{each, place_within}
use Rattle.logic_meaning.specs.StopLimits.{atom_within}
use Rattle.logic_meaning.specs.Reference.{stands_among}
use Rattle.normal_atoms.specs.Atoms.{context_of}
use Rattle.logic_meaning.specs.NormalForm.{constant_tree, normal_atom}
use Rattle.logic_meaning.specs.declared.junction.Junction.{Junction}
use Rattle.logic_meaning.specs.declared.quantifier.Quantifier.{Quantifier}
use Rattle.nnf_trees.specs.declared.nnf.Nnf.{Nnf}
use Rattle.nnf_trees.specs.Nnfs.{nnf_of, IsProper}
use Rattle.nnf_trees.proofs.Pieces.{Formulas_of, lists_joined, append_none, append_thrice}
use Rattle.test_points.specs.declared.error.PointError.{PointError}
use Rattle.test_points.specs.declared.error.PointError.TheVariants.{Overflow, Nodes, Memory}
use Rattle.test_points.specs.declared.points.TestPoint.{TestPoint}
use Rattle.test_points.specs.Points.{place_at, place_of, IsTestPoint}
use Rattle.test_points.specs.declared.points.Place.{Place}
use Rattle.test_points.specs.declared.points.Place.TheVariants as place
use Rattle.test_points.proofs.FromEliminationTheory.{place_tests, IsSimple, simple_normalised, guard_simple, normaliser}
use Rattle.test_points.proofs.Forms.{coefficient_within}
use Rattle.exact_numbers.specs.Limit.{InLimit}
use Rattle.logic_meaning.specs.Form as forms
use Rattle.normal_atoms.specs.declared.atoms.Context as code
use Rattle.normal_atoms.specs.declared.atoms.Context.TheVariants as context
use Rattle.std.specs.declared.result.Result.TheVariants.{Ok, Err}
use Rattle.nnf_trees.specs.Placed.{IsPut, IsResultAt, put, all_within, point_within, with_guard, is_no, unless_false, Fails}
use Rattle.nnf_trees.proofs.PutLaws.{and_known, fails_along}

-- ---- false formulas

pub no_constant : (b : Bool) → is_no (constant_tree b) ≡ not b
no_constant true = refl
no_constant false = refl

pub no_joined : (j : Junction) (fs : Trees) → is_no (joined j fs) ≡ false
no_joined Conjunction fs = refl
no_joined Disjunction fs = refl

pub no_quantified : (q : Quantifier) (y : ℕ) (f : Tree) → is_no (quantified q y f) ≡ false
no_quantified Exists y f = refl
no_quantified ForAll y f = refl

pub ruleset falses = (no_constant, no_joined, no_quantified)

pub kept_none : (f : Tree) → is_no f ≡ true → unless_false f ≡ none
kept_none No e = refl
kept_none f e = cc

pub kept_one : (f : Tree) → is_no f ≡ false → unless_false f ≡ also f none
kept_one No e = cc
kept_one f e = refl

left_kept : (s : meaning.Place) (g : Tree) (rest : List Result) → trees_left (kept s g rest) ≡ append (unless_false g) (trees_left rest)
left_kept s No rest = refl
left_kept s _ rest = refl

-- ---- tests of atoms, each once

module _ {X : Type 0} (same : X → X → Bool) (sound : (x y : X) → same x y ≡ true → x ≡ y) (test : X → Bool) where
  each_without : (x : X) (ys : List X) → test x ≡ true → each test (without_same same x ys) ≡ each test ys
  each_without x [] h = refl
  each_without x (y ∷ ys) h = go (same x y) refl (each_without x ys h)
    where
      go : (b : Bool) → same x y ≡ b → each test (without_same same x ys) ≡ each test ys → each test (if b then without_same same x ys else y ∷ without_same same x ys) ≡ (test y && each test ys)
      go true e i = i ∙ sym (and_known (test y) (each test ys) (subst (λ (z : X). test z ≡ true) (sound x y e) h))
      go false e i = ap (λ b. test y && b) i

  each_once : (xs : List X) → each test (distinct same xs) ≡ each test xs
  each_once [] = refl
  each_once (x ∷ xs) = go (test x) refl (each_once xs)
    where
      go : (b : Bool) → test x ≡ b → each test (distinct same xs) ≡ each test xs → (b && each test (without_same same x (distinct same xs))) ≡ (b && each test xs)
      go true e i = each_without x (distinct same xs) e ∙ i
      go false e i = refl

pub within_once : (c : Context) (x : ℕ) (s : meaning.Place) (f : Tree) → each (atom_within c x s) (atoms_of f) ≡ all_within c x s f
within_once c x s f = each_once same_atom atom_same (atom_within c x s) (atoms_in f)

abbrev lacks : ℕ → Atom → Bool
lacks x a = int_eq (coefficient x (form_of a)) (pos 0)

stands_not : (x : ℕ) (atoms : List Atom) → stands_among x atoms ≡ not (each (lacks x) atoms)
stands_not x [] = refl
stands_not x (a ∷ atoms) = go (lacks x a) (stands_not x atoms)
  where
    go : (b : Bool) → stands_among x atoms ≡ not (each (lacks x) atoms) → (if b then stands_among x atoms else true) ≡ not (b && each (lacks x) atoms)
    go true i = i
    go false i = refl

pub stands_once : (x : ℕ) (f : Tree) → stands_among x (atoms_of f) ≡ stands_among x (atoms_in f)
stands_once x f = stands_not x (atoms_of f) ∙ ap not (each_once same_atom atom_same (lacks x) (atoms_in f)) ∙ sym (stands_not x (atoms_in f))

-- ---- places

-- what a step leaves is what stands at the first place, before the others
pub results_first : (c : Context) (x : ℕ) (f : Tree) (s : meaning.Place) (places : List meaning.Place) →
    trees_left (results c (normal_atom c) x f (s ∷ places)) ≡ append (unless_false (result_at c (normal_atom c) x s f)) (trees_left (results c (normal_atom c) x f places))
results_first c x f s places = left_kept s (result_at c (normal_atom c) x s f) (results c (normal_atom c) x f places)

pub fails_later : (e : PointError) (a b : Bool) → Fails e b → Fails e (a && b)
fails_later Overflow a b h = ap (λ c. a && c) h ∙ false_last a
  where
    false_last : (a : Bool) → (a && false) ≡ false
    false_last true = refl
    false_last false = refl
fails_later Nodes a b h = h
fails_later Memory a b h = tt

place_limits : (p : Place) (e : forms.Form) (d q : ℤ) → FormWithin e → InLimit d → InLimit q → InLimit e.constant → PlaceWithin (place_at p e (unsigned_abs d) q)
place_limits place.Exact e d q f g h k = (f, g)
place_limits place.AboveBy e d q f g h k = (f, g)
place_limits place.BelowBy e d q f g h k = (f, g)
place_limits place.MinusInfinity e d q f g h k = tt
place_limits place.PlusInfinity e d q f g h k = tt
place_limits place.Periodic e d q f g h k = (k, h)

-- no number of a test point passes the limit
pub point_is_within : (t : TestPoint) → IsTestPoint t → place_within (place_of t) ≡ true
point_is_within t h =
    (place_tests (place_of t)).1 (place_limits t.place t.form t.over t.period (record { coefficients = λ x. coefficient_within x t.form h.linear; constant_within = h.linear.constant_within })
    h.over_within h.period_within h.linear.constant_within)

simple_folded : (c : Context) (t : Tree) → IsSimple c t → folded t ≡ t
simple_folded c Yes h = refl
simple_folded c No h = refl
simple_folded c (One a) h = refl
simple_folded c _ h = absurd h

pub guard_folded : (s : meaning.Place) → IsPlaceIn Integers s → folded (normalised (normal_atom Integers) (guard_of Integers s)) ≡ normalised (normal_atom Integers) (guard_of Integers s)
guard_folded s p =
    simple_folded Integers (normalised (normal_atom Integers) (guard_of Integers s)) (simple_normalised Integers (normal_atom Integers) (normaliser Integers) (guard_of Integers s) (guard_simple s p))

module _ (t : TestPoint) (f : Tree) (h : IsTestPoint t) where
  all_limits : (c : Context) → all_within c t.name.number (place_of t) f ≡ true → point_within c t.name.number f (place_of t) ≡ true
  all_limits c e = both_true (place_within (place_of t)) (each (atom_within c t.name.number (place_of t)) (atoms_of f)) (point_is_within t h) (within_once c t.name.number (place_of t) f ∙ e)

  pub in_fields : (k : code.Context) (g : Nnf) → k ≡ context.Fields → IsPut (context_of k) t.name.number (place_of t) f g → IsResultAt (context_of k) t.name.number (place_of t) f g
  in_fields context.Fields g e i = record { formula = i.formula; proper = i.proper; within = all_limits Fields i.within }
  in_fields context.Integers g e i = cc

  pub in_integers : (k : code.Context) (g r : Nnf) → k ≡ context.Integers → IsPlaceIn (context_of k) (place_of t) → IsPut (context_of k) t.name.number (place_of t) f g → nnf_of r ≡ with_guard (place_of t) (nnf_of g) → IsProper r →
      IsResultAt (context_of k) t.name.number (place_of t) f r
  in_integers context.Fields g r e p i w q = cc
  in_integers context.Integers g r e p i w q = record {
    formula = w ∙ ap (with_guard (place_of t)) i.formula ∙ ap (λ u. fold_list Conjunction (both u (put Integers t.name.number (place_of t) f))) (sym (guard_folded (place_of t) p));
    proper = q;
    within = all_limits Integers i.within;
  }

pub fails_at : (c : Context) (x : ℕ) (s : meaning.Place) (f : Tree) (e : PointError) → Fails e (all_within c x s f) → Fails e (point_within c x f s)
fails_at c x s f e h = fails_later e (place_within s) (each (atom_within c x s) (atoms_of f)) (fails_along e _ _ (sym (within_once c x s f)) h)

-- a call whose only error is want of memory
pub memory_alone : (r : Outcome Nnf PointError) (F P : Nnf → Type 0) (w : Bool) → IfOk r F → IfOk r IsProper → IfErr r (λ e. e ≡ Memory) → ((g : Nnf) → F g → IsProper g → P g) → MatchResult r P (λ e. Fails e w)
memory_alone (Ok g) F P w h k m u = u g h k
memory_alone (Err e) F P w h k m u = subst (λ (e : PointError). Fails e w) (sym m) tt

-- ---- lists of what is left

pub kept_nothing : (left : List Nnf) (f : Tree) → is_no f ≡ true → Formulas_of left ≡ append (Formulas_of left) (unless_false f)
kept_nothing left f e = sym (append_none (Formulas_of left)) ∙ ap (append (Formulas_of left)) (sym (kept_none f e))

pub kept_last : (left left2 : List Nnf) (f : Nnf) → is_no (nnf_of f) ≡ false → left2 ≡ left ++ f ∷ [] → Formulas_of left2 ≡ append (Formulas_of left) (unless_false (nnf_of f))
kept_last left left2 f e m = ap Formulas_of m ∙ lists_joined left (f ∷ []) ∙ ap (append (Formulas_of left)) (sym (kept_one (nnf_of f) e))

-- one place more
pub one_result_more : (c : Context) (x : ℕ) (f : Tree) (s : meaning.Place) (rest : List meaning.Place) (left left2 all : Trees) (g : Tree) →
    append left (trees_left (results c (normal_atom c) x f (s ∷ rest))) ≡ all → g ≡ result_at c (normal_atom c) x s f → left2 ≡ append left (unless_false g) →
    append left2 (trees_left (results c (normal_atom c) x f rest)) ≡ all
one_result_more c x f s rest left left2 all g h e m =
    ap (λ ts. append ts (trees_left (results c (normal_atom c) x f rest))) (m ∙ ap (λ u. append left (unless_false u)) e)
    ∙ append_thrice left (unless_false (result_at c (normal_atom c) x s f)) (trees_left (results c (normal_atom c) x f rest))
    ∙ ap (append left) (sym (results_first c x f s rest)) ∙ h
