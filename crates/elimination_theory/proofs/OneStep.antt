-- One step of elimination, with atoms in normal form and the formula folded.
use Rattle.std.proofs.Common.{◌≡◌, ℕ, suc, zero, ◌+◌, ◌*◌, ◌≤◌, length, List, [], ◌∷◌, sym, subst, refl, arith, inl, inr, ⊎_elim, ◌⊎◌, ◌↔◌, nat_eq}
use Rattle.std.proofs.Math.IntN.{ℤ, pos, negsuc}
use Rattle.logic_meaning.specs.Context.{Context, Fields, Integers}
use Rattle.logic_meaning.specs.Point.{Point, move}
use Rattle.logic_meaning.specs.Formula.{No, One, And}
use Rattle.logic_meaning.specs.Truth.{SomeTrue}
use Rattle.logic_meaning.specs.Form.{coefficient}
use Rattle.logic_meaning.specs.Some.{Among}
use Rattle.logic_meaning.specs.Plain.{IsPlain}
use Rattle.logic_meaning.specs.Sizes.{nodes, all_nodes}
use Rattle.logic_meaning.specs.NegationNormal.{both}
use Rattle.logic_meaning.specs.Replaced.{replaced}
use Rattle.logic_meaning.specs.Fold.{folded}
use Rattle.logic_meaning.specs.Atom.{Atom, Says, Mentions, form_of}
use Rattle.formula_laws.specs.TheoryAtoms.{AtomIn}
use Rattle.logic_meaning.specs.Answer.{Place}
use Rattle.logic_meaning.specs.Tree.{Tree, TrueAt, IsFree}
use Rattle.formula_laws.specs.Equivalence.{InContext, Equivalent}
use Rattle.formula_laws.proofs.Iff.{either_iff, both_ways}
use Rattle.formula_laws.proofs.EachAtom.{every_map, every_both}
use Rattle.formula_laws.proofs.ReplacedShape.{nodes_replaced}
use Rattle.formula_laws.proofs.FreeReplaced.{every_free, free_replaced, fewer_replaced}
use Rattle.formula_laws.proofs.TreeReplacing.{tree_replacing}
use Rattle.formula_laws.proofs.Equivalence.{equivalent_self, equivalent_then, all_equivalent, replaced_equivalent}
use Rattle.formula_laws.proofs.Fold.{folded_true, folded_plain, folded_every, folded_free, folded_nodes}
use Rattle.logic_meaning.specs.Atoms.{atoms_of}
use Rattle.elimination_theory.specs.Elimination.{trees_at}
use Rattle.logic_meaning.specs.Substitution.{where_zero}
use Rattle.logic_meaning.specs.IntegersSubstitution.{integer_guard}
use Rattle.logic_meaning.specs.BothTheories.{IsPlaceIn, raw_atom, test_points}
use Rattle.elimination_theory.specs.Places.{substitution}
use Rattle.logic_meaning.specs.Steps.{normalised, atom_at, result_at, Result, kept, results}
use Rattle.elimination_theory.specs.StepTheorems.{IsNormaliser, trees_left, StepsAreExact}
use Rattle.elimination_theory.proofs.Simple.{IsSimple, simple_plain, simple_in, simple_nodes, simple_normalised, where_zero_has, raw_simple, raw_still, guard_simple, replaced_plain}
use Rattle.elimination_theory.proofs.BothSubstitutions.{place_in, point_suits, eliminated, substituted_names}

pub folded_equivalent : (c : Context) (f : Tree) → Equivalent c f (folded f)
folded_equivalent c f p o = folded_true Says (move nat_eq) c f p

module _ (c : Context) (by : Atom → Tree) (norm : IsNormaliser c by) where
  -- ---- atoms in normal form

  pub normalised_equivalent : (t : Tree) → InContext c t → Equivalent c t (normalised by t)
  normalised_equivalent t inside = tree_replacing c by t (every_map _ _ (λ a i. norm.equivalent a i) t inside)

  pub normalised_names : (t : Tree) (y : ℕ) → IsPlain t → InContext c t → IsFree (normalised by t) y → IsFree t y
  normalised_names t y plain inside =
      free_replaced Mentions by (λ z. z) y (IsFree t y) t plain
      (every_both (AtomIn c) (λ a. Mentions a y → IsFree t y) (λ a. IsFree (by a) y → IsFree t y) (λ a i g u. g (norm.names a y i u)) t inside (every_free Mentions y (IsFree t y) t plain (λ u. u)))

  module _ (x : ℕ) (s : Place) (place : IsPlaceIn c s) where
    atom_equivalent : (a : Atom) → AtomIn c a → Equivalent c (raw_atom c x s a) (atom_at c by x s a)
    atom_equivalent a i = go (coefficient x (form_of a)) refl
      where
        raw_in : InContext c (raw_atom c x s a)
        raw_in = simple_in c (raw_atom c x s a) (raw_simple c x s a place i)

        go : (z : ℤ) → coefficient x (form_of a) ≡ z → Equivalent c (raw_atom c x s a) (where_zero z (One a) (normalised by (raw_atom c x s a)))
        go (pos zero) e = subst (λ t. Equivalent c t (One a)) (sym (raw_still c x s a place i e)) (equivalent_self c (One a))
        go (pos (suc n)) e = normalised_equivalent (raw_atom c x s a) raw_in
        go (negsuc n) e = normalised_equivalent (raw_atom c x s a) raw_in

    atom_names : (a : Atom) (y : ℕ) → AtomIn c a → IsFree (atom_at c by x s a) y → IsFree (raw_atom c x s a) y
    atom_names a y i = go (coefficient x (form_of a)) refl
      where
        raw_is : IsSimple c (raw_atom c x s a)
        raw_is = raw_simple c x s a place i

        go : (z : ℤ) → coefficient x (form_of a) ≡ z → IsFree (where_zero z (One a) (normalised by (raw_atom c x s a))) y → IsFree (raw_atom c x s a) y
        go (pos zero) e t = subst (λ u. IsFree u y) (sym (raw_still c x s a place i e)) t
        go (pos (suc n)) e t = normalised_names (raw_atom c x s a) y (simple_plain c _ raw_is) (simple_in c _ raw_is) t
        go (negsuc n) e t = normalised_names (raw_atom c x s a) y (simple_plain c _ raw_is) (simple_in c _ raw_is) t

    atom_simple : (a : Atom) → AtomIn c a → IsSimple c (atom_at c by x s a)
    atom_simple a i = where_zero_has (IsSimple c) (coefficient x (form_of a)) (One a) (normalised by (raw_atom c x s a)) i (simple_normalised c by norm (raw_atom c x s a) (raw_simple c x s a place i))

    -- ---- a formula with x at the place, before it is folded

    module _ (f : Tree) (plain : IsPlain f) (inside : InContext c f) where
      atoms_equivalent : Equivalent c (replaced (λ a. raw_atom c x s a) (λ y. y) f) (replaced (atom_at c by x s) (λ y. y) f)
      atoms_equivalent = replaced_equivalent c (λ a. raw_atom c x s a) (atom_at c by x s) f (every_map _ _ atom_equivalent f inside)

      atoms_plain : IsPlain (replaced (atom_at c by x s) (λ y. y) f) × InContext c (replaced (atom_at c by x s) (λ y. y) f)
      atoms_plain = replaced_plain c (atom_at c by x s) f atom_simple plain inside

      atoms_names : (y : ℕ) → IsFree (replaced (atom_at c by x s) (λ y. y) f) y → IsFree (replaced (λ a. raw_atom c x s a) (λ y. y) f) y
      atoms_names y = fewer_replaced Mentions (λ a. raw_atom c x s a) (atom_at c by x s) (λ z. z) y f (every_map _ _ (λ a i. atom_names a y i) f inside)

      atoms_nodes : nodes (replaced (atom_at c by x s) (λ y. y) f) ≡ nodes f
      atoms_nodes = nodes_replaced (atom_at c by x s) (λ y. y) f (every_map _ _ (λ a i. simple_nodes c (atom_at c by x s a) (atom_simple a i)) f inside)

-- ---- the result at a place

-- what the result has of the substitution
pub record Becomes (c : Context) (f g h : Tree) : Type 0 where
  pub equivalent : Equivalent c g h
  pub is_plain : IsPlain h
  pub in_context : InContext c h
  pub names : (y : ℕ) → IsFree h y → IsFree g y
  pub few_nodes : nodes h ≤ nodes f + 2

becomes_folded : (c : Context) (f g h : Tree) → Equivalent c g h → IsPlain h → InContext c h → ((y : ℕ) → IsFree h y → IsFree g y) → nodes h ≤ nodes f + 2 → Becomes c f g (folded h)
becomes_folded c f g h e plain inside names few = record {
  equivalent = equivalent_then c g h (folded h) e (folded_equivalent c h);
  is_plain = folded_plain h plain;
  in_context = folded_every (AtomIn c) h inside;
  names = λ y t. names y (folded_free Mentions y h t);
  few_nodes = let n = folded_nodes h in omega arith;
}

pub result_becomes : (c : Context) (by : Atom → Tree) → IsNormaliser c by → (x : ℕ) (s : Place) (f : Tree) → IsPlaceIn c s → IsPlain f → InContext c f → Becomes c f (substitution c x s f) (result_at c by x s f)
result_becomes Fields by norm x s f place plain inside =
    let t = atoms_plain Fields by norm x s place f plain inside in
    becomes_folded Fields f (substitution Fields x s f) (replaced (atom_at Fields by x s) (λ y. y) f)
    (atoms_equivalent Fields by norm x s place f plain inside) t.0 t.1 (atoms_names Fields by norm x s place f plain inside)
    (let n = atoms_nodes Fields by norm x s place f plain inside in omega arith)
result_becomes Integers by norm x s f place plain inside =
    let t = atoms_plain Integers by norm x s place f plain inside in
    let g = guard_simple s place in
    let gi = simple_in Integers (integer_guard s) g in
    let h = simple_normalised Integers by norm (integer_guard s) g in
    becomes_folded Integers f (substitution Integers x s f) (And (both (normalised by (integer_guard s)) (replaced (atom_at Integers by x s) (λ y. y) f)))
    (all_equivalent Integers (both (integer_guard s) (replaced (λ a. raw_atom Integers x s a) (λ y. y) f)) (both (normalised by (integer_guard s)) (replaced (atom_at Integers by x s) (λ y. y) f)) (normalised_equivalent Integers by norm (integer_guard s) gi, (atoms_equivalent Integers by norm x s place f plain inside, tt)))
    (simple_plain Integers (normalised by (integer_guard s)) h, (t.0, tt))
    (simple_in Integers (normalised by (integer_guard s)) h, (t.1, tt))
    (λ y. ⊎_elim
    (λ u. inl (normalised_names Integers by norm (integer_guard s) y (simple_plain Integers (integer_guard s) g) gi u))
    (⊎_elim (λ u. inr (inl (atoms_names Integers by norm x s place f plain inside y u))) (λ u. absurd u)))
    (let n = atoms_nodes Integers by norm x s place f plain inside in let m = simple_nodes Integers (normalised by (integer_guard s)) h in omega arith)

-- ---- the list of results

kept_true : (c : Context) (s : Place) (g : Tree) (rest : List Result) (p : Point ℕ) →
    SomeTrue Says (move nat_eq) c (trees_left (kept s g rest)) p ↔ (TrueAt c g p ⊎ SomeTrue Says (move nat_eq) c (trees_left rest) p)
kept_true c s No rest p = (λ t. inr t, ⊎_elim (λ t. absurd t) (λ t. t))
kept_true c s _ rest p = (λ t. t, λ t. t)

kept_among : (s : Place) (g : Tree) (rest : List Result) (r : Result) → Among (kept s g rest) r → Among (record { place = s; tree = g } ∷ rest) r
kept_among s No rest r m = inr m
kept_among s _ rest r m = m

module _ (c : Context) (by : Atom → Tree) (x : ℕ) (f : Tree) where
  results_true : (places : List Place) (p : Point ℕ) → ((s : Place) → Among places s → TrueAt c (substitution c x s f) p ↔ TrueAt c (result_at c by x s f) p) →
      SomeTrue Says (move nat_eq) c (trees_at (λ s. substitution c x s f) places) p ↔ SomeTrue Says (move nat_eq) c (trees_left (results c by x f places)) p
  results_true [] p e = (λ t. t, λ t. t)
  results_true (s ∷ places) p e =
      let k = kept_true c s (result_at c by x s f) (results c by x f places) p in
      both_ways (either_iff (e s (inl refl)) (results_true places p (λ q m. e q (inr m)))) (k.1, k.0)

  results_among : (places : List Place) (r : Result) → Among (results c by x f places) r → Among places r.place × (result_at c by x r.place f ≡ r.tree)
  results_among [] r m = absurd m
  results_among (s ∷ places) r m =
      ⊎_elim
      (λ (e : Path Result (record { place = s; tree = result_at c by x s f }) r). subst (λ (q : Result). Among (s ∷ places) q.place × (result_at c by x q.place f ≡ q.tree)) e (inl refl, refl))
      (λ n. let h = results_among places r n in (inr h.0, h.1))
      (kept_among s (result_at c by x s f) (results c by x f places) r m)

kept_nodes : (s : Place) (g : Tree) (rest : List Result) → all_nodes (trees_left (kept s g rest)) ≤ nodes g + all_nodes (trees_left rest)
kept_nodes s No rest = omega arith
kept_nodes s _ rest = omega arith

results_nodes : (c : Context) (by : Atom → Tree) (x : ℕ) (f : Tree) (n : ℕ) (places : List Place) → ((s : Place) → Among places s → nodes (result_at c by x s f) ≤ n) →
    all_nodes (trees_left (results c by x f places)) ≤ length places * n
results_nodes c by x f n [] h = omega arith
results_nodes c by x f n (s ∷ places) h =
    let k = kept_nodes s (result_at c by x s f) (results c by x f places) in
    let here = h s (inl refl) in
    let rest = results_nodes c by x f n places (λ q m. h q (inr m)) in
    let e = suc_times (length places) n in
    omega arith
  where
    suc_times : (m n : ℕ) → suc m * n ≡ n + m * n
    suc_times m n = omega arith

pub steps_exact : (c : Context) → StepsAreExact c
steps_exact c by side x f norm plain inside =
    let at : (s : Place) → Among (test_points c side x (atoms_of f)) s → Becomes c f (substitution c x s f) (result_at c by x s f) = λ s m. result_becomes c by norm x s f (place_in c x s f (point_suits c side x f s inside m)) plain inside in
    record {
      equivalent = λ p o. both_ways (eliminated c side x f plain inside p o) (results_true c by x f (test_points c side x (atoms_of f)) p (λ s m. (at s m).equivalent p o));
      each = λ r m.
          let h = results_among c by x f (test_points c side x (atoms_of f)) r m in
          let b = at r.place h.0 in
          let b = subst (λ (t : Tree). Becomes c f (substitution c x r.place f) t) h.1 b in
          record {
            suits = point_suits c side x f r.place inside h.0;
            is_plain = b.is_plain;
            in_context = b.in_context;
            equivalent = b.equivalent;
            names = λ y t. substituted_names c side x f r.place y plain inside h.0 (b.names y t);
            few_nodes = b.few_nodes;
          };
      few_nodes = results_nodes c by x f (nodes f + 2) (test_points c side x (atoms_of f)) (λ s m. (at s m).few_nodes);
    }
