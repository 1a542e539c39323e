-- What operators make of their members.
use Rattle.std.proofs.Common.{◌≡◌, ◌<◌, ◌≤◌, ◌-◌, ℕ, suc, List, [], ◌∷◌, ◌++◌, length, take, drop, get_or, Option, Some, None, refl, ap, sym, ◌∙◌, subst, arith, true, false, ◌==◌, eq-eqb, eqb-true}
use Rattle.std.specs.Prelude.{option_map}
use Rattle.logic_meaning.specs.Context.{Context, Fields, Integers}
use Rattle.logic_meaning.specs.Tree.{Tree}
use Rattle.logic_meaning.specs.Formula.{Impl}
use Rattle.language_meaning.specs.declared.tree.Relation.{Relation}
use Rattle.language_meaning.specs.declared.tree.Relation.TheVariants as relation
use Rattle.language_meaning.specs.Trees.{TermTree, FormulaTree}
use Rattle.formula_resolving.specs.declared.parts.Part.{Part}
use Rattle.smt_language.specs.declared.expression.Operator.{Operator}
use Rattle.smt_language.specs.declared.expression.Operator.TheVariants as operator
use Rattle.smt_language.specs.Shapes.{comparison, chained, all_pairs, implications}
use Rattle.smt_language.specs.Operators.{Meaning, Term, Formula, Terms, Formulas, as_terms, as_formulas, of_one_kind, of_terms, of_formulas, of_members}
use Rattle.smt_language.specs.Meaning.{as_term, as_formula, and_then}
use Rattle.smt_resolver.specs.declared.sized.Sized.{Sized}
use Rattle.smt_resolver.specs.Values.{AreEach, implied_by}
use Rattle.smt_resolver.specs.declared.value.Value.TheVariants as value
use Rattle.written_atoms.specs.declared.term.ReadTerm.{ReadTerm}
use Rattle.smt_resolver.specs.Readings.{chain_relation, if_many, IsTermFound, IsFormulaFound, IsMeant, terms_among, formulas_among}
use Rattle.smt_resolver.proofs.Lists.{slice_rest}

-- ---- members by their places

pub record TwoOrMore {X V : Type 0} (R : X → V → Type 0) (xs : List X) (v : V) (ws : List V) : Type 0 where
  pub one : X
  pub two : X
  pub more : List X
  pub is : xs ≡ one ∷ two ∷ more
  pub first : R one v
  pub others : AreEach R (two ∷ more) ws

module _ {X V : Type 0} (R : X → V → Type 0) where
  pub two_or_more : (xs : List X) (vs : List V) (v : V) → AreEach R xs vs → 1 ≤ length vs → ¬ (length vs ≡ 1) → v ≡ get_or vs 0 v → TwoOrMore R xs v (take (length vs - 1) (drop 1 vs))
  two_or_more xs [] v h l n e = absurd (omega arith)
  two_or_more xs (a ∷ []) v h l n e = absurd (n refl)
  two_or_more [] (a ∷ b ∷ vs) v h l n e = absurd h
  two_or_more (x ∷ []) (a ∷ b ∷ vs) v h l n e = absurd h.1
  two_or_more (x ∷ y ∷ xs) (a ∷ b ∷ vs) v h l n e = record { one = x; two = y; more = xs; is = refl; first = subst (R x) (sym e) h.0; others = subst (AreEach R (y ∷ xs)) (sym (slice_rest (a ∷ b ∷ vs) 1)) h.1 }

  pub one_only : (xs : List X) (vs : List V) (v : V) → AreEach R xs vs → length vs ≡ 1 → v ≡ get_or vs 0 v → (x : X) × (xs ≡ x ∷ []) × R x v
  one_only xs [] v h l e = absurd (omega arith)
  one_only xs (a ∷ b ∷ vs) v h l e = absurd (omega arith)
  one_only [] (a ∷ []) v h l e = absurd h
  one_only (x ∷ []) (a ∷ []) v h l e = (x, refl, subst (R x) (sym e) h.0)
  one_only (x ∷ y ∷ xs) (a ∷ []) v h l e = absurd h.1

  pub two_only : (xs : List X) (vs : List V) (v w : V) → AreEach R xs vs → 2 ≤ length vs → length vs < 3 → v ≡ get_or vs 0 v → w ≡ get_or vs 1 w → (x : X) × (y : X) × (xs ≡ x ∷ y ∷ []) × R x v × R y w
  two_only xs [] v w h l m e f = absurd (omega arith)
  two_only xs (a ∷ []) v w h l m e f = absurd (omega arith)
  two_only xs (a ∷ b ∷ d ∷ vs) v w h l m e f = absurd (omega arith)
  two_only [] (a ∷ b ∷ []) v w h l m e f = absurd h
  two_only (x ∷ []) (a ∷ b ∷ []) v w h l m e f = absurd h.1
  two_only (x ∷ y ∷ []) (a ∷ b ∷ []) v w h l m e f = (x, y, refl, subst (R x) (sym e) h.0, subst (R y) (sym f) h.1.0)
  two_only (x ∷ y ∷ z ∷ xs) (a ∷ b ∷ []) v w h l m e f = absurd h.1.1

  -- two members at least, or none that is meant
  pub many_or_few : (xs : List X) (vs : List V) → AreEach R xs vs → 2 ≤ length vs → (x : X) × (y : X) × (zs : List X) × (xs ≡ x ∷ y ∷ zs)
  many_or_few xs [] h l = absurd (omega arith)
  many_or_few xs (a ∷ []) h l = absurd (omega arith)
  many_or_few [] (a ∷ b ∷ vs) h l = absurd h
  many_or_few (x ∷ []) (a ∷ b ∷ vs) h l = absurd h.1
  many_or_few (x ∷ y ∷ xs) (a ∷ b ∷ vs) h l = (x, y, xs, refl)

pub record LastOne {X V : Type 0} (R : X → V → Type 0) (xs : List X) (v : V) (ws : List V) : Type 0 where
  pub head : X
  pub tail : List X
  pub last : X
  pub is : xs ≡ (head ∷ tail) ++ last ∷ []
  pub others : AreEach R (head ∷ tail) ws
  pub final : R last v

module _ {X V : Type 0} (R : X → V → Type 0) where
  pub last_one : (xs : List X) (vs : List V) (v : V) → AreEach R xs vs → 1 ≤ length vs → ¬ (length vs ≡ 1) → v ≡ get_or vs (length vs - 1) v → LastOne R xs v (take (length vs - 1) vs)
  last_one xs [] v h l n e = absurd (omega arith)
  last_one xs (a ∷ []) v h l n e = absurd (n refl)
  last_one [] (a ∷ b ∷ vs) v h l n e = absurd h
  last_one (x ∷ []) (a ∷ b ∷ vs) v h l n e = absurd h.1
  last_one (x ∷ y ∷ []) (a ∷ b ∷ []) v h l n e = record { head = x; tail = []; last = y; is = refl; others = (h.0, tt); final = subst (R y) (sym e) h.1.0 }
  last_one (x ∷ y ∷ []) (a ∷ b ∷ d ∷ vs) v h l n e = absurd h.1.1
  last_one (x ∷ y ∷ z ∷ xs) (a ∷ b ∷ []) v h l n e = absurd h.1.1
  last_one (x ∷ y ∷ z ∷ xs) (a ∷ b ∷ d ∷ vs) v h l n e =
      let k : length (a ∷ b ∷ d ∷ vs) - 1 ≡ suc (length (b ∷ d ∷ vs) - 1) = omega arith in
      let r = last_one (y ∷ z ∷ xs) (b ∷ d ∷ vs) v h.1 (omega arith) (λ i. omega arith) (subst (λ m. v ≡ get_or (a ∷ b ∷ d ∷ vs) m v) k e) in
      record { head = x; tail = r.head ∷ r.tail; last = r.last; is = ap (λ zs. x ∷ zs) r.is; others = subst (λ m. AreEach R (x ∷ r.head ∷ r.tail) (take m (a ∷ b ∷ d ∷ vs))) (sym k) (h.0, r.others); final = r.final }

-- ---- operators of terms

pub no_term : (c : Context) (o : Operator) (ts : List TermTree) → ¬ (o ≡ operator.Minus) → ¬ (o ≡ operator.Divided) → ¬ (o ≡ operator.Plus) → ¬ (o ≡ operator.Times) → as_term (of_terms c o ts) ≡ None
no_term c operator.Minus ts m d p t = absurd (m refl)
no_term c operator.Divided ts m d p t = absurd (d refl)
no_term c operator.Plus ts m d p t = absurd (p refl)
no_term c operator.Times ts m d p t = absurd (t refl)
no_term c o [] m d p t = refl
no_term c o (x ∷ []) m d p t = refl
no_term c o (x ∷ y ∷ xs) m d p t = refl

pub chain_formula : (c : Context) (o : Operator) (rel : Relation) (ts : List TermTree) → chain_relation o ≡ Some rel → as_formula (of_terms c o ts) ≡ if_many ts (chained (comparison rel) ts)
chain_formula c o rel ts e = go o ts e
  where
    same : {a b : Relation} → Some a ≡ Some b → a ≡ b
    same i = cc

    go : (o : Operator) (ts : List TermTree) → chain_relation o ≡ Some rel → as_formula (of_terms c o ts) ≡ if_many ts (chained (comparison rel) ts)
    go operator.Equal [] i = refl
    go operator.Equal (t ∷ []) i = refl
    go operator.Equal (t ∷ u ∷ ts) i = ap (λ r. Some (chained (comparison r) (t ∷ u ∷ ts))) (same i)
    go operator.Less [] i = refl
    go operator.Less (t ∷ []) i = refl
    go operator.Less (t ∷ u ∷ ts) i = ap (λ r. Some (chained (comparison r) (t ∷ u ∷ ts))) (same i)
    go operator.AtMost [] i = refl
    go operator.AtMost (t ∷ []) i = refl
    go operator.AtMost (t ∷ u ∷ ts) i = ap (λ r. Some (chained (comparison r) (t ∷ u ∷ ts))) (same i)
    go operator.Greater [] i = refl
    go operator.Greater (t ∷ []) i = refl
    go operator.Greater (t ∷ u ∷ ts) i = ap (λ r. Some (chained (comparison r) (t ∷ u ∷ ts))) (same i)
    go operator.AtLeast [] i = refl
    go operator.AtLeast (t ∷ []) i = refl
    go operator.AtLeast (t ∷ u ∷ ts) i = ap (λ r. Some (chained (comparison r) (t ∷ u ∷ ts))) (same i)
    go o ts i = absurd (cc)

pub distinct_formula : (c : Context) (ts : List TermTree) → as_formula (of_terms c operator.Distinct ts) ≡ if_many ts (all_pairs (comparison relation.Differs) ts)
distinct_formula c [] = refl
distinct_formula c (t ∷ []) = refl
distinct_formula c (t ∷ u ∷ ts) = refl

pub no_formula : (c : Context) (o : Operator) (ts : List TermTree) → chain_relation o ≡ None → ¬ (o ≡ operator.Distinct) → as_formula (of_terms c o ts) ≡ None
no_formula c operator.Equal ts e n = absurd (cc)
no_formula c operator.Less ts e n = absurd (cc)
no_formula c operator.AtMost ts e n = absurd (cc)
no_formula c operator.Greater ts e n = absurd (cc)
no_formula c operator.AtLeast ts e n = absurd (cc)
no_formula c operator.Distinct ts e n = absurd (n refl)
no_formula c operator.Divided ts e n = go c ts
  where
    go : (d : Context) (ts : List TermTree) → as_formula (of_terms d operator.Divided ts) ≡ None
    go Fields [] = refl
    go Fields (t ∷ []) = refl
    go Fields (t ∷ u ∷ []) = refl
    go Fields (t ∷ u ∷ v ∷ ts) = refl
    go Integers ts = refl
no_formula c o [] e n = refl
no_formula c o (t ∷ []) e n = refl
no_formula c o (t ∷ u ∷ ts) e n = refl

-- ---- operators of formulas

implications_last : (g : FormulaTree) (gs : List FormulaTree) (y : FormulaTree) → implications g (gs ++ y ∷ []) ≡ implied_by (g ∷ gs) y
implications_last g [] y = refl
implications_last g (h ∷ hs) y = ap (Impl g) (implications_last h hs y)

pub implies_formula : (g : FormulaTree) (gs : List FormulaTree) (y : FormulaTree) → as_formula (of_formulas operator.Implies ((g ∷ gs) ++ y ∷ [])) ≡ Some (implied_by (g ∷ gs) y)
implies_formula g [] y = refl
implies_formula g (h ∷ hs) y = ap Some (implications_last g (h ∷ hs) y)

-- ---- members of one kind

terms_nothing : (c : Context) (o : Operator) → of_terms c o [] ≡ None
terms_nothing Fields operator.Divided = refl
terms_nothing Integers operator.Divided = refl
terms_nothing c o = refl

formulas_nothing : (o : Operator) → of_formulas o [] ≡ None
formulas_nothing operator.Not = refl
formulas_nothing o = refl

all_terms : (ms : List Meaning) → formulas_among ms ≡ [] → as_terms ms ≡ Some (terms_among ms)
all_terms [] e = refl
all_terms (Term t ∷ ms) e = ap (option_map (λ ts. t ∷ ts)) (all_terms ms e)
all_terms (Formula f ∷ ms) e = absurd (cc)

all_formulas : (ms : List Meaning) → terms_among ms ≡ [] → as_formulas ms ≡ Some (formulas_among ms)
all_formulas [] e = refl
all_formulas (Term t ∷ ms) e = absurd (cc)
all_formulas (Formula f ∷ ms) e = ap (option_map (λ fs. f ∷ fs)) (all_formulas ms e)

not_all_terms : (ms : List Meaning) → ¬ (formulas_among ms ≡ []) → as_terms ms ≡ None
not_all_terms [] n = absurd (n refl)
not_all_terms (Term t ∷ ms) n = ap (option_map (λ ts. t ∷ ts)) (not_all_terms ms n)
not_all_terms (Formula f ∷ ms) n = refl

not_all_formulas : (ms : List Meaning) → ¬ (terms_among ms ≡ []) → as_formulas ms ≡ None
not_all_formulas [] n = absurd (n refl)
not_all_formulas (Term t ∷ ms) n = refl
not_all_formulas (Formula f ∷ ms) n = ap (option_map (λ fs. f ∷ fs)) (not_all_formulas ms n)

module _ (c : Context) (o : Operator) where
  pub terms_alone : (ms : List Meaning) → formulas_among ms ≡ [] → and_then (of_one_kind ms) (of_members c o) ≡ of_terms c o (terms_among ms)
  terms_alone [] e = sym (terms_nothing c o)
  terms_alone (Term t ∷ ms) e = ap (λ k. and_then (option_map (λ ts. Terms (t ∷ ts)) k) (of_members c o)) (all_terms ms e)
  terms_alone (Formula f ∷ ms) e = absurd (cc)

  pub formulas_alone : (ms : List Meaning) → terms_among ms ≡ [] → and_then (of_one_kind ms) (of_members c o) ≡ of_formulas o (formulas_among ms)
  formulas_alone [] e = sym (formulas_nothing o)
  formulas_alone (Term t ∷ ms) e = absurd (cc)
  formulas_alone (Formula f ∷ ms) e = ap (λ k. and_then (option_map (λ fs. Formulas (f ∷ fs)) k) (of_members c o)) (all_formulas ms e)

  pub mixed_members : (ms : List Meaning) → ¬ (terms_among ms ≡ []) → ¬ (formulas_among ms ≡ []) → and_then (of_one_kind ms) (of_members c o) ≡ None
  mixed_members [] n m = absurd (n refl)
  mixed_members (Term t ∷ ms) n m = ap (λ k. and_then (option_map (λ ts. Terms (t ∷ ts)) k) (of_members c o)) (not_all_terms ms m)
  mixed_members (Formula f ∷ ms) n m = ap (λ k. and_then (option_map (λ fs. Formulas (f ∷ fs)) k) (of_members c o)) (not_all_formulas ms n)

no_term_of_formulas : (o : Operator) (fs : List FormulaTree) (t : TermTree) → ¬ (of_formulas o fs ≡ Some (Term t))
no_term_of_formulas operator.Not (f ∷ []) t e = cc
no_term_of_formulas operator.And (f ∷ fs) t e = cc
no_term_of_formulas operator.Or (f ∷ fs) t e = cc
no_term_of_formulas operator.Implies (f ∷ g ∷ fs) t e = cc
no_term_of_formulas operator.Equal (f ∷ g ∷ fs) t e = cc
no_term_of_formulas o fs t e = cc

module _ {Id : Type 0} (c : Context) (limit : ℕ) (P : Id → Type 0) (t : Id → Tree) where
  pub formula_meant : (m : Option Meaning) (v : Sized (Part Id)) → IsFormulaFound c limit P t (as_formula m) (Some v) → IsMeant c limit P t m (Some (value.Formula v))
  formula_meant (Some (Formula f)) v h = h
  formula_meant (Some (Term s)) v h = absurd h
  formula_meant None v h = absurd h

  pub term_meant : (m : Option Meaning) (v : Sized ReadTerm) → IsTermFound c limit (as_term m) (Some v) → IsMeant c limit P t m (Some (value.Term v))
  term_meant (Some (Formula f)) v h = absurd h
  term_meant (Some (Term s)) v h = h
  term_meant None v h = absurd h

  pub nothing_meant : (m : Option Meaning) → IsTermFound c limit (as_term m) None → IsFormulaFound c limit P t (as_formula m) None → IsMeant c limit P t m None
  nothing_meant (Some (Formula f)) h k = absurd k
  nothing_meant (Some (Term s)) h k = absurd h
  nothing_meant None h k = tt

  pub no_formula_meant : (o : Operator) (fs : List FormulaTree) → IsFormulaFound c limit P t (as_formula (of_formulas o fs)) None → IsMeant c limit P t (of_formulas o fs) None
  no_formula_meant o fs h = go (of_formulas o fs) refl h
    where
      go : (m : Option Meaning) → of_formulas o fs ≡ m → IsFormulaFound c limit P t (as_formula m) None → IsMeant c limit P t m None
      go (Some (Formula f)) e k = absurd k
      go (Some (Term s)) e k = absurd (no_term_of_formulas o fs s e)
      go None e k = tt

-- a list that has values for none, or for some
pub none_of : {X V : Type 0} (R : X → V → Type 0) (xs : List X) (vs : List V) → AreEach R xs vs → length vs ≡ 0 → xs ≡ []
none_of R [] vs h e = refl
none_of R (x ∷ xs) [] h e = absurd h
none_of R (x ∷ xs) (v ∷ vs) h e = absurd (omega arith)

pub some_of : {X V : Type 0} (R : X → V → Type 0) (xs : List X) (vs : List V) → AreEach R xs vs → ¬ (length vs ≡ 0) → ¬ (xs ≡ [])
some_of R [] [] h n e = n refl
some_of R [] (v ∷ vs) h n e = h
some_of R (x ∷ xs) vs h n e = cc

pub zero_told : (n : ℕ) → true ≡ (n == 0) → n ≡ 0
zero_told n e = eqb-true n 0 (sym e)

pub more_told : (n : ℕ) → false ≡ (n == 0) → ¬ (n ≡ 0)
more_told n e i = let t = eq-eqb n 0 i in let k : false ≡ true = e ∙ t in absurd (cc)
