-- Which names and atoms stand in what an expression means.
use Rattle.std.proofs.Common.{◌≡◌, ◌≤◌, ◌<◌, ◌+◌, ℕ, suc, Bool, true, false, List, [], ◌∷◌, length, map, Option, Some, None, refl, ap, subst, arith, if◌then◌else◌}
use Rattle.std.specs.Prelude.{option_map, position}
use Rattle.std.specs.List.{AllByRecursion}
use Rattle.std.proofs.lemmas.List.Quantifiers.{position-Some}
use Rattle.logic_meaning.specs.Context.{Context, Fields, Integers}
use Rattle.logic_meaning.specs.Formula.{Equiv}
use Rattle.logic_meaning.specs.declared.junction.Junction.TheVariants.{Conjunction, Disjunction}
use Rattle.logic_meaning.specs.Every.{Every}
use Rattle.language_meaning.specs.declared.tree.Literal.{Literal}
use Rattle.language_meaning.specs.declared.tree.Relation.{Relation}
use Rattle.language_meaning.specs.declared.tree.Relation.TheVariants as relation
use Rattle.language_meaning.specs.Trees as language
use Rattle.language_meaning.specs.Trees.{TermTree, FormulaTree, Negative, terms_of}
use Rattle.language_meaning.specs.Value.{same_name}
use Rattle.language_meaning.specs.Resolving.{variables_of, formula_variables}
use Rattle.smt_language.specs.declared.names.SortedName.{SortedName}
use Rattle.smt_language.specs.declared.expression.Operator.{Operator}
use Rattle.smt_language.specs.declared.expression.Operator.TheVariants as operator
use Rattle.smt_language.specs.Trees.{ExpressionTree, ExpressionTrees, LocalTrees, True, False, Numeral, Decimal, Named, Apply, Divisible, Quantified, Let, none, also, no_local, also_local}
use Rattle.smt_language.specs.Levels.{closed}
use Rattle.smt_meaning.specs.LevelsBelow.{IsLevelBelow, AreLevelsBelow}
use Rattle.smt_language.specs.Shapes.{comparison, chained, neighbours, pairs, divides}
use Rattle.smt_language.specs.Operators.{Meaning, Term, Formula, Members, Terms, Formulas, as_terms, as_formulas, of_one_kind, of_terms, of_formulas, of_members}
use Rattle.smt_language.specs.Meaning.{Scope, with_symbol, variable, declared_scope, opened, are_numbers, as_formula, as_term, decimal, divisible, and_then, meaning, meanings, local_scope}
use Rattle.smt_meaning.specs.Proper.{IsPositive, IsProper, AreProper, AreProperLocals}
use Rattle.smt_meaning.specs.Atoms.{IsOfTheory, IsFormulaBelow, IsBelow}
use Rattle.smt_language.specs.QuantifiedNames.{quantified_names, all_quantified_names, local_quantified_names}
use Rattle.smt_meaning.specs.Laws.{LevelsSuffice}
use Rattle.smt_meaning.proofs.Levels.{all_append, all_weaker, joined_below, neighbours_below, pairs_below, implications_below, closed_below, terms_below, negatives_below, meaning_more}

pub some_same : {X : Type 0} {a b : X} → Some a ≡ Some b → a ≡ b
some_same e = cc

-- what was calculated of a value that was there
pub then_there : {A B : Type 0} (o : Option A) (f : A → Option B) (b : B) → (and_then o f) ≡ Some b → (a : A) × (o ≡ Some a) × (f a ≡ Some b)
then_there (Some a) f b e = (a, refl, e)
then_there None f b e = absurd (cc)

pub map_there : {A B : Type 0} (o : Option A) (f : A → B) (b : B) → option_map f o ≡ Some b → (a : A) × (o ≡ Some a) × (f a ≡ b)
map_there (Some a) f b e = (a, refl, some_same e)
map_there None f b e = absurd (cc)

pub as_formula_there : (o : Option Meaning) (f : FormulaTree) → as_formula o ≡ Some f → o ≡ Some (Formula f)
as_formula_there (Some (Formula g)) f e = ap (λ h. Some (Formula h)) (some_same e)
as_formula_there (Some (Term t)) f e = absurd (cc)
as_formula_there None f e = absurd (cc)

pub as_term_there : (o : Option Meaning) (t : TermTree) → as_term o ≡ Some t → o ≡ Some (Term t)
as_term_there (Some (Term u)) t e = ap (λ h. Some (Term h)) (some_same e)
as_term_there (Some (Formula g)) t e = absurd (cc)
as_term_there None t e = absurd (cc)

-- ---- operators

-- the members are below
abbrev MembersBelow : Context → ℕ → Members → Type 0
MembersBelow c count (Terms ts) = AllByRecursion (λ t. AreLevelsBelow count (variables_of t)) ts
MembersBelow c count (Formulas fs) = AllByRecursion (IsFormulaBelow c count) fs

module _ (c : Context) (count : ℕ) where
  as_terms_below : (ms : List Meaning) (ts : List TermTree) → AllByRecursion (IsBelow c count) ms → as_terms ms ≡ Some ts → AllByRecursion (λ t. AreLevelsBelow count (variables_of t)) ts
  as_terms_below [] ts h e = subst (AllByRecursion (λ t. AreLevelsBelow count (variables_of t))) (some_same e) tt
  as_terms_below (Term t ∷ ms) ts h e =
      let r = map_there (as_terms ms) (λ us. t ∷ us) ts e in
      subst (AllByRecursion (λ u. AreLevelsBelow count (variables_of u))) r.2 (h.0, as_terms_below ms r.0 h.1 r.1)
  as_terms_below (Formula f ∷ ms) ts h e = absurd (cc)

  as_formulas_below : (ms : List Meaning) (fs : List FormulaTree) → AllByRecursion (IsBelow c count) ms → as_formulas ms ≡ Some fs → AllByRecursion (IsFormulaBelow c count) fs
  as_formulas_below [] fs h e = subst (AllByRecursion (IsFormulaBelow c count)) (some_same e) tt
  as_formulas_below (Formula f ∷ ms) fs h e =
      let r = map_there (as_formulas ms) (λ us. f ∷ us) fs e in
      subst (AllByRecursion (IsFormulaBelow c count)) r.2 (h.0, as_formulas_below ms r.0 h.1 r.1)
  as_formulas_below (Term t ∷ ms) fs h e = absurd (cc)

  kind_below : (ms : List Meaning) (k : Members) → AllByRecursion (IsBelow c count) ms → of_one_kind ms ≡ Some k → MembersBelow c count k
  kind_below [] k h e = absurd (cc)
  kind_below (Term t ∷ ms) k h e =
      let r = map_there (as_terms ms) (λ us. Terms (t ∷ us)) k e in subst (MembersBelow c count) r.2 (h.0, as_terms_below ms r.0 h.1 r.1)
  kind_below (Formula f ∷ ms) k h e =
      let r = map_there (as_formulas ms) (λ us. Formulas (f ∷ us)) k e in subst (MembersBelow c count) r.2 (h.0, as_formulas_below ms r.0 h.1 r.1)

  compared_below : (rel : Relation) (s t : TermTree) → AreLevelsBelow count (variables_of s) → AreLevelsBelow count (variables_of t) → IsFormulaBelow c count (comparison rel s t)
  compared_below rel s t h k = record { atoms = tt; names = all_append (IsLevelBelow count) (variables_of s) (variables_of t) h k }

  equivalent_below : (f g : FormulaTree) → IsFormulaBelow c count f → IsFormulaBelow c count g → IsFormulaBelow c count (Equiv f g)
  equivalent_below f g h k = record { atoms = (h.atoms, k.atoms); names = all_append (IsLevelBelow count) (formula_variables f) (formula_variables g) h.names k.names }

  chain_below : (rel : Relation) (ts : List TermTree) → AllByRecursion (λ t. AreLevelsBelow count (variables_of t)) ts → IsBelow c count (Formula (chained (comparison rel) ts))
  chain_below rel ts h = joined_below c count Conjunction (neighbours (comparison rel) ts) (neighbours_below c count (λ t. AreLevelsBelow count (variables_of t)) (comparison rel) (compared_below rel) ts h)

  of_terms_below : (o : Operator) (ts : List TermTree) (m : Meaning) → AllByRecursion (λ t. AreLevelsBelow count (variables_of t)) ts → of_terms c o ts ≡ Some m → IsBelow c count m
  of_terms_below o ts m h e = go c o ts h e
    where
      Below : Meaning → Type 0
      Below = IsBelow c count

      is : {k : Meaning} → Some k ≡ Some m → IsBelow c count k → IsBelow c count m
      is i b = subst (IsBelow c count) (some_same i) b

      go : (d : Context) (o : Operator) (ts : List TermTree) → AllByRecursion (λ t. AreLevelsBelow count (variables_of t)) ts → of_terms d o ts ≡ Some m → IsBelow c count m
      go d operator.Minus (t ∷ []) h e = is e h.0
      go d operator.Minus (t ∷ u ∷ ts) h e = is e (terms_below count (t ∷ map Negative (u ∷ ts)) (h.0, negatives_below count (u ∷ ts) h.1))
      go d operator.Plus (t ∷ u ∷ ts) h e = is e (terms_below count (t ∷ u ∷ ts) h)
      go d operator.Times (t ∷ u ∷ ts) h e = is e (terms_below count (t ∷ u ∷ ts) h)
      go Fields operator.Divided (t ∷ u ∷ []) h e = is e (all_append (IsLevelBelow count) (variables_of t) (variables_of u) h.0 h.1.0)
      go d operator.Equal (t ∷ u ∷ ts) h e = is e (chain_below relation.Equal (t ∷ u ∷ ts) h)
      go d operator.Less (t ∷ u ∷ ts) h e = is e (chain_below relation.Less (t ∷ u ∷ ts) h)
      go d operator.AtMost (t ∷ u ∷ ts) h e = is e (chain_below relation.AtMost (t ∷ u ∷ ts) h)
      go d operator.Greater (t ∷ u ∷ ts) h e = is e (chain_below relation.Greater (t ∷ u ∷ ts) h)
      go d operator.AtLeast (t ∷ u ∷ ts) h e = is e (chain_below relation.AtLeast (t ∷ u ∷ ts) h)
      go d operator.Distinct (t ∷ u ∷ ts) h e = is e (joined_below c count Conjunction (pairs (comparison relation.Differs) (t ∷ u ∷ ts)) (pairs_below c count (λ t. AreLevelsBelow count (variables_of t)) (comparison relation.Differs) (compared_below relation.Differs) (t ∷ u ∷ ts) h))
      go d o ts h e = absurd (cc)

  of_formulas_below : (o : Operator) (fs : List FormulaTree) (m : Meaning) → AllByRecursion (IsFormulaBelow c count) fs → of_formulas o fs ≡ Some m → IsBelow c count m
  of_formulas_below o fs m h e = go o fs h e
    where
      is : {k : Meaning} → Some k ≡ Some m → IsBelow c count k → IsBelow c count m
      is i b = subst (IsBelow c count) (some_same i) b

      go : (o : Operator) (fs : List FormulaTree) → AllByRecursion (IsFormulaBelow c count) fs → of_formulas o fs ≡ Some m → IsBelow c count m
      go operator.Not (f ∷ []) h e = is e (record { atoms = h.0.atoms; names = h.0.names })
      go operator.And (f ∷ fs) h e = is e (joined_below c count Conjunction (f ∷ fs) h)
      go operator.Or (f ∷ fs) h e = is e (joined_below c count Disjunction (f ∷ fs) h)
      go operator.Implies (f ∷ g ∷ fs) h e = is e (implications_below c count f (g ∷ fs) h.0 h.1)
      go operator.Equal (f ∷ g ∷ fs) h e = is e (joined_below c count Conjunction (neighbours Equiv (f ∷ g ∷ fs)) (neighbours_below c count (IsFormulaBelow c count) Equiv equivalent_below (f ∷ g ∷ fs) h))
      go o fs h e = absurd (cc)

  members_below : (o : Operator) (k : Members) (m : Meaning) → MembersBelow c count k → of_members c o k ≡ Some m → IsBelow c count m
  members_below o (Terms ts) m h e = of_terms_below o ts m h e
  members_below o (Formulas fs) m h e = of_formulas_below o fs m h e

  divided_below : (d : Context) (k : Literal) (t : TermTree) (m : Meaning) → d ≡ c → IsPositive k → AreLevelsBelow count (variables_of t) → divisible d k t ≡ Some m → IsBelow c count m
  divided_below Fields k t m i p h e = absurd (cc)
  divided_below Integers k t m i p h e =
      subst (IsBelow c count) (some_same e)
      (record { atoms = subst (λ b. Every (IsOfTheory b) (divides k t)) i p; names = all_append (IsLevelBelow count) (variables_of t) [] h tt })

-- ---- expressions

-- what each symbol stands for is below
abbrev pub IsScopeBelow : Context → ℕ → Scope → Type 0
IsScopeBelow c count scope = (x : List ℕ) (m : Meaning) → scope x ≡ Some m → IsBelow c count m

module _ (c : Context) where
  pub with_below : (count : ℕ) (x : List ℕ) (m : Meaning) (scope : Scope) → IsBelow c count m → IsScopeBelow c count scope → IsScopeBelow c count (with_symbol x m scope)
  with_below count x m scope h s y k e = go (same_name x y) e
    where
      go : (b : Bool) → (if b then Some m else scope y) ≡ Some k → IsBelow c count k
      go true i = subst (IsBelow c count) (some_same i) h
      go false i = s y k i

  pub opened_below : (count n : ℕ) (xs : List SortedName) (scope : Scope) → n + length xs ≤ count → IsScopeBelow c count scope → IsScopeBelow c count (opened n xs scope)
  opened_below count n [] scope l s = s
  opened_below count n (x ∷ xs) scope l s = opened_below count (suc n) xs (with_symbol x.name (variable n) scope) (omega arith) (with_below count x.name (variable n) scope ((n, omega arith, refl), tt) s)

  scope_more : (m n : ℕ) (scope : Scope) → m ≤ n → IsScopeBelow c m scope → IsScopeBelow c n scope
  scope_more m n scope l s x k e = meaning_more c m n l k (s x k e)

  mutual
    pub meaning_below : (count : ℕ) (scope : Scope) (n : ℕ) (e : ExpressionTree) (m : Meaning) → n ≤ count → IsScopeBelow c count scope → IsProper e → meaning c scope n e ≡ Some m → IsBelow c (count + quantified_names e) m
    meaning_below count scope n True m l s p e = subst (IsBelow c (count + 0)) (some_same e) (record { atoms = tt; names = tt })
    meaning_below count scope n False m l s p e = subst (IsBelow c (count + 0)) (some_same e) (record { atoms = tt; names = tt })
    meaning_below count scope n (Numeral k) m l s p e = subst (IsBelow c (count + 0)) (some_same e) tt
    meaning_below count scope n (Decimal k power) m l s p e = decimal_below c e
      where
        decimal_below : (d : Context) → decimal d (language.Number k) (language.Number power) ≡ Some m → IsBelow c (count + 0) m
        decimal_below Fields i = subst (IsBelow c (count + 0)) (some_same i) tt
        decimal_below Integers i = absurd (cc)
    meaning_below count scope n (Named x) m l s p e = meaning_more c count (count + 0) (omega arith) m (s x m e)
    meaning_below count scope n (Apply o es) m l s p e =
        let a = then_there (and_then (meanings c scope n es) of_one_kind) (of_members c o) m e in
        let b = then_there (meanings c scope n es) of_one_kind a.0 a.1 in
        members_below c (count + all_quantified_names es) o a.0 m (kind_below c (count + all_quantified_names es) b.0 a.0 (meanings_below count scope n es b.0 l s p b.1) b.2) a.2
    meaning_below count scope n (Divisible k x) m l s p e =
        let a = then_there (as_term (meaning c scope n x)) (divisible c k) m e in
        divided_below c (count + quantified_names x) c k a.0 m refl p.0 (meaning_below count scope n x (Term a.0) l s p.1 (as_term_there (meaning c scope n x) a.0 a.1)) a.2
    meaning_below count scope n (Quantified q xs x) m l s p e =
        let more : IsScopeBelow c (count + length xs) (opened n xs scope) = opened_below (count + length xs) n xs scope (omega arith) (scope_more count (count + length xs) scope (omega arith) s) in
        go (are_numbers c xs) e (λ f i. meaning_below (count + length xs) (opened n xs scope) (n + length xs) x (Formula f) (omega arith) more p i)
      where
        go : (b : Bool) → (if b then option_map (λ f. Formula (closed q n xs f)) (as_formula (meaning c (opened n xs scope) (n + length xs) x)) else None) ≡ Some m
            → ((f : FormulaTree) → meaning c (opened n xs scope) (n + length xs) x ≡ Some (Formula f) → IsBelow c (count + length xs + quantified_names x) (Formula f)) → IsBelow c (count + (length xs + quantified_names x)) m
        go false i h = absurd (cc)
        go true i h =
            let a = map_there (as_formula (meaning c (opened n xs scope) (n + length xs) x)) (λ f. Formula (closed q n xs f)) m i in
            let r : IsBelow c (count + length xs + quantified_names x) (Formula a.0) = h a.0 (as_formula_there (meaning c (opened n xs scope) (n + length xs) x) a.0 a.1) in
            subst (IsBelow c (count + (length xs + quantified_names x))) a.2 (closed_below c (count + (length xs + quantified_names x)) q n xs a.0 (omega arith) (meaning_more c (count + length xs + quantified_names x) (count + (length xs + quantified_names x)) (omega arith) (Formula a.0) r))
    meaning_below count scope n (Let ls x) m l s p e =
        let a = then_there (local_scope c scope n ls scope) (λ inner. meaning c inner n x) m e in
        let r = meaning_below (count + local_quantified_names ls) a.0 n x m (omega arith) (locals_below count count scope n ls scope a.0 l (omega arith) s s p.0 a.1) p.1 a.2 in
        meaning_more c (count + local_quantified_names ls + quantified_names x) (count + (local_quantified_names ls + quantified_names x)) (omega arith) m r

    pub meanings_below : (count : ℕ) (scope : Scope) (n : ℕ) (es : ExpressionTrees) (ms : List Meaning) → n ≤ count → IsScopeBelow c count scope → AreProper es → meanings c scope n es ≡ Some ms → AllByRecursion (IsBelow c (count + all_quantified_names es)) ms
    meanings_below count scope n none ms l s p e = subst (AllByRecursion (IsBelow c (count + 0))) (some_same e) tt
    meanings_below count scope n (also x es) ms l s p e =
        let a = then_there (meaning c scope n x) (λ m. option_map (λ ks. m ∷ ks) (meanings c scope n es)) ms e in
        let b = map_there (meanings c scope n es) (λ ks. a.0 ∷ ks) ms a.2 in
        let total : ℕ = count + (quantified_names x + all_quantified_names es) in
        subst (AllByRecursion (IsBelow c (count + (quantified_names x + all_quantified_names es)))) b.2 (
          meaning_more c (count + quantified_names x) (count + (quantified_names x + all_quantified_names es)) (omega arith) a.0 (meaning_below count scope n x a.0 l s p.0 a.1),
          all_weaker (IsBelow c (count + all_quantified_names es)) (IsBelow c (count + (quantified_names x + all_quantified_names es))) (meaning_more c (count + all_quantified_names es) (count + (quantified_names x + all_quantified_names es)) (omega arith)) b.0 (meanings_below count scope n es b.0 l s p.1 b.1),
        )

    pub locals_below : (count more : ℕ) (scope : Scope) (n : ℕ) (ls : LocalTrees) (inner out : Scope) → n ≤ count → count ≤ more → IsScopeBelow c count scope → IsScopeBelow c more inner → AreProperLocals ls → local_scope c scope n ls inner ≡ Some out
        → IsScopeBelow c (more + local_quantified_names ls) out
    locals_below count more scope n no_local inner out l k s i p e = subst (IsScopeBelow c (more + 0)) (some_same e) (scope_more more (more + 0) inner (omega arith) i)
    locals_below count more scope n (also_local x v ls) inner out l k s i p e =
        let a = then_there (meaning c scope n v) (λ m. local_scope c scope n ls (with_symbol x m inner)) out e in
        let m : IsBelow c (more + quantified_names v) a.0 = meaning_more c (count + quantified_names v) (more + quantified_names v) (omega arith) a.0 (meaning_below count scope n v a.0 l s p.0 a.1) in
        let next = with_below (more + quantified_names v) x a.0 inner m (scope_more more (more + quantified_names v) inner (omega arith) i) in
        scope_more (more + quantified_names v + local_quantified_names ls) (more + (quantified_names v + local_quantified_names ls)) out (omega arith)
        (locals_below count (more + quantified_names v) scope n ls (with_symbol x a.0 inner) out l (omega arith) s next p.1 a.2)

-- what stands in a list stands before its end
found_below : (names : List (List ℕ)) (x : List ℕ) (n : ℕ) → position (same_name x) names ≡ Some n → n < length names
found_below names x n e = (position-Some (same_name x) names n [] e).0

pub declared_below : (c : Context) (names : List (List ℕ)) → IsScopeBelow c (length names) (declared_scope names)
declared_below c names x m e =
    let a = map_there (position (same_name x) names) variable m e in
    subst (IsBelow c (length names)) a.2 ((a.0, found_below names x a.0 a.1, refl), tt)

pub levels_suffice : LevelsSuffice
levels_suffice c declared e m p i = meaning_below c (length declared) (declared_scope declared) (length declared) e m (omega arith) (declared_below c declared) p i
