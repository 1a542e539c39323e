-- No name of an expression's meaning is captured: what is free in it has a level below the place where it stands.
use Rattle.std.proofs.Common.{◌≡◌, ◌⊎◌, inl, inr, ⊎_elim, ◌≤◌, ◌<◌, ◌+◌, ℕ, zero, suc, Bool, true, false, List, [], ◌∷◌, length, map, Some, None, refl, ap, sym, ◌∙◌, subst, arith, if◌then◌else◌}
use Rattle.std.specs.Prelude.{option_map}
use Rattle.std.specs.List.{AllByRecursion}
use Rattle.logic_meaning.specs.Context.{Context, Fields, Integers}
use Rattle.logic_meaning.specs.Every.{FreeInSome}
use Rattle.logic_meaning.specs.Formula.{Equiv}
use Rattle.logic_meaning.specs.declared.junction.Junction.{Junction}
use Rattle.logic_meaning.specs.declared.junction.Junction.TheVariants.{Conjunction, Disjunction}
use Rattle.logic_meaning.specs.declared.quantifier.Quantifier.{Quantifier}
use Rattle.logic_meaning.specs.declared.quantifier.Quantifier.TheVariants.{Exists, ForAll}
use Rattle.language_meaning.specs.declared.tree.Literal.{Literal}
use Rattle.language_meaning.specs.declared.tree.Relation.{Relation}
use Rattle.language_meaning.specs.declared.tree.Relation.TheVariants as relation
use Rattle.language_meaning.specs.Trees as language
use Rattle.language_meaning.specs.Trees.{TermTree, FormulaTree, Negative, terms_of, formulas_of}
use Rattle.written_syntax.specs.FreeNames.{IsFree}
use Rattle.language_meaning.specs.Value.{same_name, HasName, HaveName, Mentions}
use Rattle.smt_language.specs.declared.names.SortedName.{SortedName}
use Rattle.smt_language.specs.declared.expression.Operator.{Operator}
use Rattle.smt_language.specs.declared.expression.Operator.TheVariants as operator
use Rattle.smt_language.specs.Trees.{ExpressionTree, ExpressionTrees, LocalTrees, True, False, Numeral, Decimal, Named, Apply, Divisible, Quantified, Let, none, also, no_local, also_local}
use Rattle.smt_language.specs.Levels.{level, closed}
use Rattle.smt_meaning.specs.LevelsBelow.{IsLevelBelow}
use Rattle.smt_language.specs.Shapes.{comparison, chained, joined_of, neighbours, pairs, implications}
use Rattle.smt_language.specs.Operators.{Meaning, Term, Formula, Members, Terms, Formulas, as_terms, as_formulas, of_one_kind, of_terms, of_formulas, of_members}
use Rattle.smt_language.specs.Meaning.{Scope, with_symbol, variable, opened, are_numbers, as_formula, as_term, decimal, divisible, and_then, meaning, meanings, local_scope}
use Rattle.smt_meaning.specs.Atoms.{IsClosedBelow}
use Rattle.smt_meaning.specs.Laws.{NothingIsCaptured}
use Rattle.smt_meaning.proofs.Levels.{all_append}
use Rattle.smt_meaning.proofs.MeaningNames.{some_same, then_there, map_there, as_formula_there, as_term_there}

-- ---- names below a level

-- each name of the term is that of a level below
abbrev TermClosed : ℕ → TermTree → Type 0
TermClosed count t = (x : List ℕ) → HasName t x → IsLevelBelow count x

-- each free name of the formula is that of a level below
abbrev FormulaClosed : ℕ → FormulaTree → Type 0
FormulaClosed count f = (x : List ℕ) → IsFree f x → IsLevelBelow count x

module _ (count : ℕ) where
  terms_closed : (ts : List TermTree) → AllByRecursion (TermClosed count) ts → (x : List ℕ) → HaveName (terms_of ts) x → IsLevelBelow count x
  terms_closed [] h x f = absurd f
  terms_closed (t ∷ ts) h x (inl f) = h.0 x f
  terms_closed (t ∷ ts) h x (inr f) = terms_closed ts h.1 x f

  negatives_closed : (ts : List TermTree) → AllByRecursion (TermClosed count) ts → AllByRecursion (TermClosed count) (map Negative ts)
  negatives_closed [] h = tt
  negatives_closed (t ∷ ts) h = (h.0, negatives_closed ts h.1)

  list_closed : (fs : List FormulaTree) → AllByRecursion (FormulaClosed count) fs → (x : List ℕ) → FreeInSome Mentions (formulas_of fs) x → IsLevelBelow count x
  list_closed [] h x f = absurd f
  list_closed (g ∷ gs) h x (inl f) = h.0 x f
  list_closed (g ∷ gs) h x (inr f) = list_closed gs h.1 x f

  joined_closed : (j : Junction) (fs : List FormulaTree) → AllByRecursion (FormulaClosed count) fs → FormulaClosed count (joined_of j fs)
  joined_closed Conjunction [] h = list_closed [] h
  joined_closed Disjunction [] h = list_closed [] h
  joined_closed j (f ∷ []) h = h.0
  joined_closed Conjunction (f ∷ g ∷ fs) h = list_closed (f ∷ g ∷ fs) h
  joined_closed Disjunction (f ∷ g ∷ fs) h = list_closed (f ∷ g ∷ fs) h

  module _ {X : Type 0} (P : X → Type 0) (R : X → X → FormulaTree) (related : (x y : X) → P x → P y → FormulaClosed count (R x y)) where
    neighbours_closed : (xs : List X) → AllByRecursion P xs → AllByRecursion (FormulaClosed count) (neighbours R xs)
    neighbours_closed [] h = tt
    neighbours_closed (x ∷ []) h = tt
    neighbours_closed (x ∷ y ∷ ys) h = (related x y h.0 h.1.0, neighbours_closed (y ∷ ys) h.1)

    all_related : (x : X) → P x → (xs : List X) → AllByRecursion P xs → AllByRecursion (FormulaClosed count) (map (R x) xs)
    all_related x p [] h = tt
    all_related x p (y ∷ ys) h = (related x y p h.0, all_related x p ys h.1)

    pairs_closed : (xs : List X) → AllByRecursion P xs → AllByRecursion (FormulaClosed count) (pairs R xs)
    pairs_closed [] h = tt
    pairs_closed (x ∷ xs) h = all_append (FormulaClosed count) (map (R x) xs) (pairs R xs) (all_related x h.0 xs h.1) (pairs_closed xs h.1)

  implications_closed : (f : FormulaTree) (fs : List FormulaTree) → FormulaClosed count f → AllByRecursion (FormulaClosed count) fs → FormulaClosed count (implications f fs)
  implications_closed f [] h k x i = h x i
  implications_closed f (g ∷ gs) h k x (inl i) = h x i
  implications_closed f (g ∷ gs) h k x (inr i) = implications_closed g gs k.0 k.1 x i

  compared_closed : (rel : Relation) (s t : TermTree) → TermClosed count s → TermClosed count t → FormulaClosed count (comparison rel s t)
  compared_closed rel s t h k x (inl i) = h x i
  compared_closed rel s t h k x (inr i) = k x i

  equivalent_closed : (f g : FormulaTree) → FormulaClosed count f → FormulaClosed count g → FormulaClosed count (Equiv f g)
  equivalent_closed f g h k x (inl i) = h x i
  equivalent_closed f g h k x (inr i) = k x i

more_below : (m n : ℕ) → m ≤ n → (x : List ℕ) → IsLevelBelow m x → IsLevelBelow n x
more_below m n l x h = let k : ℕ = h.0 in let b : k < m = h.1 in (k, omega arith, h.2)

-- a level below the next that is not this one is below this one
not_this : (n : ℕ) (x : List ℕ) → IsLevelBelow (suc n) x → ¬ (level n ≡ x) → IsLevelBelow n x
not_this n x h d =
    let k : ℕ = h.0 in let b : k < suc n = h.1 in
    elim (le_cases k n b) [ inl l ↦ (k, l, h.2) | inr e ↦ absurd (d (ap level e ∙ sym h.2)) ]
  where
    le_cases : (k n : ℕ) → k < suc n → (k < n) ⊎ (n ≡ k)
    le_cases zero zero l = inr refl
    le_cases zero (suc n) l = inl (omega arith)
    le_cases (suc k) zero l = absurd (omega arith)
    le_cases (suc k) (suc n) l = elim (le_cases k n (omega arith)) [ inl m ↦ inl (omega arith) | inr e ↦ inr (ap suc e) ]

-- the names of the levels from n on are bound
closed_closed : (q : Quantifier) (n : ℕ) (xs : List SortedName) (f : FormulaTree) → FormulaClosed (n + length xs) f → FormulaClosed n (closed q n xs f)
closed_closed q n [] f h x i = more_below (n + 0) n (omega arith) x (h x i)
closed_closed Exists n (y ∷ ys) f h x i = not_this n x (closed_closed Exists (suc n) ys f (λ z j. more_below (n + suc (length ys)) (suc n + length ys) (omega arith) z (h z j)) x i.1) i.0
closed_closed ForAll n (y ∷ ys) f h x i = not_this n x (closed_closed ForAll (suc n) ys f (λ z j. more_below (n + suc (length ys)) (suc n + length ys) (omega arith) z (h z j)) x i.1) i.0

-- ---- operators

abbrev MembersClosed : ℕ → Members → Type 0
MembersClosed count (Terms ts) = AllByRecursion (TermClosed count) ts
MembersClosed count (Formulas fs) = AllByRecursion (FormulaClosed count) fs

module _ (c : Context) (count : ℕ) where
  as_terms_closed : (ms : List Meaning) (ts : List TermTree) → AllByRecursion (IsClosedBelow count) ms → as_terms ms ≡ Some ts → AllByRecursion (TermClosed count) ts
  as_terms_closed [] ts h e = subst (AllByRecursion (TermClosed count)) (some_same e) tt
  as_terms_closed (Term t ∷ ms) ts h e = let r = map_there (as_terms ms) (λ us. t ∷ us) ts e in subst (AllByRecursion (TermClosed count)) r.2 (h.0, as_terms_closed ms r.0 h.1 r.1)
  as_terms_closed (Formula f ∷ ms) ts h e = absurd (cc)

  as_formulas_closed : (ms : List Meaning) (fs : List FormulaTree) → AllByRecursion (IsClosedBelow count) ms → as_formulas ms ≡ Some fs → AllByRecursion (FormulaClosed count) fs
  as_formulas_closed [] fs h e = subst (AllByRecursion (FormulaClosed count)) (some_same e) tt
  as_formulas_closed (Formula f ∷ ms) fs h e = let r = map_there (as_formulas ms) (λ us. f ∷ us) fs e in subst (AllByRecursion (FormulaClosed count)) r.2 (h.0, as_formulas_closed ms r.0 h.1 r.1)
  as_formulas_closed (Term t ∷ ms) fs h e = absurd (cc)

  kind_closed : (ms : List Meaning) (k : Members) → AllByRecursion (IsClosedBelow count) ms → of_one_kind ms ≡ Some k → MembersClosed count k
  kind_closed [] k h e = absurd (cc)
  kind_closed (Term t ∷ ms) k h e = let r = map_there (as_terms ms) (λ us. Terms (t ∷ us)) k e in subst (MembersClosed count) r.2 (h.0, as_terms_closed ms r.0 h.1 r.1)
  kind_closed (Formula f ∷ ms) k h e = let r = map_there (as_formulas ms) (λ us. Formulas (f ∷ us)) k e in subst (MembersClosed count) r.2 (h.0, as_formulas_closed ms r.0 h.1 r.1)

  of_terms_closed : (o : Operator) (ts : List TermTree) (m : Meaning) → AllByRecursion (TermClosed count) ts → of_terms c o ts ≡ Some m → IsClosedBelow count m
  of_terms_closed o ts m h e = go c o ts h e
    where
      is : {k : Meaning} → Some k ≡ Some m → IsClosedBelow count k → IsClosedBelow count m
      is i b = subst (IsClosedBelow count) (some_same i) b

      chain : (rel : Relation) (ts : List TermTree) → AllByRecursion (TermClosed count) ts → IsClosedBelow count (Formula (chained (comparison rel) ts))
      chain rel ts h = joined_closed count Conjunction (neighbours (comparison rel) ts) (neighbours_closed count (TermClosed count) (comparison rel) (compared_closed count rel) ts h)

      go : (d : Context) (o : Operator) (ts : List TermTree) → AllByRecursion (TermClosed count) ts → of_terms d o ts ≡ Some m → IsClosedBelow count m
      go d operator.Minus (t ∷ []) h e = is e h.0
      go d operator.Minus (t ∷ u ∷ ts) h e = is e (terms_closed count (t ∷ map Negative (u ∷ ts)) (h.0, negatives_closed count (u ∷ ts) h.1))
      go d operator.Plus (t ∷ u ∷ ts) h e = is e (terms_closed count (t ∷ u ∷ ts) h)
      go d operator.Times (t ∷ u ∷ ts) h e = is e (terms_closed count (t ∷ u ∷ ts) h)
      go Fields operator.Divided (t ∷ u ∷ []) h e = is e (λ x i. ⊎_elim (h.0 x) (h.1.0 x) i)
      go d operator.Equal (t ∷ u ∷ ts) h e = is e (chain relation.Equal (t ∷ u ∷ ts) h)
      go d operator.Less (t ∷ u ∷ ts) h e = is e (chain relation.Less (t ∷ u ∷ ts) h)
      go d operator.AtMost (t ∷ u ∷ ts) h e = is e (chain relation.AtMost (t ∷ u ∷ ts) h)
      go d operator.Greater (t ∷ u ∷ ts) h e = is e (chain relation.Greater (t ∷ u ∷ ts) h)
      go d operator.AtLeast (t ∷ u ∷ ts) h e = is e (chain relation.AtLeast (t ∷ u ∷ ts) h)
      go d operator.Distinct (t ∷ u ∷ ts) h e = is e (joined_closed count Conjunction (pairs (comparison relation.Differs) (t ∷ u ∷ ts)) (pairs_closed count (TermClosed count) (comparison relation.Differs) (compared_closed count relation.Differs) (t ∷ u ∷ ts) h))
      go d o ts h e = absurd (cc)

  of_formulas_closed : (o : Operator) (fs : List FormulaTree) (m : Meaning) → AllByRecursion (FormulaClosed count) fs → of_formulas o fs ≡ Some m → IsClosedBelow count m
  of_formulas_closed o fs m h e = go o fs h e
    where
      is : {k : Meaning} → Some k ≡ Some m → IsClosedBelow count k → IsClosedBelow count m
      is i b = subst (IsClosedBelow count) (some_same i) b

      go : (o : Operator) (fs : List FormulaTree) → AllByRecursion (FormulaClosed count) fs → of_formulas o fs ≡ Some m → IsClosedBelow count m
      go operator.Not (f ∷ []) h e = is e h.0
      go operator.And (f ∷ fs) h e = is e (joined_closed count Conjunction (f ∷ fs) h)
      go operator.Or (f ∷ fs) h e = is e (joined_closed count Disjunction (f ∷ fs) h)
      go operator.Implies (f ∷ g ∷ fs) h e = is e (implications_closed count f (g ∷ fs) h.0 h.1)
      go operator.Equal (f ∷ g ∷ fs) h e = is e (joined_closed count Conjunction (neighbours Equiv (f ∷ g ∷ fs)) (neighbours_closed count (FormulaClosed count) Equiv (equivalent_closed count) (f ∷ g ∷ fs) h))
      go o fs h e = absurd (cc)

  members_closed : (o : Operator) (k : Members) (m : Meaning) → MembersClosed count k → of_members c o k ≡ Some m → IsClosedBelow count m
  members_closed o (Terms ts) m h e = of_terms_closed o ts m h e
  members_closed o (Formulas fs) m h e = of_formulas_closed o fs m h e

  divided_closed : (d : Context) (k : Literal) (t : TermTree) (m : Meaning) → TermClosed count t → divisible d k t ≡ Some m → IsClosedBelow count m
  divided_closed Fields k t m h e = absurd (cc)
  divided_closed Integers k t m h e = subst (IsClosedBelow count) (some_same e) (λ x i. ⊎_elim (h x) (λ j. ⊎_elim (λ n. absurd n) (λ n. absurd n) j) i)

-- ---- expressions

abbrev IsScopeClosed : ℕ → Scope → Type 0
IsScopeClosed n scope = (x : List ℕ) (k : Meaning) → scope x ≡ Some k → IsClosedBelow n k

scope_closed_more : (m n : ℕ) → m ≤ n → (scope : Scope) → IsScopeClosed m scope → IsScopeClosed n scope
scope_closed_more m n l scope s x k e y i = more_below m n l y (s x k e y i)

with_closed : (n : ℕ) (x : List ℕ) (m : Meaning) (scope : Scope) → IsClosedBelow n m → IsScopeClosed n scope → IsScopeClosed n (with_symbol x m scope)
with_closed n x m scope h s y k e = go (same_name x y) e
  where
    go : (b : Bool) → (if b then Some m else scope y) ≡ Some k → IsClosedBelow n k
    go true i = subst (IsClosedBelow n) (some_same i) h
    go false i = s y k i

opened_closed : (count n : ℕ) (xs : List SortedName) (scope : Scope) → n + length xs ≤ count → IsScopeClosed count scope → IsScopeClosed count (opened n xs scope)
opened_closed count n [] scope l s = s
opened_closed count n (x ∷ xs) scope l s = opened_closed count (suc n) xs (with_symbol x.name (variable n) scope) (omega arith) (with_closed count x.name (variable n) scope (λ y e. (n, omega arith, sym e)) s)

module _ (c : Context) where
  mutual
    meaning_closed : (scope : Scope) (n : ℕ) (e : ExpressionTree) (m : Meaning) → IsScopeClosed n scope → meaning c scope n e ≡ Some m → IsClosedBelow n m
    meaning_closed scope n True m s e = subst (IsClosedBelow n) (some_same e) (λ x i. absurd i)
    meaning_closed scope n False m s e = subst (IsClosedBelow n) (some_same e) (λ x i. absurd i)
    meaning_closed scope n (Numeral k) m s e = subst (IsClosedBelow n) (some_same e) (λ x i. absurd i)
    meaning_closed scope n (Decimal k power) m s e = decimal_closed c e
      where
        decimal_closed : (d : Context) → decimal d (language.Number k) (language.Number power) ≡ Some m → IsClosedBelow n m
        decimal_closed Fields i = subst (IsClosedBelow n) (some_same i) (λ x j. ⊎_elim (λ k. absurd k) (λ k. absurd k) j)
        decimal_closed Integers i = absurd (cc)
    meaning_closed scope n (Named x) m s e = s x m e
    meaning_closed scope n (Apply o es) m s e =
        let a = then_there (and_then (meanings c scope n es) of_one_kind) (of_members c o) m e in
        let b = then_there (meanings c scope n es) of_one_kind a.0 a.1 in
        members_closed c n o a.0 m (kind_closed c n b.0 a.0 (meanings_closed scope n es b.0 s b.1) b.2) a.2
    meaning_closed scope n (Divisible k x) m s e =
        let a = then_there (as_term (meaning c scope n x)) (divisible c k) m e in
        divided_closed c n c k a.0 m (meaning_closed scope n x (Term a.0) s (as_term_there (meaning c scope n x) a.0 a.1)) a.2
    meaning_closed scope n (Quantified q xs x) m s e =
        let more : IsScopeClosed (n + length xs) (opened n xs scope) = opened_closed (n + length xs) n xs scope (omega arith) (scope_closed_more n (n + length xs) (omega arith) scope s) in
        go (are_numbers c xs) e (λ f i. meaning_closed (opened n xs scope) (n + length xs) x (Formula f) more i)
      where
        go : (b : Bool) → (if b then option_map (λ f. Formula (closed q n xs f)) (as_formula (meaning c (opened n xs scope) (n + length xs) x)) else None) ≡ Some m
            → ((f : FormulaTree) → meaning c (opened n xs scope) (n + length xs) x ≡ Some (Formula f) → FormulaClosed (n + length xs) f) → IsClosedBelow n m
        go false i h = absurd (cc)
        go true i h =
            let a = map_there (as_formula (meaning c (opened n xs scope) (n + length xs) x)) (λ f. Formula (closed q n xs f)) m i in
            subst (IsClosedBelow n) a.2 (closed_closed q n xs a.0 (h a.0 (as_formula_there (meaning c (opened n xs scope) (n + length xs) x) a.0 a.1)))
    meaning_closed scope n (Let ls x) m s e =
        let a = then_there (local_scope c scope n ls scope) (λ inner. meaning c inner n x) m e in
        meaning_closed a.0 n x m (locals_closed scope n ls scope a.0 s s a.1) a.2

    meanings_closed : (scope : Scope) (n : ℕ) (es : ExpressionTrees) (ms : List Meaning) → IsScopeClosed n scope → meanings c scope n es ≡ Some ms → AllByRecursion (IsClosedBelow n) ms
    meanings_closed scope n none ms s e = subst (AllByRecursion (IsClosedBelow n)) (some_same e) tt
    meanings_closed scope n (also x es) ms s e =
        let a = then_there (meaning c scope n x) (λ m. option_map (λ ks. m ∷ ks) (meanings c scope n es)) ms e in
        let b = map_there (meanings c scope n es) (λ ks. a.0 ∷ ks) ms a.2 in
        subst (AllByRecursion (IsClosedBelow n)) b.2 (meaning_closed scope n x a.0 s a.1, meanings_closed scope n es b.0 s b.1)

    locals_closed : (scope : Scope) (n : ℕ) (ls : LocalTrees) (inner out : Scope) → IsScopeClosed n scope → IsScopeClosed n inner → local_scope c scope n ls inner ≡ Some out → IsScopeClosed n out
    locals_closed scope n no_local inner out s i e = subst (IsScopeClosed n) (some_same e) i
    locals_closed scope n (also_local x v ls) inner out s i e =
        let a = then_there (meaning c scope n v) (λ m. local_scope c scope n ls (with_symbol x m inner)) out e in
        locals_closed scope n ls (with_symbol x a.0 inner) out s (with_closed n x a.0 inner (meaning_closed scope n v a.0 s a.1) i) a.2

pub nothing_is_captured : NothingIsCaptured
nothing_is_captured c scope n e m s i = meaning_closed c scope n e m s i
