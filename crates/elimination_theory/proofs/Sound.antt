-- The branches of each formula, by one recursion over it.
use Rattle.std.proofs.Common.{ℕ, Bool, true, false, List, [], ◌∷◌, nat_eq, if◌then◌else◌}
use Rattle.logic_meaning.specs.Context.{Context}
use Rattle.logic_meaning.specs.Formula.{Yes, No, One, Not, And, Or, Impl, Repl, Equiv, Ex, All, none, also}
use Rattle.logic_meaning.specs.Every.{Every, EveryOf, FreeInSome}
use Rattle.logic_meaning.specs.Atom.{Atom, Says, Mentions}
use Rattle.logic_meaning.specs.Point.{move}
use Rattle.logic_meaning.specs.Sizes.{nodes}
use Rattle.logic_meaning.specs.Shape.{matrix_of, block_of, is_in}
use Rattle.logic_meaning.specs.Plain.{IsNegationNormal, AreNegationNormal}
use Rattle.logic_meaning.specs.declared.quantifier.Quantifier.TheVariants.{Exists}
use Rattle.logic_meaning.specs.Fold.{joined, fold_list}
use Rattle.logic_meaning.specs.declared.junction.Junction.{Junction}
use Rattle.logic_meaning.specs.declared.junction.Junction.TheVariants.{Conjunction, Disjunction}
use Rattle.logic_meaning.specs.NegationNormal.{normal_form_of_not, normal_forms_of_not}
use Rattle.logic_meaning.specs.Tree.{Tree, Trees, IsFree}
use Rattle.formula_laws.proofs.EachAtom.{every_map}
use Rattle.formula_laws.proofs.Equivalence.{equivalent_then}
use Rattle.formula_laws.proofs.Fold.{free_of_members, fold_list_has, fold_list_true}
use Rattle.formula_laws.proofs.NormalShape.{normal_form_shape, normal_form_every}
use Rattle.elimination_theory.specs.Decided.{IsEliminated, AreEliminated}
use Rattle.elimination_theory.proofs.Becoming.{becomes_itself, becomes_and, becomes_or}
use Rattle.logic_meaning.specs.NormalForm.{IsNormal, negated_normal}
use Rattle.normal_atoms.proofs.NormalLaws.{negated_normal_is}
use Rattle.logic_meaning.specs.Measured.{Counted, ◌>>=◌, give, pay}
use Rattle.logic_meaning.specs.Reference.{Branch, alone, together, normal_tree, turned, steps, closed, branches, members, leading_branches}
use Rattle.elimination_theory.specs.Theorems.{IsTidy, IsAnswerTo, ReferenceIsExact}
use Rattle.elimination_theory.proofs.Tidy.{AreTidy, tidy_in, tidy_fold_list}
use Rattle.elimination_theory.proofs.Always.{Always, always_then, always_give, always_pay, gives_then}
use Rattle.elimination_theory.proofs.Turning.{turn_forth, turn_back, from_normal}
use Rattle.elimination_theory.proofs.Branches.{AreBranches, alone_are, together_is, steps_are, closed_are}

module _ (c : Context) where
  -- ---- lists joined

  AreAnswers : Trees → Trees → Type 0
  AreAnswers none none = Unit {0}
  AreAnswers (also f fs) (also g gs) = IsAnswerTo c f g × AreAnswers fs gs
  AreAnswers none (also g gs) = ⊥
  AreAnswers (also f fs) none = ⊥

  are_eliminated : (fs gs : Trees) → AreAnswers fs gs → AreEliminated c fs gs
  unfolding AreAnswers
  are_eliminated none none a = tt
  are_eliminated (also f fs) (also g gs) a = (a.0.eliminated, are_eliminated fs gs a.1)
  are_eliminated none (also g gs) a = absurd a
  are_eliminated (also f fs) none a = absurd a

  are_tidy : (fs gs : Trees) → AreAnswers fs gs → AreTidy c gs
  unfolding AreAnswers
  are_tidy none none a = tt
  are_tidy (also f fs) (also g gs) a = (a.0.tidy, are_tidy fs gs a.1)
  are_tidy none (also g gs) a = absurd a
  are_tidy (also f fs) none a = absurd a

  eliminated_fold : (f : Tree) (j : Junction) (gs : Trees) → AreTidy c gs → IsEliminated c f (joined j gs) → IsEliminated c f (fold_list j gs)
  eliminated_fold f j gs h e =
      let tidy = tidy_fold_list c j gs h in
      record {
        is_plain = tidy.is_plain;
        in_context = tidy_in c _ tidy;
        equivalent = equivalent_then c f (joined j gs) (fold_list j gs) e.equivalent (λ p o. fold_list_true Says (move nat_eq) c j gs p);
        names = λ y.
            let free = free_of_members {A = Atom} {N = ℕ} Mentions y (IsFree f y) in
            fold_list_has (λ g. IsFree g y → IsFree f y) (λ ts. FreeInSome Mentions ts y → IsFree f y) free j gs (free.split j gs (e.names y));
      }

  answer_fold : (j : Junction) (fs gs : Trees) → AreAnswers fs gs → IsAnswerTo c (joined j fs) (fold_list j gs)
  answer_fold j fs gs a = record { eliminated = eliminated_fold (joined j fs) j gs (are_tidy fs gs a) (go j); tidy = tidy_fold_list c j gs (are_tidy fs gs a) }
    where
      go : (k : Junction) → IsEliminated c (joined k fs) (joined k gs)
      go Conjunction = becomes_and c fs gs (are_eliminated fs gs a)
      go Disjunction = becomes_or c fs gs (are_eliminated fs gs a)

  answer_itself : (f : Tree) → IsTidy c f → IsAnswerTo c f f
  answer_itself f tidy = record { eliminated = becomes_itself c f tidy.is_plain (tidy_in c f tidy); tidy = tidy }

  yes_is : IsAnswerTo c Yes Yes
  yes_is = answer_itself Yes (record { is_plain = tt; normal = tt; two_members = tt })

  no_is : IsAnswerTo c No No
  no_is = answer_itself No (record { is_plain = tt; normal = tt; two_members = tt })

  module _ (limit : ℕ) where
    -- ex(x, f) goes on the chain of its names, or ends it
    chained : (x : ℕ) (names : List ℕ) (f matrix : Tree) (block : List ℕ) (ended going : Counted (List Branch)) (test : Bool) →
        Always (AreBranches c f matrix block) ended → Always (AreBranches c f (matrix_of nat_eq f Exists (x ∷ names)) (block_of nat_eq f Exists (x ∷ names))) going →
        Always (AreBranches c (Ex x f) (if test then Ex x f else matrix_of nat_eq f Exists (x ∷ names)) (if test then [] else x ∷ block_of nat_eq f Exists (x ∷ names)))
        (if test then closed c limit true x ended else (going >>= steps c limit x))
    chained x names f matrix block ended going true h k = closed_are c limit x true f matrix (Ex x f) block ended h (λ g a. a)
    chained x names f matrix block ended going false h k =
        always_then (AreBranches c f (matrix_of nat_eq f Exists (x ∷ names)) (block_of nat_eq f Exists (x ∷ names))) (AreBranches c (Ex x f) (matrix_of nat_eq f Exists (x ∷ names)) (x ∷ block_of nat_eq f Exists (x ∷ names))) going _ k
        (λ bs i. steps_are c limit x f (matrix_of nat_eq f Exists (x ∷ names)) (block_of nat_eq f Exists (x ∷ names)) bs i)

    -- the members, or their negations
    turned_all : Bool → Trees → Trees
    turned_all true fs = fs
    turned_all false fs = normal_forms_of_not negated_normal fs

    -- what is said of the branches of a formula
    abbrev pub Good : List ℕ → Bool → Tree → List Branch → Type 0
    Good names sign f bs = AreBranches c (turned sign f) (matrix_of nat_eq (turned sign f) Exists names) (block_of nat_eq (turned sign f) Exists names) bs

    folded_are : (j : Junction) (fs : Trees) (m : Counted Trees) → Always (AreAnswers fs) m → Always (λ bs. AreBranches c (joined j fs) (joined j fs) [] bs) (m >>= λ gs. give (alone (fold_list j gs)))
    folded_are j fs m h =
        always_then (AreAnswers fs) (AreBranches c (joined j fs) (joined j fs) []) m _ h (λ gs a. always_give (AreBranches c (joined j fs) (joined j fs) []) (alone (fold_list j gs)) (alone_are c (joined j fs) (fold_list j gs) (answer_fold j fs gs a)))

    next_members : (f : Tree) (fs : Trees) (matrix : Tree) (names : List ℕ) (here : Counted (List Branch)) (rest : Counted Trees) → Always (AreBranches c f matrix names) here → Always (AreAnswers fs) rest →
        Always (AreAnswers (also f fs)) (here >>= λ bs. rest >>= λ gs. give (also (together bs) gs))
    unfolding AreAnswers
    next_members f fs matrix names here rest h k =
        always_then (AreBranches c f matrix names) (AreAnswers (also f fs)) here _ h (λ bs i.
        always_then (AreAnswers fs) (AreAnswers (also f fs)) rest _ k (λ gs a.
        always_give (AreAnswers (also f fs)) (also (together bs) gs) (together_is c f matrix names bs i, a)))

    mutual
      unfolding AreAnswers turned_all

      pub branches_are : (names : List ℕ) (sign : Bool) (f : Tree) → IsNegationNormal f → Every (IsNormal c) f → Always (Good names sign f) (branches c limit names sign f)
      branches_are names true Yes n h = always_give (Good names true Yes) (alone Yes) (alone_are c Yes Yes yes_is)
      branches_are names false Yes n h = always_give (Good names false Yes) (alone No) (alone_are c No No no_is)
      branches_are names true No n h = always_give (Good names true No) (alone No) (alone_are c No No no_is)
      branches_are names false No n h = always_give (Good names false No) (alone Yes) (alone_are c Yes Yes yes_is)
      branches_are names true (One a) n h = always_give (Good names true (One a)) (alone (One a)) (alone_are c (One a) (One a) (answer_itself (One a) (record { is_plain = tt; normal = h; two_members = tt })))
      branches_are names false (One a) n h =
          let b = One (negated_normal a) in
          always_give (Good names false (One a)) (alone b) (alone_are c b b (answer_itself b (record { is_plain = tt; normal = negated_normal_is c a h; two_members = tt })))
      branches_are names true (And fs) n h = folded_are Conjunction fs (members c limit true fs) (members_are true fs n h)
      branches_are names false (And fs) n h = folded_are Disjunction (normal_forms_of_not negated_normal fs) (members c limit false fs) (members_are false fs n h)
      branches_are names true (Or fs) n h = folded_are Disjunction fs (members c limit true fs) (members_are true fs n h)
      branches_are names false (Or fs) n h = folded_are Conjunction (normal_forms_of_not negated_normal fs) (members c limit false fs) (members_are false fs n h)
      branches_are names true (Ex x f) n h =
          chained x names f _ _ (branches c limit (x ∷ []) true f) (branches c limit (x ∷ names) true f) (is_in nat_eq x names) (branches_are (x ∷ []) true f n h) (branches_are (x ∷ names) true f n h)
      branches_are names false (Ex x f) n h =
          closed_are c limit x false f (matrix_of nat_eq f Exists (x ∷ [])) (All x (normal_form_of_not negated_normal f)) (block_of nat_eq f Exists (x ∷ [])) (branches c limit (x ∷ []) true f) (branches_are (x ∷ []) true f n h)
          (λ g a. turn_forth c (Ex x f) g h a)
      branches_are names true (All x f) n h =
          let t = normal_form_of_not negated_normal f in
          closed_are c limit x false t (matrix_of nat_eq t Exists (x ∷ [])) (All x f) (block_of nat_eq t Exists (x ∷ [])) (branches c limit (x ∷ []) false f) (branches_are (x ∷ []) false f n h)
          (λ g a. turn_back c (All x f) g h a)
      branches_are names false (All x f) n h =
          chained x names (normal_form_of_not negated_normal f) _ _ (branches c limit (x ∷ []) false f) (branches c limit (x ∷ names) false f) (is_in nat_eq x names) (branches_are (x ∷ []) false f n h) (branches_are (x ∷ names) false f n h)
      branches_are names sign (Not f) n h = absurd n
      branches_are names sign (Impl f g) n h = absurd n
      branches_are names sign (Repl f g) n h = absurd n
      branches_are names sign (Equiv f g) n h = absurd n

      members_are : (sign : Bool) (fs : Trees) → AreNegationNormal fs → EveryOf (IsNormal c) fs → Always (AreAnswers (turned_all sign fs)) (members c limit sign fs)
      members_are true none n h = always_give (AreAnswers none) none tt
      members_are false none n h = always_give (AreAnswers none) none tt
      members_are true (also f fs) n h = next_members f fs _ _ (branches c limit [] true f) (members c limit true fs) (branches_are [] true f n.0 h.0) (members_are true fs n.1 h.1)
      members_are false (also f fs) n h =
          next_members (normal_form_of_not negated_normal f) (normal_forms_of_not negated_normal fs) _ _ (branches c limit [] false f) (members c limit false fs) (branches_are [] false f n.0 h.0) (members_are false fs n.1 h.1)

    pub normal_normal_tree : (f : Tree) → Every (IsNormal c) f → Every (IsNormal c) (normal_tree f)
    normal_normal_tree f h = (normal_form_every negated_normal (IsNormal c) f (every_map _ _ (λ a n. (n, negated_normal_is c a n)) f h)).0

    -- the branches of the leading block
    pub leading_are : (sign : Bool) (f : Tree) → Every (IsNormal c) f → Always (Good [] sign (normal_tree f)) (leading_branches c limit sign f)
    leading_are sign f h =
        always_then (λ u. Unit {0}) (Good [] sign (normal_tree f)) (pay limit (nodes (normal_tree f))) _ (always_pay limit (nodes (normal_tree f)))
        (λ u v. branches_are [] sign (normal_tree f) (normal_form_shape negated_normal f).0 (normal_normal_tree f h))

pub reference_exact : (c : Context) → ReferenceIsExact c
reference_exact c limit f h =
    let g = normal_tree f in
    gives_then (λ (r : List Branch × ℕ). AreBranches c g (matrix_of nat_eq g Exists []) (block_of nat_eq g Exists []) r.0) (λ (r : Tree × ℕ). IsAnswerTo c f r.0) (leading_branches c limit true f 0) _
    (leading_are c limit true f h 0)
    (λ r i. from_normal c f (together r.0) h (together_is c g (matrix_of nat_eq g Exists []) (block_of nat_eq g Exists []) r.0 i))
