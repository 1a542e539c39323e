-- What is read of lists of formulas.
use Rattle.std.proofs.Common.{◌≡◌, ◌<◌, ◌≤◌, ◌+◌, ℕ, zero, suc, get_or, true, false, List, [], ◌∷◌, ◌++◌, max, Option, Some, None, refl, ap, sym, ◌∙◌, subst, arith, length}
use Rattle.std.specs.List.{AllByRecursion}
use Rattle.std.specs.Option.{ForSome, option_to_list}
use Rattle.logic_meaning.specs.Context.{Context}
use Rattle.logic_meaning.specs.Tree.{Tree}
use Rattle.logic_meaning.specs.Fold.{joined}
use Rattle.logic_meaning.specs.declared.junction.Junction.{Junction}
use Rattle.logic_meaning.specs.declared.junction.Junction.TheVariants.{Conjunction, Disjunction}
use Rattle.language_meaning.specs.Trees.{FormulaTree, formulas_of}
use Rattle.formula_tree.specs.Makers.{Keeps}
use Rattle.language_meaning.specs.Resolving.{formula_variables, all_variables}
use Rattle.formula_resolving.specs.declared.parts.Part.{Part}
use Rattle.formula_resolving.specs.declared.parts.Members.{Members}
use Rattle.formula_resolving.specs.MetCauses.{flag, either, no_causes}
use Rattle.formula_resolving.specs.Parts.{IsPart, AreMembers}
use Rattle.formula_resolving.proofs.FirstCause.{none_met}
use Rattle.formula_resolving.proofs.PartLaws.{part_stays, no_members, one_member_more}
use Rattle.smt_language.specs.Levels.{levels}
use Rattle.smt_meaning.specs.LevelsBelow.{IsLevelBelow, AreLevelsBelow}
use Rattle.smt_language.specs.Nodes.{formula_nodes, formulas_nodes}
use Rattle.smt_language.specs.Shapes.{joined_of}
use Rattle.smt_meaning.proofs.Levels.{all_append, all_first, all_second}
use Rattle.smt_resolver.specs.declared.parts.Parts.{Parts}
use Rattle.smt_resolver.specs.declared.sized.Sized.{Sized}
use Rattle.smt_resolver.specs.declared.sized.Sized.TheVariants.{Within, TooLarge}
use Rattle.smt_resolver.specs.Values.{AreEach, IsLevelPart, IsFormulaValue, AreFormulaValues, HasId, ArePartsBelow, HaveIds, IsAdded}
use Rattle.smt_resolver.proofs.Lists.{First, each_first, each_none, each_more, each_weaker}

-- ---- lists

pub append_one : {X : Type 0} (xs : List X) (y : X) (ys : List X) → (xs ++ y ∷ []) ++ ys ≡ xs ++ (y ∷ ys)
append_one [] y ys = refl
append_one (x ∷ xs) y ys = ap (λ zs. x ∷ zs) (append_one xs y ys)

pub append_none : {X : Type 0} (xs : List X) → xs ++ [] ≡ xs
append_none [] = refl
append_none (x ∷ xs) = ap (λ zs. x ∷ zs) (append_none xs)

-- the nodes of two lists one after the other
pub nodes_append : (fs gs : List FormulaTree) → formulas_nodes (formulas_of (fs ++ gs)) ≡ formulas_nodes (formulas_of fs) + formulas_nodes (formulas_of gs)
nodes_append [] gs = omega arith
nodes_append (f ∷ fs) gs = omega (arith, nodes_append fs gs)

-- formulas together are no larger than their junction
pub joined_larger : (j : Junction) (fs : List FormulaTree) → formulas_nodes (formulas_of fs) ≤ formula_nodes (joined_of j fs)
joined_larger Conjunction [] = omega arith
joined_larger Disjunction [] = omega arith
joined_larger j (f ∷ []) = omega arith
joined_larger Conjunction (f ∷ g ∷ fs) = omega arith
joined_larger Disjunction (f ∷ g ∷ fs) = omega arith

-- a list that has not one member alone is joined
pub joined_many : {V : Type 0} (R : FormulaTree → V → Type 0) (j : Junction) (fs : List FormulaTree) (vs : List V) → AreEach R fs vs → ¬ (length vs ≡ 1) → joined_of j fs ≡ joined j (formulas_of fs)
joined_many R j [] [] h n = refl
joined_many R j [] (v ∷ vs) h n = absurd h
joined_many R j (f ∷ fs) [] h n = absurd h
joined_many R j (f ∷ []) (v ∷ []) h n = absurd (n refl)
joined_many R j (f ∷ []) (v ∷ w ∷ vs) h n = absurd h.1
joined_many R j (f ∷ g ∷ fs) (v ∷ vs) h n = refl

pub many_nodes : (j : Junction) (fs : List FormulaTree) → formula_nodes (joined j (formulas_of fs)) ≡ suc (formulas_nodes (formulas_of fs))
many_nodes Conjunction fs = refl
many_nodes Disjunction fs = refl

many_variables : (j : Junction) (fs : List FormulaTree) → formula_variables (joined j (formulas_of fs)) ≡ all_variables (formulas_of fs)
many_variables Conjunction fs = refl
many_variables Disjunction fs = refl

-- ---- makers that make more

module _ {Id : Type 0} (P : Id → Type 0) (t : Id → Tree) (Q : Id → Type 0) (u : Id → Tree) (k : Keeps P t Q u) (c : Context) where
  pub level_stays : (f : FormulaTree) (p : Part Id) → IsLevelPart c P t f p → IsLevelPart c Q u f p
  level_stays f p h = record { read = λ n b. part_stays P t Q u k c [] (levels n) f p (h.read n b) }

  pub parts_stay : (fs : List FormulaTree) (s : Parts Id) → ArePartsBelow c P t fs s → ArePartsBelow c Q u fs s
  parts_stay fs s h = record { nodes = h.nodes; parts = each_weaker (IsLevelPart c P t) (IsLevelPart c Q u) level_stays fs s.parts.items h.parts }

  pub value_stays : (limit : ℕ) (f : FormulaTree) (v : Sized (Part Id)) → IsFormulaValue c limit P t f v → IsFormulaValue c limit Q u f v
  value_stays limit f (Within n p) h = (h.0, h.1, level_stays f p h.2)
  value_stays limit f TooLarge h = h

  pub values_stay : (limit : ℕ) (fs : List FormulaTree) (vs : List (Sized (Part Id))) → AreFormulaValues c limit P t fs vs → AreFormulaValues c limit Q u fs vs
  values_stay limit fs vs h = each_weaker (IsFormulaValue c limit P t) (IsFormulaValue c limit Q u) (value_stays limit) fs vs h

module _ {Id : Type 0} (P : Id → Type 0) (Q : Id → Type 0) (w : (id : Id) → P id → Q id) where
  pub id_stays : (v : Sized (Part Id)) → HasId P v → HasId Q v
  id_stays (Within n p) h = λ id e. w id (h id e)
  id_stays TooLarge h = tt

  pub ids_stay : (vs : List (Sized (Part Id))) → AllByRecursion (HasId P) vs → AllByRecursion (HasId Q) vs
  ids_stay [] h = tt
  ids_stay (v ∷ vs) h = (id_stays v h.0, ids_stay vs h.1)

  pub parts_ids_stay : (ps : List (Part Id)) → AllByRecursion (λ p. ForSome p.id P) ps → AllByRecursion (λ p. ForSome p.id Q) ps
  parts_ids_stay [] h = tt
  parts_ids_stay (p ∷ ps) h = ((λ id e. w id (h.0 id e)), parts_ids_stay ps h.1)

-- ---- one formula more

module _ {Id : Type 0} (c : Context) (limit : ℕ) (is_id : Id → Type 0) (tree : Id → Tree) where
  pub added_part : (fs : List FormulaTree) (f : FormulaTree) (old new : Parts Id) (v : Sized (Part Id)) → ArePartsBelow c is_id tree fs old → IsFormulaValue c limit is_id tree f v → IsAdded limit old v true new → ArePartsBelow c is_id tree (fs ++ f ∷ []) new
  added_part fs f old new (Within n p) h k a =
      let e = nodes_append fs (f ∷ []) in let i = h.nodes in let j = k.0 in let l = a.0 in
      record { nodes = omega (arith, e, i, j, l); parts = subst (AreEach (IsLevelPart c is_id tree) (fs ++ f ∷ [])) (sym a.2) (each_more (IsLevelPart c is_id tree) fs f old.parts.items p h.parts k.2) }
  added_part fs f old new TooLarge h k a = absurd a

  pub passed_part : (fs : List FormulaTree) (f : FormulaTree) (old new : Parts Id) (v : Sized (Part Id)) → ArePartsBelow c is_id tree fs old → IsFormulaValue c limit is_id tree f v → IsAdded limit old v false new → limit < formulas_nodes (formulas_of (fs ++ f ∷ []))
  passed_part fs f old new (Within n p) h k a =
      let e = nodes_append fs (f ∷ []) in let i = h.nodes in let j = k.0 in omega (arith, e, i, j, a)
  passed_part fs f old new TooLarge h k a =
      let e = nodes_append fs (f ∷ []) in omega (arith, e, k)

pub added_within : {Id : Type 0} (limit : ℕ) (old new : Parts Id) (v : Sized (Part Id)) → IsAdded limit old v true new → new.nodes ≤ limit
added_within limit old new (Within n p) a = a.1
added_within limit old new TooLarge a = absurd a

pub added_ids : {Id : Type 0} (is_id : Id → Type 0) (limit : ℕ) (old new : Parts Id) (v : Sized (Part Id)) → IsAdded limit old v true new → HaveIds is_id old → HasId is_id v → HaveIds is_id new
added_ids is_id limit old new (Within n p) a h k = subst (AllByRecursion (λ q. ForSome q.id is_id)) (sym a.2) (all_append (λ q. ForSome q.id is_id) old.parts.items (p ∷ []) h (k, tt))
added_ids is_id limit old new TooLarge a h k = absurd a

-- ---- values that are gathered

module _ {Id : Type 0} (c : Context) (limit : ℕ) (is_id : Id → Type 0) (tree : Id → Tree) (all : List FormulaTree) where
  -- the formulas so far, and the values that are left
  pub record GatherState (s : Parts Id) (vs : List (Sized (Part Id))) : Type 0 where
    pub done : List FormulaTree
    pub rest : List FormulaTree
    pub parts : done ++ rest ≡ all
    pub ready : ArePartsBelow c is_id tree done s
    pub values : AreFormulaValues c limit is_id tree rest vs

  pub gather_begins : (s : Parts Id) (vs : List (Sized (Part Id))) → s.nodes ≡ 0 → s.parts.items ≡ [] → AreFormulaValues c limit is_id tree all vs → GatherState s vs
  gather_begins s vs e f h = record { done = []; rest = all; parts = refl; ready = record { nodes = e; parts = subst (AreEach (IsLevelPart c is_id tree) []) (sym f) tt }; values = h }

  pub gather_step : (old new : Parts Id) (v : Sized (Part Id)) (vs : List (Sized (Part Id))) → GatherState old (v ∷ vs) → IsAdded limit old v true new → GatherState new vs
  gather_step old new v vs s a =
      let f : First (IsFormulaValue c limit is_id tree) s.rest v vs = each_first (IsFormulaValue c limit is_id tree) s.rest v vs s.values in
      record {
        done = s.done ++ f.head ∷ [];
        rest = f.tail;
        parts = append_one s.done f.head f.tail ∙ ap (λ r. s.done ++ r) (sym f.is) ∙ s.parts;
        ready = added_part c limit is_id tree s.done f.head old new v s.ready f.first a;
        values = f.others;
      }

  pub gather_passes : (old new : Parts Id) (v : Sized (Part Id)) (vs : List (Sized (Part Id))) (j : Junction) → GatherState old (v ∷ vs) → IsAdded limit old v false new → limit < formula_nodes (joined_of j all)
  gather_passes old new v vs j s a =
      let f : First (IsFormulaValue c limit is_id tree) s.rest v vs = each_first (IsFormulaValue c limit is_id tree) s.rest v vs s.values in
      let l = passed_part c limit is_id tree s.done f.head old new v s.ready f.first a in
      let e : (s.done ++ f.head ∷ []) ++ f.tail ≡ all = append_one s.done f.head f.tail ∙ ap (λ r. s.done ++ r) (sym f.is) ∙ s.parts in
      let n = nodes_append (s.done ++ f.head ∷ []) f.tail in
      let m : formulas_nodes (formulas_of ((s.done ++ f.head ∷ []) ++ f.tail)) ≡ formulas_nodes (formulas_of all) = ap (λ r. formulas_nodes (formulas_of r)) e in
      let k = joined_larger j all in
      omega (arith, l, n, m, k)

  pub gather_ends : (s : Parts Id) → GatherState s [] → ArePartsBelow c is_id tree all s
  gather_ends s g =
      let e : g.rest ≡ [] = each_none (IsFormulaValue c limit is_id tree) g.rest g.values in
      subst (λ fs. ArePartsBelow c is_id tree fs s) (sym (append_none g.done) ∙ ap (λ r. g.done ++ r) (sym e) ∙ g.parts) g.ready

-- ---- members

module _ {Id : Type 0} (c : Context) (is_id : Id → Type 0) (tree : Id → Tree) (all : List FormulaTree) where
  -- the members so far, and the parts that are left
  pub record MembersState (m : Members Id) (ps : List (Part Id)) : Type 0 where
    pub done : List FormulaTree
    pub rest : List FormulaTree
    pub parts : done ++ rest ≡ all
    pub ready : (n : ℕ) → AreLevelsBelow n (all_variables (formulas_of all)) → AreMembers c [] (levels n) is_id tree done m
    pub values : AreEach (IsLevelPart c is_id tree) rest ps
    pub below : (n : ℕ) → AreLevelsBelow n (all_variables (formulas_of all)) → AreLevelsBelow n (all_variables (formulas_of rest))

  pub members_begin : (m : Members Id) (ps : List (Part Id)) → m.causes ≡ no_causes → m.height ≡ 0 → m.ids.items ≡ [] → AreEach (IsLevelPart c is_id tree) all ps → MembersState m ps
  members_begin m ps k h i v = record {
    done = [];
    rest = all;
    parts = refl;
    ready = λ n b. no_members is_id tree c [] (levels n) m (λ e. ap (λ j. flag j e) k ∙ none_met e) h i;
    values = v;
    below = λ n b. b;
  }

  pub members_step : (m new : Members Id) (p : Part Id) (ps : List (Part Id)) → MembersState m (p ∷ ps) → new.causes ≡ either m.causes p.causes → new.height ≡ max m.height p.height → new.ids.items ≡ m.ids.items ++ option_to_list p.id → MembersState new ps
  members_step m new p ps s k h i =
      let f : First (IsLevelPart c is_id tree) s.rest p ps = each_first (IsLevelPart c is_id tree) s.rest p ps s.values in
      let under : (n : ℕ) → AreLevelsBelow n (all_variables (formulas_of all)) → AreLevelsBelow n (formula_variables f.head ++ all_variables (formulas_of f.tail)) = λ n b. subst (λ r. AreLevelsBelow n (all_variables (formulas_of r))) f.is (s.below n b) in
      record {
        done = s.done ++ f.head ∷ [];
        rest = f.tail;
        parts = append_one s.done f.head f.tail ∙ ap (λ r. s.done ++ r) (sym f.is) ∙ s.parts;
        ready = λ n b. one_member_more is_id tree c [] (levels n) s.done f.head m new p (s.ready n b) (f.first.read n (all_first (IsLevelBelow n) (formula_variables f.head) (all_variables (formulas_of f.tail)) (under n b))) k h i;
        values = f.others;
        below = λ n b. all_second (IsLevelBelow n) (formula_variables f.head) (all_variables (formulas_of f.tail)) (under n b);
      }

  pub members_end : (m : Members Id) → MembersState m [] → (n : ℕ) → AreLevelsBelow n (all_variables (formulas_of all)) → AreMembers c [] (levels n) is_id tree all m
  members_end m s n b =
      let e : s.rest ≡ [] = each_none (IsLevelPart c is_id tree) s.rest s.values in
      subst (λ fs. AreMembers c [] (levels n) is_id tree fs m) (sym (append_none s.done) ∙ ap (λ r. s.done ++ r) (sym e) ∙ s.parts) (s.ready n b)

-- a junction of members that were read
pub junction_read : {Id : Type 0} (c : Context) (P : Id → Type 0) (t : Id → Tree) (Q : Id → Type 0) (u : Id → Tree) (j : Junction) (fs : List FormulaTree) (m : Members Id) (r : Part Id)
    → ((n : ℕ) → AreLevelsBelow n (all_variables (formulas_of fs)) → AreMembers c [] (levels n) P t fs m)
    → ((n : ℕ) → AreMembers c [] (levels n) P t fs m → IsPart c [] (levels n) Q u (joined j (formulas_of fs)) r) → IsLevelPart c Q u (joined j (formulas_of fs)) r
junction_read c P t Q u j fs m r h k = record { read = λ n b. k n (h n (subst (AreLevelsBelow n) (many_variables j fs) b)) }

-- ids of members
pub member_ids : {Id : Type 0} (is_id : Id → Type 0) (ids : List Id) (o : Option Id) → AllByRecursion is_id ids → ForSome o is_id → AllByRecursion is_id (ids ++ option_to_list o)
member_ids is_id ids None h k = all_append is_id ids [] h tt
member_ids is_id ids (Some i) h k = all_append is_id ids (i ∷ []) h (k i refl, tt)

-- the id of one of the values
pub item_id : {Id : Type 0} (is_id : Id → Type 0) (vs : List (Sized (Part Id))) (i : ℕ) (v : Sized (Part Id)) → i < length vs → v ≡ get_or vs i v → AllByRecursion (HasId is_id) vs → HasId is_id v
item_id is_id [] i v l e h = absurd (omega arith)
item_id is_id (w ∷ vs) zero v l e h = subst (HasId is_id) (sym e) h.0
item_id is_id (w ∷ vs) (suc i) v l e h = item_id is_id vs i v (omega arith) e h.1

-- a list with one part alone
one_alone : {V : Type 0} (vs : List V) (v : V) → length vs ≡ 1 → v ≡ get_or vs 0 v → vs ≡ v ∷ []
one_alone [] v l e = absurd (omega arith)
one_alone (w ∷ []) v l e = ap (λ x. x ∷ []) (sym e)
one_alone (w ∷ x ∷ vs) v l e = absurd (omega arith)

pub single_read : {Id : Type 0} (c : Context) (limit : ℕ) (P : Id → Type 0) (t : Id → Tree) (j : Junction) (fs : List FormulaTree) (s : Parts Id) (p : Part Id) → ArePartsBelow c P t fs s → s.nodes ≤ limit → length s.parts.items ≡ 1 → p ≡ get_or s.parts.items 0 p
    → IsFormulaValue c limit P t (joined_of j fs) (Within s.nodes p)
single_read c limit P t j fs s p h l k e = go fs (subst (AreEach (IsLevelPart c P t) fs) (one_alone s.parts.items p k e) h.parts) h.nodes
  where
    go : (fs : List FormulaTree) → AreEach (IsLevelPart c P t) fs (p ∷ []) → s.nodes ≡ formulas_nodes (formulas_of fs) → IsFormulaValue c limit P t (joined_of j fs) (Within s.nodes p)
    go [] a n = absurd a
    go (f ∷ []) a n = (omega arith, l, a.0)
    go (f ∷ g ∷ gs) a n = absurd a.1

pub many_read : {Id : Type 0} (c : Context) (limit : ℕ) (P : Id → Type 0) (t : Id → Tree) (Q : Id → Type 0) (u : Id → Tree) (j : Junction) (fs : List FormulaTree) (s : Parts Id) (m : Members Id) (n : ℕ) (r : Part Id) → ArePartsBelow c P t fs s → ¬ (length s.parts.items ≡ 1)
    → n ≡ s.nodes + 1 → n ≤ limit → MembersState c P t fs m []
    → ((n : ℕ) → AreMembers c [] (levels n) P t fs m → IsPart c [] (levels n) Q u (joined j (formulas_of fs)) r) → IsFormulaValue c limit Q u (joined_of j fs) (Within n r)
many_read c limit P t Q u j fs s m n r h k e l a f =
    let i = joined_many (IsLevelPart c P t) j fs s.parts.items h.parts k in
    let o = many_nodes j fs in let d = h.nodes in
    subst (λ x. IsFormulaValue c limit Q u x (Within n r)) (sym i) (omega (arith, o, d, e), l, junction_read c P t Q u j fs m r (members_end c P t fs m a) f)

pub many_large : {Id : Type 0} (c : Context) (limit : ℕ) (P : Id → Type 0) (t : Id → Tree) (j : Junction) (fs : List FormulaTree) (s : Parts Id) → ArePartsBelow c P t fs s → ¬ (length s.parts.items ≡ 1) → limit < s.nodes + 1 → limit < formula_nodes (joined_of j fs)
many_large c limit P t j fs s h k l =
    let i = ap formula_nodes (joined_many (IsLevelPart c P t) j fs s.parts.items h.parts k) in
    let o = many_nodes j fs in let d = h.nodes in omega (arith, i, o, d, l)

pub part_id : {Id : Type 0} (is_id : Id → Type 0) (ps : List (Part Id)) (i : ℕ) (p : Part Id) → i < length ps → p ≡ get_or ps i p → AllByRecursion (λ q. ForSome q.id is_id) ps → ForSome p.id is_id
part_id is_id [] i p l e h = absurd (omega arith)
part_id is_id (q ∷ ps) zero p l e h = subst (λ x. ForSome x.id is_id) (sym e) h.0
part_id is_id (q ∷ ps) (suc i) p l e h = part_id is_id ps i p (omega arith) e h.1
