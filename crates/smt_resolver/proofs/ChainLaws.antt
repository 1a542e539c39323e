-- Relations between the members of an operator, one after another.
use Rattle.std.proofs.Common.{◌≡◌, ◌<◌, ℕ, Bool, true, false, List, [], ◌∷◌, ◌++◌, map, refl, ap, sym, ◌∙◌, subst, arith}
use Rattle.std.specs.Bool.{MatchBool}
use Rattle.logic_meaning.specs.Context.{Context}
use Rattle.logic_meaning.specs.Tree.{Tree}
use Rattle.language_meaning.specs.Trees.{FormulaTree, formulas_of}
use Rattle.formula_tree.specs.Makers.{Keeps}
use Rattle.formula_resolving.specs.declared.parts.Part.{Part}
use Rattle.smt_language.specs.Nodes.{formulas_nodes}
use Rattle.smt_language.specs.Shapes.{neighbours, pairs}
use Rattle.smt_resolver.specs.declared.parts.Parts.{Parts}
use Rattle.smt_resolver.specs.declared.sized.Sized.{Sized}
use Rattle.smt_resolver.specs.Values.{AreEach, IsLevelPart, IsFormulaValue, ArePartsBelow, IsAdded}
use Rattle.smt_resolver.proofs.Lists.{First, each_first, each_none, each_weaker}
use Rattle.smt_resolver.proofs.PartLists.{append_one, append_none, nodes_append, added_part, passed_part, parts_stay}

-- the nodes of some are not above those of all
part_nodes : (fs gs all : List FormulaTree) (limit : ℕ) → fs ++ gs ≡ all → limit < formulas_nodes (formulas_of fs) → limit < formulas_nodes (formulas_of all)
part_nodes fs gs all limit e l = let n = nodes_append fs gs in let m = ap (λ r. formulas_nodes (formulas_of r)) e in omega (arith, n, m, l)

-- ---- neighbours

module _ {Id X V : Type 0} (c : Context) (limit : ℕ) (R : X → X → FormulaTree) (all : List FormulaTree) where
  -- what was made so far, the member before the next, and those that are left
  pub record ChainState (is_id : Id → Type 0) (tree : Id → Tree) (K : X → V → Type 0) (s : Parts Id) (v : V) (vs : List V) : Type 0 where
    pub done : List FormulaTree
    pub head : X
    pub rest : List X
    pub parts : done ++ neighbours R (head ∷ rest) ≡ all
    pub ready : ArePartsBelow c is_id tree done s
    pub first : K head v
    pub values : AreEach K rest vs

  pub chain_begins : (is_id : Id → Type 0) (tree : Id → Tree) (K : X → V → Type 0) (s : Parts Id) (x : X) (xs : List X) (v : V) (vs : List V) → neighbours R (x ∷ xs) ≡ all → s.nodes ≡ 0 → s.parts.items ≡ [] → K x v → AreEach K xs vs → ChainState is_id tree K s v vs
  chain_begins is_id tree K s x xs v vs a e f h k = record {
    done = [];
    head = x;
    rest = xs;
    parts = a;
    ready = record { nodes = e; parts = subst (AreEach (IsLevelPart c is_id tree) []) (sym f) tt };
    first = h;
    values = k;
  }

  pub chain_step : (P : Id → Type 0) (t : Id → Tree) (Q : Id → Type 0) (u : Id → Tree) (K L : X → V → Type 0) (s new : Parts Id) (v w : V) (vs : List V) (r : Sized (Part Id)) → ChainState P t K s v (w ∷ vs) → Keeps P t Q u
      → ((x : X) (y : V) → K x y → L x y) → ((x y : X) → K x v → K y w → IsFormulaValue c limit Q u (R x y) r) → IsAdded limit s r true new → ChainState Q u L new w vs
  chain_step P t Q u K L s new v w vs r h k weaker made a =
      let f : First K h.rest w vs = each_first K h.rest w vs h.values in record {
        done = h.done ++ R h.head f.head ∷ [];
        head = f.head;
        rest = f.tail;
        parts = append_one h.done (R h.head f.head) (neighbours R (f.head ∷ f.tail)) ∙ ap (λ xs. h.done ++ neighbours R (h.head ∷ xs)) (sym f.is) ∙ h.parts;
        ready = added_part c limit Q u h.done (R h.head f.head) s new r (parts_stay P t Q u k c h.done s h.ready) (made h.head f.head h.first f.first) a;
        first = weaker f.head w f.first;
        values = each_weaker K L weaker f.tail vs f.others;
      }

  pub chain_passes : (P : Id → Type 0) (t : Id → Tree) (Q : Id → Type 0) (u : Id → Tree) (K : X → V → Type 0) (s new : Parts Id) (v w : V) (vs : List V) (r : Sized (Part Id)) → ChainState P t K s v (w ∷ vs) → Keeps P t Q u
      → ((x y : X) → K x v → K y w → IsFormulaValue c limit Q u (R x y) r) → IsAdded limit s r false new → limit < formulas_nodes (formulas_of all)
  chain_passes P t Q u K s new v w vs r h k made a =
      let f : First K h.rest w vs = each_first K h.rest w vs h.values in
      let l = passed_part c limit Q u h.done (R h.head f.head) s new r (parts_stay P t Q u k c h.done s h.ready) (made h.head f.head h.first f.first) a in
      part_nodes (h.done ++ R h.head f.head ∷ []) (neighbours R (f.head ∷ f.tail)) all limit (append_one h.done (R h.head f.head) (neighbours R (f.head ∷ f.tail)) ∙ ap (λ xs. h.done ++ neighbours R (h.head ∷ xs)) (sym f.is) ∙ h.parts) l

  pub chain_ends : (P : Id → Type 0) (t : Id → Tree) (K : X → V → Type 0) (s : Parts Id) (v : V) → ChainState P t K s v [] → ArePartsBelow c P t all s
  chain_ends P t K s v h =
      let e : h.rest ≡ [] = each_none K h.rest h.values in
      subst (λ fs. ArePartsBelow c P t fs s) (sym (append_none h.done) ∙ ap (λ xs. h.done ++ neighbours R (h.head ∷ xs)) (sym e) ∙ h.parts) h.ready

-- ---- one with each of the others

module _ {Id X V : Type 0} (c : Context) (limit : ℕ) (G : X → FormulaTree) (K : X → V → Type 0) (all : List FormulaTree) where
  pub record EachState (is_id : Id → Type 0) (tree : Id → Tree) (s : Parts Id) (vs : List V) : Type 0 where
    pub done : List FormulaTree
    pub rest : List X
    pub parts : done ++ map G rest ≡ all
    pub ready : ArePartsBelow c is_id tree done s
    pub values : AreEach K rest vs

  pub each_step : (P : Id → Type 0) (t : Id → Tree) (Q : Id → Type 0) (u : Id → Tree) (s new : Parts Id) (w : V) (vs : List V) (r : Sized (Part Id)) → EachState P t s (w ∷ vs) → Keeps P t Q u
      → ((y : X) → K y w → IsFormulaValue c limit Q u (G y) r) → IsAdded limit s r true new → EachState Q u new vs
  each_step P t Q u s new w vs r h k made a =
      let f : First K h.rest w vs = each_first K h.rest w vs h.values in record {
        done = h.done ++ G f.head ∷ [];
        rest = f.tail;
        parts = append_one h.done (G f.head) (map G f.tail) ∙ ap (λ xs. h.done ++ map G xs) (sym f.is) ∙ h.parts;
        ready = added_part c limit Q u h.done (G f.head) s new r (parts_stay P t Q u k c h.done s h.ready) (made f.head f.first) a;
        values = f.others;
      }

  pub each_passes : (P : Id → Type 0) (t : Id → Tree) (Q : Id → Type 0) (u : Id → Tree) (s new : Parts Id) (w : V) (vs : List V) (r : Sized (Part Id)) → EachState P t s (w ∷ vs) → Keeps P t Q u
      → ((y : X) → K y w → IsFormulaValue c limit Q u (G y) r) → IsAdded limit s r false new → limit < formulas_nodes (formulas_of all)
  each_passes P t Q u s new w vs r h k made a =
      let f : First K h.rest w vs = each_first K h.rest w vs h.values in
      let l = passed_part c limit Q u h.done (G f.head) s new r (parts_stay P t Q u k c h.done s h.ready) (made f.head f.first) a in
      part_nodes (h.done ++ G f.head ∷ []) (map G f.tail) all limit (append_one h.done (G f.head) (map G f.tail) ∙ ap (λ xs. h.done ++ map G xs) (sym f.is) ∙ h.parts) l

  pub each_ends : (P : Id → Type 0) (t : Id → Tree) (s : Parts Id) → EachState P t s [] → ArePartsBelow c P t all s
  each_ends P t s h =
      let e : h.rest ≡ [] = each_none K h.rest h.values in
      subst (λ fs. ArePartsBelow c P t fs s) (sym (append_none h.done) ∙ ap (λ xs. h.done ++ map G xs) (sym e) ∙ h.parts) h.ready

-- ---- each two

regrouped : (xs ys zs : List FormulaTree) → (xs ++ ys) ++ zs ≡ xs ++ (ys ++ zs)
regrouped [] ys zs = refl
regrouped (x ∷ xs) ys zs = ap (λ r. x ∷ r) (regrouped xs ys zs)

module _ {Id X V : Type 0} (c : Context) (limit : ℕ) (R : X → X → FormulaTree) (K : X → V → Type 0) (all : List FormulaTree) where
  pub record PairState (is_id : Id → Type 0) (tree : Id → Tree) (s : Parts Id) (vs : List V) : Type 0 where
    pub done : List FormulaTree
    pub rest : List X
    pub parts : done ++ pairs R rest ≡ all
    pub ready : ArePartsBelow c is_id tree done s
    pub values : AreEach K rest vs

  pub pair_step : (P : Id → Type 0) (t : Id → Tree) (Q : Id → Type 0) (u : Id → Tree) (s new : Parts Id) (w : V) (vs : List V) → PairState P t s (w ∷ vs)
      → ((fs : List FormulaTree) (x : X) (xs : List X) → ArePartsBelow c P t fs s → K x w → AreEach K xs vs → ArePartsBelow c Q u (fs ++ map (R x) xs) new) → PairState Q u new vs
  pair_step P t Q u s new w vs h made =
      let f : First K h.rest w vs = each_first K h.rest w vs h.values in record {
        done = h.done ++ map (R f.head) f.tail;
        rest = f.tail;
        parts = regrouped h.done (map (R f.head) f.tail) (pairs R f.tail) ∙ ap (λ xs. h.done ++ pairs R xs) (sym f.is) ∙ h.parts;
        ready = made h.done f.head f.tail h.ready f.first f.others;
        values = f.others;
      }

  pub pair_passes : (P : Id → Type 0) (t : Id → Tree) (s : Parts Id) (w : V) (vs : List V) → PairState P t s (w ∷ vs)
      → ((fs : List FormulaTree) (x : X) (xs : List X) → ArePartsBelow c P t fs s → K x w → AreEach K xs vs → limit < formulas_nodes (formulas_of (fs ++ map (R x) xs))) → limit < formulas_nodes (formulas_of all)
  pair_passes P t s w vs h made =
      let f : First K h.rest w vs = each_first K h.rest w vs h.values in
      part_nodes (h.done ++ map (R f.head) f.tail) (pairs R f.tail) all limit (regrouped h.done (map (R f.head) f.tail) (pairs R f.tail) ∙ ap (λ xs. h.done ++ pairs R xs) (sym f.is) ∙ h.parts) (made h.done f.head f.tail h.ready f.first f.others)

  pub pair_ends : (P : Id → Type 0) (t : Id → Tree) (s : Parts Id) → PairState P t s [] → ArePartsBelow c P t all s
  pair_ends P t s h =
      let e : h.rest ≡ [] = each_none K h.rest h.values in
      subst (λ fs. ArePartsBelow c P t fs s) (sym (append_none h.done) ∙ ap (λ xs. h.done ++ pairs R xs) (sym e) ∙ h.parts) h.ready

-- what a test says where it is known
pub when_true : (b : Bool) (P Q : Type 0) → b ≡ true → MatchBool b P Q → P
when_true true P Q e h = h
when_true false P Q e h = absurd (cc)

pub when_false : (b : Bool) (P Q : Type 0) → b ≡ false → MatchBool b P Q → Q
when_false true P Q e h = absurd (cc)
when_false false P Q e h = h
