-- The cases of a formula: the members of a disjunction, each joined with the other parts of a conjunction.
use Rattle.std.proofs.Common.{◌≡◌, ℕ, ◌+◌, ◌<◌, List, [], ◌∷◌, ◌++◌, map, length, get_or, take, drop, zero, suc, nat_eq, refl, sym, ap, subst, ◌∙◌, inl, inr, ⊎_elim}
use Rattle.std.proofs.lemmas.List.{take_more, map-append}
use Rattle.std.specs.List.{AllByRecursion}
use Rattle.logic_meaning.specs.Context.{Context}
use Rattle.logic_meaning.specs.Point.{Point, move}
use Rattle.logic_meaning.specs.Atom.{Says}
use Rattle.logic_meaning.specs.Formula.{And, Or}
use Rattle.logic_meaning.specs.Fold.{fold_list}
use Rattle.logic_meaning.specs.declared.junction.Junction.TheVariants.{Conjunction, Disjunction}
use Rattle.logic_meaning.specs.Some.{EachOf}
use Rattle.logic_meaning.specs.Tree.{Tree, TrueAt}
use Rattle.formula_laws.proofs.Fold.{fold_list_true}
use Rattle.logic_meaning.specs.Plain.{ArePlain}
use Rattle.logic_meaning.specs.Every.{EveryOf}
use Rattle.logic_meaning.specs.NormalForm.{IsNormal}
use Rattle.elimination_theory.specs.Theorems.{IsTidy, AreBranching}
use Rattle.elimination_theory.proofs.Tidy.{tidy_fold_list}
use Rattle.formula_tree.specs.declared.shape.Shape.{Shape}
use Rattle.formula_tree.specs.Makers.{AreMade, IsMade}
use Rattle.formula_tree.specs.Trees.{members}
use Rattle.formula_store.specs.declared.id.FormulaId.{FormulaId}
use Rattle.formula_store.specs.Nodes.{tree, IsId}
use Rattle.branch_pruning.specs.Pruned.{SomeTrue}
use Rattle.short_answers.specs.Asking.{IsTidyId, AreTidyIds}
use Rattle.short_answers.specs.Opposites.{EachTrue}
use Rattle.short_answers.specs.Cases.{AreCasesOf, AreMembersOf, ArePartsOf, each_joined}
use Rattle.short_answers.proofs.Adding.{each_at}
use Rattle.short_answers.proofs.Keeping.{KeepsAll, made_more, tidy_of}
use Rattle.short_answers.proofs.Nowhere.{all_true}

each_both : {X : Type 0} (P : X → Type 0) (xs ys : List X) → EachOf P xs → EachOf P ys → EachOf P (xs ++ ys)
each_both P [] ys h k = k
each_both P (x ∷ xs) ys h k = (h.0, each_both P xs ys h.1 k)

pub each_of_front : {X : Type 0} (P : X → Type 0) (i : ℕ) (xs : List X) → EachOf P xs → EachOf P (take i xs)
each_of_front P zero xs h = tt
each_of_front P (suc i) [] h = tt
each_of_front P (suc i) (x ∷ xs) h = (h.0, each_of_front P i xs h.1)

each_of_rest : {X : Type 0} (P : X → Type 0) (i : ℕ) (xs : List X) → EachOf P xs → EachOf P (drop i xs)
each_of_rest P zero xs h = h
each_of_rest P (suc i) [] h = tt
each_of_rest P (suc i) (x ∷ xs) h = each_of_rest P i xs h.1

-- without one of the elements
pub each_left : {X : Type 0} (P : X → Type 0) (xs ys : List X) (i : ℕ) → ys ≡ take i xs ++ drop (i + 1) xs → EachOf P xs → EachOf P ys
each_left P xs ys i e h = subst (EachOf P) (sym e) (each_both P (take i xs) (drop (i + 1) xs) (each_of_front P i xs h) (each_of_rest P (i + 1) xs h))

module _ {X Y : Type 0} (P : Y → Type 0) (f : X → Y) where
  pub each_mapped : (xs : List X) → EachOf (λ x. P (f x)) xs → EachOf P (map f xs)
  each_mapped [] h = tt
  each_mapped (x ∷ xs) h = (h.0, each_mapped xs h.1)

  pub each_unmapped : (xs : List X) → EachOf P (map f xs) → EachOf (λ x. P (f x)) xs
  each_unmapped [] h = tt
  each_unmapped (x ∷ xs) h = (h.0, each_unmapped xs h.1)

module _ (c : Context) (p : Point ℕ) where
  pub some_in : (fs : List Tree) → TrueAt c (Or (members fs)) p → SomeTrue c fs p
  some_in [] h = h
  some_in (f ∷ fs) (inl h) = inl h
  some_in (f ∷ fs) (inr h) = inr (some_in fs h)

  pub in_some : (fs : List Tree) → SomeTrue c fs p → TrueAt c (Or (members fs)) p
  in_some [] h = h
  in_some (f ∷ fs) (inl h) = inl h
  in_some (f ∷ fs) (inr h) = inr (in_some fs h)

  pub each_in : (fs : List Tree) → TrueAt c (And (members fs)) p → EachTrue c fs p
  each_in [] h = tt
  each_in (f ∷ fs) h = (h.0, each_in fs h.1)

  -- a disjunction that is folded
  pub some_folded : (fs : List Tree) → SomeTrue c fs p → TrueAt c (fold_list Disjunction (members fs)) p
  some_folded fs h = (fold_list_true Says (move nat_eq) c Disjunction (members fs) p).0 (in_some fs h)

  pub folded_some : (fs : List Tree) → TrueAt c (fold_list Disjunction (members fs)) p → SomeTrue c fs p
  folded_some fs h = some_in fs ((fold_list_true Says (move nat_eq) c Disjunction (members fs) p).1 h)

  -- a conjunction that is folded
  pub each_folded : (fs : List Tree) → EachTrue c fs p → TrueAt c (fold_list Conjunction (members fs)) p
  each_folded fs h = (fold_list_true Says (move nat_eq) c Conjunction (members fs) p).0 (all_true c p fs h)

  some_joined : (fs gs : List Tree) → SomeTrue c fs p → EachTrue c gs p → SomeTrue c (each_joined fs gs) p
  some_joined [] gs h k = h
  some_joined (f ∷ fs) gs (inl h) k = inl (each_folded (f ∷ gs) (h, k))
  some_joined (f ∷ fs) gs (inr h) k = inr (some_joined fs gs h k)

joined_tidy : (c : Context) (old new : List (Shape FormulaId)) (ids xs others : List FormulaId) → AllByRecursion (IsId new) ids → map (tree new) ids ≡ each_joined (map (tree old) xs) (map (tree old) others) → AreTidyIds c old xs → AreTidyIds c old others → AreTidyIds c new ids
joined_tidy c old new [] xs others are same h k = tt
joined_tidy c old new (id ∷ ids) [] others are same h k = cc
joined_tidy c old new (id ∷ ids) (x ∷ xs) others are same h k =
    let fs = members (tree old x ∷ map (tree old) others) in
    let one : tree new id ≡ fold_list Conjunction fs = cc same in
    let rest : map (tree new) ids ≡ each_joined (map (tree old) xs) (map (tree old) others) = cc same in
    (record { is = are.0; tidy = subst (IsTidy c) (sym one) (tidy_fold_list c Conjunction fs (h.0.tidy, tidy_of c old others k)) }, joined_tidy c old new ids xs others are.1 rest h.1 k)

-- the members of a disjunction among the parts, each joined with the other parts
pub distributed : (f : Tree) (old new : List (Shape FormulaId)) (parts rest ms ids : List FormulaId) (place : ℕ) (d : FormulaId) → ArePartsOf f old parts → place < length parts → d ≡ get_or parts place d → rest ≡ take place parts ++ drop (place + 1) parts →
    AreMembersOf (tree old d) old ms → AreMade (IsId new) (tree new) ids (each_joined (map (tree old) ms) (map (tree old) rest)) → AreCasesOf f new ids
distributed f old new parts rest ms ids place d are within at left mem made = record {
  tidy = λ c t.
      let tidy = are.tidy c t in
      let one = subst (IsTidyId c old) (sym at) (each_at (IsTidyId c old) parts place d within tidy) in
      joined_tidy c old new ids ms rest made.are made.same (mem.tidy c one.tidy) (each_left (IsTidyId c old) parts rest place left tidy);
  some = λ c p t.
      let P = λ (g : Tree). TrueAt c g p in
      let each = each_unmapped P (tree old) parts (are.each c p t) in
      let one = subst (λ (id : FormulaId). P (tree old id)) (sym at) (each_at (λ (id : FormulaId). P (tree old id)) parts place d within each) in
      let others = each_mapped P (tree old) rest (each_left (λ (id : FormulaId). P (tree old id)) parts rest place left each) in
      subst (λ (gs : List Tree). SomeTrue c gs p) (sym made.same) (some_joined c p (map (tree old) ms) (map (tree old) rest) ((mem.some c p).0 one) others);
}

-- ---- the members of a formula

module _ (c : Context) (nodes : List (Shape FormulaId)) where
  member_ids : (ids : List FormulaId) → AllByRecursion (IsId nodes) ids → ArePlain (members (map (tree nodes) ids)) → EveryOf (IsNormal c) (members (map (tree nodes) ids)) → AreBranching (members (map (tree nodes) ids)) → AreTidyIds c nodes ids
  member_ids [] are p n b = tt
  member_ids (id ∷ ids) are p n b = (record { is = are.0; tidy = record { is_plain = p.0; normal = n.0; two_members = b.1 } }, member_ids ids are.1 p.1 n.1 b.2)

each_id : (nodes : List (Shape FormulaId)) (ids : List FormulaId) → AllByRecursion (IsId nodes) ids → EachOf (IsId nodes) ids
each_id nodes [] h = tt
each_id nodes (id ∷ ids) h = (h.0, each_id nodes ids h.1)

module _ (nodes : List (Shape FormulaId)) (f : Tree) (ids : List FormulaId) (are : AllByRecursion (IsId nodes) ids) where
  pub disjunction_members : f ≡ Or (members (map (tree nodes) ids)) → AreMembersOf f nodes ids
  disjunction_members e =
      let fs = map (tree nodes) ids in
      record {
        are = each_id nodes ids are;
        tidy = λ c t. let whole : IsTidy c (Or (members fs)) = subst (IsTidy c) e t in member_ids c nodes ids are whole.is_plain whole.normal whole.two_members.1;
        some = λ c p. (λ h. some_in c p fs (subst (λ (g : Tree). TrueAt c g p) e h), λ h. subst (λ (g : Tree). TrueAt c g p) (sym e) (in_some c p fs h));
      }

  pub conjunction_parts : f ≡ And (members (map (tree nodes) ids)) → ArePartsOf f nodes ids
  conjunction_parts e =
      let fs = map (tree nodes) ids in
      record {
        are = each_id nodes ids are;
        tidy = λ c t. let whole : IsTidy c (And (members fs)) = subst (IsTidy c) e t in member_ids c nodes ids are whole.is_plain whole.normal whole.two_members.1;
        each = λ c p h. each_in c p fs (subst (λ (g : Tree). TrueAt c g p) e h);
      }

-- a formula alone
module _ (nodes : List (Shape FormulaId)) (id : FormulaId) (is : IsId nodes id) where
  pub member_alone : AreMembersOf (tree nodes id) nodes (id ∷ [])
  member_alone = record {
    are = (is, tt);
    tidy = λ c t. (record { is = is; tidy = t }, tt);
    some = λ c p. (λ h. inl h, λ h. ⊎_elim (λ t. t) (λ n. absurd n) h);
  }

  pub part_alone : ArePartsOf (tree nodes id) nodes (id ∷ [])
  part_alone = record { are = (is, tt); tidy = λ c t. (record { is = is; tidy = t }, tt); each = λ c p h. (h, tt) }

  pub case_alone : AreCasesOf (tree nodes id) nodes (id ∷ [])
  case_alone = record { tidy = λ c t. (record { is = is; tidy = t }, tt); some = λ c p h. inl h }

-- ---- each joined with the others

module _ (old now : List (Shape FormulaId)) (kept : KeepsAll old now) where
  pub kept_ids : (ids : List FormulaId) → EachOf (IsId old) ids → AllByRecursion (IsId now) ids
  kept_ids [] h = tt
  kept_ids (id ∷ ids) h = (kept.is id h.0, kept_ids ids h.1)

  same_trees : (ids : List FormulaId) → EachOf (IsId old) ids → map (tree now) ids ≡ map (tree old) ids
  same_trees [] h = refl
  same_trees (id ∷ ids) h = λ i. kept.same id h.0 i ∷ same_trees ids h.1 i

-- one more of the first ones
pub joined_more : (old now new : List (Shape FormulaId)) (xs others each : List FormulaId) (i : ℕ) (together : FormulaId) → KeepsAll old now → KeepsAll now new → EachOf (IsId old) xs → EachOf (IsId old) others → i < length xs →
    AreMade (IsId now) (tree now) each (each_joined (map (tree old) (take i xs)) (map (tree old) others)) → IsMade (IsId new) (tree new) together (fold_list Conjunction (members (map (tree now) (get_or xs i (record { number = 0 }) ∷ others)))) →
    AreMade (IsId new) (tree new) (each ++ together ∷ []) (each_joined (map (tree old) (take (i + 1) xs)) (map (tree old) others))
joined_more old now new xs others each i together before after are oth within made one =
    let d : FormulaId = record { number = 0 } in
    let x = get_or xs i d in
    let gs = map (tree old) others in
    let g = λ (f : Tree). fold_list Conjunction (members (f ∷ gs)) in
    let more : each_joined (map (tree old) (take (i + 1) xs)) gs ≡ each_joined (map (tree old) (take i xs)) gs ++ g (tree old x) ∷ [] =
    ap (λ (ys : List FormulaId). map g (map (tree old) ys)) (take_more xs i d within) ∙ ap (map g) (map-append (tree old) (take i xs) (x ∷ [])) ∙ map-append g (map (tree old) (take i xs)) (tree old x ∷ []) in
    let trees : map (tree now) (x ∷ others) ≡ tree old x ∷ gs = same_trees old now before (x ∷ others) (each_at (IsId old) xs i d within are, oth) in
    subst (λ (fs : List Tree). AreMade (IsId new) (tree new) (each ++ together ∷ []) fs) (sym more)
    (made_more now new after each (each_joined (map (tree old) (take i xs)) gs) made together (g (tree old x)) (record { is = one.is; same = one.same ∙ ap (λ (fs : List Tree). fold_list Conjunction (members fs)) trees }))
