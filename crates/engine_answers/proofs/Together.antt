-- The guards of some cases together, and their disjunction.
use Rattle.std.proofs.Common.{◌≡◌, ◌<◌, List, [], ◌∷◌, Some, map, length, refl, ap, arith, inl, ⊎_elim}
use Rattle.std.specs.List.{AllByRecursion}
use Rattle.logic_meaning.specs.Context.{Context}
use Rattle.logic_meaning.specs.Formula.{Or, also}
use Rattle.logic_meaning.specs.Fold.{from_pieces}
use Rattle.logic_meaning.specs.declared.junction.Junction.TheVariants.{Disjunction}
use Rattle.logic_meaning.specs.Every.{EveryOf}
use Rattle.logic_meaning.specs.Plain.{ArePlain}
use Rattle.logic_meaning.specs.Some.{EachOf}
use Rattle.logic_meaning.specs.Tree.{Tree}
use Rattle.logic_meaning.specs.NormalForm.{IsNormal}
use Rattle.elimination_theory.specs.Theorems.{IsTidy, IsProper, AreBranching}
use Rattle.logic_meaning.specs.Cases.{Case}
use Rattle.logic_meaning.specs.AnswerParts.{guards_of}
use Rattle.formula_tree.specs.declared.shape.Shape.{Shape}
use Rattle.formula_tree.specs.Trees.{members}
use Rattle.formula_store.specs.declared.id.FormulaId.{FormulaId}
use Rattle.formula_store.specs.Nodes.{tree}
use Rattle.engine_answers.specs.declared.case_tree.Case as code
use Rattle.engine_answers.specs.CaseTrees.{cases_seen, GuardsTogetherSay}

module _ (c : Context) where
  plain : (ks : List Case) → EachOf (λ (k : Case). IsTidy c k.guard) ks → ArePlain (guards_of ks)
  plain [] t = tt
  plain (k ∷ ks) t = (t.0.is_plain, plain ks t.1)

  normal : (ks : List Case) → EachOf (λ (k : Case). IsTidy c k.guard) ks → EveryOf (IsNormal c) (guards_of ks)
  normal [] t = tt
  normal (k ∷ ks) t = (t.0.normal, normal ks t.1)

  branching : (ks : List Case) → EachOf (λ (k : Case). IsTidy c k.guard) ks → EachOf (λ (k : Case). IsProper k.guard) ks → AreBranching (guards_of ks)
  branching [] t p = tt
  branching (k ∷ ks) t p = (p.0, t.0.two_members, branching ks t.1 p.1)

  pub guards_say : GuardsTogetherSay c
  guards_say [] = record {
    equivalent = λ p o. (λ t. t, λ t. t);
    names = λ y. (λ t. t, λ t. t);
    tidy = λ t p. record { is_plain = tt; normal = tt; two_members = tt };
  }
  guards_say (k ∷ []) = record {
    equivalent = λ p o. (⊎_elim (λ t. t) absurd, λ t. inl t);
    names = λ y. (λ t. inl t, ⊎_elim (λ t. t) absurd);
    tidy = λ t p. t.0;
  }
  guards_say (k ∷ (d ∷ ks)) = record {
    equivalent = λ p o. (λ t. t, λ t. t);
    names = λ y. (λ t. t, λ t. t);
    tidy = λ t p. record { is_plain = plain (k ∷ d ∷ ks) t; normal = normal (k ∷ d ∷ ks) t; two_members = (tt, branching (k ∷ d ∷ ks) t (p (omega arith))) };
  }

-- ---- formulas by their ids

-- two formulas or more are joined
pub or_of_two : {Id : Type 0} (t : Id → Tree) (ids : List Id) → 1 < length ids → Or (members (map t ids)) ≡ from_pieces Disjunction (Some (members (map t ids)))
or_of_two t [] h = absurd (omega arith)
or_of_two t (a ∷ []) h = absurd (omega arith)
or_of_two t (a ∷ (b ∷ ids)) h = refl

-- the guards of the cases are the formulas of their ids
pub guards_seen : (nodes : List (Shape FormulaId)) (ks : List code.Case) → members (map (tree nodes) (map (λ (k : code.Case). k.guard) ks)) ≡ guards_of (cases_seen nodes ks)
guards_seen nodes [] = refl
guards_seen nodes (k ∷ ks) = ap (also (tree nodes k.guard)) (guards_seen nodes ks)

pub guards_are : (P : FormulaId → Type 0) (ks : List code.Case) → EachOf (λ (k : code.Case). P k.guard) ks → AllByRecursion P (map (λ (k : code.Case). k.guard) ks)
guards_are P [] e = tt
guards_are P (k ∷ ks) e = (e.0, guards_are P ks e.1)
