-- The first leaf that is true.
use Rattle.std.proofs.Common.{◌≡◌, ℕ, Bool, true, false, List, [], ◌∷◌, Some, None, refl, sym, ap, ◌∙◌, subst, inl, inr}
use Rattle.logic_meaning.specs.Fold.{joined}
use Rattle.logic_meaning.specs.Shape.{quantified}
use Rattle.logic_meaning.specs.declared.quantifier.Quantifier.TheVariants.{Exists, ForAll}
use Rattle.logic_meaning.specs.declared.junction.Junction.TheVariants.{Conjunction, Disjunction}
use Rattle.logic_meaning.specs.Formula.{Yes}
use Rattle.logic_meaning.specs.Some.{Among}
use Rattle.logic_meaning.specs.Tree.{Tree, Trees}
use Rattle.logic_meaning.specs.Answers.{Step}
use Rattle.logic_meaning.specs.Reference.{Branch}
use Rattle.logic_meaning.specs.Sample.{if_true, first_true}
use Rattle.logic_meaning.specs.NormalForm.{constant_tree}
use Rattle.logic_meaning.specs.declared.junction.Junction.{Junction}
use Rattle.logic_meaning.specs.declared.quantifier.Quantifier.{Quantifier}
use Rattle.nnf_trees.specs.Nnfs.{nnf_of}
use Rattle.reference_engine.specs.declared.branch.Leaf.{Leaf}
use Rattle.reference_engine.specs.Stand.{StandFor}
use Rattle.plain_samples.specs.First.{is_yes, IsFirst}
use Rattle.std.specs.Prelude.{Option, if◌then◌else◌}
use Rattle.sample_reference.proofs.SamePoints.{some_same, none_some}

-- ---- true formulas

pub yes_constant : (b : Bool) → is_yes (constant_tree b) ≡ b
yes_constant true = refl
yes_constant false = refl

pub yes_joined : (j : Junction) (fs : Trees) → is_yes (joined j fs) ≡ false
yes_joined Conjunction fs = refl
yes_joined Disjunction fs = refl

pub yes_quantified : (q : Quantifier) (y : ℕ) (f : Tree) → is_yes (quantified q y f) ≡ false
yes_quantified Exists y f = refl
yes_quantified ForAll y f = refl

pub ruleset trues = (yes_constant, yes_joined, yes_quantified)

is_the_yes : (f : Tree) → is_yes f ≡ true → f ≡ Yes
is_the_yes Yes e = refl
is_the_yes f e = cc

passed : (f : Tree) (steps : List Step) (rest : Option (List Step)) → is_yes f ≡ false → if_true f steps rest ≡ rest
passed Yes steps rest e = cc
passed f steps rest e = refl

-- ---- leaves

-- the branches of the leaves left, before which none is true
pub record IsBehind (bs : List Branch) (rest : List Leaf) : Type 0 where
  pub left : List Branch
  pub stand : StandFor rest left
  pub same : first_true left ≡ first_true bs
  pub among : (b : Branch) → Among left b → Among bs b

pub behind_begins : (bs : List Branch) (rest : List Leaf) → StandFor rest bs → IsBehind bs rest
behind_begins bs rest h = record { left = bs; stand = h; same = refl; among = λ b m. m }

pub behind_goes_on : (bs : List Branch) (l : Leaf) (rest : List Leaf) → IsBehind bs (l ∷ rest) → is_yes (nnf_of l.formula) ≡ false → IsBehind bs rest
behind_goes_on bs l rest w e = go w.left w.stand w.same w.among
  where
    go : (left : List Branch) → StandFor (l ∷ rest) left → first_true left ≡ first_true bs → ((b : Branch) → Among left b → Among bs b) → IsBehind bs rest
    go [] h s m = absurd h
    go (b ∷ left) h s m = record {
      left = left;
      stand = h.1;
      same = sym (passed b.tree b.steps (first_true left) (ap is_yes (sym h.0.formula) ∙ e)) ∙ s;
      among = λ d k. m d (inr k);
    }

pub behind_found : (bs : List Branch) (l : Leaf) (rest : List Leaf) → IsBehind bs (l ∷ rest) → is_yes (nnf_of l.formula) ≡ true → IsFirst bs l.points.items
behind_found bs l rest w e = go w.left w.stand w.same w.among
  where
    go : (left : List Branch) → StandFor (l ∷ rest) left → first_true left ≡ first_true bs → ((b : Branch) → Among left b → Among bs b) → IsFirst bs l.points.items
    go [] h s m = absurd h
    go (b ∷ left) h s m =
        let holds : b.tree ≡ Yes = sym h.0.formula ∙ is_the_yes (nnf_of l.formula) e in
        record {
          branch = b;
          among = m b (inl refl);
          holds = holds;
          first = sym s ∙ ap (λ f. if_true f b.steps (first_true left)) holds;
          answers = h.0.answers;
        }

pub behind_ends : (bs : List Branch) (rest : List Leaf) → IsBehind bs rest → rest ≡ [] → first_true bs ≡ None
behind_ends bs rest w e = go w.left (subst (λ ls. StandFor ls w.left) e w.stand) w.same
  where
    go : (left : List Branch) → StandFor [] left → first_true left ≡ first_true bs → first_true bs ≡ None
    go [] h s = sym s
    go (b ∷ left) h s = absurd h

-- ---- what is there only for true

pub there_if : {X : Type 0} (b : Bool) (x y : X) → Some y ≡ (if b then Some x else None) → (b ≡ true) × (x ≡ y)
there_if true x y e = (refl, some_same x y (sym e))
there_if false x y e = none_some y (sym e)

pub absent_if : {X : Type 0} (b : Bool) (x : X) → None ≡ (if b then Some x else None) → b ≡ false
absent_if true x e = none_some x e
absent_if false x e = refl
