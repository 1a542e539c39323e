-- What a cut formula has of the formula that it was.
use Rattle.std.proofs.Common.{ℕ, ◌≤◌, ◌<◌, true, false, List, length, inl, inr, ⊎_elim, arith}
use Rattle.logic_meaning.specs.Context.{Context}
use Rattle.logic_meaning.specs.Formula.{Yes, No, One, Not, And, Or, Impl, Repl, Equiv, Ex, All, none, also}
use Rattle.logic_meaning.specs.declared.junction.Junction.{Junction}
use Rattle.logic_meaning.specs.declared.junction.Junction.TheVariants.{Conjunction, Disjunction}
use Rattle.logic_meaning.specs.Every.{FreeInSome}
use Rattle.logic_meaning.specs.Members.{AreTwo}
use Rattle.logic_meaning.specs.Shape.{IsQuantifierFree, AreQuantifierFree}
use Rattle.logic_meaning.specs.Sizes.{nodes, all_nodes}
use Rattle.logic_meaning.specs.Some.{EachOf}
use Rattle.logic_meaning.specs.Atom.{Atom, Mentions}
use Rattle.logic_meaning.specs.Tree.{Tree, Trees, IsFree}
use Rattle.logic_meaning.specs.Measure.{as_member, size, members_size, more_size}
use Rattle.shape_theory.specs.Orderly.{IsOrderly, AreOrderly}
use Rattle.shape_theory.specs.Texts.{text_measure}
use Rattle.shape_theory.proofs.Longer.{IsWritten, constant_width}
use Rattle.branch_pruning.specs.Cuts.{IsCut, AreCut, stays, goes, fails, never, conjunction, disjunction, no_member, one_more}

mutual
  pub cut_nodes : (f g : Tree) → IsCut f g → nodes g ≤ nodes f
  cut_nodes f g stays = omega arith
  cut_nodes f g goes = omega arith
  cut_nodes f g fails = omega arith
  cut_nodes f g never = omega arith
  cut_nodes f g (conjunction h) = let k = all_cut_nodes _ _ h in omega arith
  cut_nodes f g (disjunction h) = let k = all_cut_nodes _ _ h in omega arith

  all_cut_nodes : (fs gs : Trees) → AreCut fs gs → all_nodes gs ≤ all_nodes fs
  all_cut_nodes fs gs no_member = omega arith
  all_cut_nodes fs gs (one_more h hs) = let k = cut_nodes _ _ h in let l = all_cut_nodes _ _ hs in omega arith

mutual
  pub cut_free : (f g : Tree) → IsCut f g → IsQuantifierFree f → IsQuantifierFree g
  cut_free f g stays q = q
  cut_free f g goes q = tt
  cut_free f g fails q = tt
  cut_free f g never q = tt
  cut_free f g (conjunction h) q = all_cut_free _ _ h q
  cut_free f g (disjunction h) q = all_cut_free _ _ h q

  all_cut_free : (fs gs : Trees) → AreCut fs gs → AreQuantifierFree fs → AreQuantifierFree gs
  all_cut_free fs gs no_member q = tt
  all_cut_free fs gs (one_more h hs) q = (cut_free _ _ h q.0, all_cut_free _ _ hs q.1)

module _ (x : ℕ) where
  mutual
    pub cut_names : (f g : Tree) → IsCut f g → IsFree g x → IsFree f x
    cut_names f g stays q = q
    cut_names f g goes q = absurd q
    cut_names f g fails q = absurd q
    cut_names f g never q = absurd q
    cut_names f g (conjunction h) q = all_cut_names _ _ h q
    cut_names f g (disjunction h) q = all_cut_names _ _ h q

    all_cut_names : (fs gs : Trees) → AreCut fs gs → FreeInSome Mentions gs x → FreeInSome Mentions fs x
    all_cut_names fs gs no_member q = q
    all_cut_names fs gs (one_more h hs) q = ⊎_elim (λ k. inl (cut_names _ _ h k)) (λ k. inr (all_cut_names _ _ hs k)) q

module _ (P : Atom → Type 0) where
  cut_two : (fs gs : Trees) → AreCut fs gs → AreTwo fs → AreTwo gs
  cut_two fs gs no_member t = t
  cut_two fs gs (one_more h no_member) t = t
  cut_two fs gs (one_more h (one_more k hs)) t = tt

  mutual
    pub cut_orderly : (f g : Tree) → IsCut f g → IsOrderly P f → IsOrderly P g
    cut_orderly f g stays o = o
    cut_orderly f g goes o = tt
    cut_orderly f g fails o = tt
    cut_orderly f g never o = tt
    cut_orderly f g (conjunction h) o = (cut_two _ _ h o.0, all_cut_orderly _ _ h o.1)
    cut_orderly f g (disjunction h) o = (cut_two _ _ h o.0, all_cut_orderly _ _ h o.1)

    all_cut_orderly : (fs gs : Trees) → AreCut fs gs → AreOrderly P fs → AreOrderly P gs
    all_cut_orderly fs gs no_member o = tt
    all_cut_orderly fs gs (one_more h hs) o = (cut_orderly _ _ h o.0, all_cut_orderly _ _ hs o.1)

-- ---- the text

module _ (names : List (List ℕ)) (long : EachOf (λ name. 0 < length name) names) (c : Context) where
  abbrev W : Atom → Type 0
  W = IsWritten names long c

  abbrev width : Tree → ℕ
  width f = size (text_measure names) f

  abbrev member_width : Tree → ℕ
  member_width f = as_member (text_measure names) f (size (text_measure names) f)

  mutual
    least : (f : Tree) → IsOrderly W f → 4 ≤ member_width f
    least Yes o = omega arith
    least No o = omega arith
    least (One a) o = constant_width names long c true a o
    least (Not f) o = absurd o
    least (And fs) o = let k = least_two fs Conjunction o in omega arith
    least (Or fs) o = let k = least_two fs Disjunction o in omega arith
    least (Impl f g) o = absurd o
    least (Repl f g) o = absurd o
    least (Equiv f g) o = absurd o
    least (Ex x f) o = omega arith
    least (All x f) o = omega arith

    least_two : (fs : Trees) (j : Junction) → AreTwo fs × AreOrderly W fs → 8 ≤ members_size (text_measure names) fs j
    least_two none j o = absurd o.0
    least_two (also f none) j o = absurd o.0
    least_two (also f (also g fs)) j o = let k = least f o.1.0 in let l = least g o.1.1.0 in omega arith

  mutual
    pub cut_width : (f g : Tree) → IsCut f g → IsOrderly W f → width g ≤ width f
    cut_width f g stays o = omega arith
    cut_width (One a) g goes o = constant_width names long c true a o
    cut_width (One a) g fails o = constant_width names long c false a o
    cut_width (And fs) g never o = let k = least_two fs Conjunction o in omega arith
    cut_width f g (conjunction h) o = let k = all_cut_width _ _ Conjunction h o.1 in omega arith
    cut_width f g (disjunction h) o = let k = all_cut_width _ _ Disjunction h o.1 in omega arith

    cut_member : (f g : Tree) → IsCut f g → IsOrderly W f → member_width g ≤ member_width f
    cut_member f g stays o = omega arith
    cut_member (One a) g goes o = constant_width names long c true a o
    cut_member (One a) g fails o = constant_width names long c false a o
    cut_member (And fs) g never o = let k = least_two fs Conjunction o in omega arith
    cut_member f g (conjunction h) o = let k = all_cut_width _ _ Conjunction h o.1 in omega arith
    cut_member f g (disjunction h) o = let k = all_cut_width _ _ Disjunction h o.1 in omega arith

    all_cut_width : (fs gs : Trees) (j : Junction) → AreCut fs gs → AreOrderly W fs → members_size (text_measure names) gs j ≤ members_size (text_measure names) fs j
    all_cut_width fs gs j no_member o = omega arith
    all_cut_width fs gs j (one_more h hs) o = let k = cut_member _ _ h o.0 in let l = more_cut_width _ _ j hs o.1 in omega arith

    more_cut_width : (fs gs : Trees) (j : Junction) → AreCut fs gs → AreOrderly W fs → more_size (text_measure names) gs j ≤ more_size (text_measure names) fs j
    more_cut_width fs gs j no_member o = omega arith
    more_cut_width fs gs j (one_more h hs) o = let k = cut_member _ _ h o.0 in let l = more_cut_width _ _ j hs o.1 in omega arith
