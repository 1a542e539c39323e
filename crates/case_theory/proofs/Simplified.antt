-- Tidy formulas and those that are simplified under assumptions.
use Rattle.std.proofs.Common.{List}
use Rattle.exact_numbers.specs.Limit.{InLimit}
use Rattle.logic_meaning.specs.Context.{Context}
use Rattle.logic_meaning.specs.Formula.{Yes, No, One, Not, And, Or, Impl, Repl, Equiv, Ex, All, none, also}
use Rattle.logic_meaning.specs.Every.{Every, EveryOf}
use Rattle.logic_meaning.specs.Atom.{Atom, Mentions, form_of}
use Rattle.logic_meaning.specs.Shape.{IsQuantifierFree, AreQuantifierFree}
use Rattle.logic_meaning.specs.Plain.{IsPlain, ArePlain}
use Rattle.logic_meaning.specs.declared.junction.Junction.{Junction}
use Rattle.logic_meaning.specs.declared.junction.Junction.TheVariants.{Conjunction, Disjunction}
use Rattle.logic_meaning.specs.Tree.{Tree, Trees}
use Rattle.logic_meaning.specs.NormalForm.{IsNormal, negated_normal}
use Rattle.normal_atoms.specs.Computed.{IsNormalWithin}
use Rattle.logic_meaning.specs.Merging.{IsKept}
use Rattle.logic_meaning.specs.Contained.{contains}
use Rattle.shape_theory.specs.Orderly.{IsOrderly, AreOrderly}
use Rattle.logic_meaning.specs.Reduced.{MayStand, under, ReducedInside, MembersReduced}
use Rattle.logic_meaning.specs.Trees.{LeavesOpen, IsReduced}
use Rattle.shape_theory.specs.Simplifiable.{simplified_under}
use Rattle.shape_theory.proofs.TreeLaws.{keeps_truth, keeps_shape, brings_no_name, brings_no_quantifier, is_reduced}
use Rattle.elimination_theory.specs.Theorems.{IsProper, IsBranching, AreBranching}
use Rattle.case_theory.specs.Simplified.{HasConstantsWithin, TidyIsSimplifiable, ReducedIsTidy, SimplifyingIsWork}
use Rattle.case_theory.proofs.Under.{under_turn}

module _ (c : Context) where
  mutual
    orderly : (f : Tree) → IsPlain f → Every (IsNormal c) f → IsBranching f → HasConstantsWithin f → IsOrderly (IsNormalWithin c) f
    orderly Yes p n b w = tt
    orderly No p n b w = tt
    orderly (One a) p n b w = record { normal = n; within = w }
    orderly (Not f) p n b w = absurd p
    orderly (And fs) p n b w = (b.0, all_orderly fs p n b.1 w)
    orderly (Or fs) p n b w = (b.0, all_orderly fs p n b.1 w)
    orderly (Impl f g) p n b w = absurd p
    orderly (Repl f g) p n b w = absurd p
    orderly (Equiv f g) p n b w = absurd p
    orderly (Ex x f) p n b w = absurd p
    orderly (All x f) p n b w = absurd p

    all_orderly : (fs : Trees) → ArePlain fs → EveryOf (IsNormal c) fs → AreBranching fs → EveryOf (λ (a : Atom). InLimit (form_of a).constant) fs → AreOrderly (IsNormalWithin c) fs
    all_orderly none p n b w = tt
    all_orderly (also f fs) p n b w = (orderly f p.0 n.0 b.1 w.0, all_orderly fs p.1 n.1 b.2 w.1)

  pub tidy_simplifiable : TidyIsSimplifiable c
  tidy_simplifiable f h w = orderly f h.is_plain h.normal h.two_members w

  mutual
    orderly_plain : (f : Tree) → IsOrderly (IsNormalWithin c) f → IsQuantifierFree f → IsPlain f × Every (IsNormal c) f
    orderly_plain Yes o q = (tt, tt)
    orderly_plain No o q = (tt, tt)
    orderly_plain (One a) o q = (tt, o.normal)
    orderly_plain (Not f) o q = absurd o
    orderly_plain (And fs) o q = all_plain fs o.1 q
    orderly_plain (Or fs) o q = all_plain fs o.1 q
    orderly_plain (Impl f g) o q = absurd o
    orderly_plain (Repl f g) o q = absurd o
    orderly_plain (Equiv f g) o q = absurd o
    orderly_plain (Ex x f) o q = absurd q
    orderly_plain (All x f) o q = absurd q

    all_plain : (fs : Trees) → AreOrderly (IsNormalWithin c) fs → AreQuantifierFree fs → ArePlain fs × EveryOf (IsNormal c) fs
    all_plain none o q = (tt, tt)
    all_plain (also f fs) o q = let i = orderly_plain f o.0 q.0 in let j = all_plain fs o.1 q.1 in ((i.0, j.0), (i.1, j.1))

  -- what may stand in a list is no constant
  proper : (j : Junction) (f : Tree) → MayStand j f → IsProper f
  proper Conjunction Yes m = m
  proper Conjunction No m = m
  proper Conjunction (One a) m = tt
  proper Conjunction (Not f) m = tt
  proper Conjunction (And fs) m = tt
  proper Conjunction (Or fs) m = tt
  proper Conjunction (Impl f g) m = tt
  proper Conjunction (Repl f g) m = tt
  proper Conjunction (Equiv f g) m = tt
  proper Conjunction (Ex x f) m = tt
  proper Conjunction (All x f) m = tt
  proper Disjunction Yes m = m
  proper Disjunction No m = m
  proper Disjunction (One a) m = tt
  proper Disjunction (Not f) m = tt
  proper Disjunction (And fs) m = tt
  proper Disjunction (Or fs) m = tt
  proper Disjunction (Impl f g) m = tt
  proper Disjunction (Repl f g) m = tt
  proper Disjunction (Equiv f g) m = tt
  proper Disjunction (Ex x f) m = tt
  proper Disjunction (All x f) m = tt

  Inside : Tree → List Atom → Type 0
  Inside f ks = ReducedInside (IsKept c) (LeavesOpen c) negated_normal contains Mentions f ks

  mutual
    unfolding Inside

    inside_branching : (f : Tree) (ks : List Atom) → IsOrderly (IsNormalWithin c) f → Inside f ks → IsBranching f
    inside_branching Yes ks o r = tt
    inside_branching No ks o r = tt
    inside_branching (One a) ks o r = tt
    inside_branching (Not f) ks o r = absurd o
    inside_branching (And fs) ks o r = (o.0, members_branching fs Conjunction ks _ o.1 r.3)
    inside_branching (Or fs) ks o r = (o.0, members_branching fs Disjunction ks _ o.1 r.3)
    inside_branching (Impl f g) ks o r = absurd o
    inside_branching (Repl f g) ks o r = absurd o
    inside_branching (Equiv f g) ks o r = absurd o
    inside_branching (Ex x f) ks o r = inside_branching f _ o r.1
    inside_branching (All x f) ks o r = inside_branching f _ o r.1

    members_branching : (fs : Trees) (j : Junction) (ks ls : List Atom) → AreOrderly (IsNormalWithin c) fs → MembersReduced (IsKept c) (LeavesOpen c) negated_normal contains Mentions fs j ks ls → AreBranching fs
    members_branching none j ks ls o r = tt
    members_branching (also f fs) j ks ls o r = (proper j f r.0, inside_branching f (under f ks ls) o.0 r.1, members_branching fs j ks ls o.1 r.2)

  reduced_branching : (f : Tree) (ks : List Atom) → IsOrderly (IsNormalWithin c) f → IsReduced c f ks → IsBranching f
  unfolding Inside
  reduced_branching Yes ks o r = tt
  reduced_branching No ks o r = tt
  reduced_branching (One a) ks o r = tt
  reduced_branching (Not f) ks o r = absurd o
  reduced_branching (And fs) ks o r = inside_branching (And fs) ks o r
  reduced_branching (Or fs) ks o r = inside_branching (Or fs) ks o r
  reduced_branching (Impl f g) ks o r = absurd o
  reduced_branching (Repl f g) ks o r = absurd o
  reduced_branching (Equiv f g) ks o r = absurd o
  reduced_branching (Ex x f) ks o r = inside_branching (Ex x f) ks o r
  reduced_branching (All x f) ks o r = inside_branching (All x f) ks o r

  pub reduced_tidy : ReducedIsTidy c
  reduced_tidy ks f o q r = let p = orderly_plain f o q in record { is_plain = p.0; normal = p.1; two_members = reduced_branching f ks o r }

  mutual
    pub plain_free : (f : Tree) → IsPlain f → IsQuantifierFree f
    plain_free Yes p = tt
    plain_free No p = tt
    plain_free (One a) p = tt
    plain_free (Not f) p = absurd p
    plain_free (And fs) p = all_plain_free fs p
    plain_free (Or fs) p = all_plain_free fs p
    plain_free (Impl f g) p = absurd p
    plain_free (Repl f g) p = absurd p
    plain_free (Equiv f g) p = absurd p
    plain_free (Ex x f) p = absurd p
    plain_free (All x f) p = absurd p

    all_plain_free : (fs : Trees) → ArePlain fs → AreQuantifierFree fs
    all_plain_free none p = tt
    all_plain_free (also f fs) p = (plain_free f p.0, all_plain_free fs p.1)

  pub simplifying_works : SimplifyingIsWork c
  simplifying_works ks f k h w =
      let o = tidy_simplifiable f h w in
      record {
        equivalent = under_turn c ks (simplified_under c ks f) f (keeps_truth c ks f k o);
        tidy = reduced_tidy ks (simplified_under c ks f) (keeps_shape c ks f o) (brings_no_quantifier c ks f o (plain_free f h.is_plain)) (is_reduced c ks f k o);
        names = brings_no_name c ks f o;
      }
