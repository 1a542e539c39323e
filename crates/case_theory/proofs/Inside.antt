-- The branches of a block inside a formula.
use Rattle.std.proofs.Common.{ℕ, List, [], ◌∷◌, inl, inr, ⊎_elim, ◌↔◌, sym, subst}
use Rattle.logic_meaning.specs.Context.{Context}
use Rattle.logic_meaning.specs.Point.{Point}
use Rattle.logic_meaning.specs.Formula.{Or, none, also}
use Rattle.logic_meaning.specs.Every.{EveryOf, FreeInSome}
use Rattle.logic_meaning.specs.Plain.{ArePlain}
use Rattle.logic_meaning.specs.Some.{SomeOf, Among, EachOf}
use Rattle.logic_meaning.specs.Atom.{Atom, Mentions}
use Rattle.logic_meaning.specs.Answer.{Place}
use Rattle.logic_meaning.specs.Tree.{Tree, Trees, IsFree}
use Rattle.formula_laws.proofs.Listed.{among_right, among_append}
use Rattle.logic_meaning.specs.Steps.{Result}
use Rattle.elimination_theory.proofs.SomeListed.{each_map, each_among}
use Rattle.logic_meaning.specs.NormalForm.{IsNormal}
use Rattle.elimination_theory.specs.Theorems.{IsTidy, AreBranching}
use Rattle.case_theory.specs.Under.{Lack}
use Rattle.case_theory.specs.Block.{Somewhere}
use Rattle.case_theory.specs.Children.{IsChild}
use Rattle.case_theory.specs.Pending.{Pending, eliminated, IsPending, IsRest, child, children}
use Rattle.case_theory.specs.Inside.{IsPendingInside, PendingIsInside, InsideGoesOn, parts, InsideIsSplit, InsideCoveredMayGo}
use Rattle.case_theory.proofs.Pending.{left_once, replaced_by, this_one, each_replaced, each_without, together_replaced, together_without}

-- ---- how it begins

is_inside : (c : Context) (ks : List Atom) (matrix : Tree) (block : List ℕ) (b : Pending) → IsPending c ks matrix block b → IsPendingInside c matrix block b
is_inside c ks matrix block b i = record {
  tidy = i.tidy;
  once = left_once block (eliminated b) b.left i.share;
  of_block = λ y m. (i.share.same y).0 (among_right (eliminated b) b.left y m);
  names = λ y t. let k = i.names y t in (k.0, λ m. ⊎_elim (λ done. absurd (k.1 done)) (λ n. n) (among_append (eliminated b) b.left y ((i.share.same y).1 m)));
}

pub pending_inside : (c : Context) → PendingIsInside c
pending_inside c ks matrix block bs a = record {
  lack = a.lack;
  each = each_map (IsPending c ks matrix block) (IsPendingInside c matrix block) (is_inside c ks matrix block) bs a.each;
  together = a.together;
}

-- ---- one step

module _ (c : Context) (ks : List Atom) (matrix : Tree) (block : List ℕ) (b : Pending) (is : IsPendingInside c matrix block b) (x : ℕ) (left : List ℕ) (rest : IsRest x b.left left) (points : List Place) where
  child_inside : (r : Result) → IsChild c ks x b.tree points r → IsPendingInside c matrix block (child x b left r)
  child_inside r i = record {
    tidy = i.tidy;
    once = rest.once;
    of_block = λ y m. is.of_block y ((rest.same y).0 m).1;
    names = λ y t. let u = i.names y t in let k = is.names y u.1 in (k.0, λ m. (rest.same y).1 (u.0, k.1 m));
  }

  children_inside : (us : List Result) → EachOf (IsChild c ks x b.tree points) us → EachOf (IsPendingInside c matrix block) (children x b left us)
  children_inside [] h = tt
  children_inside (r ∷ us) h = (child_inside r h.0, children_inside us h.1)

pub inside_goes_on : (c : Context) → InsideGoesOn c
inside_goes_on c ks matrix block before b rest x left points rs a m r ps cs =
    let P = IsPendingInside c matrix block in
    let is = this_one P before b rest a.each in
    record {
      lack = a.lack;
      each = each_replaced P before b rest (children x b left rs) a.each (children_inside c ks matrix block b is x left r points rs cs.each);
      together = together_replaced c ks matrix block before b rest a.together (children x b left rs) (replaced_by c ks b (λ y n. each_among (Lack ks) block y a.lack (is.of_block y n)) x left m r points ps rs cs);
    }

-- ---- a disjunction split

module _ (c : Context) (matrix : Tree) (block : List ℕ) (b : Pending) (is : IsPendingInside c matrix block b) where
  parts_inside : (fs : Trees) → ArePlain fs → EveryOf (IsNormal c) fs → AreBranching fs → ((y : ℕ) → FreeInSome Mentions fs y → IsFree b.tree y) → EachOf (IsPendingInside c matrix block) (parts b fs)
  parts_inside none plain normal two free = tt
  parts_inside (also f fs) plain normal two free = (
    record {
      tidy = record { is_plain = plain.0; normal = normal.0; two_members = two.1 };
      once = is.once;
      of_block = is.of_block;
      names = λ y t. is.names y (free y (inl t));
    },
    parts_inside fs plain.1 normal.1 two.2 (λ y t. free y (inr t)),
  )

  parts_true : (fs : Trees) (p : Point ℕ) → Somewhere c (Among b.left) (Or fs) p ↔ SomeOf (λ (d : Pending). Somewhere c (Among d.left) d.tree p) (parts b fs)
  parts_true none p = (λ s. s.3, absurd)
  parts_true (also f fs) p =
      let i = parts_true fs p in (
        λ s. ⊎_elim (λ t. inl (s.0, s.1, s.2, t)) (λ t. inr (i.0 (s.0, s.1, s.2, t))) s.3,
        ⊎_elim (λ s. (s.0, s.1, s.2, inl s.3)) (λ h. let s = i.1 h in (s.0, s.1, s.2, inr s.3)),
      )

pub inside_is_split : (c : Context) → InsideIsSplit c
inside_is_split c ks matrix block before b rest fs a e =
    let P = IsPendingInside c matrix block in
    let is = this_one P before b rest a.each in
    let tidy : IsTidy c (Or fs) = subst (IsTidy c) e is.tidy in
    record {
      lack = a.lack;
      each = each_replaced P before b rest (parts b fs) a.each (parts_inside c matrix block b is fs tidy.is_plain tidy.normal tidy.two_members.1 (λ y t. subst (λ (f : Tree). IsFree f y) (sym e) t));
      together = together_replaced c ks matrix block before b rest a.together (parts b fs)
          (λ p o t. subst (λ (f : Tree). Somewhere c (Among b.left) f p ↔ SomeOf (λ (d : Pending). Somewhere c (Among d.left) d.tree p) (parts b fs)) (sym e) (parts_true c matrix block b is fs p));
    }

-- ---- a branch that others cover

pub inside_covered_goes : (c : Context) → InsideCoveredMayGo c
inside_covered_goes c ks matrix block before b rest a covered = record {
  lack = a.lack;
  each = each_without (IsPendingInside c matrix block) before b rest a.each;
  together = together_without c ks matrix block before b rest a.together covered;
}
