-- The list of branches of a block: it begins as the matrix, and any name of any branch may be taken next.
use Rattle.std.proofs.Common.{◌≡◌, ℕ, List, [], ◌∷◌, ◌++◌, sym, ◌∙◌, subst, refl, arith, inl, inr, ⊎_elim, ◌⊎◌, ◌↔◌}
use Rattle.std.proofs.Math.IntN.{pos}
use Rattle.std.proofs.lemmas.Bool.{cases_eq}
use Rattle.exact_numbers.proofs.Ring.{mul_comm}
use Rattle.logic_meaning.specs.Context.{Context}
use Rattle.logic_meaning.specs.Point.{Point, Of}
use Rattle.formula_laws.specs.Points.{finer, AgreeOn}
use Rattle.logic_meaning.specs.Formula.{One, Ex}
use Rattle.formula_laws.specs.StandsOnce.{StandsOnce}
use Rattle.logic_meaning.specs.Some.{SomeOf, Among, EachOf}
use Rattle.logic_meaning.specs.Atom.{Atom}
use Rattle.logic_meaning.specs.Answer.{Answer, Place}
use Rattle.logic_meaning.specs.Tree.{Tree, TrueAt, IsFree}
use Rattle.formula_laws.proofs.Iff.{both_ways, turn_round}
use Rattle.formula_laws.proofs.Listed.{some_among, among_some, among_left, among_right, among_append}
use Rattle.formula_laws.proofs.FreeNames.{tree_agrees}
use Rattle.formula_laws.proofs.TreeFiner.{tree_finer}
use Rattle.elimination_theory.specs.Places.{substitution}
use Rattle.logic_meaning.specs.Steps.{Result}
use Rattle.logic_meaning.specs.Answers.{answers_of}
use Rattle.elimination_theory.proofs.SomeListed.{each_left, each_right, each_append, each_among, some_left, some_right, some_either, some_map, some_mapped, some_of_mapped}
use Rattle.elimination_theory.specs.CasesOver.{AreOver}
use Rattle.elimination_theory.proofs.Tidy.{tidy_in}
use Rattle.case_theory.specs.PutThrough.{AreTrue}
use Rattle.case_theory.specs.Under.{Lack}
use Rattle.case_theory.specs.Block.{DifferIn, Somewhere}
use Rattle.case_theory.specs.Points.{IsPointFor, ArePointsFor}
use Rattle.case_theory.specs.Children.{IsChild, AreChildren}
use Rattle.case_theory.specs.Pending.{Pending, eliminated, ShareBlock, StaysFree, IsPending, PendingBegins, IsRest, child, children, PendingGoesOn, AreTogether, IsCovered, CoveredMayGo, OtherMayCover}
use Rattle.elimination_theory.proofs.PutIn.{of_allowed}
use Rattle.case_theory.proofs.Lists.{once_right, once_fewer, once_apart, once_more, some_middle}
use Rattle.case_theory.proofs.Block.{block_somewhere, somewhere_more, one_taken}
use Rattle.case_theory.proofs.Under.{under_self}

-- ---- points that differ in some names

-- what has none of the names has one truth at both
true_elsewhere : (c : Context) (P : ℕ → Type 0) (f : Tree) (p q : Point ℕ) → Of c p → Of c q → DifferIn P p q → ((y : ℕ) → IsFree f y → ¬ (P y)) → TrueAt c f p ↔ TrueAt c f q
unfolding finer
true_elsewhere c P f p q o u d n =
    both_ways (tree_finer c f p q.below (of_allowed c q u))
    (both_ways (tree_agrees c f (finer p q.below) (finer q p.below) agree) (turn_round (tree_finer c f q p.below (of_allowed c p o))))
  where
    agree : AgreeOn (IsFree f) (finer p q.below) (finer q p.below)
    agree = record {
      same_below = omega arith;
      same_at = λ y h. mul_comm (pos q.below) (p.at y) ∙ sym (d.elsewhere y (n y h)) ∙ mul_comm (q.at y) (pos p.below);
    }

-- atoms that lack the names stay true
pub atoms_elsewhere : (c : Context) (P : ℕ → Type 0) (ks : List Atom) (p q : Point ℕ) → Of c p → Of c q → DifferIn P p q → ((y : ℕ) → P y → Lack ks y) → AreTrue ks p → AreTrue ks q
atoms_elsewhere c P [] p q o u d n t = tt
atoms_elsewhere c P (k ∷ ks) p q o u d n t = ((true_elsewhere c P (One k) p q o u d (λ y h i. (n y i).0 h)).0 t.0, atoms_elsewhere c P ks p q o u d (λ y i. (n y i).1) t.1)

pub over_more : (P Q : ℕ → Type 0) → ((y : ℕ) → P y → Q y) → (answers : List Answer) → AreOver P answers → AreOver Q answers
over_more P Q h [] t = tt
over_more P Q h (a ∷ rest) t = (λ y m. h y (t.0 y m), over_more (λ y. P y ⊎ (a.name ≡ y)) (λ y. Q y ⊎ (a.name ≡ y)) (λ y. ⊎_elim (λ u. inl (h y u)) (λ e. inr e)) rest t.1)

-- ---- how it begins

pub pending_begins : (c : Context) → PendingBegins c
pending_begins c ks matrix block tidy lack once = record {
  lack = lack;
  each = (
    record {
      lead = under_self c ks matrix;
      tidy = tidy;
      share = record { once = once; same = λ y. (λ m. m, λ m. m) };
      names = λ y t. (t, λ m. m);
      over = tt;
    },
    tt,
  );
  together = λ p o t. let e = block_somewhere c block matrix p o in (λ u. inl (e.0 u), ⊎_elim e.1 absurd);
}

-- the names that are left stand once
pub left_once : (block done left : List ℕ) → ShareBlock block done left → StandsOnce left
left_once block done left s = once_right done left s.once

-- ---- one step

-- x goes from the names left to those done
share_next : (block done left rest : List ℕ) (x : ℕ) → ShareBlock block done left → Among left x → IsRest x left rest → ShareBlock block (x ∷ done) rest
share_next block done left rest x s m r =
    record {
      once = once_more x (done ++ rest) apart (once_fewer done left rest r.once (λ z n. ((r.same z).0 n).1) s.once);
      same = λ y. (
        ⊎_elim (λ e. (s.same y).0 (subst (λ z. Among (done ++ left) z) e (among_right done left x m)))
            (λ n. (s.same y).0 (⊎_elim (among_left done left y) (λ i. among_right done left y (((r.same y).0 i).1)) (among_append done rest y n))),
        λ n. ⊎_elim (λ i. inr (among_left done rest y i)) (λ i. elim (cases_eq x y) [ inl e ↦ inl e | inr d ↦ inr (among_right done rest y ((r.same y).1 (d, i))) ]) (among_append done left y ((s.same y).1 n)),
      );
    }
  where
    apart : ¬ (Among (done ++ rest) x)
    apart n = ⊎_elim (once_apart done left x s.once m) (λ i. ((r.same x).0 i).0 refl) (among_append done rest x n)

-- somewhere with the name and those left is somewhere in a child with those left
module _ (c : Context) (ks : List Atom) (b : Pending) (lacks : (y : ℕ) → Among b.left y → Lack ks y) (x : ℕ) (left : List ℕ) (m : Among b.left x) (rest : IsRest x b.left left) (points : List Place)
    (ps : ArePointsFor c x b.tree points) (rs : List Result) (cs : AreChildren c ks x b.tree points rs) where
  module _ (p : Point ℕ) (o : Of c p) (t : AreTrue ks p) where
    true_at : (q : Point ℕ) → Of c q → DifferIn (Among left) p q → AreTrue ks q
    true_at q u d = atoms_elsewhere c (Among left) ks p q o u d (λ y n. lacks y (((rest.same y).0 n).1)) t

    -- ex(x, ..) is true somewhere exactly where some child is
    some_child : Somewhere c (Among left) (Ex x b.tree) p ↔ SomeOf (λ (r : Result). Somewhere c (Among left) r.tree p) rs
    some_child = (
      λ s. some_map (λ (r : Result). TrueAt c r.tree s.0) (λ (r : Result). Somewhere c (Among left) r.tree p) rs (λ r u. (s.0, s.1, s.2, u))
          (cs.whole s.0 s.1 (true_at s.0 s.1 s.2) ((ps.exact s.0 s.1).0 s.3)),
      λ h.
          let r = some_among (λ (r : Result). Somewhere c (Among left) r.tree p) rs h in
          let i = each_among (IsChild c ks x b.tree points) rs r.0 cs.each r.1 in
          let s = r.2 in
          (s.0, s.1, s.2, (ps.exact s.0 s.1).1 (among_some (λ v. TrueAt c (substitution c x v b.tree) s.0) points r.0.place i.listed ((i.equivalent s.0 s.1 (true_at s.0 s.1 s.2)).1 s.3))),
    )

    pub replaced_by : Somewhere c (Among b.left) b.tree p ↔ SomeOf (λ (d : Pending). Somewhere c (Among d.left) d.tree p) (children x b left rs)
    replaced_by =
        both_ways (one_taken c (Among b.left) x b.tree p o m)
        (both_ways (
          somewhere_more c (λ y. ¬ (x ≡ y) × Among b.left y) (Among left) (Ex x b.tree) p (λ y. (rest.same y).1),
          somewhere_more c (Among left) (λ y. ¬ (x ≡ y) × Among b.left y) (Ex x b.tree) p (λ y. (rest.same y).0),
        )
        (both_ways some_child (
          some_mapped (λ (d : Pending). Somewhere c (Among d.left) d.tree p) (child x b left) rs,
          some_of_mapped (λ (d : Pending). Somewhere c (Among d.left) d.tree p) (child x b left) rs,
        )))

module _ (c : Context) (ks : List Atom) (matrix : Tree) (block : List ℕ) (lack : EachOf (Lack ks) block) (b : Pending) (is : IsPending c ks matrix block b)
    (x : ℕ) (left : List ℕ) (m : Among b.left x) (rest : IsRest x b.left left) (points : List Place) (ps : ArePointsFor c x b.tree points) where
  in_block : (y : ℕ) → Among b.left y → Among block y
  in_block y n = (is.share.same y).0 (among_right (eliminated b) b.left y n)

  lacks : (y : ℕ) → Among b.left y → Lack ks y
  lacks y n = each_among (Lack ks) block y lack (in_block y n)

  -- what stays free in ex(x, ..) is not x
  stays : (y : ℕ) → IsFree (Ex x b.tree) y → IsFree matrix y × ¬ (Among (x ∷ eliminated b) y)
  stays y t = let k = is.names y t.1 in (k.0, ⊎_elim t.0 k.1)

  child_is : (r : Result) → IsChild c ks x b.tree points r → IsPending c ks matrix block (child x b left r)
  child_is r i =
      let point = each_among (IsPointFor c x b.tree) points r.place ps.each i.listed in
      record {
        lead = (is.lead, record { suits = point.suits; is_plain = is.tidy.is_plain; in_context = tidy_in c b.tree is.tidy; equivalent = i.equivalent; lack = lacks x m });
        tidy = i.tidy;
        share = share_next block (eliminated b) b.left left x is.share m rest;
        names = λ y t. stays y (i.names y t);
        over = (
          λ y h. stays y (point.names y h),
          over_more (StaysFree matrix b) (λ y. (IsFree matrix y × ¬ (Among (x ∷ eliminated b) y)) ⊎ (x ≡ y))
              (λ y k. elim (cases_eq x y) [ inl e ↦ inr e | inr d ↦ inl (k.0, ⊎_elim d k.1) ]) (answers_of b.steps) is.over,
        );
      }

  children_are : (us : List Result) → EachOf (IsChild c ks x b.tree points) us → EachOf (IsPending c ks matrix block) (children x b left us)
  children_are [] h = tt
  children_are (r ∷ us) h = (child_is r h.0, children_are us h.1)

-- ---- a branch of the list replaced, or gone

pub each_replaced : {X : Type 0} (P : X → Type 0) (before : List X) (x : X) (rest xs : List X) → EachOf P (before ++ x ∷ rest) → EachOf P xs → EachOf P ((before ++ xs) ++ rest)
each_replaced P before x rest xs h k = each_append P (before ++ xs) rest (each_append P before xs (each_left P before (x ∷ rest) h) k) (each_right P before (x ∷ rest) h).1

pub each_without : {X : Type 0} (P : X → Type 0) (before : List X) (x : X) (rest : List X) → EachOf P (before ++ x ∷ rest) → EachOf P (before ++ rest)
each_without P before x rest h = each_append P before rest (each_left P before (x ∷ rest) h) (each_right P before (x ∷ rest) h).1

some_without : {X : Type 0} (P : X → Type 0) (before : List X) (x : X) (rest : List X) → (P x → SomeOf P (before ++ rest)) → SomeOf P (before ++ x ∷ rest) ↔ SomeOf P (before ++ rest)
some_without P before x rest h = (
  λ s. ⊎_elim (some_left P before rest) (⊎_elim h (some_right P before rest)) (some_either P before (x ∷ rest) s),
  λ s. ⊎_elim (some_left P before (x ∷ rest)) (λ t. some_right P before (x ∷ rest) (inr t)) (some_either P before rest s),
)

module _ (c : Context) (ks : List Atom) (matrix : Tree) (block : List ℕ) (before : List Pending) (b : Pending) (rest : List Pending) (a : AreTogether c ks matrix block (before ++ b ∷ rest)) where
  -- by others that are true together exactly where it is
  pub together_replaced : (bs : List Pending) → ((p : Point ℕ) → Of c p → AreTrue ks p → Somewhere c (Among b.left) b.tree p ↔ SomeOf (λ (d : Pending). Somewhere c (Among d.left) d.tree p) bs) →
      AreTogether c ks matrix block ((before ++ bs) ++ rest)
  together_replaced bs same p o t = both_ways (a p o t) (some_middle (λ (d : Pending). Somewhere c (Among d.left) d.tree p) before b bs rest (same p o t))

  -- where others cover it
  pub together_without : IsCovered c ks b (before ++ rest) → AreTogether c ks matrix block (before ++ rest)
  together_without covered p o t = both_ways (a p o t) (some_without (λ (d : Pending). Somewhere c (Among d.left) d.tree p) before b rest (covered p o t))

-- the branch itself
pub this_one : {X : Type 0} (P : X → Type 0) (before : List X) (x : X) (rest : List X) → EachOf P (before ++ x ∷ rest) → P x
this_one P before x rest h = (each_right P before (x ∷ rest) h).0

pub pending_goes_on : (c : Context) → PendingGoesOn c
pending_goes_on c ks matrix block before b rest x left points rs a m r ps cs =
    let P = IsPending c ks matrix block in
    let is = this_one P before b rest a.each in
    record {
      lack = a.lack;
      each = each_replaced P before b rest (children x b left rs) a.each (children_are c ks matrix block a.lack b is x left m r points ps rs cs.each);
      together = together_replaced c ks matrix block before b rest a.together (children x b left rs) (replaced_by c ks b (lacks c ks matrix block a.lack b is x left m r points ps) x left m r points ps rs cs);
    }

-- ---- a branch that others cover

pub covered_goes : (c : Context) → CoveredMayGo c
covered_goes c ks matrix block before b rest a covered = record {
  lack = a.lack;
  each = each_without (IsPending c ks matrix block) before b rest a.each;
  together = together_without c ks matrix block before b rest a.together covered;
}

pub other_covers : (c : Context) → OtherMayCover c
other_covers c ks b others d m = record {
  equal = λ e left p o t s.
      among_some (λ (d : Pending). Somewhere c (Among d.left) d.tree p) others d m
      (somewhere_more c (Among b.left) (Among d.left) d.tree p left (subst (λ (f : Tree). Somewhere c (Among b.left) f p) (sym e) s));
  true_one = λ e p o t s.
      among_some (λ (d : Pending). Somewhere c (Among d.left) d.tree p) others d m
      (subst (λ (f : Tree). Somewhere c (Among d.left) f p) (sym e) (p, o, record { elsewhere = λ y n. refl }, tt));
}
