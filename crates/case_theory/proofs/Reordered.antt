-- Values of one name each make one point in any order.
use Rattle.std.proofs.Common.{◌≡◌, ℕ, Bool, true, false, List, [], ◌∷◌, inl, inr, ⊎_elim, refl, sym, ap, ◌∙◌, subst, nat_eq, eqb-true, eq-eqb, if◌then◌else◌, unsigned_abs}
use Rattle.std.proofs.Math.IntN.{ℤ, pos, ◌*ℤ◌}
use Rattle.std.specs.Prelude.{◌<ℤ◌}
use Rattle.exact_numbers.proofs.Ring.{mul_comm, mul_assoc, mul_left_comm}
use Rattle.exact_numbers.proofs.Order.{cancel_positive}
use Rattle.logic_meaning.specs.Context.{Context}
use Rattle.logic_meaning.specs.Point.{Point, Of}
use Rattle.formula_laws.specs.Points.{IsSamePoint}
use Rattle.formula_laws.specs.StandsOnce.{StandsOnce}
use Rattle.logic_meaning.specs.Shape.{is_in}
use Rattle.logic_meaning.specs.Some.{Among, EachOf}
use Rattle.logic_meaning.specs.Atom.{Says}
use Rattle.logic_meaning.specs.Tree.{Tree, TrueAt}
use Rattle.formula_laws.proofs.TreeFiner.{tree_same_point}
use Rattle.elimination_theory.proofs.SomeListed.{each_among}
use Rattle.logic_meaning.specs.Cases.{case_formula, case_matrix, case_names}
use Rattle.case_theory.specs.Block.{DifferIn}
use Rattle.case_theory.specs.CaseTree.{without_all}
use Rattle.case_theory.specs.Under.{Lack}
use Rattle.case_theory.proofs.Block.{block_somewhere}
use Rattle.case_theory.proofs.Leading.{block_is}
use Rattle.case_theory.proofs.Lists.{once_head, each_from}
use Rattle.case_theory.proofs.Moved.{moved_here, moved_below}
use Rattle.case_theory.proofs.Pending.{atoms_elsewhere}
use Rattle.case_theory.proofs.Without.{without_all_each, without_all_lack}
use Rattle.logic_meaning.specs.Values.{Value, value_names, with_value, with_values, IsValue}
use Rattle.sample_reference.proofs.Chain.{others_stay}
use Rattle.sample_reference.proofs.SamePoints.{abs_positive, values_of_theory}
use Rattle.case_theory.specs.Reordered.{AreReordered, CaseGivesSample}
use Rattle.case_theory.proofs.Moving.{below_positive}

-- ---- names in a list

pub not_both : (b : Bool) → b ≡ true → b ≡ false → ⊥
not_both true e f = absurd cc
not_both false e f = absurd cc

pub among_listed : (y : ℕ) (xs : List ℕ) → Among xs y → is_in nat_eq y xs ≡ true
among_listed y [] m = absurd m
among_listed y (x ∷ xs) (inl e) = ap (λ (b : Bool). if b then true else is_in nat_eq y xs) (eq-eqb y x (sym e))
among_listed y (x ∷ xs) (inr m) = ap (λ (b : Bool). if nat_eq y x then true else b) (among_listed y xs m) ∙ either (nat_eq y x)
  where
    either : (b : Bool) → (if b then true else true) ≡ true
    either true = refl
    either false = refl

pub listed_among : (y : ℕ) (xs : List ℕ) → is_in nat_eq y xs ≡ true → Among xs y
listed_among y [] e = absurd cc
listed_among y (x ∷ xs) e = go (nat_eq y x) refl e (listed_among y xs)
  where
    go : (b : Bool) → nat_eq y x ≡ b → (if b then true else is_in nat_eq y xs) ≡ true → (is_in nat_eq y xs ≡ true → Among xs y) → Among (x ∷ xs) y
    go true d h ih = inl (sym (eqb-true y x d))
    go false d h ih = inr (ih h)

not_listed : (y : ℕ) (xs : List ℕ) → ¬ (Among xs y) → is_in nat_eq y xs ≡ false
not_listed y xs n = go (is_in nat_eq y xs) refl
  where
    go : (b : Bool) → is_in nat_eq y xs ≡ b → b ≡ false
    go true e = absurd (n (listed_among y xs e))
    go false e = refl

pub value_among : (vs : List Value) (v : Value) → Among vs v → Among (value_names vs) v.name
value_among [] v m = absurd m
value_among (u ∷ vs) v (inl e) = inl (ap (λ (w : Value). w.name) e)
value_among (u ∷ vs) v (inr m) = inr (value_among vs v m)

-- names that stand once have one value
one_named : (vs : List Value) (u v : Value) → StandsOnce (value_names vs) → Among vs u → Among vs v → u.name ≡ v.name → u ≡ v
one_named [] u v h m n e = absurd m
one_named (w ∷ vs) u v h (inl i) (inl j) e = sym i ∙ j
one_named (w ∷ vs) u v h (inl i) (inr n) e = absurd (once_head w.name (value_names vs) h (subst (Among (value_names vs)) (sym e ∙ sym (ap (λ (z : Value). z.name) i)) (value_among vs v n)))
one_named (w ∷ vs) u v h (inr m) (inl j) e = absurd (once_head w.name (value_names vs) h (subst (Among (value_names vs)) (e ∙ sym (ap (λ (z : Value). z.name) j)) (value_among vs u m)))
one_named (w ∷ vs) u v h (inr m) (inr n) e = one_named vs u v h.1 m n e

-- ---- the value of a name

-- y has the value of one of the list
pub record HasValue (vs : List Value) (p : Point ℕ) (y : ℕ) : Type 0 where
  pub value : Value
  pub among : Among vs value
  pub named : value.name ≡ y
  pub here : (with_values p vs).at y *ℤ value.at.denominator ≡ value.at.numerator *ℤ pos (with_values p vs).below

set_here : (a b n d e : ℤ) → pos 0 <ℤ b → a *ℤ (b *ℤ d) ≡ (n *ℤ b) *ℤ e → a *ℤ d ≡ n *ℤ e
set_here a b n d e h f = cancel_positive b h (mul_left_comm b a d ∙ f ∙ ap (λ z. z *ℤ e) (mul_comm n b) ∙ mul_assoc b n e)

module _ (c : Context) where
  last_value : (v : Value) (vs : List Value) (p : Point ℕ) → Of c p → EachOf (IsValue c) (v ∷ vs) → is_in nat_eq v.name (value_names vs) ≡ false →
      (with_values (with_value p v) vs).at v.name *ℤ v.at.denominator ≡ v.at.numerator *ℤ pos (with_values (with_value p v) vs).below
  last_value v vs p o each e =
      let m = unsigned_abs v.at.denominator in
      let k = v.at.numerator *ℤ pos p.below in
      set_here ((with_values (with_value p v) vs).at v.name) (pos p.below) v.at.numerator v.at.denominator (pos (with_values (with_value p v) vs).below) (below_positive c p o)
      (ap (λ z. (with_values (with_value p v) vs).at v.name *ℤ z) (ap (λ z. pos p.below *ℤ z) (sym (abs_positive v.at.denominator each.0.proper)) ∙ sym (moved_below p v.name k m))
      ∙ others_stay c vs (with_value p v) each.1 v.name e
      ∙ ap (λ z. z *ℤ pos (with_values (with_value p v) vs).below) (moved_here p v.name k m))

  pub has_value : (vs : List Value) (p : Point ℕ) (y : ℕ) → Of c p → EachOf (IsValue c) vs → Among (value_names vs) y → HasValue vs p y
  has_value [] p y o each m = absurd m
  has_value (v ∷ vs) p y o each m = go (is_in nat_eq y (value_names vs)) refl (λ n. has_value vs (with_value p v) y (values_of_theory c (v ∷ []) p (each.0, tt) o) each.1 n)
    where
      further : HasValue vs (with_value p v) y → HasValue (v ∷ vs) p y
      further h = record { value = h.value; among = inr h.among; named = h.named; here = h.here }

      first : v.name ≡ y → is_in nat_eq y (value_names vs) ≡ false → HasValue (v ∷ vs) p y
      first e f = record {
        value = v;
        among = inl refl;
        named = e;
        here = subst (λ z. (with_values p (v ∷ vs)).at z *ℤ v.at.denominator ≡ v.at.numerator *ℤ pos (with_values p (v ∷ vs)).below) e
            (last_value v vs p o each (ap (λ z. is_in nat_eq z (value_names vs)) e ∙ f));
      }

      go : (b : Bool) → is_in nat_eq y (value_names vs) ≡ b → (Among (value_names vs) y → HasValue vs (with_value p v) y) → HasValue (v ∷ vs) p y
      go true e ih = further (ih (listed_among y (value_names vs) e))
      go false e ih = ⊎_elim (λ i. first i e) (λ n. absurd (not_both (is_in nat_eq y (value_names vs)) (among_listed y (value_names vs) n) e)) m

  -- ---- one point in two orders

  pub cross_here : (a s n d b e : ℤ) → pos 0 <ℤ d → a *ℤ d ≡ n *ℤ b → s *ℤ d ≡ n *ℤ e → a *ℤ e ≡ s *ℤ b
  cross_here a s n d b e h f g =
      cancel_positive d h
      (mul_left_comm d a e ∙ sym (mul_assoc a d e) ∙ ap (λ z. z *ℤ e) f ∙ mul_assoc n b e ∙ ap (λ z. n *ℤ z) (mul_comm b e) ∙ sym (mul_assoc n e b) ∙ ap (λ z. z *ℤ b) (sym g) ∙ mul_assoc s d b
      ∙ mul_left_comm s d b)

  module _ (values ordered : List Value) (p : Point ℕ) (o : Of c p) (each : EachOf (IsValue c) values) (r : AreReordered values ordered) where
    pub each_ordered : EachOf (IsValue c) ordered
    each_ordered = each_from (IsValue c) ordered (λ v m. each_among (IsValue c) values v each ((r.same v).1 m))

    among_ordered : (y : ℕ) → Among (value_names values) y → Among (value_names ordered) y
    among_ordered y m = let h = has_value values p y o each m in subst (Among (value_names ordered)) h.named (value_among ordered h.value ((r.same h.value).0 h.among))

    among_values : (y : ℕ) → Among (value_names ordered) y → Among (value_names values) y
    among_values y m = let h = has_value ordered p y o each_ordered m in subst (Among (value_names values)) h.named (value_among values h.value ((r.same h.value).1 h.among))

    pub same_ordered : IsSamePoint (with_values p values) (with_values p ordered)
    same_ordered = record { same_value = λ y. go y (is_in nat_eq y (value_names values)) refl }
      where
        here : (y : ℕ) → Among (value_names values) y → (with_values p values).at y *ℤ pos (with_values p ordered).below ≡ (with_values p ordered).at y *ℤ pos (with_values p values).below
        here y m =
            let h = has_value values p y o each m in
            let g = has_value ordered p y o each_ordered (among_ordered y m) in
            let same = one_named values g.value h.value r.once ((r.same g.value).1 g.among) h.among (g.named ∙ sym h.named) in
            cross_here _ _ h.value.at.numerator h.value.at.denominator _ _ (each_among (IsValue c) values h.value each h.among).proper h.here
            (subst (λ (v : Value). (with_values p ordered).at y *ℤ v.at.denominator ≡ v.at.numerator *ℤ pos (with_values p ordered).below) same g.here)

        go : (y : ℕ) (b : Bool) → is_in nat_eq y (value_names values) ≡ b → (with_values p values).at y *ℤ pos (with_values p ordered).below ≡ (with_values p ordered).at y *ℤ pos (with_values p values).below
        go y true e = here y (listed_among y (value_names values) e)
        go y false e =
            cross_here _ _ (p.at y) (pos p.below) _ _ (below_positive c p o) (others_stay c values p each y e)
            (others_stay c ordered p each_ordered y (not_listed y (value_names ordered) (λ m. not_both (is_in nat_eq y (value_names values)) (among_listed y (value_names values) (among_values y m)) e)))

-- ---- a sample of the formula

pub case_gives : (c : Context) → CaseGivesSample c
case_gives c theory f matrix answers p values ordered o t means a r names =
    let ks = without_all (case_names f) theory in
    let each = each_ordered c values ordered p o a.each r in
    let q = with_values p ordered in
    let oq = values_of_theory c ordered p each o in
    let there = (tree_same_point c matrix (with_values p values) q (values_of_theory c values p a.each o) oq (same_ordered c values ordered p o a.each r)).0 a.true_with in
    let d : DifferIn (Among (case_names f)) p q = record {
      elsewhere = λ y n. others_stay c ordered p each y (not_listed y (value_names ordered) (λ m. n (subst (λ ns. Among ns y) names m)));
    } in
    let kt = atoms_elsewhere c (Among (case_names f)) ks p q o oq d (λ y m. each_among (Lack ks) (case_names f) y (without_all_lack (case_names f) theory) m) (without_all_each (λ k. Says k p) (case_names f) theory t) in
    let case_true = (means q oq kt).1 there in
    record {
      asked = subst (λ (g : Tree). TrueAt c g p) (block_is (case_formula f) []) ((block_somewhere c (case_names f) (case_matrix f) p o).1 (q, oq, d, case_true));
      names = names;
      each = each;
      matrix = case_true;
    }
