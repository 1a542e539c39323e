-- What is read of a formula follows from what is read of its parts.
use Rattle.std.proofs.Common.{◌≡◌, ◌⊎◌, inl, inr, ⊎_elim, ℕ, suc, ◌<◌, max, true, false, List, [], ◌∷◌, ◌++◌, Option, Some, None, map, refl, arith, subst, sym, ap, ◌∙◌}
use Rattle.std.specs.Prelude.{◌↔◌, Result, Ok, Err, IfOk, OnOk}
use Rattle.std.specs.List.{AllByRecursion}
use Rattle.std.proofs.lemmas.List.{map-append}
use Rattle.std.specs.Option.{option_to_list}
use Rattle.logic_meaning.specs.Context.{Context}
use Rattle.logic_meaning.specs.Formula.{Yes, No, Not, And, Or, Impl, Repl, Equiv, Ex, All, also}
use Rattle.logic_meaning.specs.Tree.{Tree}
use Rattle.logic_meaning.specs.Replaced.{all_replaced}
use Rattle.logic_meaning.specs.Sizes.{greatest_height}
use Rattle.language_meaning.specs.Trees.{WrittenAtom, FormulaTree, formulas_of}
use Rattle.formula_tree.specs.declared.shape.Shape.{Shape}
use Rattle.formula_tree.specs.declared.shape.Shape.TheVariants as shape
use Rattle.formula_tree.specs.Trees.{members}
use Rattle.formula_tree.specs.Shapes.{tree_over}
use Rattle.formula_tree.specs.Makers.{IsMade, Keeps}
use Rattle.language_meaning.specs.Somewhere.{SomewhereIn, SomeAtom}
use Rattle.language_meaning.specs.Causes.{most_height, height_in_place, atom_in_place}
use Rattle.language_meaning.specs.Resolving.{BoundTrees, resolve, resolved_atom}
use Rattle.logic_meaning.specs.Names.{place}
use Rattle.language_meaning.specs.declared.static_error.StaticError.{StaticError}
use Rattle.formula_resolving.specs.declared.causes.Causes.{Causes}
use Rattle.formula_resolving.specs.declared.parts.Part.{Part}
use Rattle.formula_resolving.specs.declared.parts.Members.{Members}
use Rattle.logic_meaning.specs.declared.junction.Junction.{Junction}
use Rattle.logic_meaning.specs.declared.junction.Junction.TheVariants.{Conjunction, Disjunction}
use Rattle.logic_meaning.specs.declared.quantifier.Quantifier.{Quantifier}
use Rattle.logic_meaning.specs.declared.quantifier.Quantifier.TheVariants.{Exists, ForAll}
use Rattle.logic_meaning.specs.Fold.{joined}
use Rattle.logic_meaning.specs.Shape.{quantified}
use Rattle.formula_resolving.specs.declared.parts.Pair.{Pair}
use Rattle.formula_resolving.specs.declared.parts.Pair.TheVariants as pair
use Rattle.formula_resolving.specs.declared.parts.Opening.{Opening}
use Rattle.formula_resolving.specs.MetCauses.{flag, either, IsRefused, StandsIn}
use Rattle.formula_resolving.specs.Heights.{told, over}
use Rattle.formula_resolving.specs.Parts.{AreTold, IsPart, AreMembers, IsFinished}
use Rattle.formula_resolving.specs.Connectives.{joined_shape, pair_shape, opening_shape, negated_shape, paired, quantified_shape}
use Rattle.formula_resolving.specs.BoundIds.{AreIds, trees_bound}
use Rattle.formula_resolving.proofs.FirstCause.{flag_either, or_true}

pub some_same : {X : Type 0} {a b : X} → Some a ≡ Some b → a ≡ b
some_same e = cc

-- ---- heights and causes

over_told : (h : ℕ) → over (told h) ≡ told (suc h)
over_told h = omega arith

over_greater : (m n : ℕ) → over (max (told m) (told n)) ≡ told (suc (max m n))
over_greater m n = omega arith

greater_told : (m n : ℕ) → max (told m) (told n) ≡ told (max m n)
greater_told m n = omega arith

refused_over : (k : Causes) (h : ℕ) → IsRefused k h → IsRefused k (over h)
refused_over k h = ⊎_elim (λ (s : (e : StaticError) × (flag k e ≡ true)). inl s) (λ (l : most_height < h). inr (omega arith))

-- the causes of both, at the greater height
refused_left : (j k : Causes) (m n : ℕ) → IsRefused j m → IsRefused (either j k) (max m n)
refused_left j k m n =
    ⊎_elim (λ (s : (e : StaticError) × (flag j e ≡ true)). inl (s.0, flag_either j k s.0 ∙ (or_true (flag j s.0) (flag k s.0)).1 (inl s.1))) (λ (l : most_height < m). inr (omega arith))

refused_right : (j k : Causes) (m n : ℕ) → IsRefused k n → IsRefused (either j k) (max m n)
refused_right j k m n =
    ⊎_elim (λ (s : (e : StaticError) × (flag k e ≡ true)). inl (s.0, flag_either j k s.0 ∙ (or_true (flag j s.0) (flag k s.0)).1 (inr s.1))) (λ (l : most_height < n). inr (omega arith))

-- what stands in one or the other
told_either : (P Q : Type 0) (j k : Causes) (e : StaticError) → (flag j e ≡ true) ↔ P → (flag k e ≡ true) ↔ Q → (flag (either j k) e ≡ true) ↔ (P ⊎ Q)
told_either P Q j k e f g = (
  λ t. ⊎_elim (λ (i : flag j e ≡ true). inl (f.0 i)) (λ (i : flag k e ≡ true). inr (g.0 i)) ((or_true (flag j e) (flag k e)).0 (sym (flag_either j k e) ∙ t)),
  λ s. flag_either j k e ∙ (or_true (flag j e) (flag k e)).1 (⊎_elim (λ i. inl (f.1 i)) (λ i. inr (g.1 i)) s),
)

-- ---- makers that make more

module _ {Id : Type 0} where
  pub keeps_same : (P : Id → Type 0) (t : Id → Tree) → Keeps P t P t
  keeps_same P t = record { is = λ id h. h; same = λ id h. refl }

  pub keeps_then : (P : Id → Type 0) (t : Id → Tree) (Q : Id → Type 0) (u : Id → Tree) (R : Id → Type 0) (v : Id → Tree) → Keeps P t Q u → Keeps Q u R v → Keeps P t R v
  keeps_then P t Q u R v h k = record { is = λ id i. k.is id (h.is id i); same = λ id i. k.same id (h.is id i) ∙ h.same id i }

module _ {Id : Type 0} (P : Id → Type 0) (t : Id → Tree) (Q : Id → Type 0) (u : Id → Tree) (k : Keeps P t Q u) where
  pub made_stays : (id : Id) (f : Tree) → IsMade P t id f → IsMade Q u id f
  made_stays id f m = record { is = k.is id m.is; same = k.same id m.is ∙ m.same }

  pub all_stay : (ids : List Id) → AllByRecursion P ids → AllByRecursion Q ids
  all_stay [] h = tt
  all_stay (id ∷ ids) h = (k.is id h.0, all_stay ids h.1)

  pub trees_stay : (ids : List Id) → AllByRecursion P ids → map u ids ≡ map t ids
  trees_stay [] h = refl
  trees_stay (id ∷ ids) h = λ i. k.same id h.0 i ∷ trees_stay ids h.1 i

  module _ (c : Context) (bound : BoundTrees) (names : List (List ℕ)) where
    pub part_stays : (f : FormulaTree) (p : Part Id) → IsPart c bound names P t f p → IsPart c bound names Q u f p
    part_stays f p h = record {
      causes = h.causes;
      built = record { height = h.built.height; made = λ id e. made_stays id _ (h.built.made id e); left_out = h.built.left_out };
    }

    pub members_stay : (fs : List FormulaTree) (m : Members Id) → AreMembers c bound names P t fs m → AreMembers c bound names Q u fs m
    members_stay fs m h = record {
      causes = h.causes;
      height = h.height;
      are = all_stay m.ids.items h.are;
      made = λ n. let a = h.made n in record { are = all_stay m.ids.items h.are; same = trees_stay m.ids.items h.are ∙ a.same };
    }

-- ---- formulas over parts

module _ {Id : Type 0} (c : Context) (bound : BoundTrees) (names : List (List ℕ)) (is_id : Id → Type 0) (old tree : Id → Tree) where
  -- a shape that was made, or left out
  pub finished_part : (k : Causes) (h : ℕ) (s : Option (Shape Id)) (r : Part Id) (f : FormulaTree) → IsFinished is_id old tree k h s r
      → AreTold c bound names f k → h ≡ told (height_in_place bound f)
      → ((x : Shape Id) → s ≡ Some x → (¬ (IsRefused k h)) → tree_over old x ≡ resolve c bound names f) → (s ≡ None → IsRefused k h)
      → IsPart c bound names is_id tree f r
  finished_part k h s r f w causes high shaped out = record {
    causes = subst (λ (j : Causes). AreTold c bound names f j) (sym w.causes) causes;
    built = record {
      height = w.height ∙ high;
      made = λ id e. let m = w.made id e in record { is = m.1.2.is; same = m.1.2.same ∙ shaped m.1.0 m.1.1 m.0 };
      left_out = λ e. subst (λ (j : Causes). IsRefused j r.height) (sym w.causes) (subst (λ (n : ℕ). IsRefused k n) (sym w.height) (⊎_elim (λ i. i) out (w.left_out e)));
    };
  }

  constant_told : (k : Causes) → ((e : StaticError) → flag k e ≡ false) → (e : StaticError) → (flag k e ≡ true) ↔ ⊥
  constant_told k n e = (λ i. let j = n e in absurd (cc), λ i. absurd i)

  pub true_part : (k : Causes) (r : Part Id) → ((e : StaticError) → flag k e ≡ false) → IsFinished is_id old tree k 1 (Some shape.True) r → IsPart c bound names is_id tree Yes r
  true_part k r n w = finished_part k 1 (Some shape.True) r Yes w (constant_told k n) refl (λ x e i. subst (λ y. tree_over old y ≡ Yes) (some_same e) refl) (λ e. absurd (cc))

  pub false_part : (k : Causes) (r : Part Id) → ((e : StaticError) → flag k e ≡ false) → IsFinished is_id old tree k 1 (Some shape.False) r → IsPart c bound names is_id tree No r
  false_part k r n w = finished_part k 1 (Some shape.False) r No w (constant_told k n) refl (λ x e i. subst (λ y. tree_over old y ≡ No) (some_same e) refl) (λ e. absurd (cc))

  -- ---- one member

  -- the shape of a member that was made
  one_shape : (to : Id → Shape Id) (F : Tree → Tree) → ((i : Id) → tree_over old (to i) ≡ F (old i)) → (P : Id → Type 0) (f : FormulaTree) (p : Part Id) (shaped : Option Id → Option (Shape Id))
      → ((i : Id) → shaped (Some i) ≡ Some (to i)) → shaped None ≡ None → IsPart c bound names P old f p → (x : Shape Id) → shaped p.id ≡ Some x → tree_over old x ≡ F (resolve c bound names f)
  one_shape to F is P f p shaped there away h x e = go p.id refl
    where
      go : (o : Option Id) → p.id ≡ o → tree_over old x ≡ F (resolve c bound names f)
      go None i = absurd (let a = sym e ∙ ap shaped i ∙ away in cc)
      go (Some id) i =
          let same : to id ≡ x = some_same (sym (there id) ∙ sym (ap shaped i) ∙ e) in
          subst (λ y. tree_over old y ≡ F (resolve c bound names f)) same (is id ∙ ap F (h.built.made id i).same)

  -- and where it was left out
  one_out : (to : Id → Shape Id) (P : Id → Type 0) (f : FormulaTree) (p : Part Id) (shaped : Option Id → Option (Shape Id))
      → ((i : Id) → shaped (Some i) ≡ Some (to i)) → IsPart c bound names P old f p → shaped p.id ≡ None → IsRefused p.causes (over p.height)
  one_out to P f p shaped there h e = go p.id refl
    where
      go : (o : Option Id) → p.id ≡ o → IsRefused p.causes (over p.height)
      go None i = refused_over p.causes p.height (h.built.left_out i)
      go (Some id) i = absurd (let a = sym e ∙ ap shaped i ∙ there id in cc)

  one_higher : (P : Id → Type 0) (f : FormulaTree) (p : Part Id) → IsPart c bound names P old f p → over p.height ≡ told (suc (height_in_place bound f))
  one_higher P f p h = ap over h.built.height ∙ over_told (height_in_place bound f)

  pub not_part : (P : Id → Type 0) (f : FormulaTree) (p r : Part Id) → IsPart c bound names P old f p → IsFinished is_id old tree p.causes (over p.height) (negated_shape p.id) r → IsPart c bound names is_id tree (Not f) r
  not_part P f p r h w =
      finished_part p.causes (over p.height) (negated_shape p.id) r (Not f) w h.causes (one_higher P f p h)
      (λ x e n. one_shape shape.Not Not (λ i. refl) P f p negated_shape (λ i. refl) refl h x e) (one_out shape.Not P f p negated_shape (λ i. refl) h)

  beside : (P : Type 0) (k : Causes) (e : StaticError) → (flag k e ≡ true) ↔ P → (flag k e ≡ true) ↔ (⊥ ⊎ P)
  beside P k e h = (λ i. inr (h.0 i), λ s. ⊎_elim (λ n. absurd n) h.1 s)

  pub quantified_part : (P : Id → Type 0) (q : Opening) (x : List ℕ) (f : FormulaTree) (p r : Part Id) → place names x ≡ q.name.number → IsPart c bound names P old f p
      → IsFinished is_id old tree p.causes (over p.height) (opening_shape q p.id) r → IsPart c bound names is_id tree (quantified q.quantifier x f) r
  quantified_part P q x f p r n h w = go q.quantifier refl
    where
      there : (b : Quantifier) → q.quantifier ≡ b → (i : Id) → opening_shape q (Some i) ≡ Some (quantified_shape b q.name i)
      there b e i = ap (λ d. Some (quantified_shape d q.name i)) e

      go : (b : Quantifier) → q.quantifier ≡ b → IsPart c bound names is_id tree (quantified b x f) r
      go ForAll e =
          finished_part p.causes (over p.height) (opening_shape q p.id) r (All x f) w (λ d. beside _ p.causes d (h.causes d)) (one_higher P f p h)
          (λ y i m. one_shape (quantified_shape ForAll q.name) (All (place names x)) (λ j. ap (λ v. All v (old j)) (sym n)) P f p (opening_shape q) (there ForAll e) refl h y i)
          (one_out (quantified_shape ForAll q.name) P f p (opening_shape q) (there ForAll e) h)
      go Exists e =
          finished_part p.causes (over p.height) (opening_shape q p.id) r (Ex x f) w (λ d. beside _ p.causes d (h.causes d)) (one_higher P f p h)
          (λ y i m. one_shape (quantified_shape Exists q.name) (Ex (place names x)) (λ j. ap (λ v. Ex v (old j)) (sym n)) P f p (opening_shape q) (there Exists e) refl h y i)
          (one_out (quantified_shape Exists q.name) P f p (opening_shape q) (there Exists e) h)

  -- ---- two members

  pair_shaped : (k : Pair) (o p : Option Id) (x : Shape Id) (F G : Tree) → pair_shape k o p ≡ Some x → ((i : Id) → o ≡ Some i → old i ≡ F) → ((i : Id) → p ≡ Some i → old i ≡ G) → tree_over old x ≡ paired k F G
  pair_shaped pair.Impl (Some a) (Some b) x F G e f g = subst (λ y. tree_over old y ≡ Impl F G) (some_same e) (λ i. Impl (f a refl i) (g b refl i))
  pair_shaped pair.Impl None p x F G e f g = absurd (cc)
  pair_shaped pair.Impl (Some a) None x F G e f g = absurd (cc)
  pair_shaped pair.Repl (Some a) (Some b) x F G e f g = subst (λ y. tree_over old y ≡ Repl F G) (some_same e) (λ i. Repl (f a refl i) (g b refl i))
  pair_shaped pair.Repl None p x F G e f g = absurd (cc)
  pair_shaped pair.Repl (Some a) None x F G e f g = absurd (cc)
  pair_shaped pair.Equiv (Some a) (Some b) x F G e f g = subst (λ y. tree_over old y ≡ Equiv F G) (some_same e) (λ i. Equiv (f a refl i) (g b refl i))
  pair_shaped pair.Equiv None p x F G e f g = absurd (cc)
  pair_shaped pair.Equiv (Some a) None x F G e f g = absurd (cc)

  pair_out : (k : Pair) (o p : Option Id) → pair_shape k o p ≡ None → (o ≡ None) ⊎ (p ≡ None)
  pair_out k None p e = inl refl
  pair_out k (Some a) None e = inr refl
  pair_out pair.Impl (Some a) (Some b) e = absurd (cc)
  pair_out pair.Repl (Some a) (Some b) e = absurd (cc)
  pair_out pair.Equiv (Some a) (Some b) e = absurd (cc)

  module _ (P : Id → Type 0) (f g : FormulaTree) (p q r : Part Id) (h : IsPart c bound names P old f p) (k : IsPart c bound names P old g q) where
    both_told : (e : StaticError) → (flag (either p.causes q.causes) e ≡ true) ↔ (SomeAtom (StandsIn c bound (place names) e) f ⊎ SomeAtom (StandsIn c bound (place names) e) g)
    both_told e = told_either _ _ p.causes q.causes e (h.causes e) (k.causes e)

    both_higher : over (max p.height q.height) ≡ told (suc (max (height_in_place bound f) (height_in_place bound g)))
    both_higher = (λ i. over (max (h.built.height i) (k.built.height i))) ∙ over_greater (height_in_place bound f) (height_in_place bound g)

    both_out : (n : Pair) → pair_shape n p.id q.id ≡ None → IsRefused (either p.causes q.causes) (over (max p.height q.height))
    both_out n e =
        refused_over (either p.causes q.causes) (max p.height q.height)
        (⊎_elim (λ i. refused_left p.causes q.causes p.height q.height (h.built.left_out i)) (λ i. refused_right p.causes q.causes p.height q.height (k.built.left_out i)) (pair_out n p.id q.id e))

    pub pair_part : (n : Pair) → IsFinished is_id old tree (either p.causes q.causes) (over (max p.height q.height)) (pair_shape n p.id q.id) r → IsPart c bound names is_id tree (paired n f g) r
    pair_part pair.Impl w =
        finished_part _ _ _ r (Impl f g) w both_told both_higher (λ x e m. pair_shaped pair.Impl p.id q.id x _ _ e (λ i j. (h.built.made i j).same) (λ i j. (k.built.made i j).same)) (both_out pair.Impl)
    pair_part pair.Repl w =
        finished_part _ _ _ r (Repl f g) w both_told both_higher (λ x e m. pair_shaped pair.Repl p.id q.id x _ _ e (λ i j. (h.built.made i j).same) (λ i j. (k.built.made i j).same)) (both_out pair.Repl)
    pair_part pair.Equiv w =
        finished_part _ _ _ r (Equiv f g) w both_told both_higher (λ x e m. pair_shaped pair.Equiv p.id q.id x _ _ e (λ i j. (h.built.made i j).same) (λ i j. (k.built.made i j).same)) (both_out pair.Equiv)

  -- ---- lists

  all_resolved : (fs : List FormulaTree) → members (map (resolve c bound names) fs) ≡ all_replaced (resolved_atom c bound (place names)) (place names) (formulas_of fs)
  all_resolved [] = refl
  all_resolved (f ∷ fs) = ap (also (resolve c bound names f)) (all_resolved fs)

  pub joint_part : (P : Id → Type 0) (fs : List FormulaTree) (m : Members Id) (r : Part Id) (n : Junction) → AreMembers c bound names P old fs m
      → IsFinished is_id old tree m.causes (over m.height) (Some (joined_shape n m.ids.items)) r → IsPart c bound names is_id tree (joined n (formulas_of fs)) r
  joint_part P fs m r n h w = go n w
    where
      higher : over m.height ≡ told (suc (greatest_height (all_replaced (atom_in_place bound) (λ x. 0) (formulas_of fs))))
      higher = ap over h.height ∙ over_told (greatest_height (all_replaced (atom_in_place bound) (λ x. 0) (formulas_of fs)))

      -- one height lower nothing is refused either
      lower : (¬ (IsRefused m.causes (over m.height))) → members (map old m.ids.items) ≡ all_replaced (resolved_atom c bound (place names)) (place names) (formulas_of fs)
      lower out = ap members (h.made (λ i. out (refused_over m.causes m.height i))).same ∙ all_resolved fs

      go : (n : Junction) → IsFinished is_id old tree m.causes (over m.height) (Some (joined_shape n m.ids.items)) r → IsPart c bound names is_id tree (joined n (formulas_of fs)) r
      go Conjunction w =
          finished_part _ _ _ r (And (formulas_of fs)) w h.causes higher
          (λ x e out. subst (λ y. tree_over old y ≡ And (all_replaced (resolved_atom c bound (place names)) (place names) (formulas_of fs))) (some_same e) (ap And (lower out))) (λ e. absurd (cc))
      go Disjunction w =
          finished_part _ _ _ r (Or (formulas_of fs)) w h.causes higher
          (λ x e out. subst (λ y. tree_over old y ≡ Or (all_replaced (resolved_atom c bound (place names)) (place names) (formulas_of fs))) (some_same e) (ap Or (lower out))) (λ e. absurd (cc))

-- ---- members one after another

module _ (S : WrittenAtom → Type 0) where
  some_front : (fs : List FormulaTree) (f : FormulaTree) → SomewhereIn S (λ x. ⊥) (formulas_of (fs ++ f ∷ [])) → SomewhereIn S (λ x. ⊥) (formulas_of fs) ⊎ SomeAtom S f
  some_front [] f s = ⊎_elim (λ i. inr i) (λ n. absurd n) s
  some_front (g ∷ gs) f s = ⊎_elim (λ i. inl (inl i)) (λ i. ⊎_elim (λ j. inl (inr j)) (λ j. inr j) (some_front gs f i)) s

  some_back : (fs : List FormulaTree) (f : FormulaTree) → SomewhereIn S (λ x. ⊥) (formulas_of fs) ⊎ SomeAtom S f → SomewhereIn S (λ x. ⊥) (formulas_of (fs ++ f ∷ []))
  some_back [] f s = ⊎_elim (λ n. absurd n) (λ i. inl i) s
  some_back (g ∷ gs) f (inl (inl i)) = inl i
  some_back (g ∷ gs) f (inl (inr i)) = inr (some_back gs f (inl i))
  some_back (g ∷ gs) f (inr i) = inr (some_back gs f (inr i))

module _ (bound : BoundTrees) where
  greatest_more : (fs : List FormulaTree) (f : FormulaTree) → greatest_height (all_replaced (atom_in_place bound) (λ x. 0) (formulas_of (fs ++ f ∷ [])))
      ≡ max (greatest_height (all_replaced (atom_in_place bound) (λ x. 0) (formulas_of fs))) (height_in_place bound f)
  greatest_more [] f = omega arith
  greatest_more (g ∷ gs) f = omega (arith, greatest_more gs f)

module _ {Id : Type 0} (is_id : Id → Type 0) (tree : Id → Tree) where
  all_more : (ids : List Id) (o : Option Id) → AllByRecursion is_id ids → ((i : Id) → o ≡ Some i → is_id i) → AllByRecursion is_id (ids ++ option_to_list o)
  all_more [] None h k = tt
  all_more [] (Some i) h k = (k i refl, tt)
  all_more (j ∷ ids) o h k = (h.0, all_more ids o h.1 k)

  map_more : {X : Type 0} (to : X → Tree) (ids : List Id) (i : Id) (xs : List X) (x : X) → map tree ids ≡ map to xs → tree i ≡ to x → map tree (ids ++ i ∷ []) ≡ map to (xs ++ x ∷ [])
  map_more to ids i xs x e d = map-append tree ids (i ∷ []) ∙ (λ j. e j ++ d j ∷ []) ∙ sym (map-append to xs (x ∷ []))

  pub no_members : (c : Context) (bound : BoundTrees) (names : List (List ℕ)) (m : Members Id) → ((e : StaticError) → flag m.causes e ≡ false) → m.height ≡ 0 → m.ids.items ≡ [] → AreMembers c bound names is_id tree [] m
  no_members c bound names m n h e = record {
    causes = λ d. (λ i. let j = n d in absurd (cc), λ i. absurd i);
    height = h;
    are = subst (λ (ids : List Id). AllByRecursion is_id ids) (sym e) tt;
    made = λ i. record { are = subst (λ (ids : List Id). AllByRecursion is_id ids) (sym e) tt; same = ap (λ ids. map tree ids) e };
  }

  pub one_member_more : (c : Context) (bound : BoundTrees) (names : List (List ℕ)) (fs : List FormulaTree) (f : FormulaTree) (m n : Members Id) (p : Part Id)
      → AreMembers c bound names is_id tree fs m → IsPart c bound names is_id tree f p
      → n.causes ≡ either m.causes p.causes → n.height ≡ max m.height p.height → n.ids.items ≡ m.ids.items ++ option_to_list p.id → AreMembers c bound names is_id tree (fs ++ f ∷ []) n
  one_member_more c bound names fs f m n p h k causes high ids = record {
    causes = λ e. let S = StandsIn c bound (place names) e in let t = told_either _ _ m.causes p.causes e (h.causes e) (k.causes e) in
        (λ i. some_back S fs f (t.0 (ap (λ j. flag j e) (sym causes) ∙ i)), λ s. ap (λ j. flag j e) causes ∙ t.1 (some_front S fs f s));
    height = high ∙ (λ i. max (h.height i) (k.built.height i)) ∙ greater_told _ _ ∙ ap told (sym (greatest_more bound fs f));
    are = here;
    made = λ out. record { are = here; same = go out p.id refl };
  }
    where
      here : AllByRecursion is_id n.ids.items
      here = subst (λ (l : List Id). AllByRecursion is_id l) (sym ids) (all_more m.ids.items p.id h.are (λ i e. (k.built.made i e).is))

      refused : IsRefused (either m.causes p.causes) (max m.height p.height) → IsRefused n.causes n.height
      refused i = subst (λ (j : Causes). IsRefused j n.height) (sym causes) (subst (λ (l : ℕ). IsRefused (either m.causes p.causes) l) (sym high) i)

      go : (¬ (IsRefused n.causes n.height)) → (o : Option Id) → p.id ≡ o → map tree n.ids.items ≡ map (resolve c bound names) (fs ++ f ∷ [])
      go out None e = absurd (out (refused (refused_right m.causes p.causes m.height p.height (k.built.left_out e))))
      go out (Some i) e =
          ap (λ l. map tree l) (ids ∙ ap (λ o. m.ids.items ++ option_to_list o) e)
          ∙ map_more (resolve c bound names) m.ids.items i fs f (h.made (λ r. out (refused (refused_left m.causes p.causes m.height p.height r)))).same (k.built.made i e).same

-- ---- bindings, and what is finished

module _ {Id : Type 0} (P : Id → Type 0) (t : Id → Tree) (Q : Id → Type 0) (u : Id → Tree) (k : Keeps P t Q u) where
  pub ids_stay : (b : List (List ℕ × Id)) → AreIds P b → AreIds Q b
  ids_stay [] h = tt
  ids_stay (e ∷ es) h = (k.is e.1 h.0, ids_stay es h.1)

  pub bound_stays : (b : List (List ℕ × Id)) → AreIds P b → trees_bound u b ≡ trees_bound t b
  bound_stays [] h = refl
  bound_stays (e ∷ es) h = λ i. (e.0, k.same e.1 h.0 i) ∷ bound_stays es h.1 i

pub finished_as : {Id : Type 0} {is_id : Id → Type 0} {old tree : Id → Tree} {j k : Causes} {m n : ℕ} {s t : Option (Shape Id)} {r : Part Id} → IsFinished is_id old tree j m s r → j ≡ k → m ≡ n → s ≡ t → IsFinished is_id old tree k n t r
finished_as {Id} {is_id} {old} {tree} {j} {k} {m} {n} {s} {t} {r} w a b d =
    subst (λ x. IsFinished is_id old tree x n t r) a (subst (λ x. IsFinished is_id old tree j x t r) b (subst (λ x. IsFinished is_id old tree j m x r) d w))

pub ok_map : {T E : Type 0} {P Q : T → Type 0} (r : Result T E) → ((x : T) → P x → Q x) → IfOk r P → IfOk r Q
ok_map (Ok x) f h = f x h
ok_map (Err e) f h = h

-- the part of an equal formula, under equal trees
pub part_as : {Id : Type 0} {c : Context} {bound : BoundTrees} {names : List (List ℕ)} {is_id : Id → Type 0} {tree : Id → Tree} {f g : FormulaTree} {p : Part Id} → f ≡ g → IsPart c bound names is_id tree g p → IsPart c bound names is_id tree f p
part_as {Id} {c} {bound} {names} {is_id} {tree} {f} {g} {p} e h = subst (λ (x : FormulaTree). IsPart c bound names is_id tree x p) (sym e) h

pub part_under : {Id : Type 0} {c : Context} {a b : BoundTrees} {names : List (List ℕ)} {is_id : Id → Type 0} {tree : Id → Tree} {f : FormulaTree} {p : Part Id} → a ≡ b → IsPart c a names is_id tree f p → IsPart c b names is_id tree f p
part_under {Id} {c} {a} {b} {names} {is_id} {tree} {f} {p} e h = subst (λ (x : BoundTrees). IsPart c x names is_id tree f p) e h

pub on_ok : {T E P : Type 0} (r : Result T E) → P → OnOk r P
on_ok (Ok x) h = h
on_ok (Err e) h = tt

-- what was made is an id
pub finished_id : {Id : Type 0} {is_id : Id → Type 0} {old tree : Id → Tree} {k : Causes} {h : ℕ} {s : Option (Shape Id)} {r : Part Id} → IsFinished is_id old tree k h s r → (id : Id) → r.id ≡ Some id → is_id id
finished_id w id e = (w.made id e).1.2.is
