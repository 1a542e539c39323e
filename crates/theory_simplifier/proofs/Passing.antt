-- One member of a list passed, and a quantified formula.
use Rattle.std.proofs.Common.{◌≡◌, true, false, refl, sym, ap, ◌∙◌, subst, Option, Some, None, List, [], ◌∷◌, ◌++◌, map}
use Rattle.std.specs.Prelude.{IfSome, IfNone, OnOk}
use Rattle.std.specs.declared.result.Result.{Result}
use Rattle.std.specs.declared.result.Result.TheVariants.{Ok, Err}
use Rattle.logic_meaning.specs.Context.{Context}
use Rattle.logic_meaning.specs.Formula.{One, Ex, All, none, also}
use Rattle.logic_meaning.specs.Fold.{pieces_of}
use Rattle.logic_meaning.specs.declared.junction.Junction.{Junction}
use Rattle.logic_meaning.specs.Atom.{Atom, Mentions}
use Rattle.logic_meaning.specs.Tree.{Tree, Trees}
use Rattle.logic_meaning.specs.declared.form.VarId.{VarId}
use Rattle.logic_meaning.specs.NormalForm.{negated_normal}
use Rattle.normal_atoms.specs.Computed.{IsNormalWithin}
use Rattle.logic_meaning.specs.AtomKit.{without, tells}
use Rattle.shape_theory.specs.AtomKit.{atom_kit}
use Rattle.logic_meaning.specs.Contained.{contains}
use Rattle.shape_theory.specs.Pass as meant
use Rattle.shape_theory.specs.Simplifiable.{IsSimplifiable}
use Rattle.shape_theory.proofs.Keeps.{pass_within}
use Rattle.shape_theory.proofs.AtomLaws.{merges_within, names_told}
use Rattle.formula_tree.specs.declared.shape.Shape.{Shape}
use Rattle.formula_tree.specs.Makers.{Keeps}
use Rattle.formula_tree.specs.Shapes.{tree_over}
use Rattle.formula_tree.specs.Trees.{members}
use Rattle.formula_store.specs.declared.id.FormulaId.{FormulaId}
use Rattle.formula_store.specs.Nodes.{tree, IsId}
use Rattle.logic_meaning.specs.Shape.{quantified}
use Rattle.logic_meaning.specs.declared.quantifier.Quantifier.{Quantifier}
use Rattle.logic_meaning.specs.declared.quantifier.Quantifier.TheVariants.{Exists, ForAll}
use Rattle.theory_simplifier.specs.declared.known.Frame.{Frame}
use Rattle.theory_simplifier.specs.declared.known.Frame.TheVariants.{Beside, Under}
use Rattle.theory_simplifier.specs.declared.parts.Parts.{Parts}
use Rattle.theory_simplifier.specs.declared.parts.Parts.TheVariants.{Closed, Open}
use Rattle.theory_simplifier.specs.Listed.{Listed}
use Rattle.theory_simplifier.specs.Known.{inside, known_atoms}
use Rattle.theory_simplifier.specs.Parts.{parts_of, is_one, IsListOf, HasIds, quantified_shape}
use Rattle.theory_simplifier.proofs.Keeping.{still_trees}
use Rattle.theory_simplifier.proofs.Knowing.{known_inside-append}
use Rattle.theory_simplifier.proofs.Members.{with_next}

pub on_ok : {X E : Type 0} (r : Result X E) (P : Type 0) → P → OnOk r P
on_ok (Ok x) P h = h
on_ok (Err e) P h = tt

-- ---- what is put last comes off

module _ {X : Type 0} where
  cons_same : (x y : X) (xs ys : List X) → x ∷ xs ≡ y ∷ ys → (x ≡ y) × (xs ≡ ys)
  cons_same x y xs ys e = (cc, cc)

  nil_not : (ys : List X) (y : X) → ¬ ([] ≡ ys ++ y ∷ [])
  nil_not [] y e = absurd (cc (e))
  nil_not (z ∷ ys) y e = absurd (cc (e))

  pub last_same : (xs ys : List X) (x y : X) → xs ++ x ∷ [] ≡ ys ++ y ∷ [] → (xs ≡ ys) × (x ≡ y)
  last_same [] [] x y e = (refl, (cons_same x y [] [] e).0)
  last_same [] (z ∷ ys) x y e = absurd (nil_not ys y ((cons_same x z [] (ys ++ y ∷ []) e).1))
  last_same (z ∷ xs) [] x y e = absurd (nil_not xs x (sym ((cons_same z y (xs ++ x ∷ []) [] e).1)))
  last_same (z ∷ xs) (w ∷ ys) x y e =
      let h = cons_same z w (xs ++ x ∷ []) (ys ++ y ∷ []) e in
      let k = last_same xs ys x y h.1 in
      ((λ i. h.0 i ∷ k.0 i), k.1)

  -- what is left without the last
  pub left_same : (r : Option X) (old new fs : List X) (f : X) → IfSome r (λ x. old ≡ new ++ x ∷ []) → IfNone r (old ≡ []) → old ≡ fs ++ f ∷ [] → new ≡ fs
  left_same (Some x) old new fs f h k e = (last_same new fs x f (sym h ∙ e)).0
  left_same None old new fs f h k e = absurd (nil_not fs f (sym k ∙ e))

-- ---- what is known

module _ (o : Context) where
  pub known_under : (fs : List Frame) (f : Frame) → known_atoms (fs ++ f ∷ []) ≡ inside f (known_atoms fs)
  known_under fs f = known_inside-append [] fs (f ∷ [])

  pub pass_simplifiable : (f : Tree) (ks : List Atom) → IsSimplifiable o f → IsSimplifiable o (meant.pass (atom_kit o) f ks)
  pass_simplifiable f ks h = (pass_within (atom_kit o) (IsNormalWithin o) Mentions (merges_within o) (names_told o) f ks h).orderly

  pub passed_simplifiable : (f g : Tree) (ks : List Atom) → g ≡ meant.pass (atom_kit o) f ks → IsSimplifiable o f → IsSimplifiable o g
  passed_simplifiable f g ks e h = subst (IsSimplifiable o) (sym e) (pass_simplifiable f ks h)

  -- ---- a settled list stays settled

  piece_closed : (j : Junction) (ks : List Atom) (f : Tree) → meant.with_piece (atom_kit o) j ks f meant.Closed ≡ meant.Closed
  piece_closed j ks (One a) = refl
  piece_closed j ks f = refl

  pieces_closed : (j : Junction) (ks : List Atom) (fs : Trees) → meant.with_pieces (atom_kit o) j ks fs meant.Closed ≡ meant.Closed
  pieces_closed j ks none = refl
  pieces_closed j ks (also f fs) = ap (meant.with_pieces (atom_kit o) j ks fs) (piece_closed j ks f) ∙ pieces_closed j ks fs

  member_closed : (j : Junction) (ks : List Atom) (r : Option Trees) → meant.with_member (atom_kit o) j ks r meant.Closed ≡ meant.Closed
  member_closed j ks None = refl
  member_closed j ks (Some fs) = pieces_closed j ks fs

  passed_closed : (j : Junction) (ks : List Atom) (f g : Tree) → meant.with_passed (atom_kit o) j ks f g meant.Closed ≡ meant.Closed
  passed_closed j ks (One a) g = refl
  passed_closed j ks f g = member_closed j ks (pieces_of j g)

  pub next_closed : (j : Junction) (ks : List Atom) (f : Tree) (t : FormulaId → Tree) (s : Parts) → s ≡ Closed → meant.Closed ≡ with_next o j ks f (parts_of t s)
  next_closed j ks f t s e = sym (passed_closed j ks f (meant.pass (atom_kit o) f ks)) ∙ ap (λ z. with_next o j ks f (parts_of t z)) (sym e)

  -- ---- a member that is no atom

  not_one : (j : Junction) (ks : List Atom) (f g : Tree) (s : meant.Parts Atom) → is_one f ≡ false → meant.with_member (atom_kit o) j ks (pieces_of j g) s ≡ meant.with_passed (atom_kit o) j ks f g s
  not_one j ks (One a) g s e = absurd (cc (e))
  not_one j ks f g s e = refl

  module _ (j : Junction) (a b : List (Shape FormulaId)) (kept : Keeps (IsId a) (tree a) (IsId b) (tree b)) (fs : List Frame) (l : Listed) (ids : List FormulaId) where
    inner_known : l.junction ≡ j → known_atoms (fs ++ Beside l ∷ []) ≡ meant.known (atom_kit o) j (parts_of (tree a) (Open l ids)) (known_atoms fs)
    inner_known e = known_under fs (Beside l) ∙ ap (λ k. map (tells negated_normal k) l.atoms ++ known_atoms fs) e

    same_parts : IsListOf o j (Open l ids) → HasIds a (Open l ids) → parts_of (tree b) (Open l ids) ≡ parts_of (tree a) (Open l ids)
    same_parts h k = ap (λ ts. meant.Open l.atoms (members ts)) (still_trees a b kept ids k)

    open_step : IsListOf o j (Open l ids) → HasIds a (Open l ids) → (f g : Tree) → is_one f ≡ false → g ≡ meant.pass (atom_kit o) f (known_atoms (fs ++ Beside l ∷ []))
        → meant.with_member (atom_kit o) j (known_atoms fs) (pieces_of j g) (parts_of (tree b) (Open l ids)) ≡ with_next o j (known_atoms fs) f (parts_of (tree a) (Open l ids))
    open_step h k f g one e =
        not_one j (known_atoms fs) f g (parts_of (tree b) (Open l ids)) one
        ∙ (λ i. meant.with_passed (atom_kit o) j (known_atoms fs) f ((e ∙ ap (meant.pass (atom_kit o) f) (inner_known h.0)) i) (same_parts h k i))

    -- the member passed under the atoms of the list
    pub member_step : (s : Parts) → s ≡ Open l ids → IsListOf o j s → HasIds a s → (f g : Tree) → is_one f ≡ false → g ≡ meant.pass (atom_kit o) f (known_atoms (fs ++ Beside l ∷ [])) → (fs2 : List Frame) → fs2 ≡ fs → (l2 : Listed) → l2 ≡ l
        → meant.with_member (atom_kit o) j (known_atoms fs2) (pieces_of j g) (parts_of (tree b) (Open l2 ids)) ≡ with_next o j (known_atoms fs) f (parts_of (tree a) s)
    member_step s is list has f g one e fs2 u l2 v =
        (λ i. meant.with_member (atom_kit o) j (known_atoms (u i)) (pieces_of j g) (parts_of (tree b) (Open (v i) ids)))
        ∙ open_step (subst (IsListOf o j) is list) (subst (HasIds a) is has) f g one e
        ∙ ap (λ z. with_next o j (known_atoms fs) f (parts_of (tree a) z)) (sym is)

  -- ---- a quantified formula

  module _ (x : VarId) (f g : Tree) (fs : List Frame) (e : g ≡ meant.pass (atom_kit o) f (known_atoms (fs ++ Under x ∷ []))) where
    inner_same : g ≡ meant.pass (atom_kit o) f (without contains x.number (known_atoms fs))
    inner_same = e ∙ ap (meant.pass (atom_kit o) f) (known_under fs (Under x))

    pub stays_quantified : (q : Quantifier) → meant.is_free (atom_kit o) x.number g ≡ true → quantified q x.number g ≡ meant.pass (atom_kit o) (quantified q x.number f) (known_atoms fs)
    stays_quantified Exists h = ap (λ b. meant.quantified (Ex x.number) b g) (sym h) ∙ ap (λ k. meant.quantified (Ex x.number) (meant.is_free (atom_kit o) x.number k) k) inner_same
    stays_quantified ForAll h = ap (λ b. meant.quantified (All x.number) b g) (sym h) ∙ ap (λ k. meant.quantified (All x.number) (meant.is_free (atom_kit o) x.number k) k) inner_same

    pub loses_quantifier : (q : Quantifier) → meant.is_free (atom_kit o) x.number g ≡ false → g ≡ meant.pass (atom_kit o) (quantified q x.number f) (known_atoms fs)
    loses_quantifier Exists h = ap (λ b. meant.quantified (Ex x.number) b g) (sym h) ∙ ap (λ k. meant.quantified (Ex x.number) (meant.is_free (atom_kit o) x.number k) k) inner_same
    loses_quantifier ForAll h = ap (λ b. meant.quantified (All x.number) b g) (sym h) ∙ ap (λ k. meant.quantified (All x.number) (meant.is_free (atom_kit o) x.number k) k) inner_same

-- the tree of a quantified formula
pub over_quantified : (t : FormulaId → Tree) (q : Quantifier) (x : VarId) (id : FormulaId) → tree_over t (quantified_shape q x id) ≡ quantified q x.number (t id)
over_quantified t Exists x id = refl
over_quantified t ForAll x id = refl
