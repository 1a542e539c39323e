-- The laws of clean forms for resolved formulas.
use Rattle.std.proofs.Common.{◌≡◌, ℕ, ◌≤◌, Bool, true, false, nat_eq, refl, sym, ap, ◌∙◌, subst, ⊎_elim, List, [], ◌∷◌, length, arith}
use Rattle.logic_meaning.specs.Context.{Context}
use Rattle.logic_meaning.specs.Point.{Point, Of, move}
use Rattle.logic_meaning.specs.Some.{EachOf}
use Rattle.logic_meaning.specs.Atom.{Atom, Says, Mentions}
use Rattle.logic_meaning.specs.Fold.{folded}
use Rattle.logic_meaning.specs.declared.junction.Junction.{Junction}
use Rattle.logic_meaning.specs.Tree.{Tree, IsFree}
use Rattle.formula_laws.proofs.Same.{atom_alike}
use Rattle.normal_atoms.specs.Computed.{IsNormalWithin}
use Rattle.logic_meaning.specs.Merging.{IsKept}
use Rattle.formula_laws.specs.Within.{IsAtomWithin}
use Rattle.shape_theory.specs.Orderly.{IsOrderly}
use Rattle.shape_theory.specs.AtomKit.{atom_kit}
use Rattle.logic_meaning.specs.Measure.{Measure, size}
use Rattle.shape_theory.specs.NodeMeasure.{node_measure}
use Rattle.shape_theory.specs.Pass.{constant}
use Rattle.shape_theory.proofs.AtomLaws.{merges_within, kept_so, truthful}
use Rattle.shape_theory.proofs.Nodes.{nodes_size}
use Rattle.shape_theory.specs.Texts.{text_measure}
use Rattle.shape_theory.proofs.Measured.{text_is}
use Rattle.logic_meaning.specs.Ways.{form_of_lines}
use Rattle.logic_meaning.specs.PlainForms.{of_none, distributed, plain_form}
use Rattle.shape_theory.specs.Lines.{clean_lines, joined_lines, more_clean_lines}
use Rattle.logic_meaning.specs.Clean.{IsUnmerged}
use Rattle.shape_theory.specs.CleanFormsLaws.{IsDistributable, cleaned, CleanFormIsClean, CleaningKeepsTruth, CleaningKeepsShape, CleaningBringsNoName, CleaningBringsNoNode, CleaningLengthensNoText}
use Rattle.shape_theory.proofs.Inserting.{each_map, MergesLightly, Keeps}
use Rattle.shape_theory.proofs.Absorbed.{lines_incomparable}
use Rattle.shape_theory.proofs.Under.{under_plain, Under}
use Rattle.shape_theory.proofs.Shown.{Opens, Closes, told}
use Rattle.shape_theory.proofs.Pieces.{lines_shown, lines_sound}
use Rattle.shape_theory.proofs.LinesTrue.{MergesTruly}
use Rattle.shape_theory.proofs.FormsTrue.{clean_form_true}
use Rattle.shape_theory.proofs.FormShapes.{form_orderly, form_free, HasNames, names_in, in_names}
use Rattle.shape_theory.proofs.FormSizes.{open_smaller}
use Rattle.shape_theory.proofs.Longer.{orderly_both, IsWritten, constant_width}
use Rattle.shape_theory.proofs.CleanFormsWidths.{written_lightly}

module _ (c : Context) (j : Junction) where
  pub normal_lightly : MergesLightly (atom_kit c) j (IsNormalWithin c) (λ a. 1)
  normal_lightly = record { keeps = λ a b d x y e. (merges_within c).keeps j a b d x y e; weight = λ a b d x y e. omega arith }

  -- ---- lists that are clean

  sound : (f : Tree) → IsDistributable c f → EachOf (EachOf (IsNormalWithin c)) (clean_lines (atom_kit c) j f) × EachOf (IsUnmerged (Keeps (atom_kit c) j (IsNormalWithin c) (λ a. 1) normal_lightly)) (clean_lines (atom_kit c) j f)
  sound f h = lines_sound (atom_kit c) j (IsNormalWithin c) (λ a. 1) normal_lightly f h.orderly h.free

  each_kept : (a : Atom) (us : List Atom) → IsNormalWithin c a → EachOf (IsNormalWithin c) us → EachOf (Keeps (atom_kit c) j (IsNormalWithin c) (λ b. 1) normal_lightly a) us → EachOf (IsKept c j a) us
  each_kept a [] x h k = tt
  each_kept a (b ∷ us) x h k = (kept_so c j a b x h.0 k.0, each_kept a us x h.1 k.1)

  line_unmerged : (us : List Atom) → EachOf (IsNormalWithin c) us → IsUnmerged (Keeps (atom_kit c) j (IsNormalWithin c) (λ b. 1) normal_lightly) us → IsUnmerged (IsKept c j) us
  line_unmerged [] h k = tt
  line_unmerged (a ∷ us) h k = (each_kept a us h.0 h.1 k.0, line_unmerged us h.1 k.1)

  lines_unmerged : (ls : List (List Atom)) → EachOf (EachOf (IsNormalWithin c)) ls → EachOf (IsUnmerged (Keeps (atom_kit c) j (IsNormalWithin c) (λ b. 1) normal_lightly)) ls → EachOf (IsUnmerged (IsKept c j)) ls
  lines_unmerged [] h k = tt
  lines_unmerged (us ∷ ls) h k = (line_unmerged us h.0 k.0, lines_unmerged ls h.1 k.1)

  -- ---- truth at a point

  truly : (p : Point ℕ) → Of c p → MergesTruly (atom_kit c) j (IsNormalWithin c) (λ a. 1) normal_lightly (λ a. Says a p)
  truly p o = record {
    settled = λ a b x y e. (truthful c).settled j a b x y e p o;
    into = λ a b d x y e. (truthful c).into j a b d x y e p o;
    alike = λ a b e. (truthful c).same a b e;
  }

  -- ---- names

  module _ (C : ℕ → Type 0) where
    record IsNamed (a : Atom) : Type 0 where
      normal : IsNormalWithin c a
      names : HasNames Mentions C a

    named_lightly : MergesLightly (atom_kit c) j IsNamed (λ a. 1)
    named_lightly = record {
      keeps = λ a b d x y e. record { normal = (merges_within c).keeps j a b d x.normal y.normal e; names = λ n t. x.names n ((merges_within c).names j a b d x.normal y.normal e n t) };
      weight = λ a b d x y e. omega arith;
    }

    names_within : (f : Tree) → IsDistributable c f → ((x : ℕ) → IsFree f x → C x) → (x : ℕ) → IsFree (cleaned c j f) x → C x
    names_within f h i =
        let w = orderly_both (IsNormalWithin c) (HasNames Mentions C) IsNamed (λ a x y. record { normal = x; names = y }) f h.orderly (in_names Mentions C f h.free i) in
        let s = (lines_sound (atom_kit c) j IsNamed (λ a. 1) named_lightly f w h.free).0 in
        let t = each_map (EachOf IsNamed) (EachOf (HasNames Mentions C)) (λ us. each_map IsNamed (HasNames Mentions C) (λ a k. k.names) us) (clean_lines (atom_kit c) j f) s in
        names_in Mentions C (cleaned c j f) (form_orderly (HasNames Mentions C) j (clean_lines (atom_kit c) j f) t) (form_free j (clean_lines (atom_kit c) j f))

  -- ---- sizes

  module _ (m : Measure Atom) (Q : Atom → Type 0) (light : MergesLightly (atom_kit c) j Q m.atom) (low : (b : Bool) (a : Atom) → Q a → size m (constant b) ≤ m.atom a) where
    -- the plain form has Q, and the clean form is no larger
    record Bounds (f : Tree) : Type 0 where
      orderly : IsOrderly Q (plain_form j f)
      smaller : size m (cleaned c j f) ≤ size m (plain_form j f)

    bounds : (f : Tree) → IsDistributable c f → IsOrderly Q f → Bounds f
    bounds f h k =
        ⊎_elim (constant_case f (lines_sound (atom_kit c) j Q m.atom light f k h.free).0) (open_case f)
        (told j Q (Under (atom_kit c) j Q m.atom light) (joined_lines (atom_kit c) j) of_none (clean_lines (atom_kit c) j) (more_clean_lines (atom_kit c) j) (folded f) (clean_lines (atom_kit c) j f)
        (lines_shown (atom_kit c) j Q m.atom light f k h.free))
      where
        constant_case : (g : Tree) → EachOf (EachOf Q) (clean_lines (atom_kit c) j g)
            → Closes j Q (Under (atom_kit c) j Q m.atom light) (joined_lines (atom_kit c) j) of_none (clean_lines (atom_kit c) j) (more_clean_lines (atom_kit c) j) (distributed j (folded g)) (clean_lines (atom_kit c) j g) → Bounds g
        constant_case g e t =
            let same : distributed j (folded g) ≡ clean_lines (atom_kit c) j g = t.lists ∙ sym t.is in
            let n : size m (form_of_lines j (distributed j (folded g))) ≡ size m (form_of_lines j (clean_lines (atom_kit c) j g)) = ap (λ ls. size m (form_of_lines j ls)) same in
            record {
              orderly = subst (λ ls. IsOrderly Q (form_of_lines j ls)) (sym same) (form_orderly Q j (clean_lines (atom_kit c) j g) e);
              smaller = omega arith;
            }

        open_case : (g : Tree) → Opens (Under (atom_kit c) j Q m.atom light) (joined_lines (atom_kit c) j) of_none (distributed j (folded g)) (clean_lines (atom_kit c) j g) → Bounds g
        open_case g t = record {
          orderly = form_orderly Q j (distributed j (folded g)) (under_plain (atom_kit c) j Q m.atom light (distributed j (folded g)) (clean_lines (atom_kit c) j g) t.made);
          smaller = open_smaller m j (atom_kit c) Q light low (distributed j (folded g)) (clean_lines (atom_kit c) j g) t;
        }

-- ---- the laws

pub is_clean : CleanFormIsClean
is_clean c j f h =
    let s = sound c j f h in
    record {
      lines = clean_lines (atom_kit c) j f;
      form = refl;
      unmerged = lines_unmerged c j (clean_lines (atom_kit c) j f) s.0 s.1;
      incomparable = lines_incomparable (atom_kit c) j atom_alike f;
    }

pub keeps_truth : CleaningKeepsTruth
keeps_truth c j f h p o = clean_form_true Says (move nat_eq) c p (atom_kit c) j (IsNormalWithin c) (λ a. 1) (normal_lightly c j) (truly c j p o) f h.orderly h.free

pub keeps_shape : CleaningKeepsShape
keeps_shape c j f h = record { orderly = form_orderly (IsNormalWithin c) j (clean_lines (atom_kit c) j f) (sound c j f h).0; free = form_free j (clean_lines (atom_kit c) j f) }

pub brings_no_name : CleaningBringsNoName
brings_no_name c j f h = names_within c j (IsFree f) f h (λ x t. t)

pub brings_no_node : CleaningBringsNoNode
brings_no_node c j f h =
    let b = bounds c j node_measure (IsNormalWithin c) (normal_lightly c j) (λ t a x. constant_node t) f h h.orderly in
    let s = b.smaller in
    let x = nodes_size (IsNormalWithin c) (cleaned c j f) (keeps_shape c j f h).orderly in
    let y = nodes_size (IsNormalWithin c) (plain_form j f) b.orderly in
    omega arith
  where
    constant_node : (t : Bool) → size {A = Atom} node_measure (constant t) ≤ 1
    constant_node true = omega arith
    constant_node false = omega arith

pub lengthens_no_text : CleaningLengthensNoText
lengthens_no_text c j f h names long k =
    let w = orderly_both (IsNormalWithin c) (IsAtomWithin (length names)) (IsWritten names long c) (λ a x y. record { normal = x; named = y }) f h.orderly k in
    let b = bounds c j (text_measure names) (IsWritten names long c) (written_lightly names long c j) (constant_width names long c) f h w in
    let s = b.smaller in
    let x = text_is names (IsNormalWithin c) (cleaned c j f) (keeps_shape c j f h).orderly in
    let y = text_is names (IsWritten names long c) (plain_form j f) b.orderly in
    omega arith
