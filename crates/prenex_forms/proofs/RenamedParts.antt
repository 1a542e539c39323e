-- A formula with the names that a chooser chooses, at each way to make one.
use Rattle.std.proofs.Common.{◌≡◌, ◌<◌, ℕ, Bool, true, false, List, [], ◌∷◌, ◌++◌, length, inl, inr, ⊎_elim, refl, sym, ap, ap₂, ◌∙◌, subst, if◌then◌else◌, get_or}
use Rattle.std.specs.Prelude.{slice_set}
use Rattle.std.proofs.Math.Path.{fun_ext}
use Rattle.std.proofs.lemmas.Bool.{eq-eqb, ne_eqb, cases_eq}
use Rattle.std.proofs.lemmas.List.{set-set, set-get_or, get_or-set_same, get_or-set_other}
use Rattle.std.proofs.lemmas.Option.{unwrap_or-slice_get}
use Rattle.logic_meaning.specs.Shape.{quantified}
use Rattle.logic_meaning.specs.declared.quantifier.Quantifier.TheVariants.{Exists, ForAll}
use Rattle.logic_meaning.specs.declared.junction.Junction.TheVariants.{Conjunction, Disjunction}
use Rattle.logic_meaning.specs.Context.{Context}
use Rattle.logic_meaning.specs.Formula.{One, And, Or, Ex, All, none, also}
use Rattle.logic_meaning.specs.Fold.{joined, append}
use Rattle.nnf_trees.specs.declared.nnf.Nnf.{Nnf}
use Rattle.nnf_trees.proofs.Pieces.{Formulas_of}
use Rattle.prenex_forms.proofs.Lists.{one_pushed, all_pushed}
use Rattle.logic_meaning.specs.Atom.{Atom, Mentions}
use Rattle.logic_meaning.specs.Every.{Every, EveryBound, EveryBoundOf, FreeInSome}
use Rattle.logic_meaning.specs.Replaced.{replaced, all_replaced}
use Rattle.logic_meaning.specs.Tree.{Tree, Trees, IsFree}
use Rattle.language_meaning.specs.Somewhere.{SomeAtom, SomewhereIn}
use Rattle.logic_meaning.specs.NormalForm.{normal_atom, IsNormal, ConstantPasses, constant_tree}
use Rattle.logic_meaning.specs.declared.junction.Junction.{Junction}
use Rattle.logic_meaning.specs.declared.quantifier.Quantifier.{Quantifier}
use Rattle.nnf_trees.specs.Nnfs.{nnf_of}
use Rattle.logic_meaning.specs.Renaming.{Chosen, chosen_name, chosen, after, after_all, renamed, all_renamed, with_now, atom_named}
use Rattle.shape_theory.specs.Links.{Links}
use Rattle.shape_theory.proofs.Renamed.{links_under}
use Rattle.shape_theory.proofs.RenamedTruth.{first_links, other_links}
use Rattle.prenex_forms.specs.declared.chooser.Chooser.{Chooser}
use Rattle.prenex_forms.specs.Named.{now_of}
use Rattle.prenex_forms.specs.Chosen.{chosen_of, named_by, all_named_by, CanRename, CanRenameAll, IsRenamed, AreRenamed, Overflows, SomeOverflows}

module _ (c : Context) where
  -- ---- constants and lists

  pub constant_renamed : (b : Bool) (s : Chooser) → IsRenamed c s (constant_tree b) (constant_tree b) s
  constant_renamed true s = record { made = refl; chosen = refl; now = refl; count = refl; fits = λ h. h }
  constant_renamed false s = record { made = refl; chosen = refl; now = refl; count = refl; fits = λ h. h }

  pub joined_ready : (j : Junction) (s : Chooser) (fs : Trees) → CanRename c s (joined j fs) → CanRenameAll c s fs
  joined_ready Conjunction s fs h = record { normal = h.normal; bound = h.bound; links = h.links }
  joined_ready Disjunction s fs h = record { normal = h.normal; bound = h.bound; links = h.links }

  pub joined_renamed : (j : Junction) (s : Chooser) (fs gs : Trees) (t : Chooser) → AreRenamed c s fs gs t → IsRenamed c s (joined j fs) (joined j gs) t
  joined_renamed Conjunction s fs gs t h = record { made = ap And h.made; chosen = h.chosen; now = h.now; count = h.count; fits = h.fits }
  joined_renamed Disjunction s fs gs t h = record { made = ap Or h.made; chosen = h.chosen; now = h.now; count = h.count; fits = h.fits }

  pub joined_overflows : (j : Junction) (s : Chooser) (fs : Trees) → SomeOverflows c s fs → Overflows c s (joined j fs)
  joined_overflows Conjunction s fs h = h
  joined_overflows Disjunction s fs h = h

  -- ---- quantifiers

  -- the chooser inside a quantifier
  pub record IsInside (old : Chooser) (x y : ℕ) (in_it : Chooser) : Type 0 where
    pub name : y ≡ chosen_name old.count x (chosen_of old)
    pub now : now_of in_it.now.items ≡ with_now (now_of old.now.items) x y
    pub chosen : chosen_of in_it ≡ chosen old.count x (chosen_of old)
    pub count : in_it.count ≡ old.count

  named_inside : (old : Chooser) (x y : ℕ) (in_it : Chooser) (f : Tree) → IsInside old x y in_it →
      named_by in_it f ≡ renamed old.count (with_now (now_of old.now.items) x (chosen_name old.count x (chosen_of old))) f (chosen old.count x (chosen_of old))
  named_inside old x y in_it f i =
      ap (λ n. renamed n (now_of in_it.now.items) f (chosen_of in_it)) i.count
      ∙ ap₂ (λ now s. renamed old.count now f s) (i.now ∙ ap (with_now (now_of old.now.items) x) i.name) i.chosen

  pub quantified_ready : (q : Quantifier) (old : Chooser) (x y : ℕ) (in_it : Chooser) (f : Tree) → IsInside old x y in_it → CanRename c old (quantified q x f) → CanRename c in_it f
  quantified_ready q old x y in_it f i h = go q h
    where
      under : Every (IsNormal c) f → x < old.count → EveryBound (λ z. z < old.count) f → Links old.count (λ z. ¬ (x ≡ z) × IsFree f z) (now_of old.now.items) (chosen_of old) → CanRename c in_it f
      under n b e l = record {
        normal = n;
        bound = subst (λ (k : ℕ). EveryBound (λ z. z < k) f) (sym i.count) e;
        links =
            let m = links_under old.count (IsFree f) (now_of old.now.items) x (chosen_of old) b l in
            let a = subst (λ (s : Chosen). Links old.count (IsFree f) (with_now (now_of old.now.items) x (chosen_name old.count x (chosen_of old))) s) (sym i.chosen) m in
            let d = subst (λ (now : ℕ → ℕ). Links old.count (IsFree f) now (chosen_of in_it)) (sym (i.now ∙ ap (with_now (now_of old.now.items) x) i.name)) a in
            subst (λ (k : ℕ). Links k (IsFree f) (now_of in_it.now.items) (chosen_of in_it)) (sym i.count) d;
      }

      go : (q : Quantifier) → CanRename c old (quantified q x f) → CanRename c in_it f
      go Exists h = under h.normal h.bound.0 h.bound.1 h.links
      go ForAll h = under h.normal h.bound.0 h.bound.1 h.links

  pub quantified_overflows : (q : Quantifier) (old : Chooser) (x y : ℕ) (in_it : Chooser) (f : Tree) → IsInside old x y in_it → Overflows c in_it f → Overflows c old (quantified q x f)
  quantified_overflows q old x y in_it f i h =
      let k = subst (λ (g : Tree). SomeAtom (λ a. ConstantPasses (normal_atom c a)) g) (named_inside old x y in_it f i) h in
      go q k
    where
      go : (q : Quantifier) → SomeAtom (λ a. ConstantPasses (normal_atom c a)) (renamed old.count (with_now (now_of old.now.items) x (chosen_name old.count x (chosen_of old))) f (chosen old.count x (chosen_of old))) → Overflows c old (quantified q x f)
      go Exists k = inr k
      go ForAll k = inr k

  pub quantified_renamed : (q : Quantifier) (old : Chooser) (x y : ℕ) (in_it : Chooser) (f g : Tree) (out new : Chooser) → IsInside old x y in_it → IsRenamed c in_it f g out →
      chosen_of new ≡ chosen_of out → new.count ≡ out.count → new.now.items ≡ old.now.items → IsRenamed c old (quantified q x f) (quantified q y g) new
  quantified_renamed q old x y in_it f g out new i r a b d = go q
    where
      same : g ≡ replaced (normal_atom c) (λ z. z) (renamed old.count (with_now (now_of old.now.items) x (chosen_name old.count x (chosen_of old))) f (chosen old.count x (chosen_of old)))
      same = r.made ∙ ap (λ h. replaced (normal_atom c) (λ z. z) h) (named_inside old x y in_it f i)

      last : chosen_of new ≡ after old.count f (chosen old.count x (chosen_of old))
      last = a ∙ r.chosen ∙ ap₂ (λ n s. after n f s) i.count i.chosen

      fit : ¬ (SomeAtom (λ a. ConstantPasses (normal_atom c a)) (renamed old.count (with_now (now_of old.now.items) x (chosen_name old.count x (chosen_of old))) f (chosen old.count x (chosen_of old))))
      fit h = r.fits (subst (λ (g : Tree). SomeAtom (λ a. ConstantPasses (normal_atom c a)) g) (sym (named_inside old x y in_it f i)) h)

      go : (q : Quantifier) → IsRenamed c old (quantified q x f) (quantified q y g) new
      go Exists = record { made = ap₂ Ex i.name same; chosen = last; now = d; count = b ∙ r.count ∙ i.count; fits = λ h. ⊎_elim (λ z. z) fit h }
      go ForAll = record { made = ap₂ All i.name same; chosen = last; now = d; count = b ∙ r.count ∙ i.count; fits = λ h. ⊎_elim (λ z. z) fit h }

  -- ---- atoms

  pub one_renamed : (a : Atom) (s : Chooser) (f g : Tree) (items : List ℕ) → f ≡ One a → items ≡ s.now.items → g ≡ normal_atom c (atom_named (now_of items) a) →
      ¬ (ConstantPasses (normal_atom c (atom_named (now_of items) a))) → IsRenamed c s f g s
  one_renamed a s f g items e i m n =
      subst (λ (h : Tree). IsRenamed c s h g s) (sym e) (record {
        made = m ∙ ap (λ xs. normal_atom c (atom_named (now_of xs) a)) i;
        chosen = refl;
        now = refl;
        count = refl;
        fits = λ h. n (subst (λ xs. ConstantPasses (normal_atom c (atom_named (now_of xs) a))) (sym i) h);
      })

  pub one_overflows : (a : Atom) (s : Chooser) (f : Tree) (items : List ℕ) → f ≡ One a → items ≡ s.now.items → ConstantPasses (normal_atom c (atom_named (now_of items) a)) → Overflows c s f
  one_overflows a s f items e i h = subst (λ (g : Tree). Overflows c s g) (sym e) (subst (λ xs. ConstantPasses (normal_atom c (atom_named (now_of xs) a))) i h)

  -- ---- members

  abbrev named_now : Chooser → Tree → Trees → Trees
  named_now s f rest = all_renamed s.count (now_of s.now.items) rest (after s.count f (chosen_of s))

  rest_named : (s : Chooser) (f g : Tree) (rest : Trees) (t : Chooser) → IsRenamed c s f g t → all_named_by t rest ≡ named_now s f rest
  rest_named s f g rest t r =
      ap (λ n. all_renamed n (now_of t.now.items) rest (chosen_of t)) r.count ∙ ap₂ (λ now x. all_renamed s.count now rest x) (ap now_of r.now) r.chosen

  pub first_ready : (s : Chooser) (f : Tree) (rest : Trees) → CanRenameAll c s (also f rest) → CanRename c s f
  first_ready s f rest h = record { normal = h.normal.0; bound = h.bound.0; links = first_links s.count (now_of s.now.items) f rest (chosen_of s) h.links }

  rest_ready : (s : Chooser) (f g : Tree) (rest : Trees) (t : Chooser) → IsRenamed c s f g t → CanRenameAll c s (also f rest) → CanRenameAll c t rest
  rest_ready s f g rest t r h = record {
    normal = h.normal.1;
    bound = subst (λ (k : ℕ). EveryBoundOf (λ x. x < k) rest) (sym r.count) h.bound.1;
    links =
        let l = other_links s.count (now_of s.now.items) f rest (chosen_of s) h.links in
        let a = subst (λ (x : Chosen). Links s.count (λ z. FreeInSome Mentions rest z) (now_of s.now.items) x) (sym r.chosen) l in
        let d = subst (λ (xs : List ℕ). Links s.count (λ z. FreeInSome Mentions rest z) (now_of xs) (chosen_of t)) (sym r.now) a in
        subst (λ (k : ℕ). Links k (λ z. FreeInSome Mentions rest z) (now_of t.now.items) (chosen_of t)) (sym r.count) d;
  }

  abbrev done : Trees → Trees
  done fs = all_replaced (normal_atom c) (λ x. x) fs

  -- what is made and what is left is the whole
  pub record IsGoing (start : Chooser) (whole : Trees) (made : List Nnf) (s : Chooser) (rest : Trees) : Type 0 where
    pub left : append (Formulas_of made) (done (all_named_by s rest)) ≡ done (all_named_by start whole)
    pub chosen : after_all s.count rest (chosen_of s) ≡ after_all start.count whole (chosen_of start)
    pub now : s.now.items ≡ start.now.items
    pub count : s.count ≡ start.count
    pub ready : CanRenameAll c s rest
    pub fits : SomeOverflows c start whole → SomeOverflows c s rest
    pub back : SomeOverflows c s rest → SomeOverflows c start whole

  pub going_first : (start : Chooser) (whole rest : Trees) (made : List Nnf) → CanRenameAll c start whole → whole ≡ rest → made ≡ [] → IsGoing start whole made start rest
  going_first start whole rest made h e m = subst (λ (fs : Trees). IsGoing start whole made start fs) e (record {
    left = ap (λ xs. append (Formulas_of xs) (done (all_named_by start whole))) m;
    chosen = refl;
    now = refl;
    count = refl;
    ready = h;
    fits = λ k. k;
    back = λ k. k;
  })

  pub going_on : (start : Chooser) (whole : Trees) (made made2 : List Nnf) (s : Chooser) (f : Tree) (rest : Trees) (g : Nnf) (t : Chooser) →
      IsGoing start whole made s (also f rest) → IsRenamed c s f (nnf_of g) t → made2 ≡ made ++ g ∷ [] → IsGoing start whole made2 t rest
  going_on start whole made made2 s f rest g t i r m =
      let e = rest_named s f (nnf_of g) rest t r in
      record {
        left = one_pushed made made2 g (done (all_named_by s (also f rest))) (done (all_named_by t rest)) (done (all_named_by start whole)) i.left (ap₂ also (sym r.made) (ap done (sym e))) m;
        chosen = ap₂ (λ n x. after_all n rest x) r.count r.chosen ∙ i.chosen;
        now = r.now ∙ i.now;
        count = r.count ∙ i.count;
        ready = rest_ready s f (nnf_of g) rest t r i.ready;
        fits = λ k. ⊎_elim (λ h. absurd (r.fits h)) (λ h. subst (λ fs. SomewhereIn (λ a. ConstantPasses (normal_atom c a)) (λ x. ⊥) fs) (sym e) h) (i.fits k);
        back = λ k. i.back (inr (subst (λ fs. SomewhereIn (λ a. ConstantPasses (normal_atom c a)) (λ x. ⊥) fs) e k));
      }

  pub going_last : (start : Chooser) (whole : Trees) (made : List Nnf) (s : Chooser) (rest : Trees) (gs : Trees) → IsGoing start whole made s rest → rest ≡ none → gs ≡ Formulas_of made → AreRenamed c start whole gs s
  going_last start whole made s rest gs i e m =
      let j = subst (λ (fs : Trees). IsGoing start whole made s fs) e i in
      record {
        made = m ∙ all_pushed made none (done (all_named_by start whole)) j.left refl;
        chosen = j.chosen;
        now = j.now;
        count = j.count;
        fits = λ k. j.fits k;
      }

-- ---- names and what they have become

pub now_set : (l : List ℕ) (x y : ℕ) → x < length l → now_of (slice_set l x y) ≡ with_now (now_of l) x y
now_set l x y h = fun_ext go
  where
    go : (z : ℕ) → now_of (slice_set l x y) z ≡ with_now (now_of l) x y z
    go z = unwrap_or-slice_get (slice_set l x y) z z ∙ elim (cases_eq x z) [
      | inl e ↦ ap (λ k. get_or (slice_set l x y) k z) (sym e) ∙ get_or-set_same l x y z h ∙ sym (ap (λ (b : Bool). if b then y else now_of l z) (eq-eqb x z e))
      | inr n ↦ get_or-set_other l x z y z (λ e. n (sym e)) ∙ sym (unwrap_or-slice_get l z z) ∙ sym (ap (λ (b : Bool). if b then y else now_of l z) (ne_eqb x z n))
    ]

pub set_back : (l m : List ℕ) (x y d : ℕ) → m ≡ slice_set l x y → slice_set m x (get_or l x d) ≡ l
set_back l m x y d e = ap (λ xs. slice_set xs x (get_or l x d)) e ∙ set-set l x y (get_or l x d) ∙ set-get_or l x d
