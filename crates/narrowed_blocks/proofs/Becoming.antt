-- What a block becomes, step by step.
use Rattle.std.proofs.Common.{◌≡◌, ℕ, zero, suc, ◌<◌, ◌≤◌, List, [], ◌∷◌, length, slice_get, inl, inr, ap, sym, subst, ◌∙◌, ◌↔◌, map, take, drop, ◌++◌}
use Rattle.std.proofs.lemmas.List.{take-append-drop}
use Rattle.std.specs.Prelude.{Option, Some, MatchOption, option_map}
use Rattle.std.specs.declared.vec.Vec.{Vec}
use Rattle.std.specs.declared.alloc.Global.{Global}
use Rattle.std.specs.List.{AllByRecursion, HoldsAt}
use Rattle.logic_meaning.specs.Context.{Context}
use Rattle.logic_meaning.specs.Every.{FreeInSome}
use Rattle.logic_meaning.specs.Formula.{And}
use Rattle.logic_meaning.specs.Point.{Point, Of}
use Rattle.logic_meaning.specs.Some.{Among, EachOf}
use Rattle.logic_meaning.specs.Atom as meant
use Rattle.logic_meaning.specs.Atom.{Mentions}
use Rattle.logic_meaning.specs.NormalForm.{IsNormal}
use Rattle.logic_meaning.specs.Tree.{Tree, Trees, IsFree}
use Rattle.logic_meaning.specs.declared.form.VarId.{VarId}
use Rattle.formula_laws.specs.StandsOnce.{StandsOnce}
use Rattle.linear_forms.proofs.TermAt.{read_at}
use Rattle.normal_atoms.specs.declared.atoms.Atom.{Atom}
use Rattle.normal_atoms.specs.Atoms.{context_of, atom_of, IsWellFormed}
use Rattle.case_theory.specs.Block.{Somewhere}
use Rattle.case_theory.specs.PutThrough.{AreTrue}
use Rattle.case_theory.specs.Under.{Lack}
use Rattle.shadow_theory.specs.Shadows.{AreShadow}
use Rattle.atom_pruning.specs.Kept.{Imply, marked}
use Rattle.narrowed_blocks.specs.declared.open_block.OpenBlock.{OpenBlock}
use Rattle.narrowed_blocks.specs.declared.setting.Setting.{Setting}
use Rattle.narrowed_blocks.specs.Narrowing.{numbers, others_of, listed, IsNameOf, IsOpen, IsNever}
use Rattle.narrowed_blocks.specs.Settings.{IsSound, Becomes, assumed_in, AreNeeded}
use Rattle.narrowed_blocks.proofs.Listed.{somewhere_other}
use Rattle.narrowed_blocks.proofs.Narrower.{marked_formed, marked_each, goes_on}
use Rattle.narrowed_blocks.proofs.Turned.{turned_formed, turned_each, turned_name, turned_true}

-- ---- a block with equal lists

module _ (c : Context) (ks : List meant.Atom) (f : Tree) (block : List ℕ) (fs : Trees) where
  -- the block is open with these lists
  record IsOpenOf (us : List Atom) (left may_go : List VarId) : Type 0 where
    pub lack : EachOf (Lack ks) block
    pub well_formed : AllByRecursion IsWellFormed us
    pub normal : EachOf (IsNormal c) (map atom_of us)
    pub once : StandsOnce (numbers left)
    pub of_block : (y : ℕ) → Among (numbers left) y → Among block y
    pub names : (y : ℕ) → IsNameOf (map atom_of us) fs y → IsFree f y × (Among block y → Among (numbers left) y)
    pub movable : EachOf (λ (x : VarId). Among left x × ¬ (FreeInSome Mentions fs x.number)) may_go
    pub same : (p : Point ℕ) → Of c p → AreTrue ks p → Somewhere c (Among block) f p ↔ Somewhere c (Among (numbers left)) (And (listed (map atom_of us) fs)) p

  -- a block with equal lists is open where the other is
  open_equal : (old new : OpenBlock) → new.atoms.items ≡ old.atoms.items → new.names.items ≡ old.names.items → new.movable.items ≡ old.movable.items → IsOpen c ks f block fs old → IsOpen c ks f block fs new
  open_equal old new atoms names movable is =
      let first : IsOpenOf old.atoms.items old.names.items old.movable.items = record { lack = is.lack; well_formed = is.well_formed; normal = is.normal; once = is.once; of_block = is.of_block; names = is.names; movable = is.movable; same = is.same } in
      let last : IsOpenOf new.atoms.items new.names.items new.movable.items =
      subst (λ (us : List Atom). IsOpenOf us new.names.items new.movable.items) (sym atoms)
      (subst (λ (ns : List VarId). IsOpenOf old.atoms.items ns new.movable.items) (sym names) (subst (λ (ms : List VarId). IsOpenOf old.atoms.items old.names.items ms) (sym movable) first)) in
      record { lack = last.lack; well_formed = last.well_formed; normal = last.normal; once = last.once; of_block = last.of_block; names = last.names; movable = last.movable; same = last.same }

  -- a block with its first atoms behind the others is open where the block is
  open_turned : (old new : OpenBlock) (us vs : List Atom) → old.atoms.items ≡ us ++ vs → new.atoms.items ≡ vs ++ us → new.names.items ≡ old.names.items → new.movable.items ≡ old.movable.items →
      IsOpen c ks f block fs old → IsOpen c ks f block fs new
  open_turned old new us vs before after names movable is =
      let here : IsOpenOf old.atoms.items old.names.items old.movable.items = record { lack = is.lack; well_formed = is.well_formed; normal = is.normal; once = is.once; of_block = is.of_block; names = is.names; movable = is.movable; same = is.same } in
      let first : IsOpenOf (us ++ vs) old.names.items old.movable.items = subst (λ (ws : List Atom). IsOpenOf ws old.names.items old.movable.items) before here in
      let left = Among (numbers old.names.items) in
      let turned : IsOpenOf (vs ++ us) old.names.items old.movable.items = record {
        lack = first.lack;
        well_formed = turned_formed us vs first.well_formed;
        normal = turned_each (IsNormal c) us vs first.normal;
        once = first.once;
        of_block = first.of_block;
        names = λ y n. first.names y (turned_name us vs fs y n);
        movable = first.movable;
        same = λ p o k. let i = first.same p o k in (
          λ t. somewhere_other c left (And (listed (map atom_of (us ++ vs)) fs)) (And (listed (map atom_of (vs ++ us)) fs)) p (λ q u d h. turned_true c us vs fs q h) (i.0 t),
          λ t. i.1 (somewhere_other c left (And (listed (map atom_of (vs ++ us)) fs)) (And (listed (map atom_of (us ++ vs)) fs)) p (λ q u d h. turned_true c vs us fs q h) t),
        );
      } in
      let last : IsOpenOf new.atoms.items new.names.items new.movable.items =
      subst (λ (ws : List Atom). IsOpenOf ws new.names.items new.movable.items) (sym after)
      (subst (λ (ns : List VarId). IsOpenOf (vs ++ us) ns new.movable.items) (sym names) (subst (λ (ms : List VarId). IsOpenOf (vs ++ us) old.names.items ms) (sym movable) turned)) in
      record { lack = last.lack; well_formed = last.well_formed; normal = last.normal; once = last.once; of_block = last.of_block; names = last.names; movable = last.movable; same = last.same }

module _ (s : Setting) where
  -- a block becomes itself
  pub becomes_self : (o : OpenBlock) → IsSound s o → Becomes s o o
  becomes_self o h = record { sound = h; goes_on = λ f block fs is. is }

  -- what it becomes, and what that becomes
  pub becomes_then : (old now new : OpenBlock) → Becomes s old now → Becomes s now new → Becomes s old new
  becomes_then old now new h k = record { sound = k.sound; goes_on = λ f block fs is. k.goes_on f block fs (h.goes_on f block fs is) }

  -- a copy of what it becomes
  pub becomes_equal : (old now new : OpenBlock) → Becomes s old now → new.atoms.items ≡ now.atoms.items → new.names.items ≡ now.names.items → new.movable.items ≡ now.movable.items → Becomes s old new
  becomes_equal old now new h atoms names movable = record {
    sound = record {
      well_formed = subst (λ (us : List Atom). AllByRecursion IsWellFormed us) (sym atoms) h.sound.well_formed;
      normal = subst (λ (us : List Atom). EachOf (IsNormal (context_of s.context)) (map atom_of us)) (sym atoms) h.sound.normal;
    };
    goes_on = λ f block fs is. open_equal (context_of s.context) (assumed_in s) f block fs now new atoms names movable (h.goes_on f block fs is);
  }

  -- what it becomes is true nowhere
  pub never_then : (old now : OpenBlock) → Becomes s old now → IsNever (context_of s.context) (assumed_in s) now → IsNever (context_of s.context) (assumed_in s) old
  never_then old now h never f block fs is = never f block fs (h.goes_on f block fs is)

  -- one name gone
  pub becomes_narrower : (old new : OpenBlock) (x : VarId) → Among old.movable.items x → (vs : List Atom) → AreShadow (context_of s.context) (assumed_in s) x.number (map atom_of old.atoms.items) vs →
      (kept : Vec Atom Global) → AreNeeded s vs (Some kept) → new.atoms.items ≡ kept.items → new.names.items ≡ others_of x old.names.items → new.movable.items ≡ others_of x old.movable.items → Becomes s old new
  becomes_narrower old new x m vs shadow kept needed atoms names movable =
      let same : new.atoms.items ≡ marked needed.0 vs = atoms ∙ needed.1 in
      record {
        sound = record {
          well_formed = subst (λ (us : List Atom). AllByRecursion IsWellFormed us) (sym same) (marked_formed needed.0 vs shadow.well_formed);
          normal = subst (λ (us : List Atom). EachOf (IsNormal (context_of s.context)) (map atom_of us)) (sym same) (marked_each (IsNormal (context_of s.context)) needed.0 vs shadow.is.normal);
        };
        goes_on = goes_on (context_of s.context) (assumed_in s) old x m vs shadow needed.0 (subst (λ (us : List Atom). Imply (context_of s.context) (assumed_in s) (map atom_of us) (map atom_of vs)) needed.1 needed.2) new same names movable;
      }

  -- the same with its first atoms behind the others
  pub becomes_turned : (old now new : OpenBlock) (k : ℕ) → Becomes s old now → new.atoms.items ≡ drop k now.atoms.items ++ take k now.atoms.items → new.names.items ≡ now.names.items → new.movable.items ≡ now.movable.items → Becomes s old new
  becomes_turned old now new k h atoms names movable =
      let us : List Atom = take k now.atoms.items in
      let vs : List Atom = drop k now.atoms.items in
      let same : now.atoms.items ≡ us ++ vs = sym (take-append-drop k now.atoms.items) in
      record {
        sound = record {
          well_formed = subst (AllByRecursion IsWellFormed) (sym atoms) (turned_formed us vs (subst (AllByRecursion IsWellFormed) same h.sound.well_formed));
          normal = subst (λ (ws : List Atom). EachOf (IsNormal (context_of s.context)) (map atom_of ws)) (sym atoms)
              (turned_each (IsNormal (context_of s.context)) us vs (subst (λ (ws : List Atom). EachOf (IsNormal (context_of s.context)) (map atom_of ws)) same h.sound.normal));
        };
        goes_on = λ f block fs is. open_turned (context_of s.context) (assumed_in s) f block fs now new us vs same atoms names movable (h.goes_on f block fs is);
      }

-- ---- what is read at a place

-- an element at a place is one of the list
found_among : (xs : List VarId) (i : ℕ) (x : VarId) → slice_get xs i ≡ Some x → Among xs x
found_among [] zero x e = cc
found_among [] (suc i) x e = cc
found_among (y ∷ xs) zero x e = inl (let h : Some y ≡ Some x = e in cc)
found_among (y ∷ xs) (suc i) x e = inr (found_among xs i x e)

-- what is found at a place of names is one of them
pub place_among : {B : Type 0} (now : B → VarId) (xs names : List VarId) (i : ℕ) (o : Option B) (r : Option VarId) (x : VarId) → names ≡ xs → MatchOption o (length names ≤ i) (λ (b : B). (i < length names) × HoldsAt (λ y. now b ≡ y) names i) →
    r ≡ option_map now o → r ≡ Some x → Among xs x
place_among now xs names i o r x same found read is = found_among xs i x (ap (λ (l : List VarId). slice_get l i) (sym same) ∙ sym (read_at now names i o found) ∙ sym read ∙ is)
