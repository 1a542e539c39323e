-- One name of a block gone, by a shadow of its atoms or by what is needed of one.
use Rattle.std.proofs.Common.{◌≡◌, ℕ, Bool, true, false, List, [], ◌∷◌, refl, ap, sym, subst, inl, inr, ◌↔◌, map}
use Rattle.std.specs.List.{AllByRecursion}
use Rattle.logic_meaning.specs.Context.{Context}
use Rattle.logic_meaning.specs.Every.{FreeInSome}
use Rattle.logic_meaning.specs.Point.{Point, Of}
use Rattle.logic_meaning.specs.Some.{SomeOf, Among, EachOf}
use Rattle.logic_meaning.specs.Atom as meant
use Rattle.logic_meaning.specs.Atom.{Mentions, Says}
use Rattle.logic_meaning.specs.NormalForm.{IsNormal}
use Rattle.logic_meaning.specs.Formula.{And}
use Rattle.logic_meaning.specs.Tree.{Tree, Trees, IsFree}
use Rattle.logic_meaning.specs.declared.form.VarId.{VarId}
use Rattle.formula_laws.specs.StandsOnce.{StandsOnce}
use Rattle.formula_laws.proofs.Iff.{both_ways}
use Rattle.elimination_theory.proofs.SomeListed.{each_among}
use Rattle.normal_atoms.specs.declared.atoms.Atom.{Atom}
use Rattle.normal_atoms.specs.Atoms.{atom_of, IsWellFormed}
use Rattle.case_theory.specs.Block.{Somewhere}
use Rattle.case_theory.specs.PutThrough.{AreTrue}
use Rattle.case_theory.specs.Under.{Lack}
use Rattle.shadow_theory.specs.Shadows.{HasValue, HasNamesOf, AreShadow}
use Rattle.atom_pruning.specs.Kept.{Imply, AreImpossible, marked}
use Rattle.narrowed_blocks.specs.declared.open_block.OpenBlock.{OpenBlock}
use Rattle.narrowed_blocks.specs.Narrowing.{numbers, others_of, listed, IsNameOf, IsOpen, GoesOn, IsNever}
use Rattle.narrowed_blocks.proofs.Names.{number_among, others_stay, number_others, others_once, others_each, other_stays}
use Rattle.narrowed_blocks.proofs.Listed.{never_there, one_gone}

-- ---- of the elements that are marked

-- of no elements none is marked
pub marked_none : {X : Type 0} (marks : List Bool) → marked {X = X} marks [] ≡ []
marked_none [] = refl
marked_none (b ∷ bs) = refl

-- a mark for each
pub all_marks : {X : Type 0} → List X → List Bool
all_marks [] = []
all_marks (x ∷ xs) = true ∷ all_marks xs

-- where each is marked each stays
pub all_marked : {X : Type 0} (xs : List X) → xs ≡ marked (all_marks xs) xs
unfolding all_marks
all_marked [] = refl
all_marked (x ∷ xs) = ap (λ ys. x ∷ ys) (all_marked xs)

-- the atoms that are marked, as meant
pub marked_mapped : (marks : List Bool) (us : List Atom) → map atom_of (marked marks us) ≡ marked marks (map atom_of us)
marked_mapped [] us = refl
marked_mapped (b ∷ marks) [] = refl
marked_mapped (true ∷ marks) (u ∷ us) = ap (λ (vs : List meant.Atom). atom_of u ∷ vs) (marked_mapped marks us)
marked_mapped (false ∷ marks) (u ∷ us) = marked_mapped marks us

-- those that are marked are well formed
pub marked_formed : (marks : List Bool) (us : List Atom) → AllByRecursion IsWellFormed us → AllByRecursion IsWellFormed (marked marks us)
marked_formed [] us h = tt
marked_formed (b ∷ marks) [] h = tt
marked_formed (true ∷ marks) (u ∷ us) h = (h.0, marked_formed marks us h.1)
marked_formed (false ∷ marks) (u ∷ us) h = marked_formed marks us h.1

-- what each has, each that is marked has
pub marked_each : (P : meant.Atom → Type 0) (marks : List Bool) (us : List Atom) → EachOf P (map atom_of us) → EachOf P (map atom_of (marked marks us))
marked_each P [] us h = tt
marked_each P (b ∷ marks) [] h = tt
marked_each P (true ∷ marks) (u ∷ us) h = (h.0, marked_each P marks us h.1)
marked_each P (false ∷ marks) (u ∷ us) h = marked_each P marks us h.1

-- what one of them has that is marked, one has
pub marked_some : (P : meant.Atom → Type 0) (marks : List Bool) (us : List Atom) → SomeOf P (map atom_of (marked marks us)) → SomeOf P (map atom_of us)
marked_some P [] us h = absurd h
marked_some P (b ∷ marks) [] h = absurd h
marked_some P (true ∷ marks) (u ∷ us) (inl h) = inl h
marked_some P (true ∷ marks) (u ∷ us) (inr h) = inr (marked_some P marks us h)
marked_some P (false ∷ marks) (u ∷ us) h = inr (marked_some P marks us h)

-- ---- one name gone

-- a name of a shadow is another one, and stands in the first atoms
shadow_names : (x : ℕ) (us vs : List meant.Atom) → EachOf (HasNamesOf x us) vs → (y : ℕ) → SomeOf (λ (v : meant.Atom). Mentions v y) vs → ¬ (y ≡ x) × SomeOf (λ (u : meant.Atom). Mentions u y) us
shadow_names x us [] h y s = absurd s
shadow_names x us (v ∷ vs) h y (inl s) = h.0 y s
shadow_names x us (v ∷ vs) h y (inr s) = shadow_names x us vs h.1 y s

module _ (c : Context) (ks : List meant.Atom) (old : OpenBlock) (x : VarId) (movable : Among old.movable.items x) where
  -- where no value of the name makes the atoms true
  pub never_open : ((q : Point ℕ) → Of c q → AreTrue ks q → ¬ (HasValue c x.number (map atom_of old.atoms.items) q)) → IsNever c ks old
  never_open never f block fs is p o k s =
      let m = each_among (λ (z : VarId). Among old.names.items z × ¬ (FreeInSome Mentions fs z.number)) old.movable.items x is.movable movable in
      never_there c ks (Among (numbers old.names.items)) (λ y i. each_among (Lack ks) block y is.lack (is.of_block y i)) x.number (number_among old.names.items x m.0) fs m.1 (map atom_of old.atoms.items) p o k never ((is.same p o k).0 s)

  module _ (vs : List Atom) (shadow : AreShadow c ks x.number (map atom_of old.atoms.items) vs) where
    -- where the atoms of the shadow are impossible
    pub never_shadow : AreImpossible c ks (map atom_of vs) → IsNever c ks old
    never_shadow never = never_open (λ q o k h. never q o k ((shadow.is.exact q o k).1 h))

    module _ (marks : List Bool) (enough : Imply c ks (map atom_of (marked marks vs)) (map atom_of vs)) where
      module _ (f : Tree) (block : List ℕ) (fs : Trees) (is : IsOpen c ks f block fs old) where
        -- the name is one of the block, and in none of the other formulas
        mover : Among old.names.items x × ¬ (FreeInSome Mentions fs x.number)
        mover = each_among (λ (z : VarId). Among old.names.items z × ¬ (FreeInSome Mentions fs z.number)) old.movable.items x is.movable movable

        -- the name is one of f, and stays if it is one of the block
        abbrev Stays : ℕ → Type 0
        Stays y = IsFree f y × (Among block y → Among (numbers (others_of x old.names.items)) y)

        -- another name stays
        other_stays_free : (y : ℕ) → ¬ (y ≡ x.number) → IsFree f y × (Among block y → Among (numbers old.names.items) y) → Stays y
        other_stays_free y n h = (h.0, λ m. others_stay x old.names.items y n (h.1 m))

        -- each name that is left stays
        gone_names : (y : ℕ) → IsNameOf (map atom_of (marked marks vs)) fs y → Stays y
        gone_names y (inl s) =
            let r = shadow_names x.number (map atom_of old.atoms.items) (map atom_of vs) shadow.is.names y (marked_some (λ (v : meant.Atom). Mentions v y) marks vs s) in
            other_stays_free y r.0 (is.names y (inl r.1))
        gone_names y (inr s) = other_stays_free y (λ e. mover.1 (subst (λ (z : ℕ). FreeInSome Mentions fs z) e s)) (is.names y (inr s))

        -- the other names that may go still may
        gone_movable : EachOf (λ (z : VarId). Among (others_of x old.names.items) z × ¬ (FreeInSome Mentions fs z.number)) (others_of x old.movable.items)
        gone_movable = others_each x (λ (z : VarId). Among old.names.items z × ¬ (FreeInSome Mentions fs z.number)) (λ (z : VarId). Among (others_of x old.names.items) z × ¬ (FreeInSome Mentions fs z.number))
            (λ z n h. (other_stays x old.names.items z n h.0, h.1)) old.movable.items is.movable

        -- the block is what it was
        gone_same : (p : Point ℕ) → Of c p → AreTrue ks p → Somewhere c (Among block) f p ↔ Somewhere c (Among (numbers (others_of x old.names.items))) (And (listed (map atom_of (marked marks vs)) fs)) p
        gone_same p o k =
            both_ways (is.same p o k)
            (one_gone c ks (Among (numbers old.names.items)) (λ y i. each_among (Lack ks) block y is.lack (is.of_block y i)) x.number (number_among old.names.items x mover.0) fs mover.1 (map atom_of old.atoms.items) p o k
            (Among (numbers (others_of x old.names.items)))
            (λ y. (λ t. others_stay x old.names.items y (λ e. t.0 (sym e)) t.1, λ m. let r = number_others x old.names.items y m in (λ e. r.1 (sym e), r.0)))
            (map atom_of (marked marks vs))
            (λ q u a. (λ t. (shadow.is.exact q u a).0 (enough q u a t), λ h. marked_each (λ (v : meant.Atom). Says v q) marks vs ((shadow.is.exact q u a).1 h))))

      -- the block goes on with the atoms that are needed of the shadow
      pub goes_on : (new : OpenBlock) → new.atoms.items ≡ marked marks vs → new.names.items ≡ others_of x old.names.items → new.movable.items ≡ others_of x old.movable.items → GoesOn c ks old new
      goes_on new atoms names movables f block fs is = record {
        lack = is.lack;
        well_formed = subst (λ (us : List Atom). AllByRecursion IsWellFormed us) (sym atoms) (marked_formed marks vs shadow.well_formed);
        normal = subst (λ (us : List Atom). EachOf (IsNormal c) (map atom_of us)) (sym atoms) (marked_each (IsNormal c) marks vs shadow.is.normal);
        once = subst (λ (ns : List VarId). StandsOnce (numbers ns)) (sym names) (others_once x old.names.items is.once);
        of_block = λ y m. is.of_block y (number_others x old.names.items y (subst (λ (ns : List VarId). Among (numbers ns) y) names m)).0;
        names = λ y s. subst (λ (ns : List VarId). IsFree f y × (Among block y → Among (numbers ns) y)) (sym names) (gone_names f block fs is y (subst (λ (us : List Atom). IsNameOf (map atom_of us) fs y) atoms s));
        movable = subst (λ (ns : List VarId). EachOf (λ (z : VarId). Among new.names.items z × ¬ (FreeInSome Mentions fs z.number)) ns) (sym movables)
            (subst (λ (ns : List VarId). EachOf (λ (z : VarId). Among ns z × ¬ (FreeInSome Mentions fs z.number)) (others_of x old.movable.items)) (sym names) (gone_movable f block fs is));
        same = λ p o k.
            subst (λ (us : List Atom). Somewhere c (Among block) f p ↔ Somewhere c (Among (numbers new.names.items)) (And (listed (map atom_of us) fs)) p) (sym atoms)
            (subst (λ (ns : List VarId). Somewhere c (Among block) f p ↔ Somewhere c (Among (numbers ns)) (And (listed (map atom_of (marked marks vs)) fs)) p) (sym names) (gone_same f block fs is p o k));
      }
