-- What a chooser has chosen, and a formula with the names that it chooses.
use Rattle.std.specs.Prelude.{◌≡◌, ℕ, ◌<◌, Bool, false, List, slice_get, unwrap_or}
use Rattle.logic_meaning.specs.Context.{Context}
use Rattle.logic_meaning.specs.Atom.{Mentions}
use Rattle.logic_meaning.specs.Every.{Every, EveryOf, EveryBound, EveryBoundOf, FreeInSome}
use Rattle.logic_meaning.specs.Replaced.{replaced, all_replaced}
use Rattle.logic_meaning.specs.Tree.{Tree, Trees, IsFree}
use Rattle.language_meaning.specs.Somewhere.{SomeAtom, SomewhereIn}
use Rattle.logic_meaning.specs.NormalForm.{normal_atom, IsNormal, ConstantPasses}
use Rattle.logic_meaning.specs.Renaming.{Chosen, after, after_all, renamed, all_renamed}
use Rattle.shape_theory.specs.Links.{Links}
use Rattle.prenex_forms.specs.declared.chooser.Chooser.{Chooser}
use Rattle.prenex_forms.specs.Named.{now_of}

-- what the list has at the name's number, or false past its end
abbrev pub flag : List Bool → ℕ → Bool
flag flags x = unwrap_or (slice_get flags x) false

-- which names are taken, and how many new ones were made
abbrev pub chosen_of : Chooser → Chosen
chosen_of c = record { taken = flag c.taken.items; made = c.made }

-- ---- one formula

-- the formula with the chosen names
abbrev pub named_by : Chooser → Tree → Tree
named_by chooser f = renamed chooser.count (now_of chooser.now.items) f (chosen_of chooser)

-- its atoms are normal, its quantified names are known, and its free names are used and not mixed up
pub record CanRename (c : Context) (chooser : Chooser) (f : Tree) : Type 0 where
  pub normal : Every (IsNormal c) f
  pub bound : EveryBound (λ x. x < chooser.count) f
  pub links : Links chooser.count (IsFree f) (now_of chooser.now.items) (chosen_of chooser)

-- the normal form of some atom with the chosen names passes the limit
abbrev pub Overflows : Context → Chooser → Tree → Type 0
Overflows c chooser f = SomeAtom (λ a. ConstantPasses (normal_atom c a)) (named_by chooser f)

-- g is the formula with the chosen names and its atoms in normal form, and the new chooser has chosen them
pub record IsRenamed (c : Context) (old : Chooser) (f g : Tree) (new : Chooser) : Type 0 where
  pub made : g ≡ replaced (normal_atom c) (λ x. x) (named_by old f)
  pub chosen : chosen_of new ≡ after old.count f (chosen_of old)
  pub now : new.now.items ≡ old.now.items
  pub count : new.count ≡ old.count
  pub fits : ¬ (Overflows c old f)

-- ---- a list of formulas

abbrev pub all_named_by : Chooser → Trees → Trees
all_named_by chooser fs = all_renamed chooser.count (now_of chooser.now.items) fs (chosen_of chooser)

pub record CanRenameAll (c : Context) (chooser : Chooser) (fs : Trees) : Type 0 where
  pub normal : EveryOf (IsNormal c) fs
  pub bound : EveryBoundOf (λ x. x < chooser.count) fs
  pub links : Links chooser.count (λ x. FreeInSome Mentions fs x) (now_of chooser.now.items) (chosen_of chooser)

abbrev pub SomeOverflows : Context → Chooser → Trees → Type 0
SomeOverflows c chooser fs = SomewhereIn (λ a. ConstantPasses (normal_atom c a)) (λ x. ⊥) (all_named_by chooser fs)

pub record AreRenamed (c : Context) (old : Chooser) (fs gs : Trees) (new : Chooser) : Type 0 where
  pub made : gs ≡ all_replaced (normal_atom c) (λ x. x) (all_named_by old fs)
  pub chosen : chosen_of new ≡ after_all old.count fs (chosen_of old)
  pub now : new.now.items ≡ old.now.items
  pub count : new.count ≡ old.count
  pub fits : ¬ (SomeOverflows c old fs)
