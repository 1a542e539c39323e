-- One name less in a block.
use Rattle.std.specs.Prelude.{◌≡◌, Bool, List, map, Option, Some, None}
use Rattle.std.specs.declared.vec.Vec.{Vec}
use Rattle.std.specs.declared.alloc.Global.{Global}
use Rattle.std.specs.List.{AllByRecursion}
use Rattle.logic_meaning.specs.Some.{EachOf}
use Rattle.logic_meaning.specs.Atom as meant
use Rattle.logic_meaning.specs.NormalForm.{IsNormal}
use Rattle.normal_atoms.specs.declared.atoms.Atom.{Atom}
use Rattle.normal_atoms.specs.Atoms.{context_of, atom_of, IsWellFormed}
use Rattle.atom_pruning.specs.Kept.{AreImpossible, Imply, marked}
use Rattle.atom_pruning.specs.Rows.{AreRows}
use Rattle.narrowed_blocks.specs.declared.open_block.OpenBlock.{OpenBlock}
use Rattle.narrowed_blocks.specs.declared.setting.Setting.{Setting}
use Rattle.narrowed_blocks.specs.declared.setting.Step.{Step}
use Rattle.narrowed_blocks.specs.declared.setting.Step.TheVariants.{Never, Narrower, Stays}
use Rattle.narrowed_blocks.specs.Narrowing.{GoesOn, IsNever}

-- the atoms are well formed, and the rows are theirs
pub record IsSetting (s : Setting) : Type 0 where
  pub well_formed : AllByRecursion IsWellFormed s.assumed.now
  pub rows : AreRows (context_of s.context) (map atom_of s.assumed.now) s.rows.items

-- the assumptions
abbrev pub assumed_in : Setting → List meant.Atom
assumed_in s = map atom_of s.assumed.now

-- the atoms of the block are well formed, and normal
pub record IsSound (s : Setting) (o : OpenBlock) : Type 0 where
  pub well_formed : AllByRecursion IsWellFormed o.atoms.items
  pub normal : EachOf (IsNormal (context_of s.context)) (map atom_of o.atoms.items)

-- the second is what the first becomes
pub record Becomes (s : Setting) (old new : OpenBlock) : Type 0 where
  pub sound : IsSound s new
  pub goes_on : GoesOn (context_of s.context) (assumed_in s) old new

-- what is told of the block is right
abbrev pub IsStep : Setting → OpenBlock → Step → Type 0
IsStep s o Never = IsNever (context_of s.context) (assumed_in s) o
IsStep s o (Narrower new) = Becomes s o new
IsStep s o Stays = Unit {0}

-- what is needed of the atoms under the assumptions: nothing only where no point meets them all; else some of them, which imply the others
abbrev pub AreNeeded : Setting → List Atom → Option (Vec Atom Global) → Type 0
AreNeeded s us None = AreImpossible (context_of s.context) (assumed_in s) (map atom_of us)
AreNeeded s us (Some vs) = (marks : List Bool) × (vs.items ≡ marked marks us) × Imply (context_of s.context) (assumed_in s) (map atom_of vs.items) (map atom_of us)
