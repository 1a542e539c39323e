-- What is promised of what was read: a maker made what stood before and after it, and the symbols are again as they were.
use Rattle.std.specs.Prelude.{◌≡◌, ℕ, List, Option}
use Rattle.std.specs.Option.{ForSome}
use Rattle.logic_meaning.specs.Context.{Context}
use Rattle.logic_meaning.specs.Tree.{Tree}
use Rattle.smt_language.specs.Operators.{Meaning}
use Rattle.smt_language.specs.Meaning.{Scope}
use Rattle.smt_resolver.specs.declared.value.Value.{Value}
use Rattle.smt_resolver.specs.declared.value.MemberValues.{MemberValues}
use Rattle.smt_resolver.specs.Readings.{IsMeant, AreMeant, IsScope, IsFrameRead, HasValueId, HaveMemberIds, HaveFrameIds}

-- Names are declared, ids made by then stand for the symbols, and the ids that are made now are these.
module _ {Id : Type 0} (c : Context) (limit : ℕ) (declared : List (List ℕ)) (old : Id → Type 0) (tree : Id → Tree) (is_id : Id → Type 0) (tree2 : Id → Tree) (before after : List (List (List ℕ × Value Id))) where
  -- what was read is what is meant in each scope that the symbols make
  pub record IsReading (means : Scope → Option Meaning) (r : Option (Value Id)) : Type 0 where
    pub read : (s : Scope) → IsScope c limit declared old tree before s → IsMeant c limit is_id tree2 (means s) r
    pub ids : ForSome r (HasValueId is_id)
    pub symbols : after ≡ before

  -- the same of the members of an operator
  pub record AreReadings (means : Scope → Option (List Meaning)) (r : Option (MemberValues Id)) : Type 0 where
    pub read : (s : Scope) → IsScope c limit declared old tree before s → AreMeant c limit is_id tree2 (means s) r
    pub ids : ForSome r (HaveMemberIds is_id)
    pub symbols : after ≡ before

  -- and of the values of a let, by the scope that they make
  pub record IsFrameReading (inner : Scope → Option Scope) (r : Option (List (List ℕ × Value Id))) : Type 0 where
    pub read : (s : Scope) → IsScope c limit declared old tree before s → IsFrameRead c limit is_id tree2 (inner s) s r
    pub ids : ForSome r (HaveFrameIds is_id)
    pub symbols : after ≡ before
