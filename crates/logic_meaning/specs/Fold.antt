-- Folding of constants and nested lists: in an and, members true go, a member false makes the whole false, a member that is
-- an and gives its members, and one member that is left stands for the whole. Or is the dual.
use Rattle.std.specs.Prelude.{Option, Some, None}
use Rattle.logic_meaning.specs.Formula.{Formula, Formulas, Yes, No, One, Not, And, Or, Impl, Repl, Equiv, Ex, All, none, also}
use Rattle.logic_meaning.specs.declared.junction.Junction.{Junction}
use Rattle.logic_meaning.specs.declared.junction.Junction.TheVariants.{Conjunction, Disjunction}

module _ {A N : Type 0} where
  -- the list joined
  abbrev pub joined : Junction → Formulas A N → Formula A N
  joined Conjunction fs = And fs
  joined Disjunction fs = Or fs

  -- the list without members, joined
  abbrev pub neutral : Junction → Formula A N
  neutral Conjunction = Yes
  neutral Disjunction = No

  -- the member that decides the whole
  abbrev pub absorbing : Junction → Formula A N
  absorbing Conjunction = No
  absorbing Disjunction = Yes

  -- the members of the first list, then those of the second
  abbrev pub append : Formulas A N → Formulas A N → Formulas A N
  append none gs = gs
  append (also f fs) gs = also f (append fs gs)

  -- what a member gives to the list; nothing where it decides the whole
  abbrev pub pieces_of : Junction → Formula A N → Option (Formulas A N)
  pieces_of Conjunction Yes = Some none
  pieces_of Conjunction No = None
  pieces_of Conjunction (And fs) = Some fs
  pieces_of Conjunction f = Some (also f none)
  pieces_of Disjunction Yes = None
  pieces_of Disjunction No = Some none
  pieces_of Disjunction (Or fs) = Some fs
  pieces_of Disjunction f = Some (also f none)

  -- the two lists as one; nothing where either is nothing
  abbrev pub put_together : Option (Formulas A N) → Option (Formulas A N) → Option (Formulas A N)
  put_together None gs = None
  put_together (Some fs) None = None
  put_together (Some fs) (Some gs) = Some (append fs gs)

  -- what all members give
  abbrev pub all_pieces : Junction → Formulas A N → Option (Formulas A N)
  all_pieces j none = Some none
  all_pieces j (also f fs) = put_together (pieces_of j f) (all_pieces j fs)

  -- the pieces joined, where one stands for the whole
  abbrev pub from_pieces : Junction → Option (Formulas A N) → Formula A N
  from_pieces j None = absorbing j
  from_pieces j (Some none) = neutral j
  from_pieces j (Some (also f none)) = f
  from_pieces j (Some (also f (also g gs))) = joined j (also f (also g gs))

  -- the list joined and folded
  abbrev pub fold_list : Junction → Formulas A N → Formula A N
  fold_list j fs = from_pieces j (all_pieces j fs)

  abbrev mutual
    -- the formula with each and and each or folded, from the inside
    pub folded : Formula A N → Formula A N
    folded Yes = Yes
    folded No = No
    folded (One a) = One a
    folded (Not f) = Not (folded f)
    folded (And fs) = fold_list Conjunction (all_folded fs)
    folded (Or fs) = fold_list Disjunction (all_folded fs)
    folded (Impl f g) = Impl (folded f) (folded g)
    folded (Repl f g) = Repl (folded f) (folded g)
    folded (Equiv f g) = Equiv (folded f) (folded g)
    folded (Ex x f) = Ex x (folded f)
    folded (All x f) = All x (folded f)

    -- each member folded
    pub all_folded : Formulas A N → Formulas A N
    all_folded none = none
    all_folded (also f fs) = also (folded f) (all_folded fs)
