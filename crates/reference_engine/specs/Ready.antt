-- Formulas for which the reference elimination is exact.
use Rattle.logic_meaning.specs.Context.{Context}
use Rattle.logic_meaning.specs.Every.{Every, EveryOf}
use Rattle.logic_meaning.specs.Plain.{IsNegationNormal, AreNegationNormal}
use Rattle.logic_meaning.specs.Tree.{Tree, Trees}
use Rattle.logic_meaning.specs.NormalForm.{IsNormal}

-- in negation normal form, over normal atoms
abbrev pub IsReady : Context → Tree → Type 0
IsReady c f = IsNegationNormal f × Every (IsNormal c) f

abbrev pub AreReady : Context → Trees → Type 0
AreReady c fs = AreNegationNormal fs × EveryOf (IsNormal c) fs
