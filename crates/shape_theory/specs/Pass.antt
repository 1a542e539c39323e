-- Simplification under a list of atoms, as a function that computes: a pass down the formula, which is repeated while the
-- formula gets smaller.
use Rattle.std.specs.Prelude.{ℕ, zero, suc, nat_eq, nat_lt, Bool, true, false, not, ◌||◌, ◌&&◌, Option, Some, None, List, [], ◌∷◌, if◌then◌else◌}
use Rattle.logic_meaning.specs.Formula.{Formula, Formulas, Yes, No, One, Not, And, Or, Impl, Repl, Equiv, Ex, All, none, also}
use Rattle.logic_meaning.specs.Fold.{absorbing, append, pieces_of, from_pieces}
use Rattle.logic_meaning.specs.declared.junction.Junction.{Junction}
use Rattle.logic_meaning.specs.declared.junction.Junction.TheVariants.{Conjunction, Disjunction}
use Rattle.logic_meaning.specs.Sizes.{nodes, same_formula}
use Rattle.normal_atoms.specs.Computed.{Merging, Settled, Into, Kept}
use Rattle.logic_meaning.specs.AtomKit.{without, beside}
use Rattle.shape_theory.specs.Kit.{Kit}
use Rattle.logic_meaning.specs.AtomsFirst.{ones}

-- a list on the way: its atoms and its other members; Closed where its junction is settled
pub data Parts (A : Type 0) : Type 0 where
  Closed : Parts A
  Open : List A → Formulas A ℕ → Parts A

-- whether a member of this truth settles a list
abbrev pub settles : Junction → Bool → Bool
settles Conjunction b = not b
settles Disjunction b = b

-- true or false
abbrev pub constant : {A : Type 0} → Bool → Formula A ℕ
constant true = Yes
constant false = No

-- the first of two answers
abbrev pub first_answer : Option Bool → Option Bool → Option Bool
first_answer (Some b) o = Some b
first_answer None o = o

module _ {A : Type 0} where
  -- the list joined; one member stands for the whole
  abbrev pub close : Junction → Parts A → Formula A ℕ
  close j Closed = absorbing j
  close j (Open us gs) = from_pieces j (Some (ones us gs))

  abbrev pub opened : Option (List A) → Formulas A ℕ → Parts A
  opened None gs = Closed
  opened (Some us) gs = Open us gs

  abbrev pub closed_if : Bool → List A → Formulas A ℕ → Parts A
  closed_if true us gs = Closed
  closed_if false us gs = Open us gs

  abbrev pub atom_or : A → Option Bool → Formula A ℕ
  atom_or a (Some b) = constant b
  atom_or a None = One a

  -- the quantified formula, or f itself where the name is not free in it
  abbrev pub quantified : (Formula A ℕ → Formula A ℕ) → Bool → Formula A ℕ → Formula A ℕ
  quantified q true f = q f
  quantified q false f = f

  -- the list with f at its end unless it is there
  abbrev pub pushed_unless : Bool → Formula A ℕ → Formulas A ℕ → Formulas A ℕ
  pushed_unless true f gs = gs
  pushed_unless false f gs = append gs (also f none)

  -- the atoms after b and the merging of b with a new one, given what the later ones become with it
  abbrev pub where_merged : Merging A → A → List A → Option (List A) → Option (List A)
  where_merged Settled b bs r = None
  where_merged (Into d) b bs r = Some (d ∷ bs)
  where_merged Kept b bs None = None
  where_merged Kept b bs (Some cs) = Some (b ∷ cs)

module _ {A : Type 0} (kit : Kit A) where
  -- what the atoms ks say of a: the first that decides it
  abbrev pub decided : List A → A → Option Bool
  decided [] a = None
  decided (k ∷ ks) a = first_answer (kit.decides k a) (decided ks a)

  -- the atoms with a: it takes the place of the first with which it merges, else it comes last; nothing where the two settle the list
  abbrev pub with_one : Junction → A → List A → Option (List A)
  with_one j a [] = Some (a ∷ [])
  with_one j a (b ∷ bs) = where_merged (kit.merge j b a) b bs (with_one j a bs)

  abbrev pub by_decision : Option Bool → Junction → A → List A → Formulas A ℕ → Parts A
  by_decision (Some b) j a us gs = closed_if (settles j b) us gs
  by_decision None j a us gs = opened (with_one j a us) gs

  -- with an atom more, which the atoms ks may decide
  abbrev pub with_atom : Junction → List A → A → Parts A → Parts A
  with_atom j ks a Closed = Closed
  with_atom j ks a (Open us gs) = by_decision (decided ks a) j a us gs

  -- whether f is a member
  abbrev pub has : Formulas A ℕ → Formula A ℕ → Bool
  has none f = false
  has (also g gs) f = same_formula kit.same nat_eq g f || has gs f

  -- with a member more that is no atom, unless it is there
  abbrev pub with_other : Formula A ℕ → Parts A → Parts A
  with_other f Closed = Closed
  with_other f (Open us gs) = Open us (pushed_unless (has gs f) f gs)

  abbrev pub with_piece : Junction → List A → Formula A ℕ → Parts A → Parts A
  with_piece j ks (One a) s = with_atom j ks a s
  with_piece j ks f s = with_other f s

  abbrev pub with_pieces : Junction → List A → Formulas A ℕ → Parts A → Parts A
  with_pieces j ks none s = s
  with_pieces j ks (also f fs) s = with_pieces j ks fs (with_piece j ks f s)

  -- with the pieces of a member: a constant goes or settles the list, a list of the same junction gives its members
  abbrev pub with_member : Junction → List A → Option (Formulas A ℕ) → Parts A → Parts A
  with_member j ks None s = Closed
  with_member j ks (Some fs) s = with_pieces j ks fs s

  abbrev pub with_atom_first : Junction → List A → Formula A ℕ → Parts A → Parts A
  with_atom_first j ks (One a) s = with_atom j ks a s
  with_atom_first j ks f s = s

  -- with the atoms among the members
  abbrev pub with_atoms : Junction → List A → Formulas A ℕ → Parts A → Parts A
  with_atoms j ks none s = s
  with_atoms j ks (also f fs) s = with_atoms j ks fs (with_atom_first j ks f s)

  -- the member f, which has become g; atoms are in the list already
  abbrev pub with_passed : Junction → List A → Formula A ℕ → Formula A ℕ → Parts A → Parts A
  with_passed j ks (One a) g s = s
  with_passed j ks f g s = with_member j ks (pieces_of j g) s

  -- the atoms that are known beside the list
  abbrev pub known : Junction → Parts A → List A → List A
  known j Closed ks = ks
  known j (Open us gs) ks = beside kit.opposite j us ks

  abbrev mutual
    -- the name is free
    pub is_free : ℕ → Formula A ℕ → Bool
    is_free x Yes = false
    is_free x No = false
    is_free x (One a) = kit.contains a x
    is_free x (Not f) = is_free x f
    is_free x (And fs) = is_free_in_some x fs
    is_free x (Or fs) = is_free_in_some x fs
    is_free x (Impl f g) = is_free x f || is_free x g
    is_free x (Repl f g) = is_free x f || is_free x g
    is_free x (Equiv f g) = is_free x f || is_free x g
    is_free x (Ex y f) = not (nat_eq y x) && is_free x f
    is_free x (All y f) = not (nat_eq y x) && is_free x f

    pub is_free_in_some : ℕ → Formulas A ℕ → Bool
    is_free_in_some x none = false
    is_free_in_some x (also f fs) = is_free x f || is_free_in_some x fs

  abbrev mutual
    -- One pass under the atoms ks. The atoms of a list come first; what they tell goes down to the other members.
    pub pass : Formula A ℕ → List A → Formula A ℕ
    pass Yes ks = Yes
    pass No ks = No
    pass (One a) ks = atom_or a (decided ks a)
    pass (Not f) ks = Not f
    pass (And fs) ks = close Conjunction (others fs Conjunction ks (with_atoms Conjunction ks fs (Open [] none)))
    pass (Or fs) ks = close Disjunction (others fs Disjunction ks (with_atoms Disjunction ks fs (Open [] none)))
    pass (Impl f g) ks = Impl f g
    pass (Repl f g) ks = Repl f g
    pass (Equiv f g) ks = Equiv f g
    pass (Ex x f) ks = let g = pass f (without kit.contains x ks) in quantified (Ex x) (is_free x g) g
    pass (All x f) ks = let g = pass f (without kit.contains x ks) in quantified (All x) (is_free x g) g

    -- the other members, each passed under what is known by then
    pub others : Formulas A ℕ → Junction → List A → Parts A → Parts A
    others none j ks s = s
    others (also f fs) j ks s = others fs j ks (with_passed j ks f (pass f (known j s ks)) s)

  -- the formula f, which the pass made of one with n nodes; passed again where it has fewer, at most so many times
  abbrev pub repeated : ℕ → Formula A ℕ → List A → Formula A ℕ
  repeated zero f ks = f
  repeated (suc n) f ks = let g = pass f ks in if nat_lt (nodes g) (nodes f) then repeated n g ks else g

  -- simplified under the atoms ks
  abbrev pub simplified : Formula A ℕ → List A → Formula A ℕ
  simplified f ks = repeated (nodes f) f ks
