-- The pass keeps the shape and what each atom has, and brings no name.
use Rattle.std.proofs.Common.{◌≡◌, ℕ, Bool, true, false, refl, subst, sym, inl, inr, ⊎_elim, Option, None, Some, List, [], ◌∷◌}
use Rattle.logic_meaning.specs.Formula.{Formula, Formulas, Yes, No, One, Not, And, Or, Impl, Repl, Equiv, Ex, All, none, also}
use Rattle.logic_meaning.specs.Every.{Free, FreeInSome}
use Rattle.logic_meaning.specs.Some.{EachOf}
use Rattle.logic_meaning.specs.Fold.{joined, append, pieces_of, from_pieces}
use Rattle.logic_meaning.specs.declared.junction.Junction.{Junction}
use Rattle.logic_meaning.specs.declared.junction.Junction.TheVariants.{Conjunction, Disjunction}
use Rattle.normal_atoms.specs.Computed.{Merging, Settled, Into, Kept}
use Rattle.logic_meaning.specs.AtomKit.{without}
use Rattle.shape_theory.specs.Kit.{Kit}
use Rattle.shape_theory.specs.Orderly.{IsOrderly, AreOrderly}
use Rattle.shape_theory.proofs.FreeTests.{NamesTold, not_free}
use Rattle.shape_theory.specs.Pass.{Parts, Closed, Open, settles, constant, close, opened, closed_if, atom_or, pushed_unless, where_merged, decided, with_one, by_decision, with_atom, has, with_other, with_piece, with_pieces, with_member, with_atom_first, with_atoms, with_passed, known, is_free, quantified, pass, others}
use Rattle.logic_meaning.specs.AtomsFirst.{ones}

-- any name
abbrev pub Any : ℕ → Type 0
Any x = Unit {0}

-- a merged atom has P, and no name that the first has not
pub record MergesWithin {A : Type 0} (kit : Kit A) (P : A → Type 0) (Mentions : A → ℕ → Type 0) : Type 0 where
  pub keeps : (j : Junction) (a b d : A) → P a → P b → kit.merge j a b ≡ Into d → P d
  pub names : (j : Junction) (a b d : A) → P a → P b → kit.merge j a b ≡ Into d → (x : ℕ) → Mentions d x → Mentions a x

module _ {A : Type 0} (kit : Kit A) (P : A → Type 0) (Mentions : A → ℕ → Type 0) (laws : MergesWithin kit P Mentions) (told : NamesTold kit Mentions) where
  -- all names are in C
  module _ (C : ℕ → Type 0) where
    -- orderly, with free names in C alone
    pub record IsWithin (f : Formula A ℕ) : Type 0 where
      pub orderly : IsOrderly P f
      pub names : (x : ℕ) → Free Mentions f x → C x

    pub record AreWithin (fs : Formulas A ℕ) : Type 0 where
      pub orderly : AreOrderly P fs
      pub names : (x : ℕ) → FreeInSome Mentions fs x → C x

    pub record HasAtom (a : A) : Type 0 where
      pub holds : P a
      pub names : (x : ℕ) → Mentions a x → C x

    abbrev AtomsWithin : Option (List A) → Type 0
    AtomsWithin None = Unit {0}
    AtomsWithin (Some us) = EachOf HasAtom us

    abbrev pub PartsWithin : Parts A → Type 0
    PartsWithin Closed = Unit {0}
    PartsWithin (Open us gs) = EachOf HasAtom us × AreWithin gs

    abbrev pub PiecesWithin : Option (Formulas A ℕ) → Type 0
    PiecesWithin None = Unit {0}
    PiecesWithin (Some fs) = AreWithin fs

    pub nothing : AreWithin none
    nothing = record { orderly = tt; names = λ x h. absurd h }

    pub one_more : (f : Formula A ℕ) (fs : Formulas A ℕ) → IsWithin f → AreWithin fs → AreWithin (also f fs)
    one_more f fs h k = record { orderly = (h.orderly, k.orderly); names = λ x. ⊎_elim (h.names x) (k.names x) }

    pub first : (f : Formula A ℕ) (fs : Formulas A ℕ) → AreWithin (also f fs) → IsWithin f
    first f fs h = record { orderly = h.orderly.0; names = λ x t. h.names x (inl t) }

    pub rest : (f : Formula A ℕ) (fs : Formulas A ℕ) → AreWithin (also f fs) → AreWithin fs
    rest f fs h = record { orderly = h.orderly.1; names = λ x t. h.names x (inr t) }

    pub atom_of : (a : A) → IsWithin (One a) → HasAtom a
    atom_of a h = record { holds = h.orderly; names = h.names }

    pub of_atom : (a : A) → HasAtom a → IsWithin (One a)
    of_atom a h = record { orderly = h.holds; names = h.names }

    -- ---- an atom more

    merged_within : (j : Junction) (a b : A) (bs : List A) (m : Merging A) → kit.merge j b a ≡ m → HasAtom a → HasAtom b → EachOf HasAtom bs → (r : Option (List A)) → AtomsWithin r → AtomsWithin (where_merged m b bs r)
    merged_within j a b bs Settled e h k l r t = tt
    merged_within j a b bs (Into d) e h k l r t = (record { holds = laws.keeps j b a d k.holds h.holds e; names = λ x n. k.names x (laws.names j b a d k.holds h.holds e x n) }, l)
    merged_within j a b bs Kept e h k l None t = tt
    merged_within j a b bs Kept e h k l (Some cs) t = (k, t)

    one_within : (j : Junction) (a : A) (us : List A) → HasAtom a → EachOf HasAtom us → AtomsWithin (with_one kit j a us)
    one_within j a [] h l = (h, tt)
    one_within j a (b ∷ bs) h l = merged_within j a b bs (kit.merge j b a) refl h l.0 l.1 (with_one kit j a bs) (one_within j a bs h l.1)

    opened_within : (r : Option (List A)) (gs : Formulas A ℕ) → AtomsWithin r → AreWithin gs → PartsWithin (opened r gs)
    opened_within None gs h k = tt
    opened_within (Some us) gs h k = (h, k)

    closed_if_within : (b : Bool) (us : List A) (gs : Formulas A ℕ) → EachOf HasAtom us → AreWithin gs → PartsWithin (closed_if b us gs)
    closed_if_within true us gs h k = tt
    closed_if_within false us gs h k = (h, k)

    decision_within : (o : Option Bool) (j : Junction) (a : A) (us : List A) (gs : Formulas A ℕ) → HasAtom a → EachOf HasAtom us → AreWithin gs → PartsWithin (by_decision kit o j a us gs)
    decision_within (Some b) j a us gs h k l = closed_if_within (settles j b) us gs k l
    decision_within None j a us gs h k l = opened_within (with_one kit j a us) gs (one_within j a us h k) l

    pub atom_within : (j : Junction) (ks : List A) (a : A) (s : Parts A) → HasAtom a → PartsWithin s → PartsWithin (with_atom kit j ks a s)
    atom_within j ks a Closed h k = tt
    atom_within j ks a (Open us gs) h k = decision_within (decided kit ks a) j a us gs h k.0 k.1

    pub atom_first_within : (j : Junction) (ks : List A) (f : Formula A ℕ) (s : Parts A) → IsWithin f → PartsWithin s → PartsWithin (with_atom_first kit j ks f s)
    atom_first_within j ks (One a) s h k = atom_within j ks a s (atom_of a h) k
    atom_first_within j ks f s h k = k

    pub atoms_within : (j : Junction) (ks : List A) (fs : Formulas A ℕ) (s : Parts A) → AreWithin fs → PartsWithin s → PartsWithin (with_atoms kit j ks fs s)
    atoms_within j ks none s h k = k
    atoms_within j ks (also f fs) s h k = atoms_within j ks fs (with_atom_first kit j ks f s) (rest f fs h) (atom_first_within j ks f s (first f fs h) k)

    -- ---- another member more

    append_within : (gs : Formulas A ℕ) (f : Formula A ℕ) → AreWithin gs → IsWithin f → AreWithin (append gs (also f none))
    append_within none f h k = one_more f none k nothing
    append_within (also g gs) f h k = one_more g (append gs (also f none)) (first g gs h) (append_within gs f (rest g gs h) k)

    pushed_within : (b : Bool) (f : Formula A ℕ) (gs : Formulas A ℕ) → IsWithin f → AreWithin gs → AreWithin (pushed_unless b f gs)
    pushed_within true f gs h k = k
    pushed_within false f gs h k = append_within gs f k h

    other_within : (f : Formula A ℕ) (s : Parts A) → IsWithin f → PartsWithin s → PartsWithin (with_other kit f s)
    other_within f Closed h k = tt
    other_within f (Open us gs) h k = (k.0, pushed_within (has kit gs f) f gs h k.1)

    pub piece_within : (j : Junction) (ks : List A) (f : Formula A ℕ) (s : Parts A) → IsWithin f → PartsWithin s → PartsWithin (with_piece kit j ks f s)
    piece_within j ks (One a) s h k = atom_within j ks a s (atom_of a h) k
    piece_within j ks f s h k = other_within f s h k

    pieces_within : (j : Junction) (ks : List A) (fs : Formulas A ℕ) (s : Parts A) → AreWithin fs → PartsWithin s → PartsWithin (with_pieces kit j ks fs s)
    pieces_within j ks none s h k = k
    pieces_within j ks (also f fs) s h k = pieces_within j ks fs (with_piece kit j ks f s) (rest f fs h) (piece_within j ks f s (first f fs h) k)

    member_within : (j : Junction) (ks : List A) (o : Option (Formulas A ℕ)) (s : Parts A) → PiecesWithin o → PartsWithin s → PartsWithin (with_member kit j ks o s)
    member_within j ks None s h k = tt
    member_within j ks (Some fs) s h k = pieces_within j ks fs s h k

    alone : (f : Formula A ℕ) → IsWithin f → AreWithin (also f none)
    alone f h = one_more f none h nothing

    list_pieces : (fs : Formulas A ℕ) → IsWithin (And fs) → AreWithin fs
    list_pieces fs h = record { orderly = h.orderly.1; names = h.names }

    or_pieces : (fs : Formulas A ℕ) → IsWithin (Or fs) → AreWithin fs
    or_pieces fs h = record { orderly = h.orderly.1; names = h.names }

    pub split_within : (j : Junction) (f : Formula A ℕ) → IsWithin f → PiecesWithin (pieces_of j f)
    split_within Conjunction Yes h = nothing
    split_within Conjunction No h = tt
    split_within Conjunction (And fs) h = list_pieces fs h
    split_within Conjunction f h = alone f h
    split_within Disjunction Yes h = tt
    split_within Disjunction No h = nothing
    split_within Disjunction (Or fs) h = or_pieces fs h
    split_within Disjunction f h = alone f h

    pub passed_within : (j : Junction) (ks : List A) (f g : Formula A ℕ) (s : Parts A) → IsWithin g → PartsWithin s → PartsWithin (with_passed kit j ks f g s)
    passed_within j ks (One a) g s h k = k
    passed_within j ks f g s h k = member_within j ks (pieces_of j g) s (split_within j g h) k

    -- ---- the list closed

    ones_within : (us : List A) (gs : Formulas A ℕ) → EachOf HasAtom us → AreWithin gs → AreWithin (ones us gs)
    ones_within [] gs h k = k
    ones_within (a ∷ us) gs h k = one_more (One a) (ones us gs) (of_atom a h.0) (ones_within us gs h.1 k)

    constant_within : (b : Bool) → IsWithin (constant b)
    constant_within true = record { orderly = tt; names = λ x h. absurd h }
    constant_within false = record { orderly = tt; names = λ x h. absurd h }

    joined_within : (j : Junction) (f g : Formula A ℕ) (fs : Formulas A ℕ) → AreWithin (also f (also g fs)) → IsWithin (joined j (also f (also g fs)))
    joined_within Conjunction f g fs h = record { orderly = (tt, h.orderly); names = h.names }
    joined_within Disjunction f g fs h = record { orderly = (tt, h.orderly); names = h.names }

    from_within : (j : Junction) (fs : Formulas A ℕ) → AreWithin fs → IsWithin (from_pieces j (Some fs))
    from_within Conjunction none h = constant_within true
    from_within Disjunction none h = constant_within false
    from_within j (also f none) h = first f none h
    from_within j (also f (also g fs)) h = joined_within j f g fs h

    close_within : (j : Junction) (s : Parts A) → PartsWithin s → IsWithin (close j s)
    close_within Conjunction Closed h = constant_within false
    close_within Disjunction Closed h = constant_within true
    close_within j (Open us gs) h = from_within j (ones us gs) (ones_within us gs h.0 h.1)

  -- ---- the pass

  pub wider : (C D : ℕ → Type 0) (f : Formula A ℕ) → ((x : ℕ) → C x → D x) → IsWithin C f → IsWithin D f
  wider C D f w h = record { orderly = h.orderly; names = λ x t. w x (h.names x t) }

  abbrev pub FreeIn : Formula A ℕ → ℕ → Type 0
  FreeIn f x = Free Mentions f x

  abbrev pub FreeInAny : Formulas A ℕ → ℕ → Type 0
  FreeInAny fs x = FreeInSome Mentions fs x

  pub decided_within : (a : A) (o : Option Bool) → P a → IsWithin (Mentions a) (atom_or a o)
  decided_within a (Some b) h = constant_within (Mentions a) b
  decided_within a None h = record { orderly = h; names = λ x t. t }

  -- a quantifier stays where its name is free
  quantified_within : (y : ℕ) (f g : Formula A ℕ) (q : Formula A ℕ → Formula A ℕ) → ((g : Formula A ℕ) → IsOrderly P g → IsOrderly P (q g)) → ((g : Formula A ℕ) (x : ℕ) → FreeIn (q g) x → ¬ (y ≡ x) × FreeIn g x)
      → (b : Bool) → is_free kit y g ≡ b → IsWithin (FreeIn f) g → IsWithin (λ x. ¬ (y ≡ x) × FreeIn f x) (quantified q b g)
  quantified_within y f g q orderly free true e h = record { orderly = orderly g h.orderly; names = λ x t. let u = free g x t in (u.0, h.names x u.1) }
  quantified_within y f g q orderly free false e h = record {
    orderly = h.orderly;
    names = λ x t. (λ (k : y ≡ x). not_free kit Mentions told y g e (subst (FreeIn g) (sym k) t), h.names x t);
  }

  pub start : (C : ℕ → Type 0) → PartsWithin C (Open [] none)
  start C = (tt, nothing C)

  mutual
    pub pass_within : (f : Formula A ℕ) (ks : List A) → IsOrderly P f → IsWithin (FreeIn f) (pass kit f ks)
    pass_within Yes ks h = record { orderly = tt; names = λ x t. t }
    pass_within No ks h = record { orderly = tt; names = λ x t. t }
    pass_within (One a) ks h = decided_within a (decided kit ks a) h
    pass_within (Not f) ks h = absurd h
    pass_within (And fs) ks h =
        close_within (FreeInAny fs) Conjunction _
        (others_within fs fs Conjunction ks _ (λ x t. t) h.1 (atoms_within (FreeInAny fs) Conjunction ks fs (Open [] none) (record { orderly = h.1; names = λ x t. t }) (start (FreeInAny fs))))
    pass_within (Or fs) ks h =
        close_within (FreeInAny fs) Disjunction _
        (others_within fs fs Disjunction ks _ (λ x t. t) h.1 (atoms_within (FreeInAny fs) Disjunction ks fs (Open [] none) (record { orderly = h.1; names = λ x t. t }) (start (FreeInAny fs))))
    pass_within (Impl f g) ks h = absurd h
    pass_within (Repl f g) ks h = absurd h
    pass_within (Equiv f g) ks h = absurd h
    pass_within (Ex y f) ks h =
        quantified_within y f (pass kit f (without kit.contains y ks)) (Ex y) (λ g t. t) (λ g x t. t) (is_free kit y (pass kit f (without kit.contains y ks))) refl
        (pass_within f (without kit.contains y ks) h)
    pass_within (All y f) ks h =
        quantified_within y f (pass kit f (without kit.contains y ks)) (All y) (λ g t. t) (λ g x t. t) (is_free kit y (pass kit f (without kit.contains y ks))) refl
        (pass_within f (without kit.contains y ks) h)

    -- the members fs of the list ts
    pub others_within : (ts fs : Formulas A ℕ) (j : Junction) (ks : List A) (s : Parts A) → ((x : ℕ) → FreeInAny fs x → FreeInAny ts x) → AreOrderly P fs → PartsWithin (FreeInAny ts) s → PartsWithin (FreeInAny ts) (others kit fs j ks s)
    others_within ts none j ks s c h k = k
    others_within ts (also f fs) j ks s c h k =
        others_within ts fs j ks (with_passed kit j ks f (pass kit f (known kit j s ks)) s) (λ x t. c x (inr t)) h.1
        (passed_within (FreeInAny ts) j ks f (pass kit f (known kit j s ks)) s (wider (FreeIn f) (FreeInAny ts) _ (λ x t. c x (inl t)) (pass_within f (known kit j s ks) h.0)) k)
