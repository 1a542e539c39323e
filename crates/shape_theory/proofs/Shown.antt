-- What a formula makes step by step, against the lists of the formula with its constants folded, distributed.
use Rattle.std.proofs.Common.{◌≡◌, ℕ, ◌≤◌, Bool, true, false, not, refl, sym, ap, ◌∙◌, subst, ◌⊎◌, inl, inr, Option, None, Some, List, [], ◌∷◌, ◌++◌, map, length, arith, length-append}
use Rattle.std.proofs.lemmas.List.{length-map}
use Rattle.logic_meaning.specs.Formula.{Formula, Formulas, Yes, No, One, Not, And, Or, Impl, Repl, Equiv, Ex, All, none, also}
use Rattle.logic_meaning.specs.Some.{EachOf}
use Rattle.logic_meaning.specs.Shape.{IsQuantifierFree, AreQuantifierFree}
use Rattle.logic_meaning.specs.Fold.{append, pieces_of, put_together, all_pieces, from_pieces, folded, all_folded}
use Rattle.logic_meaning.specs.declared.junction.Junction.{Junction}
use Rattle.logic_meaning.specs.declared.junction.Junction.TheVariants.{Conjunction, Disjunction}
use Rattle.shape_theory.specs.Orderly.{IsOrderly, AreOrderly}
use Rattle.logic_meaning.specs.Ways.{is_same}
use Rattle.logic_meaning.specs.PlainForms.{products, together, of_none, distributed, all_distributed}
use Rattle.shape_theory.proofs.Inserting.{each_append}
use Rattle.shape_theory.proofs.Joins.{together_right, together_left, distributed_append, pieces_assoc, append_nothing}

module _ {A : Type 0} where
  put_nothing : (o : Option (Formulas A ℕ)) → put_together o (Some none) ≡ o
  put_nothing None = refl
  put_nothing (Some fs) = ap Some (append_nothing fs)

  put_first : (o : Option (Formulas A ℕ)) → put_together (Some none) o ≡ o
  put_first None = refl
  put_first (Some fs) = refl

  put_assoc : (o u v : Option (Formulas A ℕ)) → put_together (put_together o u) v ≡ put_together o (put_together u v)
  put_assoc None u v = refl
  put_assoc (Some fs) None v = refl
  put_assoc (Some fs) (Some gs) None = refl
  put_assoc (Some fs) (Some gs) (Some hs) = ap Some (pieces_assoc fs gs hs)

  abbrev pub Filled : List (List A) → Type 0
  Filled ls = EachOf (λ us. 1 ≤ length us) ls

  map_filled : (us : List A) (ls : List (List A)) → 1 ≤ length us → Filled (map (λ vs. us ++ vs) ls)
  map_filled us [] h = tt
  map_filled us (vs ∷ ls) h = (let l = length-append us vs in omega arith, map_filled us ls h)

  products_filled : (ls ks : List (List A)) → Filled ls → Filled (products ls ks)
  products_filled [] ks h = tt
  products_filled (us ∷ ls) ks h = each_append (λ vs. 1 ≤ length vs) (map (λ vs. us ++ vs) ks) (products ls ks) (map_filled us ks h.0) (products_filled ls ks h.1)

  together_filled : (b : Bool) (ls ks : List (List A)) → Filled ls → Filled ks → Filled (together b ls ks)
  together_filled false ls ks h k = each_append (λ vs. 1 ≤ length vs) ls ks h k
  together_filled true ls ks h k = products_filled ls ks h

  together_some : (b : Bool) (ls ks : List (List A)) → 1 ≤ length ls → 1 ≤ length ks → 1 ≤ length (together b ls ks)
  together_some false ls ks h k = let l = length-append ls ks in omega arith
  together_some true [] ks h k = absurd (omega arith)
  together_some true (us ∷ ls) ks h k = let l = length-append (map (λ vs. us ++ vs) ks) (products ls ks) in let m = length-map ks (λ vs. us ++ vs) in omega arith

not_conjunction : (j : Junction) → not (is_same j Conjunction) ≡ is_same j Disjunction
not_conjunction Conjunction = refl
not_conjunction Disjunction = refl

not_disjunction : (j : Junction) → not (is_same j Disjunction) ≡ is_same j Conjunction
not_disjunction Conjunction = refl
not_disjunction Disjunction = refl

-- Rel ps x: x is made of the lists ps. Two members are joined: for true by the junction of the inner lists.
module _ {A X : Type 0} (Rel : List (List A) → X → Type 0) (join : Bool → X → X → X) (nothing : Bool → X) where
  pub record JoinsLists : Type 0 where
    pub empty : (b : Bool) → Rel (of_none b) (nothing b)
    pub crossed : (ps qs : List (List A)) (x y : X) → Rel ps x → Rel qs y → Rel (together true ps qs) (join true x y)
    pub beside : (ps qs : List (List A)) (x y : X) → Filled ps → Filled qs → Rel ps x → Rel qs y → Rel (together false ps qs) (join false x y)
    pub settled_first : (b : Bool) (x : X) → join b (nothing (not b)) x ≡ nothing (not b)
    pub settled_last : (b : Bool) (ps : List (List A)) (x : X) → Filled ps → Rel ps x → join b x (nothing (not b)) ≡ nothing (not b)
    pub settled_nothing : (b : Bool) → join b (nothing b) (nothing (not b)) ≡ nothing (not b)
    pub nothing_twice : (b : Bool) → join b (nothing b) (nothing b) ≡ nothing b

  -- x is made of lists that have atoms, of one at least
  pub record Opens (ps : List (List A)) (x : X) : Type 0 where
    pub made : Rel ps x
    pub filled : Filled ps
    pub some : 1 ≤ length ps

module _ {A X : Type 0} (j : Junction) (Q : A → Type 0) (Rel : List (List A) → X → Type 0) (join : Bool → X → X → X) (nothing : Bool → X) (value : Formula A ℕ → X) (more : Bool → X → Formulas A ℕ → X) where
  -- the value of a formula is made of those of its members
  pub record IsMadeOfMembers : Type 0 where
    pub joins : JoinsLists Rel join nothing
    pub yes : value Yes ≡ nothing (is_same j Conjunction)
    pub no : value No ≡ nothing (is_same j Disjunction)
    pub one : (a : A) → Q a → Rel ((a ∷ []) ∷ []) (value (One a))
    pub conjunction : (fs : Formulas A ℕ) → value (And fs) ≡ more (is_same j Conjunction) (nothing (is_same j Conjunction)) fs
    pub disjunction : (fs : Formulas A ℕ) → value (Or fs) ≡ more (is_same j Disjunction) (nothing (is_same j Disjunction)) fs
    pub no_more : (b : Bool) (x : X) → more b x none ≡ x
    pub one_more : (b : Bool) (x : X) (f : Formula A ℕ) (fs : Formulas A ℕ) → more b x (also f fs) ≡ more b (join b x (value f)) fs

  abbrev Open : List (List A) → X → Type 0
  Open ps x = Opens Rel join nothing ps x

  -- x is that of these pieces of a list
  abbrev pub Shows : Bool → Option (Formulas A ℕ) → X → Type 0
  Shows b None x = x ≡ nothing (not b)
  Shows b (Some none) x = x ≡ nothing b
  Shows b (Some (also f fs)) x = Open (all_distributed j b (also f fs)) x

  module _ (laws : IsMadeOfMembers) where
    joined_made : (b : Bool) (ps qs : List (List A)) (x y : X) → (b ≡ false → Filled ps × Filled qs) → Rel ps x → Rel qs y → Rel (together b ps qs) (join b x y)
    joined_made false ps qs x y h r s = let f = h refl in laws.joins.beside ps qs x y f.0 f.1 r s
    joined_made true ps qs x y h r s = laws.joins.crossed ps qs x y r s

    none_filled : (b : Bool) → b ≡ false → Filled {A = A} (of_none b)
    none_filled false e = tt
    none_filled true e = absurd (cc (e))

    settled_with : (b : Bool) (fs : Formulas A ℕ) (x : X) → Shows b (Some fs) x → join b x (nothing (not b)) ≡ nothing (not b)
    settled_with b none x h = subst (λ t. join b t (nothing (not b)) ≡ nothing (not b)) (sym h) (laws.joins.settled_nothing b)
    settled_with b (also f fs) x h = laws.joins.settled_last b (all_distributed j b (also f fs)) x h.filled h.made

    open_right : (b : Bool) (ps : List (List A)) (x : X) → Open ps x → Open (together b ps (of_none b)) (join b x (nothing b))
    open_right b ps x h = record {
      made = joined_made b ps (of_none b) x (nothing b) (λ e. (h.filled, none_filled b e)) h.made (laws.joins.empty b);
      filled = subst (λ t. Filled t) (sym (together_right b ps)) h.filled;
      some = subst (λ t. 1 ≤ length t) (sym (together_right b ps)) h.some;
    }

    open_left : (b : Bool) (ps : List (List A)) (x : X) → Open ps x → Open ps (join b (nothing b) x)
    open_left b ps x h = record {
      made = subst (λ t. Rel t (join b (nothing b) x)) (together_left b ps) (joined_made b (of_none b) ps (nothing b) x (λ e. (none_filled b e, h.filled)) (laws.joins.empty b) h.made);
      filled = h.filled;
      some = h.some;
    }

    open_both : (b : Bool) (ps qs : List (List A)) (x y : X) → Open ps x → Open qs y → Open (together b ps qs) (join b x y)
    open_both b ps qs x y h k = record {
      made = joined_made b ps qs x y (λ e. (h.filled, k.filled)) h.made k.made;
      filled = together_filled b ps qs h.filled k.filled;
      some = together_some b ps qs h.some k.some;
    }

    step : (b : Bool) (o u : Option (Formulas A ℕ)) (x y : X) → Shows b o x → Shows b u y → Shows b (put_together o u) (join b x y)
    step b None u x y h k = subst (λ t. join b t y ≡ nothing (not b)) (sym h) (laws.joins.settled_first b y)
    step b (Some fs) None x y h k = subst (λ t. join b x t ≡ nothing (not b)) (sym k) (settled_with b fs x h)
    step b (Some none) (Some none) x y h k = subst (λ t. join b t y ≡ nothing b) (sym h) (subst (λ t. join b (nothing b) t ≡ nothing b) (sym k) (laws.joins.nothing_twice b))
    step b (Some none) (Some (also g gs)) x y h k = subst (λ t. Open (all_distributed j b (also g gs)) (join b t y)) (sym h) (open_left b (all_distributed j b (also g gs)) y k)
    step b (Some (also f fs)) (Some none) x y h k =
        subst (λ t. Open (all_distributed j b (append (also f fs) none)) (join b x t)) (sym k)
        (subst (λ t. Open t (join b x (nothing b))) (sym (distributed_append j b (also f fs) none)) (open_right b (all_distributed j b (also f fs)) x h))
    step b (Some (also f fs)) (Some (also g gs)) x y h k =
        subst (λ t. Open t (join b x y)) (sym (distributed_append j b (also f fs) (also g gs))) (open_both b (all_distributed j b (also f fs)) (all_distributed j b (also g gs)) x y h k)

    -- ---- one formula

    not_open : {Y : Type 0} (b : Bool) (x : X) → Open (of_none b) x → Y
    not_open false x h = let k = h.some in absurd (omega arith)
    not_open true x h = let k = h.filled.0 in absurd (omega arith)

    alone : (b : Bool) (f : Formula A ℕ) (x : X) → Open (distributed j f) x → Shows b (Some (also f none)) x
    alone b f x h = subst (λ t. Open t x) (sym (together_right b (distributed j f))) h

    listed : (b : Bool) (fs : Formulas A ℕ) (x : X) → Open (all_distributed j b fs) x → Shows b (Some fs) x
    listed b none x h = not_open b x h
    listed b (also f fs) x h = h

    open_pieces : (f : Formula A ℕ) (x : X) → Open (distributed j f) x → (k : Junction) → Shows (is_same j k) (pieces_of k f) x
    open_pieces Yes x h k = not_open (is_same j Conjunction) x h
    open_pieces No x h k = not_open (is_same j Disjunction) x h
    open_pieces (And fs) x h Conjunction = listed (is_same j Conjunction) fs x h
    open_pieces (And fs) x h Disjunction = alone (is_same j Disjunction) (And fs) x h
    open_pieces (Or fs) x h Conjunction = alone (is_same j Conjunction) (Or fs) x h
    open_pieces (Or fs) x h Disjunction = listed (is_same j Disjunction) fs x h
    open_pieces f x h Conjunction = alone (is_same j Conjunction) f x h
    open_pieces f x h Disjunction = alone (is_same j Disjunction) f x h

    -- the pieces of the whole are pieces of a list that it may stand in
    whole_pieces : (k : Junction) (o : Option (Formulas A ℕ)) (x : X) → Shows (is_same j k) o x → (l : Junction) → Shows (is_same j l) (pieces_of l (from_pieces k o)) x
    whole_pieces Conjunction None x h Conjunction = h
    whole_pieces Conjunction None x h Disjunction = h ∙ ap nothing (not_conjunction j)
    whole_pieces Disjunction None x h Conjunction = h ∙ ap nothing (not_disjunction j)
    whole_pieces Disjunction None x h Disjunction = h
    whole_pieces Conjunction (Some none) x h Conjunction = h
    whole_pieces Conjunction (Some none) x h Disjunction = h ∙ sym (ap nothing (not_disjunction j))
    whole_pieces Disjunction (Some none) x h Conjunction = h ∙ sym (ap nothing (not_conjunction j))
    whole_pieces Disjunction (Some none) x h Disjunction = h
    whole_pieces k (Some (also f none)) x h l = open_pieces f x (subst (λ t. Open t x) (together_right (is_same j k) (distributed j f)) h) l
    whole_pieces Conjunction (Some (also f (also g gs))) x h l = open_pieces (And (also f (also g gs))) x h l
    whole_pieces Disjunction (Some (also f (also g gs))) x h l = open_pieces (Or (also f (also g gs))) x h l

    mutual
      pub shown : (f : Formula A ℕ) → IsOrderly Q f → IsQuantifierFree f → (k : Junction) → Shows (is_same j k) (pieces_of k (folded f)) (value f)
      shown Yes h q Conjunction = laws.yes
      shown Yes h q Disjunction = laws.yes ∙ sym (ap nothing (not_disjunction j))
      shown No h q Conjunction = laws.no ∙ sym (ap nothing (not_conjunction j))
      shown No h q Disjunction = laws.no
      shown (One a) h q k = open_pieces (One a) (value (One a)) (record { made = laws.one a h; filled = (omega arith, tt); some = omega arith }) k
      shown (Not f) h q k = absurd h
      shown (And fs) h q k = whole_pieces Conjunction (all_pieces Conjunction (all_folded fs)) (value (And fs))
          (subst (λ x. Shows (is_same j Conjunction) (all_pieces Conjunction (all_folded fs)) x) (sym (laws.conjunction fs))
          (subst (λ o. Shows (is_same j Conjunction) o (more (is_same j Conjunction) (nothing (is_same j Conjunction)) fs)) (put_first (all_pieces Conjunction (all_folded fs)))
          (more_shown Conjunction (Some none) (nothing (is_same j Conjunction)) fs refl h.1 q))) k
      shown (Or fs) h q k = whole_pieces Disjunction (all_pieces Disjunction (all_folded fs)) (value (Or fs))
          (subst (λ x. Shows (is_same j Disjunction) (all_pieces Disjunction (all_folded fs)) x) (sym (laws.disjunction fs))
          (subst (λ o. Shows (is_same j Disjunction) o (more (is_same j Disjunction) (nothing (is_same j Disjunction)) fs)) (put_first (all_pieces Disjunction (all_folded fs)))
          (more_shown Disjunction (Some none) (nothing (is_same j Disjunction)) fs refl h.1 q))) k
      shown (Impl f g) h q k = absurd h
      shown (Repl f g) h q k = absurd h
      shown (Equiv f g) h q k = absurd h
      shown (Ex x f) h q k = absurd q
      shown (All x f) h q k = absurd q

      more_shown : (k : Junction) (o : Option (Formulas A ℕ)) (x : X) (fs : Formulas A ℕ) → Shows (is_same j k) o x → AreOrderly Q fs → AreQuantifierFree fs
          → Shows (is_same j k) (put_together o (all_pieces k (all_folded fs))) (more (is_same j k) x fs)
      more_shown k o x none s h q = subst (λ t. Shows (is_same j k) (put_together o (Some none)) t) (sym (laws.no_more (is_same j k) x)) (subst (λ u. Shows (is_same j k) u x) (sym (put_nothing o)) s)
      more_shown k o x (also f fs) s h q =
          subst (λ t. Shows (is_same j k) (put_together o (put_together (pieces_of k (folded f)) (all_pieces k (all_folded fs)))) t) (sym (laws.one_more (is_same j k) x f fs))
          (subst (λ u. Shows (is_same j k) u (more (is_same j k) (join (is_same j k) x (value f)) fs)) (put_assoc o (pieces_of k (folded f)) (all_pieces k (all_folded fs)))
          (more_shown k (put_together o (pieces_of k (folded f))) (join (is_same j k) x (value f)) fs
          (step (is_same j k) o (pieces_of k (folded f)) x (value f) s (shown f h.0 q.0 k)) h.1 q.1))

  -- the value of a constant, with the lists of the constant
  pub record Closes (ps : List (List A)) (x : X) : Type 0 where
    pub of : Bool
    pub lists : ps ≡ of_none of
    pub is : x ≡ nothing of

  -- the value is that of a constant, or is made of lists that have atoms
  pub told : (g : Formula A ℕ) (x : X) → ((k : Junction) → Shows (is_same j k) (pieces_of k g) x) → Closes (distributed j g) x ⊎ Opens Rel join nothing (distributed j g) x
  told Yes x h = inl (record { of = is_same j Conjunction; lists = refl; is = h Conjunction })
  told No x h = inl (record { of = is_same j Disjunction; lists = refl; is = h Disjunction })
  told (And none) x h = inl (record { of = is_same j Conjunction; lists = refl; is = h Conjunction })
  told (And (also f fs)) x h = inr (h Conjunction)
  told (Or none) x h = inl (record { of = is_same j Disjunction; lists = refl; is = h Disjunction })
  told (Or (also f fs)) x h = inr (h Disjunction)
  told f x h = inr (subst (λ t. Opens Rel join nothing t x) (together_right (is_same j Conjunction) (distributed j f)) (h Conjunction))
