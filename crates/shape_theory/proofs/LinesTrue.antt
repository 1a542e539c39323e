-- The clean lists have the truth of the formula at a point where merging has the truth of joining.
use Rattle.std.proofs.Common.{◌≡◌, ◌↔◌, ℕ, zero, suc, ◌+◌, Bool, true, false, refl, subst, inl, inr, ⊎_elim, Option, None, Some, List, [], ◌∷◌, ◌++◌, length, arith}
use Rattle.std.specs.Prelude.{◌||◌, ◌&&◌, if◌then◌else◌}
use Rattle.logic_meaning.specs.Some.{EachOf}
use Rattle.logic_meaning.specs.declared.junction.Junction.{Junction}
use Rattle.logic_meaning.specs.declared.junction.Junction.TheVariants.{Conjunction, Disjunction}
use Rattle.formula_laws.proofs.Iff.{both_ways, turn_round}
use Rattle.normal_atoms.specs.Computed.{Merging, Settled, Into, Kept}
use Rattle.logic_meaning.specs.Merging.{Joined}
use Rattle.shape_theory.specs.Kit.{Kit}
use Rattle.shape_theory.proofs.Joining.{Nothing, Settling, same, along_both, along_right, along_left, group, swap, exchange, again, nothing_more, settled_left, settled_right}
use Rattle.logic_meaning.specs.Ways.{dual}
use Rattle.shape_theory.specs.Lines.{Met, Alone, Void, Meets, met, resolved, partner, insert, insert_into, insert_all, is_among, is_within, some_within, not_above, add, add_if, add_all, add_line_products, add_products, joined_lines}
use Rattle.logic_meaning.specs.Clean.{IsUnmerged}
use Rattle.shape_theory.proofs.Inserting.{each_append, total, MergesLightly, Keeps, Fits, FitsIf, IsPartner, partner_is, all_fit}

-- ---- laws of the two junctions

pub distribute : (j : Junction) (P Q R : Type 0) → Joined j P (Joined (dual j) Q R) ↔ Joined (dual j) (Joined j P Q) (Joined j P R)
distribute Conjunction P Q R = (λ t. ⊎_elim (λ q. inl (t.0, q)) (λ r. inr (t.0, r)) t.1, ⊎_elim (λ t. (t.0, inl t.1)) (λ t. (t.0, inr t.1)))
distribute Disjunction P Q R = (⊎_elim (λ p. (inl p, inl p)) (λ t. (inr t.0, inr t.1)), λ t. ⊎_elim (λ p. inl p) (λ q. ⊎_elim (λ p. inl p) (λ r. inr (q, r)) t.1) t.0)

pub absorb : (j : Junction) (P Q : Type 0) → Joined j P Q ↔ Q → P ↔ Joined (dual j) P Q
absorb Conjunction P Q h = (λ p. inl p, ⊎_elim (λ p. p) (λ q. (h.1 q).0))
absorb Disjunction P Q h = (λ p. (p, h.0 (inl p)), λ t. t.0)

nothing_dual : (j : Junction) → Settling j ↔ Nothing (dual j)
nothing_dual Conjunction = same
nothing_dual Disjunction = same

void_product : (j : Junction) (P : Type 0) → Nothing (dual j) ↔ Joined j P (Nothing (dual j))
void_product Conjunction P = (λ t. absurd t, λ t. t.1)
void_product Disjunction P = (λ t. inr tt, λ t. tt)

nothing_right : (j : Junction) (P : Type 0) → P ↔ Joined j P (Nothing j)
nothing_right j P = both_ways (nothing_more j (Nothing j) P same) (swap j (Nothing j) P)

module _ {A : Type 0} (kit : Kit A) (j : Junction) (Q : A → Type 0) (w : A → ℕ) (light : MergesLightly kit j Q w) (says : A → Type 0) where
  -- at the point, merged atoms have the truth of the join
  pub record MergesTruly : Type 0 where
    pub settled : (a b : A) → Q a → Q b → kit.merge j a b ≡ Settled → Joined j (says a) (says b) ↔ Settling j
    pub into : (a b d : A) → Q a → Q b → kit.merge j a b ≡ Into d → says d ↔ Joined j (says a) (says b)
    pub alike : (a b : A) → kit.same a b ≡ true → a ≡ b

  -- the atoms joined, and the lists
  abbrev pub LineSays : List A → Type 0
  LineSays [] = Nothing j
  LineSays (a ∷ us) = Joined j (says a) (LineSays us)

  abbrev pub LinesSay : List (List A) → Type 0
  LinesSay [] = Nothing (dual j)
  LinesSay (us ∷ ls) = Joined (dual j) (LineSays us) (LinesSay ls)

  abbrev IfSays : Option (List A) → Type 0
  IfSays None = Settling j
  IfSays (Some us) = LineSays us

  module _ (truly : MergesTruly) where
    -- ---- an atom more

    abbrev MetSays : Met A → Type 0
    MetSays Alone = Unit {0}
    MetSays Void = Settling j
    MetSays (Meets d cs) = Joined j (says d) (LineSays cs)

    -- what a becomes beside us has the truth of both
    abbrev SaysBoth : A → List A → Met A → Type 0
    SaysBoth a us Alone = Unit {0}
    SaysBoth a us Void = Settling j ↔ Joined j (says a) (LineSays us)
    SaysBoth a us (Meets d cs) = Joined j (says d) (LineSays cs) ↔ Joined j (says a) (LineSays us)

    regroup : (a b : A) (X : Type 0) → Joined j (Joined j (says b) (says a)) X ↔ Joined j (says a) (Joined j (says b) X)
    regroup a b X = both_ways (group j (says b) (says a) X) (exchange j (says b) (says a) X)

    met_true : (a b : A) (bs : List A) → Q a → Q b → (m : Merging A) → kit.merge j b a ≡ m → (r : Met A) → SaysBoth a bs r → SaysBoth a (b ∷ bs) (met m b bs r)
    met_true a b bs x y Settled e r h = both_ways (settled_left j _ (LineSays bs) (truly.settled b a y x e)) (regroup a b (LineSays bs))
    met_true a b bs x y (Into d) e r h = both_ways (along_left j (LineSays bs) (truly.into b a d y x e)) (regroup a b (LineSays bs))
    met_true a b bs x y Kept e Alone h = tt
    met_true a b bs x y Kept e Void h = both_ways (settled_right j (says b) _ (turn_round h)) (exchange j (says b) (says a) (LineSays bs))
    met_true a b bs x y Kept e (Meets d cs) h =
        both_ways (exchange j (says d) (says b) (LineSays cs)) (both_ways (along_right j (says b) h) (exchange j (says b) (says a) (LineSays bs)))

    partner_true : (a : A) (us : List A) → Q a → EachOf Q us → SaysBoth a us (partner kit j a us)
    partner_true a [] x h = tt
    partner_true a (b ∷ bs) x h = met_true a b bs x h.0 (kit.merge j b a) refl (partner kit j a bs) (partner_true a bs x h.1)

    append_true : (us vs : List A) → LineSays (us ++ vs) ↔ Joined j (LineSays us) (LineSays vs)
    append_true [] vs = nothing_more j (Nothing j) (LineSays vs) same
    append_true (a ∷ us) vs = both_ways (along_right j (says a) (append_true us vs)) (turn_round (group j (says a) (LineSays us) (LineSays vs)))

    last_true : (us : List A) (a : A) → LineSays (us ++ a ∷ []) ↔ Joined j (says a) (LineSays us)
    last_true us a = both_ways (append_true us (a ∷ [])) (both_ways (along_right j (LineSays us) (turn_round (nothing_right j (says a)))) (swap j (LineSays us) (says a)))

    insert_true : (n : ℕ) (a : A) (us : List A) → Q a → EachOf Q us → length us ≡ n → IfSays (insert kit j n a us) ↔ Joined j (says a) (LineSays us)
    insert_true zero a us x h e = last_true us a
    insert_true (suc n) a us x h e = resolve (partner kit j a us) (partner_is kit j Q w light a us x h) (partner_true a us x h) (λ d cs y z l. insert_true n d cs y z l)
      where
        resolve : (m : Met A) → IsPartner kit j Q w light a us m → SaysBoth a us m → ((d : A) (cs : List A) → Q d → EachOf Q cs → length cs ≡ n → IfSays (insert kit j n d cs) ↔ Joined j (says d) (LineSays cs))
            → IfSays (resolved m a us (insert kit j n)) ↔ Joined j (says a) (LineSays us)
        resolve Alone k t i = last_true us a
        resolve Void k t i = t
        resolve (Meets d cs) k t i = both_ways (i d cs k.made k.each (let s = k.shorter in omega arith)) t

    -- no two atoms merge, and each has Q
    abbrev pub Sound : List A → Type 0
    Sound us = Fits kit j Q w light (length us) (total w us) us

    abbrev SoundIf : Option (List A) → Type 0
    SoundIf None = Unit {0}
    SoundIf (Some us) = EachOf Q us × IsUnmerged (Keeps kit j Q w light) us

    abbrev pub AreSound : List (List A) → Type 0
    AreSound ls = EachOf (λ us. EachOf Q us × IsUnmerged (Keeps kit j Q w light) us) ls

    sound_of : (n k : ℕ) (o : Option (List A)) → FitsIf kit j Q w light n k o → SoundIf o
    sound_of n k None h = tt
    sound_of n k (Some us) h = (h.each, h.unmerged)

    fits_itself : (us : List A) → SoundIf (Some us) → Sound us
    fits_itself us h = record { each = h.0; unmerged = h.1; few = omega arith; weight = omega arith; some = λ t. t }

    put_sound : (us vs : List A) → SoundIf (Some us) → SoundIf (Some vs) → SoundIf (insert_all kit j (Some us) vs)
    put_sound us vs h k =
        sound_of (length us + length vs) (total w us + total w vs) (insert_all kit j (Some us) vs) (all_fit kit j Q w light (length us) (total w us) (Some us) vs k.0 (fits_itself us h))

    into_true : (a : A) (o : Option (List A)) (n k : ℕ) → Q a → FitsIf kit j Q w light n k o → IfSays (insert_into kit j a o) ↔ Joined j (says a) (IfSays o)
    into_true a None n k x h = settled_right j (says a) (Settling j) same
    into_true a (Some us) n k x h = insert_true (length us) a us x h.each refl

    all_true : (o : Option (List A)) (vs : List A) (n k : ℕ) → EachOf Q vs → FitsIf kit j Q w light n k o → IfSays (insert_all kit j o vs) ↔ Joined j (IfSays o) (LineSays vs)
    all_true o [] n k h f = nothing_right j (IfSays o)
    all_true o (a ∷ vs) n k h f =
        both_ways (all_true (insert_into kit j a o) vs (n + 1) (k + total w (a ∷ [])) h.1 (all_fit kit j Q w light n k o (a ∷ []) (h.0, tt) f))
        (both_ways (along_left j (LineSays vs) (into_true a o n k h.0 f)) (both_ways (group j (says a) (IfSays o) (LineSays vs)) (exchange j (says a) (IfSays o) (LineSays vs))))

    put_true : (us vs : List A) → SoundIf (Some us) → SoundIf (Some vs) → IfSays (insert_all kit j (Some us) vs) ↔ Joined j (LineSays us) (LineSays vs)
    put_true us vs h k = all_true (Some us) vs (length us) (total w us) k.0 (fits_itself us h)

    -- ---- absorption

    among_true : (vs : List A) (a : A) → is_among kit j vs a ≡ true → Joined j (says a) (LineSays vs) ↔ LineSays vs
    among_true [] a e = absurd (cc (e))
    among_true (v ∷ vs) a e = split (kit.same v a) refl e (λ t. among_true vs a t)
      where
        split : (b : Bool) → kit.same v a ≡ b → (b || is_among kit j vs a) ≡ true → (is_among kit j vs a ≡ true → Joined j (says a) (LineSays vs) ↔ LineSays vs) → Joined j (says a) (LineSays (v ∷ vs)) ↔ LineSays (v ∷ vs)
        split true f g i = subst (λ t. Joined j (says t) (LineSays (v ∷ vs)) ↔ LineSays (v ∷ vs)) (truly.alike v a f) (turn_round (again j (says v) (LineSays vs)))
        split false f g i = both_ways (exchange j (says a) (says v) (LineSays vs)) (along_right j (says v) (i g))

    within_true : (us vs : List A) → is_within kit j us vs ≡ true → Joined j (LineSays us) (LineSays vs) ↔ LineSays vs
    within_true [] vs e = turn_round (nothing_more j (Nothing j) (LineSays vs) same)
    within_true (u ∷ us) vs e = split (is_among kit j vs u) refl e (λ t. within_true us vs t)
      where
        split : (b : Bool) → is_among kit j vs u ≡ b → (b && is_within kit j us vs) ≡ true → (is_within kit j us vs ≡ true → Joined j (LineSays us) (LineSays vs) ↔ LineSays vs) → Joined j (LineSays (u ∷ us)) (LineSays vs) ↔ LineSays vs
        split true f g i = both_ways (group j (says u) (LineSays us) (LineSays vs)) (both_ways (along_right j (says u) (i g)) (among_true vs u f))
        split false f g i = absurd (cc (g))

    some_true : (ls : List (List A)) (vs : List A) → some_within kit j ls vs ≡ true → LinesSay ls ↔ Joined (dual j) (LinesSay ls) (LineSays vs)
    some_true [] vs e = absurd (cc (e))
    some_true (us ∷ ls) vs e = split (is_within kit j us vs) refl e (λ t. some_true ls vs t)
      where
        split : (b : Bool) → is_within kit j us vs ≡ b → (b || some_within kit j ls vs) ≡ true → (some_within kit j ls vs ≡ true → LinesSay ls ↔ Joined (dual j) (LinesSay ls) (LineSays vs))
            → LinesSay (us ∷ ls) ↔ Joined (dual j) (LinesSay (us ∷ ls)) (LineSays vs)
        split true f g i =
            both_ways (along_left (dual j) (LinesSay ls) (absorb j (LineSays us) (LineSays vs) (within_true us vs f)))
            (both_ways (group (dual j) (LineSays us) (LineSays vs) (LinesSay ls)) (both_ways (along_right (dual j) (LineSays us) (swap (dual j) (LineSays vs) (LinesSay ls))) (turn_round (group (dual j) (LineSays us) (LinesSay ls) (LineSays vs)))))
        split false f g i = both_ways (along_right (dual j) (LineSays us) (i g)) (turn_round (group (dual j) (LineSays us) (LinesSay ls) (LineSays vs)))

    -- the lists that stay, with vs
    above_true : (ls : List (List A)) (vs : List A) → Joined (dual j) (LinesSay (not_above kit j ls vs)) (LineSays vs) ↔ Joined (dual j) (LinesSay ls) (LineSays vs)
    above_true [] vs = same
    above_true (us ∷ ls) vs = split (is_within kit j vs us) refl (above_true ls vs)
      where
        split : (b : Bool) → is_within kit j vs us ≡ b → Joined (dual j) (LinesSay (not_above kit j ls vs)) (LineSays vs) ↔ Joined (dual j) (LinesSay ls) (LineSays vs)
            → Joined (dual j) (LinesSay (if b then not_above kit j ls vs else us ∷ not_above kit j ls vs)) (LineSays vs) ↔ Joined (dual j) (LinesSay (us ∷ ls)) (LineSays vs)
        split true f i =
            both_ways i
            (both_ways (along_right (dual j) (LinesSay ls) (both_ways (absorb j (LineSays vs) (LineSays us) (within_true vs us f)) (swap (dual j) (LineSays vs) (LineSays us))))
            (both_ways (exchange (dual j) (LinesSay ls) (LineSays us) (LineSays vs)) (turn_round (group (dual j) (LineSays us) (LinesSay ls) (LineSays vs)))))
        split false f i =
            both_ways (group (dual j) (LineSays us) (LinesSay (not_above kit j ls vs)) (LineSays vs)) (both_ways (along_right (dual j) (LineSays us) i) (turn_round (group (dual j) (LineSays us) (LinesSay ls) (LineSays vs))))

    lines_append : (ls ks : List (List A)) → LinesSay (ls ++ ks) ↔ Joined (dual j) (LinesSay ls) (LinesSay ks)
    lines_append [] ks = nothing_more (dual j) (Nothing (dual j)) (LinesSay ks) same
    lines_append (us ∷ ls) ks = both_ways (along_right (dual j) (LineSays us) (lines_append ls ks)) (turn_round (group (dual j) (LineSays us) (LinesSay ls) (LinesSay ks)))

    add_true : (ls : List (List A)) (vs : List A) → LinesSay (add kit j ls vs) ↔ Joined (dual j) (LinesSay ls) (LineSays vs)
    add_true ls vs = split (some_within kit j ls vs) refl
      where
        split : (b : Bool) → some_within kit j ls vs ≡ b → LinesSay (if b then ls else not_above kit j ls vs ++ vs ∷ []) ↔ Joined (dual j) (LinesSay ls) (LineSays vs)
        split true f = some_true ls vs f
        split false f =
            both_ways (lines_append (not_above kit j ls vs) (vs ∷ []))
            (both_ways (along_right (dual j) (LinesSay (not_above kit j ls vs)) (turn_round (nothing_right (dual j) (LineSays vs)))) (above_true ls vs))

    add_if_true : (ls : List (List A)) (o : Option (List A)) → LinesSay (add_if kit j ls o) ↔ Joined (dual j) (LinesSay ls) (IfSays o)
    add_if_true ls None = both_ways (nothing_right (dual j) (LinesSay ls)) (along_right (dual j) (LinesSay ls) (turn_round (nothing_dual j)))
    add_if_true ls (Some vs) = add_true ls vs

    -- ---- lists with lists

    add_all_true : (ls ks : List (List A)) → LinesSay (add_all kit j ls ks) ↔ Joined (dual j) (LinesSay ls) (LinesSay ks)
    add_all_true ls [] = nothing_right (dual j) (LinesSay ls)
    add_all_true ls (vs ∷ ks) =
        both_ways (add_all_true (add kit j ls vs) ks) (both_ways (along_left (dual j) (LinesSay ks) (add_true ls vs)) (group (dual j) (LinesSay ls) (LineSays vs) (LinesSay ks)))

    line_true : (ls : List (List A)) (us : List A) (ks : List (List A)) → SoundIf (Some us) → AreSound ks → LinesSay (add_line_products kit j ls us ks) ↔ Joined (dual j) (LinesSay ls) (Joined j (LineSays us) (LinesSay ks))
    line_true ls us [] h k = both_ways (nothing_right (dual j) (LinesSay ls)) (along_right (dual j) (LinesSay ls) (void_product j (LineSays us)))
    line_true ls us (vs ∷ ks) h k =
        both_ways (line_true (add_if kit j ls (insert_all kit j (Some us) vs)) us ks h k.1)
        (both_ways (along_left (dual j) (Joined j (LineSays us) (LinesSay ks)) (both_ways (add_if_true ls (insert_all kit j (Some us) vs)) (along_right (dual j) (LinesSay ls) (put_true us vs h k.0))))
        (both_ways (group (dual j) (LinesSay ls) (Joined j (LineSays us) (LineSays vs)) (Joined j (LineSays us) (LinesSay ks)))
        (along_right (dual j) (LinesSay ls) (turn_round (distribute j (LineSays us) (LineSays vs) (LinesSay ks))))))

    product_true : (ls hs ks : List (List A)) → AreSound hs → AreSound ks → LinesSay (add_products kit j ls hs ks) ↔ Joined (dual j) (LinesSay ls) (Joined j (LinesSay hs) (LinesSay ks))
    product_true ls [] ks h k = both_ways (nothing_right (dual j) (LinesSay ls)) (along_right (dual j) (LinesSay ls) (both_ways (void_product j (LinesSay ks)) (swap j (LinesSay ks) (Nothing (dual j)))))
    product_true ls (us ∷ hs) ks h k =
        let X : Type 0 = LineSays us in
        both_ways (product_true (add_line_products kit j ls us ks) hs ks h.1 k)
        (both_ways (along_left (dual j) (Joined j (LinesSay hs) (LinesSay ks)) (line_true ls us ks h.0 k))
        (both_ways (group (dual j) (LinesSay ls) (Joined j (LineSays us) (LinesSay ks)) (Joined j (LinesSay hs) (LinesSay ks)))
        (along_right (dual j) (LinesSay ls)
        (both_ways (along_both (dual j) (swap j (LineSays us) (LinesSay ks)) (swap j (LinesSay hs) (LinesSay ks)))
        (both_ways (turn_round (distribute j (LinesSay ks) (LineSays us) (LinesSay hs))) (swap j (LinesSay ks) (Joined (dual j) (LineSays us) (LinesSay hs))))))))

    -- ---- lists stay sound

    add_sound : (ls : List (List A)) (vs : List A) → AreSound ls → SoundIf (Some vs) → AreSound (add kit j ls vs)
    add_sound ls vs h k = split (some_within kit j ls vs)
      where
        split : (b : Bool) → AreSound (if b then ls else not_above kit j ls vs ++ vs ∷ [])
        split true = h
        split false = each_append (λ us. SoundIf (Some us)) (not_above kit j ls vs) (vs ∷ []) (stay ls h) (k, tt)
          where
            keep : (b : Bool) (us : List A) (ks : List (List A)) → SoundIf (Some us) → AreSound ks → AreSound (if b then ks else us ∷ ks)
            keep true us ks x y = y
            keep false us ks x y = (x, y)

            stay : (ks : List (List A)) → AreSound ks → AreSound (not_above kit j ks vs)
            stay [] x = tt
            stay (us ∷ ks) x = keep (is_within kit j vs us) us (not_above kit j ks vs) x.0 (stay ks x.1)

    add_if_sound : (ls : List (List A)) (o : Option (List A)) → AreSound ls → SoundIf o → AreSound (add_if kit j ls o)
    add_if_sound ls None h k = h
    add_if_sound ls (Some vs) h k = add_sound ls vs h k

    add_all_sound : (ls ks : List (List A)) → AreSound ls → AreSound ks → AreSound (add_all kit j ls ks)
    add_all_sound ls [] h k = h
    add_all_sound ls (vs ∷ ks) h k = add_all_sound (add kit j ls vs) ks (add_sound ls vs h k.0) k.1

    line_sound : (ls : List (List A)) (us : List A) (ks : List (List A)) → AreSound ls → SoundIf (Some us) → AreSound ks → AreSound (add_line_products kit j ls us ks)
    line_sound ls us [] h x k = h
    line_sound ls us (vs ∷ ks) h x k = line_sound (add_if kit j ls (insert_all kit j (Some us) vs)) us ks (add_if_sound ls (insert_all kit j (Some us) vs) h (put_sound us vs x k.0)) x k.1

    product_sound : (ls hs ks : List (List A)) → AreSound ls → AreSound hs → AreSound ks → AreSound (add_products kit j ls hs ks)
    product_sound ls [] ks h x k = h
    product_sound ls (us ∷ hs) ks h x k = product_sound (add_line_products kit j ls us ks) hs ks (line_sound ls us ks h x.0 k) x.1 k

    pub joined_sound : (b : Bool) (ls ks : List (List A)) → AreSound ls → AreSound ks → AreSound (joined_lines kit j b ls ks)
    joined_sound false ls ks h k = add_all_sound ls ks h k
    joined_sound true ls ks h k = product_sound [] ls ks tt h k

    -- ---- the lists of two members

    abbrev pub Together : Bool → Type 0 → Type 0 → Type 0
    Together false R S = Joined (dual j) R S
    Together true R S = Joined j R S

    pub joined_true : (b : Bool) (ls ks : List (List A)) → AreSound ls → AreSound ks → LinesSay (joined_lines kit j b ls ks) ↔ Together b (LinesSay ls) (LinesSay ks)
    joined_true false ls ks h k = add_all_true ls ks
    joined_true true ls ks h k = both_ways (product_true [] ls ks h k) (turn_round (nothing_more (dual j) (Nothing (dual j)) (Joined j (LinesSay ls) (LinesSay ks)) same))
