-- What is made stays as more is made, and a table keeps its forms as it gets one more.
use Rattle.std.proofs.Common.{◌≡◌, ℕ, ◌+◌, ◌<◌, Bool, true, false, cond, List, [], ◌∷◌, Some, Option, IsSome, slice_get, length, get_or, take, refl, sym, ap, ◌∙◌, subst}
use Rattle.std.specs.Prelude.{unwrap_or}
use Rattle.std.specs.HashMap.{get}
use Rattle.std.specs.List.{AllByRecursion}
use Rattle.std.specs.Cmp.{unsigned_Decides}
use Rattle.std.proofs.lemmas.List.{take_more}
use Rattle.std.proofs.lemmas.Option.{slice_get-get_or}
use Rattle.formula_tree.specs.declared.shape.Shape.{Shape}
use Rattle.formula_tree.specs.declared.shape.Shape.TheVariants as shape
use Rattle.formula_tree.specs.Makers.{IsMade, Keeps}
use Rattle.formula_tree.specs.Shapes.{AllIds}
use Rattle.formula_tree.proofs.Shapes.{all_ids_map}
use Rattle.formula_store.specs.declared.id.FormulaId.{FormulaId}
use Rattle.formula_store.specs.Nodes.{tree, IsId, Front}
use Rattle.formula_store.proofs.Marked.{all_on, all_joined}
use Rattle.formula_store.specs.declared.forms.Forms.{Forms}
use Rattle.formula_store.specs.Forms.{form, side, Table, same_id, form_at, Known}

pub front_then : (a b c : List (Shape FormulaId)) → Front a b → Front b c → Front a c
front_then a b c h k = record { stays = λ i n e. k.stays i n (h.stays i n e) }

-- an old node that stays was there before
pub front_back : (a b : List (Shape FormulaId)) → Front a b → (i : ℕ) (n : Shape FormulaId) → i < length a → slice_get b i ≡ Some n → slice_get a i ≡ Some n
front_back a b f i n h e =
    let there : slice_get a i ≡ Some (get_or a i shape.True) = slice_get-get_or a i shape.True h in
    let stays : slice_get b i ≡ Some (get_or a i shape.True) = f.stays i (get_or a i shape.True) there in
    cc

-- a has become b
module _ (a b : List (Shape FormulaId)) (k : Keeps (IsId a) (tree a) (IsId b) (tree b)) where
  -- what is made for a formula of a stays made
  pub still_made : (id r : FormulaId) (n : Bool) → IsId a id → IsMade (IsId a) (tree a) r (form n (tree a id)) → IsMade (IsId b) (tree b) r (form n (tree b id))
  still_made id r n i m = record { is = k.is r m.is; same = k.same r m.is ∙ m.same ∙ ap (form n) (sym (k.same id i)) }

  still_known : (table : Table) (id : FormulaId) → Known a table id → Known b table id
  still_known table id h = record { is = k.is id h.is; there = h.there; made = λ n. still_made id (form_at table n id) n h.is (h.made n) }

  -- so do the forms of the members of an old node
  pub members_stay : Front a b → (table : Table) (id : FormulaId) → IsId a id → ((n : Shape FormulaId) → slice_get a id.number ≡ Some n → AllIds (Known a table) n)
      → (n : Shape FormulaId) → slice_get b id.number ≡ Some n → AllIds (Known b table) n
  members_stay f table id i h n e =
      all_ids_map (Known a table) (Known b table) (still_known table) n (h n (front_back a b f id.number n i.below e))

  -- the table gets the forms of one formula more
  module _ (table table2 : Table) (id : FormulaId) (forms : Forms) (put : (q : FormulaId) → get same_id table2 q ≡ cond (same_id id q) (Some forms) (get same_id table q)) (is : IsId a id)
      (plain : IsMade (IsId b) (tree b) forms.plain (form false (tree a id))) (negated : IsMade (IsId b) (tree b) forms.negated (form true (tree a id))) where
    both_made : (n : Bool) → IsMade (IsId b) (tree b) (side n forms) (form n (tree b id))
    both_made false = record { is = plain.is; same = plain.same ∙ ap (form false) (sym (k.same id is)) }
    both_made true = record { is = negated.is; same = negated.same ∙ ap (form true) (sym (k.same id is)) }

    known_by : (x : FormulaId) → IsId b x → (o : Option Forms) → get same_id table2 x ≡ o → IsSome o → ((n : Bool) → IsMade (IsId b) (tree b) (side n (unwrap_or o (record { plain = x; negated = x }))) (form n (tree b x))) → Known b table2 x
    known_by x i o e s m = record {
      is = i;
      there = subst (λ q. IsSome q) (sym e) s;
      made = λ n. subst (λ q. IsMade (IsId b) (tree b) (side n (unwrap_or q (record { plain = x; negated = x }))) (form n (tree b x))) (sym e) (m n);
    }

    known_new : Known b table2 id
    known_new = known_by id (k.is id is) (Some forms) (put id ∙ ap (λ t. cond t (Some forms) (get same_id table id)) ((unsigned_Decides id.number id.number).1 refl)) refl both_made

    known_old : (x : FormulaId) → Known a table x → (t : Bool) → same_id id x ≡ t → Known b table2 x
    known_old x h true e =
        let n : id.number ≡ x.number = (unsigned_Decides id.number x.number).0 e in
        let same : id ≡ x = λ i. record { number = n i } in
        subst (Known b table2) same known_new
    known_old x h false e =
        let s = still_known table x h in
        known_by x s.is (get same_id table x) (put x ∙ ap (λ t. cond t (Some forms) (get same_id table x)) e) s.there s.made

    -- so it has those of the formulas before it in a list, and its own
    pub known_more : (ids : List FormulaId) (i : ℕ) (d : FormulaId) → i < length ids → get_or ids i d ≡ id → AllByRecursion (Known a table) (take i ids) → AllByRecursion (Known b table2) (take (i + 1) ids)
    known_more ids i d h e known =
        rw (take_more ids i d h)
        (all_joined (Known b table2) (take i ids) (get_or ids i d ∷ []) (all_on (Known a table) (Known b table2) (λ x p. known_old x p (same_id id x) refl) (take i ids) known) (subst (Known b table2) (sym e) known_new, tt))
