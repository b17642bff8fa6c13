-- Acts that lead from one stage to another: those of two lists, one after the other, are those of both.
use Rattle.std.proofs.Common.{◌≡◌, ℕ, ◌+◌, ◌<◌, List, [], ◌∷◌, ◌++◌, length, map, get_or, drop, refl, sym, ap, subst, ◌∙◌}
use Rattle.std.proofs.lemmas.List.{drop_more}
use Rattle.std.proofs.lemmas.List.Elements.{All-nil, All-cons, All-append}
use Rattle.column_stage.specs.Acts.{Act, Leads, LeadsBy}

-- the acts from one item on are its own, and those after it
pub acts_next : {X : Type 0} (act : X → Act) (list : List X) (place : ℕ) (item : X) → place < length list → item ≡ get_or list place item →
    map act (drop place list) ≡ act item ∷ map act (drop (place + 1) list)
acts_next {X} act list place item inside is =
    ap (λ (left : List X). map act left) (drop_more list place item inside)
    ∙ ap (λ (first : X). map act (first ∷ drop (place + 1) list)) (sym is)

module _ {M : Type 0} (did : Act → M → M → Type 0) where
  -- one act
  pub leads_one : (act : Act) (old new : M) → did act old new → Leads did old (act ∷ []) new
  leads_one act old new done = (new, done, refl)

  -- acts, and then others
  pub leads_append : (front back : List Act) (old mid new : M) → Leads did old front mid → Leads did mid back new → Leads did old (front ++ back) new
  leads_append [] back old mid new same rest = subst (λ (start : M). Leads did start back new) same rest
  leads_append (act ∷ front) back old mid new (next, done, first) rest = (next, done, leads_append front back next mid new first rest)

  -- and the other way round
  pub leads_split : (front back : List Act) (old new : M) → Leads did old (front ++ back) new → (mid : M) × Leads did old front mid × Leads did mid back new
  leads_split [] back old new leads = (old, refl, leads)
  leads_split (act ∷ front) back old new (next, done, rest) =
      let (mid, first, second) = leads_split front back next new rest in (mid, (next, done, first), second)

  module _ (Kind : Act → Type 0) where
    -- no act of the kind
    pub leads_by_none : (stage : M) → LeadsBy did Kind stage stage
    leads_by_none stage = record { acts = []; each = All-nil Kind; leads = refl }

    -- one
    pub leads_by_one : (act : Act) (old new : M) → Kind act → did act old new → LeadsBy did Kind old new
    leads_by_one act old new of_kind done =
        record { acts = act ∷ []; each = All-cons Kind act [] of_kind (All-nil Kind); leads = leads_one act old new done }

    -- and those of two ways
    pub leads_by_both : (old mid new : M) → LeadsBy did Kind old mid → LeadsBy did Kind mid new → LeadsBy did Kind old new
    leads_by_both old mid new one two = record {
      acts = one.acts ++ two.acts;
      each = All-append Kind one.acts two.acts one.each two.each;
      leads = leads_append one.acts two.acts old mid new one.leads two.leads;
    }
