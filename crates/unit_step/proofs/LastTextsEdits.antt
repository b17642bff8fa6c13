-- The texts of the last build are known through edits: a part that loses its group is noted where it begins, and a new part has no text.
use Rattle.std.proofs.Common.{◌≡◌, ◌≢◌, ℕ, zero, suc, ◌<◌, ◌≤◌, inl, inr, List, [], ◌∷◌, ◌++◌, length, map, All, Option, None, Some, Vec, Global, min, refl, sym, ap, subst, ◌∙◌, arith}
use Rattle.std.specs.Prelude.{Contains, slice_get, slice_index_or, slice_set, replicate}
use Rattle.std.specs.Option.{option_and_then}
use Rattle.std.proofs.lemmas.List.{get_or_default, get_or-set_other, get_or-take, length-set, length_push, length-take}
use Rattle.std.proofs.lemmas.List.Elements.{All-append, Contains-append_left, Contains-append_right}
use Rattle.group_text.specs.Texts.{GroupTextData}
use Rattle.kept_parts.specs.Uses.{some_texts}
use Rattle.machine_parts.specs.declared.part.MachinePart.{MachinePart}
use Rattle.unit_step.specs.declared.last_texts.LastTexts.{LastTexts}
use Rattle.machine_parts.specs.Parts.{Stands, IsMemberAt}
use Rattle.machine_laws.specs.Seating.{IsVacant}
use Rattle.machine_laws.specs.Beginnings.{BeginsAt, Begins}
use Rattle.unit_step.specs.LastTexts.{AreLastTexts, starts_of, texts_numbered}
use Rattle.machine_parts.proofs.PartLemmas.{same_part}
use Rattle.machine_laws.proofs.SlotLemmas.{Stands-other, Stands-was, Stands-same, Stands-before, Stands-cases}

-- the node at which a part begins is among its starts
starts_there : (part : MachinePart) (node : ℕ) → IsMemberAt part 0 node → Contains (starts_of part) node
starts_there part node first = (
  0,
  omega (arith, first.inside, first.within, length-take (min part.members 1) part.map.items),
  get_or-take (min part.members 1) part.map.items 0 node (omega (arith, first.inside))
      ∙ get_or_default part.map.items 0 node 0 first.within ∙ first.here,
)

-- which is a node of its map
starts_below : (count : ℕ) (part : MachinePart) → All (λ node. node < count) part.map.items → All (λ node. node < count) (starts_of part)
starts_below count part below i d inside =
    let first : i < length part.map.items = omega (arith, inside, length-take (min part.members 1) part.map.items) in
    let before : i < min part.members 1 = omega (arith, inside, length-take (min part.members 1) part.map.items) in
    subst (λ node. node < count) (sym (get_or-take (min part.members 1) part.map.items i d before)) (below i d first)

-- a part that begins at a node has the number
begins_with : (parts : List MachinePart) (numbers : List (Option ℕ)) (node number k : ℕ) (part : MachinePart) → Stands parts k part → IsMemberAt part 0 node →
    slice_index_or numbers k None ≡ Some number → Begins parts numbers node number
begins_with parts numbers node number k part stands first has = record { k = k; at = record { part = part; stands = stands; first = first }; has = has }

module _ (parts : List MachinePart) (numbers : List (Option ℕ)) (count known : ℕ) (last_texts : LastTexts)
    (are : AreLastTexts parts numbers count known last_texts) where
  -- it is the same if the nodes are noted anew, and the numbers read the same
  pub AreLastTexts-same : (numbers' : List (Option ℕ)) (last_texts' : LastTexts) →
      ((k : ℕ) → slice_index_or numbers' k None ≡ slice_index_or numbers k None) →
      last_texts'.numbers.items ≡ last_texts.numbers.items → last_texts'.changed.items ≡ last_texts.changed.items →
      AreLastTexts parts numbers' count known last_texts'
  AreLastTexts-same numbers' last_texts' same numbers_are changed_are = record {
    counted = ap length numbers_are ∙ are.counted;
    inside = λ node number has. are.inside node number (sym (had node) ∙ has);
    begins = λ node number has none.
        let begins = are.begins node number (sym (had node) ∙ has) (λ there. none (subst (λ list. Contains list node) (sym changed_are) there)) in
        record { k = begins.k; at = begins.at; has = same begins.k ∙ begins.has };
    lasts = λ node number begins none.
        had node ∙ are.lasts node number (record { k = begins.k; at = begins.at; has = sym (same begins.k) ∙ begins.has })
        (λ there. none (subst (λ list. Contains list node) (sym changed_are) there));
    within = subst (All (λ node. node < count)) (sym changed_are) are.within;
    beyond = λ k past. same k ∙ are.beyond k past;
  }
    where
      had : (node : ℕ) → slice_index_or last_texts'.numbers.items node None ≡ slice_index_or last_texts.numbers.items node None
      had node = ap (λ list. slice_index_or list node None) numbers_are

  module _ (k : ℕ) (part : MachinePart) (stands : Stands parts k part) (below : All (λ node. node < count) part.map.items) (e : MachinePart)
      (vacant : IsVacant e) (last_texts' : LastTexts) (numbers_are : last_texts'.numbers ≡ last_texts.numbers)
      (changed_are : last_texts'.changed.items ≡ last_texts.changed.items ++ starts_of part) where
    still : (node : ℕ) → slice_index_or last_texts'.numbers.items node None ≡ slice_index_or last_texts.numbers.items node None
    still node = ap (λ (list : Vec (Option ℕ) Global). slice_index_or list.items node None) numbers_are

    noted_before : (node : ℕ) → Contains last_texts.changed.items node → Contains last_texts'.changed.items node
    noted_before node there =
        subst (λ list. Contains list node) (sym changed_are) (Contains-append_left last_texts.changed.items (starts_of part) node there)

    -- where the part begins is noted
    noted_start : (node : ℕ) → BeginsAt parts k node → Contains last_texts'.changed.items node
    noted_start node at =
        let first = subst (λ one. IsMemberAt one 0 node) (same_part parts k at.part part at.stands stands) at.first in
        subst (λ list. Contains list node) (sym changed_are)
        (Contains-append_right last_texts.changed.items (starts_of part) node (starts_there part node first))

    begins_still : (node number : ℕ) → Begins parts numbers node number → ¬ Contains last_texts'.changed.items node →
        Begins (slice_set parts k e) (slice_set numbers k None) node number
    begins_still node number begins none =
        let differs : begins.k ≢ k = λ same. none (noted_start node (subst (λ l. BeginsAt parts l node) same begins.at)) in
        begins_with (slice_set parts k e) (slice_set numbers k None) node number begins.k begins.at.part
        (Stands-other parts k e stands.inside begins.k begins.at.part differs begins.at.stands) begins.at.first
        (get_or-set_other numbers k begins.k None None differs ∙ begins.has)

    began : (node number : ℕ) → Begins (slice_set parts k e) (slice_set numbers k None) node number → Begins parts numbers node number
    began node number begins =
        let differs : begins.k ≢ k = λ same.
        let is = Stands-same parts k e stands.inside begins.at.part
        (subst (λ l. Stands (slice_set parts k e) l begins.at.part) same begins.at.stands) in
        omega (arith, begins.at.first.inside, ap (λ (one : MachinePart). one.members) is, vacant.members) in
        begins_with parts numbers node number begins.k begins.at.part
        (Stands-was parts k e stands.inside begins.k begins.at.part differs begins.at.stands) begins.at.first
        (sym (get_or-set_other numbers k begins.k None None differs) ∙ begins.has)

    -- a part that loses its group was noted where it began
    pub AreLastTexts-vacated : AreLastTexts (slice_set parts k e) (slice_set numbers k None) count known last_texts'
    AreLastTexts-vacated = record {
      counted = ap (λ (list : Vec (Option ℕ) Global). length list.items) numbers_are ∙ are.counted;
      inside = λ node number has. are.inside node number (sym (still node) ∙ has);
      begins = λ node number has none.
          begins_still node number (are.begins node number (sym (still node) ∙ has) (λ there. none (noted_before node there))) none;
      lasts = λ node number begins none. still node ∙ are.lasts node number (began node number begins) (λ there. none (noted_before node there));
      within = subst (All (λ node. node < count)) (sym changed_are)
          (All-append (λ node. node < count) last_texts.changed.items (starts_of part) are.within (starts_below count part below));
      beyond = λ l past.
          let differs : l ≢ k = λ same. absurd (omega (arith, same, past, stands.inside, length-set parts k e)) in
          get_or-set_other numbers k l None None differs ∙ are.beyond l (omega (arith, past, length-set parts k e));
    }

  -- a part that comes behind the others has no text
  pub AreLastTexts-seated : (e : MachinePart) (numbers' : List (Option ℕ)) →
      ((k : ℕ) → slice_index_or numbers' k None ≡ slice_index_or numbers k None) →
      AreLastTexts (parts ++ e ∷ []) numbers' count known last_texts
  AreLastTexts-seated e numbers' same = record {
    counted = are.counted;
    inside = are.inside;
    begins = λ node number has none.
        let begins = are.begins node number has none in
        record {
          k = begins.k;
          at = record { part = begins.at.part; stands = Stands-before parts e begins.k begins.at.part begins.at.stands; first = begins.at.first };
          has = same begins.k ∙ begins.has;
        };
    lasts = λ node number begins none.
        elim (Stands-cases parts e begins.k begins.at.part begins.at.stands) [
          | inl before ↦
              are.lasts node number (record {
                k = begins.k;
                at = record { part = begins.at.part; stands = before; first = begins.at.first };
                has = sym (same begins.k) ∙ begins.has;
              }) none
          | inr (last, is) ↦
              let both : None ≡ Some number = sym (same begins.k ∙ are.beyond begins.k (omega (arith, last))) ∙ begins.has in
              absurd cc
        ];
    within = are.within;
    beyond = λ k past. same k ∙ are.beyond k (omega (arith, past, length_push parts e));
  }

  -- no part begins at a new node
  pub AreLastTexts-grown : (count' : ℕ) (last_texts' : LastTexts) → count ≤ count' → length last_texts'.numbers.items ≡ count' →
      ((node : ℕ) → slice_index_or last_texts'.numbers.items node None ≡ slice_index_or last_texts.numbers.items node None) →
      last_texts'.changed ≡ last_texts.changed → AreLastTexts parts numbers count' known last_texts'
  AreLastTexts-grown count' last_texts' larger counted had changed_are =
      let noted : (node : ℕ) → Contains last_texts.changed.items node → Contains last_texts'.changed.items node =
      λ node there. subst (λ (list : Vec ℕ Global). Contains list.items node) (sym changed_are) there in
      record {
        counted = counted;
        inside = λ node number has. are.inside node number (sym (had node) ∙ has);
        begins = λ node number has none. are.begins node number (sym (had node) ∙ has) (λ there. none (noted node there));
        lasts = λ node number begins none. had node ∙ are.lasts node number begins (λ there. none (noted node there));
        within = subst (λ (list : Vec ℕ Global). All (λ node. node < count') list.items) (sym changed_are)
            (λ i d inside. omega (arith, are.within i d inside, larger));
        beyond = are.beyond;
      }

-- if nothing is known there is no text more
pub texts_numbered-grown : (known : List GroupTextData) (numbers : List (Option ℕ)) (more : ℕ) →
    texts_numbered known (numbers ++ replicate more None) ≡ texts_numbered known numbers
texts_numbered-grown known [] zero = refl
texts_numbered-grown known [] (suc more) = texts_numbered-grown known [] more
texts_numbered-grown known (None ∷ numbers) more = texts_numbered-grown known numbers more
texts_numbered-grown known (Some number ∷ numbers) more = first (slice_get known number) (texts_numbered-grown known numbers more)
  where
    first : (text : Option GroupTextData) → texts_numbered known (numbers ++ replicate more None) ≡ texts_numbered known numbers →
        some_texts (text ∷ map (option_and_then (slice_get known)) (numbers ++ replicate more None)) ≡
        some_texts (text ∷ map (option_and_then (slice_get known)) numbers)
    first None rest = rest
    first (Some text) rest = ap (λ texts. text ∷ texts) rest
