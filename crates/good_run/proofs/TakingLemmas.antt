-- A state is taken over node by node, and the changes are noted.
use Rattle.std.proofs.Common.{◌≡◌, ◌≢◌, ℕ, ◌+◌, ◌<◌, ◌≤◌, inl, inr, Bool, true, false, List, [], ◌∷◌, ◌++◌, length, take, get_or, refl, sym, ap, subst, ◌∙◌, arith}
use Rattle.std.specs.Prelude.{◌&&◌, Contains, slice_set}
use Rattle.std.specs.Bool.{OnTrue, OnFalse}
use Rattle.std.proofs.lemmas.Bool.{cases_eq, cases_Bool, OnTrue_at, OnFalse_at}
use Rattle.std.proofs.lemmas.List.{append_assoc, append-nil, ext_get_or, get_or-set_same, get_or-set_other, length-append, length-set, length_push, take_all, take_more}
use Rattle.std.proofs.lemmas.List.Elements.{Contains-append_left, Contains-push, Contains-push_cases}
use Rattle.ternary.specs.declared.tern.Tern.{Tern}
use Rattle.ternary.specs.declared.tern.Tern.TheVariants.{Zero}
use Rattle.ternary.proofs.TernLemmas.{same_or_other}
use Rattle.switch_paths.specs.Switching.{state_at}
use Rattle.settling.specs.Moved.{ListsChanges}
use Rattle.part_words.specs.declared.change.Change.{Change}
use Rattle.good_run.specs.Recording.{count_apart}
use Rattle.good_run.specs.Looks.{KeepsNode, NotesNode, LosesNode, TakesNode, TakesSoFar, NotesChanges, HasMore}
use Rattle.good_run.proofs.AppliedLemmas.{applied-append}
use Rattle.good_run.proofs.CountLemmas.{count_apart-same, count_apart-set}

-- nothing is taken over yet
pub Takes-start : (changed : List ℕ) (old_state new_state : List Tern) (old : List Change) (capacity : ℕ) →
    TakesSoFar changed 0 old_state old_state new_state old old capacity true
Takes-start changed old_state new_state old capacity = record {
  count = refl;
  done = λ node (k, inside, is). absurd (omega (arith, inside));
  rest = λ node none. refl;
  more = [];
  behind = sym (append-nil old);
  give = λ change (k, inside, is). absurd (omega (arith, inside));
  leads = λ all. refl;
  number = λ all. omega arith;
  over = λ wrong. absurd (cc (wrong));
}

module _ (changed : List ℕ) (i node : ℕ) (value : Tern) (old_state mid next new_state : List Tern) (old now later : List Change) (capacity : ℕ)
    (inside : i < length changed) (is : node ≡ get_or changed i 0) (value_is : value ≡ state_at new_state node) (within : node < length old_state)
    (counted : length new_state ≡ length old_state) where
  listed : take (i + 1) changed ≡ take i changed ++ node ∷ []
  listed = take_more changed i 0 inside ∙ ap (λ n. take i changed ++ n ∷ []) (sym is)

  abbrev change : Change
  change = record { node = node; value = value }

  module _ (enough : Bool) (so_far : TakesSoFar changed i old_state mid new_state old now capacity enough) where
    -- what isn't listed up to here wasn't before
    unlisted : (n : ℕ) → (¬ Contains (take (i + 1) changed) n) → ¬ Contains (take i changed) n
    unlisted n none before =
        none (subst (λ xs. Contains xs n) (sym listed) (Contains-append_left (take i changed) (node ∷ []) n before))

    -- a node that has its state already is passed
    kept : KeepsNode node value mid next now later → TakesSoFar changed (i + 1) old_state next new_state old later capacity enough
    kept keeps = record {
      count = ap length keeps.state_is ∙ so_far.count;
      done = λ n there. ap (λ states. state_at states n) keeps.state_is ∙ elim (Contains-push_cases (take i changed) node n (subst (λ xs. Contains xs n) listed there)) [
        | inl before ↦ so_far.done n before
        | inr same ↦ subst (λ m. state_at mid m ≡ state_at new_state m) same (keeps.has ∙ value_is)
      ];
      rest = λ n none. ap (λ states. state_at states n) keeps.state_is ∙ so_far.rest n (unlisted n none);
      more = so_far.more;
      behind = keeps.same ∙ so_far.behind;
      give = so_far.give;
      leads = λ all. so_far.leads all ∙ sym keeps.state_is;
      number = λ all. ap (λ states. length so_far.more + count_apart states new_state) keeps.state_is ∙ so_far.number all;
      over = so_far.over;
    }

    module _ (state_is : next ≡ slice_set mid node value) where
      here : node < length mid
      here = omega (arith, within, so_far.count)

      at_node : state_at next node ≡ value
      at_node = ap (λ states. state_at states node) state_is ∙ get_or-set_same mid node value Zero here

      elsewhere : (n : ℕ) → n ≢ node → state_at next n ≡ state_at mid n
      elsewhere n differs = ap (λ states. state_at states n) state_is ∙ get_or-set_other mid node n value Zero differs

      count_set : length next ≡ length old_state
      count_set = ap length state_is ∙ (length-set mid node value ∙ so_far.count)

      done_set : (n : ℕ) → Contains (take (i + 1) changed) n → state_at next n ≡ state_at new_state n
      done_set n there =
          elim (cases_eq n node) [
            | inl same ↦ ap (state_at next) same ∙ (at_node ∙ (value_is ∙ ap (state_at new_state) (sym same)))
            | inr differs ↦
                elim (Contains-push_cases (take i changed) node n (subst (λ xs. Contains xs n) listed there)) [
                  | inl before ↦ elsewhere n differs ∙ so_far.done n before
                  | inr same ↦ absurd (differs (sym same))
                ]
          ]

      rest_set : (n : ℕ) → (¬ Contains (take (i + 1) changed) n) → state_at next n ≡ state_at old_state n
      rest_set n none =
          let differs : n ≢ node = λ same. none (subst (λ xs. Contains xs n) (sym listed)
          (subst (Contains (take i changed ++ node ∷ [])) (sym same) (Contains-push (take i changed) node))) in
          elsewhere n differs ∙ so_far.rest n (unlisted n none)

      -- one node less differs from its new state
      one_less : state_at mid node ≢ value → count_apart mid new_state ≡ count_apart next new_state + 1
      one_less differs =
          let apart : state_at mid node ≢ state_at new_state node = λ same. differs (same ∙ sym value_is) in
          let set = count_apart-set mid new_state node here (omega (arith, counted, so_far.count)) apart in
          let same : next ≡ slice_set mid node (state_at new_state node) = state_is ∙ ap (slice_set mid node) value_is in
          set ∙ ap (λ states. count_apart states new_state + 1) (sym same)

    -- a change is noted
    noted : NotesNode node value mid next now later → TakesSoFar changed (i + 1) old_state next new_state old later capacity enough
    noted notes = record {
      count = count_set notes.state_is;
      done = done_set notes.state_is;
      rest = rest_set notes.state_is;
      more = so_far.more ++ change ∷ [];
      behind = notes.behind ∙ (ap (λ xs. xs ++ change ∷ []) so_far.behind ∙ append_assoc old so_far.more (change ∷ []));
      give = λ c there. elim (Contains-push_cases so_far.more change c there) [
        | inl before ↦ so_far.give c before
        | inr same ↦
            subst (λ (x : Change). (x.node < length new_state) × (x.value ≡ state_at new_state x.node)) same (omega (arith, within, counted), value_is)
      ];
      leads = λ all.
          applied-append so_far.more (change ∷ []) old_state ∙ (ap (λ states. slice_set states node value) (so_far.leads all) ∙ sym notes.state_is);
      number = λ all. omega (arith, length_push so_far.more change, so_far.number all, one_less notes.state_is notes.differs);
      over = so_far.over;
    }

    -- or there is no room for it
    lost : LosesNode node value mid next now later capacity → TakesSoFar changed (i + 1) old_state next new_state old later capacity false
    lost loses = record {
      count = count_set loses.state_is;
      done = done_set loses.state_is;
      rest = rest_set loses.state_is;
      more = so_far.more;
      behind = loses.same ∙ so_far.behind;
      give = so_far.give;
      leads = λ wrong. absurd (cc (wrong));
      number = λ wrong. absurd (cc (wrong));
      over = λ none. elim (cases_Bool enough) [
        | inl all ↦
            let so_many : length now ≡ length old + length so_far.more = ap length so_far.behind ∙ length-append old so_far.more in
            omega (arith, loses.full, so_many, so_far.number all, one_less loses.state_is loses.differs)
        | inr some ↦ so_far.over some
      ];
    }

-- one node more is taken over
pub Takes-more : (changed : List ℕ) (i node : ℕ) (value : Tern) (old_state mid next new_state : List Tern) (old now later : List Change) (capacity : ℕ) →
    i < length changed → node ≡ get_or changed i 0 → value ≡ state_at new_state node → node < length old_state → length new_state ≡ length old_state →
    (enough noted : Bool) → TakesSoFar changed i old_state mid new_state old now capacity enough → TakesNode node value mid next now later capacity noted →
    TakesSoFar changed (i + 1) old_state next new_state old later capacity (enough && noted)
Takes-more changed i node value old_state mid next new_state old now later capacity inside is value_is within counted true true so_far takes =
    elim takes [
      | inl keeps ↦ kept changed i node value old_state mid next new_state old now later capacity inside is value_is within counted true so_far keeps
      | inr notes ↦ noted changed i node value old_state mid next new_state old now later capacity inside is value_is within counted true so_far notes
    ]
Takes-more changed i node value old_state mid next new_state old now later capacity inside is value_is within counted false true so_far takes =
    elim takes [
      | inl keeps ↦ kept changed i node value old_state mid next new_state old now later capacity inside is value_is within counted false so_far keeps
      | inr notes ↦ noted changed i node value old_state mid next new_state old now later capacity inside is value_is within counted false so_far notes
    ]
Takes-more changed i node value old_state mid next new_state old now later capacity inside is value_is within counted true false so_far takes =
    lost changed i node value old_state mid next new_state old now later capacity inside is value_is within counted true so_far takes
Takes-more changed i node value old_state mid next new_state old now later capacity inside is value_is within counted false false so_far takes =
    lost changed i node value old_state mid next new_state old now later capacity inside is value_is within counted false so_far takes

-- at the end all nodes have their new states
pub taken_over : (changed : List ℕ) (i : ℕ) (old_state mid new_state : List Tern) (old now : List Change) (capacity : ℕ) (enough : Bool) →
    length changed ≤ i → ListsChanges changed old_state new_state → TakesSoFar changed i old_state mid new_state old now capacity enough → mid ≡ new_state
taken_over changed i old_state mid new_state old now capacity enough past lists so_far =
    let all : take i changed ≡ changed = take_all i changed past in
    ext_get_or Zero mid new_state (so_far.count ∙ sym lists.count) (λ node inside.
    elim (same_or_other (state_at mid node) (state_at new_state node)) [
      | inl same ↦ same
      | inr differs ↦
          let out : ¬ Contains (take i changed) node = λ there. differs (so_far.done node there) in
          let stays = so_far.rest node out in
          let moved : state_at new_state node ≢ state_at old_state node = λ same. differs (stays ∙ sym same) in
          absurd (out (subst (λ xs. Contains xs node) (sym all) (lists.each node (omega (arith, inside, so_far.count)) moved)))
    ])

-- and what was noted leads there, if all was
pub NotesChanges-all : (changed : List ℕ) (i : ℕ) (old_state mid new_state : List Tern) (old now : List Change) (capacity : ℕ) → mid ≡ new_state →
    TakesSoFar changed i old_state mid new_state old now capacity true → NotesChanges old_state new_state old now
NotesChanges-all changed i old_state mid new_state old now capacity same so_far = record {
  more = so_far.more;
  behind = so_far.behind;
  leads = so_far.leads refl ∙ same;
  give = so_far.give;
  number = omega (arith, so_far.number refl, ap (λ states. count_apart states new_state) same, count_apart-same new_state);
}

-- a node that got its value, whether its change was noted or not
pub TakesNode-pushed : (node : ℕ) (value : Tern) (old_state new_state : List Tern) (old new : List Change) (capacity : ℕ) (noted : Bool) →
    state_at old_state node ≢ value → new_state ≡ slice_set old_state node value →
    OnTrue noted (new ≡ old ++ record { node = node; value = value } ∷ []) → OnFalse noted (new ≡ old) → OnFalse noted (capacity ≤ length old) →
    TakesNode node value old_state new_state old new capacity noted
TakesNode-pushed node value old_state new_state old new capacity true differs state_is pushed same full =
    inr (record { differs = differs; state_is = state_is; behind = OnTrue_at refl pushed })
TakesNode-pushed node value old_state new_state old new capacity false differs state_is pushed same full =
    record { differs = differs; state_is = state_is; same = OnFalse_at refl same; full = OnFalse_at refl full }

-- what came behind
pub HasMore-so_far : (changed : List ℕ) (i : ℕ) (old_state mid new_state : List Tern) (old now : List Change) (capacity : ℕ) (enough : Bool) →
    TakesSoFar changed i old_state mid new_state old now capacity enough → HasMore old now
HasMore-so_far changed i old_state mid new_state old now capacity enough so_far = record { more = so_far.more; behind = so_far.behind }
