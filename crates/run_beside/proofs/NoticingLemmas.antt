-- What is noticed of some parts and then of others.
use Rattle.std.proofs.Common.{◌≡◌, ◌≢◌, ℕ, ◌+◌, ◌-◌, ◌<◌, inl, inr, ◌⊎◌, Bool, true, List, [], ◌∷◌, ◌++◌, length, take, drop, get_or, refl, sym, ap, subst, ◌∙◌, arith}
use Rattle.std.specs.Prelude.{Contains, Option, None, Some, slice_set, slice_index_or}
use Rattle.std.proofs.lemmas.List.{length-set, take_more, take-append-drop, drop-drop}
use Rattle.std.proofs.lemmas.List.Elements.{Contains-push, Contains-push_cases, Contains-append_left, Contains-append_right, Contains-append_cases}
use Rattle.smallvec.specs.SmallVec.{SmallVec}
use Rattle.ternary.specs.declared.tern.Tern.{Tern}
use Rattle.switch_paths.specs.Switching.{state_at}
use Rattle.part_words.specs.declared.change.Change.{Change}
use Rattle.machine_parts.specs.Marking.{IsMarked, MarksAll}
use Rattle.machine_parts.specs.Readers.{readers_of}
use Rattle.machine_parts.proofs.SetMarks.{marked-set, marked-stays, marked-set_cases}
use Rattle.run_beside.specs.declared.near.NearSpan.{NearSpan}
use Rattle.run_beside.specs.Near.{HasNear, IsOut}
use Rattle.run_beside.specs.Noticing.{IsConcerned, ConcernsDiffering, Notices, NoticesBoth, NoticesChanges, NoticesGood, ReadsAgreeing}

-- some parts and then others
pub Notices-then : (Enters Wakes EntersToo WakesToo : ℕ → Type 0) (a b c l m n : List Bool) → Notices Enters Wakes a b l m → Notices EntersToo WakesToo b c m n →
    Notices (λ k. Enters k ⊎ EntersToo k) (λ k. Wakes k ⊎ WakesToo k) a c l n
Notices-then Enters Wakes EntersToo WakesToo a b c l m n first then = record {
  apart = record {
    count = then.apart.count ∙ first.apart.count;
    stays = λ k was. then.apart.stays k (first.apart.stays k was);
    set = λ k this. elim this [ inl one ↦ then.apart.stays k (first.apart.set k one) | inr two ↦ then.apart.set k two ];
    only = λ k is. elim (then.apart.only k is) [
      | inl before ↦ elim (first.apart.only k before) [ inl was ↦ inl was | inr one ↦ inr (inl one) ]
      | inr two ↦ inr (inr two)
    ];
  };
  count = then.count ∙ first.count;
  stays = λ k was. then.stays k (first.stays k was);
  entered = entered;
  wakes = λ k this is. elim this [
    | inl one ↦ elim (then.entered k is) [ inl before ↦ then.stays k (first.wakes k one before) | inr marked ↦ marked ]
    | inr two ↦ then.wakes k two is
  ];
  only = λ k marked. elim (then.only k marked) [
    | inl before ↦ elim (first.only k before) [ inl was ↦ inl was | inr is ↦ inr (then.apart.stays k is) ]
    | inr is ↦ inr is
  ];
}
  where
    entered : (k : ℕ) → IsMarked c k → IsMarked a k ⊎ IsMarked n k
    entered k is =
        elim (then.entered k is) [
          | inl before ↦ elim (first.entered k before) [ inl was ↦ inl was | inr marked ↦ inr (then.stays k marked) ]
          | inr marked ↦ inr marked
        ]

-- the same parts, said otherwise; fewer wake
pub Notices-as : (Enters Wakes EntersToo WakesToo : ℕ → Type 0) (a b m n : List Bool) → ((k : ℕ) → Enters k → EntersToo k) → ((k : ℕ) → EntersToo k → Enters k) →
    ((k : ℕ) → WakesToo k → Wakes k) → Notices Enters Wakes a b m n → Notices EntersToo WakesToo a b m n
Notices-as Enters Wakes EntersToo WakesToo a b m n to from fewer notices = record {
  apart = record {
    count = notices.apart.count;
    stays = notices.apart.stays;
    set = λ k this. notices.apart.set k (from k this);
    only = λ k is. elim (notices.apart.only k is) [ inl was ↦ inl was | inr this ↦ inr (to k this) ];
  };
  count = notices.count;
  stays = notices.stays;
  entered = notices.entered;
  wakes = λ k this. notices.wakes k (fewer k this);
  only = notices.only;
}

-- none enters
none_apart : (Enters : ℕ → Type 0) (apart : List Bool) → ((k : ℕ) → ¬ Enters k) → MarksAll Enters apart apart
none_apart Enters apart none = record { count = refl; stays = λ k was. was; set = λ k this. absurd (none k this); only = λ k is. inl is }

-- none is apart that wakes
pub Notices-asleep : (Enters Wakes : ℕ → Type 0) (apart marks : List Bool) → ((j : ℕ) → ¬ Enters j) → ((j : ℕ) → Wakes j → ¬ IsMarked apart j) →
    Notices Enters Wakes apart apart marks marks
Notices-asleep Enters Wakes apart marks none_enters none_awake = record {
  apart = none_apart Enters apart none_enters;
  count = refl;
  stays = λ j was. was;
  entered = λ j is. inl is;
  wakes = λ j this is. absurd (none_awake j this is);
  only = λ j marked. inl marked;
}

-- none enters or wakes
pub Notices-none : (Enters Wakes : ℕ → Type 0) (apart marks : List Bool) → ((k : ℕ) → ¬ Enters k) → ((k : ℕ) → ¬ Wakes k) → Notices Enters Wakes apart apart marks marks
Notices-none Enters Wakes apart marks none_enters none_wakes = Notices-asleep Enters Wakes apart marks none_enters (λ k this is. none_wakes k this)

-- a part is put apart and marked
pub Notices-one : (Enters Wakes : ℕ → Type 0) (apart marks : List Bool) (k : ℕ) → k < length apart → k < length marks → ((j : ℕ) → Enters j → j ≡ k) →
    Enters k → ((j : ℕ) → Wakes j → j ≡ k) → Notices Enters Wakes apart (slice_set apart k true) marks (slice_set marks k true)
Notices-one Enters Wakes apart marks k inside within enters_one enters wakes_one = record {
  apart = record {
    count = length-set apart k true;
    stays = λ j was. marked-stays apart k j was;
    set = λ j this. subst (IsMarked (slice_set apart k true)) (sym (enters_one j this)) (marked-set apart k inside);
    only = λ j is. elim (marked-set_cases apart k j is) [ inl was ↦ inl was | inr same ↦ inr (subst Enters (sym same) enters) ];
  };
  count = length-set marks k true;
  stays = λ j was. marked-stays marks k j was;
  entered = λ j is. elim (marked-set_cases apart k j is) [
    | inl was ↦ inl was
    | inr same ↦ inr (subst (IsMarked (slice_set marks k true)) (sym same) (marked-set marks k within))
  ];
  wakes = λ j this is. subst (IsMarked (slice_set marks k true)) (sym (wakes_one j this)) (marked-set marks k within);
  only = λ j marked. elim (marked-set_cases marks k j marked) [
    | inl was ↦ inl was
    | inr same ↦ inr (subst (IsMarked (slice_set apart k true)) (sym same) (marked-set apart k inside))
  ];
}

-- a part that is apart is marked
pub Notices-woken : (Enters Wakes : ℕ → Type 0) (apart marks : List Bool) (k : ℕ) → k < length marks → IsMarked apart k → ((j : ℕ) → ¬ Enters j) →
    ((j : ℕ) → Wakes j → j ≡ k) → Notices Enters Wakes apart apart marks (slice_set marks k true)
Notices-woken Enters Wakes apart marks k within is_apart none_enters wakes_one = record {
  apart = none_apart Enters apart none_enters;
  count = length-set marks k true;
  stays = λ j was. marked-stays marks k j was;
  entered = λ j is. inl is;
  wakes = λ j this is. subst (IsMarked (slice_set marks k true)) (sym (wakes_one j this)) (marked-set marks k within);
  only = λ j marked. elim (marked-set_cases marks k j marked) [
    | inl was ↦ inl was
    | inr same ↦ inr (subst (IsMarked apart) (sym same) is_apart)
  ];
}

-- one part more of a list that enters
pub Notices-entered : (parts : List ℕ) (i k : ℕ) (a b c l m n : List Bool) → i < length parts → k ≡ get_or parts i k →
    Notices (Contains (take i parts)) (Contains (take i parts)) a b l m → Notices (λ j. j ≡ k) (λ j. j ≡ k) b c m n →
    Notices (Contains (take (i + 1) parts)) (Contains (take (i + 1) parts)) a c l n
Notices-entered parts i k a b c l m n inside is so_far one =
    let more : take (i + 1) parts ≡ take i parts ++ k ∷ [] = take_more parts i k inside ∙ ap (λ x. take i parts ++ x ∷ []) (sym is) in
    subst (λ xs. Notices (Contains xs) (Contains xs) a c l n) (sym more)
    (Notices-as _ _ _ _ a c l n
    (λ j this. elim this [
      | inl before ↦ Contains-append_left (take i parts) (k ∷ []) j before
      | inr same ↦ subst (Contains (take i parts ++ k ∷ [])) (sym same) (Contains-push (take i parts) k)
    ])
    (λ j this. last_or_before j this)
    (λ j this. last_or_before j this)
    (Notices-then (Contains (take i parts)) (Contains (take i parts)) (λ j. j ≡ k) (λ j. j ≡ k) a b c l m n so_far one))
  where
    last_or_before : (j : ℕ) → Contains (take i parts ++ k ∷ []) j → Contains (take i parts) j ⊎ (j ≡ k)
    last_or_before j this = elim (Contains-push_cases (take i parts) k j this) [ inl before ↦ inl before | inr same ↦ inr (sym same) ]

-- the same, if none wakes
pub Notices-came : (parts : List ℕ) (i k : ℕ) (a b c l m n : List Bool) → i < length parts → k ≡ get_or parts i k →
    Notices (Contains (take i parts)) (λ j. ⊥) a b l m → Notices (λ j. j ≡ k) (λ j. ⊥) b c m n →
    Notices (Contains (take (i + 1) parts)) (λ j. ⊥) a c l n
Notices-came parts i k a b c l m n inside is so_far one =
    let more : take (i + 1) parts ≡ take i parts ++ k ∷ [] = take_more parts i k inside ∙ ap (λ x. take i parts ++ x ∷ []) (sym is) in
    subst (λ xs. Notices (Contains xs) (λ j. ⊥) a c l n) (sym more)
    (Notices-as _ _ _ _ a c l n
    (λ j this. elim this [
      | inl before ↦ Contains-append_left (take i parts) (k ∷ []) j before
      | inr same ↦ subst (Contains (take i parts ++ k ∷ [])) (sym same) (Contains-push (take i parts) k)
    ])
    (λ j this. elim (Contains-push_cases (take i parts) k j this) [ inl before ↦ inl before | inr same ↦ inr (sym same) ])
    (λ j none. absurd none)
    (Notices-then (Contains (take i parts)) (λ j. ⊥) (λ j. j ≡ k) (λ j. ⊥) a b c l m n so_far one))

-- and of one that wakes
pub Notices-awake : (parts : List ℕ) (i k : ℕ) (a l m n : List Bool) → i < length parts → k ≡ get_or parts i k →
    Notices (λ j. ⊥) (Contains (take i parts)) a a l m → Notices (λ j. ⊥) (λ j. j ≡ k) a a m n →
    Notices (λ j. ⊥) (Contains (take (i + 1) parts)) a a l n
Notices-awake parts i k a l m n inside is so_far one =
    let more : take (i + 1) parts ≡ take i parts ++ k ∷ [] = take_more parts i k inside ∙ ap (λ x. take i parts ++ x ∷ []) (sym is) in
    subst (λ xs. Notices (λ j. ⊥) (Contains xs) a a l n) (sym more)
    (Notices-as _ _ _ _ a a l n
    (λ j this. elim this [ inl none ↦ none | inr none ↦ none ])
    (λ j none. absurd none)
    (λ j this. elim (Contains-push_cases (take i parts) k j this) [ inl before ↦ inl before | inr same ↦ inr (sym same) ])
    (Notices-then (λ j. ⊥) (Contains (take i parts)) (λ j. ⊥) (λ j. j ≡ k) a a a l m n so_far one))

-- the owner and the readers of a node
pub Notices-node : (owners : List (Option ℕ)) (readers : List (SmallVec ℕ)) (node : ℕ) (owner : Option ℕ) (parts : List ℕ) (a b c l m n : List Bool) →
    owner ≡ slice_index_or owners node None → parts ≡ readers_of readers node → Notices (λ k. owner ≡ Some k) (λ k. ⊥) a b l m →
    Notices (Contains parts) (Contains parts) b c m n → Notices (IsConcerned owners readers node) (Contains (readers_of readers node)) a c l n
Notices-node owners readers node owner parts a b c l m n owner_is parts_are first then =
    Notices-as _ _ _ _ a c l n
    (λ k this. elim this [ inl own ↦ inl (sym owner_is ∙ own) | inr reads ↦ inr (subst (λ xs. Contains xs k) parts_are reads) ])
    (λ k this. elim this [ inl own ↦ inl (owner_is ∙ own) | inr reads ↦ inr (subst (λ xs. Contains xs k) (sym parts_are) reads) ])
    (λ k this. inr (subst (λ xs. Contains xs k) (sym parts_are) this))
    (Notices-then _ _ _ _ a b c l m n first then)

-- the same, if none wakes
pub Notices-concerned : (owners : List (Option ℕ)) (readers : List (SmallVec ℕ)) (node : ℕ) (owner : Option ℕ) (parts : List ℕ) (a b c l m n : List Bool) →
    owner ≡ slice_index_or owners node None → parts ≡ readers_of readers node → Notices (λ k. owner ≡ Some k) (λ k. ⊥) a b l m →
    Notices (Contains parts) (λ k. ⊥) b c m n → Notices (IsConcerned owners readers node) (λ k. ⊥) a c l n
Notices-concerned owners readers node owner parts a b c l m n owner_is parts_are first then =
    Notices-as _ _ _ _ a c l n
    (λ k this. elim this [ inl own ↦ inl (sym owner_is ∙ own) | inr reads ↦ inr (subst (λ xs. Contains xs k) parts_are reads) ])
    (λ k this. elim this [ inl own ↦ inl (owner_is ∙ own) | inr reads ↦ inr (subst (λ xs. Contains xs k) (sym parts_are) reads) ])
    (λ k none. absurd none)
    (Notices-then _ _ _ _ a b c l m n first then)

-- a node that differs puts them apart
pub Notices-differing : (owners : List (Option ℕ)) (readers : List (SmallVec ℕ)) (good bad : List Tern) (node : ℕ) (a b m n : List Bool) →
    state_at bad node ≢ state_at good node → Notices (IsConcerned owners readers node) (Contains (readers_of readers node)) a b m n →
    Notices (ConcernsDiffering owners readers good bad node) (Contains (readers_of readers node)) a b m n
Notices-differing owners readers good bad node a b m n differs notices =
    Notices-as _ _ _ _ a b m n (λ k this. (differs, this)) (λ k this. this.1) (λ k this. this) notices

-- and one that doesn't wakes its readers alone
pub Notices-agreeing : (owners : List (Option ℕ)) (readers : List (SmallVec ℕ)) (good bad : List Tern) (node : ℕ) (parts : List ℕ) (a m n : List Bool) →
    state_at bad node ≡ state_at good node → parts ≡ readers_of readers node → Notices (λ k. ⊥) (Contains parts) a a m n →
    Notices (ConcernsDiffering owners readers good bad node) (Contains (readers_of readers node)) a a m n
Notices-agreeing owners readers good bad node parts a m n same parts_are notices =
    Notices-as _ _ _ _ a a m n (λ k none. absurd none) (λ k this. absurd (this.0 same)) (λ k this. subst (λ xs. Contains xs k) (sym parts_are) this) notices

-- of a change of the good run a node that differs wakes none
pub NoticesGood-differing : (owners : List (Option ℕ)) (readers : List (SmallVec ℕ)) (good bad : List Tern) (node : ℕ) (a b m n : List Bool) →
    state_at bad node ≢ state_at good node → Notices (IsConcerned owners readers node) (λ k. ⊥) a b m n →
    Notices (ConcernsDiffering owners readers good bad node) (ReadsAgreeing readers good bad node) a b m n
NoticesGood-differing owners readers good bad node a b m n differs notices =
    Notices-as _ _ _ _ a b m n (λ k this. (differs, this)) (λ k this. this.1) (λ k this. absurd (differs this.0)) notices

-- and one that agrees wakes its readers alone
pub NoticesGood-agreeing : (owners : List (Option ℕ)) (readers : List (SmallVec ℕ)) (good bad : List Tern) (node : ℕ) (parts : List ℕ) (a m n : List Bool) →
    state_at bad node ≡ state_at good node → parts ≡ readers_of readers node → Notices (λ k. ⊥) (Contains parts) a a m n →
    Notices (ConcernsDiffering owners readers good bad node) (ReadsAgreeing readers good bad node) a a m n
NoticesGood-agreeing owners readers good bad node parts a m n same parts_are notices =
    Notices-as _ _ _ _ a a m n (λ k none. absurd none) (λ k this. absurd (this.0 same)) (λ k this. subst (λ xs. Contains xs k) (sym parts_are) this.1) notices

-- or nothing, if those that are apart are marked
pub Notices-marked : (owners : List (Option ℕ)) (readers : List (SmallVec ℕ)) (good bad : List Tern) (node : ℕ) (apart marks : List Bool) →
    state_at bad node ≡ state_at good node → ((k : ℕ) → Contains (readers_of readers node) k → IsMarked apart k → IsMarked marks k) →
    Notices (ConcernsDiffering owners readers good bad node) (ReadsAgreeing readers good bad node) apart apart marks marks
Notices-marked owners readers good bad node apart marks same marked = record {
  apart = record {
    count = refl;
    stays = λ k was. was;
    set = λ k this. absurd (this.0 same);
    only = λ k is. inl is;
  };
  count = refl;
  stays = λ k was. was;
  entered = λ k is. inl is;
  wakes = λ k this is. marked k this.1 is;
  only = λ k was. inl was;
}

-- the changes of two lists
pub NoticesChanges-then : (xs ys : List Change) (owners : List (Option ℕ)) (readers : List (SmallVec ℕ)) (good bad : List Tern) (a b c l m n : List Bool) →
    NoticesChanges xs owners readers good bad a b l m → NoticesChanges ys owners readers good bad b c m n →
    NoticesChanges (xs ++ ys) owners readers good bad a c l n
NoticesChanges-then xs ys owners readers good bad a b c l m n first then =
    Notices-as _ _ _ _ a c l n
    (λ k this. elim this [
      | inl one ↦ record { change = one.change; there = Contains-append_left xs ys one.change one.there; differs = one.differs; concerns = one.concerns }
      | inr two ↦ record { change = two.change; there = Contains-append_right xs ys two.change two.there; differs = two.differs; concerns = two.concerns }
    ])
    (λ k this. elim (Contains-append_cases xs ys this.change this.there) [
      | inl there ↦ inl (record { change = this.change; there = there; differs = this.differs; concerns = this.concerns })
      | inr there ↦ inr (record { change = this.change; there = there; differs = this.differs; concerns = this.concerns })
    ])
    (λ k this. elim (Contains-append_cases xs ys this.change this.changes_it) [
      | inl there ↦ inl (record { change = this.change; changes_it = there; reads = this.reads })
      | inr there ↦ inr (record { change = this.change; changes_it = there; reads = this.reads })
    ])
    (Notices-then _ _ _ _ a b c l m n first then)

-- one change
single : (change other : Change) → Contains (change ∷ []) other → other ≡ change
single change other there =
    elim (Contains-push_cases [] change other there) [ inl before ↦ absurd (omega (arith, before.1)) | inr same ↦ sym same ]

NoticesChanges-one : (change : Change) (owners : List (Option ℕ)) (readers : List (SmallVec ℕ)) (good bad : List Tern) (a b m n : List Bool) →
    Notices (ConcernsDiffering owners readers good bad change.node) (Contains (readers_of readers change.node)) a b m n →
    NoticesChanges (change ∷ []) owners readers good bad a b m n
NoticesChanges-one change owners readers good bad a b m n one =
    Notices-as _ _ _ _ a b m n
    (λ k this. record { change = change; there = Contains-push [] change; differs = this.0; concerns = this.1 })
    (λ k this. subst (λ (x : Change). ConcernsDiffering owners readers good bad x.node k) (single change this.change this.there) (this.differs, this.concerns))
    (λ k this. subst (λ (x : Change). Contains (readers_of readers x.node) k) (single change this.change this.changes_it) this.reads)
    one

-- and one more behind others
pub NoticesChanges-more : (changes : List Change) (i : ℕ) (change : Change) (owners : List (Option ℕ)) (readers : List (SmallVec ℕ)) (good bad : List Tern)
    (a b c l m n : List Bool) → i < length changes → change ≡ get_or changes i change →
    NoticesChanges (take i changes) owners readers good bad a b l m →
    Notices (ConcernsDiffering owners readers good bad change.node) (Contains (readers_of readers change.node)) b c m n →
    NoticesChanges (take (i + 1) changes) owners readers good bad a c l n
NoticesChanges-more changes i change owners readers good bad a b c l m n inside is so_far one =
    let more : take (i + 1) changes ≡ take i changes ++ change ∷ [] = take_more changes i change inside ∙ ap (λ x. take i changes ++ x ∷ []) (sym is) in
    subst (λ xs. NoticesChanges xs owners readers good bad a c l n) (sym more)
    (NoticesChanges-then (take i changes) (change ∷ []) owners readers good bad a b c l m n so_far
    (NoticesChanges-one change owners readers good bad b c m n one))

-- one more change of the good run
pub NoticesGood-more : (changes : List Change) (i : ℕ) (change : Change) (owners : List (Option ℕ)) (readers : List (SmallVec ℕ)) (good bad : List Tern)
    (a b c l m n : List Bool) → i < length changes → change ≡ get_or changes i change →
    NoticesGood (take i changes) owners readers good bad a b l m →
    Notices (ConcernsDiffering owners readers good bad change.node) (ReadsAgreeing readers good bad change.node) b c m n →
    NoticesGood (take (i + 1) changes) owners readers good bad a c l n
NoticesGood-more changes i change owners readers good bad a b c l m n inside is so_far one =
    let more : take (i + 1) changes ≡ take i changes ++ change ∷ [] = take_more changes i change inside ∙ ap (λ x. take i changes ++ x ∷ []) (sym is) in
    subst (λ xs. NoticesGood xs owners readers good bad a c l n) (sym more)
    (Notices-as _ _ _ _ a c l n
    (λ k this. elim this [
      | inl before ↦ record {
        change = before.change;
        there = Contains-append_left (take i changes) (change ∷ []) before.change before.there;
        differs = before.differs;
        concerns = before.concerns;
      }
      | inr here ↦ record { change = change; there = Contains-push (take i changes) change; differs = here.0; concerns = here.1 }
    ])
    (λ k this. elim (Contains-push_cases (take i changes) change this.change this.there) [
      | inl before ↦ inl (record { change = this.change; there = before; differs = this.differs; concerns = this.concerns })
      | inr same ↦ inr (subst (λ (x : Change). ConcernsDiffering owners readers good bad x.node k) (sym same) (this.differs, this.concerns))
    ])
    (λ k this. elim (Contains-push_cases (take i changes) change this.change this.there) [
      | inl before ↦ inl (record { change = this.change; there = before; agrees = this.agrees; reads = this.reads })
      | inr same ↦ inr (subst (λ (x : Change). ReadsAgreeing readers good bad x.node k) (sym same) (this.agrees, this.reads))
    ])
    (Notices-then _ _ _ _ a b c l m n so_far one))

module _ (changes : List Change) (flags : List Bool) (span : NearSpan) (has : HasNear flags changes span) where
  -- the changes in the span
  abbrev pub within : List Change
  within = take (span.end - span.first) (drop span.first changes)

  -- those in front of it, those in it and those behind it are all changes
  parts : take span.first changes ++ (within ++ drop span.end changes) ≡ changes
  parts =
      let rest = drop span.first changes in
      let last : drop (span.end - span.first) rest ≡ drop span.end changes =
      drop-drop (span.end - span.first) span.first changes ∙ ap (λ n. drop n changes) (omega (arith, has.ordered)) in
      ap (λ behind. take span.first changes ++ (within ++ behind)) (sym last)
      ∙ (ap (λ back. take span.first changes ++ back) (take-append-drop (span.end - span.first) rest) ∙ take-append-drop span.first changes)

  -- a change in the span is one of the changes
  pub Contains-within : (change : Change) → Contains within change → Contains changes change
  Contains-within change there =
      subst (λ list. Contains list change) parts
      (Contains-append_right (take span.first changes) (within ++ drop span.end changes) change
      (Contains-append_left within (drop span.end changes) change there))

  -- and each of the changes is in it or is far
  in_or_far : (change : Change) → Contains changes change → Contains within change ⊎ IsOut flags change.node
  in_or_far change there =
      let back = within ++ drop span.end changes in
      elim (Contains-append_cases (take span.first changes) back change (subst (λ list. Contains list change) (sym parts) there)) [
        | inl early ↦ inr (has.before change early)
        | inr later ↦ elim (Contains-append_cases within (drop span.end changes) change later) [
          | inl here ↦ inl here
          | inr late ↦ inr (has.behind change late)
        ]
      ]

  -- so what is noticed of the span is noticed of all changes, if far nodes agree and are read by no part that was apart
  pub NoticesGood-within : (owners : List (Option ℕ)) (readers : List (SmallVec ℕ)) (good bad : List Tern) (a b m n : List Bool) →
      ((change : Change) → Contains changes change → IsOut flags change.node → state_at bad change.node ≡ state_at good change.node) →
      ((change : Change) → Contains changes change → IsOut flags change.node →
      (k : ℕ) → Contains (readers_of readers change.node) k → ¬ IsMarked a k) →
      NoticesGood within owners readers good bad a b m n → NoticesGood changes owners readers good bad a b m n
  NoticesGood-within owners readers good bad a b m n agree unread notices = record {
    apart = record {
      count = notices.apart.count;
      stays = notices.apart.stays;
      set = λ k this. elim (in_or_far this.change this.there) [
        | inl here ↦ notices.apart.set k (record { change = this.change; there = here; differs = this.differs; concerns = this.concerns })
        | inr far ↦ absurd (this.differs (agree this.change this.there far))
      ];
      only = λ k is. elim (notices.apart.only k is) [
        | inl was ↦ inl was
        | inr this ↦ inr (record { change = this.change; there = Contains-within this.change this.there; differs = this.differs; concerns = this.concerns })
      ];
    };
    count = notices.count;
    stays = notices.stays;
    entered = notices.entered;
    wakes = λ k this is. elim (in_or_far this.change this.there) [
      | inl here ↦ notices.wakes k (record { change = this.change; there = here; agrees = this.agrees; reads = this.reads }) is
      | inr far ↦ elim (notices.entered k is) [
        | inl was ↦ absurd (unread this.change this.there far k this.reads was)
        | inr marked ↦ marked
      ]
    ];
    only = notices.only;
  }

-- the changes of the good run, and then those of the run under a fault
pub NoticesBoth-from : (changes own : List Change) (owners : List (Option ℕ)) (readers : List (SmallVec ℕ)) (good bad : List Tern) (a b c l m n : List Bool) →
    NoticesGood changes owners readers good bad a b l m → NoticesChanges own owners readers good bad b c m n →
    NoticesBoth changes own owners readers good bad a c l n
NoticesBoth-from changes own owners readers good bad a b c l m n first then =
    Notices-as _ _ _ _ a c l n
    (λ k this. elim this [
      | inl one ↦ record { change = one.change; there = Contains-append_left changes own one.change one.there; differs = one.differs; concerns = one.concerns }
      | inr two ↦ record { change = two.change; there = Contains-append_right changes own two.change two.there; differs = two.differs; concerns = two.concerns }
    ])
    (λ k this. elim (Contains-append_cases changes own this.change this.there) [
      | inl there ↦ inl (record { change = this.change; there = there; differs = this.differs; concerns = this.concerns })
      | inr there ↦ inr (record { change = this.change; there = there; differs = this.differs; concerns = this.concerns })
    ])
    (λ k this. this)
    (Notices-then _ _ _ _ a b c l m n first then)
