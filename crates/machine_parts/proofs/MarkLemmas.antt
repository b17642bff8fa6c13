-- Marks: setting and clearing one, how many are set, and the lists in which the marked parts stand.
use Rattle.std.proofs.Common.{◌≡◌, ◌≢◌, ℕ, zero, suc, ◌+◌, ◌<◌, ◌≤◌, Bool, true, false, cond, inl, inr, ◌⊎◌, List, [], ◌∷◌, ◌++◌, length, take, get_or, refl, sym, ap, subst, ◌∙◌, arith}
use Rattle.std.specs.Prelude.{Contains, slice_index_or, slice_set}
use Rattle.std.specs.List.{sum_by}
use Rattle.std.proofs.lemmas.Bool.{cases_lt, false_from_ne_true}
use Rattle.std.proofs.lemmas.List.{get_or_default, length-set, length_push, take_more, get_or_push, get_or_append_left}
use Rattle.std.proofs.lemmas.List.Sums.{sum_by-set, sum_by-cons, sum_by_push, count_by-le-length}
use Rattle.std.proofs.lemmas.List.Elements.{All-push, Contains-push, Contains-push_cases, Contains-append_left}
use Rattle.machine_parts.specs.declared.part.MachinePart.{MachinePart}
use Rattle.machine_parts.specs.Marking.{IsMarked, count_marked, marked_sum, AreOnce, ListsMarked, IsAgenda, MarksAll, IsReached}
use Rattle.machine_parts.proofs.SetMarks.{marked_inside, marked-set, marked-cleared, marked-kept, marked-stays, marked-set_cases, marked-cleared_was, marked-cleared_cases}

-- one mark more
pub count_marked-set : (marks : List Bool) (k : ℕ) → k < length marks → ¬ IsMarked marks k → count_marked (slice_set marks k true) ≡ count_marked marks + 1
count_marked-set marks k inside unmarked =
    let one : Bool → ℕ = λ mark. cond mark 1 0 in
    let clear = false_from_ne_true (get_or marks k false) unmarked in
    let worth : one (get_or marks k false) ≡ 0 = ap one clear in
    omega (arith, sum_by-set one marks k true false inside, worth)

-- there is room for it
pub count_marked-below : (marks : List Bool) (k : ℕ) → k < length marks → ¬ IsMarked marks k → count_marked marks < length marks
count_marked-below marks k inside unmarked =
    omega (arith, count_marked-set marks k inside unmarked, count_by-le-length (λ mark. mark) (slice_set marks k true), length-set marks k true)

-- one mark less
pub count_marked-cleared : (marks : List Bool) (k : ℕ) → IsMarked marks k → count_marked (slice_set marks k false) + 1 ≡ count_marked marks
count_marked-cleared marks k marked =
    let one : Bool → ℕ = λ mark. cond mark 1 0 in
    let worth : one (get_or marks k false) ≡ 1 = ap one marked in
    omega (arith, sum_by-set one marks k false false (marked_inside marks k marked), worth)

-- a sum over the marked parts falls by a part whose mark is cleared
pub marked_sum-cleared : (f : MachinePart → ℕ) (parts : List MachinePart) (marks : List Bool) (k : ℕ) (part : MachinePart) → k < length parts →
    slice_index_or parts k part ≡ part → IsMarked marks k → marked_sum f parts (slice_set marks k false) + f part ≡ marked_sum f parts marks
marked_sum-cleared f [] marks k part inside here marked = absurd (omega (arith, inside))
marked_sum-cleared f (first ∷ parts) [] k part inside here marked = absurd (cc)
marked_sum-cleared f (first ∷ parts) (true ∷ marks) zero part inside here marked =
    let same : f first ≡ f part = ap f here in
    omega arith
marked_sum-cleared f (first ∷ parts) (false ∷ marks) zero part inside here marked = absurd (cc)
marked_sum-cleared f (first ∷ parts) (true ∷ marks) (suc k) part inside here marked =
    let rest = marked_sum-cleared f parts marks k part (omega (arith, inside)) here marked in
    omega arith
marked_sum-cleared f (first ∷ parts) (false ∷ marks) (suc k) part inside here marked =
    marked_sum-cleared f parts marks k part (omega (arith, inside)) here marked

-- and is at most the sum over all parts
pub marked_sum-within : (f : MachinePart → ℕ) (parts : List MachinePart) (marks : List Bool) → marked_sum f parts marks ≤ sum_by f parts
marked_sum-within f [] marks = omega arith
marked_sum-within f (part ∷ parts) [] = omega arith
marked_sum-within f (part ∷ parts) (true ∷ marks) = omega (arith, sum_by-cons f part parts, marked_sum-within f parts marks)
marked_sum-within f (part ∷ parts) (false ∷ marks) = omega (arith, sum_by-cons f part parts, marked_sum-within f parts marks)

-- a new number behind numbers that stand once
pub AreOnce-push : (xs : List ℕ) (x : ℕ) → AreOnce xs → ¬ Contains xs x → AreOnce (xs ++ x ∷ [])
AreOnce-push xs x once new i j before inside same =
    let length_is = length_push xs x in
    let first = get_or_append_left xs (x ∷ []) 0 i (omega (arith, length_is)) in
    elim (cases_lt j (length xs)) [
      | inl within ↦ once i j before within (sym first ∙ (same ∙ get_or_append_left xs (x ∷ []) 0 j within))
      | inr past ↦
          let last : length xs ≡ j = omega (arith, length_is) in
          let here : get_or xs i 0 ≡ x = sym first ∙ (same ∙ get_or_push xs x 0 j last) in
          let i_inside : i < length xs = omega arith in
          new (i, i_inside, get_or_default xs i x 0 i_inside ∙ here)
    ]

-- the front of numbers that stand once, and the last of them isn't in it
AreOnce-front : (xs : List ℕ) (x : ℕ) → AreOnce (xs ++ x ∷ []) → AreOnce xs
AreOnce-front xs x once i j before inside same =
    once i j before (omega (arith, length_push xs x))
    (get_or_append_left xs (x ∷ []) 0 i (omega arith) ∙ (same ∙ sym (get_or_append_left xs (x ∷ []) 0 j inside)))

AreOnce-last : (xs : List ℕ) (x : ℕ) → AreOnce (xs ++ x ∷ []) → ¬ Contains xs x
AreOnce-last xs x once (i, inside, here) =
    once i (length xs) inside (omega (arith, length_push xs x))
    (get_or_append_left xs (x ∷ []) 0 i inside ∙ (get_or_default xs i 0 x inside ∙ (here ∙ sym (get_or_push xs x 0 (length xs) refl))))

-- one number more is marked
pub ListsMarked-more : (marks : List Bool) (list : List ℕ) (capacity k : ℕ) → k < length marks → ¬ IsMarked marks k →
    ListsMarked marks list capacity → ListsMarked (slice_set marks k true) (list ++ k ∷ []) capacity
ListsMarked-more marks list capacity k inside unmarked lists = record {
  listed = λ l marked.
      elim (marked-set_cases marks k l marked) [
        | inl before ↦ Contains-append_left list (k ∷ []) l (lists.listed l before)
        | inr same ↦ subst (Contains (list ++ k ∷ [])) (sym same) (Contains-push list k)
      ];
  only = λ l there.
      elim (Contains-push_cases list k l there) [
        | inl before ↦ marked-stays marks k l (lists.only l before)
        | inr same ↦ subst (IsMarked (slice_set marks k true)) same (marked-set marks k inside)
      ];
  once = AreOnce-push list k lists.once (λ there. unmarked (lists.only k there));
  number = omega (arith, lists.number, count_marked-set marks k inside unmarked, length_push list k);
  room = omega (arith, lists.room, length-set marks k true);
}

-- the last listed number is taken out
pub ListsMarked-less : (marks : List Bool) (list : List ℕ) (capacity k : ℕ) → ListsMarked marks (list ++ k ∷ []) capacity →
    ListsMarked (slice_set marks k false) list capacity
ListsMarked-less marks list capacity k lists =
    let marked = lists.only k (Contains-push list k) in
    record {
      listed = λ l still.
          elim (Contains-push_cases list k l (lists.listed l (marked-cleared_was marks k l still))) [
            | inl there ↦ there
            | inr same ↦ absurd (marked-cleared marks k (subst (IsMarked (slice_set marks k false)) (sym same) still))
          ];
      only = λ l there.
          let differs : l ≢ k = λ same. AreOnce-last list k lists.once (subst (Contains list) same there) in
          marked-kept marks k l false differs (lists.only l (Contains-append_left list (k ∷ []) l there));
      once = AreOnce-front list k lists.once;
      number = omega (arith, lists.number, count_marked-cleared marks k marked, length_push list k);
      room = omega (arith, lists.room, length-set marks k false);
    }

-- one part more is marked
pub IsAgenda-marked : (marks : List Bool) (waiting : List Bool) (work waiters : List ℕ) (stale capacity k : ℕ) → k < length marks → ¬ IsMarked marks k →
    IsAgenda marks waiting work waiters stale capacity → IsAgenda (slice_set marks k true) waiting (work ++ k ∷ []) waiters stale capacity
IsAgenda-marked marks waiting work waiters stale capacity k inside unmarked agenda = record {
  waiters_all = agenda.waiters_all;
  waiters_inside = λ i d within. omega (arith, agenda.waiters_inside i d within, length-set marks k true);
  counted = agenda.counted ∙ sym (length-set marks k true);
  stale_is = agenda.stale_is;
  listed = λ l marked.
      elim (marked-set_cases marks k l marked) [
        | inl before ↦
            elim (agenda.listed l before) [
              | inl works ↦ inl (Contains-append_left work (k ∷ []) l works)
              | inr waits ↦ inr waits
            ]
        | inr same ↦ inl (subst (Contains (work ++ k ∷ [])) (sym same) (Contains-push work k))
      ];
  marked = λ l there.
      elim (Contains-push_cases work k l there) [
        | inl before ↦ marked-stays marks k l (agenda.marked l before)
        | inr same ↦ subst (IsMarked (slice_set marks k true)) same (marked-set marks k inside)
      ];
  ready = λ l there waits.
      elim (Contains-push_cases work k l there) [
        | inl before ↦ agenda.ready l before waits
        | inr same ↦ unmarked (subst (IsMarked marks) (sym same) (agenda.waits l waits))
      ];
  waits = λ l waits. marked-stays marks k l (agenda.waits l waits);
  once = AreOnce-push work k agenda.once (λ there. unmarked (agenda.marked k there));
  number = omega (arith, agenda.number, count_marked-set marks k inside unmarked, length_push work k);
  room = omega (arith, agenda.room, length-set marks k true);
}

-- the last listed part is taken out
pub IsAgenda-popped : (marks : List Bool) (waiting : List Bool) (work waiters : List ℕ) (stale capacity k : ℕ) →
    IsAgenda marks waiting (work ++ k ∷ []) waiters stale capacity → IsAgenda (slice_set marks k false) waiting work waiters stale capacity
IsAgenda-popped marks waiting work waiters stale capacity k agenda =
    let last = Contains-push work k in
    let marked = agenda.marked k last in
    record {
      counted = agenda.counted ∙ sym (length-set marks k false);
      waiters_all = agenda.waiters_all;
      waiters_inside = λ i d within. omega (arith, agenda.waiters_inside i d within, length-set marks k false);
      stale_is = agenda.stale_is;
      listed = λ l marked_now.
          let before = marked-cleared_was marks k l marked_now in
          elim (agenda.listed l before) [
            | inl works ↦
                elim (Contains-push_cases work k l works) [
                  | inl there ↦ inl there
                  | inr same ↦ absurd (marked-cleared marks k (subst (IsMarked (slice_set marks k false)) (sym same) marked_now))
                ]
            | inr waits ↦ inr waits
          ];
      marked = λ l there.
          let differs : l ≢ k = λ same. AreOnce-last work k agenda.once (subst (Contains work) same there) in
          marked-kept marks k l false differs (agenda.marked l (Contains-append_left work (k ∷ []) l there));
      ready = λ l there. agenda.ready l (Contains-append_left work (k ∷ []) l there);
      waits = λ l waits.
          let differs : l ≢ k = λ same. agenda.ready k last (subst (IsMarked waiting) same waits) in
          marked-kept marks k l false differs (agenda.waits l waits);
      once = AreOnce-front work k agenda.once;
      number = omega (arith, agenda.number, count_marked-cleared marks k marked, length_push work k);
      room = omega (arith, agenda.room, length-set marks k false);
    }

-- a mark that was read and isn't set
pub unmarked_read : (marks : List Bool) (k : ℕ) (mark : Bool) → k < length marks → mark ≡ slice_index_or marks k mark → mark ≡ false →
    ¬ IsMarked marks k
unmarked_read marks k mark inside here clear marked =
    let read : mark ≡ true = here ∙ (get_or_default marks k mark false inside ∙ marked) in
    absurd (cc)

-- one part more of those that are to be marked
MarksAll-push : (xs : List ℕ) (k : ℕ) (old mid : List Bool) → k < length mid → MarksAll (Contains xs) old mid →
    MarksAll (Contains (xs ++ k ∷ [])) old (slice_set mid k true)
MarksAll-push xs k old mid inside all = record {
  count = length-set mid k true ∙ all.count;
  stays = λ l marked. marked-stays mid k l (all.stays l marked);
  set = λ l there.
      elim (Contains-push_cases xs k l there) [
        | inl before ↦ marked-stays mid k l (all.set l before)
        | inr same ↦ subst (IsMarked (slice_set mid k true)) same (marked-set mid k inside)
      ];
  only = λ l marked.
      elim (marked-set_cases mid k l marked) [
        | inl before ↦
            elim (all.only l before) [
              | inl was ↦ inl was
              | inr there ↦ inr (Contains-append_left xs (k ∷ []) l there)
            ]
        | inr same ↦ inr (subst (Contains (xs ++ k ∷ [])) (sym same) (Contains-push xs k))
      ];
}

pub MarksAll-more : (parts : List ℕ) (i k : ℕ) (old mid : List Bool) → i < length parts → k ≡ get_or parts i 0 → k < length mid →
    MarksAll (Contains (take i parts)) old mid → MarksAll (Contains (take (i + 1) parts)) old (slice_set mid k true)
MarksAll-more parts i k old mid i_inside is inside all =
    let more : take (i + 1) parts ≡ take i parts ++ k ∷ [] = take_more parts i 0 i_inside ∙ ap (λ x. take i parts ++ x ∷ []) (sym is) in
    subst (λ xs. MarksAll (Contains xs) old (slice_set mid k true)) (sym more) (MarksAll-push (take i parts) k old mid inside all)

-- the parts that one change more reaches are marked
pub MarksAll-reached : {X : Type 0} (reaches : X → List ℕ) (changes : List X) (i : ℕ) (change : X) (parts : List ℕ) (old mid new : List Bool) → i < length changes →
    change ≡ get_or changes i change → parts ≡ reaches change → MarksAll (IsReached reaches (take i changes)) old mid → MarksAll (Contains parts) mid new →
    MarksAll (IsReached reaches (take (i + 1) changes)) old new
MarksAll-reached {X} reaches changes i change parts old mid new i_inside is lists so_far marks =
    let more : take (i + 1) changes ≡ take i changes ++ change ∷ [] =
    take_more changes i change i_inside ∙ ap (λ c. take i changes ++ c ∷ []) (sym is) in
    subst (λ xs. MarksAll (IsReached reaches xs) old new) (sym more) (record {
      count = marks.count ∙ so_far.count;
      stays = λ k was. marks.stays k (so_far.stays k was);
      set = λ k any.
          elim (Contains-push_cases (take i changes) change any.change any.changes_it) [
            | inl before ↦ marks.stays k (so_far.set k (record { change = any.change; changes_it = before; reads = any.reads }))
            | inr same ↦
                let reads : Contains (reaches change) k = subst (λ (c : X). Contains (reaches c) k) (sym same) any.reads in
                marks.set k (subst (λ xs. Contains xs k) (sym lists) reads)
          ];
      only = λ k marked.
          elim (marks.only k marked) [
            | inl before ↦
                elim (so_far.only k before) [
                  | inl was ↦ inl was
                  | inr any ↦ inr (record {
                    change = any.change;
                    changes_it = Contains-append_left (take i changes) (change ∷ []) any.change any.changes_it;
                    reads = any.reads;
                  })
                ]
            | inr there ↦ inr (record {
              change = change;
              changes_it = Contains-push (take i changes) change;
              reads = subst (λ xs. Contains xs k) lists there;
            })
          ];
    })

-- a part that waits goes on without waiting
pub IsAgenda-released : (marks waiting : List Bool) (work waiters : List ℕ) (stale capacity k left : ℕ) → IsMarked waiting k → left + 1 ≡ stale →
    IsAgenda marks waiting work waiters stale capacity → IsAgenda marks (slice_set waiting k false) (work ++ k ∷ []) waiters left capacity
IsAgenda-released marks waiting work waiters stale capacity k left waits left_is agenda =
    let fewer = count_marked-cleared waiting k waits in
    record {
      counted = length-set waiting k false ∙ agenda.counted;
      waiters_all = λ l still. agenda.waiters_all l (marked-cleared_was waiting k l still);
      waiters_inside = agenda.waiters_inside;
      stale_is = omega (arith, agenda.stale_is, fewer, left_is);
      listed = λ l marked.
          elim (agenda.listed l marked) [
            | inl works ↦ inl (Contains-append_left work (k ∷ []) l works)
            | inr was ↦
                elim (marked-cleared_cases waiting k l was) [
                  | inl still ↦ inr still
                  | inr same ↦ inl (subst (Contains (work ++ k ∷ [])) (sym same) (Contains-push work k))
                ]
          ];
      marked = λ l there.
          elim (Contains-push_cases work k l there) [
            | inl before ↦ agenda.marked l before
            | inr same ↦ subst (IsMarked marks) same (agenda.waits k waits)
          ];
      ready = λ l there still.
          elim (Contains-push_cases work k l there) [
            | inl before ↦ agenda.ready l before (marked-cleared_was waiting k l still)
            | inr same ↦ marked-cleared waiting k (subst (IsMarked (slice_set waiting k false)) (sym same) still)
          ];
      waits = λ l still. agenda.waits l (marked-cleared_was waiting k l still);
      once = AreOnce-push work k agenda.once (λ there. agenda.ready k there waits);
      number = omega (arith, agenda.number, fewer, length_push work k);
      room = agenda.room;
    }

-- a mark more at the end
pub marked-push : (marks : List Bool) (k : ℕ) → IsMarked marks k → IsMarked (marks ++ true ∷ []) k
marked-push marks k marked = get_or_append_left marks (true ∷ []) false k (marked_inside marks k marked) ∙ marked

pub marked-push_cases : (marks : List Bool) (k : ℕ) → IsMarked (marks ++ true ∷ []) k → IsMarked marks k ⊎ (k ≡ length marks)
marked-push_cases marks k marked =
    let inside = marked_inside (marks ++ true ∷ []) k marked in
    elim (cases_lt k (length marks)) [
      | inl before ↦ inl (sym (get_or_append_left marks (true ∷ []) false k before) ∙ marked)
      | inr past ↦ inr (omega (arith, inside, length_push marks true, past))
    ]

pub marked-last : (marks : List Bool) → IsMarked (marks ++ true ∷ []) (length marks)
marked-last marks = get_or_push marks true false (length marks) refl

-- one part more waits
pub IsAgenda-waits : (marks waiting : List Bool) (work waiters : List ℕ) (stale capacity more : ℕ) → length marks + 1 ≤ more →
    IsAgenda marks waiting work waiters stale capacity →
    IsAgenda (marks ++ true ∷ []) (waiting ++ true ∷ []) work (waiters ++ length marks ∷ []) (stale + 1) more
IsAgenda-waits marks waiting work waiters stale capacity more room agenda =
    let one : Bool → ℕ = λ mark. cond mark 1 0 in
    let worth : one true ≡ suc zero = refl in
    let marks_more = sum_by_push one marks true in
    let waits_more = sum_by_push one waiting true in
    record {
      counted = omega (arith, agenda.counted, length_push marks true, length_push waiting true);
      waiters_all = λ l waits.
          elim (marked-push_cases waiting l waits) [
            | inl before ↦ Contains-append_left waiters (length marks ∷ []) l (agenda.waiters_all l before)
            | inr last ↦
                let here : length marks ≡ l = sym agenda.counted ∙ sym last in
                subst (Contains (waiters ++ length marks ∷ [])) here (Contains-push waiters (length marks))
          ];
      waiters_inside = All-push (λ k. k < length (marks ++ true ∷ [])) waiters (length marks)
          (λ i d within. omega (arith, agenda.waiters_inside i d within, length_push marks true)) (omega (arith, length_push marks true));
      stale_is = omega (arith, agenda.stale_is, waits_more, worth);
      listed = λ l marked.
          elim (marked-push_cases marks l marked) [
            | inl before ↦
                elim (agenda.listed l before) [
                  | inl works ↦ inl works
                  | inr waits ↦ inr (marked-push waiting l waits)
                ]
            | inr last ↦
                let here : l ≡ length waiting = last ∙ sym agenda.counted in
                inr (subst (IsMarked (waiting ++ true ∷ [])) (sym here) (marked-last waiting))
          ];
      marked = λ l there. marked-push marks l (agenda.marked l there);
      ready = λ l there waits.
          elim (marked-push_cases waiting l waits) [
            | inl before ↦ agenda.ready l there before
            | inr last ↦ absurd (omega (arith, marked_inside marks l (agenda.marked l there), last, agenda.counted))
          ];
      waits = λ l waits.
          elim (marked-push_cases waiting l waits) [
            | inl before ↦ marked-push marks l (agenda.waits l before)
            | inr last ↦
                let here : l ≡ length marks = last ∙ agenda.counted in
                subst (IsMarked (marks ++ true ∷ [])) (sym here) (marked-last marks)
          ];
      once = agenda.once;
      number = omega (arith, agenda.number, marks_more, waits_more, worth);
      room = omega (arith, room, length_push marks true);
    }

-- a part that doesn't wait is left out of the list of those that wait
pub IsAgenda-left : (marks waiting : List Bool) (work rest : List ℕ) (stale capacity k : ℕ) → ¬ IsMarked waiting k →
    IsAgenda marks waiting work (rest ++ k ∷ []) stale capacity → IsAgenda marks waiting work rest stale capacity
IsAgenda-left marks waiting work rest stale capacity k ready agenda = record {
  counted = agenda.counted;
  listed = agenda.listed;
  marked = agenda.marked;
  ready = agenda.ready;
  waits = agenda.waits;
  once = agenda.once;
  number = agenda.number;
  stale_is = agenda.stale_is;
  waiters_all = λ l waits.
      elim (Contains-push_cases rest k l (agenda.waiters_all l waits)) [
        | inl there ↦ there
        | inr same ↦ absurd (ready (subst (IsMarked waiting) (sym same) waits))
      ];
  waiters_inside = λ i d within.
      let here = agenda.waiters_inside i d (omega (arith, within, length_push rest k)) in
      subst (λ n. n < length marks) (get_or_append_left rest (k ∷ []) d i within) here;
  room = agenda.room;
}

-- a part that waits is inside
pub waiter_inside : (marks waiting : List Bool) (work rest : List ℕ) (stale capacity k : ℕ) →
    IsAgenda marks waiting work (rest ++ k ∷ []) stale capacity → k < length waiting
waiter_inside marks waiting work rest stale capacity k agenda =
    let here = agenda.waiters_inside (length rest) 0 (omega (arith, length_push rest k)) in
    omega (arith, agenda.counted, subst (λ n. n < length marks) (get_or_push rest k 0 (length rest) refl) here)
