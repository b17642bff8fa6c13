-- Whole rounds that an observer isn't shown: if it is enough to show it a round once, what it saw is what it would have seen.
use Rattle.std.proofs.Common.{None, ◌≡◌, ◌≢◌, ℕ, zero, suc, ◌+◌, ◌-◌, ◌*◌, ◌≤◌, Bool, true, false, inl, inr, Some, List, [], ◌∷◌, ◌++◌, length, refl, sym, ap, subst, ◌∙◌, arith}
use Rattle.std.specs.Bool.{OnTrue, OnFalse}
use Rattle.std.proofs.lemmas.List.{length-append, append_assoc}
use Rattle.std.proofs.Math.Nat.{suc-mul}
use Rattle.ternary.specs.declared.tern.Tern.{Tern}
use Rattle.switch_paths.specs.Graphs.{GraphData}
use Rattle.switch_paths.specs.Step.{IsStep}
use Rattle.settling.specs.Passing.{last_state, SteppingThrough, see_all}
use Rattle.settling.specs.Recurring.{ChangingThrough, OnceIsEnough, RecallData, AreRounds, RemembersOne, Recalls}
use Rattle.settling.proofs.PassingLemmas.{last_state-append, see_all-append}
use Rattle.settling.proofs.SeenSoFar.{SteppedSoFar}

-- the states of so many rounds, one after the other
abbrev pub rounds_of : ℕ → List (List Tern) → List (List Tern)
rounds_of zero round = []
rounds_of (suc times) round = round ++ rounds_of times round

-- they are as many as all rounds have
length-rounds : (times : ℕ) (round : List (List Tern)) → length (rounds_of times round) ≡ times * length round
length-rounds zero round = omega arith
length-rounds (suc times) round =
    omega (arith, length-append round (rounds_of times round), length-rounds times round, suc-mul times (length round))

-- they lead to where a round leads to that comes back
last-rounds : (times : ℕ) (now : List Tern) (round : List (List Tern)) → last_state now round ≡ now → last_state now (rounds_of times round) ≡ now
last-rounds zero now round back = refl
last-rounds (suc times) now round back =
    last_state-append now round (rounds_of times round)
    ∙ (ap (λ (state : List Tern). last_state state (rounds_of times round)) back ∙ last-rounds times now round back)

-- who saw a round sees nothing new in more of them
see-rounds : {S : Type 0} (see : S → List Tern → S) → OnceIsEnough see → (times : ℕ) (before : S) (round : List (List Tern)) →
    see_all see (see_all see before round) (rounds_of times round) ≡ see_all see before round
see-rounds see once zero before round = refl
see-rounds see once (suc times) before round =
    see_all-append see (see_all see before round) round (rounds_of times round)
    ∙ (ap (λ saw. see_all see saw (rounds_of times round)) (once.again before round) ∙ see-rounds see once times before round)

-- one state more behind the others
changing-behind : (g : GraphData) (old : List Tern) (states : List (List Tern)) (next : List Tern) → ChangingThrough g old states →
    IsStep g (last_state old states) next → next ≢ last_state old states → ChangingThrough g old (states ++ next ∷ [])
changing-behind g old [] next changes step changed = (step, changed, tt)
changing-behind g old (state ∷ states) next changes step changed =
    (changes.0, changes.1, changing-behind g state states next changes.2 step changed)

-- states that are passed through, and what follows the last of them
through-then : (g : GraphData) (left : ℕ) (old : List Tern) (front more : List (List Tern)) → ChangingThrough g old front →
    SteppingThrough g left (last_state old front) more → SteppingThrough g (length front + left) old (front ++ more)
through-then g left old [] more changes steps = subst (λ (n : ℕ). SteppingThrough g n old more) none steps
  where
    none : left ≡ 0 + left
    none = omega arith
through-then g left old (next ∷ front) more changes steps =
    let whole : SteppingThrough g (suc (length front + left)) old (next ∷ (front ++ more)) =
    (changes.0, changes.1, through-then g left next front more changes.2 steps) in
    subst (λ (n : ℕ). SteppingThrough g n old (next ∷ (front ++ more))) one whole
  where
    one : suc (length front + left) ≡ suc (length front) + left
    one = omega arith

-- whole rounds, and what follows the state that they come back to
through-rounds : (g : GraphData) (times left : ℕ) (now : List Tern) (round more : List (List Tern)) → ChangingThrough g now round →
    last_state now round ≡ now → SteppingThrough g left now more → SteppingThrough g (times * length round + left) now (rounds_of times round ++ more)
through-rounds g zero left now round more changes back steps = subst (λ (n : ℕ). SteppingThrough g n now more) none steps
  where
    none : left ≡ 0 * length round + left
    none = omega arith
through-rounds g (suc times) left now round more changes back steps =
    let rest = through-rounds g times left now round more changes back steps in
    let behind = subst (λ (state : List Tern). SteppingThrough g (times * length round + left) state (rounds_of times round ++ more)) (sym back) rest in
    let all = through-then g (times * length round + left) now round (rounds_of times round ++ more) changes behind in
    subst (λ (n : ℕ). SteppingThrough g n now (rounds_of (suc times) round ++ more)) one
    (subst (SteppingThrough g (length round + (times * length round + left)) now) (sym (append_assoc round (rounds_of times round) more)) all)
  where
    one : length round + (times * length round + left) ≡ suc times * length round + left
    one = omega (arith, suc-mul times (length round))

-- the states since the one that is remembered: each is the step of the one before it and differs from it, and the observer saw them
pub record SeenSince {S : Type 0} (see : S → List Tern → S) (g : GraphData) (recall : RecallData) (since count : ℕ) (now : List Tern) (after : S) :
    Type 0 where
  pub states : List (List Tern)
  pub changes : ChangingThrough g recall.state states
  pub last : now ≡ last_state recall.state states
  pub later : since + length states ≡ count
  pub before : S
  pub seen : after ≡ see_all see before states

abbrev pub KeptSeen : {S : Type 0} → (S → List Tern → S) → GraphData → RecallData → ℕ → List Tern → S → Type 0
KeptSeen see g recall count now after = (since : ℕ) → recall.since ≡ Some since → SeenSince see g recall since count now after

module _ {S : Type 0} (see : S → List Tern → S) (g : GraphData) where
  -- nothing is remembered
  pub seen-none : (recall : RecallData) (count : ℕ) (now : List Tern) (after : S) → recall.since ≡ None → KeptSeen see g recall count now after
  seen-none recall count now after none since was = absurd (cc (sym none ∙ was))

  -- one state more was seen
  pub seen-more : (recall : RecallData) (count : ℕ) (now next : List Tern) (mid after : S) → KeptSeen see g recall count now mid → IsStep g now next →
      next ≢ now → after ≡ see mid next → KeptSeen see g recall (count + 1) next after
  seen-more recall count now next mid after kept step changed is since was =
      let had = kept since was in
      record {
        states = had.states ++ next ∷ [];
        changes = changing-behind g recall.state had.states next had.changes (subst (λ (state : List Tern). IsStep g state next) had.last step)
            (subst (λ (state : List Tern). next ≢ state) had.last changed);
        last = sym (last_state-append recall.state had.states (next ∷ []));
        later = omega (arith, had.later, length-append had.states (next ∷ []));
        before = had.before;
        seen = is ∙ (ap (λ saw. see saw next) had.seen ∙ sym (see_all-append see had.before had.states (next ∷ [])));
      }

  -- another state may be remembered in its place
  seen-as : (old new : RecallData) (count : ℕ) (now : List Tern) (after : S) → KeptSeen see g old count now after → RemembersOne old new now count →
      KeptSeen see g new count now after
  seen-as old new count now after kept (inl same) = subst (λ (recall : RecallData). KeptSeen see g recall count now after) (sym same) kept
  seen-as old new count now after kept (inr (inl none)) = seen-none new count now after none
  seen-as old new count now after kept (inr (inr (here, is))) = λ since was.
      let first : count ≡ since = cc (sym here ∙ was) in
      record { states = []; changes = tt; last = sym is; later = omega (arith, first); before = after; seen = refl }

  module _ (old new : RecallData) (count steps : ℕ) (now : List Tern) (after : S) (kept : KeptSeen see g old count now after)
      (recalls : Recalls old new now count steps) where
    -- the states since the one that is remembered, behind the rounds that were passed over
    pub seen-on : KeptSeen see g new (count + steps) now after
    seen-on =
        elim recalls [
          | inl none ↦
              let same : count ≡ count + steps = omega (arith, none.0) in
              subst (λ (n : ℕ). KeptSeen see g new n now after) same (seen-as old new count now after kept none.1)
          | inr rounds ↦ seen-none new (count + steps) now after rounds.1
        ]

    -- rounds from the state that is back to it: they were seen already
    rounds-seen : OnceIsEnough see → (limit : ℕ) (start : List Tern) (before : S) → count + steps ≤ limit →
        SteppedSoFar see g limit (limit - count) start count now before after → AreRounds old now count steps →
        SteppedSoFar see g limit (limit - (count + steps)) start (count + steps) now before after
    rounds-seen once limit start before within so_far rounds =
        let had = kept rounds.back.since rounds.back.was in
        let round = had.states in
        let more = rounds_of rounds.times round in
        let changes : ChangingThrough g now round = subst (λ (state : List Tern). ChangingThrough g state round) (sym rounds.back.same) had.changes in
        let back : last_state now round ≡ now =
        subst (λ (state : List Tern). last_state state round ≡ now) (sym rounds.back.same) (sym had.last) in
        let long : length round ≡ rounds.round = omega (arith, had.later, rounds.back.later) in
        let whole : rounds.times * length round ≡ steps = ap (λ (n : ℕ). rounds.times * n) long ∙ sym rounds.whole in
        let left : rounds.times * length round + (limit - (count + steps)) ≡ limit - count = omega (arith, whole, within) in
        let same : see_all see after more ≡ after =
        subst (λ saw. see_all see saw more ≡ saw) (sym had.seen) (see-rounds see once rounds.times had.before round) in
        record {
          passed = so_far.passed ++ more;
          follow = λ rest goes.
              subst (SteppingThrough g limit start) (sym (append_assoc so_far.passed more rest))
              (so_far.follow (more ++ rest) (subst (λ (n : ℕ). SteppingThrough g n now (more ++ rest)) left
              (through-rounds g rounds.times (limit - (count + steps)) now round rest changes back goes)));
          last = sym (last-rounds rounds.times now round back)
              ∙ (ap (λ (state : List Tern). last_state state more) so_far.last ∙ sym (last_state-append start so_far.passed more));
          count_is = omega (arith, so_far.count_is, length-append so_far.passed more, length-rounds rounds.times round, whole);
          seen = sym same ∙ (ap (λ saw. see_all see saw more) so_far.seen ∙ sym (see_all-append see before so_far.passed more));
        }

    -- so an observer to whom it is enough to show a round once saw what it would have seen, and no round is passed over for another one
    pub passed-on : (once : Bool) → OnTrue once (OnceIsEnough see) → OnFalse once (steps ≡ 0) → (limit : ℕ) (start : List Tern) (before : S) →
        count + steps ≤ limit → SteppedSoFar see g limit (limit - count) start count now before after →
        SteppedSoFar see g limit (limit - (count + steps)) start (count + steps) now before after
    passed-on once enough unpassed limit start before within so_far =
        elim recalls [
          | inl none ↦ stays none.0
          | inr rounds ↦ either once enough unpassed rounds.0
        ]
      where
        stays : steps ≡ 0 → SteppedSoFar see g limit (limit - (count + steps)) start (count + steps) now before after
        stays none =
            let same : count ≡ count + steps = omega (arith, none) in
            subst (λ (n : ℕ). SteppedSoFar see g limit (limit - n) start n now before after) same so_far

        either : (once : Bool) → OnTrue once (OnceIsEnough see) → OnFalse once (steps ≡ 0) → AreRounds old now count steps →
            SteppedSoFar see g limit (limit - (count + steps)) start (count + steps) now before after
        either true enough unpassed rounds = rounds-seen enough limit start before within so_far rounds
        either false enough unpassed rounds = stays unpassed
