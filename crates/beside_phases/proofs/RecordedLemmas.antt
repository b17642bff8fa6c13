-- The states of a phase stand in the record behind the one with which it begins, and each is the replacement of the one before it.
use Rattle.std.proofs.Common.{◌≡◌, ℕ, zero, suc, ◌+◌, ◌<◌, ◌≤◌, false, List, [], ◌∷◌, ◌++◌, length, map, inl, inr, refl, sym, ap, subst, ◌∙◌, arith}
use Rattle.std.specs.Prelude.{slice_index_or}
use Rattle.std.proofs.lemmas.Bool.{cases_lt}
use Rattle.std.proofs.lemmas.List.{length-append, length-map}
use Rattle.ternary.specs.declared.tern.Tern.{Tern}
use Rattle.switch_paths.specs.Graphs.{GraphData}
use Rattle.switch_paths.specs.Step.{IsStep}
use Rattle.settling.specs.Settling.{IsJoinStep}
use Rattle.settling.specs.Passing.{SteppingThrough, JoiningThrough, last_state}
use Rattle.settling.specs.Passes.{Pass}
use Rattle.settling.proofs.UniqueSettling.{JoinStep-unique}
use Rattle.good_run.specs.Recording.{RunData, Shown, shown_by, state_before}
use Rattle.run_beside.specs.Agreeing.{IsMove}
use Rattle.run_beside.specs.Replacing.{IsReplacement}
use Rattle.run_beside.proofs.RestingRuns.{rest_stays}
use Rattle.beside.proofs.PhaseLemmas.{plain_kind, joining_kind}
use Rattle.beside_phases.specs.Recorded.{PhasesAreRecorded, StepsAreRecorded, PhasesStayRecorded}

-- ---- replacements of a settling

-- below the limit a plain step is the replacement
pub plain_one : (g : GraphData) (limit count : ℕ) (old next : List Tern) → count < limit → IsStep g old next → IsReplacement g limit count old next
plain_one g limit count old next less step = subst (λ kind. IsMove kind g old next) (plain_kind limit count less) step

-- and from the limit on a joining one
pub joining_one : (g : GraphData) (limit count : ℕ) (old next : List Tern) → limit ≤ count → IsJoinStep g old next → IsReplacement g limit count old next
joining_one g limit count old next most step = subst (λ kind. IsMove kind g old next) (joining_kind limit count most) step

-- a state at rest is its own replacement, of either kind
pub rest_one : (g : GraphData) (limit count : ℕ) (state : List Tern) → IsStep g state state → IsReplacement g limit count state state
rest_one g limit count state step =
    elim (cases_lt count limit) [
      | inl less ↦ plain_one g limit count state state less step
      | inr most ↦ joining_one g limit count state state most (rest_stays g state step)
    ]

-- at a state at rest joining replacements pass through none
joining_none : (g : GraphData) (old : List Tern) (fading : List (List Tern)) → IsStep g old old → JoiningThrough g old fading → fading ≡ []
joining_none g old [] step joining = refl
joining_none g old (next ∷ fading) step joining = absurd (joining.1 (JoinStep-unique g old next old joining.0 (rest_stays g old step)))

-- each state that joining replacements pass through is the replacement of the one before it
joining_moves : (g : GraphData) (limit taken : ℕ) (old : List Tern) (fading : List (List Tern)) → limit ≤ taken → JoiningThrough g old fading →
    (i : ℕ) → i < length fading → IsReplacement g limit (taken + i) (slice_index_or (old ∷ fading) i []) (slice_index_or fading i [])
joining_moves g limit taken old [] most joining i inside = absurd (omega (arith, inside))
joining_moves g limit taken old (next ∷ fading) most joining zero inside = joining_one g limit (taken + 0) old next (omega (arith, most)) joining.0
joining_moves g limit taken old (next ∷ fading) most joining (suc i) inside =
    let later : suc taken + i ≡ taken + suc i = omega arith in
    subst (λ n. IsReplacement g limit n (slice_index_or (next ∷ fading) i []) (slice_index_or fading i [])) later
    (joining_moves g limit (suc taken) next fading (omega (arith, most)) joining.2 i (omega (arith, inside)))

-- the last of them is its own joining step
joining_rests : (g : GraphData) (old : List Tern) (fading : List (List Tern)) → JoiningThrough g old fading → IsJoinStep g (last_state old fading) (last_state old fading)
joining_rests g old [] joining = joining
joining_rests g old (next ∷ fading) joining = joining_rests g next fading joining.2

-- once so many were taken: each state that plain and then joining replacements pass through is the replacement of the one before it
settling_moves : (g : GraphData) (limit left taken : ℕ) (old : List Tern) (plain fading : List (List Tern)) → taken + left ≡ limit → SteppingThrough g left old plain →
    JoiningThrough g (last_state old plain) fading → (i : ℕ) → i < length (plain ++ fading) →
    IsReplacement g limit (taken + i) (slice_index_or (old ∷ (plain ++ fading)) i []) (slice_index_or (plain ++ fading) i [])
settling_moves g limit zero taken old [] fading whole stepping joining i inside = joining_moves g limit taken old fading (omega (arith, whole)) joining i inside
settling_moves g limit zero taken old (next ∷ plain) fading whole stepping joining i inside = absurd cc
settling_moves g limit (suc left) taken old [] fading whole stepping joining i inside =
    absurd (omega (arith, inside, ap length (joining_none g old fading stepping joining)))
settling_moves g limit (suc left) taken old (next ∷ plain) fading whole stepping joining zero inside =
    plain_one g limit (taken + 0) old next (omega (arith, whole)) stepping.0
settling_moves g limit (suc left) taken old (next ∷ plain) fading whole stepping joining (suc i) inside =
    let later : suc taken + i ≡ taken + suc i = omega arith in
    subst (λ n. IsReplacement g limit n (slice_index_or (next ∷ (plain ++ fading)) i []) (slice_index_or (plain ++ fading) i [])) later
    (settling_moves g limit left (suc taken) next plain fading (omega (arith, whole)) stepping.2 joining i (omega (arith, inside)))

-- and the last of them is its own replacement from then on
settling_rests : (g : GraphData) (limit left taken : ℕ) (old : List Tern) (plain fading : List (List Tern)) → taken + left ≡ limit → SteppingThrough g left old plain →
    JoiningThrough g (last_state old plain) fading → (count : ℕ) → taken + length (plain ++ fading) ≤ count →
    IsReplacement g limit count (last_state old (plain ++ fading)) (last_state old (plain ++ fading))
settling_rests g limit zero taken old [] fading whole stepping joining count most =
    joining_one g limit count (last_state old fading) (last_state old fading) (omega (arith, whole, most)) (joining_rests g old fading joining)
settling_rests g limit zero taken old (next ∷ plain) fading whole stepping joining count most = absurd cc
settling_rests g limit (suc left) taken old [] fading whole stepping joining count most =
    subst (λ states. IsReplacement g limit count (last_state old states) (last_state old states)) (sym (joining_none g old fading stepping joining))
    (rest_one g limit count old stepping)
settling_rests g limit (suc left) taken old (next ∷ plain) fading whole stepping joining count most =
    settling_rests g limit left (suc taken) next plain fading (omega (arith, whole)) stepping.2 joining count (omega (arith, most))

-- ---- where they stand in a record

-- a state behind a unit step, as it is shown
abbrev behind : List Tern → Shown
behind state = record { begins = false; state = state }

-- behind other states the same are there
behind_front : (front rest : List Shown) (j : ℕ) →
    slice_index_or (map (λ (one : Shown). one.state) (front ++ rest)) (length front + j) [] ≡ slice_index_or (map (λ (one : Shown). one.state) rest) j []
behind_front [] rest j =
    let none : 0 + j ≡ j = omega arith in
    ap (λ n. slice_index_or (map (λ (one : Shown). one.state) rest) n []) none
behind_front (first ∷ front) rest j =
    let next : length (first ∷ front) + j ≡ suc (length front + j) = omega arith in
    ap (λ n. slice_index_or (map (λ (one : Shown). one.state) (first ∷ (front ++ rest))) n []) next ∙ behind_front front rest j

-- the states that a phase passes through stand in order
states_there : (states : List (List Tern)) (back : List Shown) (j : ℕ) → j < length states →
    slice_index_or (map (λ (one : Shown). one.state) (map behind states ++ back)) j [] ≡ slice_index_or states j []
states_there [] back j inside = absurd (omega (arith, inside))
states_there (state ∷ states) back zero inside = refl
states_there (state ∷ states) back (suc j) inside = states_there states back j (omega (arith, inside))

-- and in front of them the one with which it begins
pass_there : (pass : Pass) (back : List Shown) (j : ℕ) → j ≤ length pass.states →
    slice_index_or (map (λ (one : Shown). one.state) (shown_by pass ++ back)) j [] ≡ slice_index_or (pass.before ∷ pass.states) j []
pass_there pass back zero inside = refl
pass_there pass back (suc j) inside = states_there pass.states back j (omega (arith, inside))

-- so many looks are those of a phase or a step
pub shown_count : (pass : Pass) → length (shown_by pass) ≡ suc (length pass.states)
shown_count pass = ap suc (length-map pass.states behind)

-- the last of the states is where they lead
last_there : (old : List Tern) (states : List (List Tern)) → slice_index_or (old ∷ states) (length states) [] ≡ last_state old states
last_there old [] = refl
last_there old (next ∷ states) = last_there next states

module _ (run : RunData) (front back : List Shown) (pass : Pass) (is : run.shown ≡ front ++ (shown_by pass ++ back)) where
  -- the states of the record behind the one with which a phase or a step begins
  there : (j : ℕ) → j ≤ length pass.states → state_before run (length front + 1 + j) ≡ slice_index_or (pass.before ∷ pass.states) j []
  there j inside =
      let next : length front + 1 + j ≡ suc (length front + j) = omega arith in
      ap (state_before run) next
      ∙ (ap (λ (shown : List Shown). slice_index_or (map (λ (one : Shown). one.state) shown) (length front + j) []) is
      ∙ (behind_front front (shown_by pass ++ back) j ∙ pass_there pass back j inside))

  -- there are as many looks at least
  enough : length front + 1 + length pass.states ≤ length run.shown
  enough =
      omega (arith, ap length is, length-append front (shown_by pass ++ back), length-append (shown_by pass) back, shown_count pass)

  -- the state behind them is where the phase or the step leads
  pub ends_there : state_before run (length front + 1 + length pass.states) ≡ last_state pass.before pass.states
  ends_there = there (length pass.states) (omega arith) ∙ last_there pass.before pass.states

  -- the one before them is the one with which it begins
  pub begins_there : state_before run (length front + 1) ≡ pass.before
  begins_there =
      let none : length front + 1 ≡ length front + 1 + 0 = omega arith in
      ap (state_before run) none ∙ there 0 (omega arith)

pub phases_recorded : PhasesAreRecorded
phases_recorded g limit run front back pass joined is settles = record {
  ordered = omega arith;
  inside = enough run front back pass is;
  moves = λ i less.
      let inside : i < length pass.states = omega (arith, less) in
      let none : 0 + i ≡ i = omega arith in
      let next : length front + 1 + i + 1 ≡ length front + 1 + suc i = omega arith in
      let moved = subst (λ n. IsReplacement g limit n (slice_index_or (pass.before ∷ pass.states) i []) (slice_index_or pass.states i [])) none (moves i inside) in
      subst (IsReplacement g limit i (state_before run (length front + 1 + i)))
      (sym (ap (state_before run) next ∙ there run front back pass is (suc i) (omega (arith, inside))))
      (subst (λ state. IsReplacement g limit i state (slice_index_or pass.states i [])) (sym (there run front back pass is i (omega (arith, inside)))) moved);
  stays = λ count most.
      subst (λ state. IsReplacement g limit count state state) (sym (ends_there run front back pass is)) (rests count (omega (arith, most)));
}
  where
    moves : (i : ℕ) → i < length pass.states → IsReplacement g limit (0 + i) (slice_index_or (pass.before ∷ pass.states) i []) (slice_index_or pass.states i [])
    moves =
        subst (λ (states : List (List Tern)). (i : ℕ) → i < length states →
        IsReplacement g limit (0 + i) (slice_index_or (pass.before ∷ states) i []) (slice_index_or states i [])) (sym settles.total)
        (settling_moves g limit limit 0 pass.before settles.plain settles.fading (omega arith) settles.stepping settles.joining)

    rests : (count : ℕ) → 0 + length pass.states ≤ count → IsReplacement g limit count (last_state pass.before pass.states) (last_state pass.before pass.states)
    rests =
        subst (λ (states : List (List Tern)). (count : ℕ) → 0 + length states ≤ count →
        IsReplacement g limit count (last_state pass.before states) (last_state pass.before states)) (sym settles.total)
        (settling_rests g limit limit 0 pass.before settles.plain settles.fading (omega arith) settles.stepping settles.joining)

-- a unit step passes through its state if that is another one, and leads to it
one_step : (g : GraphData) (old : List Tern) (states : List (List Tern)) → SteppingThrough g 1 old states → (length states ≤ 1) × IsStep g old (last_state old states)
one_step g old [] stepping = (omega arith, stepping)
one_step g old (next ∷ []) stepping = (omega arith, stepping.0)
one_step g old (next ∷ (more ∷ states)) stepping = absurd (cc (stepping.2))

pub steps_recorded : StepsAreRecorded
steps_recorded g run front back pass is stepping =
    let (few, step) = one_step g pass.before pass.states stepping in
    record {
      ordered = omega arith;
      few = omega (arith, few);
      inside = enough run front back pass is;
      step = subst (λ state. IsStep g state (state_before run (length front + 1 + length pass.states))) (sym (begins_there run front back pass is))
          (subst (IsStep g pass.before) (sym (ends_there run front back pass is)) step);
    }

-- ---- a record that goes on

-- in front of other states the same are there
before_back : (front back : List Shown) (start : List Tern) (i : ℕ) → i ≤ length front →
    slice_index_or (start ∷ map (λ (one : Shown). one.state) (front ++ back)) i [] ≡ slice_index_or (start ∷ map (λ (one : Shown). one.state) front) i []
before_back front back start zero inside = refl
before_back [] back start (suc i) inside = absurd (omega (arith, inside))
before_back (first ∷ front) back start (suc i) inside = before_back front back first.state i (omega (arith, inside))

-- the states up to what was shown stay
pub state_stays : (run new : RunData) (more : List Shown) → new.start ≡ run.start → new.shown ≡ run.shown ++ more → (i : ℕ) → i ≤ length run.shown →
    state_before new i ≡ state_before run i
state_stays run new more start shown i inside =
    ap (λ (state : List Tern). slice_index_or (state ∷ map (λ (one : Shown). one.state) new.shown) i []) start
    ∙ (ap (λ (list : List Shown). slice_index_or (run.start ∷ map (λ (one : Shown). one.state) list) i []) shown ∙ before_back run.shown more run.start i inside)

pub phases_stay : PhasesStayRecorded
phases_stay g limit run new more first end start shown phase =
    let stays = state_stays run new more start shown in
    record {
      ordered = phase.ordered;
      inside = omega (arith, phase.inside, ap length shown, length-append run.shown more);
      moves = λ i less.
          subst (IsReplacement g limit i (state_before new (first + i))) (sym (stays (first + i + 1) (omega (arith, less, phase.inside))))
          (subst (λ state. IsReplacement g limit i state (state_before run (first + i + 1))) (sym (stays (first + i) (omega (arith, less, phase.inside)))) (phase.moves i less));
      stays = λ count most. subst (λ state. IsReplacement g limit count state state) (sym (stays end phase.inside)) (phase.stays count most);
    }
