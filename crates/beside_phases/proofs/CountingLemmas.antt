-- Replacements that each change something are a settling once the next one changes nothing; and what is counted and shown of them.
use Rattle.std.proofs.Common.{◌≡◌, ◌≢◌, ℕ, zero, suc, ◌+◌, ◌-◌, ◌<◌, ◌≤◌, ◌↔◌, inl, inr, Bool, true, false, not, nat_lt, IsTrue, List, [], ◌∷◌, ◌++◌, length, refl, sym, ap, subst, ◌∙◌, true≢false, arith, rules}
use Rattle.std.specs.Bool.{OnTrue, OnFalse}
use Rattle.std.proofs.lemmas.Bool.{cases_lt, lt-ltb, le-ltb, OnTrue_at, OnFalse_at}
use Rattle.std.proofs.lemmas.List.{length-append}
use Rattle.ternary.specs.declared.tern.Tern.{Tern}
use Rattle.switch_paths.specs.Graphs.{GraphData, IsWired}
use Rattle.switch_paths.proofs.UniqueSteps.{unique}
use Rattle.settling.specs.Passing.{SteppingThrough, JoiningThrough, SettlesThrough, last_state, see_all}
use Rattle.settling.proofs.PassingLemmas.{last_state-append, see_all-append}
use Rattle.settling.proofs.UniqueSettling.{JoinStep-unique}
use Rattle.part_words.specs.declared.change.Change.{Change}
use Rattle.machine_parts.specs.Running.{IsTaken}
use Rattle.machine_laws.specs.Machines.{MachineData, KeepsBuild, KeepsParts}
use Rattle.run_beside.specs.Agreeing.{IsMove}
use Rattle.run_beside.specs.Replacing.{IsReplacement}
use Rattle.run_beside.proofs.RestingRuns.{rest_stays}
use Rattle.run_beside.proofs.CountedReplacements.{is_plain, is_joining}
use Rattle.unit_step.specs.Beside.{AdvancesBeside, KeepsPartsApart}
use Rattle.beside.specs.Fitting.{FitsBeside}
use Rattle.beside.proofs.BesideFits.{steps_fit_beside}
use Rattle.beside_phases.specs.Counting.{MovingThrough, PassesBeside, CountsBeside, SettlesSeen}
use Rattle.beside_phases.proofs.RecordedLemmas.{joining_one, rest_one}

-- ---- replacements of one graph

-- a state that is its own replacement is so from then on
pub rest_later : (g : GraphData) (limit count later : ℕ) (state : List Tern) → count ≤ later → IsReplacement g limit count state state →
    IsReplacement g limit later state state
rest_later g limit count later state most rest =
    elim (cases_lt count limit) [
      | inl less ↦ rest_one g limit later state (is_plain g limit count state state less rest)
      | inr high ↦ joining_one g limit later state state (omega (arith, most, high)) (is_joining g limit count state state high rest)
    ]

-- a state has one replacement of a number
pub replaced_once : (g : GraphData) (limit count : ℕ) (old one two : List Tern) → IsReplacement g limit count old one → IsReplacement g limit count old two →
    one ≡ two
replaced_once g limit count old one two first then =
    elim (cases_lt count limit) [
      | inl less ↦ unique g old one two (is_plain g limit count old one less first) (is_plain g limit count old two less then)
      | inr most ↦ JoinStep-unique g old one two (is_joining g limit count old one most first) (is_joining g limit count old two most then)
    ]

-- one state more is passed through
pub moving-push : (g : GraphData) (limit taken : ℕ) (old : List Tern) (passed : List (List Tern)) (next : List Tern) → MovingThrough g limit taken old passed →
    IsReplacement g limit (taken + length passed) (last_state old passed) next → next ≢ last_state old passed →
    MovingThrough g limit taken old (passed ++ next ∷ [])
moving-push g limit taken old [] next moving move differs =
    let none : taken + 0 ≡ taken = omega arith in
    (subst (λ n. IsReplacement g limit n old next) none move, differs, tt)
moving-push g limit taken old (first ∷ passed) next moving move differs =
    let so_many : taken + length (first ∷ passed) ≡ suc taken + length passed = omega arith in (
      moving.0,
      moving.1,
      moving-push g limit (suc taken) first passed next moving.2
          (subst (λ n. IsReplacement g limit n (last_state first passed) next) so_many move) differs,
    )

-- and several more
pub moving-append : (g : GraphData) (limit taken : ℕ) (old : List Tern) (front back : List (List Tern)) → MovingThrough g limit taken old front →
    MovingThrough g limit (taken + length front) (last_state old front) back → MovingThrough g limit taken old (front ++ back)
moving-append g limit taken old [] back one two =
    let none : taken + 0 ≡ taken = omega arith in
    subst (λ n. MovingThrough g limit n old back) none two
moving-append g limit taken old (first ∷ front) back one two =
    let so_many : taken + length (first ∷ front) ≡ suc taken + length front = omega arith in (
      one.0,
      one.1,
      moving-append g limit (suc taken) first front back one.2
          (subst (λ n. MovingThrough g limit n (last_state first front) back) so_many two),
    )

-- from the limit on they are joining replacements, which end in the last of them
joins_through : (g : GraphData) (limit taken : ℕ) (old : List Tern) (passed : List (List Tern)) → limit ≤ taken → MovingThrough g limit taken old passed →
    IsReplacement g limit (taken + length passed) (last_state old passed) (last_state old passed) → JoiningThrough g old passed
joins_through g limit taken old [] most moving rest = is_joining g limit (taken + 0) old old (omega (arith, most)) rest
joins_through g limit taken old (next ∷ passed) most moving rest =
    let so_many : taken + length (next ∷ passed) ≡ suc taken + length passed = omega arith in (
      is_joining g limit taken old next most moving.0,
      moving.1,
      joins_through g limit (suc taken) next passed (omega (arith, most)) moving.2
          (subst (λ n. IsReplacement g limit n (last_state next passed) (last_state next passed)) so_many rest),
    )

-- plain replacements, while some are left of the limit, and joining ones behind them
record Parted (g : GraphData) (limit left taken : ℕ) (old : List Tern) (passed : List (List Tern)) : Type 0 where
  plain : List (List Tern)
  fading : List (List Tern)
  stepping : SteppingThrough g left old plain
  joining : JoiningThrough g (last_state old plain) fading
  total : passed ≡ plain ++ fading
  number : length fading ≡ (taken + length passed) - limit

-- so they are parted
parted : (g : GraphData) (limit left taken : ℕ) (old : List Tern) (passed : List (List Tern)) → taken + left ≡ limit → MovingThrough g limit taken old passed →
    IsReplacement g limit (taken + length passed) (last_state old passed) (last_state old passed) → Parted g limit left taken old passed
parted g limit zero taken old passed whole moving rest = record {
  plain = [];
  fading = passed;
  stepping = refl;
  joining = joins_through g limit taken old passed (omega (arith, whole)) moving rest;
  total = refl;
  number = omega (arith, whole);
}
parted g limit (suc left) taken old [] whole moving rest =
    let none : taken + 0 ≡ taken = omega arith in
    let step = is_plain g limit taken old old (omega (arith, whole)) (subst (λ n. IsReplacement g limit n old old) none rest) in
    record { plain = []; fading = []; stepping = step; joining = rest_stays g old step; total = refl; number = omega (arith, whole) }
parted g limit (suc left) taken old (next ∷ passed) whole moving rest =
    let so_many : taken + length (next ∷ passed) ≡ suc taken + length passed = omega arith in
    let deeper = parted g limit left (suc taken) next passed (omega (arith, whole)) moving.2
    (subst (λ n. IsReplacement g limit n (last_state next passed) (last_state next passed)) so_many rest) in
    record {
      plain = next ∷ deeper.plain;
      fading = deeper.fading;
      stepping = (is_plain g limit taken old next (omega (arith, whole)) moving.0, moving.1, deeper.stepping);
      joining = deeper.joining;
      total = ap (λ states. next ∷ states) deeper.total;
      number = omega (arith, deeper.number);
    }

-- whether more than the limit were taken is whether there was a joining one
joined_above : (limit count fading : ℕ) → fading ≡ count - limit → IsTrue (nat_lt limit count) ↔ (0 < fading)
joined_above limit count fading is =
    elim (cases_lt limit count) [
      | inl less ↦
          let above = lt-ltb limit count less in
          ((λ yes. omega (arith, is, less)), (λ more. subst IsTrue (sym above) (search rules)))
      | inr most ↦
          let below = le-ltb limit count most in
          ((λ yes. absurd (true≢false (sym (subst IsTrue below yes)))), (λ more. absurd (omega (arith, more, is, most))))
    ]

-- replacements that each change something settle, if the last state is its own replacement
pub moving_settles : (g : GraphData) (limit : ℕ) (old : List Tern) (passed : List (List Tern)) → MovingThrough g limit 0 old passed →
    IsReplacement g limit (length passed) (last_state old passed) (last_state old passed) → SettlesThrough g old limit passed (nat_lt limit (length passed))
moving_settles g limit old passed moving rest =
    let none : length passed ≡ 0 + length passed = omega arith in
    let parts = parted g limit limit 0 old passed (omega arith) moving
    (subst (λ n. IsReplacement g limit n (last_state old passed) (last_state old passed)) none rest) in
    record {
      plain = parts.plain;
      fading = parts.fading;
      stepping = parts.stepping;
      joining = parts.joining;
      total = parts.total;
      was_joined = joined_above limit (length passed) (length parts.fading) (omega (arith, parts.number));
    }

-- ---- what stays of the machine

pub build_on : (old mid new : MachineData) → KeepsBuild old mid → KeepsBuild mid new → KeepsBuild old new
build_on old mid new one two = record { groups = two.groups ∙ one.groups; last = two.last ∙ one.last; spare = two.spare ∙ one.spare }

pub held_on : (old mid new : MachineData) → KeepsParts old mid → KeepsParts mid new → KeepsParts old new
held_on old mid new one two = record { parts = two.parts ∙ one.parts; uses = two.uses ∙ one.uses; texts = two.texts ∙ one.texts }

-- ---- steps beside the good run

-- a step beside the good run is a replacement of the fault's graph, of the kind that its number says, and the machine fits beside the good run again
pub replaced : (g h : GraphData) (wired : IsWired g) (wired_too : IsWired h) (limit n : ℕ) (mid new : MachineData) (good good_next : List Tern)
    (apart new_apart : List Bool) (changes : List Change) (joining : Bool) → joining ≡ not (nat_lt n limit) → FitsBeside g h good apart mid →
    IsMove joining g good good_next → IsTaken changes good good_next → AdvancesBeside joining changes apart new_apart mid new →
    KeepsPartsApart new.parts new_apart good_next new.state →
    IsReplacement h limit n mid.state new.state × FitsBeside g h good_next new_apart new
replaced g h wired wired_too limit n mid new good good_next apart new_apart changes joining kind fits move taken advances kept =
    let (step, fit) = steps_fit_beside joining g h good good_next changes apart new_apart mid new wired wired_too fits move taken advances kept in
    (subst (λ k. IsMove k h mid.state new.state) kind step, fit)

module _ {S : Type 0} (see : S → List Tern → S) (g h : GraphData) (limit : ℕ) where
  -- nothing was taken yet
  pub passes_none : (taken : ℕ) (m : MachineData) (good : List Tern) (apart : List Bool) (before : S) → FitsBeside g h good apart m →
      PassesBeside see g h limit taken taken m m good apart before before
  passes_none taken m good apart before fits = record {
    fits = fits;
    build = record { groups = refl; last = refl; spare = refl };
    held = record { parts = refl; uses = refl; texts = refl };
    passed = [];
    moving = tt;
    last = refl;
    number = omega arith;
    seen = refl;
  }

  module _ (taken count : ℕ) (old mid new : MachineData) (good good_next : List Tern) (apart new_apart : List Bool) (changes : List Change) (joining : Bool)
      (before after : S) (so_far : PassesBeside see g h limit taken count old mid good apart before after) (fits : FitsBeside g h good_next new_apart new)
      (advances : AdvancesBeside joining changes apart new_apart mid new) where
    -- one more that changes something, and is shown
    pub passes_more : (later : S) → IsReplacement h limit count mid.state new.state → new.state ≢ mid.state → later ≡ see after new.state →
        PassesBeside see g h limit taken (count + 1) old new good_next new_apart before later
    passes_more later move differs is = record {
      fits = fits;
      build = build_on old mid new so_far.build advances.build;
      held = held_on old mid new so_far.held advances.held;
      passed = so_far.passed ++ new.state ∷ [];
      moving = moving-push h limit taken old.state so_far.passed new.state so_far.moving
          (subst (λ state. IsReplacement h limit (taken + length so_far.passed) state new.state) so_far.last
          (subst (λ n. IsReplacement h limit n mid.state new.state) so_far.number move))
          (λ same. differs (same ∙ sym so_far.last));
      last = sym (last_state-append old.state so_far.passed (new.state ∷ []));
      number = omega (arith, so_far.number, length-append so_far.passed (new.state ∷ []));
      seen = is ∙ (ap (λ seen. see seen new.state) so_far.seen ∙ sym (see_all-append see before so_far.passed (new.state ∷ [])));
    }

    -- one more that changes nothing
    pub passes_same : (later : S) → new.state ≡ mid.state → later ≡ after → PassesBeside see g h limit taken count old new good_next new_apart before later
    passes_same later same is = record {
      fits = fits;
      build = build_on old mid new so_far.build advances.build;
      held = held_on old mid new so_far.held advances.held;
      passed = so_far.passed;
      moving = so_far.moving;
      last = same ∙ so_far.last;
      number = so_far.number;
      seen = is ∙ so_far.seen;
    }

  -- some and then others
  pub passes_then : (taken middle count : ℕ) (old mid new : MachineData) (good good_new : List Tern) (apart apart_new : List Bool) (before between after : S) →
      PassesBeside see g h limit taken middle old mid good apart before between → PassesBeside see g h limit middle count mid new good_new apart_new between after →
      PassesBeside see g h limit taken count old new good_new apart_new before after
  passes_then taken middle count old mid new good good_new apart apart_new before between after one two = record {
    fits = two.fits;
    build = build_on old mid new one.build two.build;
    held = held_on old mid new one.held two.held;
    passed = one.passed ++ two.passed;
    moving = moving-append h limit taken old.state one.passed two.passed one.moving
        (subst (λ state. MovingThrough h limit (taken + length one.passed) state two.passed) one.last
        (subst (λ n. MovingThrough h limit n mid.state two.passed) one.number two.moving));
    last = two.last ∙ (ap (λ state. last_state state two.passed) one.last ∙ sym (last_state-append old.state one.passed two.passed));
    number = omega (arith, one.number, two.number, length-append one.passed two.passed);
    seen = two.seen ∙ (ap (λ seen. see_all see seen two.passed) one.seen ∙ sym (see_all-append see before one.passed two.passed));
  }

  -- what passed through states from the beginning of a phase to one that is its own replacement settled
  pub settles_seen : (count : ℕ) (old new : MachineData) (good : List Tern) (apart : List Bool) (before after : S) →
      PassesBeside see g h limit 0 count old new good apart before after → IsReplacement h limit count new.state new.state → (steps : ℕ) (joined : Bool) →
      steps ≡ count → joined ≡ nat_lt limit count → SettlesSeen see g h limit steps joined old new good apart before after
  settles_seen count old new good apart before after passes rest steps joined steps_are joined_is =
      let so_many : count ≡ length passes.passed = omega (arith, passes.number) in
      record {
        fits = passes.fits;
        build = passes.build;
        held = passes.held;
        passed = passes.passed;
        through = subst (SettlesThrough h old.state limit passes.passed) (sym (joined_is ∙ ap (nat_lt limit) so_many))
            (moving_settles h limit old.state passes.passed passes.moving
            (subst (λ n. IsReplacement h limit n (last_state old.state passes.passed) (last_state old.state passes.passed)) so_many
            (subst (λ state. IsReplacement h limit count state state) passes.last rest)));
        last = passes.last;
        number = steps_are ∙ so_many;
        seen = passes.seen;
      }

  -- ---- counted

  -- nothing was taken yet
  pub counts_none : (m : MachineData) (good : List Tern) (apart : List Bool) (before : S) → FitsBeside g h good apart m →
      CountsBeside see g h limit 0 0 m m good apart before before
  counts_none m good apart before fits =
      record { passes = passes_none 0 m good apart before fits; few = omega arith; rests = λ less. absurd (omega (arith, less)) }

  module _ (count moved : ℕ) (old mid new : MachineData) (good good_next : List Tern) (apart new_apart : List Bool) (changes : List Change) (joining : Bool)
      (before after : S) (so_far : CountsBeside see g h limit count moved old mid good apart before after) (fits : FitsBeside g h good_next new_apart new)
      (advances : AdvancesBeside joining changes apart new_apart mid new) (move : IsReplacement h limit count mid.state new.state) where
    -- one that changes something has none before it that changed nothing
    all_moved : new.state ≢ mid.state → moved ≡ count
    all_moved differs =
        elim (cases_lt moved count) [
          | inl less ↦
              absurd (differs (replaced_once h limit count mid.state new.state mid.state move
              (rest_later h limit moved count mid.state so_far.few (so_far.rests less))))
          | inr most ↦ omega (arith, most, so_far.few)
        ]

    -- behind one that changes nothing the state is its own replacement
    rests_now : new.state ≡ mid.state → IsReplacement h limit moved new.state new.state
    rests_now same =
        elim (cases_lt moved count) [
          | inl less ↦ subst (λ state. IsReplacement h limit moved state state) (sym same) (so_far.rests less)
          | inr most ↦
              let all : count ≡ moved = omega (arith, most, so_far.few) in
              subst (λ n. IsReplacement h limit n new.state new.state) all (subst (λ state. IsReplacement h limit count state new.state) (sym same) move)
        ]

    -- one more
    pub counts_more : (changed : Bool) (later : S) (new_moved : ℕ) → OnTrue changed (new.state ≢ mid.state) → OnFalse changed (new.state ≡ mid.state) →
        OnTrue changed (later ≡ see after new.state) → OnFalse changed (later ≡ after) → OnTrue changed (new_moved ≡ moved + 1) →
        OnFalse changed (new_moved ≡ moved) → CountsBeside see g h limit (count + 1) new_moved old new good_next new_apart before later
    counts_more true later new_moved differs same seen unseen more none =
        let all = all_moved (OnTrue_at refl differs) in
        let next = OnTrue_at refl more in
        record {
          passes = subst (λ n. PassesBeside see g h limit 0 n old new good_next new_apart before later) (sym next)
              (passes_more 0 moved old mid new good good_next apart new_apart changes joining before after so_far.passes fits advances later
              (subst (λ n. IsReplacement h limit n mid.state new.state) (sym all) move) (OnTrue_at refl differs) (OnTrue_at refl seen));
          few = omega (arith, next, so_far.few);
          rests = λ less. absurd (omega (arith, less, next, all));
        }
    counts_more false later new_moved differs same seen unseen more none =
        let stays = OnFalse_at refl none in
        record {
          passes = subst (λ n. PassesBeside see g h limit 0 n old new good_next new_apart before later) (sym stays)
              (passes_same 0 moved old mid new good good_next apart new_apart changes joining before after so_far.passes fits advances later
              (OnFalse_at refl same) (OnFalse_at refl unseen));
          few = omega (arith, stays, so_far.few);
          rests = λ less. subst (λ n. IsReplacement h limit n new.state new.state) (sym stays) (rests_now (OnFalse_at refl same));
        }
