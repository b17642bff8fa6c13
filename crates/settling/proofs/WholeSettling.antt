-- A settling from its two loops: what was seen of both, and what follows a look that fails.
use Rattle.std.proofs.Common.{◌≡◌, ℕ, zero, suc, ◌+◌, ◌<◌, ◌↔◌, Bool, false, IsTrue, nat_lt, List, [], ◌∷◌, ◌++◌, length, refl, sym, ◌∙◌, arith, subst}
use Rattle.std.proofs.lemmas.List.{length-append, append_assoc, append-nil}
use Rattle.std.proofs.lemmas.Bool.Decides.{nat_tests}
use Rattle.ternary.specs.declared.tern.Tern.{Tern}
use Rattle.switch_paths.specs.Graphs.{GraphData, IsWired, nodes}
use Rattle.switch_paths.specs.Step.{IsStep}
use Rattle.settling.specs.Settling.{Settles}
use Rattle.settling.specs.Passing.{last_state, SteppingThrough, JoiningThrough, SettlesThrough}
use Rattle.settling.specs.Observing.{IsSeen, IsStopped, StepsSeen, StepsStopped, JoinsSeen, JoinsStopped}
use Rattle.settling.specs.declared.settling.Settled.{Settled}
use Rattle.settling.proofs.KnownStates.{known_storage}
use Rattle.settling.proofs.SettlingExists.{stepping, joining, mark_of}
use Rattle.settling.proofs.SettlingLemmas.{Stepping-steady, Joining-steady}
use Rattle.settling.proofs.PassingLemmas.{last_state-append, see_all-append, through_stepping, through_joining, passing_settles, stepping_of}

-- the test whether there was a joining step
pub above_none : (two : ℕ) → IsTrue (nat_lt 0 two) ↔ (0 < two)
above_none zero = ((λ yes. absurd cc), (λ more. absurd (omega (arith, more))))
above_none (suc two) = ((λ yes. omega arith), (λ more. grind (arith, nat_tests, more)))

-- a state has joining replacements that it passes through
joins_on : (g : GraphData) → IsWired g → (old : List Tern) → length old ≡ nodes g →
    (states : List (List Tern)) × JoiningThrough g old states
joins_on g wired old fits =
    let goes = joining g wired (known_storage g old + 1) old fits (omega arith) in
    let through = through_joining g old goes.0 goes.1 goes.2 in
    (through.0, through.1)

-- it settles through the states of both loops
of_both : (g : GraphData) (limit : ℕ) (old : List Tern) (plain fading : List (List Tern)) → SteppingThrough g limit old plain →
    JoiningThrough g (last_state old plain) fading → (joined : Bool) × SettlesThrough g old limit (plain ++ fading) joined
of_both g limit old plain fading first second =
    let mark = mark_of (length fading) in
    (mark.0, record { plain = plain; fading = fading; stepping = first; joining = second; total = refl; was_joined = mark.1 })

module _ {S : Type 0} (see : S → List Tern → S) (g : GraphData) (limit : ℕ) (old : List Tern) (before : S) where
  -- a steady state before the limit: no joining step
  pub seen_steady : (count : ℕ) (new : List Tern) (after : S) → count < limit →
      StepsSeen see g limit old count new before after →
      IsSeen see g old limit new (record { steps = count; joined = false }) before after
  seen_steady count new after fewer first =
      let steps = stepping_of g limit old first.passed first.passes in
      let few : length first.passed < limit = omega (arith, first.count_is) in
      let steady : IsStep g (last_state old first.passed) (last_state old first.passed) =
      Stepping-steady g limit old (length first.passed) (last_state old first.passed) steps few in
      record {
        passed = first.passed;
        settles = record {
          plain = first.passed;
          fading = [];
          stepping = first.passes;
          joining = (Joining-steady g (last_state old first.passed) steady).0;
          total = sym (append-nil first.passed);
          was_joined = ((λ yes. absurd cc), (λ more. absurd (omega (arith, more))));
        };
        last = first.last;
        count = first.count_is;
        seen = first.seen;
      }

  -- the limit was reached: joining steps follow
  pub seen_both : (one two : ℕ) (mid_state new : List Tern) (mid after : S) (joined : Bool) → (IsTrue joined ↔ (0 < two)) →
      StepsSeen see g limit old one mid_state before mid → JoinsSeen see g mid_state two new mid after →
      IsSeen see g old limit new (record { steps = one + two; joined = joined }) before after
  seen_both one two mid_state new mid after joined mark first second = record {
    passed = first.passed ++ second.passed;
    settles = record {
      plain = first.passed;
      fading = second.passed;
      stepping = first.passes;
      joining = rw (← first.last) second.passes;
      total = refl;
      was_joined = rw (← second.count_is) mark;
    };
    last = rw (last_state-append old first.passed second.passed) (rw (← first.last) second.last);
    count = omega (arith, first.count_is, second.count_is, length-append first.passed second.passed);
    seen = rw (see_all-append see before first.passed second.passed) (rw (← first.seen) second.seen);
  }

  -- what was seen says where it settles
  pub settles_seen : (new : List Tern) (settled : Settled) (after : S) → IsSeen see g old limit new settled before after →
      Settles g old limit new settled.steps settled.joined
  settles_seen new settled after seen =
      let whole = passing_settles g old limit seen.passed settled.joined seen.settles in
      rw seen.last (rw seen.count whole)

module _ {O S F : Type 0} (see : S → List Tern → S) (seen : O → S) (fixed : O → F) (Part : O → List Tern → Type 0)
    (g : GraphData) (wired : IsWired g) (limit : ℕ) (old new : List Tern) where
  -- a look at a unit step failed: unit steps and then joining steps were to follow
  pub stopped_first : (before : O) → StepsStopped see seen fixed Part g limit old new before →
      IsStopped see seen fixed Part g old limit new before
  stopped_first before stopped =
      let goes = stepping g wired stopped.left new stopped.count in
      let more = through_stepping g stopped.left new goes.0 goes.1 goes.2 in
      let joins = joins_on g wired goes.1 goes.3 in
      let plain = stopped.front ++ new ∷ more.0 in
      let last : goes.1 ≡ last_state old plain = more.2 ∙ sym (last_state-append old stopped.front (new ∷ more.0)) in
      let whole = of_both g limit old plain joins.0 (stopped.follow more.0 more.1) (rw (← last) joins.1) in
      record {
        front = stopped.front;
        rest = more.0 ++ joins.0;
        joined = whole.0;
        settles = subst (λ states. SettlesThrough g old limit states whole.0) (append_assoc stopped.front (new ∷ more.0) joins.0) whole.1;
        mid = stopped.mid;
        seen_is = stopped.seen_is;
        fixed_is = stopped.fixed_is;
        part = stopped.part;
      }

  -- a look at a joining step failed: joining steps were to follow
  pub stopped_second : (before between : O) (one : ℕ) (mid_state : List Tern) →
      StepsSeen see g limit old one mid_state (seen before) (seen between) → fixed between ≡ fixed before →
      JoinsStopped see seen fixed Part g mid_state new between →
      IsStopped see seen fixed Part g old limit new before
  stopped_second before between one mid_state first kept stopped =
      let more = joins_on g wired new stopped.count in
      let fading = stopped.front ++ new ∷ more.0 in
      let joins = stopped.follow more.0 more.1 in
      let whole = of_both g limit old first.passed fading first.passes (rw (← first.last) joins) in
      record {
        front = first.passed ++ stopped.front;
        rest = more.0;
        joined = whole.0;
        settles = subst (λ states. SettlesThrough g old limit states whole.0)
            (sym (append_assoc first.passed stopped.front (new ∷ more.0))) whole.1;
        mid = stopped.mid;
        seen_is = stopped.seen_is ∙ (rw first.seen (sym (see_all-append see (seen before) first.passed stopped.front)));
        fixed_is = stopped.fixed_is ∙ kept;
        part = stopped.part;
      }
