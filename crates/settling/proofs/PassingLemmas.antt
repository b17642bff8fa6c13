-- The states that are passed through: they agree with settling, are these alone, and there always are some.
use Rattle.std.proofs.Common.{◌≡◌, ℕ, zero, suc, inl, inr, List, [], ◌∷◌, ◌++◌, length, refl, sym, ◌∙◌, ap, arith}
use Rattle.std.proofs.lemmas.List.{length-append}
use Rattle.ternary.specs.declared.tern.Tern.{Tern}
use Rattle.switch_paths.specs.Graphs.{GraphData}
use Rattle.switch_paths.proofs.UniqueSteps.{unique}
use Rattle.settling.specs.Settling.{Stepping, Joining}
use Rattle.settling.specs.Passing.{last_state, SteppingThrough, JoiningThrough, see_all}
use Rattle.settling.specs.PassingLaws.{PassingSettles, SettlingPasses, PassingIsUnique, EveryStatePasses}
use Rattle.settling.proofs.UniqueSettling.{JoinStep-unique, same_joined}
use Rattle.settling.proofs.SettlingExists.{every_state}

-- the last of two lists of states is that of the second after that of the first
pub last_state-append : (old : List Tern) (front rest : List (List Tern)) →
    last_state old (front ++ rest) ≡ last_state (last_state old front) rest
last_state-append old [] rest = refl
last_state-append old (state ∷ front) rest = last_state-append state front rest

-- what is seen of two lists is what is seen of the second after the first
pub see_all-append : {S : Type 0} → (see : S → List Tern → S) (before : S) (front rest : List (List Tern)) →
    see_all see before (front ++ rest) ≡ see_all see (see_all see before front) rest
see_all-append see before [] rest = refl
see_all-append see before (state ∷ front) rest = see_all-append see (see before state) front rest

-- plain replacements that pass through states are as many, and lead to the last
pub stepping_of : (g : GraphData) (limit : ℕ) (old : List Tern) (states : List (List Tern)) →
    SteppingThrough g limit old states → Stepping g limit old (length states) (last_state old states)
stepping_of g zero old [] steps = (refl, refl)
stepping_of g zero old (next ∷ states) steps = absurd cc
stepping_of g (suc left) old [] steps = (old, steps, inl (refl, refl, refl))
stepping_of g (suc left) old (next ∷ states) steps =
    (next, steps.0, inr (steps.1, (length states, omega arith, stepping_of g left next states steps.2)))

-- and plain replacements pass through states
pub through_stepping : (g : GraphData) (limit : ℕ) (old : List Tern) (count : ℕ) (new : List Tern) →
    Stepping g limit old count new →
    (states : List (List Tern)) × SteppingThrough g limit old states × (new ≡ last_state old states) × (count ≡ length states)
through_stepping g zero old count new steps = ([], refl, steps.1, steps.0)
through_stepping g (suc left) old count new steps =
    elim steps.2 [
      | inl rests ↦ ([], (rw rests.0 at steps.1), rests.2, rests.1)
      | inr moves ↦
          let rest = through_stepping g left steps.0 moves.1.0 new moves.1.2 in
          (steps.0 ∷ rest.0, (steps.1, moves.0, rest.1), rest.2, omega (arith, moves.1.1, rest.3))
    ]

joining_of : (g : GraphData) (old : List Tern) (states : List (List Tern)) →
    JoiningThrough g old states → Joining g old (length states) (last_state old states)
joining_of g old [] steps = (steps, refl)
joining_of g old (next ∷ states) steps = (next, steps.0, steps.1, joining_of g next states steps.2)

pub through_joining : (g : GraphData) (old : List Tern) (count : ℕ) (new : List Tern) → Joining g old count new →
    (states : List (List Tern)) × JoiningThrough g old states × (new ≡ last_state old states) × (count ≡ length states)
through_joining g old zero new steps = ([], steps.0, steps.1, refl)
through_joining g old (suc count) new steps =
    let rest = through_joining g steps.0 count new steps.3 in
    (steps.0 ∷ rest.0, (steps.1, steps.2, rest.1), rest.2, ap suc rest.3)

-- the states say where it settles
pub passing_settles : PassingSettles
passing_settles g old limit passed joined through = record {
  first = length through.plain;
  second = length through.fading;
  mid = last_state old through.plain;
  stepping = stepping_of g limit old through.plain through.stepping;
  joining = rw through.total (rw (last_state-append old through.plain through.fading)
      (joining_of g (last_state old through.plain) through.fading through.joining));
  total = rw through.total (length-append through.plain through.fading);
  was_joined = through.was_joined;
}

-- and whatever settles passes through states
pub settling_passes : SettlingPasses
settling_passes g old limit new steps joined settles =
    let first = through_stepping g limit old settles.first settles.mid settles.stepping in
    let second = through_joining g settles.mid settles.second new settles.joining in (
      first.0 ++ second.0,
      record {
        plain = first.0;
        fading = second.0;
        stepping = first.1;
        joining = rw (← first.2) second.1;
        total = refl;
        was_joined = rw (← second.3) settles.was_joined;
      },
      rw (last_state-append old first.0 second.0) (rw (← first.2) second.2),
      rw (length-append first.0 second.0) (omega (arith, settles.total, first.3, second.3)),
    )

-- plain replacements pass through one list of states
pub stepping_unique : (g : GraphData) (limit : ℕ) (old : List Tern) (states other : List (List Tern)) →
    SteppingThrough g limit old states → SteppingThrough g limit old other → states ≡ other
stepping_unique g zero old states other one two = one ∙ sym two
stepping_unique g (suc left) old [] [] one two = refl
stepping_unique g (suc left) old [] (next ∷ other) one two = absurd (two.1 (unique g old next old two.0 one))
stepping_unique g (suc left) old (next ∷ states) [] one two = absurd (one.1 (unique g old next old one.0 two))
stepping_unique g (suc left) old (next ∷ states) (also ∷ other) one two =
    let same : next ≡ also = unique g old next also one.0 two.0 in
    let rest = stepping_unique g left next states other one.2 (rw (← same) at two.2) in
    rw same (ap (λ states. also ∷ states) rest)

joining_unique : (g : GraphData) (old : List Tern) (states other : List (List Tern)) →
    JoiningThrough g old states → JoiningThrough g old other → states ≡ other
joining_unique g old [] [] one two = refl
joining_unique g old [] (next ∷ other) one two = absurd (two.1 (JoinStep-unique g old next old two.0 one))
joining_unique g old (next ∷ states) [] one two = absurd (one.1 (JoinStep-unique g old next old one.0 two))
joining_unique g old (next ∷ states) (also ∷ other) one two =
    let same : next ≡ also = JoinStep-unique g old next also one.0 two.0 in
    let rest = joining_unique g next states other one.2 (rw (← same) at two.2) in
    rw same (ap (λ states. also ∷ states) rest)

-- the states that are passed through are these alone
pub passing_is_unique : PassingIsUnique
passing_is_unique g old limit passed other joined other_joined one two =
    let first : one.plain ≡ two.plain = stepping_unique g limit old one.plain two.plain one.stepping two.stepping in
    let second : one.fading ≡ two.fading =
    joining_unique g (last_state old one.plain) one.fading two.fading one.joining (rw (← first) at two.joining) in (
      one.total ∙ (rw first (rw second (sym two.total))),
      same_joined joined other_joined (length one.fading) one.was_joined (rw (← second) at two.was_joined),
    )

-- and there always are some
pub every_state_passes : EveryStatePasses
every_state_passes g wired old fits limit =
    let settles = every_state g wired old fits limit in
    let passes = settling_passes g old limit settles.0 settles.1 settles.2 settles.3 in
    (passes.0, settles.2, passes.1)
