-- A step that is taken by difference. Each node takes its one steady state under the fault: if it follows, since both runs have the same one;
-- if it is evaluated, by that; and if it stays, since it rests.
use Rattle.std.proofs.Common.{◌≡◌, ℕ, ◌<◌, inl, inr, Bool, true, false, List, length, refl, sym, ap, subst, ◌∙◌, arith}
use Rattle.ternary.specs.declared.tern.Tern.{Tern}
use Rattle.ternary.specs.Tern.{join}
use Rattle.switch_paths.specs.Switching.{state_at}
use Rattle.switch_paths.specs.Graphs.{GraphData, IsWired, nodes}
use Rattle.switch_paths.specs.Step.{IsResponse}
use Rattle.switch_paths.proofs.UniqueSteps.{response_is_unique}
use Rattle.switch_paths.proofs.ExistingSteps.{exists}
use Rattle.switch_paths.proofs.InputNodes.{input_response}
use Rattle.part_words.specs.Noting.{after}
use Rattle.group_meaning.proofs.GroupLemmas.{member_storage}
use Rattle.machine_parts.proofs.CaseLemmas.{after-same}
use Rattle.run_beside.specs.Agreeing.{IsMove, Follows, IsEvaluated, StaysAtRest, StepsByDifference}
use Rattle.run_beside.proofs.AgreeingGroups.{respond_alike}

-- a node takes a steady state of it under the fault
record Takes (joining : Bool) (h : GraphData) (bad bad_next : List Tern) (node : ℕ) : Type 0 where
  answer : Tern
  response : IsResponse h bad node answer
  takes : state_at bad_next node ≡ after joining (state_at bad node) answer

-- in a step of one kind a node has a steady state, and takes it
pub moves_by : (joining : Bool) (g : GraphData) (old new : List Tern) (node : ℕ) → node < nodes g → IsMove joining g old new →
    (answer : Tern) × IsResponse g old node answer × (state_at new node ≡ after joining (state_at old node) answer)
moves_by false g old new node inside step = (state_at new node, step.each node inside, refl)
moves_by true g old new node inside step =
    (state_at step.response node, step.step.each node inside, step.joins.each node (omega (arith, step.joins.right, step.step.count, inside)))

module _
    (joining : Bool) (g h : GraphData) (good good_next bad bad_next : List Tern) (wired : IsWired g) (wired_too : IsWired h)
    (step : IsMove joining g good good_next) where
  following : (node : ℕ) → Follows g h good good_next bad bad_next node → Takes joining h bad bad_next node
  following node follows =
      let inside = (member_storage g follows.group follows.alike.here node follows.member).inside in
      let moves = moves_by joining g good good_next node inside step in
      record {
        answer = moves.0;
        response = (respond_alike g h follows.group good bad wired wired_too follows.alike follows.agrees node follows.member moves.0).1 moves.1;
        takes = follows.takes ∙ (moves.2 ∙ ap (λ state. after joining state moves.0) (sym (follows.agrees.members node follows.member)));
      }

  staying : (node : ℕ) → node < nodes h → StaysAtRest h bad bad_next node → Takes joining h bad bad_next node
  staying node inside stays = record {
    answer = state_at bad node;
    response = elim stays.steady [ inl rests ↦ rests | inr input ↦ input_response h wired_too bad node inside input ];
    takes = stays.stays ∙ sym (after-same joining (state_at bad node));
  }

  evaluated : (node : ℕ) → IsEvaluated joining h bad bad_next node → Takes joining h bad bad_next node
  evaluated node given = record { answer = given.answer; response = given.response; takes = given.takes }

-- if each node takes its steady state, that is a step
all_take : (joining : Bool) (h : GraphData) (bad bad_next : List Tern) → IsWired h → length bad ≡ nodes h → length bad_next ≡ nodes h →
    ((node : ℕ) → node < nodes h → Takes joining h bad bad_next node) → IsMove joining h bad bad_next
all_take false h bad bad_next wired counted counted_next each = record {
  count = counted_next;
  each =
      λ node inside.
      let takes = each node inside in
      subst (IsResponse h bad node) (sym takes.takes) takes.response;
}
all_take true h bad bad_next wired counted counted_next each =
    let (response, step) = exists h wired bad in
    record {
      response = response;
      step = step;
      joins = record {
        left = counted_next ∙ sym counted;
        right = counted_next ∙ sym step.count;
        each =
            λ node inside.
            let within : node < nodes h = omega (arith, counted_next) in
            let takes = each node within in
            takes.takes ∙ ap (join (state_at bad node)) (response_is_unique h bad node takes.answer (state_at response node) takes.response (step.each node within));
      };
    }

pub steps_by_difference : StepsByDifference
steps_by_difference joining g h good good_next bad bad_next wired wired_too counted counted_next step each =
    all_take joining h bad bad_next wired_too counted counted_next (λ node inside.
    elim (each node inside) [
      | inl follows ↦ following joining g h good good_next bad bad_next wired wired_too step node follows
      | inr other ↦ elim other [
        | inl given ↦ evaluated joining g h good good_next bad bad_next wired wired_too step node given
        | inr stays ↦ staying joining g h good good_next bad bad_next wired wired_too step node inside stays
      ]
    ])
