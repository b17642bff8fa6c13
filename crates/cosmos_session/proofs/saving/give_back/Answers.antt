use Rattle.std.proofs.Common.{◌≡◌, ◌≤◌, List, ◌++◌, length, get_or, take, drop, refl, ap, subst, ◌∙◌, arith}
use Rattle.std.specs.Prelude.{slice_set}
use Rattle.std.proofs.lemmas.List.{get_or_default}
use Rattle.ternary.specs.declared.tern.Tern.{Tern}
use Rattle.ternary.specs.declared.tern.Tern.TheVariants.{Zero}
use Rattle.switch_paths.specs.Switching.{state_at}
use Rattle.column_stage.proofs.LeadingLemmas.{leads_by_none}
use Rattle.session_meaning.specs.Saves.{back_to}
use Rattle.session_meaning.specs.Stages.{GivesOther, PlacesOther}
use Rattle.session_meaning.proofs.BackLemmas.{other_back}
use Rattle.session_meaning.proofs.SaveLemmas.{back-differs, back-next, back-start}
use Rattle.cosmos_session.proofs.saving.give_back.Goals as goal

pub loop-node-init : goal.loop-node-init
loop-node-init g c =
    let kept = c.args.kept.now in
    let state = g.M.Columns.states c.args.stage.now 0 in
    let counted = c.requires.sound.counted in record {
      one = c.requires.one;
      state = back-start kept state c.requires.railed (omega (arith, c.requires.railed, c.requires.few, counted)) c.requires.kept c.requires.sound.sound;
      sound = c.requires.sound;
      last = refl;
      serves = λ texts serving. serving;
      did = leads_by_none g.M.Columns.did (PlacesOther c.args.graph.now state (back_to kept state)) c.args.stage.now;
    }

pub loop-node-preserved : goal.loop-node-preserved
loop-node-preserved g c =
    let kept = c.args.kept.now in
    let start = c.args.stage.now in
    let state = g.M.Columns.states start 0 in
    let graph = c.args.graph.now in
    let node = c.loop-node.node in
    let value : Tern = state_at kept node in
    let inside = c.loop-node-test.true in
    let counted = c.requires.sound.counted in
    let few : length kept ≤ length state = omega (arith, c.requires.few, counted) in
    let is : value ≡ get_or kept node value = get_or_default kept node Zero value inside in
    let front : List Tern = take node kept ++ drop node state in
    let gives : GivesOther g.M.Columns.did graph node value (state_at front node) c.loop-node.stage c.give_one.new.stage =
    subst (λ (one : List Tern). GivesOther g.M.Columns.did graph node value (state_at one node) c.loop-node.stage c.give_one.new.stage)
    c.loop-node.invariant.state c.give_one.ensures.did in
    record {
      one = c.give_one.ensures.one;
      state = c.give_one.ensures.state ∙ ap (λ (one : List Tern). slice_set one node value) c.loop-node.invariant.state
          ∙ back-next kept state node value inside few is;
      sound = c.give_one.ensures.sound;
      last = c.give_one.ensures.last ∙ c.loop-node.invariant.last;
      serves = λ texts serving. c.give_one.ensures.serves texts (c.loop-node.invariant.serves texts serving);
      did = other_back g.M.Columns.did graph state (back_to kept state) node value (state_at front node) start c.loop-node.stage c.give_one.new.stage
          (back-differs kept state node value inside few is) c.loop-node.invariant.did gives;
    }
