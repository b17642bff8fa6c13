-- One level after the other, from above that of an input node.
use Rattle.std.proofs.Common.{◌≡◌, ◌+◌, ◌-◌, true, false, replicate, rules, ap, ◌∙◌, sym, subst, arith}
use Rattle.std.proofs.lemmas.List.{get_or-replicate}
use Rattle.std.proofs.lemmas.Result.{IfOk-weaker}
use Rattle.strength_order.specs.declared.TheConstants.{INPUT_LEVEL}
use Rattle.node_elimination.specs.declared.descent.Levels.{Levels}
use Rattle.node_elimination.specs.Equations.{is_left}
use Rattle.group_analysis.specs.Meaning.{switch_count}
use Rattle.node_elimination.specs.Inputs.{input_formulas}
use Rattle.node_elimination.specs.Descent.{HaveLevels, level_cost}
use Rattle.node_elimination.proofs.GrowthLemmas.{Extends-same, Extends-trans, Grows-trans}
use Rattle.node_elimination.proofs.PassingLemmas.{left-same}
use Rattle.node_elimination.proofs.RailLemmas.{IsConstant-extends}
use Rattle.node_elimination.proofs.DescentLemmas.{ShowsLevel-start, HaveLevels-start, Grows-start, Grows-down, ShowsLevel-same, ShowsDriven-least, costs-more, costs-within}
use Rattle.node_elimination.proofs.LevelParts.{ShowsState-extends, HaveInputs-extends}
use Rattle.node_elimination.proofs.descent.go_down.Goals as goal

pub loop-done-init : goal.loop-done-init
loop-done-init g c =
    let inputs = c.args.inputs.now in
    let levels : Levels = record {
      strong = c.in_ok-vec.field-0;
      drives = record { one = c.in_ok-vec-2.field-0; zero = c.in_ok-vec-3.field-0 };
    } in
    let strong : levels.strong.items ≡ replicate c.args.members inputs.falsehood = search rules in
    let one : levels.drives.one.items ≡ replicate c.args.members inputs.falsehood = search rules in
    let zero : levels.drives.zero.items ≡ replicate c.args.members inputs.falsehood = search rules in
    let constant = c.requires.inputs.falsehood in
    let g = c.args.graph.now in
    let size : c.in_ok-system.system.size ≡ c.args.members = ap (λ system. system.size) c.in_ok-system.ensures in
    record {
      extends = Extends-same c.args.pool.now;
      size = size;
      left = λ i inside.
          ap (λ system. is_left system i) c.in_ok-system.ensures ∙ get_or-replicate c.args.members i true false
          (omega arith);
      inputs = c.requires.inputs;
      levels = HaveLevels-start g c.graphs_are_wired.ensures c.args.members c.args.pool.now levels inputs.falsehood constant
          strong one zero;
      shows = λ state vars shows.
          ShowsLevel-start g c.graphs_are_wired.ensures c.args.members c.args.pool.now levels inputs.falsehood constant
          strong one zero state vars;
      grows = Grows-start g c.graphs_are_wired.ensures c.args.members c.args.pool.now levels inputs.falsehood constant strong
          one zero (input_formulas inputs) _;
      rises = omega arith;
      few = omega arith;
    }

pub returns-in_err-levels-clause-extends : goal.returns-in_err-levels-clause-extends
returns-in_err-levels-clause-extends g c = Extends-trans _ _ _ c.loop-done.invariant.extends c.step_down.ensures.extends

pub returns-in_err-levels-clause-few : goal.returns-in_err-levels-clause-few
returns-in_err-levels-clause-few g c =
    costs-within c.args.steps.now c.loop-done.steps c.step_down.new.steps c.loop-done.done
    (level_cost c.args.members (switch_count c.args.graph.now)) INPUT_LEVEL (omega arith) c.loop-done.invariant.few
    (rw c.loop-done.invariant.size at c.step_down.ensures.few)

pub loop-done-preserved : goal.loop-done-preserved
loop-done-preserved g c =
    let so_far = c.loop-done.invariant in
    let next = c.in_ok-levels.ensures in
    let inputs = c.args.inputs.now in
    let graph = c.args.graph.now in
    let t = switch_count graph in
    record {
      extends = Extends-trans _ _ _ so_far.extends next.extends;
      size = next.size ∙ so_far.size;
      left = λ i inside.
          left-same c.step_down.new.system c.loop-done.system i next.left ∙ so_far.left i (omega (arith, next.size));
      inputs = HaveInputs-extends graph _ _ inputs next.extends
          (IsConstant-extends false _ _ inputs.falsehood next.extends so_far.inputs.falsehood)
          (IsConstant-extends true _ _ inputs.truth next.extends so_far.inputs.truth) so_far.inputs;
      levels = subst (λ m. HaveLevels m c.step_down.new.pool c.in_ok-levels.levels) so_far.size next.levels;
      shows = λ state vars shows.
          ShowsLevel-same graph _ _ c.step_down.new.pool c.in_ok-levels.levels (INPUT_LEVEL - c.loop-done.done) _ state vars
          so_far.size (omega arith)
          (next.shows state vars (ShowsState-extends graph _ _ inputs state vars so_far.extends c.requires.inputs shows)
          (ShowsLevel-same graph _ _ c.loop-done.pool c.loop-done.levels (INPUT_LEVEL + 1 - c.loop-done.done) _ state vars
          (sym so_far.size) (omega arith)
          (so_far.shows state vars shows)));
      grows = Grows-down (input_formulas inputs) c.loop-done.levels c.in_ok-levels.levels _ _ _ _ _ _ next.extends
          so_far.grows next.grows
          (omega (arith, so_far.rises, next.rises));
      rises = omega (arith, so_far.rises, next.rises);
      few = costs-more c.args.steps.now c.loop-done.steps c.step_down.new.steps c.loop-done.done
          (level_cost c.args.members t) so_far.few
          (rw so_far.size at next.few);
    }

pub drive_members-requires-clause-members : goal.drive_members-requires-clause-members
drive_members-requires-clause-members g c = rw c.loop-done.invariant.size c.requires.members

pub drive_members-requires-clause-above : goal.drive_members-requires-clause-above
drive_members-requires-clause-above g c = rw c.loop-done.invariant.size c.loop-done.invariant.levels

pub returns-clause-extends : goal.returns-clause-extends
returns-clause-extends g c = Extends-trans _ _ _ c.loop-done.invariant.extends c.drive_members.ensures.extends

pub returns-clause-drives : goal.returns-clause-drives
returns-clause-drives g c =
    IfOk-weaker c.drive_members.result _ _ (λ drives have. rw c.loop-done.invariant.size at have)
    c.drive_members.ensures.drives

pub returns-clause-shows : goal.returns-clause-shows
returns-clause-shows g c =
    let so_far = c.loop-done.invariant in
    let graph = c.args.graph.now in
    let lowest = c.lowest_level-lowest.result in
    let level = c.lowest_level-lowest.ensures.level in
    IfOk-weaker c.drive_members.result _ _
    (λ drives down state vars shows.
    ShowsDriven-least graph c.args.members c.drive_members.new.pool drives (lowest - 1) lowest state vars
    (omega (arith, level.low))
    c.lowest_level-lowest.ensures.unused
    (rw so_far.size at
    (down state vars (ShowsState-extends graph _ _ c.args.inputs.now state vars so_far.extends c.requires.inputs shows)
    (ShowsLevel-same graph _ _ c.loop-done.pool c.loop-done.levels (INPUT_LEVEL + 1 - c.loop-done.done) _ state vars
    (sym so_far.size)
    (omega (arith, level.high)) (so_far.shows state vars shows)))))
    c.drive_members.ensures.shows

pub returns-clause-grows : goal.returns-clause-grows
returns-clause-grows g c =
    let so_far = c.loop-done.invariant in
    IfOk-weaker c.drive_members.result _ _
    (λ drives grows. Grows-trans _ _ _ _ _ _ _ _ _ so_far.grows grows
    (omega (arith, so_far.rises, c.drive_members.ensures.rises)))
    c.drive_members.ensures.grows

pub returns-clause-few : goal.returns-clause-few
returns-clause-few g c =
    let t = switch_count c.args.graph.now in
    costs-within c.args.steps.now c.loop-done.steps c.drive_members.new.steps c.loop-done.done (level_cost c.args.members t)
    INPUT_LEVEL
    (omega (arith, c.lowest_level-lowest.ensures.level.low)) c.loop-done.invariant.few
    (omega (arith, rw c.loop-done.invariant.size at c.drive_members.ensures.few))
