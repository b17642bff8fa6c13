-- What was prepared and written are the groups of the graph now.
use Rattle.std.proofs.Common.{List, None, sym, subst, ◌∙◌, arith, ◌≡◌, ap}
use Rattle.group_meaning.specs.Groups.{Group, AreGroups}
use Rattle.channel_groups.specs.Listing.{places_of, AreListed}
use Rattle.channel_groups.specs.Changes.{undo}
use Rattle.channel_groups.specs.Grouping.{AreOf, GroupsData, held}
use Rattle.channel_groups.specs.Writing.{IsCheap}
use Rattle.channel_groups.proofs.SearchLemmas.{on_err}
use Rattle.channel_groups.proofs.StoreLemmas.{IsHeld-same, held-same, same_function, AreListed-held, AreListed-shown, first_lists-same, nothing_past, first_inside, second_inside}
use Rattle.channel_groups.proofs.TickLemmas.{few_ticks}
use Rattle.channel_groups.proofs.groups.Groups.regroup.Goals as goal

pub prepare-requires : goal.prepare-requires
prepare-requires g c =
    let i = c.self.inside in
    let listed = AreListed-held (undo c.args.graph.now c.args.change.now) c.args.self.now i.nodes (held i.held.slots.items) i.ends.firsts.items
    i.ends.seconds.items c.self.invariant.firsts_past c.self.invariant.seconds_past c.self.view_is c.requires.before in
    record { held = c.self.invariant.held; counted = c.self.invariant.counted; firsts = listed.0; seconds = listed.1 }

pub relist-requires : goal.relist-requires
relist-requires g c =
    let i = c.self.inside in
    let graph = undo c.args.graph.now c.args.change.now in
    let listed = AreListed-held graph c.args.self.now i.nodes (held i.held.slots.items) i.ends.firsts.items i.ends.seconds.items
    c.self.invariant.firsts_past c.self.invariant.seconds_past c.self.view_is c.requires.before in
    let same = c.prepare.ensures.ends in
    let room = c.in_ok-plan.ensures.room in
    record {
      firsts =
          subst (AreListed (λ switch. switch.a) graph None) (sym (same_function (places_of c.prepare.new.ends.firsts.items) (places_of i.ends.firsts.items) same.first))
          listed.0;
      seconds =
          subst (AreListed (λ switch. switch.b) graph None) (sym (same_function (places_of c.prepare.new.ends.seconds.items) (places_of i.ends.seconds.items) same.second))
          listed.1;
      first = room.first;
      second = room.second;
    }

pub write-requires : goal.write-requires
write-requires g c =
    let i = c.self.inside in
    let graph = undo c.args.graph.now c.args.change.now in
    let same = c.prepare.ensures.held in
    record {
      held = IsHeld-same i.held.classes.items c.prepare.new.held.classes.items i.held.slots.items c.prepare.new.held.slots.items same c.self.invariant.held;
      groups =
          subst (λ (groups : List Group). AreGroups graph groups) (sym (held-same i.held.slots.items c.prepare.new.held.slots.items same.slot))
          (subst (AreOf graph) (sym c.self.view_is) c.requires.before).are;
      counted = same.counted;
      room = c.in_ok-plan.ensures.room.classes_in;
      plan = c.in_ok-plan.ensures.plan;
    }

pub invariant_of-self : goal.invariant_of-self
invariant_of-self g c =
    let i = c.self.inside in
    let same = c.prepare.ensures.held in
    let ends = c.prepare.ensures.ends in
    record {
      held = IsHeld-same i.held.classes.items c.prepare.new.held.classes.items i.held.slots.items c.prepare.new.held.slots.items same c.self.invariant.held;
      counted = same.counted;
      nodes_in = omega (arith, same.longer, c.self.invariant.nodes_in);
      firsts_past = λ n past. ends.first n ∙ c.self.invariant.firsts_past n past;
      seconds_past = λ n past. ends.second n ∙ c.self.invariant.seconds_past n past;
    }

pub returns-in_err-plan-clause-err : goal.returns-in_err-plan-clause-err
returns-in_err-plan-clause-err g c =
    let i = c.self.inside in
    let held_still = held-same i.held.slots.items c.prepare.new.held.slots.items c.prepare.ensures.held.slot in
    let firsts = first_lists-same i.nodes i.ends.firsts.items c.prepare.new.ends.firsts.items c.prepare.ensures.ends.first in
    let seconds = first_lists-same i.nodes i.ends.seconds.items c.prepare.new.ends.seconds.items c.prepare.ensures.ends.second in
    on_err c.from_residual.result
    ((λ j. record { nodes = i.nodes; groups = held_still j; firsts = firsts j; seconds = seconds j }) ∙ c.self.view_is)

pub returns-in_err-plan-clause-step : goal.returns-in_err-plan-clause-step
returns-in_err-plan-clause-step g c = λ found are.
    let i = c.self.inside in
    let groups : held c.prepare.new.held.slots.items ≡ c.args.self.now.groups =
    held-same i.held.slots.items c.prepare.new.held.slots.items c.prepare.ensures.held.slot ∙ ap (λ (m : GroupsData). m.groups) c.self.view_is in
    let cheap : IsCheap c.args.graph.now c.args.change.now c.args.self.now.groups c.args.steps.now c.prepare.new.steps =
    subst (λ (old : List Group). IsCheap c.args.graph.now c.args.change.now old c.args.steps.now c.prepare.new.steps) groups c.in_err-plan.ensures.err in
    cheap.cheap found are

pub invariant_of-self-2 : goal.invariant_of-self-2
invariant_of-self-2 g c =
    let graph = c.args.graph.now in
    let wired = c.graphs_are_wired.ensures in
    let written = c.write.ensures in
    let relisted = c.relist.ensures in
    let same = c.prepare.ensures.held in
    record {
      held = written.held;
      counted = omega (arith, written.classes, written.slots, same.counted);
      nodes_in = omega (arith, written.classes, c.in_ok-plan.ensures.room.classes_in, c.nodes-self-inside.ensures);
      firsts_past = λ n past.
          nothing_past (λ switch. switch.a) graph (first_inside graph wired) (places_of c.relist.new.ends.firsts.items) relisted.firsts n
          (omega (arith, past, c.nodes-self-inside.ensures));
      seconds_past = λ n past.
          nothing_past (λ switch. switch.b) graph (second_inside graph wired) (places_of c.relist.new.ends.seconds.items) relisted.seconds n
          (omega (arith, past, c.nodes-self-inside.ensures));
    }

pub returns : goal.returns
returns g c =
    let graph = c.args.graph.now in
    let wired = c.graphs_are_wired.ensures in
    let relisted = c.relist.ensures in
    let firsts = c.relist.new.ends.firsts.items in
    let seconds = c.relist.new.ends.seconds.items in
    record {
      ok = record {
        are = c.write.ensures.groups;
        nodes = c.nodes-self-inside.ensures;
        firsts =
            AreListed-shown (λ switch. switch.a) graph c.nodes-self-inside.result firsts
            (λ n past. nothing_past (λ switch. switch.a) graph (first_inside graph wired) (places_of firsts) relisted.firsts n
            (omega (arith, past, c.nodes-self-inside.ensures)))
            relisted.firsts;
        seconds =
            AreListed-shown (λ switch. switch.b) graph c.nodes-self-inside.result seconds
            (λ n past. nothing_past (λ switch. switch.b) graph (second_inside graph wired) (places_of seconds) relisted.seconds n
            (omega (arith, past, c.nodes-self-inside.ensures)))
            relisted.seconds;
      };
      err = tt;
      step = λ found are.
          let i = c.self.inside in
          let same = c.prepare.ensures.held in
          let groups : held c.prepare.new.held.slots.items ≡ c.args.self.now.groups =
          held-same i.held.slots.items c.prepare.new.held.slots.items same.slot ∙ ap (λ (m : GroupsData). m.groups) c.self.view_is in
          let plan = c.in_ok-plan.ensures.plan in
          let still = IsHeld-same i.held.classes.items c.prepare.new.held.classes.items i.held.slots.items c.prepare.new.held.slots.items same c.self.invariant.held in
          few_ticks graph c.args.change.now c.prepare.new.held.classes.items c.prepare.new.held.slots.items still
          c.in_ok-plan.plan.gone.keys c.in_ok-plan.plan.found.seen.keys c.in_ok-plan.plan.found.fresh.items plan
          c.args.self.now.groups found groups are
          c.args.steps.now c.prepare.new.steps c.write.new.steps c.in_ok-plan.ensures.steps c.write.ensures.steps;
    }
