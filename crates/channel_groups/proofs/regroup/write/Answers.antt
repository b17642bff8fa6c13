-- What is taken out are nodes that are held, and what was planned are the groups of the graph now.
use Rattle.std.proofs.Common.{ℕ, List, Contains, length, get_or, subst, ◌∙◌, arith, ap}
use Rattle.std.proofs.lemmas.List.Elements.{Contains-get_or}
use Rattle.group_meaning.specs.Groups.{Group, id_of}
use Rattle.channel_groups.specs.Grouping.{class_at, slot_at}
use Rattle.channel_groups.specs.Changes.{nodes_before}
use Rattle.channel_groups.specs.Writing.{Clears}
use Rattle.channel_groups.proofs.RegroupedLemmas.{AreApart-groups}
use Rattle.channel_groups.proofs.StoreLemmas.{gone_inside, seen_storage, fresh_inside, written}
use Rattle.channel_groups.proofs.HeldLemmas.{held-from_slot}
use Rattle.channel_groups.proofs.regroup.write.Goals as goal

pub clear-requires : goal.clear-requires
clear-requires g c =
    let nodes = c.as_slice.result.now in
    let plan = c.requires.plan in
    record {
      classes = λ k d inside.
          gone_inside c.args.held.now.classes.items c.args.held.now.slots.items (nodes_before c.args.change.now) c.args.plan.gone.keys c.requires.held plan.touched
          (get_or nodes k d) (subst (λ (xs : List ℕ). Contains xs (get_or nodes k d)) c.as_slice.ensures.keys (Contains-get_or nodes k d inside));
      counted = c.requires.counted;
    }

pub clear-requires-2 : goal.clear-requires-2
clear-requires-2 g c =
    let nodes = c.as_slice-2.result.now in
    let plan = c.requires.plan in
    record {
      classes = λ k d inside.
          let storage = seen_storage c.args.graph.now c.args.plan.found.seen.keys c.args.plan.found.fresh.items plan.found (get_or nodes k d)
          (subst (λ (xs : List ℕ). Contains xs (get_or nodes k d)) c.as_slice-2.ensures.keys (Contains-get_or nodes k d inside)) in
          omega (arith, storage.inside, c.requires.room, c.clear.ensures.classes_count);
      counted = omega (arith, c.requires.counted, c.clear.ensures.classes_count, c.clear.ensures.slots_count);
    }

pub put_all-requires : goal.put_all-requires
put_all-requires g c =
    let plan = c.requires.plan in
    let fresh = c.args.plan.found.fresh.items in
    record {
      apart = AreApart-groups c.args.graph.now fresh plan.found.each;
      inside = λ k d inside.
          fresh_inside c.args.graph.now c.args.plan.found.seen.keys fresh (length c.clear-2.new.held.classes.items) plan.found
          (omega (arith, c.requires.room, c.clear.ensures.classes_count, c.clear-2.ensures.classes_count)) (get_or fresh k d) (Contains-get_or fresh k d inside);
      counted =
          omega (arith, c.requires.counted, c.clear.ensures.classes_count, c.clear.ensures.slots_count, c.clear-2.ensures.classes_count, c.clear-2.ensures.slots_count);
    }

pub returns : goal.returns
returns g c =
    let puts = c.put_all.ensures.puts in
    let one = c.clear.ensures in
    let two = c.clear-2.ensures in
    let class_gone = subst (λ (xs : List ℕ). Clears ℕ xs (class_at c.args.held.now.classes.items) (class_at c.clear.new.held.classes.items)) c.as_slice.ensures.keys one.classes in
    let slot_gone = subst (λ (xs : List ℕ). Clears Group xs (slot_at c.args.held.now.slots.items) (slot_at c.clear.new.held.slots.items)) c.as_slice.ensures.keys one.slots in
    let class_seen = subst (λ (xs : List ℕ). Clears ℕ xs (class_at c.clear.new.held.classes.items) (class_at c.clear-2.new.held.classes.items)) c.as_slice-2.ensures.keys two.classes in
    let slot_seen = subst (λ (xs : List ℕ). Clears Group xs (slot_at c.clear.new.held.slots.items) (slot_at c.clear-2.new.held.slots.items)) c.as_slice-2.ensures.keys two.slots in
    let groups = written c.args.graph.now c.args.change.now c.args.held.now.classes.items c.args.held.now.slots.items c.requires.held c.requires.groups
    c.args.plan.gone.keys c.args.plan.found.seen.keys c.args.plan.found.fresh.items c.requires.plan
    c.clear.new.held.classes.items c.clear-2.new.held.classes.items c.put_all.new.held.classes.items
    c.clear.new.held.slots.items c.clear-2.new.held.slots.items c.put_all.new.held.slots.items class_gone slot_gone class_seen slot_seen puts in
    record {
      held = groups.0;
      groups = groups.1;
      classes = puts.classes_count ∙ two.classes_count ∙ one.classes_count;
      slots = puts.slots_count ∙ two.slots_count ∙ one.slots_count;
      fresh = λ group there. held-from_slot c.put_all.new.held.slots.items (id_of group) group (puts.slot group there);
      steps = omega (arith, ap length c.as_slice.ensures.keys, ap length c.as_slice-2.ensures.keys, one.steps, two.steps, c.put_all.ensures.steps);
    }
