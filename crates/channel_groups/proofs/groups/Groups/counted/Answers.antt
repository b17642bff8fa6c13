-- All groups are found, and put in if there were none.
use Rattle.std.proofs.Common.{length, get_or, arith}
use Rattle.std.proofs.lemmas.List.Elements.{Contains-get_or}
use Rattle.group_meaning.specs.Groups.{AreGroups}
use Rattle.channel_groups.specs.Listing.{places_of}
use Rattle.channel_groups.specs.Grouping.{IsHeld, held}
use Rattle.channel_groups.proofs.RegroupedLemmas.{AreApart-groups}
use Rattle.channel_groups.proofs.StoreLemmas.{fresh_inside, all_found, AreListed-shown, nothing_past, first_inside, second_inside}
use Rattle.channel_groups.proofs.groups.Groups.counted.Given.{Over}
use Rattle.channel_groups.proofs.groups.Groups.counted.Goals.{After-put_all}
use Rattle.channel_groups.proofs.groups.Groups.counted.Goals as goal

-- all groups are held
all_held : (g : Over) (c : After-put_all g) → IsHeld c.put_all.new.held.classes.items c.put_all.new.held.slots.items ×
    AreGroups c.args.graph.now (held c.put_all.new.held.slots.items)
all_held g c =
    all_found c.args.graph.now c.graphs_are_wired.ensures c.in_ok-held.held.classes.items c.put_all.new.held.classes.items
    c.in_ok-held.held.slots.items c.put_all.new.held.slots.items c.in_ok-held.ensures.classes c.in_ok-held.ensures.slots
    c.in_ok-found.found.seen.keys c.in_ok-found.found.fresh.items c.in_ok-found.ensures.found c.in_ok-found.ensures.rooted c.put_all.ensures.puts

pub put_all-requires : goal.put_all-requires
put_all-requires g c =
    let graph = c.args.graph.now in
    let found = c.in_ok-found.ensures.found in
    let fresh = c.in_ok-found.found.fresh.items in
    record {
      apart = AreApart-groups graph fresh found.each;
      inside = λ k d inside.
          fresh_inside graph c.in_ok-found.found.seen.keys fresh (length c.in_ok-held.held.classes.items) found
          (omega (arith, c.in_ok-held.ensures.classes_count, c.nodes.ensures)) (get_or fresh k d) (Contains-get_or fresh k d inside);
      counted = c.in_ok-held.ensures.counted;
    }

pub invariant_of-result : goal.invariant_of-result
invariant_of-result g c =
    let graph = c.args.graph.now in
    let puts = c.put_all.ensures.puts in
    record {
      held = (all_held g (goal.at.invariant_of-result g c).After-put_all).0;
      counted = omega (arith, puts.classes_count, puts.slots_count, c.in_ok-held.ensures.counted);
      nodes_in = omega (arith, puts.classes_count, c.in_ok-held.ensures.classes_count, c.nodes.ensures, c.nodes-2.ensures);
      firsts_past = λ n past.
          nothing_past (λ switch. switch.a) graph (first_inside graph c.graphs_are_wired.ensures) (places_of c.in_ok-ends.ends.firsts.items)
          c.in_ok-ends.ensures.firsts n (omega (arith, past, c.nodes-2.ensures));
      seconds_past = λ n past.
          nothing_past (λ switch. switch.b) graph (second_inside graph c.graphs_are_wired.ensures) (places_of c.in_ok-ends.ends.seconds.items)
          c.in_ok-ends.ensures.seconds n (omega (arith, past, c.nodes-2.ensures));
    }

pub returns : goal.returns
returns g c =
    let graph = c.args.graph.now in
    let wired = c.graphs_are_wired.ensures in
    let firsts = c.in_ok-ends.ends.firsts.items in
    let seconds = c.in_ok-ends.ends.seconds.items in
    record {
      are = (all_held g (goal.at.returns g c).After-put_all).1;
      nodes = c.nodes-2.ensures;
      firsts =
          AreListed-shown (λ switch. switch.a) graph c.nodes-2.result firsts
          (λ n past. nothing_past (λ switch. switch.a) graph (first_inside graph wired) (places_of firsts) c.in_ok-ends.ensures.firsts n (omega (arith, past, c.nodes-2.ensures)))
          c.in_ok-ends.ensures.firsts;
      seconds =
          AreListed-shown (λ switch. switch.b) graph c.nodes-2.result seconds
          (λ n past. nothing_past (λ switch. switch.b) graph (second_inside graph wired) (places_of seconds) c.in_ok-ends.ensures.seconds n (omega (arith, past, c.nodes-2.ensures)))
          c.in_ok-ends.ensures.seconds;
    }
