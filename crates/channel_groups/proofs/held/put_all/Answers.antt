-- One group more is put in.
use Rattle.std.proofs.Common.{◌≡◌, List, [], ◌∷◌, ◌++◌, Contains, length, refl, sym, ap, subst, ◌∙◌, append_assoc, arith}
use Rattle.std.proofs.lemmas.List.{append-nil, nil_from_length}
use Rattle.std.proofs.lemmas.List.Elements.{All-contains, Contains-append_left, Contains-append_right}
use Rattle.std.proofs.lemmas.List.Sums.{sum_by_push}
use Rattle.list_facts.proofs.ContainsLemmas.{Contains-cons_first}
use Rattle.group_meaning.specs.Groups.{Group}
use Rattle.channel_groups.specs.Writing.{AreInside}
use Rattle.channel_groups.proofs.WritingLemmas.{Puts-more}
use Rattle.channel_groups.proofs.held.put_all.Goals as goal

pub put-requires : goal.put-requires
put-requires g c =
    let so_far = c.loop-group.invariant in
    let group = c.in-Some.group in
    let order : c.loop-group.yielded ++ (group ∷ c.next.new.self.rest.items) ≡ c.args.fresh.items =
    ap (λ (rest : List Group). c.loop-group.yielded ++ rest) (sym c.in-Some.ensures.steps.0) ∙ so_far.order in
    let there : Contains c.args.fresh.items group =
    subst (λ (all : List Group). Contains all group) order
    (Contains-append_right c.loop-group.yielded (group ∷ c.next.new.self.rest.items) group (Contains-cons_first group c.next.new.self.rest.items group refl)) in
    let inside = All-contains (AreInside (length c.args.held.now.classes.items)) c.args.fresh.items group c.requires.inside there in
    record {
      inside = rw so_far.puts.classes_count inside;
      counted = omega (arith, so_far.puts.classes_count, so_far.puts.slots_count, c.requires.counted);
    }

pub loop-group-preserved : goal.loop-group-preserved
loop-group-preserved g c =
    let so_far = c.loop-group.invariant in
    let group = c.in-Some.group in
    let rest = c.next.new.self.rest.items in
    let yielded = c.loop-group.yielded in
    let order : yielded ++ (group ∷ rest) ≡ c.args.fresh.items =
    ap (λ (rest : List Group). yielded ++ rest) (sym c.in-Some.ensures.steps.0) ∙ so_far.order in
    let there : (one : Group) → Contains (yielded ++ (group ∷ rest)) one → Contains c.args.fresh.items one =
    λ one in_all. subst (λ (all : List Group). Contains all one) order in_all in
    let here = there group (Contains-append_right yielded (group ∷ rest) group (Contains-cons_first group rest group refl)) in
    let inside : (one : Group) → Contains c.args.fresh.items one → AreInside (length c.args.held.now.classes.items) one =
    λ one in_all. All-contains (AreInside (length c.args.held.now.classes.items)) c.args.fresh.items one c.requires.inside in_all in
    let earlier : (one : Group) → Contains yielded one → Contains c.args.fresh.items one =
    λ one before. there one (Contains-append_left yielded (group ∷ rest) one before) in
    record {
      order = append_assoc yielded (group ∷ []) rest ∙ order;
      puts =
          Puts-more yielded group _ _ _ _ _ _
          (λ other node before in_other in_group. c.requires.apart other group node (earlier other before) here in_other in_group)
          (inside group here).some (λ other before. (inside other (earlier other before)).some)
          so_far.puts c.put.ensures.puts;
      steps =
          omega (arith, so_far.steps, c.put.ensures.steps, sum_by_push (λ (group : Group). length group.members) yielded group);
    }

pub returns : goal.returns
returns g c =
    let so_far = c.loop-group.invariant in
    let nothing : c.loop-group.group-iterator.rest.items ≡ [] =
    nil_from_length c.loop-group.group-iterator.rest.items (omega (arith, c.loop-group.group-iterator.rest.ok, c.in-None.ensures.steps.0)) in
    let all : c.loop-group.yielded ≡ c.args.fresh.items =
    sym (append-nil c.loop-group.yielded) ∙ ap (λ (rest : List Group). c.loop-group.yielded ++ rest) (sym nothing) ∙ so_far.order in
    record { puts = rw all at so_far.puts; steps = rw all at so_far.steps }
