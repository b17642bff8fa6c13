-- But for the changed place the lists are those of the graph now, and the roots are the members of the touched groups
-- and the changed nodes.
use Rattle.std.proofs.Common.{◌+◌, ◌≤◌, inl, inr, length, filter, arith, ◌≡◌, ℕ, List, [], ◌++◌, Contains, sym, subst, ◌∙◌, ap}
use Rattle.channel_groups.specs.Listing.{AreListed, places_of}
use Rattle.channel_groups.specs.Changes.{nodes_before, nodes_after}
use Rattle.switch_paths.specs.Graphs.{IsStorage}
use Rattle.std.specs.List.{sum_by}
use Rattle.group_meaning.specs.Groups.{Group}
use Rattle.channel_groups.specs.Grouping.{held, group_at_node}
use Rattle.channel_groups.specs.Search.{is_storage, search_cost, ArePaid, AreFoundFrom}
use Rattle.channel_groups.specs.Writing.{AreTouched, IsCheap, before_cost, members_in}
use Rattle.channel_groups.proofs.SearchLemmas.{ArePaid-first, ArePaid-second, on_err}
use Rattle.channel_groups.proofs.TickLemmas.{few_roots, few_new_roots, IsCheap-before, IsCheap-paid}
use Rattle.channel_groups.proofs.StoreLemmas.{AreListed-undone}
use Rattle.channel_groups.proofs.regroup.search.Given.{Over}
use Rattle.channel_groups.proofs.regroup.search.Goals.{After-changed_place-changed, After-members_touched, In_ok-after}
use Rattle.channel_groups.proofs.regroup.search.Goals as goal

-- the lists are those of the graph now, but for the changed place
firsts_now : (g : Over) (c : After-changed_place-changed g) →
    AreListed (λ switch. switch.a) c.args.graph.now c.changed_place-changed.result (places_of c.args.ends.now.firsts.items)
firsts_now g c =
    rw c.changed_place-changed.ensures
    (AreListed-undone (λ switch. switch.a) c.args.graph.now c.args.change.now (places_of c.args.ends.now.firsts.items) c.requires.firsts)

seconds_now : (g : Over) (c : After-changed_place-changed g) →
    AreListed (λ switch. switch.b) c.args.graph.now c.changed_place-changed.result (places_of c.args.ends.now.seconds.items)
seconds_now g c =
    rw c.changed_place-changed.ensures
    (AreListed-undone (λ switch. switch.b) c.args.graph.now c.args.change.now (places_of c.args.ends.now.seconds.items) c.requires.seconds)

pub try_roots-requires-clause-firsts : goal.try_roots-requires-clause-firsts
try_roots-requires-clause-firsts g c = firsts_now g (goal.at.try_roots-requires-clause-firsts g c).After-changed_place-changed

pub try_roots-requires-clause-seconds : goal.try_roots-requires-clause-seconds
try_roots-requires-clause-seconds g c = seconds_now g (goal.at.try_roots-requires-clause-seconds g c).After-changed_place-changed

pub try_roots-requires-2-clause-firsts : goal.try_roots-requires-2-clause-firsts
try_roots-requires-2-clause-firsts g c = firsts_now g (goal.at.try_roots-requires-2-clause-firsts g c).After-changed_place-changed

pub try_roots-requires-2-clause-seconds : goal.try_roots-requires-2-clause-seconds
try_roots-requires-2-clause-seconds g c = seconds_now g (goal.at.try_roots-requires-2-clause-seconds g c).After-changed_place-changed

-- the groups before the edit are looked at
looked : (g : Over) (c : After-members_touched g) →
    c.members_touched.new.steps ≤ c.args.steps.now + before_cost c.args.change.now c.args.held.now.classes.items c.args.held.now.slots.items
looked g c =
    subst (λ (nodes : List ℕ). c.members_touched.new.steps ≤ c.args.steps.now
    + sum_by (λ node. members_in (group_at_node c.args.held.now.classes.items c.args.held.now.slots.items node)) nodes)
    (c.deref.ensures.value ∙ c.in_ok-before.ensures) c.members_touched.ensures.steps

pub returns : goal.returns
returns g c =
    let graph = c.args.graph.now in
    let before : c.deref.result.now ≡ nodes_before c.args.change.now = c.deref.ensures.value ∙ c.in_ok-before.ensures in
    let after : c.deref-2.result.now ≡ nodes_after graph c.args.change.now = c.deref-2.ensures.value ∙ c.in_ok-nodes.ensures in
    let gone = c.in_ok-gone.gone.keys in
    let later = c.in_ok-after.after.keys in
    let seen = c.try_roots-2.new.found.seen.keys in
    let one = c.in_ok-try_roots.ensures in
    let two = c.in_ok-try_roots-2.ensures in
    let first_roots : c.as_slice.result.now ≡ gone = c.as_slice.ensures.keys in
    let second_roots : c.as_slice-2.result.now ≡ later = c.as_slice-2.ensures.keys in
    let noted = c.in_ok-after.ensures.notes in
    let rooted_late : (n : ℕ) → Contains later n → IsStorage graph n → Contains seen n =
    λ n there storage. two.finds.rooted n (subst (λ (nodes : List ℕ). Contains nodes n) (sym second_roots) there) storage in
    record {
      plan = record {
        touched =
            subst (λ (nodes : List ℕ). AreTouched c.args.held.now.classes.items c.args.held.now.slots.items nodes gone) before c.in_ok-gone.ensures.touched;
        found = two.found;
        gone_rooted = λ n there storage.
            two.finds.kept n (one.finds.rooted n (subst (λ (nodes : List ℕ). Contains nodes n) (sym first_roots) there) storage);
        new_rooted = λ n there storage.
            rooted_late n (noted.noted n (subst (λ (nodes : List ℕ). Contains nodes n) (sym after) there)) storage;
        gone_once = c.in_ok-gone.ensures.unique;
        from = λ group there.
            elim (two.from.from group there) [
              | inl earlier ↦
                  elim (one.from.from group earlier) [
                    | inl none ↦ let nothing = rw c.new-2.ensures.items at none in absurd (omega (arith, nothing.1))
                    | inr (n, root, member) ↦ (n, member, inl (subst (λ (nodes : List ℕ). Contains nodes n) first_roots root))
                  ]
              | inr (n, root, member) ↦ (
                n,
                member,
                elim (noted.only n (subst (λ (nodes : List ℕ). Contains nodes n) second_roots root)) [
                  | inl none ↦ absurd (omega (arith, none.1))
                  | inr listed ↦ inr (subst (λ (nodes : List ℕ). Contains nodes n) after listed)
                ],
              )
            ];
      };
      steps =
          let none : search_cost c.new-2.result.items ≡ 0 = ap search_cost c.new-2.ensures.items in
          let first_few = few_roots graph gone c.in_ok-gone.ensures.unique in
          let second_few = few_new_roots graph later seen c.in_ok-after.ensures.unique rooted_late in
          let ticked_one = subst (λ (nodes : List ℕ). c.try_roots.new.steps + search_cost c.new-2.result.items
          ≤ c.members_touched.new.steps + length (filter (is_storage graph) nodes) + search_cost c.try_roots.new.found.fresh.items) first_roots one.steps in
          let ticked_two = subst (λ (nodes : List ℕ). c.try_roots-2.new.steps + search_cost c.try_roots.new.found.fresh.items
          ≤ c.try_roots.new.steps + length (filter (is_storage graph) nodes) + search_cost c.try_roots-2.new.found.fresh.items) second_roots two.steps in
          let most = looked g (goal.at.returns g c).After-members_touched in
          omega (arith, none, first_few, second_few, ticked_one, ticked_two, most);
      err = tt;
    }

-- so an early end before the search is paid for
cheap_before : (g : Over) (c : After-members_touched g) →
    IsCheap c.args.graph.now c.args.change.now (held c.args.held.now.slots.items) c.args.steps.now c.members_touched.new.steps
cheap_before g c =
    IsCheap-before c.args.graph.now c.args.change.now c.args.held.now.classes.items c.args.held.now.slots.items c.requires.held
    c.args.steps.now c.members_touched.new.steps (looked g c)

pub returns-in_err-gone-clause-err : goal.returns-in_err-gone-clause-err
returns-in_err-gone-clause-err g c = on_err c.from_residual-in_err-gone.result (cheap_before g (goal.at.returns-in_err-gone-clause-err g c).After-members_touched)

pub returns-in_err-nodes-clause-err : goal.returns-in_err-nodes-clause-err
returns-in_err-nodes-clause-err g c = on_err c.from_residual-in_err-nodes.result (cheap_before g (goal.at.returns-in_err-nodes-clause-err g c).After-members_touched)

pub returns-in_err-after-clause-err : goal.returns-in_err-after-clause-err
returns-in_err-after-clause-err g c = on_err c.from_residual-in_err-after.result (cheap_before g (goal.at.returns-in_err-after-clause-err g c).After-members_touched)

-- and so is an early end of the search that the roots pay for
cheap_search : (g : Over) (c : In_ok-after g) (end : ℕ) →
    c.members_touched.new.steps ≤ c.args.steps.now + before_cost c.args.change.now c.args.held.now.classes.items c.args.held.now.slots.items →
    ArePaid c.args.graph.now (c.in_ok-gone.gone.keys ++ c.in_ok-after.after.keys) [] c.members_touched.new.steps end →
    IsCheap c.args.graph.now c.args.change.now (held c.args.held.now.slots.items) c.args.steps.now end
cheap_search g c end most paid =
    let graph = c.args.graph.now in
    let gone = c.in_ok-gone.gone.keys in
    let later = c.in_ok-after.after.keys in
    let classes = c.args.held.now.classes.items in
    let slots = c.args.held.now.slots.items in
    let touched = subst (λ (nodes : List ℕ). AreTouched classes slots nodes gone) (c.deref.ensures.value ∙ c.in_ok-before.ensures) c.in_ok-gone.ensures.touched in
    let only : (n : ℕ) → Contains later n → Contains (nodes_after graph c.args.change.now) n = λ n there.
    elim (c.in_ok-after.ensures.notes.only n there) [
      | inl none ↦ absurd (omega (arith, none.1))
      | inr listed ↦ subst (λ (nodes : List ℕ). Contains nodes n) (c.deref-2.ensures.value ∙ c.in_ok-nodes.ensures) listed
    ] in
    IsCheap-paid graph c.args.change.now classes slots c.requires.held gone touched later c.in_ok-gone.ensures.unique c.in_ok-after.ensures.unique only
    c.args.steps.now c.members_touched.new.steps end most paid

pub returns-in_err-try_roots-clause-err : goal.returns-in_err-try_roots-clause-err
returns-in_err-try_roots-clause-err g c =
    let at_end = goal.at.returns-in_err-try_roots-clause-err g c in
    let graph = c.args.graph.now in
    let gone = c.in_ok-gone.gone.keys in
    let start = c.members_touched.new.steps in
    let first = subst (λ (nodes : List ℕ). ArePaid graph nodes c.new-2.result.items start c.try_roots.new.steps) c.as_slice.ensures.keys c.in_err-try_roots.ensures.err in
    let paid = subst (λ (old : List Group). ArePaid graph gone old start c.try_roots.new.steps) c.new-2.ensures.items first in
    on_err c.from_residual-in_err-try_roots.result
    (cheap_search g at_end.In_ok-after c.try_roots.new.steps (looked g at_end.After-members_touched)
    (ArePaid-first graph gone c.in_ok-after.after.keys [] start c.try_roots.new.steps paid))

pub returns-in_err-try_roots-2-clause-err : goal.returns-in_err-try_roots-2-clause-err
returns-in_err-try_roots-2-clause-err g c =
    let at_end = goal.at.returns-in_err-try_roots-2-clause-err g c in
    let graph = c.args.graph.now in
    let gone = c.in_ok-gone.gone.keys in
    let first_roots : c.as_slice.result.now ≡ gone = c.as_slice.ensures.keys in
    let second_roots : c.as_slice-2.result.now ≡ c.in_ok-after.after.keys = c.as_slice-2.ensures.keys in
    let one = c.in_ok-try_roots.ensures in
    let start = c.members_touched.new.steps in
    let fresh = c.try_roots.new.found.fresh.items in
    let old : c.new-2.result.items ≡ [] = c.new-2.ensures.items in
    let from = subst (λ (old : List Group). AreFoundFrom gone old fresh) old
    (subst (λ (nodes : List ℕ). AreFoundFrom nodes c.new-2.result.items fresh) first_roots one.from) in
    let first = subst (λ (old : List Group). c.try_roots.new.steps + search_cost old ≤ start + length (filter (is_storage graph) gone) + search_cost fresh) old
    (subst (λ (nodes : List ℕ). c.try_roots.new.steps + search_cost c.new-2.result.items ≤ start + length (filter (is_storage graph) nodes) + search_cost fresh) first_roots one.steps) in
    let second = subst (λ (nodes : List ℕ). ArePaid graph nodes fresh c.try_roots.new.steps c.try_roots-2.new.steps) second_roots c.in_err-try_roots-2.ensures.err in
    on_err c.from_residual-in_err-try_roots-2.result
    (cheap_search g at_end.In_ok-after c.try_roots-2.new.steps (looked g at_end.After-members_touched)
    (ArePaid-second graph gone c.in_ok-after.after.keys [] fresh start c.try_roots.new.steps c.try_roots-2.new.steps from first second))
