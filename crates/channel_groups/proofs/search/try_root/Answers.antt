-- An input node, a node that was seen, and the root of a group.
use Rattle.std.proofs.Common.{◌≡◌, ℕ, ◌+◌, ◌*◌, ◌≤◌, [], ◌∷◌, ◌++◌, true, length, List, nat_eq, sym, subst, ◌∙◌, arith}
use Rattle.std.proofs.lemmas.Bool.{eqb-true}
use Rattle.std.proofs.lemmas.List.Sums.{sum_by_push}
use Rattle.indexmap.proofs.CallerLemmas.{Contains-list_any}
use Rattle.group_meaning.specs.Groups.{Group}
use Rattle.channel_groups.specs.Search.{Notes, is_storage, search_cost, IsCutShort}
use Rattle.channel_groups.proofs.SearchLemmas.{IsStorage-from_test, test-from_IsStorage, unseen_root, IsCutShort-flooded, IsCutShort-noted, on_err, AreFound-more, AreFoundFrom-none, AreFoundFrom-one, Finds-one}
use Rattle.channel_groups.proofs.search.try_root.Given.{Over}
use Rattle.channel_groups.proofs.search.try_root.Goals.{After-note}
use Rattle.channel_groups.proofs.search.try_root.Goals as goal

pub returns-then-not-is_storage-clause-finds : goal.returns-then-not-is_storage-clause-finds
returns-then-not-is_storage-clause-finds g c =
    Finds-one c.args.graph.now c.args.root c.args.found.now.seen.keys c.args.found.now.seen.keys (λ n there. there)
    (λ storage.
    let yes = test-from_IsStorage c.args.graph.now c.args.root storage in
    absurd (cc (yes, c.is_storage.ensures, c.if-not-is_storage.true)))

pub returns-then-contains-clause-finds : goal.returns-then-contains-clause-finds
returns-then-contains-clause-finds g c =
    Finds-one c.args.graph.now c.args.root c.args.found.now.seen.keys c.args.found.now.seen.keys (λ n there. there)
    (λ storage. Contains-list_any nat_eq (λ a b e. eqb-true a b e) c.args.found.now.seen.keys c.args.root (sym c.contains.ensures ∙ c.if-contains.true))

pub returns : goal.returns
returns g c =
    let graph = c.args.graph.now in
    let seen = c.args.found.now.seen.keys in
    let group = c.in_ok-group.group in
    let unseen = unseen_root seen c.args.root (sym c.contains.ensures ∙ c.if-contains.false) in
    let notes : Notes group.members seen c.note.new.seen.keys =
    subst (λ (members : List ℕ). Notes members seen c.note.new.seen.keys) c.members.ensures c.in_ok-note.ensures.notes in
    let fresh = c.args.found.now.fresh.items in
    let storage : is_storage graph c.args.root ≡ true = sym c.is_storage.ensures ∙ c.if-not-is_storage.false in
    let grown : search_cost (fresh ++ group ∷ []) ≡ search_cost fresh + (3 * length group.members + 2 * length group.switches) =
    sum_by_push (λ (group : Group). 3 * length group.members + 2 * length group.switches) fresh group in
    let ticked = c.in_ok-group.ensures.steps.paid group c.in_ok-group.ensures.group c.in_ok-group.ensures.root in
    let noted : c.note.new.steps ≡ c.group_at.new.steps + length group.members = rw c.members.ensures at c.in_ok-note.ensures.steps in
    let one = c.tick.ensures in
    record {
      found =
          rw c.in_ok-push.ensures.items
          (AreFound-more graph c.args.root seen c.note.new.seen.keys fresh group c.requires.found c.in_ok-group.ensures.group
          c.in_ok-group.ensures.root unseen notes (c.in_ok-note.ensures.unique c.requires.found.once));
      finds = Finds-one graph c.args.root seen c.note.new.seen.keys notes.kept (λ _. notes.noted c.args.root c.in_ok-group.ensures.root);
      from = rw c.in_ok-push.ensures.items (AreFoundFrom-one c.args.root fresh group c.in_ok-group.ensures.root);
      steps = rw (c.in_ok-push.ensures.items, storage) (omega arith);
      err = tt;
    }

pub returns-then-not-is_storage-clause-from : goal.returns-then-not-is_storage-clause-from
returns-then-not-is_storage-clause-from g c = AreFoundFrom-none (c.args.root ∷ []) c.args.found.now.fresh.items

pub returns-then-contains-clause-from : goal.returns-then-contains-clause-from
returns-then-contains-clause-from g c = AreFoundFrom-none (c.args.root ∷ []) c.args.found.now.fresh.items

pub returns-in_err-group-clause-err : goal.returns-in_err-group-clause-err
returns-in_err-group-clause-err g c =
    let seen = c.args.found.now.seen.keys in
    on_err c.from_residual.result
    (IsCutShort-flooded c.args.graph.now c.args.root seen
    (IsStorage-from_test c.args.graph.now c.args.root (sym c.is_storage.ensures ∙ c.if-not-is_storage.false))
    (unseen_root seen c.args.root (sym c.contains.ensures ∙ c.if-contains.false))
    c.args.steps.now c.tick.new.self c.group_at.new.steps c.tick.ensures c.group_at.ensures.steps)

-- where it ends after the flood, the group that was found pays
cut_short : (g : Over) (c : After-note g) → IsCutShort c.args.graph.now c.args.root c.args.found.now.seen.keys c.args.steps.now c.note.new.steps
cut_short g c =
    let seen = c.args.found.now.seen.keys in
    let noted : c.note.new.steps ≤ c.group_at.new.steps + length c.in_ok-group.group.members = rw c.members.ensures at c.note.ensures.most in
    IsCutShort-noted c.args.graph.now c.args.root seen
    (IsStorage-from_test c.args.graph.now c.args.root (sym c.is_storage.ensures ∙ c.if-not-is_storage.false))
    (unseen_root seen c.args.root (sym c.contains.ensures ∙ c.if-contains.false))
    c.args.steps.now c.tick.new.self c.group_at.new.steps c.note.new.steps c.tick.ensures c.group_at.ensures.steps
    c.in_ok-group.group c.in_ok-group.ensures.group c.in_ok-group.ensures.root noted

pub returns-in_err-note-clause-err : goal.returns-in_err-note-clause-err
returns-in_err-note-clause-err g c = on_err c.from_residual-in_err-note.result (cut_short g (goal.at.returns-in_err-note-clause-err g c).After-note)

pub returns-in_err-push-clause-err : goal.returns-in_err-push-clause-err
returns-in_err-push-clause-err g c = on_err c.from_residual-in_err-push.result (cut_short g (goal.at.returns-in_err-push-clause-err g c).After-note)
