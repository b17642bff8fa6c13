-- One part more enters.
use Rattle.std.proofs.Common.{◌≡◌, ◌<◌, [], ◌∷◌, ◌++◌, length, take, ap, sym, subst, ◌∙◌, arith}
use Rattle.std.specs.Prelude.{Contains}
use Rattle.std.proofs.lemmas.List.{length-take, length-take-le, length_push, take_all, take_more}
use Rattle.machine_parts.specs.Parts.{Stands}
use Rattle.run_beside.proofs.NearLemmas.{AreNear-entered}
use Rattle.run_beside.proofs.near.Near.come_near.Goals.{After-at-k}
use Rattle.run_beside.proofs.near.Near.come_near.Goals as goal

pub loop-place-init : goal.loop-place-init
loop-place-init c =
    let stay = c.leave_behind.ensures.stay in
    let first = c.same_first-first.result in
    let same : take first c.args.self.now.parts.items ≡ take first c.args.apart.now.list =
    rw (c.deref.ensures.value, c.nodes_in.ensures.value) at c.same_first-first.ensures.same in
    record {
      near = λ owners are. c.leave_behind.ensures.near c.args.parts.now owners are;
      same = stay.parts ∙ same;
      started = omega (
        arith,
        ap length stay.parts,
        ap length stay.starts,
        length-take first c.args.self.now.parts.items,
        length-take first c.args.self.now.starts.items,
        c.requires.started,
      );
      nodes = stay.counted;
      room = stay.room;
      start_room = stay.start_room;
      current = stay.current;
    }

pub at-k-requires : goal.at-k-requires
at-k-requires c = omega (arith, c.loop-place-test.true, c.len-place-end.ensures.value)

-- the part that enters is there
there : (c : After-at-k) → c.at-k.result < length c.args.parts.now
there c = omega (arith, c.at-k.ensures.within, c.requires.counted)

pub bounds-parts-k : goal.bounds-parts-k
bounds-parts-k c = there (goal.at.bounds-parts-k c).After-at-k

-- fewer parts entered than there are
fewer : (c : After-at-k) → length c.loop-place.self.parts.items < length c.args.parts.now
fewer c =
    let list = c.args.apart.now.list in
    let i = c.loop-place.place in
    let few : length c.loop-place.self.parts.items ≡ i =
    ap length c.loop-place.invariant.same ∙ length-take-le i list (omega (arith, c.loop-place-test.true, c.len-place-end.ensures.value)) in
    omega (arith, few, c.loop-place-test.true, c.len-place-end.ensures.value, c.len-place-end.ensures.most, c.requires.counted)

pub enter-requires-clause-room : goal.enter-requires-clause-room
enter-requires-clause-room c =
    omega (arith, fewer (goal.at.enter-requires-clause-room c).After-at-k, c.requires.room, c.loop-place.invariant.room)

pub enter-requires-clause-also : goal.enter-requires-clause-also
enter-requires-clause-also c =
    let inv = c.loop-place.invariant in
    omega (arith, fewer (goal.at.enter-requires-clause-also c).After-at-k, inv.started, c.requires.start_room, inv.start_room)

pub enter-requires-clause-members : goal.enter-requires-clause-members
enter-requires-clause-members c =
    c.requires.members c.at-k.result c.index-parts-k.result
    (record { inside = there (goal.at.enter-requires-clause-members c).After-at-k; here = sym c.index-parts-k.is })

pub enter-requires-clause-inside : goal.enter-requires-clause-inside
enter-requires-clause-inside c = λ node of.
    let stands : Stands c.args.parts.now c.at-k.result c.index-parts-k.result =
    record { inside = there (goal.at.enter-requires-clause-inside c).After-at-k; here = sym c.index-parts-k.is } in
    omega (arith, c.requires.inside c.at-k.result c.index-parts-k.result stands node of, c.loop-place.invariant.nodes)

pub loop-place-preserved : goal.loop-place-preserved
loop-place-preserved c =
    let list = c.args.apart.now.list in
    let i = c.loop-place.place in
    let k = c.at-k.result in
    let inv = c.loop-place.invariant in
    let enters = c.enter.ensures in
    let stands : Stands c.args.parts.now k c.index-parts-k.result =
    record { inside = there (goal.at.loop-place-preserved c).After-at-k; here = sym c.index-parts-k.is } in
    record {
      near = λ owners are.
          AreNear-entered c.args.parts.now owners k c.index-parts-k.result stands c.loop-place.self c.enter.new.self enters (inv.near owners are);
      same =
          enters.parts
          ∙ (ap (λ xs. xs ++ k ∷ []) inv.same
          ∙ (ap (λ x. take i list ++ x ∷ []) c.at-k.ensures.value
          ∙ sym (take_more list i 0 (omega (arith, c.loop-place-test.true, c.len-place-end.ensures.value)))));
      started = omega (
        arith,
        inv.started,
        ap length enters.parts,
        ap length enters.starts,
        length_push c.loop-place.self.parts.items k,
        length_push c.loop-place.self.starts.items (length c.loop-place.self.nodes.list),
      );
      nodes = enters.nodes.count ∙ inv.nodes;
      room = enters.room ∙ inv.room;
      start_room = enters.start_room ∙ inv.start_room;
      current = enters.current ∙ inv.current;
    }

pub returns-clause-apart : goal.returns-clause-apart
returns-clause-apart c = λ k.
    let list = c.args.apart.now.list in
    let all : c.loop-place.self.parts.items ≡ list =
    c.loop-place.invariant.same ∙ take_all c.loop-place.place list (omega (arith, c.loop-place-test.false, c.len-place-end.ensures.value)) in (
      λ there. c.len-place-end.ensures.only k (subst (λ xs. Contains xs k) all there),
      λ is. subst (λ xs. Contains xs k) (sym all) (c.len-place-end.ensures.listed k is),
    )
