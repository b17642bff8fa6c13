-- A node has its value already, or gets it.
use Rattle.std.proofs.Common.{inl, refl}
use Rattle.std.proofs.lemmas.Bool.{OnTrue_at, OnFalse_at}
use Rattle.good_run.proofs.TakingLemmas.{TakesNode-pushed}
use Rattle.good_run.proofs.recorder.take_node.Goals as goal

pub returns-then-has_state-clause-takes : goal.returns-then-has_state-clause-takes
returns-then-has_state-clause-takes c =
    inl (record { has = OnTrue_at c.if-has_state.true c.has_state.ensures.yes; state_is = refl; same = refl })

pub returns-clause-takes : goal.returns-clause-takes
returns-clause-takes c =
    TakesNode-pushed c.args.node c.args.value c.args.known.now _ c.args.changes.now.items c.push_if_room.new.changes.items _ c.push_if_room.result
    (OnFalse_at c.if-has_state.false c.has_state.ensures.no) refl c.push_if_room.ensures.pushed c.push_if_room.ensures.same c.push_if_room.ensures.full
