-- Both loops together.
use Rattle.std.proofs.Common.{rules}
use Rattle.settling.proofs.WholeSettling.{above_none, seen_steady, seen_both, settles_seen, stopped_first, stopped_second}
use Rattle.settling.proofs.observing.settle_seen.Goals as goal

pub returns-in_err-first-clause-stopped : goal.returns-in_err-first-clause-stopped
returns-in_err-first-clause-stopped g c =
    let stopped = stopped_first g.O.Observer.see g.O.Observer.seen g.O.Observer.fixed
    (λ mid state. g.O.Observer.part mid state c.in_err-first.field-0.0 c.step_while_seen.new.observer) c.args.graph.now c.graphs_are_wired.ensures c.args.limit
    (g.M.Moved.state c.args.m.now) (g.M.Moved.state c.step_while_seen.new.m) c.args.observer.now c.in_err-first.ensures.stopped in
    search rules

pub returns-then-first-limit-clause-settles : goal.returns-then-first-limit-clause-settles
returns-then-first-limit-clause-settles g c =
    let see = g.O.Observer.see in
    let old = g.M.Moved.state c.args.m.now in
    let new = g.M.Moved.state c.step_while_seen.new.m in
    let before = g.O.Observer.seen c.args.observer.now in
    let after = g.O.Observer.seen c.step_while_seen.new.observer in
    let seen = seen_steady see c.args.graph.now c.args.limit old before c.in_ok-first.first new after c.if-first-limit.true c.in_ok-first.ensures.seen in
    settles_seen see c.args.graph.now c.args.limit old before new _ after seen

pub returns-then-first-limit-clause-seen : goal.returns-then-first-limit-clause-seen
returns-then-first-limit-clause-seen g c =
    seen_steady g.O.Observer.see c.args.graph.now c.args.limit (g.M.Moved.state c.args.m.now) (g.O.Observer.seen c.args.observer.now)
    c.in_ok-first.first (g.M.Moved.state c.step_while_seen.new.m) (g.O.Observer.seen c.step_while_seen.new.observer) c.if-first-limit.true
    c.in_ok-first.ensures.seen

pub returns-in_err-second-clause-stopped : goal.returns-in_err-second-clause-stopped
returns-in_err-second-clause-stopped g c =
    let stopped = stopped_second g.O.Observer.see g.O.Observer.seen g.O.Observer.fixed
    (λ mid state. g.O.Observer.part mid state c.in_err-second.field-0.0 c.join_while_seen.new.observer) c.args.graph.now c.graphs_are_wired.ensures c.args.limit
    (g.M.Moved.state c.args.m.now) (g.M.Moved.state c.join_while_seen.new.m) c.args.observer.now c.step_while_seen.new.observer
    c.in_ok-first.first (g.M.Moved.state c.step_while_seen.new.m) c.in_ok-first.ensures.seen c.in_ok-first.ensures.observer
    c.in_err-second.ensures.stopped in
    search rules

pub returns-clause-settles : goal.returns-clause-settles
returns-clause-settles g c =
    let see = g.O.Observer.see in
    let old = g.M.Moved.state c.args.m.now in
    let mid = g.M.Moved.state c.step_while_seen.new.m in
    let new = g.M.Moved.state c.join_while_seen.new.m in
    let before = g.O.Observer.seen c.args.observer.now in
    let between = g.O.Observer.seen c.step_while_seen.new.observer in
    let after = g.O.Observer.seen c.join_while_seen.new.observer in
    let seen = seen_both see c.args.graph.now c.args.limit old before c.in_ok-first.first c.in_ok-second.second mid new between after _
    (above_none c.in_ok-second.second) c.in_ok-first.ensures.seen c.in_ok-second.ensures.seen in
    settles_seen see c.args.graph.now c.args.limit old before new _ after seen

pub returns-clause-seen : goal.returns-clause-seen
returns-clause-seen g c =
    seen_both g.O.Observer.see c.args.graph.now c.args.limit (g.M.Moved.state c.args.m.now) (g.O.Observer.seen c.args.observer.now)
    c.in_ok-first.first c.in_ok-second.second (g.M.Moved.state c.step_while_seen.new.m) (g.M.Moved.state c.join_while_seen.new.m)
    (g.O.Observer.seen c.step_while_seen.new.observer) (g.O.Observer.seen c.join_while_seen.new.observer) _
    (above_none c.in_ok-second.second) c.in_ok-first.ensures.seen c.in_ok-second.ensures.seen
