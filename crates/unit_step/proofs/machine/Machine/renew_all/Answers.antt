-- The group of one node more has a stale part.
use Rattle.std.proofs.Common.{◌≡◌, ◌+◌, ◌++◌, ◌∷◌, [], take, get_or, sym, ap, subst, ◌∙◌, length, arith}
use Rattle.std.proofs.lemmas.List.{take_more, take_all}
use Rattle.std.proofs.lemmas.List.Elements.{Contains-get_or}
use Rattle.machine_laws.specs.Seating.{RenewsAll, RenewsAt}
use Rattle.machine_laws.proofs.RenewingLemmas.{RenewsAll-start, RenewsAll-more}
use Rattle.unit_step.proofs.machine.Machine.renew_all.Goals as goal

pub loop-node-init : goal.loop-node-init
loop-node-init c = RenewsAll-start c.args.graph.now c.args.groups.now.groups c.requires.groups.are c.args.self.now

pub loop-node-preserved : goal.loop-node-preserved
loop-node-preserved c =
    let nodes = c.args.these.now in
    let i = c.loop-node.node-index in
    let node = get_or nodes i 0 in
    let groups = c.args.groups.now.groups in
    let more : take (i + 1) nodes ≡ take i nodes ++ node ∷ [] = take_more nodes i 0 c.loop-node-test.true in
    let at : RenewsAt groups node c.loop-node.self c.renew_at.new.self = c.in_ok-renew_at.ensures.ok in
    subst (λ list. RenewsAll groups list c.args.self.now c.renew_at.new.self) (sym more)
    (RenewsAll-more c.args.graph.now groups c.requires.groups.are (take i nodes) node c.args.self.now c.loop-node.self
    (λ k. c.requires.free k node (Contains-get_or nodes i 0 c.loop-node-test.true)) c.loop-node.invariant c.renew_at.new.self at)

pub renew_at-requires-clause-counted : goal.renew_at-requires-clause-counted
renew_at-requires-clause-counted c = ap length c.loop-node.invariant.rest.state ∙ c.requires.counted

pub returns-in_err-renew_at-clause-state : goal.returns-in_err-renew_at-clause-state
returns-in_err-renew_at-clause-state c = c.renew_at.ensures.state ∙ c.loop-node.invariant.rest.state

pub returns-in_err-renew_at-clause-spare : goal.returns-in_err-renew_at-clause-spare
returns-in_err-renew_at-clause-spare c = c.renew_at.ensures.spare ∙ c.loop-node.invariant.rest.spare

pub returns-clause-ok : goal.returns-clause-ok
returns-clause-ok c =
    let all : take c.loop-node.node-index c.args.these.now ≡ c.args.these.now =
    take_all c.loop-node.node-index c.args.these.now (omega (arith, c.loop-node-test.false)) in
    subst (λ list. RenewsAll c.args.groups.now.groups list c.args.self.now c.loop-node.self) all c.loop-node.invariant

pub returns-clause-state : goal.returns-clause-state
returns-clause-state c = c.loop-node.invariant.rest.state

pub returns-clause-spare : goal.returns-clause-spare
returns-clause-spare c = c.loop-node.invariant.rest.spare
