use Rattle.std.proofs.Common.{◌≡◌, ℕ, ap, sym, subst, ◌∙◌, arith}
use Rattle.std.proofs.lemmas.Result.{err_from_is_err_and}
use Rattle.netlist.specs.Edits.{node_named}
use Rattle.told_lines.specs.Lines.{AreInRoom}
use Rattle.told_lines.specs.Hearing.{HearsPart, hear_all, of_column}
use Rattle.told_lines.proofs.HearingLemmas.{so_far-more, so_far-stopped}
use Rattle.node_looks.specs.Looks.{looked_lines, node_lines}
use Rattle.session_meaning.proofs.LookLemmas.{looked-next, looked_room-next}
use Rattle.cosmos_session.proofs.looking.tell_looked.Goals as goal

pub node_in_use-requires : goal.node_in_use-requires
node_in_use-requires g c = rw (c.items.ensures, c.name-item.is) (c.requires.known c.loop-name.name-index c.name-item.result (omega arith))

pub tell_look-requires-clause-room : goal.tell_look-requires-clause-room
tell_look-requires-clause-room g c =
    let circuit = c.args.circuit.now in
    let state = c.args.state.now in
    let node = c.node_in_use.ensures.value ∙ ap (node_named circuit) c.items.ensures in
    rw c.loop-name.invariant.room
    (subst (λ (n : ℕ). AreInRoom (g.L.Lines.room c.args.out.now) (node_lines circuit state n)) (sym node)
    (looked_room-next circuit state c.args.names.now c.loop-name.name-index c.name-item.result (omega arith) c.name-item.is
    (g.L.Lines.room c.args.out.now) c.loop-name.invariant.fits).0)

pub returns-in_err-tell_look-clause-sent : goal.returns-in_err-tell_look-clause-sent
returns-in_err-tell_look-clause-sent g c =
    let circuit = c.args.circuit.now in
    let state = c.args.state.now in
    let stopped = err_from_is_err_and c.from_residual.result c.from_residual.ensures.1 in
    let node = c.node_in_use.ensures.value ∙ ap (node_named circuit) c.items.ensures in
    let part : HearsPart g.L.Lines.hear g.L.Lines.part (g.L.Lines.heard c.loop-name.out) (g.L.Lines.heard c.tell_look.new.out)
    (of_column 0 (looked_lines circuit state c.name-item.result)) =
    subst (λ (n : ℕ). HearsPart g.L.Lines.hear g.L.Lines.part (g.L.Lines.heard c.loop-name.out) (g.L.Lines.heard c.tell_look.new.out)
    (of_column 0 (node_lines circuit state n))) node c.in_err-tell_look.ensures.sent in
    rw stopped.1 (so_far-stopped g.L.Lines.hear g.L.Lines.part _ _ _ _ _ _ _
    (looked-next circuit state c.args.names.now c.loop-name.name-index c.name-item.result (omega arith) c.name-item.is)
    c.loop-name.invariant.heard part)

pub loop-name-preserved : goal.loop-name-preserved
loop-name-preserved g c =
    let circuit = c.args.circuit.now in
    let state = c.args.state.now in
    let names = c.args.names.now in
    let index = c.loop-name.name-index in
    let name = c.name-item.result in
    let node = c.node_in_use.ensures.value ∙ ap (node_named circuit) c.items.ensures in
    let more : g.L.Lines.heard c.tell_look.new.out ≡ hear_all g.L.Lines.hear (g.L.Lines.heard c.loop-name.out) (of_column 0 (looked_lines circuit state name)) =
    subst (λ (n : ℕ). g.L.Lines.heard c.tell_look.new.out
    ≡ hear_all g.L.Lines.hear (g.L.Lines.heard c.loop-name.out) (of_column 0 (node_lines circuit state n))) node c.in_ok-tell_look.ensures.sent in
    record {
      heard = so_far-more g.L.Lines.hear _ _ _ _ _ (of_column 0 (looked_lines circuit state name)) _
          (looked-next circuit state names index name (omega arith) c.name-item.is) c.loop-name.invariant.heard more;
      fits = (looked_room-next circuit state names index name (omega arith) c.name-item.is (g.L.Lines.room c.args.out.now) c.loop-name.invariant.fits).1;
      room = c.tell_look.ensures.room ∙ c.loop-name.invariant.room;
      faults = c.in_ok-tell_look.ensures.faults ∙ c.loop-name.invariant.faults;
      refusals = c.in_ok-tell_look.ensures.refusals ∙ c.loop-name.invariant.refusals;
    }
