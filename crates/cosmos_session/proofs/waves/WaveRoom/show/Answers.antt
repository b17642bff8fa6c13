use Rattle.std.proofs.Common.{◌≡◌, [], ◌∷◌, List, map, rules, subst}
use Rattle.ternary.specs.declared.tern.Tern.{Tern}
use Rattle.switch_paths.specs.Switching.{state_at}
use Rattle.told_lines.specs.Lines.{Shown}
use Rattle.session_meaning.specs.Outcomes.{Sent}
use Rattle.cosmos_session.proofs.waves.WaveRoom.show.Goals as goal

pub returns-clause-sent : goal.returns-clause-sent
returns-clause-sent g c =
    let same : c.deref.result.now ≡ map (state_at c.args.state.now) c.args.nodes.now = search rules in
    subst (λ (values : List Tern). Sent g.L.Lines.hear g.L.Lines.part (g.L.Lines.heard c.args.out.now) (g.L.Lines.heard c.tell_line-told.new.out)
    (Shown c.args.name.now values ∷ []) c.tell_line-told.result) same c.tell_line-told.ensures.sent
