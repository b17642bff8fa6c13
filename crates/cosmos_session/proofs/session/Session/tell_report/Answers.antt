-- The stage's numbers are those of the circuit's groups and of their texts.
use Rattle.std.proofs.Common.{◌∷◌, [], List, sym, subst}
use Rattle.switch_paths.specs.Graphs.{GraphData}
use Rattle.group_text.specs.Texts.{GroupTextData}
use Rattle.circuit_texts.specs.Building.{HasTexts}
use Rattle.told_lines.specs.Lines.{Reported}
use Rattle.session_meaning.specs.Sessions.{HeldSession}
use Rattle.session_meaning.proofs.LineLemmas.{reported}
use Rattle.session_meaning.proofs.StayingLemmas.{session_of}
use Rattle.cosmos_session.proofs.session.Session.tell_report.Goals as goal

pub groups-groups-requires : goal.groups-groups-requires
groups-groups-requires g c =
    subst (λ (graph : GraphData). g.M.Columns.fits c.self.inside.stage graph) (sym c.graph-graph.ensures.value)
    (subst (λ (s : HeldSession _). g.M.Columns.fits s.stage s.core.circuit.graph) (sym c.self.view_is) c.requires.fits)

pub texts-texts-requires : goal.texts-texts-requires
texts-texts-requires g c =
    subst (λ (graph : GraphData). g.M.Columns.fits c.self.inside.stage graph) (sym c.graph-graph.ensures.value)
    (subst (λ (s : HeldSession _). g.M.Columns.fits s.stage s.core.circuit.graph) (sym c.self.view_is) c.requires.fits)

pub returns-clause-report : goal.returns-clause-report
returns-clause-report g c =
    let core = (session_of c.self.invariant.0).core in
    let texts : (list : List GroupTextData) × HasTexts core.large core.circuit.graph list =
    subst (λ (s : HeldSession _). (list : List GroupTextData) × HasTexts s.core.large s.core.circuit.graph list) (sym c.self.view_is) c.requires.texts in
    rw (← c.self.view_is) (record {
      lines = Reported c.groups-groups.result c.texts-texts.result core.fresh ∷ [];
      done = reported core texts.0 texts.1 c.groups-groups.result c.texts-texts.result
          ((rw c.graph-graph.ensures.value at c.groups-groups.ensures) core.large texts.0 texts.1)
          ((rw c.graph-graph.ensures.value at c.texts-texts.ensures) core.large texts.0 texts.1);
      sent = c.tell_line.ensures.sent;
    })
