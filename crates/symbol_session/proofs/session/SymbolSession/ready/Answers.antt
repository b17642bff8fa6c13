-- The session's build is that of the script's columns, and the session is one still.
use Rattle.std.proofs.Common.{sym, ap, ◌∙◌, arith}
use Rattle.column_stage.specs.Standing.{IsCutInColumns}
use Rattle.netlist.specs.Circuits.{CircuitData}
use Rattle.switch_paths.specs.Graphs.{nodes}
use Rattle.symbol_session.proofs.DataLemmas.{held_on, some_columns, stays_on, went}
use Rattle.symbol_session.proofs.RunLemmas.{ready_leaves, ready_memory, readies_by}
use Rattle.symbol_session.proofs.session.SymbolSession.ready.Goals as goal

pub invariant_of-self : goal.invariant_of-self
invariant_of-self g c =
    let left = ready_leaves IsCutInColumns _ (some_columns _ _ c.self.view_is c.is_well_formed.ensures.session) _ _ (g.A.Analyst.analysed c.args.analyst.now) (g.A.Analyst.analysed c.ready_in_all.new.analyst) c.ready_in_all.result c.ready_in_all.ensures.readies in
    let goes = went _ _ c.self.view_is c.ready_in_all.new.self c.ready_in_all.ensures.columns c.ready_in_all.ensures.kept c.is_well_formed.ensures.constant in (
      held_on _ _ c.self.invariant.0 goes (omega (arith, ap (λ (circuit : CircuitData). nodes circuit.graph) left.0)) (c.self.invariant.0.counted ∙ sym left.1),
      c.self.invariant.1,
    )

pub returns : goal.returns
returns g c =
    let goes = went _ _ c.self.view_is c.ready_in_all.new.self c.ready_in_all.ensures.columns c.ready_in_all.ensures.kept c.is_well_formed.ensures.constant in
    rw (← c.self.view_is)
    (record {
      stays = stays_on _ _ c.self.invariant.0 goes;
      keeps = goes.keeps;
      readies = readies_by IsCutInColumns _ _ c.self.invariant.0 goes
          (g.A.Analyst.analysed c.args.analyst.now) (g.A.Analyst.analysed c.ready_in_all.new.analyst) c.ready_in_all.result c.ready_in_all.ensures.readies;
      fits = c.ready_in_all.ensures.fits;
      memory = ready_memory IsCutInColumns _ _ _
          (g.A.Analyst.analysed c.args.analyst.now) (g.A.Analyst.analysed c.ready_in_all.new.analyst) c.ready_in_all.result c.ready_in_all.ensures.readies;
    })
