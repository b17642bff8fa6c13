-- The texts of the last build stand in front of what is kept, and count as standing there; so the stage serves the other circuit too.
use Rattle.std.proofs.Common.{◌≡◌, ℕ, ◌≤◌, List, sym, ap, subst, ◌∙◌, arith}
use Rattle.netlist.specs.Circuits.{CircuitData}
use Rattle.group_text.specs.Texts.{GroupTextData}
use Rattle.group_analysis.specs.Using.{used_texts}
use Rattle.analysis_cache.specs.Keeping.{KeptData, texts_of}
use Rattle.column_stage.proofs.FrontLemmas.{kept_alone}
use Rattle.session_meaning.specs.Sessions.{HeldSession, IsHeldSession, start_of}
use Rattle.cosmos_session.proofs.session.Session.restart.Given.{Over}
use Rattle.cosmos_session.proofs.session.Session.restart.Goals.{After-set_bound}
use Rattle.cosmos_session.proofs.StageLemmas.{start_alone}
use Rattle.cosmos_session.proofs.session.Session.restart.Goals as goal

-- what is kept is what the session kept
kept_is : (g : Over) (c : After-set_bound g) → texts_of c.set_bound.new.self ≡ c.args.self.core.kept
kept_is g c = ap texts_of c.set_bound.ensures ∙ c.use_last.ensures.kept ∙ ap (λ (s : HeldSession _). s.core.kept) c.self.view_is

pub over_stage-requires : goal.over_stage-requires
over_stage-requires g c =
    let kept = kept_is g (goal.at.over_stage-requires g c).After-set_bound in
    let table = texts_of c.set_bound.new.self in
    let last = c.again-again.ensures.last in
    let held : IsHeldSession g.M.Columns.columns g.M.Columns.states g.M.Columns.serves c.args.self =
    subst (IsHeldSession g.M.Columns.columns g.M.Columns.states g.M.Columns.serves) c.self.view_is c.self.invariant.0 in
    let served = c.again-again.ensures.serves c.args.self.core.circuit.graph c.in_ok-circuit.circuit.graph c.args.self.core.kept
    (subst (λ stage. g.M.Columns.serves stage c.args.self.core.circuit.graph c.args.self.core.kept) (sym (ap (λ (s : HeldSession _). s.stage) c.self.view_is)) held.served) in
    let front : used_texts (g.M.Columns.last c.again-again.result) table ≡ table =
    ap (λ (texts : List GroupTextData). used_texts texts table) last ∙ sym (kept_alone table) in
    record {
      bound = ap (λ (k : KeptData). k.bound) c.set_bound.ensures;
      some = subst (λ (n : ℕ). 1 ≤ n) (sym c.again-again.ensures.one) (omega arith);
      start = start_alone g.M.Columns.columns g.M.Columns.states c.again-again.result _ c.again-again.ensures.one (c.again-again.ensures.state ∙ c.in_ok-state.ensures);
      last = last;
      serves = subst (g.M.Columns.serves c.again-again.result c.in_ok-circuit.circuit.graph) (sym (front ∙ kept)) served;
    }

pub returns-clause-core : goal.returns-clause-core
returns-clause-core g c =
    c.over_stage.ensures.core
    ∙ ap (λ (texts : List GroupTextData). record (start_of c.in_ok-circuit.circuit) { kept = texts }) (kept_is g (goal.at.returns-clause-core g c).After-set_bound)
    ∙ ap (λ (circuit : CircuitData). record (start_of circuit) { kept = c.args.self.core.kept }) c.in_ok-circuit.ensures

pub returns-clause-starts : goal.returns-clause-starts
returns-clause-starts g c = subst g.M.PlainStage.starts (sym c.over_stage.ensures.stage) c.again-again.ensures.starts
