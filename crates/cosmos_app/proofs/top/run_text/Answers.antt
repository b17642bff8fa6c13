-- What was told of the case of the purpose is told of the purpose.
use Rattle.std.proofs.Common.{◌≡◌, ℕ, List, Option, Result, sym, subst}
use Rattle.netlist.specs.Circuits.{CircuitData}
use Rattle.group_text.specs.Texts.{GroupTextData}
use Rattle.run_ends.specs.declared.stop.End as end
use Rattle.run_ends.specs.declared.stop.Stop.{Stop}
use Rattle.run_ends.specs.Ends.{IsToldBy}
use Rattle.command_line.specs.declared.request.Purpose.{Purpose}
use Rattle.cosmos_app.specs.Purposes.{IsRunFor}
use Rattle.cosmos_app.proofs.top.run_text.Goals as goal

told_for : {purpose other : Purpose} → purpose ≡ other → (text : List ℕ) (circuit : CircuitData) (old new : Option (List ℕ)) (before after : List GroupTextData)
    (result : Result end.End Stop) → IsToldBy (IsRunFor other text circuit) old new before after result →
    IsToldBy (IsRunFor purpose text circuit) old new before after result
told_for is text circuit old new before after result told =
    subst (λ (asked : Purpose). IsToldBy (IsRunFor asked text circuit) old new before after result) (sym is) told

pub returns-in-Lines-clause-told : goal.returns-in-Lines-clause-told
returns-in-Lines-clause-told g c =
    told_for c.in-Lines.is c.args.text.now c.args.circuit c.args.out.now.page.written c.simulate.new.out.page.written
    (g.A.Analyst.analysed c.args.analyst.now) (g.A.Analyst.analysed c.simulate.new.analyst) c.simulate.result c.simulate.ensures.told

pub returns-in-Columns-clause-told : goal.returns-in-Columns-clause-told
returns-in-Columns-clause-told g c =
    told_for c.in-Columns.is c.args.text.now c.args.circuit c.args.out.now.page.written c.run_columns.new.out.page.written
    (g.A.Analyst.analysed c.args.analyst.now) (g.A.Analyst.analysed c.run_columns.new.analyst) c.run_columns.result c.run_columns.ensures.told

pub returns-in-Reasons-clause-told : goal.returns-in-Reasons-clause-told
returns-in-Reasons-clause-told g c =
    told_for c.in-Reasons.is c.args.text.now c.args.circuit c.args.out.now.page.written c.explain.new.out.page.written
    (g.A.Analyst.analysed c.args.analyst.now) (g.A.Analyst.analysed c.explain.new.analyst) c.explain.result c.explain.ensures.told

pub returns-in-Cover-clause-told : goal.returns-in-Cover-clause-told
returns-in-Cover-clause-told g c =
    told_for c.in-Cover.is c.args.text.now c.args.circuit c.args.out.now.page.written c.cover_script.new.out.page.written
    (g.A.Analyst.analysed c.args.analyst.now) (g.A.Analyst.analysed c.cover_script.new.analyst) c.cover_script.result c.cover_script.ensures.told
