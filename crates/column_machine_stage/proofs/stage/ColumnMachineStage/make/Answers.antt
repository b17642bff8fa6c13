-- The machine that is there is finished, or one is made.
use Rattle.std.proofs.Common.{◌≡◌}
use Rattle.std.proofs.lemmas.Bool.{OnTrue_at, OnFalse_at}
use Rattle.analysis_cache.specs.Keeping.{texts_of}
use Rattle.circuit_texts.specs.declared.texts.BuildFault.{BuildFault}
use Rattle.circuit_texts.specs.Sizes.{TellsRefused}
use Rattle.column_machine_stage.proofs.ServingLemmas.{builds_alone, cut_alone, cut_finished, last_alone, last_finished, refused_finished, serves_alone, serves_before, serves_finished}
use Rattle.column_machine_stage.proofs.stage.ColumnMachineStage.make.Goals as goal

pub finish-requires-clause-together : goal.finish-requires-clause-together
finish-requires-clause-together g c = OnTrue_at c.if-is_together.true c.is_together.ensures.yes

pub returns-then-is_together-clause-serves : goal.returns-then-is_together-clause-serves
returns-then-is_together-clause-serves g c =
    serves_finished c.args.large c.args.graph.now c.args.kept.now.bound c.args.self.now c.finish.new.self c.args.kept.now c.finish.new.kept _ _ c.finish.result
    (OnTrue_at c.if-is_together.true c.is_together.ensures.yes) c.requires.serves c.finish.ensures.made c.finish.ensures.together c.finish.ensures.err c.finish.ensures.grown
    c.finish.ensures.builds

pub returns-then-is_together-clause-last : goal.returns-then-is_together-clause-last
returns-then-is_together-clause-last g c =
    last_finished c.args.self.now c.finish.new.self c.args.kept.now c.finish.new.kept c.finish.result c.requires.last c.finish.ensures.last c.finish.ensures.err
    c.finish.ensures.grown

pub returns-then-is_together-clause-cut_off : goal.returns-then-is_together-clause-cut_off
returns-then-is_together-clause-cut_off g c = λ is.
    cut_finished c.args.large c.args.graph.now c.args.kept.now.bound c.args.self.now c.finish.new.self (texts_of c.args.kept.now) (texts_of c.finish.new.kept) _ _
    c.finish.result is c.finish.ensures.err (c.finish.ensures.cut_off is)

pub returns-then-is_together-clause-refused : goal.returns-then-is_together-clause-refused
returns-then-is_together-clause-refused g c =
    refused_finished
    (λ (fault : BuildFault). TellsRefused c.args.large c.args.graph.now fault × (c.finish.new.kept ≡ c.args.kept.now)
    × (g.A.Analyst.analysed c.finish.new.analyst ≡ g.A.Analyst.analysed c.args.analyst.now)) c.finish.result c.finish.ensures.refused

pub make_anew-requires-clause-turns : goal.make_anew-requires-clause-turns
make_anew-requires-clause-turns g c = OnFalse_at c.if-is_together.false c.is_together.ensures.no

pub make_anew-requires-clause-serves : goal.make_anew-requires-clause-serves
make_anew-requires-clause-serves g c =
    serves_before c.args.large c.args.graph.now c.args.kept.now.bound c.args.self.now c.args.self.now (texts_of c.args.kept.now) (texts_of c.args.kept.now)
    (g.A.Analyst.analysed c.args.analyst.now) (g.A.Analyst.analysed c.args.analyst.now) (OnFalse_at c.if-is_together.false c.is_together.ensures.no) c.requires.serves

pub returns-clause-serves : goal.returns-clause-serves
returns-clause-serves g c =
    let made = c.make_anew.ensures in
    serves_alone c.args.large c.args.graph.now c.args.kept.now.bound c.args.self.now c.make_anew.new.self (texts_of c.args.kept.now) (texts_of c.make_anew.new.kept)
    (g.A.Analyst.analysed c.args.analyst.now) (g.A.Analyst.analysed c.make_anew.new.analyst) (OnFalse_at c.if-is_together.false c.is_together.ensures.no)
    c.make_anew.result made.front made.err made.serves

pub returns-clause-builds : goal.returns-clause-builds
returns-clause-builds g c =
    let made = c.make_anew.ensures in
    builds_alone c.args.large c.args.graph.now c.args.kept.now.bound c.args.self.now c.make_anew.new.self (texts_of c.args.kept.now) (texts_of c.make_anew.new.kept)
    (g.A.Analyst.analysed c.args.analyst.now) (g.A.Analyst.analysed c.make_anew.new.analyst) (OnFalse_at c.if-is_together.false c.is_together.ensures.no)
    c.make_anew.result made.front made.builds

pub returns-clause-last : goal.returns-clause-last
returns-clause-last g c =
    let made = c.make_anew.ensures in
    last_alone c.args.large c.args.graph.now c.args.kept.now.bound c.args.self.now c.make_anew.new.self (texts_of c.args.kept.now) (texts_of c.make_anew.new.kept)
    (g.A.Analyst.analysed c.args.analyst.now) (g.A.Analyst.analysed c.make_anew.new.analyst) (OnFalse_at c.if-is_together.false c.is_together.ensures.no)
    c.make_anew.result made.last made.err

pub returns-clause-cut_off : goal.returns-clause-cut_off
returns-clause-cut_off g c = λ is.
    let made = c.make_anew.ensures in
    cut_alone c.args.large c.args.graph.now c.args.kept.now.bound c.args.self.now c.make_anew.new.self (texts_of c.args.kept.now) (texts_of c.make_anew.new.kept)
    (g.A.Analyst.analysed c.args.analyst.now) (g.A.Analyst.analysed c.make_anew.new.analyst) (OnFalse_at c.if-is_together.false c.is_together.ensures.no)
    c.make_anew.result made.front made.err (made.cut_off is)
