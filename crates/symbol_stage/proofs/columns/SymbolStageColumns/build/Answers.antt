-- Groups without a text are never accepted; else it is the build of code for all groups, and what is kept stands as the table has it.
use Rattle.std.proofs.Common.{◌≡◌, ℕ, ◌⊎◌, inl, [], refl, sym, subst}
use Rattle.std.specs.Prelude.{IfOk, IfErr}
use Rattle.analysis_cache.specs.Keeping.{texts_of}
use Rattle.group_analysis.specs.Using.{used_texts}
use Rattle.circuit_texts.specs.declared.texts.BuildFault.{BuildFault}
use Rattle.circuit_texts.specs.declared.texts.BuildFault.TheVariants as build
use Rattle.circuit_texts.specs.Sizes.{TellsRefused}
use Rattle.circuit_texts.specs.Building.{Builds}
use Rattle.column_stage.specs.Standing.{IsCutInColumns}
use Rattle.column_stage.proofs.FrontLemmas.{none_missing}
use Rattle.column_stage.proofs.StandingLemmas.{builds_alone, cut_alone}
use Rattle.symbol_stage.proofs.ServingLemmas.{serves_alone, serves_table}
use Rattle.symbol_stage.proofs.StayingLemmas.{given_beside, columns_beside, on_ok, states_beside}
use Rattle.symbol_stage.proofs.columns.SymbolStageColumns.build.Goals as goal

pub make-requires-clause-serves : goal.make-requires-clause-serves
make-requires-clause-serves g c = serves_table c.args.self.now c.args.graph.now (texts_of c.args.kept.now) c.requires.serves

pub returns-then-large-eq0-clause-serves : goal.returns-then-large-eq0-clause-serves
returns-then-large-eq0-clause-serves g c = serves_alone c.make.new.self c.args.graph.now (texts_of c.make.new.kept) c.make.ensures.serves

pub returns-then-large-eq0-clause-columns : goal.returns-then-large-eq0-clause-columns
returns-then-large-eq0-clause-columns g c = columns_beside c.args.self.now c.make.new.self c.make.ensures.maker

pub returns-then-large-eq0-clause-states : goal.returns-then-large-eq0-clause-states
returns-then-large-eq0-clause-states g c = states_beside c.args.self.now c.make.new.self c.make.ensures.maker c.make.ensures.highs c.make.ensures.lows

pub returns-then-large-eq0-clause-builds : goal.returns-then-large-eq0-clause-builds
returns-then-large-eq0-clause-builds g c =
    subst (λ (n : ℕ). IfOk c.make.result (Builds n c.args.graph.now c.args.kept.now.bound (used_texts [] (texts_of c.args.kept.now))
    (used_texts [] (texts_of c.make.new.kept)) (g.A.Analyst.analysed c.args.analyst.now) (g.A.Analyst.analysed c.make.new.analyst)))
    (sym c.if-large-eq0.true)
    (builds_alone 0 c.args.graph.now c.args.kept.now.bound (texts_of c.args.kept.now) (texts_of c.make.new.kept) (g.A.Analyst.analysed c.args.analyst.now)
    (g.A.Analyst.analysed c.make.new.analyst) c.make.result c.make.ensures.builds)

pub returns-then-large-eq0-clause-last : goal.returns-then-large-eq0-clause-last
returns-then-large-eq0-clause-last g c = none_missing (texts_of c.make.new.kept)

pub returns-then-large-eq0-clause-cut_off : goal.returns-then-large-eq0-clause-cut_off
returns-then-large-eq0-clause-cut_off g c = λ is.
    subst (λ (n : ℕ). IsCutInColumns n c.args.graph.now c.args.kept.now.bound (used_texts [] (texts_of c.args.kept.now))
    (used_texts [] (texts_of c.make.new.kept)) (g.A.Analyst.analysed c.args.analyst.now) (g.A.Analyst.analysed c.make.new.analyst))
    (sym c.if-large-eq0.true)
    (cut_alone 0 c.args.graph.now c.args.kept.now.bound (texts_of c.args.kept.now) (texts_of c.make.new.kept) (g.A.Analyst.analysed c.args.analyst.now)
    (g.A.Analyst.analysed c.make.new.analyst) (c.make.ensures.cut_off is))

pub returns-then-large-eq0-clause-refused : goal.returns-then-large-eq0-clause-refused
returns-then-large-eq0-clause-refused g c =
    subst (λ (n : ℕ). IfErr c.make.result (λ (fault : BuildFault). (fault ≡ build.NoMemory) ⊎ (TellsRefused n c.args.graph.now fault
    × (c.make.new.kept ≡ c.args.kept.now) × (g.A.Analyst.analysed c.make.new.analyst ≡ g.A.Analyst.analysed c.args.analyst.now))))
    (sym c.if-large-eq0.true) c.make.ensures.refused

pub returns-then-large-eq0-clause-did : goal.returns-then-large-eq0-clause-did
returns-then-large-eq0-clause-did g c = on_ok c.make.result (record {
  moves = record {
    count = columns_beside c.args.self.now c.make.new.self c.make.ensures.maker;
    each = states_beside c.args.self.now c.make.new.self c.make.ensures.maker c.make.ensures.highs c.make.ensures.lows;
  };
  keeps = given_beside c.args.self.now c.make.new.self c.make.ensures.maker;
})

pub returns-clause-cut_off : goal.returns-clause-cut_off
returns-clause-cut_off g c = λ is. inl (inl (refl, refl))
