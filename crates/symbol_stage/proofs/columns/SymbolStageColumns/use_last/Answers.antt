-- Nothing is counted as standing in front of what is kept.
use Rattle.analysis_cache.specs.Keeping.{texts_of}
use Rattle.column_stage.proofs.FrontLemmas.{kept_alone}
use Rattle.symbol_stage.proofs.columns.SymbolStageColumns.use_last.Goals as goal

pub returns-clause-kept : goal.returns-clause-kept
returns-clause-kept c = kept_alone (texts_of c.args._kept.now)
