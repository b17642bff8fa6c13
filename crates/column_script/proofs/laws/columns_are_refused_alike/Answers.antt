use Rattle.column_script.proofs.ColumnLemmas.{refused-alike, passed-alike}
use Rattle.column_script.proofs.laws.columns_are_refused_alike.Goals as goal

pub returns-clause-refused : goal.returns-clause-refused
returns-clause-refused c = refused-alike

pub returns-clause-passed : goal.returns-clause-passed
returns-clause-passed c = passed-alike
