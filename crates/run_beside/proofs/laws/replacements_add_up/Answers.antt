-- The laws of replacements that are counted.
use Rattle.run_beside.proofs.CountedReplacements.{replaces_later, replaces_then}
use Rattle.run_beside.proofs.laws.replacements_add_up.Goals as goal

pub returns-clause-replace : goal.returns-clause-replace
returns-clause-replace c = replaces_later

pub returns-clause-follow : goal.returns-clause-follow
returns-clause-follow c = replaces_then
