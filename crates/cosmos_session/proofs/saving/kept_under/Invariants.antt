use Rattle.std.proofs.Common.{◌≡◌, drop}
use Rattle.session_meaning.specs.Saves.{kept_under}
use Rattle.cosmos_session.proofs.saving.kept_under.Given as goal

abbrev pub invariant-loop-save : goal.invariant-loop-save
invariant-loop-save l = kept_under (drop l.save-index l.saves) l.name ≡ kept_under l.saves l.name
