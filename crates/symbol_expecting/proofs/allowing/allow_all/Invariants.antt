-- The assignments before this one aren't refused.
use Rattle.std.proofs.Common.{◌≡◌, drop}
use Rattle.session_meaning.specs.Refusals.{givings_refusal, none_at}
use Rattle.symbol_expecting.proofs.allowing.allow_all.Given as goal

abbrev pub invariant-loop-name : goal.invariant-loop-name
invariant-loop-name l =
    givings_refusal none_at l.circuit l.vectors (drop l.name-index l.list) ≡ givings_refusal none_at l.circuit l.vectors l.list
