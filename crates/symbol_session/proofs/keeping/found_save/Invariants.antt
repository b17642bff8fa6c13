-- The names before this one aren't it; their functions end at the place.
use Rattle.std.proofs.Common.{drop}
use Rattle.symbol_session.proofs.FoundLemmas.{IsFoundBy}
use Rattle.symbol_session.proofs.keeping.found_save.Given as goal

abbrev pub invariant-loop-k : goal.invariant-loop-k
invariant-loop-k l = IsFoundBy l.saves l.name l.k l.place (drop l.k l.saves)
