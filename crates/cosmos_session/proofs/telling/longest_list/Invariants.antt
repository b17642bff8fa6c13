use Rattle.std.proofs.Common.{◌<◌, ◌^◌, take}
use Rattle.session_meaning.specs.Stages.{AreShortLists}
use Rattle.cosmos_session.proofs.telling.longest_list.Given as goal

abbrev pub invariant-loop-name : goal.invariant-loop-name
invariant-loop-name l = record {
  short : AreShortLists l.circuit l.vectors l.most (take l.name-index l.names);
  few : l.most < 2 ^ 62;
}
