use Rattle.std.proofs.Common.{◌≤◌, ◌<◌, ◌^◌, All, length, take}
use Rattle.cosmos_session.proofs.telling.longest_shown.Given as goal

abbrev pub invariant-loop-name : goal.invariant-loop-name
invariant-loop-name l = record {
  longest : All (λ name. length name ≤ l.most) (take l.name-index l.names);
  few : l.most < 2 ^ 63;
}
