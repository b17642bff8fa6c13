-- No code ran in what is there so far, and there is room for the rest.
use Rattle.std.proofs.Common.{◌≡◌, ◌+◌, ◌-◌, ◌≤◌, None, All, vec_len}
use Rattle.std.specs.Prelude.{vec_capacity}
use Rattle.part_words.specs.declared.last_runs.LastRuns.{LastRuns}
use Rattle.part_words.proofs.last_runs.KnownRuns.with_room.Given as goal

abbrev pub invariant-loop : goal.invariant-loop
invariant-loop l = record {
  fresh : All (λ (runs : LastRuns). runs.place ≡ None) l.codes.items;
  room : vec_len l.codes + (8 - l.counter) ≤ vec_capacity l.codes;
}
