-- All notes stay.
use Rattle.std.proofs.Common.{◌≡◌, ◌≤◌, ◌∙◌, length, ap, arith}
use Rattle.std.specs.Prelude.{vec_len}
use Rattle.state_cover.proofs.CoverLemmas.{filled}
use Rattle.state_cover.proofs.cover.Cover.make_room.Goals as goal

pub returns-clause-ok : goal.returns-clause-ok
returns-clause-ok c =
    let had = c.self.inside.had in
    let few : length had.items ≤ c.args.nodes = omega (arith, c.requires, ap length c.self.view_is) in
    let count : vec_len had ≡ length had.items = omega (arith, had.ok.0) in
    rw (← c.self.view_is) (c.in_ok-resize.ensures.items ∙ filled had.items c.args.nodes (vec_len had) count few)
