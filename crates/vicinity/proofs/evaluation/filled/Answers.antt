-- All entries stay.
use Rattle.std.proofs.Common.{◌≡◌, length, ◌∙◌, arith}
use Rattle.std.specs.Prelude.{vec_len}
use Rattle.vicinity.proofs.GrowingLemmas.{filled_up}
use Rattle.vicinity.proofs.evaluation.filled.Goals as goal

pub returns : goal.returns
returns c =
    let table = c.args.table in
    let long : vec_len table ≡ length table.items = omega (arith, table.ok.0) in
    c.in_ok-resize.ensures.items ∙ filled_up table.items 0 c.args.nodes (vec_len table) long c.requires
