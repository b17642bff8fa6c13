-- There are as many from that place on.
use Rattle.std.proofs.Common.{arith, length-drop}
use Rattle.symbol_session.proofs.tidying.put_rest.Goals as goal

pub copy_from_slice-requires : goal.copy_from_slice-requires
copy_from_slice-requires c = omega (arith, c.requires, length-drop c.args.count c.args.found.now)
