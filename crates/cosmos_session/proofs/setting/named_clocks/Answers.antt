use Rattle.std.proofs.Common.{arith}
use Rattle.cosmos_session.proofs.setting.named_clocks.Goals as goal

pub unwrap-node-requires : goal.unwrap-node-requires
unwrap-node-requires c =
    rw (c.find.ensures.value, c.items.ensures, c.loop-name-item.is) (c.requires c.loop-name.name-index c.loop-name-item.result (omega arith))
