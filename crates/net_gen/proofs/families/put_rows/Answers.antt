use Rattle.std.proofs.Common.{◌≡◌, ◌-◌, arith}
use Rattle.net_gen.specs.Families.{row}
use Rattle.net_gen.proofs.LinesLemmas.{each-zero, each-more}
use Rattle.net_gen.proofs.families.put_rows.Goals as goal

pub loop-r-init : goal.loop-r-init
loop-r-init c = each-zero _ 1 (row c.args.kind)

pub loop-r-preserved : goal.loop-r-preserved
loop-r-preserved c = each-more (row c.args.kind) 1 (c.loop-r.r - 1) _ _ _ _ _ c.loop-r.invariant c.in_ok-put_row.ensures (omega arith) (omega arith)

pub returns : goal.returns
returns c = let all : c.loop-r.r - 1 ≡ c.args.n = omega arith in rw all at c.loop-r.invariant
