use Rattle.std.proofs.Common.{◌≡◌, arith, append_assoc}
use Rattle.net_gen.proofs.LinesLemmas.{each-zero, each-more}
use Rattle.net_gen.specs.Columns.{cell, column}
use Rattle.net_gen.proofs.columns.put_column.Goals as goal

pub loop-j-init : goal.loop-j-init
loop-j-init c = each-zero _ 0 (cell c.args.c)

pub loop-j-preserved : goal.loop-j-preserved
loop-j-preserved c =
    each-more (cell c.args.c) 0 c.loop-j.j _ _ _ _ _ c.loop-j.invariant c.in_ok-put_cell.ensures (omega arith) (omega arith)

pub returns : goal.returns
unfolding column
returns c =
    let all : c.loop-j.j ≡ 4 = omega arith in
    let written = rw all at c.loop-j.invariant in
    rw (written, c.in_ok-put_bit_lines.ensures) (simp append_assoc)
