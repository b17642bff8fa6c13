use Rattle.std.proofs.Common.{◌≡◌, ◌-◌, arith, append_assoc}
use Rattle.net_gen.proofs.LinesLemmas.{each-zero, each-more}
use Rattle.net_gen.specs.Passes.{pass, pass_row}
use Rattle.net_gen.proofs.passes.put_row.Goals as goal

pub loop-j-init : goal.loop-j-init
loop-j-init c = each-zero _ 1 (pass c.args.r)

pub loop-j-preserved : goal.loop-j-preserved
loop-j-preserved c = each-more (pass c.args.r) 1 (c.loop-j.j - 1) _ _ _ _ _ c.loop-j.invariant c.in_ok-put_pass.ensures (omega arith) (omega arith)

pub returns : goal.returns
unfolding pass_row
returns c =
    let all : c.loop-j.j - 1 ≡ 8 = omega arith in
    let written = rw all at c.loop-j.invariant in
    rw (written, c.in_ok-put.ensures) (simp append_assoc)
