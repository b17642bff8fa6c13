use Rattle.std.proofs.Common.{ℕ, ◌+◌, refl, arith, length-take, length-drop}
use Rattle.line_words.proofs.CutLemmas.{rest_from}
use Rattle.sim_read.proofs.StandingLemmas.{on_ok, passes-all, passes-line, passes-none}
use Rattle.sim_read.proofs.pieces.Reader.take.Goals as goal

pub lines-init : goal.lines-init
lines-init c = record { passes = passes-none c.args.self.now c.args.piece.now; shorter = omega arith }

pub returns-in_default : goal.returns-in_default
returns-in_default c =
    on_ok c.hold.result
    (passes-all c.args.self.now c.lines.self c.hold.new.self c.args.piece.now c.lines.left.now c.lines.invariant.passes) c.hold.ensures

pub lines-preserved : goal.lines-preserved
lines-preserved c = record {
  passes = passes-line c.args.self.now c.lines.self c.end_line.new.self c.args.piece.now c.lines.left.now _ _ c.in-Some.end c.lines.invariant.passes
      c.in-Some.ensures.ends refl (rest_from c.lines.left.now (c.in-Some.end + 1)) c.in_ok-end_line.ensures;
  shorter = omega (arith, length-take {A = ℕ}, length-drop {A = ℕ});
}

pub returns : goal.returns
returns c = passes-all c.args.self.now c.lines.self c.pass.new.self c.args.piece.now c.lines.left.now c.lines.invariant.passes c.pass.ensures
