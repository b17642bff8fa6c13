use Rattle.std.proofs.Common.{◌≡◌, ℕ, ◌*◌, ◌^◌, ◌<◌, arith, append_assoc}
use Rattle.net_gen.specs.declared.families.GenKind.{GenKind}
use Rattle.net_gen.specs.declared.families.GenKind.TheVariants.{Inverters, Passes, Columns}
use Rattle.net_gen.specs.Families.{turn_count, draws_in_turn, turn}
use Rattle.net_gen.proofs.LinesLemmas.{AfterTurns-none, AfterTurns-more}
use Rattle.net_gen.proofs.families.put_script.Goals as goal

-- the turns of a script take few draws
few_draws : (kind : GenKind) (turn : ℕ) → turn < turn_count kind → draws_in_turn kind * turn < 2 ^ 16
few_draws Inverters turn inside = omega (arith, inside)
few_draws Passes turn inside = omega (arith, inside)
few_draws Columns turn inside = omega (arith, inside)

pub put_turn-requires : goal.put_turn-requires
put_turn-requires c =
    let inside : c.loop-turn._turn < turn_count c.args.kind = omega arith in
    rw c.loop-turn.invariant.all_drawn (few_draws c.args.kind c.loop-turn._turn inside)

pub loop-turn-init : goal.loop-turn-init
loop-turn-init c =
    AfterTurns-none (turn c.args.kind) (draws_in_turn c.args.kind) _ _ _ _ c.new-draws.ensures.seed c.new-draws.ensures.drawn

pub loop-turn-preserved : goal.loop-turn-preserved
loop-turn-preserved c =
    AfterTurns-more _ _ _ c.loop-turn.invariant c.in_ok-put_turn.ensures.text c.put_turn.ensures.seed
    c.in_ok-put_turn.ensures.drawn

pub returns : goal.returns
returns c =
    let all : c.loop-turn._turn ≡ turn_count c.args.kind = omega arith in
    let written = rw all at c.loop-turn.invariant.written in
    rw (written, c.in_ok-put_start.ensures) (simp append_assoc)
