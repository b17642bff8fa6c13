-- One member more, and the terminals of one switch more.
use Rattle.std.proofs.Common.{ℕ, arith}
use Rattle.switch_paths.specs.Graphs.{place_at}
use Rattle.group_text.specs.Texts.{terminals_of}
use Rattle.group_text.proofs.FirstsLemmas.{firsts_more, firsts_more_pieces}
use Rattle.group_text.proofs.local.collect_nodes.Goals as goal

pub loop-member-preserved : goal.loop-member-preserved
loop-member-preserved c =
    rw (c.in_ok-insert.ensures.keys, c.loop-member.invariant)
    (firsts_more c.args.members.now c.loop-member.member-index (omega arith))

pub loop-place-preserved : goal.loop-place-preserved
loop-place-preserved c =
    let pieces = λ (place : ℕ). terminals_of (place_at c.args.graph.now.places place) in
    rw (c.in_ok-insert_terminals.ensures, c.switch_at.ensures.value, c.loop-place.invariant)
    (firsts_more_pieces c.args.members.now pieces c.args.switches.now c.loop-place.place-index (omega arith))
