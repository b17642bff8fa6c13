-- The nodes that one switch more reads stand behind the others.
use Rattle.std.proofs.Common.{ℕ, [], get_or, take, sym, ap, arith, ◌∙◌}
use Rattle.std.specs.List.{flat_map}
use Rattle.std.proofs.lemmas.List.{flat_map_more, take_more}
use Rattle.switch_paths.specs.Graphs.{place_at}
use Rattle.circuit_texts.specs.Reading.{reads_at}
use Rattle.circuit_texts.proofs.reads.reads_in.Goals as goal

pub loop-place-preserved : goal.loop-place-preserved
loop-place-preserved c =
    let pieces = λ (place : ℕ). reads_at c.args.graph.now (place_at c.args.graph.now.places place) in
    let switches = c.args.switches.now in
    let i = c.loop-place.place-index in
    rw (c.in_ok-push_reads.ensures, c.switch_at.ensures.value, c.loop-place.invariant)
    (flat_map_more pieces [] (take i switches) (get_or switches i 0) ∙ ap (flat_map pieces) (sym (take_more switches i 0 (omega arith))))
