-- A root that wasn't seen is taken; any other node is in, if it is asked.
use Rattle.std.proofs.Common.{◌≡◌, ◌∙◌, ap, refl, false, Some, None, length, arith}
use Rattle.std.specs.Prelude.{slice_get}
use Rattle.std.proofs.lemmas.Option.{slice_get_read}
use Rattle.switch_paths.specs.Spread.{rail_of}
use Rattle.why_path.specs.declared.search.Found.{Found}
use Rattle.why_path.specs.Search.{IsIn}
use Rattle.why_path.proofs.SearchLemmas.{rooted, rooted_found, entered}
use Rattle.why_path.proofs.search.add_root.Goals as goal

pub returns-clause-sound : goal.returns-clause-sound
returns-clause-sound c =
    let seen = c.args.progress.now.seen.items in
    let fresh : slice_get seen c.args.node ≡ Some false =
    slice_get_read seen (length seen) c.args.node c.index.result.now refl (omega (arith, c.requires.sound.marks)) c.index.ensures
    ∙ ap Some c.if-index.false in
    rw (c.in_ok-take.ensures.found, c.in_ok-take.ensures.seen)
    (rooted (rail_of c.args.progress.now.one) c.args.graph.now c.args.state.now c.args.best.now c.requires.sound c.args.node
    (c.if-not-is_root.ensures.0 refl) fresh)

pub returns-clause-root : goal.returns-clause-root
returns-clause-root c =
    let root : Found = record { node = c.args.node; strength = c.args.strength; last = None } in
    let in_new : IsIn c.take.new.progress.found.items c.args.node c.args.strength =
    rw c.in_ok-take.ensures.found (entered c.args.progress.now.found.items root) in
    rooted_found (rail_of c.args.progress.now.one) c.args.graph.now c.args.state.now c.args.best.now
    (returns-clause-sound c) c.args.node in_new
