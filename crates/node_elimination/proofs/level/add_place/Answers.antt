-- The switch links its ends both ways.
use Rattle.std.proofs.Common.{◌≡◌, Some, ◌∙◌, sym, arith}
use Rattle.std.proofs.lemmas.Result.{on_ok_weaker}
use Rattle.switch_paths.specs.Graphs.{Fits, nodes, place_at}
use Rattle.node_elimination.proofs.EquationsLemmas.{Moves-trans}
use Rattle.node_elimination.proofs.LinkLemmas.{AddsLink-size, AddsLinks-both}
use Rattle.node_elimination.proofs.level.add_place.Goals as goal

pub returns-in_ok-add_link-in-Some-clause-moves : goal.returns-in_ok-add_link-in-Some-clause-moves
returns-in_ok-add_link-in-Some-clause-moves g c =
    let first = c.in_ok-add_link-in-Some.ensures in
    on_ok_weaker c.add_link-in-Some.result
    (λ moves. Moves-trans _ _ _ _ _ _ _ _ _ _ first.moves moves
    (omega (arith, first.rises, c.add_link-in-Some.ensures.rises)))
    c.add_link-in-Some.ensures.moves

pub returns-in_ok-add_link-in-Some-clause-adds : goal.returns-in_ok-add_link-in-Some-clause-adds
returns-in_ok-add_link-in-Some-clause-adds g c =
    let first = c.in_ok-add_link-in-Some.ensures in
    let graph = c.args.links.now.graph.now in
    let switch = c.in-Some.switch in
    let stands : place_at graph.places c.args.place ≡ Some switch = sym c.switch_at.ensures.value ∙ c.in-Some.is in
    let fits : Fits (nodes graph) switch = rw c.in-Some.is at c.switch_at.ensures.fits in
    on_ok_weaker c.add_link-in-Some.result
    (λ adds.
    AddsLinks-both graph _ _ _ _ _ _ _ _ _ _ _ c.requires.fit first.extends c.args.place switch stands c.if-switch-links.true
    fits.a fits.b
    first.adds (AddsLink-size _ _ _ _ _ _ _ _ _ _ _ first.moves.size adds))
    c.add_link-in-Some.ensures.adds
