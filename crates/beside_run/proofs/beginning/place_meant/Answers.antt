-- A node that has its state stays; any other is placed.
use Rattle.std.proofs.Common.{◌≡◌, sym, ap, subst, ◌∙◌, arith}
use Rattle.std.specs.Prelude.{slice_set}
use Rattle.std.proofs.lemmas.Bool.{OnTrue_at}
use Rattle.switch_paths.specs.Switching.{state_at}
use Rattle.beside_run.proofs.BeginningLemmas.{placed_none, placed_same}
use Rattle.beside_run.proofs.beginning.place_meant.Goals as goal

pub bounds-state-node : goal.bounds-state-node
bounds-state-node c = omega (arith, c.requires.inside, c.requires.counted)

pub has_state-requires : goal.has_state-requires
has_state-requires c = rw c.state.ensures c.requires.inside

pub returns-then-has_state-clause-places : goal.returns-then-has_state-clause-places
returns-then-has_state-clause-places c =
    placed_none c.args.good_graph.now c.args.graph.now c.args.machine.now c.args.good.now c.args.apart.now.inside c.requires.fits

pub returns-then-has_state-clause-state : goal.returns-then-has_state-clause-state
returns-then-has_state-clause-state c =
    let states = c.args.machine.now.state in
    let node = c.args.node in
    let is : state_at states node ≡ state_at c.args.state.now node =
    subst (λ list. state_at list node ≡ state_at c.args.state.now node) c.state.ensures (OnTrue_at c.if-has_state.true c.has_state.ensures) in
    sym (placed_same states node) ∙ ap (slice_set states node) is

pub returns-clause-places : goal.returns-clause-places
returns-clause-places c =
    let both = c.place_both.ensures in
    record { fits = both.fits; build = both.build; held = both.held }

pub returns-clause-good : goal.returns-clause-good
returns-clause-good c = c.place_both.ensures.good_is ∙ placed_same c.args.good.now c.args.node
