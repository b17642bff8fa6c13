-- A rail has its state; any other node is placed.
use Rattle.std.proofs.Common.{inl, refl, sym, ap, ◌∙◌, arith}
use Rattle.std.specs.Prelude.{slice_set}
use Rattle.beside_run.proofs.BeginningLemmas.{comes_set, placed_none, placed_same}
use Rattle.beside_run.proofs.beginning.place_change.Goals as goal

pub returns-then-node-lt-RAILS : goal.returns-then-node-lt-RAILS
returns-then-node-lt-RAILS c =
    let good = c.args.good.now in
    let node = c.args.change.now.node in
    record {
      places = placed_none c.args.good_graph.now c.args.graph.now c.args.machine.now good c.args.apart.now.inside c.requires.fits;
      good_is = sym (placed_same good node) ∙ ap (slice_set good node) (c.requires.rail c.if-node-lt-RAILS.true);
      comes = λ n. inl refl;
    }

pub bounds-state-node : goal.bounds-state-node
bounds-state-node c = omega (arith, c.requires.inside, c.requires.fits.good_counted, c.requires.counted)

pub place_both-requires-clause-inside : goal.place_both-requires-clause-inside
place_both-requires-clause-inside c = omega (arith, c.requires.inside, c.requires.fits.good_counted)

pub returns : goal.returns
returns c =
    let both = c.place_both.ensures in
    record {
      places = record { fits = both.fits; build = both.build; held = both.held };
      good_is = both.good_is;
      comes = comes_set c.args.state.now c.args.machine.now.state c.place_both.new.machine.state c.args.change.now.node
          (omega (arith, c.requires.inside, c.requires.fits.good_counted)) both.state_is;
    }
