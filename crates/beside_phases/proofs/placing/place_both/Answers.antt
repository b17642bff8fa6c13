-- The machine fits beside the good run again.
use Rattle.std.proofs.Common.{◌≡◌, ◌≢◌, true, inl, inr, refl, ◌∙◌, arith}
use Rattle.std.proofs.lemmas.Bool.{cases_Bool, OnFalse_at}
use Rattle.beside_phases.proofs.PlacingBoth.{placing_both, comes_so}
use Rattle.beside_phases.proofs.placing.place_both.Goals as goal

pub separate-requires-clause-counted : goal.separate-requires-clause-counted
separate-requires-clause-counted c = c.requires.fits.apart_counted

pub bounds-good-node : goal.bounds-good-node
bounds-good-node c = omega (arith, c.requires.inside, c.requires.fits.good_counted)

pub set_node_among-requires-clause-counted : goal.set_node_among-requires-clause-counted
set_node_among-requires-clause-counted c = c.separate.ensures.count ∙ c.requires.fits.apart_counted

pub returns : goal.returns
returns c =
    let so : c.args.value ≢ c.args.bad_value → c.are_other.result ≡ true =
    λ two. elim (cases_Bool c.are_other.result) [ inl is ↦ is | inr isnt ↦ absurd (two (OnFalse_at isnt c.are_other.ensures)) ] in
    record {
      fits = placing_both c.args.good_graph.now c.args.graph.now c.args.good.now c.args.apart.now.inside c.separate.new.apart.inside c.args.node c.args.value
          c.args.bad_value c.args.machine.now c.set_node_among.new.self c.graphs_are_wired.ensures c.requires.no_rail c.requires.inside c.requires.fits
          (comes_so c.args.value c.args.bad_value c.are_other.result c.args.machine.now c.args.node c.args.apart.now.inside c.separate.new.apart.inside so
          c.separate.ensures) c.set_node_among.ensures;
      good_is = refl;
      state_is = c.set_node_among.ensures.state;
      build = c.set_node_among.ensures.build;
      held = c.set_node_among.ensures.held;
    }
