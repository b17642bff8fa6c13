-- The first valuation is that of the first column in which the function of the difference holds.
use Rattle.std.proofs.Common.{sym, ◌∙◌}
use Rattle.symbol_comparing.specs.Rails.{rails_seen}
use Rattle.symbol_comparing.proofs.RailLemmas.{inside_all, inside_even}
use Rattle.symbol_comparing.proofs.WordLemmas.{found_by}
use Rattle.symbol_comparing.proofs.words.first_difference.Goals as goal

pub difference-requires : goal.difference-requires
difference-requires c = record {
  same = (sym c.if-one-other.false);
  lows = c.requires.one.columns.counted;
  others = c.requires.other.columns.counted ∙ (sym c.if-one-other.false);
  one_inside = inside_all c.args.symbols.now (rails_seen c.args.one) c.requires.one;
  other_inside = inside_even c.args.symbols.now (rails_seen c.args.one) (rails_seen c.args.other) c.requires.other (sym c.if-one-other.false);
}

pub returns-in-Ok-clause-found : goal.returns-in-Ok-clause-found
returns-in-Ok-clause-found c =
    found_by c.args.symbols.now (rails_seen c.args.one) (rails_seen c.args.other) c.requires.one c.requires.other (sym c.if-one-other.false)
    c.difference.new.graph.vertices c.in_ok-made.made.place c.in_ok-made.ensures.value c.difference.new.graph.variables
    c.difference.ensures.shape.variables c.in-Ok.found c.in-Ok.ensures.count c.in-Ok.ensures.first c.in-Ok.ensures.never
