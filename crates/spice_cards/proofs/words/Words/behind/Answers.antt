use Rattle.std.proofs.Common.{drop, ◌∙◌, ap}
use Rattle.spice_cards.proofs.PoolLemmas.{words_at-drop}
use Rattle.spice_cards.proofs.words.Words.behind.Goals as goal

pub returns : goal.returns
returns c =
    c.new.ensures ∙ words_at-drop c.self.inside.text.now c.self.inside.spans.now _ c.args.count c.behind.ensures ∙ ap (drop c.args.count) c.self.view_is
