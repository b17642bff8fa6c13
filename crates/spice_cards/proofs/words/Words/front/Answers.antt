use Rattle.std.proofs.Common.{take, ◌∙◌, ap}
use Rattle.spice_cards.proofs.PoolLemmas.{words_at-take}
use Rattle.spice_cards.proofs.words.Words.front.Goals as goal

pub returns : goal.returns
returns c =
    c.new.ensures ∙ words_at-take c.self.inside.text.now c.self.inside.spans.now _ c.args.count c.front.ensures ∙ ap (take c.args.count) c.self.view_is
