-- The function that holds nowhere is alone.
use Rattle.std.proofs.Common.{◌≡◌, [], ◌∷◌, rules}
use Rattle.symbol_session.proofs.StartLemmas.{first_alone}
use Rattle.symbol_session.proofs.starting.first_kept.Goals as goal

pub returns : goal.returns
returns c =
    let kept : c.in_ok-kept.kept.items ≡ c.constant-never.result ∷ [] = search rules in
    first_alone c.args.symbols.now c.in_ok-kept.kept.items c.constant-never.result kept c.constant-never.ensures.has c.constant-never.ensures.value
