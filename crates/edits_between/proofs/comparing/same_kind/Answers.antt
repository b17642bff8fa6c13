-- What compares as equal is the same.
use Rattle.std.proofs.Common.{◌≡◌, rules}
use Rattle.std.specs.Bool.{Decides}
use Rattle.std.proofs.lemmas.Bool.{OnTrue_from}
use Rattle.std.proofs.lemmas.Bool.Decides.{Decides-at}
use Rattle.switch_paths.specs.declared.switching.SwitchKind.{SwitchKind}
use Rattle.switch_paths.specs.contracts.switching.SwitchKindPartialEq.TheImpl as kind
use Rattle.edits_between.proofs.comparing.same_kind.Goals as goal

-- the test of two kinds decides
kinds_decide : (a b : SwitchKind) → Decides (kind.eq-value.it a b) (a ≡ b)
kinds_decide a b = search rules

pub returns : goal.returns
returns c =
    let a = c.args.one in
    let b = c.args.other in
    let answer : c.eq.result ≡ kind.eq-value.it a b = search rules in
    OnTrue_from c.eq.result _ (λ set. (Decides-at c.eq.result (kind.eq-value.it a b) answer (kinds_decide a b)).0 set)
