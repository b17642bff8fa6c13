-- The texts are compared by their graphs, their members and then their constants.
use Rattle.std.proofs.Common.{◌≡◌, rules}
use Rattle.std.proofs.lemmas.Bool.Decides.{Decides-at}
use Rattle.group_text.specs.Compared.{same_text, same_text_decides}
use Rattle.group_text.proofs.compared.GroupTextPartialEq.eq.Goals as goal

pub returns-then-members-clause-same : goal.returns-then-members-clause-same
returns-then-members-clause-same c =
    let a = c.args.self.now in
    let b = c.args.other.now in
    let answer : c.eq-then-members.result ≡ same_text a b = search rules in
    Decides-at c.eq-then-members.result (same_text a b) answer (same_text_decides a b)
