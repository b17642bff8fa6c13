use Rattle.std.proofs.Common.{◌≡◌, sym, ◌∙◌, rules}
use Rattle.line_words.specs.LineFaults.{is_comment}
use Rattle.line_words.proofs.CommentLemmas.{IsComment-from_test, is_comment-IsComment}
use Rattle.line_words.proofs.line_check.is_comment.Goals as goal

pub returns-clause-parts : goal.returns-clause-parts
returns-clause-parts c =
    let test : c.is_some_and.result ≡ is_comment c.args.bytes.now = search rules in
    (λ yes. IsComment-from_test c.args.bytes.now (sym test ∙ yes), λ is. test ∙ is_comment-IsComment c.args.bytes.now is)
