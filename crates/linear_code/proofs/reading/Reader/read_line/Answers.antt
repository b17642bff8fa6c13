-- A text is cut at its first LF in one way.
use Rattle.std.proofs.Common.{sym, ◌∙◌}
use Rattle.linear_code.proofs.TextLemmas.{cut-same}
use Rattle.linear_code.proofs.AddingLemmas.{Lacks-bare_line}
use Rattle.linear_code.proofs.reading.Reader.read_line.Goals as goal

pub returns-in_default-line_of : goal.returns-in_default-line_of
returns-in_default-line_of c = λ added rest fits same.
    let parts = cut-same 10 _ _ _ _ c.in-Some.ensures.1 (Lacks-bare_line c.args.self.now added c.requires.small fits) (sym c.in-Some.ensures.0 ∙ same) in
    c.in_default-line_of.ensures added (record { fits = fits; bare = parts.0 })
