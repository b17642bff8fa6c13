-- What the workspace has written is what the sink has.
use Rattle.std.proofs.Common.{ℕ, List, Option, ap, subst, sym}
use Rattle.symbol_comparing.specs.Workspaces.{WorkspaceData}
use Rattle.symbol_comparing.specs.Notes.{shown_in}
use Rattle.symbol_comparing.specs.Told.{Compares}
use Rattle.symbol_comparing.proofs.comparing.compare.Goals as goal

pub returns-clause-told : goal.returns-clause-told
returns-clause-told g c = λ v are.
    let one = shown_in c.args.symbols.now c.args.first.now in
    let other = shown_in c.args.symbols.now c.args.second.now in
    let ended = c.compare_all-ended.result in
    let start = g.S.Sink.written c.args.sink in
    subst (λ (written : Option (List ℕ)). Compares v c.args.variables.now one other start written ended) (sym c.into_sink.ensures.written)
    (subst (λ (written : Option (List ℕ)). Compares v c.args.variables.now one other written c.compare_all-ended.new.workspace.written ended)
    (ap (λ (workspace : WorkspaceData). workspace.written) c.new-workspace.ensures) (c.compare_all-ended.ensures.told v are))
