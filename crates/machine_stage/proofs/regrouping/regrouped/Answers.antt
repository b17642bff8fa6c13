-- An edit leaves the texts of the last build, and so does one that lacks memory.
use Rattle.std.proofs.Common.{◌≡◌, ap, ◌∙◌, sym, true≢false}
use Rattle.analysis_cache.specs.Keeping.{texts_of}
use Rattle.machine_stage.specs.Machines.{last_in}
use Rattle.machine_stage.specs.declared.stage.Held.{Held}
use Rattle.machine_stage.specs.Held.{machine_held}
use Rattle.column_stage.proofs.FrontLemmas.{same_among}
use Rattle.machine_stage.proofs.regrouping.regrouped.Goals as goal

pub let_go-requires-clause-last : goal.let_go-requires-clause-last
let_go-requires-clause-last c =
    let was : last_in (machine_held c.args.held) ≡ c.in-Built.machine.last = ap (λ (held : Held). last_in (machine_held held)) c.in-Built.is in
    same_among _ _ (texts_of c.args.kept.now) (c.in-Ok.ensures.edits.last ∙ sym was) c.requires.last

pub let_go-requires-in-Err-clause-last : goal.let_go-requires-in-Err-clause-last
let_go-requires-in-Err-clause-last c =
    let was : last_in (machine_held c.args.held) ≡ c.in-Built.machine.last = ap (λ (held : Held). last_in (machine_held held)) c.in-Built.is in
    same_among _ _ (texts_of c.args.kept.now) (c.in-Err.ensures.last ∙ sym was) c.requires.last

pub returns-else-is_sparse-clause-last : goal.returns-else-is_sparse-clause-last
returns-else-is_sparse-clause-last c =
    let was : last_in (machine_held c.args.held) ≡ c.in-Built.machine.last = ap (λ (held : Held). last_in (machine_held held)) c.in-Built.is in
    same_among _ _ (texts_of c.args.kept.now) (c.in-Ok.ensures.edits.last ∙ sym was) c.requires.last

-- a machine that stays isn't sparse
pub returns-else-is_sparse-clause-dense : goal.returns-else-is_sparse-clause-dense
returns-else-is_sparse-clause-dense c = λ sparse. true≢false (sym (c.is_sparse.ensures.1 sparse) ∙ c.if-is_sparse.false)
