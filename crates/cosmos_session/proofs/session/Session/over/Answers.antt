-- The stage's columns are at their start, and nothing is kept.
use Rattle.std.proofs.Common.{◌≡◌, [], ap, ◌∙◌}
use Rattle.analysis_cache.specs.Keeping.{KeptData, texts_of}
use Rattle.session_meaning.specs.Sessions.{start_of}
use Rattle.cosmos_session.proofs.session.Session.over.Goals as goal

pub over_stage-requires : goal.over_stage-requires
over_stage-requires g c = record {
  bound = ap (λ (k : KeptData). k.bound) c.with_keys-kept.ensures;
  some = c.requires.some;
  start = c.requires.start;
  last = c.requires.last;
  serves = c.requires.serves _;
}

pub returns-clause-start : goal.returns-clause-start
returns-clause-start g c =
    let none : texts_of c.with_keys-kept.result ≡ [] = ap texts_of c.with_keys-kept.ensures in
    let made = c.over_stage.ensures in
    λ column inside.
    (λ i. record (made.core i) { state = g.M.Columns.states (made.stage i) column })
    ∙ (λ i. record (start_of c.args.circuit) { state = c.requires.start column inside i; kept = none i })
