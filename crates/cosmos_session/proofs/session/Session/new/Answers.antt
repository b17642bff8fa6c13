-- Nothing is kept yet.
use Rattle.std.proofs.Common.{◌≡◌, List, [], ap, ◌∙◌}
use Rattle.std.proofs.lemmas.Result.{IfOk-weaker}
use Rattle.group_text.specs.Texts.{GroupTextData}
use Rattle.analysis_cache.specs.Keeping.{KeptData, texts_of}
use Rattle.session_meaning.specs.Sessions.{start_of}
use Rattle.cosmos_session.proofs.session.Session.new.Goals as goal

pub start-requires : goal.start-requires
start-requires g c = ap (λ (k : KeptData). k.bound) c.with_keys-kept.ensures

pub returns-clause-core : goal.returns-clause-core
returns-clause-core g c =
    let none : texts_of c.with_keys-kept.result ≡ [] = ap texts_of c.with_keys-kept.ensures in
    IfOk-weaker c.start.result _ _
    (λ session same. same ∙ ap (λ (texts : List GroupTextData). record (start_of c.args.circuit) { kept = texts }) none) c.start.ensures.core
