-- What is kept and the others go on in one list, and each takes its part of what stands for them.
use Rattle.std.proofs.Common.{◌≡◌, ℕ, List, length, take, drop, All, sym, ap, ap₂, subst, ◌∙◌, arith, length-append}
use Rattle.std.proofs.lemmas.List.Elements.{All-append}
use Rattle.decision_graph.specs.declared.vertex.Function.{Function}
use Rattle.truth_makers.specs.Makers.{IsFunctionOf}
use Rattle.symbol_session.specs.Tidying.{AreTidied}
use Rattle.symbol_session.proofs.TidyLemmas.{tidied_both, tidied_none}
use Rattle.symbol_session.proofs.tidying.tidy_parts.Goals as goal

pub work_on_stage-requires : goal.work_on_stage-requires
work_on_stage-requires c =
    let has = IsFunctionOf c.args.session.now.stage.machine.maker in (
      c.requires.named,
      subst (λ (list : List Function). All has list) (sym c.in-Ok.ensures.items)
          (All-append has c.args.outside.now.kept.items c.args.others.now c.requires.kept c.requires.others),
      c.requires.some,
    )

pub put_rest-requires : goal.put_rest-requires
put_rest-requires c =
    omega (
      arith,
      c.work_on_stage.ensures.done.kept_moved.counted,
      c.len-count.ensures,
      c.args.outside.now.kept.ok.0,
      length-append c.args.outside.now.kept.items c.args.others.now,
      ap (λ (list : List Function). length list) c.in-Ok.ensures.items,
      ap (λ (list : List Function). length list) c.deref.ensures.value,
    )

pub returns-in-Ok-clause-tidied : goal.returns-in-Ok-clause-tidied
returns-in-Ok-clause-tidied c =
    let kept = c.args.outside.now.kept.items in
    let found = c.work_on_stage.new.worker.kept.items in
    let count : c.len-count.result ≡ length kept = omega (arith, c.len-count.ensures, c.args.outside.now.kept.ok.0) in
    tidied_both c.args.session.now c.work_on_stage.new.self c.args.outside.now.names c.work_on_stage.new.worker.names kept c.args.others.now
    c.extend_from_slice.new.self.items found c.truncate.new.self.items c.put_rest.new.list c.work_on_stage.ensures.core c.work_on_stage.ensures.states
    c.in-Ok.ensures.items c.work_on_stage.ensures.done (c.truncate.ensures.items ∙ ap (λ (n : ℕ). take n found) count)
    (c.put_rest.ensures ∙ ap₂ (λ (n : ℕ) (list : List Function). drop n list) count c.deref.ensures.value)

pub returns-in-Err-clause-tidied : goal.returns-in-Err-clause-tidied
returns-in-Err-clause-tidied c =
    let kept = c.args.outside.now.kept.items in
    let others = c.args.others.now in
    subst (λ (list : List Function). AreTidied c.args.session.now c.args.session.now c.args.outside.now.names c.args.outside.now.names kept list others others)
    (sym c.in-Err.ensures.items)
    (tidied_none c.args.session.now c.args.outside.now.names kept others c.requires.named c.requires.kept c.requires.others)
