use Rattle.std.proofs.Common.{Some, None, ◌∙◌}
use Rattle.sim_read.proofs.ItemLemmas.{setting_after-word}
use Rattle.sim_read.proofs.items.setting_by_words.Goals as goal

pub returns-in_err-setting-clause-value : goal.returns-in_err-setting-clause-value
returns-in_err-setting-clause-value c =
    c.from_residual.ensures
    ∙ setting_after-word c.args.profile c.loop-word.setting None c.in-Some.ensures.steps c.items_of.ensures c.in_err-setting.ensures.value
    ∙ c.loop-word.invariant.0

pub loop-word-preserved : goal.loop-word-preserved
loop-word-preserved c = (
  setting_after-word c.args.profile c.loop-word.setting (Some c.in_ok-setting.setting)
      c.in-Some.ensures.steps c.items_of.ensures c.in_ok-setting.ensures.value
      ∙ c.loop-word.invariant.0,
  c.in_ok-setting.ensures.accepted,
)
