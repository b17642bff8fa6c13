-- The groups so far aren't refused, and stand with those that have a text or with those that have none.
use Rattle.std.proofs.Common.{◌≡◌, None, take, All}
use Rattle.channel_groups.specs.Grouping.{IsId}
use Rattle.circuit_texts.specs.Sizes.{refused_in}
use Rattle.circuit_texts.specs.Choosing.{chosen}
use Rattle.circuit_texts.specs.Told.{with_text, without_text}
use Rattle.circuit_texts.proofs.sizes.sizes_at.Given as goal

abbrev pub invariant-loop-id : goal.invariant-loop-id
invariant-loop-id l = record {
  told : chosen l.groups.groups l.sizes.told.items ≡ with_text (chosen l.groups.groups (take l.id-index l.ids));
  large : chosen l.groups.groups l.sizes.large.items ≡ without_text (chosen l.groups.groups (take l.id-index l.ids));
  told_ids : All (λ id. IsId l.groups.groups id.node) l.sizes.told.items;
  large_ids : All (λ id. IsId l.groups.groups id.node) l.sizes.large.items;
  fits : All (λ group. refused_in l.large group ≡ None) (chosen l.groups.groups (take l.id-index l.ids));
}
