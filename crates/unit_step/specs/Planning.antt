-- What is found of a graph before a machine is built of it.
use Rattle.std.specs.Prelude.{◌≡◌, ℕ, List, map, All, None, Some}
use Rattle.std.specs.List.{AllZip}
use Rattle.ternary.specs.declared.tern.Tern.{Tern}
use Rattle.switch_paths.specs.Graphs.{GraphData}
use Rattle.channel_groups.specs.Grouping.{AreOf, IsId}
use Rattle.group_text.specs.Texts.{local_nodes}
use Rattle.group_text.specs.FirstTexts.{first_texts}
use Rattle.circuit_texts.specs.Sizes.{refused_in}
use Rattle.circuit_texts.specs.Told.{told, with_text, without_text}
use Rattle.circuit_texts.specs.Choosing.{chosen}
use Rattle.circuit_texts.specs.Reading.{AreReads}
use Rattle.kept_parts.specs.Uses.{texts_used}
use Rattle.unit_step.specs.declared.planning.Plan.{Plan}

-- the plan has the groups of the graph, none of which is refused with this bound; for each of those that have a text its number, the nodes that
-- the text's local nodes stand for, and the nodes that it reads; the ids of those that have none; and this state. The texts that have a
-- number are the distinct ones
pub record IsPlan (large : ℕ) (g : GraphData) (state : List Tern) (plan : Plan) : Type 0 where
  pub are : AreOf g plan.groups
  pub fit : All (λ group. refused_in large group ≡ None) plan.groups.groups
  pub texts : texts_used plan.uses ≡ map Some (told g plan.groups.groups)
  pub known : plan.uses.known ≡ first_texts (told g plan.groups.groups)
  pub maps : map (λ nodes. nodes.items) plan.maps.items ≡ map (local_nodes g) (with_text plan.groups.groups)
  pub reads : AllZip (λ group list. AreReads g group list.items) (with_text plan.groups.groups) plan.reads.items
  pub untold : chosen plan.groups.groups plan.large.items ≡ without_text plan.groups.groups
  pub ids : All (λ id. IsId plan.groups.groups id.node) plan.large.items
  pub state_is : plan.state.items ≡ state
