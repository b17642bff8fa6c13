-- The graph of the groups that are known has no more nodes.
use Rattle.std.proofs.Common.{◌≤◌, subst}
use Rattle.switch_paths.specs.Graphs.{nodes}
use Rattle.wide_groups.specs.Moving.{graph_in}
use Rattle.wide_groups.proofs.staying.grown.Goals as goal

pub grown-requires : goal.grown-requires
grown-requires c = subst (λ one. nodes (graph_in one) ≤ c.args.count) c.in-Some.is c.requires
