-- The machine covers its graph.
use Rattle.std.proofs.Common.{◌≡◌, Option, None, Some, subst, ◌∙◌}
use Rattle.std.specs.Prelude.{IfSome, option_map}
use Rattle.channel_groups.specs.Grouping.{AreOf}
use Rattle.fault_stage.proofs.CourseLemmas.{fits_anyway}
use Rattle.fault_stage.proofs.built.Built.groups_there.Goals as goal

-- what is there, seen by a function, is one of which something is so
there_is : {X Y : Type 0} (P : Y → Type 0) (see : X → Y) (found : Option X) (one : Y) → P one → option_map see found ≡ Some one → IfSome found (λ x. P (see x))
there_is P see None one is same = tt
there_is P see (Some x) one is same = let here : one ≡ see x = cc in subst P here is

pub returns : goal.returns
returns c =
    let b = c.args.self.now in
    let covers = (fits_anyway b.good b.graph b.machine b.state.items b.course c.requires.goes).covers in
    there_is (AreOf b.graph) (λ groups. groups.now) c.grouping.result covers.groups covers.are (c.grouping.ensures ∙ covers.kept)
