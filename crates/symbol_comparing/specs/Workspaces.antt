-- Where the lines of a comparison are written: what was written, if that is told, how many lines there are, and the sink's counts.
use Rattle.std.specs.Prelude.{ℕ, ◌==◌, List, Option, if◌then◌else◌}
use Rattle.run_ends.specs.declared.stop.End as end
use Rattle.run_ends.specs.declared.stop.End.TheVariants as ended

pub record WorkspaceData : Type 0 where
  pub written : Option (List ℕ)
  pub count : ℕ
  pub faults : ℕ
  pub refusals : ℕ

-- how a comparison with so many differences ends
abbrev pub ending_by : ℕ → end.End
ending_by count = if count == 0 then ended.Done else ended.Mismatch
