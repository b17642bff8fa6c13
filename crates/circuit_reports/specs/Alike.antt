-- Answers that are alike: if several texts are right, as of listings and of reasons, all else is the same.
use Rattle.std.specs.Prelude.{◌≡◌}
use Rattle.run_ends.specs.Answers.{Answer}

-- two answers have one status, and the same texts of groups are analysed for them
pub record AreAlike (answer other : Answer) : Type 0 where
  pub status : answer.status ≡ other.status
  pub texts : answer.texts ≡ other.texts
