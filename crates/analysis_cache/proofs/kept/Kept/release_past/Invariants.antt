-- The last texts were cut, and released.
use Rattle.std.proofs.Common.{◌≡◌, ◌≤◌, length, take, drop}
use Rattle.group_analysis.specs.Held.{without_texts}
use Rattle.analysis_cache.specs.Keeping.{texts_of}
use Rattle.analysis_cache.proofs.kept.Kept.release_past.Given as goal

abbrev pub invariant-loop-self : goal.invariant-loop-self
invariant-loop-self g l =
    record {
      room : l.room ≤ length l.self.entries;
      fewer : length l.self.entries ≤ length l.fn.self.entries;
      entries : l.self.entries ≡ take (length l.self.entries) l.fn.self.entries;
      bound : l.self.bound ≡ l.fn.self.bound;
      analysed : g.A.Analyst.analysed l.analyst ≡ g.A.Analyst.analysed l.fn.analyst;
      held : g.A.Analyst.held l.analyst
          ≡ without_texts (g.A.Analyst.held l.fn.analyst) (drop (length l.self.entries) (texts_of l.fn.self));
    }

abbrev pub decreases-loop-self : goal.decreases-loop-self
decreases-loop-self g l = length l.self.entries
