-- What compares as equal is the same.
use Rattle.std.proofs.Common.{◌≡◌, Bool, true, false, List, refl}
use Rattle.std.specs.Bool.{Decides}
use Rattle.std.proofs.lemmas.Bool.{OnTrue_from}
use Rattle.std.proofs.lemmas.Slice.Eq.{slice_eq-Decides}
use Rattle.ternary.specs.declared.tern.Tern.{Tern}
use Rattle.ternary.proofs.TernLemmas.{tern_eq-Decides}
use Rattle.fault_stage.proofs.passing.are_same.Goals as goal

same_then : (one other : List Tern) (same result : Bool) → Decides same (one ≡ other) → result ≡ same → result ≡ true → one ≡ other
same_then one other true result decides is set = decides.0 refl
same_then one other false result decides is set = absurd (cc)

pub returns : goal.returns
returns c = OnTrue_from _ _ (same_then c.args.one.now c.args.other.now _ c.eq.result (slice_eq-Decides tern_eq-Decides _ _ _ refl) c.eq.ensures)
