-- What was copied differs from what was there where `!=` says so.
use Rattle.std.proofs.Common.{◌≡◌, ◌≢◌, Bool, true, false, not, List, refl}
use Rattle.std.specs.Bool.{Decides}
use Rattle.std.proofs.lemmas.Bool.{OnTrue_from, OnFalse_from}
use Rattle.std.proofs.lemmas.Bool.Decides.{not_from_Decides}
use Rattle.std.proofs.lemmas.Slice.Eq.{slice_eq-Decides}
use Rattle.ternary.specs.declared.tern.Tern.{Tern}
use Rattle.ternary.proofs.TernLemmas.{tern_eq-Decides}
use Rattle.settling.proofs.plain_stepping.take_over.Goals as goal

differs : (old next new : List Tern) (same result : Bool) → Decides same (old ≡ next) → result ≡ not same → new ≡ next →
    (result ≡ true → new ≢ old) × (result ≡ false → new ≡ old)
differs old next new true result decides is copied = ((λ set. absurd (cc)), (λ unset. cc (decides.0 refl)))
differs old next new false result decides is copied =
    ((λ set equal. not_from_Decides false decides refl (cc)), (λ unset. absurd (cc)))

pub returns-clause-changed : goal.returns-clause-changed
returns-clause-changed c = OnTrue_from _ _
    (differs c.args.state.now c.args.next.now c.copy_from_slice.new.self _ c.ne-changed.result
    (slice_eq-Decides tern_eq-Decides _ _ _ refl) c.ne-changed.ensures c.copy_from_slice.ensures.after).0

pub returns-clause-same : goal.returns-clause-same
returns-clause-same c = OnFalse_from _ _
    (differs c.args.state.now c.args.next.now c.copy_from_slice.new.self _ c.ne-changed.result
    (slice_eq-Decides tern_eq-Decides _ _ _ refl) c.ne-changed.ensures c.copy_from_slice.ensures.after).1
