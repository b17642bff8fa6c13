-- A switch with the same parts is the same.
use Rattle.std.proofs.Common.{◌≡◌, Some, ap, ◌∙◌}
use Rattle.std.proofs.lemmas.Bool.{OnTrue_at, OnTrue_from}
use Rattle.switch_paths.specs.declared.switching.Switch.{Switch}
use Rattle.edits_between.proofs.comparing.stands_at.Goals as goal

same_parts : (one other : Switch) → one.kind ≡ other.kind → one.level ≡ other.level → one.gate ≡ other.gate → one.a ≡ other.a → one.b ≡ other.b → one ≡ other
same_parts one other kind level gate a b i = record { kind = kind i; level = level i; gate = gate i; a = a i; b = b i }

pub returns-in-Some : goal.returns-in-Some
returns-in-Some c =
    OnTrue_from c.is_same.result _ (λ set.
    c.in-Some.is ∙ ap Some (same_parts c.in-Some.other c.args.switch (OnTrue_at set c.is_same.ensures.kind) (OnTrue_at set c.is_same.ensures.level)
    (OnTrue_at set c.is_same.ensures.gate) (OnTrue_at set c.is_same.ensures.a) (OnTrue_at set c.is_same.ensures.b)))
