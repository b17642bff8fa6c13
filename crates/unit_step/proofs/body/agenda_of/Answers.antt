-- All parts wait at first, and then those without code alone.
use Rattle.std.proofs.Common.{◌≡◌, ◌+◌, true, length, refl, ap, ◌∙◌, arith}
use Rattle.std.specs.Prelude.{replicate}
use Rattle.std.proofs.lemmas.List.{length-replicate}
use Rattle.unit_step.proofs.BodyLemmas.{coded_inside, waits_coded}
use Rattle.unit_step.proofs.body.agenda_of.Goals as goal

pub make_ready-requires : goal.make_ready-requires
make_ready-requires c =
    let parts = c.args.parts.now in
    let inside = coded_inside parts c.in_ok-coded.coded.items c.in_ok-coded.ensures in
    let all : 0 + length parts ≡ length parts = omega arith in
    let marks : c.in_ok-agenda.agenda.marks ≡ replicate (length parts) true = c.in_ok-agenda.ensures.marks ∙ ap (λ n. replicate n true) all in
    rw (c.deref.ensures.value, marks) (λ k d within. omega (arith, inside k d within, length-replicate (length parts) true))

pub returns-clause-waiting : goal.returns-clause-waiting
returns-clause-waiting c =
    let parts = c.args.parts.now in
    let all = waits_coded parts c.in_ok-coded.coded.items (length parts) refl c.requires.some c.in_ok-coded.ensures in
    let waiting : c.in_ok-agenda.agenda.waiting ≡ replicate (length parts) true = c.in_ok-agenda.ensures.waiting in
    let freed = rw (c.deref.ensures.value, waiting) at c.make_ready.ensures.waiting in
    λ k. (λ marked. (all k).0 ((freed k).0 marked), λ stale. (freed k).1 ((all k).1 stale))
