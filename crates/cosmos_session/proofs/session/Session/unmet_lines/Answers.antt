use Rattle.std.proofs.Common.{◌≡◌, ◌+◌, ◌++◌, ◌∙◌, ℕ, List, [], ◌∷◌, None, drop, refl, sym, ap, subst, arith}
use Rattle.std.proofs.lemmas.List.{drop_all}
use Rattle.std.proofs.lemmas.Result.{err_from_is_err_and}
use Rattle.script_lang.specs.declared.value.Value.{Value}
use Rattle.node_values.specs.Givings.{letters_given}
use Rattle.session_meaning.specs.Sessions.{HeldSession}
use Rattle.session_meaning.specs.Refusals.{first_refusal, given_refusal, none_at, place_refusal}
use Rattle.session_meaning.specs.Effects.{unmet_lines}
use Rattle.session_meaning.proofs.ItemLemmas.{given-end, given-next, refusal-next, refusal-stops}
use Rattle.session_meaning.proofs.LineLemmas.{unmet_lines-next}
use Rattle.cosmos_session.proofs.ItemLemmas.{item_stops, of_item}
use Rattle.cosmos_session.proofs.session.Session.unmet_lines.Goals as goal

pub returns-in-Some-clause-refused : goal.returns-in-Some-clause-refused
returns-in-Some-clause-refused g c = rw (← c.self.view_is, ← c.in-Some.ensures) refl

pub returns-in_err-add_unmet-clause-refused : goal.returns-in_err-add_unmet-clause-refused
returns-in_err-add_unmet-clause-refused g c =
    let core = c.args.self.now.core in
    let none : first_refusal (place_refusal core.circuit core.vectors) c.args.list.now ≡ None =
    subst (λ (s : HeldSession _). first_refusal (place_refusal s.core.circuit s.core.vectors) c.args.list.now ≡ None) c.self.view_is
    (sym (rw c.in_default.is at c.place_refusal.ensures)) in
    let refusal = λ (one : List ℕ × Value). given_refusal none_at (letters_given core.circuit core.vectors one) in
    let stopped = err_from_is_err_and c.from_residual.result c.from_residual.ensures.1 in
    rw (stopped.1, stopped.2, none)
    (refusal-stops refusal c.args.list.now c.loop-name.name-index c.loop-name-item.result _ (omega arith) c.loop-name-item.is
    c.loop-name.invariant.allowed
    (item_stops refusal c.loop-name-item.result c.items.result.now _ c.items.ensures c.in_err-add_unmet.ensures.refused))

pub loop-name-preserved : goal.loop-name-preserved
loop-name-preserved g c =
    let core = c.args.self.now.core in
    let list = c.args.list.now in
    let place = c.loop-name.name-index in
    let item = c.loop-name-item.result in
    let refusal = λ (one : List ℕ × Value). given_refusal none_at (letters_given core.circuit core.vectors one) in
    let none : refusal item ≡ None =
    of_item (λ (one : List ℕ × Value). refusal one ≡ None) item c.items.result.now c.items.ensures c.in_ok-add_unmet.ensures.allowed in
    let grown : c.add_unmet.new.lines.items ≡ c.loop-name.lines.items ++ unmet_lines core (item ∷ []) =
    of_item (λ (one : List ℕ × Value). c.add_unmet.new.lines.items ≡ c.loop-name.lines.items ++ unmet_lines core (one ∷ [])) item
    c.items.result.now c.items.ensures c.in_ok-add_unmet.ensures.lines in
    record {
      allowed = refusal-next refusal list place item (omega arith) c.loop-name-item.is none ∙ c.loop-name.invariant.allowed;
      lines = given-next c.loop-name.lines.items (unmet_lines core (item ∷ [])) c.add_unmet.new.lines.items (unmet_lines core (drop place list))
          (unmet_lines core (drop (place + 1) list)) (unmet_lines core list) c.loop-name.invariant.lines
          (unmet_lines-next core list place item (omega arith) c.loop-name-item.is) grown;
    }

pub returns-clause-allowed : goal.returns-clause-allowed
returns-clause-allowed g c =
    let core = c.args.self.now.core in
    let none : first_refusal (place_refusal core.circuit core.vectors) c.args.list.now ≡ None =
    subst (λ (s : HeldSession _). first_refusal (place_refusal s.core.circuit s.core.vectors) c.args.list.now ≡ None) c.self.view_is
    (sym (rw c.in_default.is at c.place_refusal.ensures)) in
    rw none
    (sym c.loop-name.invariant.allowed
    ∙ ap (first_refusal (λ (one : List ℕ × Value). given_refusal none_at (letters_given core.circuit core.vectors one)))
    (drop_all c.loop-name.name-index c.args.list.now (omega arith)))

pub returns-clause-lines : goal.returns-clause-lines
returns-clause-lines g c =
    given-end c.loop-name.lines.items _ _ c.loop-name.invariant.lines
    (ap (unmet_lines c.args.self.now.core) (drop_all c.loop-name.name-index c.args.list.now (omega arith)))
