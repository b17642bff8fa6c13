-- Each way to end says what the text means: a refusal that was met, the ended lines alone, or these and the held line.
use Rattle.std.proofs.Common.{◌≡◌, ◌∙◌, ◌+◌, ◌<◌, ℕ, List, [], length, Ok, None, Some, IfOk, sym, ap, subst, arith}
use Rattle.line_words.specs.Lines.{without_return}
use Rattle.sim_read.specs.Meaning.{line_meaning, netlist_of}
use Rattle.ternary.specs.Unmade.{IsFault}
use Rattle.sim_read.specs.Standing.{IsRead, ReaderData, StandsFor}
use Rattle.sim_read.proofs.CircuitLemmas.{netlist_of-visible}
use Rattle.sim_read.proofs.StandingLemmas.{finishes_ended, finishes_last, refuses_last, finishes_refused, if_err, if_ok, no_bytes, none_left, some_bytes}
use Rattle.sim_read.proofs.pieces.Reader.finish.Goals.{In_ok-fault}
use Rattle.sim_read.proofs.pieces.Reader.finish.Goals as goal

pub returns-in-Some-clause-refused : goal.returns-in-Some-clause-refused
returns-in-Some-clause-refused c =
    subst (λ (r : ReaderData). (text : List ℕ) → StandsFor r text → IsFault (netlist_of text) c.in-Some.fault) c.self.view_is
    (finishes_refused _ c.in-Some.fault c.in-Some.is)

pub returns-then-is_empty-clause-ok : goal.returns-then-is_empty-clause-ok
returns-then-is_empty-clause-ok c =
    let none = none_left _ (sym c.is_empty.ensures ∙ c.if-is_empty.true) in
    let empty : c.self.inside.held.items ≡ [] = no_bytes c.self.inside.held.items (omega arith) in
    subst (λ (r : ReaderData). IfOk c.finish_draft.result (λ circuit. (text : List ℕ) → StandsFor r text → netlist_of text ≡ Ok circuit)) c.self.view_is
    (if_ok c.finish_draft.result (λ circuit same text stood. finishes_ended _ c.in_default.is empty text stood ∙ ap Ok (sym same))
    c.finish_draft.ensures.ok)

pub returns-then-is_empty-clause-refused : goal.returns-then-is_empty-clause-refused
returns-then-is_empty-clause-refused c =
    if_err c.finish_draft.result (λ fault same text stood. subst (IsFault (netlist_of text)) (sym same) tt) c.finish_draft.ensures.err

pub returns-then-is_empty-clause-visible : goal.returns-then-is_empty-clause-visible
returns-then-is_empty-clause-visible c =
    let means : IfOk c.finish_draft.result (λ circuit. (text : List ℕ) → StandsFor c.args.self text → netlist_of text ≡ Ok circuit) =
    returns-then-is_empty-clause-ok c in
    if_ok c.finish_draft.result (λ circuit each text stood. netlist_of-visible text circuit (each text stood)) means

-- there are bytes of a last line, which is read as it is held
some_held : (c : In_ok-fault) → 0 < length c.self.inside.held.items
some_held c =
    let left = some_bytes _ (sym c.is_empty.ensures ∙ c.if-is_empty.false) in
    omega arith

reads_held : (c : In_ok-fault) → IsRead (line_meaning None c.self.inside.draft (c.self.inside.ended + 1, without_return c.self.inside.held.items))
    (c.self.inside.ended + 1) c.read_held.new.draft c.in_ok-fault.field-0
reads_held c =
    subst (λ line. IsRead (line_meaning None c.self.inside.draft (c.self.inside.ended + 1, without_return line)) (c.self.inside.ended + 1)
    c.read_held.new.draft c.in_ok-fault.field-0)
    c.deref.ensures.value c.in_ok-fault.ensures.reads

pub returns-in-Some-2-clause-refused : goal.returns-in-Some-2-clause-refused
returns-in-Some-2-clause-refused c =
    let read = (goal.at.returns-in-Some-2-clause-refused c).In_ok-fault in
    let number : ℕ = c.self.inside.ended + 1 in
    let refuses : IsRead (line_meaning None c.self.inside.draft (number, without_return c.self.inside.held.items)) number c.read_held.new.draft (Some c.in-Some-2.fault) =
    subst (IsRead (line_meaning None c.self.inside.draft (number, without_return c.self.inside.held.items)) number c.read_held.new.draft) c.in-Some-2.is (reads_held read) in
    subst (λ (r : ReaderData). (text : List ℕ) → StandsFor r text → IsFault (netlist_of text) c.in-Some-2.fault) c.self.view_is
    (refuses_last _ c.read_held.new.draft c.in-Some-2.fault c.in_default.is (some_held read) refuses)

-- what the held line added is bounded by its bytes
pub finish_draft-requires-in-None : goal.finish_draft-requires-in-None
finish_draft-requires-in-None c =
    let size : length c.deref.result.now ≡ length c.self.inside.held.items = ap length c.deref.ensures.value in
    let before = c.self.invariant in
    let bound = c.read_held.ensures.bound in
    omega arith

pub returns-in-None-clause-ok : goal.returns-in-None-clause-ok
returns-in-None-clause-ok c =
    let read = (goal.at.returns-in-None-clause-ok c).In_ok-fault in
    let number : ℕ = c.self.inside.ended + 1 in
    let made : IsRead (line_meaning None c.self.inside.draft (number, without_return c.self.inside.held.items)) number c.read_held.new.draft None =
    subst (IsRead (line_meaning None c.self.inside.draft (number, without_return c.self.inside.held.items)) number c.read_held.new.draft) c.in-None.is (reads_held read) in
    subst (λ (r : ReaderData). IfOk c.finish_draft-in-None.result (λ circuit. (text : List ℕ) → StandsFor r text → netlist_of text ≡ Ok circuit)) c.self.view_is
    (if_ok c.finish_draft-in-None.result
    (λ circuit same text stood. finishes_last _ c.read_held.new.draft c.in_default.is (some_held read) made text stood ∙ ap Ok (sym same))
    c.finish_draft-in-None.ensures.ok)

pub returns-in-None-clause-refused : goal.returns-in-None-clause-refused
returns-in-None-clause-refused c =
    if_err c.finish_draft-in-None.result (λ fault same text stood. subst (IsFault (netlist_of text)) (sym same) tt) c.finish_draft-in-None.ensures.err

pub returns-in-None-clause-visible : goal.returns-in-None-clause-visible
returns-in-None-clause-visible c =
    let means : IfOk c.finish_draft-in-None.result (λ circuit. (text : List ℕ) → StandsFor c.args.self text → netlist_of text ≡ Ok circuit) =
    returns-in-None-clause-ok c in
    if_ok c.finish_draft-in-None.result (λ circuit each text stood. netlist_of-visible text circuit (each text stood)) means
