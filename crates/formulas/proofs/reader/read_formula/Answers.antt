-- What is read is a formula of the grammar, and each of these is read.
use Rattle.std.proofs.Common.{◌≡◌, Some, None, sym, ◌∙◌, subst}
use Rattle.formulas.specs.Formulas.{IsWritten, postfix}
use Rattle.formulas.specs.Reading.{formula_of}
use Rattle.formulas.proofs.ReadLemmas.{reads-formula}
use Rattle.formulas.proofs.WrittenLemmas.{formula-written}
use Rattle.formulas.proofs.reader.read_formula.Goals as goal

pub of_parts-requires : goal.of_parts-requires
of_parts-requires c =
    let read : Some c.in-Some.parts.items ≡ formula_of c.args.text.now = rw c.in-Some.is at c.in_ok-parts.ensures in
    let written = formula-written c.args.text.now c.in-Some.parts.items (sym read) in
    record { formula = written.formula; same = written.same }

pub returns-in-Some-clause-some : goal.returns-in-Some-clause-some
returns-in-Some-clause-some c =
    let read : Some c.in-Some.parts.items ≡ formula_of c.args.text.now = rw c.in-Some.is at c.in_ok-parts.ensures in
    subst (IsWritten c.args.text.now) (sym c.of_parts.ensures) (formula-written c.args.text.now c.in-Some.parts.items (sym read))

pub returns-in-None-clause-none : goal.returns-in-None-clause-none
returns-in-None-clause-none c = λ f spelled.
    let read : None ≡ formula_of c.args.text.now = rw c.in-None.is at c.in_ok-parts.ensures in
    absurd (let e : None ≡ Some (postfix f) = read ∙ reads-formula c.args.text.now f spelled in cc)
