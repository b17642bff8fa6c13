-- Each line is added to what was read, and what was read at the end of the text or at a bad line decides the answer.
use Rattle.std.proofs.Common.{◌≡◌, [], true, ◌==◌, length, refl, sym, ap, ◌∙◌, arith, eqb-true}
use Rattle.std.proofs.lemmas.List.{nil_from_length}
use Rattle.linear_code.specs.Reading.{line_count}
use Rattle.linear_code.specs.Adding.{AddsLine, HasNoLine}
use Rattle.linear_code.proofs.ReadingLemmas.{IsRead, IsRead-more, line_count-more, line_count-within, listing_text-whole, one_listing, IsFirstBad-here, HasNoLine-end}
use Rattle.linear_code.proofs.reading.read_listing.Goals as goal

pub overflow_add-line : goal.overflow_add-line
overflow_add-line c =
    let within = line_count-within (line_count c.loop-rest.reader) c.args.text.now c.loop-rest.rest.now c.loop-rest.reader c.loop-rest.invariant.read refl in
    omega (arith, within, c.loop-rest.invariant.next)

pub loop-rest-preserved : goal.loop-rest-preserved
loop-rest-preserved c =
    let adds : AddsLine c.loop-rest.reader c.read_line.new.self c.loop-rest.rest.now c.in-Some.more.now = rw c.in-Some.is at c.in_ok-more.ensures in
    record {
      read = IsRead-more c.args.text.now c.loop-rest.rest.now c.in-Some.more.now c.loop-rest.reader c.read_line.new.self c.loop-rest.invariant.read adds;
      next = omega (arith, c.loop-rest.invariant.next, line_count-more c.loop-rest.reader c.read_line.new.self c.loop-rest.rest.now c.in-Some.more.now adds);
    }

pub returns-in-None-clause-refused : goal.returns-in-None-clause-refused
returns-in-None-clause-refused c =
    let rest = c.loop-rest.rest.now in
    let none : HasNoLine c.loop-rest.reader rest = rw c.in-None.is at c.in_ok-more.ensures in
    IsFirstBad-here c.args.text.now rest c.loop-rest.reader c.loop-rest.line (omega arith) c.loop-rest.invariant.read c.loop-rest.invariant.next none
    (λ nothing. absurd (let empty : c.is_empty.result ≡ true = c.is_empty.ensures ∙ ap (λ bytes. length bytes == 0) nothing in let some = c.loop-rest-test.true in cc))

pub returns-in-Some-listing-clause-ok : goal.returns-in-Some-listing-clause-ok
returns-in-Some-listing-clause-ok c =
    let nothing : c.loop-rest.rest.now ≡ [] =
    nil_from_length c.loop-rest.rest.now (eqb-true (length c.loop-rest.rest.now) 0 (sym c.is_empty.ensures ∙ c.loop-rest-test.false)) in
    let read : IsRead c.args.text.now c.loop-rest.reader [] = rw nothing at c.loop-rest.invariant.read in
    let whole : IsRead c.args.text.now c.in-Some-listing.listing [] = rw (← c.in-Some-listing.ensures.0) at read in
    listing_text-whole c.args.text.now c.in-Some-listing.listing whole c.in-Some-listing.ensures.1

pub returns-in-Some-listing-clause-only : goal.returns-in-Some-listing-clause-only
returns-in-Some-listing-clause-only c = λ other is told.
    let nothing : c.loop-rest.rest.now ≡ [] =
    nil_from_length c.loop-rest.rest.now (eqb-true (length c.loop-rest.rest.now) 0 (sym c.is_empty.ensures ∙ c.loop-rest-test.false)) in
    let read : IsRead c.args.text.now c.loop-rest.reader [] = rw nothing at c.loop-rest.invariant.read in
    let whole : IsRead c.args.text.now c.in-Some-listing.listing [] = rw (← c.in-Some-listing.ensures.0) at read in
    one_listing c.args.text.now other c.in-Some-listing.listing (omega arith) is c.in-Some-listing.ensures.1 told
    (listing_text-whole c.args.text.now c.in-Some-listing.listing whole c.in-Some-listing.ensures.1)

pub returns-in-None-listing-clause-refused : goal.returns-in-None-listing-clause-refused
returns-in-None-listing-clause-refused c =
    let nothing : c.loop-rest.rest.now ≡ [] =
    nil_from_length c.loop-rest.rest.now (eqb-true (length c.loop-rest.rest.now) 0 (sym c.is_empty.ensures ∙ c.loop-rest-test.false)) in
    let none : HasNoLine c.loop-rest.reader c.loop-rest.rest.now = rw nothing (HasNoLine-end c.loop-rest.reader) in
    IsFirstBad-here c.args.text.now c.loop-rest.rest.now c.loop-rest.reader c.loop-rest.line (omega arith) c.loop-rest.invariant.read
    c.loop-rest.invariant.next none (λ _. c.in-None-listing.ensures)
