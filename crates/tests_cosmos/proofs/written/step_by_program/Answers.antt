use Rattle.std.proofs.Common.{◌≡◌, ◌≢◌, true, false, [], length, Some, sym, ap, ◌∙◌}
use Rattle.ports.specs.HonestPorts.{HonestSinkData}
use Rattle.told_lines.specs.Printing.{Page}
use Rattle.run_ends.specs.declared.status.Status.TheVariants as status
use Rattle.tests_cosmos.proofs.WrittenLemmas.{WritesListing, writes_listing, nodes_listed, text_written, step_told}
use Rattle.tests_cosmos.proofs.written.step_by_program.Goals as goal

pub returns : goal.returns
returns g c circuit asks state =
    let memory : c.run_in_memory-status.result.0 ≢ status.NoMemory = λ same. (let says : false ≡ true = rw same at c.if-eq.ensures in cc) in
    let first : c.in_ok-out.out.page.written ≡ Some [] =
    ap (λ (page : Page). page.written) c.in_ok-out.ensures.page ∙ ap (λ (sink : HonestSinkData). Some sink.written) c.new-unwritten.ensures in
    let answered = rw first at c.run_in_memory-status.ensures.answer in
    let sent : WritesListing circuit (Some []) (Some c.run_in_memory-status.result.1.written) =
    writes_listing _ _ circuit asks _ _ _ _ c.run_in_memory-status.result.0 c.run_in_memory-status.ensures.no_read_fault
    c.run_in_memory-status.ensures.no_write_fault memory answered in
    let writes : WritesListing circuit (Some []) (Some c.written.result.now) = rw c.written.ensures sent in
    let counted : length c.args.state.now ≡ length writes.listing.entries = state.counted ∙ sym (nodes_listed circuit writes.listing writes.faithful) in
    step_told (λ next. next.items) circuit writes.listing c.args.state.now writes.faithful state.counted state.sound c.step_of_text.result
    (c.step_of_text.ensures writes.listing writes.is (text_written circuit c.written.result.now writes) counted)
