-- What was read of a netlist, piece by piece, has the netlist's meaning.
use Rattle.std.proofs.Common.{refl}
use Rattle.ports.proofs.ResultLemmas.{at_ok}
use Rattle.sim_read.specs.Meaning.{netlist_of}
use Rattle.sim_read.specs.Standing.{StandsFor}
use Rattle.circuit_files.proofs.FeedingLemmas.{at_each, fed_stands, meaning-circuit, memory_no_write, read_whole, started_whole}
use Rattle.circuit_files.proofs.LowerLemmas.{netlist_of-front_of}
use Rattle.circuit_files.proofs.MeaningLemmas.{means_read}
use Rattle.circuit_files.proofs.WholeLemmas.{whole_file}
use Rattle.circuit_files.proofs.reading.read_circuit.Goals as goal

pub returns-clause-means : goal.returns-clause-means
returns-clause-means g c =
    let fed = c.in_ok-feed_file.ensures.fed in
    let stands : StandsFor c.feed_file.new.reader fed.bytes =
    fed_stands c.in_ok-reader.reader c.feed_file.new.reader fed.bytes c.in_ok-reader.ensures fed.goes_on in
    at_each c.finish.result
    (λ meaning each. means_read netlist_of netlist_of-front_of (g.F.Files.holds c.args.files.now) c.args.name.now fed.bytes fed.bytes meaning fed.front refl
    (each fed.bytes stands))
    c.finish.ensures.means

pub returns-clause-circuit : goal.returns-clause-circuit
returns-clause-circuit g c =
    let fed = c.in_ok-feed_file.ensures.fed in
    let stands : StandsFor c.feed_file.new.reader fed.bytes =
    fed_stands c.in_ok-reader.reader c.feed_file.new.reader fed.bytes c.in_ok-reader.ensures fed.goes_on in
    at_each c.finish.result (λ meaning each. meaning-circuit fed.bytes meaning (each fed.bytes stands)) c.finish.ensures.means

pub returns-clause-visible : goal.returns-clause-visible
returns-clause-visible g c =
    let fed = c.in_ok-feed_file.ensures.fed in
    let stands : StandsFor c.feed_file.new.reader fed.bytes =
    fed_stands c.in_ok-reader.reader c.feed_file.new.reader fed.bytes c.in_ok-reader.ensures fed.goes_on in
    at_each c.finish.result (λ meaning each. each fed.bytes stands) c.finish.ensures.visible

pub returns-clause-whole : goal.returns-clause-whole
returns-clause-whole g c =
    let fed = c.in_ok-feed_file.ensures.fed in
    at_ok c.finish.result
    (whole_file (g.F.Files.holds c.args.files.now) c.args.name.now fed.bytes (g.F.Files.taken c.args.files.now) (g.F.Files.taken c.feed_file.new.files)
    fed.front fed.counted)

pub returns-clause-started : goal.returns-clause-started
returns-clause-started g c =
    started_whole (g.F.Files.started c.args.files.now) (g.F.Files.started c.feed_file.new.files) c.args.name.now c.finish.result
    c.in_ok-feed_file.ensures.started

pub returns-clause-read : goal.returns-clause-read
returns-clause-read g c =
    read_whole (g.F.Files.faults c.args.files.now) (g.F.Files.faults c.feed_file.new.files) c.finish.result c.in_ok-feed_file.ensures.read
    c.finish.ensures.memory

pub returns-clause-no_write : goal.returns-clause-no_write
returns-clause-no_write g c = memory_no_write c.finish.result c.finish.ensures.memory
