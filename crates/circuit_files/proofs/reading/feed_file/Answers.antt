use Rattle.std.proofs.Common.{◌+◌, ap, ◌∙◌}
use Rattle.line_words.specs.declared.files.TheConstants.{MOST_FILE_BYTES}
use Rattle.ports.proofs.TakenLemmas.{files_read}
use Rattle.run_ends.specs.Stops.{faults_read}
use Rattle.circuit_files.proofs.FeedingLemmas.{at_ok_of, feeds_file, started_whole, takes_none}
use Rattle.circuit_files.proofs.reading.feed_file.Goals as goal

pub returns-clause-fed : goal.returns-clause-fed
returns-clause-fed g c =
    at_ok_of c.feed_rest.result
    (feeds_file (g.F.Files.holds c.args.files.now) c.args.name.now (g.F.Files.rest c.start_file.new.files) (g.F.Files.rest c.feed_rest.new.files)
    (g.F.Files.taken c.args.files.now) (g.F.Files.taken c.start_file.new.files) (g.F.Files.taken c.feed_rest.new.files) c.args.reader.now c.feed_rest.new.reader
    c.in_ok-start_file.ensures.opens c.in_ok-start_file.ensures.opened)
    c.feed_rest.ensures.fed

pub returns-clause-started : goal.returns-clause-started
returns-clause-started g c =
    started_whole (g.F.Files.started c.args.files.now) (g.F.Files.started c.feed_rest.new.files) c.args.name.now c.feed_rest.result
    (c.feed_rest.ensures.started ∙ c.in_ok-start_file.ensures.started)

pub returns-clause-taken : goal.returns-clause-taken
returns-clause-taken g c =
    files_read (g.F.Files.taken c.args.files.now) (g.F.Files.taken c.start_file.new.files) (g.F.Files.taken c.feed_rest.new.files) (MOST_FILE_BYTES + 1)
    c.in_ok-start_file.ensures.opened c.feed_rest.ensures.taken

pub returns-clause-read : goal.returns-clause-read
returns-clause-read g c = c.feed_rest.ensures.read ∙ ap (λ n. faults_read n c.feed_rest.result) c.in_ok-start_file.ensures.read

pub returns-clause-no_write : goal.returns-clause-no_write
returns-clause-no_write g c = c.feed_rest.ensures.no_write

pub returns-in_err-start_file-clause-taken : goal.returns-in_err-start_file-clause-taken
returns-in_err-start_file-clause-taken g c =
    takes_none (g.F.Files.taken c.args.files.now) (g.F.Files.taken c.start_file.new.files) (MOST_FILE_BYTES + 1) c.in_err-start_file.ensures.taken
