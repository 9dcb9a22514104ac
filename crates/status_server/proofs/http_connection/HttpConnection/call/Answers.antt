use Rattle.std.proofs.Common.{length}
use Rattle.http_server.specs.Connection.{history}
use Rattle.status_server.proofs.CallLaws.{none_pending, reads_call}
use Rattle.status_server.proofs.http_connection.HttpConnection.call.Goals as goal

pub returns-then-wants_read-clause-call : goal.returns-then-wants_read-clause-call
returns-then-wants_read-clause-call g c =
    let read = c.read_from-read.ensures in
    let done = c.go_on-then-wants_read in
    reads_call g.T.Read.remaining g.T.Write.contents c.args.self.now done.new.self (history c.read_from-read.new.self) c.read_from-read.new.reader c.read_from-read.result
    (none_pending c.wants_write.result (length (history c.args.self.now.connection).pending) c.if-wants_write.false c.wants_write.ensures) read.ok read.err done.ensures.quiet done.ensures.stream
