use Rattle.rtr_ends.proofs.Words.{ap, ◌∙◌, refl, CacheResponse}
use Rattle.rtr_ends.specs.Answer.{sent}
use Rattle.rtr_ends.specs.Sender.{own_session}
use Rattle.rtr_ends.proofs.SenderLaws.{due_begins, unit_ready}
use Rattle.rtr_ends.proofs.sender.Sender.begin.Goals as goal

pub returns : goal.returns
returns c = record {
  version = refl;
  sessions = refl;
  timing = refl;
  ready = refl;
  answer = c.replace-none.ensures.after;
  room = unit_ready c.args.self.now.version _ (CacheResponse c.session-session.result) (c.encode_as.ensures.unit, refl) refl c.encode_as.ensures.bytes;
  due = due_begins _ c.args.self.now.version (own_session c.args.self.now) c.args.self.now.timing c.args.records refl refl refl refl (c.encode_as.ensures.bytes ∙ ap (λ n. sent c.args.self.now.version (CacheResponse n)) c.session-session.ensures) c.replace-none.ensures.after;
}
