use Rattle.std.proofs.Common.{refl, sym, ap, ◌∙◌, cond}
use Rattle.status_server.proofs.AnsweringLaws.{all_so}
use Rattle.status_server.proofs.http_connections.Entry.serve.Goals as goal

pub returns-then-not-is_busy-clause-served : goal.returns-then-not-is_busy-clause-served
returns-then-not-is_busy-clause-served g c = (λ b. cc (c.is_busy.ensures, c.if-not-is_busy.true), λ b. refl)

pub returns-then-served-clause-served : goal.returns-then-served-clause-served
returns-then-served-clause-served g c =
    let answered = c.serve-served.ensures.answered in (
      λ b. record {
        token = refl;
        came = refl;
        last_sent = sym (ap (λ m. cond m c.args.now c.args.self.now.last_sent) (sym c.serve-served.ensures.sent ∙ c.if-served.true));
        calls = c.serve-served.ensures.calls;
        answered = record { calls = answered.0; more = answered.1; each = (all_so g.S.StatusSource.shows c.args.answers.now c.serve-served.new.service answered.0 answered.2).0 };
      },
      λ b. cc (c.is_busy.ensures, c.if-not-is_busy.false),
    )

pub returns-then-served-clause-keeps : goal.returns-then-served-clause-keeps
returns-then-served-clause-keeps g c =
    let answered = c.serve-served.ensures.answered in
    (all_so g.S.StatusSource.shows c.args.answers.now c.serve-served.new.service answered.0 answered.2).1

pub returns-else-served-clause-served : goal.returns-else-served-clause-served
returns-else-served-clause-served g c =
    let answered = c.serve-served.ensures.answered in (
      λ b. record {
        token = refl;
        came = refl;
        last_sent = sym (ap (λ m. cond m c.args.now c.args.self.now.last_sent) (sym c.serve-served.ensures.sent ∙ c.if-served.false));
        calls = c.serve-served.ensures.calls;
        answered = record { calls = answered.0; more = answered.1; each = (all_so g.S.StatusSource.shows c.args.answers.now c.serve-served.new.service answered.0 answered.2).0 };
      },
      λ b. cc (c.is_busy.ensures, c.if-not-is_busy.false),
    )

pub returns-else-served-clause-keeps : goal.returns-else-served-clause-keeps
returns-else-served-clause-keeps g c =
    let answered = c.serve-served.ensures.answered in
    (all_so g.S.StatusSource.shows c.args.answers.now c.serve-served.new.service answered.0 answered.2).1
