use Rattle.std.proofs.Common.{sym, ap, ◌∙◌}
use Rattle.rtr_ends.specs.RouterLink.{Answering}
use Rattle.rtr_ends.specs.Seen.{begun_with, seen, seen_question}
use Rattle.rtr_ends.specs.declared.machine.State.TheVariants as states
use Rattle.rtr_ends.proofs.MachineCells.{answering_ends, answering_ends_0, answering_key, answering_same, answering_strange, answering_told, does_so, fails_so, foreign, foreign_so, stays_so, told_now}
use Rattle.rtr_ends.proofs.machine.Machine.on_answering.Goals as goal

pub returns-then-is_other_session : goal.returns-then-is_other_session
returns-then-is_other_session c =
    fails_so c.args.unit.now (states.Answering c.args.question c.args.session) _ _ c.requires.state
    (λ w a held. answering_strange _ _ c.args.unit.now c.in-SerialNotify.is (seen c.args.self.now w a held) (begun_with c.args.question c.args.session w a) (sym c.is_other_session.ensures ∙ c.if-is_other_session.true)) c.drop_and_report.ensures

pub returns-else-is_other_session : goal.returns-else-is_other_session
returns-else-is_other_session c =
    stays_so c.args.unit.now (states.Answering c.args.question c.args.session) _ c.requires.state
    (λ w a held. answering_same _ _ c.args.unit.now c.in-SerialNotify.is (seen c.args.self.now w a held) (begun_with c.args.question c.args.session w a) (sym c.is_other_session.ensures ∙ c.if-is_other_session.false))

pub returns-in-RouterKey : goal.returns-in-RouterKey
returns-in-RouterKey c =
    stays_so c.args.unit.now (states.Answering c.args.question c.args.session) _ c.requires.state
    (λ w a held. answering_key c.in-RouterKey.field-0 c.args.unit.now c.in-RouterKey.is (begun_with c.args.question c.args.session w a) (seen c.args.self.now w a held))

pub returns-then-named-session : goal.returns-then-named-session
returns-then-named-session c =
    fails_so c.args.unit.now (states.Answering c.args.question c.args.session) _ _ c.requires.state
    (λ w a held. answering_ends c.args.question c.args.session _ _ _ _ _ c.args.unit.now c.in-EndOfData.is c.if-named-session.true w a (seen c.args.self.now w a held)) c.drop_and_report-then-named-session.ensures

pub returns-then-named-session-2 : goal.returns-then-named-session-2
returns-then-named-session-2 c =
    fails_so c.args.unit.now (states.Answering c.args.question c.args.session) _ _ c.requires.state
    (λ w a held. answering_ends_0 c.args.question c.args.session _ _ c.args.unit.now c.in-EndOfData0.is c.if-named-session-2.true w a (seen c.args.self.now w a held)) c.drop_and_report-then-named-session-2.ensures

pub returns-in-ErrorReport : goal.returns-in-ErrorReport
returns-in-ErrorReport c =
    does_so c.args.unit.now (states.Answering c.args.question c.args.session) _ _ _ c.requires.state
    (λ w a held. answering_told c.in-ErrorReport.report c.args.unit.now c.in-ErrorReport.is (begun_with c.args.question c.args.session w a) (seen c.args.self.now w a held)) (told_now (seen_question c.args.question) _ _ c.args.self.now _ c.code.ensures c.on_error_report.ensures)

pub returns-in-CacheResponse : goal.returns-in-CacheResponse
returns-in-CacheResponse c = rw c.rejects.ensures.ok (foreign_so c.args.unit.now (states.Answering c.args.question c.args.session) _ _ c.requires.state
    (λ w a. ap (foreign (Answering (begun_with c.args.question c.args.session w a))) c.in-CacheResponse.is) c.rejects.ensures.reports)

pub returns-in-CacheReset : goal.returns-in-CacheReset
returns-in-CacheReset c = rw c.rejects-in-CacheReset.ensures.ok (foreign_so c.args.unit.now (states.Answering c.args.question c.args.session) _ _ c.requires.state
    (λ w a. ap (foreign (Answering (begun_with c.args.question c.args.session w a))) c.in-CacheReset.is) c.rejects-in-CacheReset.ensures.reports)

pub returns-in-SerialQuery : goal.returns-in-SerialQuery
returns-in-SerialQuery c = rw c.rejects-in-SerialQuery.ensures.ok (foreign_so c.args.unit.now (states.Answering c.args.question c.args.session) _ _ c.requires.state
    (λ w a. ap (foreign (Answering (begun_with c.args.question c.args.session w a))) c.in-SerialQuery.is) c.rejects-in-SerialQuery.ensures.reports)

pub returns-in-ResetQuery : goal.returns-in-ResetQuery
returns-in-ResetQuery c = rw c.rejects-in-ResetQuery.ensures.ok (foreign_so c.args.unit.now (states.Answering c.args.question c.args.session) _ _ c.requires.state
    (λ w a. ap (foreign (Answering (begun_with c.args.question c.args.session w a))) c.in-ResetQuery.is) c.rejects-in-ResetQuery.ensures.reports)
