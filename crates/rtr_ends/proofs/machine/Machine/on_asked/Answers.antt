use Rattle.std.proofs.Common.{sym, ap, ◌∙◌}
use Rattle.rtr_ends.specs.RouterLink.{Asked}
use Rattle.rtr_ends.specs.Seen.{seen, seen_question}
use Rattle.rtr_ends.specs.declared.machine.State.TheVariants as states
use Rattle.rtr_ends.proofs.MachineCells.{foreign, asks_again, asked_again, asked_begins, asked_same, asked_strange, asked_told, asked_wrong, does_so, fails_so, foreign_so, reports_so, reset_refused, stays_so, told_then}
use Rattle.rtr_ends.proofs.machine.Machine.on_asked.Goals as goal

pub returns-then-is_other_session : goal.returns-then-is_other_session
returns-then-is_other_session c =
    fails_so c.args.unit.now (states.Asked c.args.question) _ _ c.requires.state
    (λ w a held. asked_strange _ _ c.args.unit.now c.in-SerialNotify.is (seen c.args.self.now w a held) (seen_question c.args.question) (sym c.is_other_session.ensures ∙ c.if-is_other_session.true)) c.drop_and_report.ensures

pub returns-else-is_other_session : goal.returns-else-is_other_session
returns-else-is_other_session c =
    stays_so c.args.unit.now (states.Asked c.args.question) _ c.requires.state
    (λ w a held. asked_same _ _ c.args.unit.now c.in-SerialNotify.is (seen c.args.self.now w a held) (seen_question c.args.question) (sym c.is_other_session.ensures ∙ c.if-is_other_session.false))

pub returns-then-answers_other_session : goal.returns-then-answers_other_session
returns-then-answers_other_session c =
    fails_so c.args.unit.now (states.Asked c.args.question) _ _ c.requires.state
    (λ w a held. asked_wrong _ c.args.unit.now c.in-CacheResponse.is (seen_question c.args.question) (seen c.args.self.now w a held) (sym c.answers_other_session.ensures ∙ c.if-answers_other_session.true)) c.drop_and_report-then-answers_other_session.ensures

pub returns-else-answers_other_session : goal.returns-else-answers_other_session
returns-else-answers_other_session c =
    does_so c.args.unit.now (states.Asked c.args.question) _ _ _ c.requires.state
    (λ w a held. asked_begins _ c.args.unit.now c.in-CacheResponse.is (seen_question c.args.question) (seen c.args.self.now w a held) (sym c.answers_other_session.ensures ∙ c.if-answers_other_session.false)) c.begin.ensures

pub returns-in-Prefix : goal.returns-in-Prefix
returns-in-Prefix c = foreign_so c.args.unit.now (states.Asked c.args.question) _ _ c.requires.state (λ w a. ap (foreign (Asked (seen_question c.args.question))) c.in-Prefix.is) c.send_report.ensures

pub returns-in-RouterKey : goal.returns-in-RouterKey
returns-in-RouterKey c = foreign_so c.args.unit.now (states.Asked c.args.question) _ _ c.requires.state (λ w a. ap (foreign (Asked (seen_question c.args.question))) c.in-RouterKey.is) c.send_report-in-RouterKey.ensures

pub returns-in-EndOfData : goal.returns-in-EndOfData
returns-in-EndOfData c = foreign_so c.args.unit.now (states.Asked c.args.question) _ _ c.requires.state (λ w a. ap (foreign (Asked (seen_question c.args.question))) c.in-EndOfData.is) c.send_report-in-EndOfData.ensures

pub returns-in-EndOfData0 : goal.returns-in-EndOfData0
returns-in-EndOfData0 c = foreign_so c.args.unit.now (states.Asked c.args.question) _ _ c.requires.state (λ w a. ap (foreign (Asked (seen_question c.args.question))) c.in-EndOfData0.is) c.send_report-in-EndOfData0.ensures

pub returns-in-SerialQuery : goal.returns-in-SerialQuery
returns-in-SerialQuery c = foreign_so c.args.unit.now (states.Asked c.args.question) _ _ c.requires.state (λ w a. ap (foreign (Asked (seen_question c.args.question))) c.in-SerialQuery.is) c.send_report-in-SerialQuery.ensures

pub returns-in-ResetQuery : goal.returns-in-ResetQuery
returns-in-ResetQuery c = foreign_so c.args.unit.now (states.Asked c.args.question) _ _ c.requires.state (λ w a. ap (foreign (Asked (seen_question c.args.question))) c.in-ResetQuery.is) c.send_report-in-ResetQuery.ensures

pub returns-in-Serial : goal.returns-in-Serial
returns-in-Serial c =
    does_so c.args.unit.now (states.Asked c.args.question) _ _ _ c.requires.state
    (λ w a held. rw c.in-Serial.is (asked_again c.args.unit.now c.in-CacheReset.is _ _ (seen c.args.self.now w a held))) (asks_again _ _ c.send_query.ensures)

pub returns-in-Reset : goal.returns-in-Reset
returns-in-Reset c =
    reports_so c.args.unit.now (states.Asked c.args.question) _ _ c.requires.state
    (λ w a held. rw c.in-Reset.is (reset_refused c.args.unit.now c.in-CacheReset.is (seen c.args.self.now w a held))) c.send_report-in-Reset.ensures

pub returns-in-ErrorReport : goal.returns-in-ErrorReport
returns-in-ErrorReport c =
    does_so c.args.unit.now (states.Asked c.args.question) _ _ _ c.requires.state
    (λ w a held. asked_told c.in-ErrorReport.report c.args.unit.now c.in-ErrorReport.is (seen_question c.args.question) (seen c.args.self.now w a held)) (told_then (seen_question c.args.question) _ _ c.args.self.now _ c.code.ensures c.on_error_report.ensures)
