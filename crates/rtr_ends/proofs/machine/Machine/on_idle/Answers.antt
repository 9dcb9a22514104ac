use Rattle.std.proofs.Common.{sym, ap, ◌∙◌}
use Rattle.rtr_ends.specs.LinkRules.{ask}
use Rattle.rtr_ends.specs.RouterLink.{Idle}
use Rattle.rtr_ends.specs.Seen.{seen}
use Rattle.rtr_ends.specs.declared.machine.State.TheVariants as states
use Rattle.rtr_ends.proofs.MachineCells.{foreign, does_so, fails_so, foreign_so, idle_news, idle_old, idle_strange, stays_so, told_so, idle_told, idle_no_data, is_code, no_code}
use Rattle.rtr_ends.proofs.machine.Machine.on_idle.Goals as goal

pub returns-then-is_other_session : goal.returns-then-is_other_session
returns-then-is_other_session c =
    fails_so c.args.unit.now states.Idle _ _ c.requires.state (λ w a held. idle_strange _ _ c.args.unit.now c.in-SerialNotify.is (seen c.args.self.now w a held) (sym c.is_other_session.ensures ∙ c.if-is_other_session.true)) c.drop_and_report.ensures

pub returns-then-is_newer : goal.returns-then-is_newer
returns-then-is_newer c =
    does_so c.args.unit.now states.Idle ask _ _ c.requires.state
    (λ w a held. idle_news _ _ c.args.unit.now c.in-SerialNotify.is (seen c.args.self.now w a held) (sym c.is_other_session.ensures ∙ c.if-is_other_session.false) (sym c.is_newer.ensures ∙ c.if-is_newer.true)) c.query.ensures

pub returns-else-is_newer : goal.returns-else-is_newer
returns-else-is_newer c =
    stays_so c.args.unit.now states.Idle _ c.requires.state
    (λ w a held. idle_old _ _ c.args.unit.now c.in-SerialNotify.is (seen c.args.self.now w a held) (sym c.is_other_session.ensures ∙ c.if-is_other_session.false) (sym c.is_newer.ensures ∙ c.if-is_newer.false))

pub returns-in-CacheResponse : goal.returns-in-CacheResponse
returns-in-CacheResponse c = foreign_so c.args.unit.now states.Idle _ _ c.requires.state (λ w a. ap (foreign Idle) c.in-CacheResponse.is) c.send_report.ensures

pub returns-in-Prefix : goal.returns-in-Prefix
returns-in-Prefix c = foreign_so c.args.unit.now states.Idle _ _ c.requires.state (λ w a. ap (foreign Idle) c.in-Prefix.is) c.send_report-in-Prefix.ensures

pub returns-in-RouterKey : goal.returns-in-RouterKey
returns-in-RouterKey c = foreign_so c.args.unit.now states.Idle _ _ c.requires.state (λ w a. ap (foreign Idle) c.in-RouterKey.is) c.send_report-in-RouterKey.ensures

pub returns-in-EndOfData : goal.returns-in-EndOfData
returns-in-EndOfData c = foreign_so c.args.unit.now states.Idle _ _ c.requires.state (λ w a. ap (foreign Idle) c.in-EndOfData.is) c.send_report-in-EndOfData.ensures

pub returns-in-EndOfData0 : goal.returns-in-EndOfData0
returns-in-EndOfData0 c = foreign_so c.args.unit.now states.Idle _ _ c.requires.state (λ w a. ap (foreign Idle) c.in-EndOfData0.is) c.send_report-in-EndOfData0.ensures

pub returns-in-CacheReset : goal.returns-in-CacheReset
returns-in-CacheReset c = foreign_so c.args.unit.now states.Idle _ _ c.requires.state (λ w a. ap (foreign Idle) c.in-CacheReset.is) c.send_report-in-CacheReset.ensures

pub returns-in-SerialQuery : goal.returns-in-SerialQuery
returns-in-SerialQuery c = foreign_so c.args.unit.now states.Idle _ _ c.requires.state (λ w a. ap (foreign Idle) c.in-SerialQuery.is) c.send_report-in-SerialQuery.ensures

pub returns-in-ResetQuery : goal.returns-in-ResetQuery
returns-in-ResetQuery c = foreign_so c.args.unit.now states.Idle _ _ c.requires.state (λ w a. ap (foreign Idle) c.in-ResetQuery.is) c.send_report-in-ResetQuery.ensures

pub returns-then-code-ne-NO_DATA_AVAILABLE : goal.returns-then-code-ne-NO_DATA_AVAILABLE
returns-then-code-ne-NO_DATA_AVAILABLE c =
    told_so c.args.unit.now states.Idle _ c.code-code.result c.requires.state
    (λ w a held. rw c.code-code.ensures (idle_told c.in-ErrorReport.report c.args.unit.now c.in-ErrorReport.is (seen c.args.self.now w a held) (no_code _ _ 2 c.code-code.ensures c.if-code-ne-NO_DATA_AVAILABLE.true)))

pub returns-else-code-ne-NO_DATA_AVAILABLE : goal.returns-else-code-ne-NO_DATA_AVAILABLE
returns-else-code-ne-NO_DATA_AVAILABLE c =
    stays_so c.args.unit.now states.Idle _ c.requires.state
    (λ w a held. idle_no_data c.in-ErrorReport.report c.args.unit.now c.in-ErrorReport.is (seen c.args.self.now w a held) (is_code _ _ 2 c.code-code.ensures c.if-code-ne-NO_DATA_AVAILABLE.false))
