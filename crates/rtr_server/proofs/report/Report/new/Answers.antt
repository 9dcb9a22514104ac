use Rattle.rtr_server.proofs.ReportLaws as laws
use Rattle.rtr_server.proofs.report.Report.new.Goals as goal

pub invariant_of-result : goal.invariant_of-result
invariant_of-result c = laws.text_put c.args.text.now c.copy_from_slice.new.self c.copy_from_slice.ensures.after c.requires
