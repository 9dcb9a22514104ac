use Rattle.std.proofs.Common.{◌∙◌, List, ap}
use Rattle.payloads.specs.declared.roa_entry.RoaEntry.{RoaEntry}
use Rattle.payloads.specs.RoaEntries.{is_bad_maximum}
use Rattle.payloads.specs.RoaRefusal.{roa_refusal}
use Rattle.payloads.proofs.RoaRefusals.{maxima_right}
use Rattle.payloads.proofs.roa.Roa.vrps.Goals as goal

pub vrp-requires : goal.vrp-requires
vrp-requires c =
    let entries = c.deref-entry-items.result.now in
    ap is_bad_maximum c.entry-item.is
    ∙ maxima_right entries c.loop-entry.entry-index c.entry-item.result (ap (λ (es : List RoaEntry). roa_refusal es) c.deref-entry-items.ensures.value ∙ c.self.invariant.right) c.loop-entry-test.true
