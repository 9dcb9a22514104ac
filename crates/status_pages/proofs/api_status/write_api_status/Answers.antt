use Rattle.status_pages.proofs.HealthTexts.{both}
use Rattle.status_pages.specs.ApiStatus.{IsBeginning, IsRest}
use Rattle.status_pages.proofs.api_status.write_api_status.Goals as goal

pub returns : goal.returns
returns g c =
    let s = c.args.status.now in
    both c.write_rest.result (g.W.Write.contents c.args.out.now) (g.W.Write.contents c.write_beginning.new.out) (g.W.Write.contents c.write_rest.new.out)
    (IsBeginning s.version.now c.args.serial s.now) (IsRest s) c.in_ok-write_beginning.ensures c.write_rest.ensures
