use Rattle.status_pages.specs.Csv.{routinator_csv_text}
use Rattle.status_pages.proofs.Written.{two}
use Rattle.status_pages.proofs.csv.write_routinator_csv.Goals as goal

pub returns : goal.returns
unfolding routinator_csv_text
returns g c = two c.write_csv_lines.result _ _ _ _ _ c.in_ok-write_all.ensures.bytes c.write_csv_lines.ensures
