use Rattle.status_pages.specs.Csv.{csv_text}
use Rattle.status_pages.proofs.Written.{two}
use Rattle.status_pages.proofs.csv.write_csv.Goals as goal

pub returns : goal.returns
unfolding csv_text
returns g c = two c.write_csv_lines.result _ _ _ _ _ c.in_ok-write_all.ensures.bytes c.write_csv_lines.ensures
