use Rattle.der_lite.specs.Cursors.{der_kind_number}
use Rattle.der_lite.proofs.HeadLaws.{element_found, element_not_found}
use Rattle.der_lite.proofs.cursor.Cursor.element.Goals as goal

pub returns-in-Err : goal.returns-in-Err
returns-in-Err c = rw (← c.self.view_is) (element_not_found c.args.tag c.self.inside.at (der_kind_number c.in-Err.kind) c.self.inside.rest.now c.in-Err.ensures)

pub returns-in-Ok : goal.returns-in-Ok
returns-in-Ok c = rw (← c.self.view_is) (element_found c.args.tag c.self.inside.at c.self.inside.rest.now c.in-Ok.head c.in-Ok.ensures)
