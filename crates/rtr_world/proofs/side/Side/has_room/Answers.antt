use Rattle.rtr_world.proofs.Words.{◌&&◌, ◌∙◌, ap, sym}
use Rattle.rtr_world.specs.History.{room_since}
use Rattle.rtr_world.proofs.Room.{reached_good, reached_known, room_held, room_made}
use Rattle.rtr_world.proofs.side.Side.has_room.Goals as goal

pub returns-then-is_near : goal.returns-then-is_near
returns-then-is_near c = λ w at r s reached found session next h.
    let held = c.held.ensures w.present s.router session h.router in
    let first = room_held w s c.held.result c.args.next.0 c.is_near.result c.is_near.ensures (reached_good w reached).present (reached_known w r s reached found).0.router.table next held in
    room_made w.present s.home c.args.self.now.made c.args.next.0 c.is_near-then-is_near.result c.is_near-then-is_near.ensures h.made next
    ∙ ap (λ b. b && room_since w.present s.home) (sym c.if-is_near.true ∙ first)

pub returns-else-is_near : goal.returns-else-is_near
returns-else-is_near c = λ w at r s reached found session next h.
    let held = c.held.ensures w.present s.router session h.router in
    let first = room_held w s c.held.result c.args.next.0 c.is_near.result c.is_near.ensures (reached_good w reached).present (reached_known w r s reached found).0.router.table next held in
    c.if-is_near.false ∙ ap (λ b. b && room_since w.present s.home) (sym c.if-is_near.false ∙ first)
