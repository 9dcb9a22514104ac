use Rattle.std.proofs.Common.{sym, subst, arith}
use Rattle.rpkirtr_c.specs.Answers.{number}
use Rattle.rpkirtr_c.specs.Caches.{Opens}
use Rattle.rpkirtr_c.specs.declared.call_status.CallStatus.TheVariants.{Done, OutOfRange}
use Rattle.rpkirtr_c.proofs.CacheLaws.{closes, keeps}
use Rattle.rpkirtr_c.proofs.served_cache.ServedCache.keep.Goals as goal

pub returns-in-Err : goal.returns-in-Err
returns-in-Err c = λ empty m opening.
    subst (λ told. Opens m (number OutOfRange) told (record c.args.self.now { cache = c.close.new.self })) (sym empty)
    (closes m c.args.opened.0 c.args.self.now opening c.close.new.self (grind arith) (λ n shows. c.close.ensures n shows))

pub returns-in-Ok : goal.returns-in-Ok
returns-in-Ok c = λ empty m opening.
    subst (λ told. Opens m (number Done) told (record c.args.self.now { conns = c.insert.new.self })) (grind arith)
    (keeps m c.args.opened.0 c.args.self.now opening c.insert.new.self c.insert.ensures)
